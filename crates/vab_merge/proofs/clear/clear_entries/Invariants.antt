use Rattle.std.proofs.Common.{◌≡◌, ◌*◌, ℕ, ◌<◌, ◌≤◌}
use Rattle.vab_disk.specs.Calls.{Touches}
use Rattle.vab_store.specs.Sectors.{page_sector}
use Rattle.vab_merge.specs.Cleared.{IsClearing, IsClearedAt, IsOfThem}
use Rattle.vab_merge.proofs.clear.clear_entries.Given as goal

abbrev pub invariant-loop-i : goal.invariant-loop-i
invariant-loop-i g l = record {
  done : g.D.Disk.is_modelled
      → (i : ℕ)
      → IsOfThem l.first l.end i
      → i < l.i
      → IsClearedAt l.first l.end i
      (g.D.Disk.seen l.fn.d (page_sector l.chunk l.store i))
      (g.D.Disk.seen l.d (page_sector l.chunk l.store i));
  left : g.D.Disk.is_modelled
      → (i : ℕ)
      → l.i ≤ i
      → 32 * i < l.end
      → g.D.Disk.seen l.d (page_sector l.chunk l.store i)
      ≡ g.D.Disk.seen l.fn.d (page_sector l.chunk l.store i);
  touches : Touches g.D.Disk
      (IsClearing l.chunk l.store l.first l.end (g.D.Disk.seen l.fn.d)) l.fn.d l.d;
  steady : g.D.Disk.faults l.d ≡ g.D.Disk.faults l.fn.d;
}
