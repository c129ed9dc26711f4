use Rattle.std.proofs.Common.{◌≡◌, ◌*◌, length}
use Rattle.vab_disk.specs.Calls.{OnlyReads}
use Rattle.vab_space.specs.Chunks.{chunks_for}
use Rattle.vab_exceptions.specs.Entries.{firsts}
use Rattle.vab_store.specs.Layout.{chunks_of, slot_at}
use Rattle.vab_scan.specs.List.{AllLie}
use Rattle.vab_scan.proofs.list.read_list.Given as goal

abbrev pub invariant-loop-page : goal.invariant-loop-page
invariant-loop-page g l = record {
  read : g.D.Disk.is_modelled
      → l.items.items ≡ firsts (slot_at l.chunk l.map (g.D.Disk.seen l.fn.d)) (256 * l.page);
  long : length l.items.items ≡ 256 * l.page;
  lie : AllLie l.chunk (chunks_of l.chunk l.map) (chunks_for l.chunk l.bound) l.items.items;
  reads : OnlyReads g.D.Disk l.fn.d l.d;
  steady : g.D.Disk.faults l.d ≡ g.D.Disk.faults l.fn.d;
}
