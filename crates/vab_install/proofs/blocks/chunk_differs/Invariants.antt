use Rattle.std.proofs.Common.{◌≡◌, ℕ, ◌<◌, false, unwrap_or, [], option_copied}
use Rattle.vab_disk.specs.Calls.{OnlyReads}
use Rattle.vab_space.specs.Chunks.{block_in}
use Rattle.vab_install.specs.Differing.{differs_at}
use Rattle.vab_install.proofs.blocks.chunk_differs.Given as goal

abbrev pub invariant-loop-place : goal.invariant-loop-place
invariant-loop-place g l = record {
  same : g.D.Disk.is_modelled
      → (r : ℕ)
      → r < l.place
      → block_in l.chunk l.number r < l.blocks
      → differs_at (unwrap_or (option_copied l.base) []) (g.D.Disk.seen l.fn.d) l.image
      (block_in l.chunk l.number r)
      ≡ false;
  reads : OnlyReads g.D.Disk l.fn.d l.d;
  steady : g.D.Disk.faults l.d ≡ g.D.Disk.faults l.fn.d;
}
