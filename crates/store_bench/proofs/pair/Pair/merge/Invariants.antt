use Rattle.std.proofs.Common.{◌+◌, ◌*◌, ◌≤◌}
use Rattle.vab_store.specs.View.{Fits}
use Rattle.store_bench.proofs.pair.Pair.merge.Given as goal

abbrev pub invariant-loop-runs : goal.invariant-loop-runs
invariant-loop-runs g l = record {
  fits : Fits l.self.chunk l.self.blocks l.self.store l.view;
  on_disk : 8 * (l.self.blocks + l.self.room) ≤ g.D.Disk.size l.d;
}
