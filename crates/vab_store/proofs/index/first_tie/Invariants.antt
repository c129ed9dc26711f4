use Rattle.std.proofs.Common.{◌≤◌, ◌+◌, length}
use Rattle.vab_store.specs.Index.{TellsTie}
use Rattle.vab_store.proofs.index.first_tie.Given as goal

abbrev pub invariant-loop-i : goal.invariant-loop-i
invariant-loop-i l = record {
  tells : TellsTie l.places l.i l.first;
  few : l.i ≤ length l.places + 1;
}
