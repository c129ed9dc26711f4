use Rattle.std.proofs.Common.{◌≡◌, ◌≤◌, length}
use Rattle.vab_space.specs.Differing.{chunk_differs}
use Rattle.vab_space.proofs.DifferingLaws.{passing}
use Rattle.vab_model.specs.Staged.{differs}
use Rattle.vab_machine.proofs.staged.differences.Given as goal

abbrev pub invariant-loop-c : goal.invariant-loop-c
invariant-loop-c l = record {
  exact :
      l.count
      ≡ length (passing (chunk_differs l.chunk (differs l.source l.image) l.blocks) l.c);
  most : l.count ≤ l.c;
}
