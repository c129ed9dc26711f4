use Rattle.std.proofs.Common.{◌≡◌, ◌++◌}
use Rattle.vab_gen.specs.Blocks.{copies}
use Rattle.vab_gen.proofs.bytes.put_copies.Given as goal

abbrev pub invariant-loop : goal.invariant-loop
invariant-loop l = l.out.items ≡ l.initial.out.items ++ copies l.counter l.bytes
