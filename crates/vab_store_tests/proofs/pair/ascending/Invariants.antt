use Rattle.std.proofs.Common.{◌≡◌, ◌+◌, ℕ, ◌<◌, length}
use Rattle.std.specs.Prelude.{slice_index}
use Rattle.vab_store_tests.proofs.pair.ascending.Given as goal

abbrev pub invariant-loop-i : goal.invariant-loop-i
invariant-loop-i l = record {
  long : length l.numbers.items ≡ l.i;
  are : (k : ℕ) → k < l.i → slice_index l.numbers.items k ≡ l.first + k;
}
