use Rattle.std.proofs.Common.{ℕ, ◌+◌, ◌*◌, ◌<◌, ◌≤◌, ◌^◌, length}
use Rattle.std.specs.Prelude.{slice_index}
use Rattle.store_bench.proofs.Shape.olds.Given as goal

abbrev pub invariant-loop-i : goal.invariant-loop-i
invariant-loop-i l = record {
  ascends : (k : ℕ) → k + 1 < length l.olds.items
      → slice_index l.olds.items k < slice_index l.olds.items (k + 1);
  below : (k : ℕ) → k < length l.olds.items → slice_index l.olds.items k < l.next;
  small : l.next ≤ 2 ^ 20 * l._i;
}
