use Rattle.std.proofs.Common.{◌+◌, ◌*◌, ◌-◌, ◌^◌, ℕ, ◌≤◌, ◌<◌, length}
use Rattle.vab_store.specs.Index.{place_at}
use Rattle.vab_store.proofs.index.place_of.Given as goal

abbrev pub invariant-loop-low : goal.invariant-loop-low
invariant-loop-low g l = record {
  order : l.low ≤ l.high;
  within : l.high ≤ length l.index;
  below : (i : ℕ) → i < l.low → (place_at l.index i).key < l.key;
  above : (i : ℕ) → l.high ≤ i → i < length l.index → l.key < (place_at l.index i).key;
  grows : l.initial.steps ≤ l.steps;
  halves : 2 ^ (l.steps - l.initial.steps) * (l.high - l.low) ≤ length l.index;
  cost : 2 ^ (l.steps - l.initial.steps) ≤ 2 * length l.index + 1;
}

abbrev pub decreases-loop-low : goal.decreases-loop-low
decreases-loop-low g l = l.high - l.low
