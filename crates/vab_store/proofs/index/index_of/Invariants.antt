use Rattle.std.proofs.Common.{◌≢◌, ℕ, ◌≤◌, ◌<◌, length}
use Rattle.vab_store.specs.Index.{place_at}
use Rattle.vab_store.proofs.index.index_of.Given as goal

abbrev pub invariant-loop-i : goal.invariant-loop-i
invariant-loop-i l = record {
  within : l.i ≤ length l.index;
  none : (k : ℕ) → l.i ≤ k → k < length l.index → (place_at l.index k).at ≢ l.at;
}

abbrev pub decreases-loop-i : goal.decreases-loop-i
decreases-loop-i l = l.i
