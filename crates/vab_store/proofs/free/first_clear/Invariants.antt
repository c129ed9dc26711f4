use Rattle.std.proofs.Common.{◌≡◌, ℕ, ◌<◌, true}
use Rattle.vab_store.specs.Free.{flag_at}
use Rattle.vab_store.proofs.free.first_clear.Given as goal

abbrev pub invariant-loop-i : goal.invariant-loop-i
invariant-loop-i l = (k : ℕ) → k < l.i → flag_at l.flags k ≡ true
