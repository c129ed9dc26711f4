use Rattle.std.proofs.Common.{◌≡◌, ℕ, ◌<◌, ◌≤◌}
use Rattle.vab_exceptions.specs.Entries.{entry_at}
use Rattle.vab_scan.proofs.clean.is_clear.Given as goal

abbrev pub invariant-loop-i : goal.invariant-loop-i
invariant-loop-i l = (k : ℕ) → l.from ≤ k → k < l.i → (entry_at l.page k).new_chunk ≡ 0
