use Rattle.std.proofs.Common.{◌≡◌, ◌-◌, length, take}
use Rattle.vab_merge.proofs.merge.drop_run.Given as goal

abbrev pub invariant-loop-i : goal.invariant-loop-i
invariant-loop-i l = l.view ≡ take (length l.fn.view - l._i) l.fn.view
