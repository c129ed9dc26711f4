use Rattle.std.proofs.Common.{List, Bool, length, sym, arith, false}
use Rattle.std.proofs.lemmas.List.Sums.{prefix_len_is}
use Rattle.vab_store.specs.Free.{is_set}
use Rattle.vab_store.proofs.free.first_clear.Goals as goal

pub returns-then-not-flag : goal.returns-then-not-flag
returns-then-not-flag c =
    sym (prefix_len_is is_set c.args.flags.now c.loop-i.i false (omega (arith, c.loop-i-test.true))
    c.loop-i.invariant (λ below. c.if-not-flag.true))

pub returns : goal.returns
returns c =
    let flags : List Bool = c.args.flags.now in
    sym (prefix_len_is is_set flags (length flags) false (omega arith)
    (λ k below. c.loop-i.invariant k (omega (arith, below, c.loop-i-test.false)))
    (λ below. absurd (omega (arith, below))))
