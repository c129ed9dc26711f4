use Rattle.std.proofs.Common.{inl, inr, arith}
use Rattle.vab_make.proofs.RefusalLaws.{refuses_small, refuses_limit, refuses_room, not_over}
use Rattle.vab_make.proofs.checks.check_sizes.Goals as goal
use Rattle.vab_make.proofs.checks.check_sizes.Goals.{else-limit-ne0-via-then-limit-ne0+else-limit-used}
use Rattle.vab_make.proofs.checks.check_sizes.Goals.{else-limit-ne0-via-else-limit-ne0}

pub returns-then-sectors-lt-LEAST-clause-refused : goal.returns-then-sectors-lt-LEAST-clause-refused
returns-then-sectors-lt-LEAST-clause-refused c = λ max.
    refuses_small c.args.set.now c.args.limit max c.args.sectors (omega arith)

pub returns-then-limit-used-clause-refused : goal.returns-then-limit-used-clause-refused
returns-then-limit-used-clause-refused c = λ max.
    refuses_limit c.args.set.now c.args.limit max c.args.sectors c.set_blocks-used.result
    (omega arith) c.set_blocks-used.ensures.blocks c.if-limit-ne0.true (omega arith)

pub returns-then-cap-used-clause-refused : goal.returns-then-cap-used-clause-refused
returns-then-cap-used-clause-refused c = λ max.
    refuses_room c.args.set.now c.args.limit max c.args.sectors c.set_blocks-used.result
    c.capacity-cap.result (omega arith) c.set_blocks-used.ensures.blocks c.capacity-cap.ensures
    (not_over c.args.set.now c.args.limit (elim c.else-limit-ne0.branch [
      | else-limit-ne0-via-then-limit-ne0+else-limit-used w ↦
          inr (omega (arith, w.if-limit-used.false, c.set_blocks-used.ensures.blocks))
      | else-limit-ne0-via-else-limit-ne0 w ↦ inl w.if-limit-ne0.false
    ]))
    (omega arith)
