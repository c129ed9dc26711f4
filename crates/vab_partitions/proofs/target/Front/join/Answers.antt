use Rattle.std.proofs.lemmas.Result.{IfOk-weaker}
use Rattle.vab_blocks.proofs.Distinct.{pairs_distinct}
use Rattle.vab_partitions.proofs.PartCases.{distinct_right}
use Rattle.vab_partitions.proofs.target.Front.join.Goals as goal

pub keeps_alone-requires-clause-once : goal.keeps_alone-requires-clause-once
keeps_alone-requires-clause-once c =
    let room = c.in_ok-push.ensures.room.0 c.if-not-branch.false in
    distinct_right c.args.self.now.seen c.args.part.now.blocks
    (pairs_distinct _ room.once)

pub returns-clause-joins : goal.returns-clause-joins
returns-clause-joins c =
    let room = c.in_ok-push.ensures.room.0 c.if-not-branch.false in
    IfOk-weaker c.keeps_alone.result _ _
    (λ ok told. (λ t. record { room = room; alone = told.0 t }, λ j. told.1 j.alone))
    c.keeps_alone.ensures
