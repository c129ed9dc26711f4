use Rattle.std.proofs.lemmas.Result.{IfOk-weaker}
use Rattle.vab_names.proofs.NameCases.{full_slot}
use Rattle.vab_builder.proofs.OwnLaws.{own_long}
use Rattle.vab_builder.proofs.RoomLaws.{create_room}
use Rattle.vab_builder.proofs.create.create.Goals as goal

pub judged_name-name-requires-clause-full : goal.judged_name-name-requires-clause-full
judged_name-name-requires-clause-full c = c.requires.passes.full

pub created_blocks-requires-clause-long : goal.created_blocks-requires-clause-long
created_blocks-requires-clause-long c =
    let a = c.args in
    rw c.judged_name-name.ensures
    (own_long a.slot a.name.now (full_slot a.slot a.name.now c.requires.passes.full))

pub created_blocks-requires-clause-room : goal.created_blocks-requires-clause-room
created_blocks-requires-clause-room c =
    let a = c.args in
    rw (c.judged_name-name.ensures, c.blocks-2.ensures.is)
    (create_room a.slot a.twins.now a.source.now a.target _ _ c.requires.update
    c.requires.passes.room)

pub returns : goal.returns
returns c =
    IfOk-weaker c.with_part.result _ _
    (λ l made. rw (c.in_ok-fresh.ensures, c.blocks-2.ensures.is, c.judged_name-name.ensures) at
    made)
    c.with_part.ensures
