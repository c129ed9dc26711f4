use Rattle.std.proofs.Common.{◌∙◌, ap, sym, subst, Ok}
use Rattle.std.proofs.lemmas.Result.{IfOk-weaker}
use Rattle.vab_layout.specs.declared.layout.Layout.{Layout}
use Rattle.vab_builder.specs.declared.edit.Edit.{Edit}
use Rattle.vab_builder.specs.Edits.{changed_beside, store_blocks}
use Rattle.vab_builder.specs.Judged.{IsGiven}
use Rattle.vab_builder.proofs.Verdicts.{created-ok, created_passes}
use Rattle.vab_builder.proofs.ResizeVerdicts.{resized-ok, resized_passes}
use Rattle.vab_builder.proofs.DeleteVerdicts.{deleted-ok, deleted_passes}
use Rattle.vab_builder.proofs.StoreVerdicts.{stored-ok, stored_passes}
use Rattle.vab_builder.proofs.EditLaws.{stored_room}
use Rattle.vab_builder.proofs.change.changed.Goals as goal

-- ---- a partition more

pub create-requires-clause-passes : goal.create-requires-clause-passes
create-requires-clause-passes c =
    let a = c.args in
    let given =
    subst (λ (e : Edit). IsGiven (changed_beside a.slot a.twins.now a.source.now a.target e))
    c.in-Create.is c.requires.passes in
    (created_passes a.slot a.twins.now a.source.now a.target c.in-Create.name.now
    c.in-Create.bytes given.0 given.1).0

pub returns-in-Create : goal.returns-in-Create
returns-in-Create c =
    let a = c.args in
    let of = λ (e : Edit). changed_beside a.slot a.twins.now a.source.now a.target e in
    let given = subst (λ (e : Edit). IsGiven (of e)) c.in-Create.is c.requires.passes in
    let passes =
    (created_passes a.slot a.twins.now a.source.now a.target c.in-Create.name.now c.in-Create.bytes
    given.0
    given.1).0 in
    IfOk-weaker c.create.result _ _
    (λ l made.
    ap of c.in-Create.is
    ∙ created-ok a.slot a.twins.now a.source.now a.target c.in-Create.name.now c.in-Create.bytes
    passes
    ∙ sym (ap (λ (l : Layout). Ok l) made))
    c.create.ensures

-- ---- another size

pub resize-requires-clause-passes : goal.resize-requires-clause-passes
resize-requires-clause-passes c =
    let a = c.args in
    let given =
    subst (λ (e : Edit). IsGiven (changed_beside a.slot a.twins.now a.source.now a.target e))
    c.in-Resize.is c.requires.passes in
    (resized_passes a.slot a.twins.now a.source.now a.target c.in-Resize.name.now
    c.in-Resize.bytes given.0 given.1).0

pub returns-in-Resize : goal.returns-in-Resize
returns-in-Resize c =
    let a = c.args in
    let of = λ (e : Edit). changed_beside a.slot a.twins.now a.source.now a.target e in
    let given = subst (λ (e : Edit). IsGiven (of e)) c.in-Resize.is c.requires.passes in
    let passes =
    (resized_passes a.slot a.twins.now a.source.now a.target c.in-Resize.name.now c.in-Resize.bytes
    given.0
    given.1).0 in
    IfOk-weaker c.resize.result _ _
    (λ l made.
    ap of c.in-Resize.is
    ∙ resized-ok a.slot a.twins.now a.source.now a.target c.in-Resize.name.now c.in-Resize.bytes
    passes
    ∙ sym (ap (λ (l : Layout). Ok l) made))
    c.resize.ensures

-- ---- a partition less

pub returns-in-Delete : goal.returns-in-Delete
returns-in-Delete c =
    let a = c.args in
    let of = λ (e : Edit). changed_beside a.slot a.twins.now a.source.now a.target e in
    let given = subst (λ (e : Edit). IsGiven (of e)) c.in-Delete.is c.requires.passes in
    let passes = (deleted_passes a.slot a.target c.in-Delete.name.now given.0 given.1).0 in
    ap of c.in-Delete.is ∙ deleted-ok a.slot a.target c.in-Delete.name.now passes
    ∙ sym (ap (λ (l : Layout). Ok l) c.delete.ensures)

-- ---- a store

pub add_store-requires-clause-full : goal.add_store-requires-clause-full
add_store-requires-clause-full c =
    let a = c.args in
    let given =
    subst (λ (e : Edit). IsGiven (changed_beside a.slot a.twins.now a.source.now a.target e))
    c.in-AddStore.is c.requires.passes in
    (stored_passes a.slot a.twins.now a.source.now a.target c.in-AddStore.name.now
    c.in-AddStore.bytes given.0 given.1).0.full

pub add_store-requires-clause-room : goal.add_store-requires-clause-room
add_store-requires-clause-room c =
    let a = c.args in
    let given =
    subst (λ (e : Edit). IsGiven (changed_beside a.slot a.twins.now a.source.now a.target e))
    c.in-AddStore.is c.requires.passes in
    let is =
    (stored_passes a.slot a.twins.now a.source.now a.target c.in-AddStore.name.now
    c.in-AddStore.bytes given.0 given.1).0 in
    stored_room a.slot a.twins.now a.source.now a.target c.in-AddStore.name.now
    (store_blocks a.target c.in-AddStore.name.now c.in-AddStore.bytes) c.requires.update is.full
    is.known is.plain is.room

pub returns-in-AddStore : goal.returns-in-AddStore
returns-in-AddStore c =
    let a = c.args in
    let of = λ (e : Edit). changed_beside a.slot a.twins.now a.source.now a.target e in
    let given = subst (λ (e : Edit). IsGiven (of e)) c.in-AddStore.is c.requires.passes in
    let is =
    (stored_passes a.slot a.twins.now a.source.now a.target c.in-AddStore.name.now
    c.in-AddStore.bytes given.0 given.1).0 in
    IfOk-weaker c.add_store.result _ _
    (λ l made. ap of c.in-AddStore.is
    ∙ stored-ok a.slot a.twins.now a.source.now a.target c.in-AddStore.name.now
    c.in-AddStore.bytes is
    ∙ sym (ap (λ (l : Layout). Ok l) made))
    c.add_store.ensures
