use Rattle.std.proofs.Common.{◌≡◌, Bool, true, false, ap, subst, sym, ◌∙◌}
use Rattle.std.specs.Prelude.{◌↔◌, IsTrue, MatchBool}
use Rattle.std.proofs.lemmas.Result.{IfOk-weaker}
use Rattle.vab_names.specs.Names.{is_of_slot}
use Rattle.vab_layout.specs.Slots.{IsOwnPart, IsTargetPartBeside, IsStorePart}
use Rattle.vab_partitions.proofs.beside.keeps_alone.Goals as goal

pub returns-then-not-is_of_slot : goal.returns-then-not-is_of_slot
returns-then-not-is_of_slot c =
    let a = c.args in
    let p = a.part.now in
    let other : is_of_slot a.slot p.name ≡ false =
    ap (is_of_slot a.slot) (sym c.text.ensures.value) ∙ sym c.is_of_slot.ensures
    ∙ c.if-not-is_of_slot.true in
    IfOk-weaker c.is_store_part.result _ _
    (λ ok told.
    subst (λ (b : Bool). IsTrue ok
    ↔ MatchBool b (IsOwnPart a.slot p × IsTargetPartBeside a.slot a.twins.now a.source.now
    a.target.now p)
    (IsStorePart a.slot a.source.now a.target.now p)) (sym other) told)
    c.is_store_part.ensures

pub returns : goal.returns
returns c =
    let a = c.args in
    let p = a.part.now in
    let own : is_of_slot a.slot p.name ≡ true =
    ap (is_of_slot a.slot) (sym c.text.ensures.value) ∙ sym c.is_of_slot.ensures
    ∙ c.if-not-is_of_slot.false in
    let rules : IsOwnPart a.slot p = c.is_own_part.ensures.0 c.if-not-is_own_part.false in
    IfOk-weaker c.is_target_part.result _ _
    (λ ok told.
    subst (λ (b : Bool). IsTrue ok
    ↔ MatchBool b (IsOwnPart a.slot p × IsTargetPartBeside a.slot a.twins.now a.source.now
    a.target.now p)
    (IsStorePart a.slot a.source.now a.target.now p)) (sym own)
    (λ t. (rules, told.0 t), λ both. told.1 both.1))
    c.is_target_part.ensures
