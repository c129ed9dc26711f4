use Rattle.std.proofs.Common.{◌≡◌, ◌∙◌, ℕ, List, Bool, true, false, Option, Some, None}
use Rattle.std.proofs.Common.{refl, sym, ap, subst}
use Rattle.std.specs.Prelude.{IsTrue, IfSome, IfNone, is_some, not}
use Rattle.vab_names.specs.Names.{is_of_slot, base_of, is_base, store_of}
use Rattle.vab_layout.specs.declared.layout.Part.{Part as PartOfLayout}
use Rattle.vab_layout.specs.Layout.{layout_of, part_of}
use Rattle.vab_device.specs.Stores.{first_named}
use Rattle.vab_plan.proofs.PlanLaws.{first_filter, own_part, short_name}
use Rattle.vab_recover.specs.Scans.{is_placed}
use Rattle.vab_recover.proofs.PlanLaws.{first_none}
use Rattle.vab_recover.proofs.plan.is_placed.Goals as goal

pub returns-then-not-is_of_slot : goal.returns-then-not-is_of_slot
returns-then-not-is_of_slot c =
    let parts = (layout_of c.args.table.now).parts in
    let other : is_of_slot c.args.slot c.args.name.now ≡ false =
    ap (is_of_slot c.args.slot) (sym c.text.ensures.value)
    ∙ sym c.is_of_slot.ensures
    ∙ c.if-not-is_of_slot.true in
    ap (λ (o : Option PartOfLayout). is_placed o (first_named (store_of c.args.name.now) parts))
    (sym (first_none (is_of_slot c.args.slot) c.args.name.now parts other))

pub store_of-requires : goal.store_of-requires
store_of-requires c =
    let own : is_of_slot c.args.slot c.args.name.now ≡ true =
    ap (is_of_slot c.args.slot) (sym c.text.ensures.value)
    ∙ sym c.is_of_slot.ensures
    ∙ c.if-not-is_of_slot.false in
    let part = own_part c.args.slot c.args.table.now c.args.name.now c.in-Some.field-0.now
    c.requires.target own c.in-Some.ensures.some in
    short_name c.args.slot c.args.name.now
    (subst (λ (n : List ℕ). IsTrue (is_base (base_of n))) part.1 part.0.base)

pub returns-in-None : goal.returns-in-None
returns-in-None c =
    let parts = (layout_of c.args.table.now).parts in
    let own : is_of_slot c.args.slot c.args.name.now ≡ true =
    ap (is_of_slot c.args.slot) (sym c.text.ensures.value)
    ∙ sym c.is_of_slot.ensures
    ∙ c.if-not-is_of_slot.false in
    ap (λ (o : Option PartOfLayout). is_placed o (first_named (store_of c.args.name.now) parts))
    (sym (first_filter (is_of_slot c.args.slot) c.args.name.now parts own
    ∙ c.in-None.ensures.none))

pub returns-in-Some : goal.returns-in-Some
returns-in-Some c =
    let parts = (layout_of c.args.table.now).parts in
    let own : is_of_slot c.args.slot c.args.name.now ≡ true =
    ap (is_of_slot c.args.slot) (sym c.text.ensures.value)
    ∙ sym c.is_of_slot.ensures
    ∙ c.if-not-is_of_slot.false in
    let here = first_filter (is_of_slot c.args.slot) c.args.name.now parts own
    ∙ c.in-Some.ensures.some in
    by_store c.named-in-Some.result (λ p. part_of c.args.table.now p.now) c.is_none.result
    (first_named c.store_of.result parts)
    (part_of c.args.table.now c.in-Some.field-0.now)
    c.is_none.ensures c.named-in-Some.ensures.some c.named-in-Some.ensures.none
    ∙ ap
    (λ (n : List ℕ).
    is_placed (Some (part_of c.args.table.now c.in-Some.field-0.now)) (first_named n parts))
    c.store_of.ensures
    ∙ ap (λ (o : Option PartOfLayout). is_placed o (first_named (store_of c.args.name.now) parts))
    (sym here)
  where
    by_store : {A : Type 0} (o : Option A) (f : A → PartOfLayout) (none : Bool)
        (x : Option PartOfLayout) (own : PartOfLayout)
        → is_some o ≡ not none
        → IfSome o (λ p. x ≡ Some (f p))
        → IfNone o (x ≡ None)
        → none ≡ is_placed (Some own) x
    by_store None f true x own is found lost = rw lost refl
    by_store None f false x own is found lost = absurd cc
    by_store (Some p) f true x own is found lost = absurd cc
    by_store (Some p) f false x own is found lost = rw found refl
