use Rattle.std.proofs.Common.{◌≡◌, ◌∙◌, ℕ, List, true, false, inl, ap, sym, subst, arith}
use Rattle.vab_names.specs.Names.{is_of_slot}
use Rattle.vab_names.specs.Names.{base_of, is_base}
use Rattle.std.specs.Prelude.{IsTrue}
use Rattle.vab_layout.specs.Layout.{layout_of, part_of, blocks_of_partition}
use Rattle.vab_device.specs.Kept.{sectors_of}
use Rattle.vab_plan.proofs.PartLaws.{layout_first}
use Rattle.vab_plan.proofs.PlanLaws.{first_filter, own_part, short_name}
use Rattle.vab_recover.proofs.PlanLaws.{first_none}
use Rattle.vab_recover.proofs.plan.wanted.Goals as goal

pub returns-then-not-is_of_slot-clause-none : goal.returns-then-not-is_of_slot-clause-none
returns-then-not-is_of_slot-clause-none c =
    let other : is_of_slot c.args.slot c.args.name.now ≡ false =
    ap (is_of_slot c.args.slot) (sym c.text.ensures.value)
    ∙ sym c.is_of_slot.ensures
    ∙ c.if-not-is_of_slot.true in
    inl (first_none (is_of_slot c.args.slot) c.args.name.now (layout_of c.args.table.now).parts
    other)

pub returns-in-None-clause-none : goal.returns-in-None-clause-none
returns-in-None-clause-none c =
    let own : is_of_slot c.args.slot c.args.name.now ≡ true =
    ap (is_of_slot c.args.slot) (sym c.text.ensures.value)
    ∙ sym c.is_of_slot.ensures
    ∙ c.if-not-is_of_slot.false in
    inl
    (first_filter (is_of_slot c.args.slot) c.args.name.now (layout_of c.args.table.now).parts own
    ∙ c.in-None.ensures.none)

pub store_map-requires-clause-short : goal.store_map-requires-clause-short
store_map-requires-clause-short c =
    let own : is_of_slot c.args.slot c.args.name.now ≡ true =
    ap (is_of_slot c.args.slot) (sym c.text.ensures.value)
    ∙ sym c.is_of_slot.ensures
    ∙ c.if-not-is_of_slot.false in
    let part = own_part c.args.slot c.args.table.now c.args.name.now c.in-Some.partition.now
    c.requires.target own c.in-Some.ensures.some in
    short_name c.args.slot c.args.name.now
    (subst (λ (n : List ℕ). IsTrue (is_base (base_of n))) part.1 part.0.base)

pub map-requires-clause-small : goal.map-requires-clause-small
map-requires-clause-small c =
    let own : is_of_slot c.args.slot c.args.name.now ≡ true =
    ap (is_of_slot c.args.slot) (sym c.text.ensures.value)
    ∙ sym c.is_of_slot.ensures
    ∙ c.if-not-is_of_slot.false in
    let part = own_part c.args.slot c.args.table.now c.args.name.now c.in-Some.partition.now
    c.requires.target own c.in-Some.ensures.some in
    omega (arith, part.0.size)

pub returns-in_ok-map-in-Some-2-clause-there : goal.returns-in_ok-map-in-Some-2-clause-there
returns-in_ok-map-in-Some-2-clause-there c =
    let t = c.args.table.now in
    let own : is_of_slot c.args.slot c.args.name.now ≡ true =
    ap (is_of_slot c.args.slot) (sym c.text.ensures.value)
    ∙ sym c.is_of_slot.ensures
    ∙ c.if-not-is_of_slot.false in
    record {
      part = part_of t c.in-Some.partition.now;
      named =
          first_filter (is_of_slot c.args.slot) c.args.name.now (layout_of t).parts own
          ∙ c.in-Some.ensures.some;
      base_is = c.in_ok-map-in-Some-2.ensures.blocks
          ∙ ap (λ (n : ℕ). sectors_of n (blocks_of_partition t c.in-Some.partition.now))
          (sym (layout_first t));
      stored = sym c.in_ok-store_map.ensures.store ∙ c.in-Some-2.is;
    }
