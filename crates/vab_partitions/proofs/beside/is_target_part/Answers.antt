use Rattle.std.proofs.Common.{◌≡◌, ◌≤◌, ◌^◌, ◌-◌, ℕ, true, false, List, length, take, ap, sym}
use Rattle.std.proofs.Common.{subst, ◌∙◌, inl, inr, arith}
use Rattle.std.specs.Prelude.{bit_and, not, IsTrue}
use Rattle.std.proofs.lemmas.Bool.{ne_eqb, eq-eqb}
use Rattle.vab_names.specs.Names.{in_slot}
use Rattle.vab_names.proofs.NameLaws.{of_slot_long}
use Rattle.vab_layout.specs.declared.layout.Part.{Part}
use Rattle.vab_layout.specs.Layout.{blocks_of_parts}
use Rattle.vab_layout.specs.Slots.{before_of, blocks_named, is_updated, other_slot, own_parts}
use Rattle.vab_layout.specs.Slots.{IsOwn}
use Rattle.vab_names.proofs.NameCases.{in_slot_is, full_short}
use Rattle.vab_partitions.proofs.PartCases.{named_small, fresh_as}
use Rattle.vab_partitions.proofs.beside.is_target_part.Goals as goal
use Rattle.vab_partitions.proofs.beside.is_target_part.Goals.{then-part-ne0, else-part-ne0}

-- the blocks of its twin
before_is : (slot : ℕ) (twins : List Part) (name twin text before : List ℕ)
    → before ≡ blocks_named text twins
    → text ≡ twin
    → twin ≡ in_slot (1 - slot) name
    → before ≡ before_of slot twins name
before_is slot twins name twin text before is same in_other =
    is ∙ ap (λ (n : List ℕ). blocks_named n twins) (same ∙ in_other)

-- they are few
before_few : (slot : ℕ) (twins : List Part) (name twin text before : List ℕ)
    → IsOwn (other_slot slot) twins
    → before ≡ blocks_named text twins
    → text ≡ twin
    → twin ≡ in_slot (1 - slot) name
    → length before ≤ 2 ^ 28
before_few slot twins name twin text before own is same in_other =
    let small =
    named_small (1 - slot) (in_slot (1 - slot) name) twins own (in_slot_is (1 - slot) name) in
    omega (arith, ap length (before_is slot twins name twin text before is same in_other), small)

pub in_slot-requires-clause-long : goal.in_slot-requires-clause-long
in_slot-requires-clause-long c =
    of_slot_long c.args.slot c.args.part.now.name c.requires.of_slot

pub begins-requires-clause-before : goal.begins-requires-clause-before
begins-requires-clause-before c =
    before_few c.args.slot c.args.twins.now c.args.part.now.name _ _ c.in_ok-before.before
    c.requires.twins c.in_ok-before.ensures c.text.ensures.value c.in_slot.ensures

pub len-requires : goal.len-requires
len-requires c =
    let few =
    before_few c.args.slot c.args.twins.now c.args.part.now.name _ _ c.in_ok-before.before
    c.requires.twins c.in_ok-before.ensures c.text.ensures.value c.in_slot.ensures in
    omega (arith, few)

pub returns-then-not-branch-2 : goal.returns-then-not-branch-2
returns-then-not-branch-2 c =
    let before =
    before_is c.args.slot c.args.twins.now c.args.part.now.name _ _ c.in_ok-before.before
    c.in_ok-before.ensures c.text.ensures.value c.in_slot.ensures in (
      λ t. absurd (let wrong : false ≡ true = t in cc),
      λ is. sym c.if-not-branch-2.true
          ∙ c.in_ok-is_fresh.ensures.1
          (fresh_as _ c.args.taken.now c.args.part.now.blocks _ c.len.result (sym c.requires.taken)
          (ap length (sym before) ∙ sym c.len.ensures) is.fresh),
    )

pub is_unchanged-requires-clause-long : goal.is_unchanged-requires-clause-long
is_unchanged-requires-clause-long c =
    of_slot_long c.args.slot c.args.part.now.name c.requires.of_slot

pub is_unchanged-requires-clause-short : goal.is_unchanged-requires-clause-short
is_unchanged-requires-clause-short c =
    full_short c.args.slot c.args.part.now.name c.requires.of_slot c.requires.own.base

pub returns : goal.returns
returns c =
    let p : Part = c.args.part.now in
    let slot = c.args.slot in
    let source = c.args.source.now in
    let twins = c.args.twins.now in
    let was : List ℕ = c.in_ok-before.before in
    let before : was ≡ before_of slot twins p.name =
    before_is slot twins p.name _ _ was c.in_ok-before.ensures c.text.ensures.value
    c.in_slot.ensures in
    let begins =
    subst (λ (l : List ℕ). take (length l) p.blocks ≡ take (length p.blocks) l) before
    (c.in_ok-begins.ensures.0 c.if-not-branch.false) in
    let fresh =
    fresh_as c.args.taken.now (blocks_of_parts (own_parts (other_slot slot) source)) p.blocks
    c.len.result (length (before_of slot twins p.name)) c.requires.taken
    (c.len.ensures ∙ ap length before)
    (c.in_ok-is_fresh.ensures.0 c.if-not-branch-2.false) in
    elim c.if-part-ne0.branch [
      | then-part-ne0 w ↦
          let updated : IsTrue (is_updated p) =
          ap not (ne_eqb (bit_and p.attributes 4) 0 w.if-part-ne0.true) in (
            λ t. record { begins = begins; fresh = fresh; kept = inl updated },
            λ is. w.result-is ∙ updated,
          )
      | else-part-ne0 w ↦
          let told = w.is_unchanged.ensures in (
            λ t.
                let kept = told.0 (sym w.result-is ∙ t) in
                record {
                  begins = begins;
                  fresh = fresh;
                  kept = inr (kept.0, kept.1 ∙ before, kept.2);
                },
            λ is. w.result-is ∙ elim is.kept [
              | inl updated ↦
                  let zero = ap not (eq-eqb (bit_and p.attributes 4) 0 w.if-part-ne0.false) in
                  absurd (let wrong : false ≡ true = sym zero ∙ updated in cc)
              | inr kept ↦ told.1 (kept.0, kept.1 ∙ sym before, kept.2)
            ],
          )
    ]
