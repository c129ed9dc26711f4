-- Laws of partitions by their names.
use Rattle.std.proofs.Common.{◌≡◌, ◌≢◌, ℕ, Bool, true, false, ◌||◌, cond, List, [], ◌∷◌, ◌++◌, refl}
use Rattle.std.proofs.Common.{sym, ap, subst, ◌∙◌, ◌⊎◌, inl, inr}
use Rattle.std.specs.Prelude.{Contains}
use Rattle.std.specs.Str.{bytes_eq}
use Rattle.std.proofs.lemmas.Bool.{cases_Bool, or_parts, or_cases, both_ways}
use Rattle.std.proofs.lemmas.List.Elements.{All-contains}
use Rattle.vab_names.specs.Names.{is_of_slot}
use Rattle.vab_tables.specs.Rules.{NamesDiffer}
use Rattle.vab_layout.specs.declared.layout.Part.{Part}
use Rattle.vab_layout.specs.Layout.{blocks_of_parts}
use Rattle.vab_layout.specs.Slots.{own_parts, blocks_named, IsDistinct}
use Rattle.vab_builder.specs.Sizes.{has_part}
use Rattle.vab_builder.proofs.Counting.{pairs_head}
use Rattle.vab_blocks.proofs.Contained.{cons_cases, later, first, none_in_nil}
use Rattle.vab_builder.proofs.Counting.{pairs_tail, pairs_right, Apart, apart_parts}
use Rattle.vab_blocks.proofs.Contained.{in_piece}
use Rattle.vab_names.proofs.NameCases.{same_name, eq_name, ne_name, other_name}

pub same_entry : {E : Type 0} (name : E → List ℕ) (xs : List E) (x y : E) → NamesDiffer name xs
    → Contains xs x → Contains xs y → name x ≡ name y → x ≡ y
same_entry name [] x y differ c d e = absurd (none_in_nil x c)
same_entry name (z ∷ xs) x y differ c d e =
    let head = pairs_head (λ a b. name a ≢ name b) z xs differ in
    elim (cons_cases z xs x c) [
      | inl zx ↦ elim (cons_cases z xs y d) [
        | inl zy ↦ sym zx ∙ zy
        | inr iny ↦ absurd (All-contains (λ b. name z ≢ name b) xs y head iny (ap name zx ∙ e))
      ]
      | inr inx ↦ elim (cons_cases z xs y d) [
        | inl zy ↦ absurd (All-contains (λ b. name z ≢ name b) xs x head inx (ap name zy ∙ sym e))
        | inr iny ↦
            same_entry name xs x y (pairs_tail (λ a b. name a ≢ name b) z xs differ) inx iny e
      ]
    ]

-- ---- whether there is a partition

pub part_there : (name : List ℕ) (parts : List Part) → has_part name parts ≡ true
    → (p : Part) × Contains parts p × (p.name ≡ name)
part_there name [] h = absurd (both_ways _ refl h)
part_there name (p ∷ ps) h = elim (or_cases (bytes_eq p.name name) (has_part name ps) h) [
  | inl e ↦ (p, first p ps, same_name p.name name e)
  | inr t ↦ let r = part_there name ps t in (r.0, later p ps r.0 r.1, r.2)
]

pub part_absent : (name : List ℕ) (parts : List Part) (p : Part) → has_part name parts ≡ false
    → Contains parts p → p.name ≡ name → ⊥
part_absent name [] p h c e = none_in_nil p c
part_absent name (q ∷ ps) p h c e =
    let parts = or_parts (bytes_eq q.name name) (has_part name ps) h in
    elim (cons_cases q ps p c) [
      | inl qp ↦ other_name q.name name parts.0 (ap (λ (x : Part). x.name) qp ∙ e)
      | inr d ↦ part_absent name ps p parts.1 d e
    ]

pub has_own : (slot : ℕ) (name : List ℕ) (parts : List Part) → is_of_slot slot name ≡ true
    → has_part name (own_parts slot parts) ≡ has_part name parts
has_own slot name [] h = refl
has_own slot name (p ∷ ps) h = elim (cases_Bool (is_of_slot slot p.name)) [
  | inl own ↦ rw own (ap (λ (b : Bool). bytes_eq p.name name || b) (has_own slot name ps h))
  | inr other ↦
      let no : bytes_eq p.name name ≡ false =
      ne_name p.name name
      (λ e. both_ways (is_of_slot slot p.name) other (ap (is_of_slot slot) e ∙ h)) in
      rw (other, no) (has_own slot name ps h)
]

-- ---- the blocks of a partition

pub named_cases : (name : List ℕ) (parts : List Part)
    → (blocks_named name parts ≡ [])
    ⊎ ((p : Part) × Contains parts p × (p.name ≡ name) × (blocks_named name parts ≡ p.blocks))
named_cases name [] = inl refl
named_cases name (p ∷ ps) = elim (cases_Bool (bytes_eq p.name name)) [
  | inl e ↦ rw e (inr (p, first p ps, same_name p.name name e, refl))
  | inr ne ↦ rw ne (elim (named_cases name ps) [
    | inl none ↦ inl none
    | inr r ↦ inr (r.0, later p ps r.0 r.1, r.2, r.3)
  ])
]

pub named_none : (name : List ℕ) (parts : List Part) → has_part name parts ≡ false
    → blocks_named name parts ≡ []
named_none name parts h = elim (named_cases name parts) [
  | inl none ↦ none
  | inr r ↦ absurd (part_absent name parts r.0 h r.1 r.2)
]

pub named_is : (name : List ℕ) (parts : List Part) (p : Part) → NamesDiffer (λ q. q.name) parts
    → Contains parts p → p.name ≡ name → blocks_named name parts ≡ p.blocks
named_is name [] p differ c e = absurd (none_in_nil p c)
named_is name (q ∷ ps) p differ c e = elim (cons_cases q ps p c) [
  | inl qp ↦
      let yes : bytes_eq q.name name ≡ true =
      eq_name q.name name (ap (λ (x : Part). x.name) qp ∙ e) in
      rw yes (ap (λ (x : Part). x.blocks) qp)
  | inr d ↦
      let head = pairs_head (λ a b. a.name ≢ b.name) q ps differ in
      let no : bytes_eq q.name name ≡ false =
      ne_name q.name name (λ qn. All-contains (λ b. q.name ≢ b.name) ps p head d (qn ∙ sym e))
      in
      rw no (named_is name ps p (pairs_tail (λ a b. a.name ≢ b.name) q ps differ) d e)
]

pub named_own : (slot : ℕ) (name : List ℕ) (parts : List Part) → is_of_slot slot name ≡ true
    → blocks_named name (own_parts slot parts) ≡ blocks_named name parts
named_own slot name [] h = refl
named_own slot name (p ∷ ps) h = elim (cases_Bool (is_of_slot slot p.name)) [
  | inl own ↦
      rw own (ap (λ (l : List ℕ). cond (bytes_eq p.name name) p.blocks l)
      (named_own slot name ps h))
  | inr other ↦
      let no : bytes_eq p.name name ≡ false =
      ne_name p.name name
      (λ e. both_ways (is_of_slot slot p.name) other (ap (is_of_slot slot) e ∙ h)) in
      rw (other, no) (named_own slot name ps h)
]

-- the blocks of a name are blocks of the partitions
pub named_listed : (name : List ℕ) (parts : List Part) (b : ℕ)
    → Contains (blocks_named name parts) b → Contains (blocks_of_parts parts) b
named_listed name parts b c = elim (named_cases name parts) [
  | inl none ↦ absurd (none_in_nil b (subst (λ (l : List ℕ). Contains l b) none c))
  | inr r ↦ in_piece (λ p. p.blocks) parts r.0 b r.1 (subst (λ (l : List ℕ). Contains l b) r.3 c)
]

pairs_rest : (p : Part) (ps : List Part) → IsDistinct (p.blocks ++ blocks_of_parts ps)
    → IsDistinct (blocks_of_parts ps)
pairs_rest p ps once = pairs_right (λ a b. a ≢ b) p.blocks (blocks_of_parts ps) once

-- two names have no block together
pub names_apart : (m n : List ℕ) (parts : List Part) → (m ≡ n → ⊥)
    → IsDistinct (blocks_of_parts parts) → Apart (blocks_named m parts) (blocks_named n parts)
names_apart m n [] ne once = λ b c d. none_in_nil b c
names_apart m n (p ∷ ps) ne once =
    let across = apart_parts p.blocks (blocks_of_parts ps) once in
    let rest = names_apart m n ps ne (pairs_rest p ps once) in
    elim (cases_Bool (bytes_eq p.name m)) [
      | inl pm ↦
          let no : bytes_eq p.name n ≡ false =
          ne_name p.name n (λ e. ne (sym (same_name p.name m pm) ∙ e)) in
          rw (pm, no) (λ b c d. across b c (named_listed n ps b d))
      | inr other ↦ elim (cases_Bool (bytes_eq p.name n)) [
        | inl pn ↦ rw (other, pn) (λ b c d. across b d (named_listed m ps b c))
        | inr also ↦ rw (other, also) rest
      ]
    ]
