-- Boot rules keep what a state has of the boot control: of a slot without images nothing.
use Rattle.std.proofs.Common.{◌≡◌, ℕ, inl, inr, Bool, true, false, eqb, [], ◌∷◌}
use Rattle.std.proofs.Common.{refl, ap}
use Rattle.std.specs.Prelude.{◌==◌, if◌then◌else◌}
use Rattle.std.proofs.lemmas.Bool.{cases_Bool}
use Rattle.vab_bootctl.specs.declared.slots.Control.{Control}
use Rattle.vab_bootctl.specs.Boot.{is_bootable, chosen_of, booted_of, activated_of, marked_of}
use Rattle.vab_model.specs.State.{control_seen}

pub seen_again : (a b : Bool) (c : Control)
    → control_seen a b (control_seen a b c) ≡ control_seen a b c
seen_again true true c = refl
seen_again true false c = refl
seen_again false true c = refl
seen_again false false c = refl

-- a slot with images is set active
pub seen_activated : (a b : Bool) (c : Control) (slot : ℕ)
    → (if slot == 0 then a else b) ≡ true
    → activated_of (control_seen a b c) slot ≡ control_seen a b (activated_of c slot)
unfolding activated_of
seen_activated true true c slot has = elim (cases_Bool (eqb slot 0)) [
  | inl h ↦ rw h refl
  | inr h ↦ rw h refl
]
seen_activated true false c slot has = elim (cases_Bool (eqb slot 0)) [
  | inl h ↦ rw h refl
  | inr h ↦ absurd (let none : false ≡ true = rw h at has in cc)
]
seen_activated false true c slot has = elim (cases_Bool (eqb slot 0)) [
  | inl h ↦ absurd (let none : false ≡ true = rw h at has in cc)
  | inr h ↦ rw h refl
]
seen_activated false false c slot has = elim (cases_Bool (eqb slot 0)) [
  | inl h ↦ absurd (let none : false ≡ true = rw h at has in cc)
  | inr h ↦ absurd (let none : false ≡ true = rw h at has in cc)
]

-- the current slot, which has images, is marked
pub seen_marked : (a b : Bool) (c : Control)
    → (if c.current == 0 then a else b) ≡ true
    → marked_of (control_seen a b c) ≡ control_seen a b (marked_of c)
unfolding marked_of
seen_marked true true c has = elim (cases_Bool (eqb c.current 0)) [
  | inl h ↦ rw h refl
  | inr h ↦ rw h refl
]
seen_marked true false c has = elim (cases_Bool (eqb c.current 0)) [
  | inl h ↦ rw h refl
  | inr h ↦ absurd (let none : false ≡ true = rw h at has in cc)
]
seen_marked false true c has = elim (cases_Bool (eqb c.current 0)) [
  | inl h ↦ absurd (let none : false ≡ true = rw h at has in cc)
  | inr h ↦ rw h refl
]
seen_marked false false c has = elim (cases_Bool (eqb c.current 0)) [
  | inl h ↦ absurd (let none : false ≡ true = rw h at has in cc)
  | inr h ↦ absurd (let none : false ≡ true = rw h at has in cc)
]

-- what is booted has images
pub seen_booted : (a b : Bool) (c : Control)
    → booted_of (control_seen a b c) (a ∷ b ∷ []) ≡ control_seen a b (booted_of c (a ∷ b ∷ []))
unfolding booted_of chosen_of
seen_booted true true c =
    elim (cases_Bool (is_bootable true c.a)) [
      | inl x ↦ elim (cases_Bool (is_bootable true c.b)) [ inl y ↦ refl | inr y ↦ refl ]
      | inr x ↦ refl
    ]
seen_booted true false c = elim (cases_Bool (is_bootable true c.a)) [
  | inl h ↦ rw h refl
  | inr h ↦ rw h refl
]
seen_booted false true c = elim (cases_Bool (is_bootable true c.b)) [
  | inl h ↦ rw h refl
  | inr h ↦ rw h refl
]
seen_booted false false c = refl

-- and the slot is the same
pub seen_booted_slot : (a b : Bool) (c : Control)
    → (booted_of (control_seen a b c) (a ∷ b ∷ [])).current ≡ (booted_of c (a ∷ b ∷ [])).current
seen_booted_slot a b c = ap (λ (k : Control). k.current) (seen_booted a b c)
