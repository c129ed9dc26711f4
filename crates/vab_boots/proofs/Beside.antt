-- What the physical partitions of a slot hold, where those of the other hold something else.
use Rattle.std.proofs.Common.{◌≡◌, ◌≢◌, ℕ, ◌<◌, Bool, true, false, cond, List, [], ◌∷◌, Option}
use Rattle.std.proofs.Common.{Some, None, inl, inr, eqb, refl, arith}
use Rattle.std.specs.Prelude.{map}
use Rattle.std.specs.Str.{bytes_eq}
use Rattle.std.proofs.lemmas.Bool.{cases_Bool, eqb-true, eqb-false}
use Rattle.vab_model.specs.declared.state.Physical.{Physical}
use Rattle.vab_model.specs.Physical.{held_by, holding, at_physical, all_blank}

module _ (slot other : ℕ) (below : slot < 2) (other_below : other < 2) (apart : slot ≢ other) where
  pub one_beside : (bytes : Option (List ℕ)) (p : Physical)
      → held_by slot (holding other bytes p) ≡ held_by slot p
  one_beside bytes p = elim (cases_Bool (eqb slot 0)) [
    | inl is ↦ elim (cases_Bool (eqb other 0)) [
      | inl same ↦ absurd (apart (omega (arith, eqb-true slot 0 is, eqb-true other 0 same)))
      | inr not ↦ rw (is, not) refl
    ]
    | inr b ↦ elim (cases_Bool (eqb other 0)) [
      | inl is ↦ rw (b, is) refl
      | inr not ↦
          let first : slot ≢ 0 = eqb-false slot 0 b in
          let second : other ≢ 0 = eqb-false other 0 not in
          absurd (apart (omega (arith, first, second, below, other_below)))
    ]
  ]

  pub blank_beside : (ps : List Physical)
      → map (held_by slot) (all_blank other ps) ≡ map (held_by slot) ps
  blank_beside [] = refl
  blank_beside (p ∷ ps) = rw (one_beside None p, blank_beside ps) refl

  chosen_beside : (bytes : Option (List ℕ)) (p : Physical) (b : Bool)
      → held_by slot (cond b (holding other bytes p) p) ≡ held_by slot p
  chosen_beside bytes p true = one_beside bytes p
  chosen_beside bytes p false = refl

  pub at_beside : (name : List ℕ) (bytes : Option (List ℕ)) (ps : List Physical)
      → map (held_by slot) (at_physical name (holding other bytes) ps) ≡ map (held_by slot) ps
  at_beside name bytes [] = refl
  at_beside name bytes (p ∷ ps) =
      rw (chosen_beside bytes p (bytes_eq p.name name), at_beside name bytes ps) refl

pub held_beside : (slot other : ℕ) (name bytes : List ℕ)
    → slot < 2
    → other < 2
    → slot ≢ other
    → (ps : List Physical)
    → map (held_by slot) (at_physical name (holding other (Some bytes)) ps)
    ≡ map (held_by slot) ps
held_beside slot other name bytes below other_below apart =
    at_beside slot other below other_below apart name (Some bytes)
