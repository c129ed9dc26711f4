-- Partitions that stand in the stores' group, and those that don't.
use Rattle.std.proofs.Common.{◌≡◌, ◌∙◌, inl, inr, ℕ, zero, suc, ◌<◌, true, false, List, [], ◌∷◌}
use Rattle.std.proofs.Common.{Some, None, refl, sym, ap, subst, arith}
use Rattle.std.specs.Prelude.{Bool, ◌||◌, not, All, IsTrue, Option}
use Rattle.std.specs.Str.{bytes_eq}
use Rattle.std.proofs.lemmas.Bool.{cases_Bool}
use Rattle.std.proofs.lemmas.Slice.Eq.{bytes_eq-Decides}
use Rattle.std.proofs.lemmas.List.Elements.{All-head, All-tail, All-cons, All-nil, All-weaker}
use Rattle.vab_names.specs.Names.{is_of_slot, default_name, store_group_name}
use Rattle.vab_tables.specs.declared.table.Table.{Table}
use Rattle.vab_layout.specs.declared.layout.Part.{Part}
use Rattle.vab_layout.specs.Layout.{layout_of}
use Rattle.vab_layout.specs.Slots.{own_parts, IsOwnPart}
use Rattle.vab_device.specs.Checks.{names_none}
use Rattle.vab_device.specs.Kept.{is_no_store, HasNoStores}
use Rattle.vab_device.specs.Phases.{first_store, no_store_check}

-- the stores' group is neither that of no slot nor one of a slot
store_of_none : (slot : ℕ)
    → slot < 2
    → (bytes_eq store_group_name default_name || is_of_slot slot store_group_name) ≡ false
unfolding is_of_slot
store_of_none zero below = refl
store_of_none (suc zero) below = refl
store_of_none (suc (suc n)) below = absurd (omega (arith, below))

pub no_store_group : (slot : ℕ) (group : List ℕ)
    → slot < 2
    → (bytes_eq group default_name || is_of_slot slot group) ≡ true
    → not (bytes_eq group store_group_name) ≡ true
no_store_group slot group below is = elim (cases_Bool (bytes_eq group store_group_name)) [
  | inl same ↦
      let here : (bytes_eq store_group_name default_name || is_of_slot slot store_group_name)
      ≡ true =
      subst (λ (n : List ℕ). (bytes_eq n default_name || is_of_slot slot n) ≡ true)
      ((bytes_eq-Decides group store_group_name).0 same) is in
      absurd (let no : false ≡ true = sym (store_of_none slot below) ∙ here in cc)
  | inr other ↦ ap not other
]

-- a slot's own partitions stand in other groups
pub own_no_stores : (slot : ℕ) (parts : List Part)
    → slot < 2
    → All (IsOwnPart slot) (own_parts slot parts)
    → All (λ p. IsTrue (is_no_store p)) (own_parts slot parts)
own_no_stores slot parts below own =
    All-weaker (IsOwnPart slot) (λ p. IsTrue (is_no_store p))
    (λ p of. no_store_group slot p.group below of.group) (own_parts slot parts) own

-- ---- the first of them

pub no_first_store : (parts : List Part)
    → All (λ p. IsTrue (is_no_store p)) parts
    → first_store parts ≡ None
no_first_store [] are = refl
no_first_store (p ∷ ps) are =
    let here : is_no_store p ≡ true = All-head (λ (q : Part). IsTrue (is_no_store q)) p ps are in
    rw here (no_first_store ps (All-tail (λ (q : Part). IsTrue (is_no_store q)) p ps are))

pub first_store_none : (parts : List Part)
    → first_store parts ≡ None
    → All (λ p. IsTrue (is_no_store p)) parts
first_store_none [] is = All-nil (λ (q : Part). IsTrue (is_no_store q))
first_store_none (p ∷ ps) is = elim (cases_Bool (is_no_store p)) [
  | inl here ↦
      let rest : first_store ps ≡ None = rw here at is in
      All-cons (λ (q : Part). IsTrue (is_no_store q)) p ps here (first_store_none ps rest)
  | inr not ↦
      let bad : (let x : Option (List ℕ) = Some p.name in x ≡ None) = rw not at is in
      absurd cc
]

-- ---- where the target stands apart, or doesn't

pub no_store_kept : (apart : Bool) (t : Table)
    → HasNoStores apart (layout_of t).parts
    → no_store_check apart t ≡ None
no_store_kept true t are = ap names_none (no_first_store (layout_of t).parts are)
no_store_kept false t are = refl

pub kept_no_stores : (apart : Bool) (t : Table)
    → no_store_check apart t ≡ None
    → HasNoStores apart (layout_of t).parts
kept_no_stores true t is =
    first_store_none (layout_of t).parts (names_kept (first_store (layout_of t).parts) is)
  where
    names_kept : (o : Option (List ℕ)) → names_none o ≡ None → o ≡ None
    names_kept None is = refl
    names_kept (Some name) is = absurd cc
kept_no_stores false t is = tt
