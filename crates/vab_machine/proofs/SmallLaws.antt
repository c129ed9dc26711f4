-- What follows from a small state is small.
use Rattle.std.proofs.Common.{◌≡◌, ℕ, ◌^◌, ◌≤◌, ◌<◌, Bool, true, false, List}
use Rattle.std.proofs.Common.{[]}
use Rattle.std.proofs.Common.{◌∷◌, ◌++◌, length, Option, Some, None, eqb, inl, inr}
use Rattle.std.proofs.Common.{subst}
use Rattle.std.proofs.Common.{arith, length-append, cond}
use Rattle.std.specs.Prelude.{All, map, not, is_some}
use Rattle.std.specs.List.{filter}
use Rattle.std.specs.Str.{bytes_eq}
use Rattle.std.proofs.lemmas.Bool.{cases_Bool}
use Rattle.std.proofs.lemmas.List.{length-map}
use Rattle.std.proofs.lemmas.List.Elements.{All-map, All-filter, All-weaker, All-head, All-tail}
use Rattle.std.proofs.lemmas.List.Elements.{All-push, All-nil}
use Rattle.vab_names.specs.Names.{most_partitions}
use Rattle.vab_space.specs.Space.{need_of, blocks_of}
use Rattle.vab_model.specs.declared.state.GroupLimit.{GroupLimit}
use Rattle.vab_model.specs.declared.state.Image.{Image}
use Rattle.vab_model.specs.declared.state.PlanEntry.{PlanEntry}
use Rattle.vab_model.specs.declared.state.PlanImage.TheVariants.{Declared, Written}
use Rattle.vab_model.specs.declared.state.Physical.{Physical}
use Rattle.vab_model.specs.Machine.{physical_entry}
use Rattle.vab_model.specs.Physical.{holding, physical_named, at_physical, all_blank}
use Rattle.vab_model.specs.Plans.{entry_named, at_entry, kept_entry}
use Rattle.vab_model.specs.Plans.{created_entry, resized_entry, stored_entry, written_entry}
use Rattle.vab_model.specs.Plans.{without_entry, begun_plan}
use Rattle.vab_machine.specs.Small.{AreSmallImages, AreSmallPhysical, IsSmallEntry, IsSmallImage}
use Rattle.vab_machine.specs.Small.{IsSmallPlan}

-- ---- entries

pub entry_small : (name : List ℕ) (plan : List PlanEntry) (e : PlanEntry)
    → All IsSmallEntry plan
    → entry_named name plan ≡ Some e
    → IsSmallEntry e
entry_small name [] e each is = absurd cc
entry_small name (x ∷ xs) e each is = elim (cases_Bool (bytes_eq x.name name)) [
  | inl t ↦
      let found : (let o : Option PlanEntry = Some x in o ≡ Some e) = rw t at is in
      let same : x ≡ e = cc in
      subst IsSmallEntry same (All-head IsSmallEntry x xs each)
  | inr f ↦
      let rest : entry_named name xs ≡ Some e = rw f at is in
      entry_small name xs e (All-tail IsSmallEntry x xs each) rest
]

pub resized_small : (n : ℕ) (e : PlanEntry)
    → n ≤ 2 ^ 28
    → IsSmallEntry e
    → IsSmallEntry (resized_entry n e)
resized_small n e le small = elim (cases_Bool (eqb e.blocks n)) [
  | inl t ↦ rw t small
  | inr f ↦ rw f (record { blocks = le; store = small.store; image = tt })
]

store_small : (size : ℕ) (e : PlanEntry)
    → size ≤ 2 ^ 40
    → e.blocks ≤ 2 ^ 28
    → cond (eqb size 0) (need_of e.blocks) (blocks_of size) ≤ 2 ^ 55
store_small size e le small = elim (cases_Bool (eqb size 0)) [
  | inl t ↦ rw t (omega (arith, small))
  | inr f ↦ rw f (omega (arith, le))
]

pub stored_small : (size : ℕ) (e : PlanEntry)
    → size ≤ 2 ^ 40
    → IsSmallEntry e
    → IsSmallEntry (stored_entry size e)
stored_small size e le small = record {
  blocks = small.blocks;
  store = store_small size e le small.blocks;
  image = tt;
}

pub at_entry_small : (name : List ℕ) (change : PlanEntry → PlanEntry) (plan : List PlanEntry)
    → IsSmallPlan plan
    → ((e : PlanEntry) → IsSmallEntry e → IsSmallEntry (change e))
    → IsSmallPlan (at_entry name change plan)
at_entry_small name change plan small keeps =
    let f : PlanEntry → PlanEntry = λ e. cond (bytes_eq e.name name) (change e) e in
    record {
      few = omega (arith, length-map plan f, small.few);
      each =
          All-map IsSmallEntry f plan
          (All-weaker IsSmallEntry (λ e. IsSmallEntry (f e))
          (λ e s. elim (cases_Bool (bytes_eq e.name name)) [
            | inl t ↦ rw t (keeps e s)
            | inr n ↦ rw n s
          ]) plan small.each);
    }

pub resize_small : (name : List ℕ) (size : ℕ) (plan : List PlanEntry)
    → IsSmallPlan plan
    → size ≤ 2 ^ 40
    → IsSmallPlan (at_entry name (resized_entry (blocks_of size)) plan)
resize_small name size plan small le =
    at_entry_small name (resized_entry (blocks_of size)) plan small
    (λ e s. resized_small (blocks_of size) e (omega (arith, le)) s)

pub store_plan_small : (name : List ℕ) (size : ℕ) (plan : List PlanEntry)
    → IsSmallPlan plan
    → size ≤ 2 ^ 40
    → IsSmallPlan (at_entry name (stored_entry size) plan)
store_plan_small name size plan small le =
    at_entry_small name (stored_entry size) plan small (λ e s. stored_small size e le s)

pub create_small : (groups : List GroupLimit) (name : List ℕ) (size : ℕ) (plan : List PlanEntry)
    → IsSmallPlan plan
    → size ≤ 2 ^ 40
    → length plan < most_partitions
    → IsSmallPlan (plan ++ created_entry groups name size ∷ [])
create_small groups name size plan small le few = record {
  few = omega (arith, length-append plan (created_entry groups name size ∷ []), few);
  each =
      All-push IsSmallEntry plan (created_entry groups name size) small.each
      (record { blocks = omega (arith, le); store = omega arith; image = tt });
}

filter_most : {X : Type 0} (p : X → Bool) (xs : List X) → length (filter p xs) ≤ length xs
filter_most p [] = omega arith
filter_most p (x ∷ xs) =
    let rest = filter_most p xs in
    elim (cases_Bool (p x)) [
      | inl t ↦ rw t (omega (arith, rest))
      | inr f ↦ rw f (omega (arith, rest))
    ]

pub delete_small : (name : List ℕ) (plan : List PlanEntry)
    → IsSmallPlan plan
    → IsSmallPlan (without_entry name plan)
delete_small name plan small =
    let p : PlanEntry → Bool = λ e. not (bytes_eq e.name name) in
    record {
      few = omega (arith, filter_most p plan, small.few);
      each = All-filter p IsSmallEntry plan small.each;
    }

pub write_small : (name bytes : List ℕ) (n : ℕ) (plan : List PlanEntry)
    → IsSmallPlan plan
    → length bytes ≤ 2 ^ 40
    → n ≤ 2 ^ 55
    → IsSmallPlan (at_entry name (written_entry bytes n) plan)
write_small name bytes n plan small long few =
    at_entry_small name (written_entry bytes n) plan small (λ e s. record {
      blocks = s.blocks;
      store = s.store;
      image = record { bytes_small = long; few = few };
    })

kept_small : (images : List Image)
    → AreSmallImages images
    → IsSmallPlan (map kept_entry images)
kept_small images small = record {
  few = omega (arith, length-map images kept_entry, small.few);
  each =
      All-map IsSmallEntry kept_entry images
      (All-weaker (λ (i : Image). length i.bytes ≤ 2 ^ 40)
      (λ (i : Image). IsSmallEntry (kept_entry i))
      (λ i le. record { blocks = omega (arith, le); store = omega arith; image = tt })
      images small.each);
}

no_entries : IsSmallPlan []
no_entries = record { few = omega arith; each = All-nil IsSmallEntry }

pub begin_small : (apart : Bool) (images : List Image)
    → AreSmallImages images
    → IsSmallPlan (begun_plan apart images).entries
begin_small true images small = no_entries
begin_small false images small = kept_small images small

-- ---- physical partitions

-- it has at most 2^28 blocks
abbrev pub IsLow : Physical → Type 0
IsLow p = p.blocks ≤ 2 ^ 28

pub physical_small : (name : List ℕ) (ps : List Physical) (p : Physical)
    → All IsLow ps
    → physical_named name ps ≡ Some p
    → IsLow p
physical_small name [] p each is = absurd cc
physical_small name (x ∷ xs) p each is = elim (cases_Bool (bytes_eq x.name name)) [
  | inl t ↦
      let found : (let o : Option Physical = Some x in o ≡ Some p) = rw t at is in
      let same : x ≡ p = cc in
      subst IsLow same (All-head IsLow x xs each)
  | inr f ↦
      let rest : physical_named name xs ≡ Some p = rw f at is in
      physical_small name xs p (All-tail IsLow x xs each) rest
]

written_or_not : (b : Bool) → IsSmallImage (cond b (Written [] 0) Declared)
written_or_not true = record { bytes_small = omega arith; few = omega arith }
written_or_not false = tt

pub physical_entry_small : (p : Physical) (held : Option (List ℕ))
    → p.blocks ≤ 2 ^ 28
    → IsSmallEntry (physical_entry p held)
physical_entry_small p held le = record {
  blocks = le;
  store = omega arith;
  image = written_or_not (is_some held);
}

holding_low : (slot : ℕ) (bytes : Option (List ℕ)) (p : Physical)
    → IsLow p
    → IsLow (holding slot bytes p)
holding_low slot bytes p le = elim (cases_Bool (eqb slot 0)) [
  | inl t ↦ rw t le
  | inr f ↦ rw f le
]

-- what each is made into has no more blocks
mapped_small : (f : Physical → Physical) (ps : List Physical)
    → ((p : Physical) → IsLow p → IsLow (f p))
    → AreSmallPhysical ps
    → AreSmallPhysical (map f ps)
mapped_small f ps low small = record {
  few = omega (arith, length-map ps f, small.few);
  each = All-map IsLow f ps (All-weaker IsLow (λ p. IsLow (f p)) low ps small.each);
}

pub blank_small : (slot : ℕ) (ps : List Physical)
    → AreSmallPhysical ps
    → AreSmallPhysical (all_blank slot ps)
blank_small slot ps small =
    mapped_small (holding slot None) ps (λ p le. holding_low slot None p le) small

pub held_small : (slot : ℕ) (name bytes : List ℕ) (ps : List Physical)
    → AreSmallPhysical ps
    → AreSmallPhysical (at_physical name (holding slot (Some bytes)) ps)
held_small slot name bytes ps small =
    let f : Physical → Physical =
    λ p. cond (bytes_eq p.name name) (holding slot (Some bytes) p) p in
    mapped_small f ps
    (λ p le. elim (cases_Bool (bytes_eq p.name name)) [
      | inl t ↦ rw t (holding_low slot (Some bytes) p le)
      | inr n ↦ rw n le
    ]) small
