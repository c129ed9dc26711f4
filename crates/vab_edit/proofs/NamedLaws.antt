-- The first partition of a name, and what an edit leaves of those whose images were read.
use Rattle.std.proofs.Common.{◌≡◌, ◌∙◌, inl, inr, ℕ, true, false, List, [], ◌∷◌, refl, sym}
use Rattle.std.proofs.Common.{ap, subst, ◌++◌}
use Rattle.std.specs.Prelude.{Bool, Option, Some, None, Contains, if◌then◌else◌, is_some}
use Rattle.std.specs.Prelude.{option_map}
use Rattle.std.specs.Str.{bytes_eq}
use Rattle.std.proofs.lemmas.Bool.{cases_Bool, both_ways}
use Rattle.vab_names.specs.Names.{is_of_slot, store_of, base_of, suffix_of}
use Rattle.vab_names.proofs.NameLaws.{of_slot}
use Rattle.vab_layout.specs.declared.layout.Part.{Part}
use Rattle.vab_layout.specs.declared.layout.Layout.{Layout}
use Rattle.vab_layout.specs.Slots.{own_parts, blocks_named}
use Rattle.vab_builder.specs.Asked.{IsAsBefore}
use Rattle.vab_builder.specs.Sizes.{has_part}
use Rattle.vab_blocks.proofs.Contained.{first, later, of_filter}
use Rattle.vab_names.proofs.NameCases.{same_name, eq_name, ne_name, other_name}
use Rattle.vab_device.specs.Stores.{Scanned, first_named, scanned_named}

-- ---- the first of a name

pub record IsFirst (name : List ℕ) (parts : List Part) (p : Part) : Type 0 where
  pub there : has_part name parts ≡ true
  pub blocks : blocks_named name parts ≡ p.blocks
  pub named : p.name ≡ name
  pub among : Contains parts p

pub first_is : (name : List ℕ) (parts : List Part) (p : Part)
    → first_named name parts ≡ Some p
    → IsFirst name parts p
first_is name [] p h =
    absurd (let none : (let x : Option Part = None in x ≡ Some p) = h in cc)
first_is name (q ∷ qs) p h = elim (cases_Bool (bytes_eq q.name name)) [
  | inl t ↦
      let found : (let x : Option Part = Some q in x ≡ Some p) = rw t at h in
      let same : q ≡ p = cc in
      subst (IsFirst name (q ∷ qs)) same (record {
        there = rw t refl;
        blocks = rw t refl;
        named = same_name q.name name t;
        among = first q qs;
      })
  | inr f ↦
      let r = first_is name qs p (rw f at h) in
      record {
        there = rw f r.there;
        blocks = rw f r.blocks;
        named = r.named;
        among = later q qs p r.among;
      }
]

pub first_some : (name : List ℕ) (parts : List Part)
    → has_part name parts ≡ true
    → (p : Part) × (first_named name parts ≡ Some p)
first_some name [] h = absurd (both_ways false refl h)
first_some name (q ∷ qs) h = elim (cases_Bool (bytes_eq q.name name)) [
  | inl t ↦ (q, rw t refl)
  | inr f ↦ let r = first_some name qs (rw f at h) in (r.0, rw f r.1)
]

pub first_own : (slot : ℕ) (name : List ℕ) (parts : List Part)
    → is_of_slot slot name ≡ true
    → first_named name (own_parts slot parts) ≡ first_named name parts
first_own slot name [] h = refl
first_own slot name (p ∷ ps) h = elim (cases_Bool (is_of_slot slot p.name)) [
  | inl own ↦
      let rest = first_own slot name ps h in
      rw own (ap (λ (o : Option Part). if bytes_eq p.name name then Some p else o) rest)
  | inr other ↦
      let no : bytes_eq p.name name ≡ false =
      ne_name p.name name
      (λ e. both_ways (is_of_slot slot p.name) other (ap (is_of_slot slot) e ∙ h)) in
      rw (other, no) (first_own slot name ps h)
]

pub own_named : (slot : ℕ) (name : List ℕ) (parts : List Part) (p : Part)
    → first_named name (own_parts slot parts) ≡ Some p
    → is_of_slot slot name ≡ true
own_named slot name parts p h =
    let is = first_is name (own_parts slot parts) p h in
    subst (λ (x : List ℕ). is_of_slot slot x ≡ true) is.named
    (of_filter (λ (q : Part). is_of_slot slot q.name) parts p is.among).1

-- ---- names of one slot

pub base_eq : (slot : ℕ) (a b : List ℕ)
    → is_of_slot slot a ≡ true
    → is_of_slot slot b ≡ true
    → bytes_eq (base_of a) (base_of b) ≡ bytes_eq a b
base_eq slot a b oa ob = elim (cases_Bool (bytes_eq a b)) [
  | inl t ↦ eq_name (base_of a) (base_of b) (ap base_of (same_name a b t)) ∙ sym t
  | inr f ↦
      ne_name (base_of a) (base_of b)
      (λ e. other_name a b f
      (of_slot slot a oa ∙ ap (λ (x : List ℕ). x ++ suffix_of slot) e ∙ sym (of_slot slot b ob)))
      ∙ sym f
]

-- ---- a partition whose image a status names

-- The slot has a partition of this name, and that has this store; it may have none where the target
-- stands apart.
pub record HasImage (apart : Bool) (slot : ℕ) (l : Layout) (name : List ℕ) : Type 0 where
  pub part : Part
  pub store : Option Part
  pub named : first_named name (own_parts slot l.parts) ≡ Some part
  pub stored : first_named (store_of name) l.parts ≡ store
  pub placed : store ≡ None → apart ≡ true

-- it is as before, and so is its store, where it has one
pub record AreAsBefore (name : List ℕ) (old new : Layout) : Type 0 where
  pub part : IsAsBefore name old new
  pub store : IsAsBefore (store_of name) old new

-- each partition is, and so is its store, whose image was read
abbrev pub LeavesImages : List Scanned → Layout → Layout → Type 0
LeavesImages ss old new = (name : List ℕ)
    → is_some (scanned_named name ss) ≡ true
    → AreAsBefore name old new

-- the blocks of a partition, where there is one
abbrev pub blocks_of_some : Option Part → Option (List ℕ)
blocks_of_some p = option_map (λ (q : Part). q.blocks) p

-- then the partition is there still, with the same blocks, and so is its store
pub record HasStill (apart : Bool) (slot : ℕ) (new : Layout) (name : List ℕ) (part : Part)
    (store : Option Part) : Type 0 where
  pub both : HasImage apart slot new name
  pub part_blocks : both.part.blocks ≡ part.blocks
  pub store_blocks : blocks_of_some both.store ≡ blocks_of_some store

first_none : (name : List ℕ) (parts : List Part)
    → first_named name parts ≡ None
    → has_part name parts ≡ false
first_none name [] h = refl
first_none name (q ∷ qs) h = elim (cases_Bool (bytes_eq q.name name)) [
  | inl t ↦
      let bad : (let x : Option Part = Some q in x ≡ None) = rw t at h in
      absurd cc
  | inr f ↦ let rest = first_none name qs (rw f at h) in rw f rest
]

none_first : (name : List ℕ) (parts : List Part)
    → has_part name parts ≡ false
    → first_named name parts ≡ None
none_first name [] h = refl
none_first name (q ∷ qs) h = elim (cases_Bool (bytes_eq q.name name)) [
  | inl t ↦
      let bad : true ≡ false = rw t at h in
      absurd cc
  | inr f ↦ let rest = none_first name qs (rw f at h) in rw f rest
]

-- the store of this name as before, or none as before
record StoreStill (new : Layout) (name : List ℕ) (old_store : Option Part) : Type 0 where
  store : Option Part
  stored : first_named (store_of name) new.parts ≡ store
  none : store ≡ None → old_store ≡ None
  blocks : blocks_of_some store ≡ blocks_of_some old_store

store_still : (old new : Layout) (name : List ℕ) (o : Option Part)
    → IsAsBefore (store_of name) old new
    → first_named (store_of name) old.parts ≡ o
    → StoreStill new name o
store_still old new name None left stored = record {
  store = None;
  stored =
      none_first (store_of name) new.parts
      (left.there ∙ first_none (store_of name) old.parts stored);
  none = λ is. is;
  blocks = refl;
}
store_still old new name (Some q) left stored =
    let was = first_is (store_of name) old.parts q stored in
    let now = first_some (store_of name) new.parts (left.there ∙ was.there) in
    record {
      store = Some now.0;
      stored = now.1;
      none = λ is. absurd (let bad : (let x : Option Part = Some now.0 in x ≡ None) = is in cc);
      blocks =
          ap Some
          (sym (first_is (store_of name) new.parts now.0 now.1).blocks
          ∙ left.blocks
          ∙ was.blocks);
    }

pub has_still : (apart : Bool) (slot : ℕ) (old new : Layout) (name : List ℕ)
    → AreAsBefore name old new
    → (b : HasImage apart slot old name)
    → HasStill apart slot new name b.part b.store
has_still apart slot old new name left b =
    let own = own_named slot name old.parts b.part b.named in
    let was = first_is name old.parts b.part (sym (first_own slot name old.parts own) ∙ b.named) in
    let now = first_some name new.parts (left.part.there ∙ was.there) in
    let store = store_still old new name b.store left.store b.stored in
    record {
      both = record {
        part = now.0;
        store = store.store;
        named = first_own slot name new.parts own ∙ now.1;
        stored = store.stored;
        placed = λ none. b.placed (store.none none);
      };
      part_blocks =
          sym (first_is name new.parts now.0 now.1).blocks ∙ left.part.blocks ∙ was.blocks;
      store_blocks = store.blocks;
    }
