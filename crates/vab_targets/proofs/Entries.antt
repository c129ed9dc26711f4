-- The entries of a table's partitions, before and after an edit of the table.
use Rattle.std.proofs.Common.{◌≡◌, ◌≢◌, ◌∙◌, inl, inr, ℕ, Bool, true, false, cond, List, [], ◌∷◌}
use Rattle.std.proofs.Common.{length, refl, sym, ap}
use Rattle.std.specs.Prelude.{Option, Some, None, Contains, map, option_map}
use Rattle.std.specs.List.{filter}
use Rattle.std.specs.Str.{bytes_eq}
use Rattle.std.proofs.lemmas.Bool.{cases_Bool}
use Rattle.vab_names.specs.Names.{is_of_slot, base_of, store_of}
use Rattle.vab_names.proofs.NameCases.{store_not_own, store_of_same}
use Rattle.vab_layout.specs.declared.layout.Part.{Part}
use Rattle.vab_layout.specs.declared.layout.Layout.{Layout}
use Rattle.vab_layout.specs.Slots.{own_parts, blocks_named, is_updated}
use Rattle.vab_blocks.proofs.Contained.{first, later, of_filter}
use Rattle.vab_builder.specs.Asked.{IsAsBefore}
use Rattle.vab_builder.specs.Sizes.{has_part}
use Rattle.vab_model.specs.declared.state.PlanEntry.{PlanEntry}
use Rattle.vab_model.specs.Plans.{entry_named}
use Rattle.vab_device.specs.Kept.{group_of, sectors_of}
use Rattle.vab_device.specs.Stores.{first_named}
use Rattle.vab_device.specs.Updates.{image_or, written_of, entry_by}
use Rattle.vab_device.proofs.OwnParts.{length-sectors_of}
use Rattle.vab_edit.proofs.PlanLaws.{map_among, map_map}

-- ---- lists

-- of a list with other elements
pub map_changed : {X Y : Type 0} (f g : X → Y) (c : X → X) (h : Y → Y) (xs : List X)
    → ((x : X) → Contains xs x → f (c x) ≡ h (g x))
    → map f (map c xs) ≡ map h (map g xs)
map_changed f g c h xs same =
    map_map c f xs
    ∙ map_among (λ x. f (c x)) (λ x. h (g x)) xs same
    ∙ sym (map_map g h xs)

-- of a list with fewer elements
pub map_fewer : {X Y : Type 0} (f g : X → Y) (p : X → Bool) (q : Y → Bool) (xs : List X)
    → ((x : X) → Contains xs x → p x ≡ q (g x))
    → ((x : X) → Contains xs x → f x ≡ g x)
    → map f (filter p xs) ≡ filter q (map g xs)
map_fewer f g p q [] passes same = refl
map_fewer f g p q (x ∷ xs) passes same =
    let test = passes x (first x xs) in
    let here = same x (first x xs) in
    let rest = map_fewer f g p q xs (λ y c. passes y (later x xs y c))
    (λ y c. same y (later x xs y c)) in
    elim (cases_Bool (p x)) [
      | inl t ↦
          let kept : q (g x) ≡ true = sym test ∙ t in
          rw (t, kept) (λ i. here i ∷ rest i)
      | inr f ↦
          let out : q (g x) ≡ false = sym test ∙ f in
          rw (f, out) rest
    ]

-- of two tests the order is the same
pub filter_swap : {X : Type 0} (p q : X → Bool) (xs : List X)
    → filter p (filter q xs) ≡ filter q (filter p xs)
filter_swap p q [] = refl
filter_swap p q (x ∷ xs) =
    let rest = filter_swap p q xs in
    elim (cases_Bool (p x)) [
      | inl tp ↦ elim (cases_Bool (q x)) [
        | inl tq ↦ rw (tp, tq) (rw tp (ap (λ (l : List _). x ∷ l) rest))
        | inr fq ↦ rw (tp, fq) rest
      ]
      | inr fp ↦ elim (cases_Bool (q x)) [
        | inl tq ↦ rw (fp, tq) (rw fp rest)
        | inr fq ↦ rw (fp, fq) rest
      ]
    ]

-- ---- stores

-- blocks of the store of this name, where there is one
abbrev pub store_size : List ℕ → List Part → Option ℕ
store_size name parts = option_map (λ store. length store.blocks) (first_named name parts)

size_told : (name : List ℕ) (parts : List Part)
    → store_size name parts
    ≡ cond (has_part name parts) (Some (length (blocks_named name parts))) None
size_told name [] = refl
size_told name (p ∷ ps) = elim (cases_Bool (bytes_eq p.name name)) [
  | inl here ↦ rw here refl
  | inr other ↦ rw other (size_told name ps)
]

pub size_there : (name : List ℕ) (parts : List Part) (n : ℕ)
    → has_part name parts ≡ true
    → length (blocks_named name parts) ≡ n
    → store_size name parts ≡ Some n
size_there name parts n there count = size_told name parts ∙ rw there (ap Some count)

pub size_absent : (name : List ℕ) (parts : List Part)
    → has_part name parts ≡ false
    → store_size name parts ≡ None
size_absent name parts absent = size_told name parts ∙ rw absent refl

pub size_same : (name : List ℕ) (old new : Layout)
    → IsAsBefore name old new
    → store_size name new.parts ≡ store_size name old.parts
size_same name old new stays =
    size_told name new.parts
    ∙ (λ i. cond (stays.there i) (Some (length (stays.blocks i))) None)
    ∙ sym (size_told name old.parts)

-- blocks of a store, each as its first sector
pub store_length : (first : ℕ) (store : Option Part)
    → option_map (λ (l : List ℕ). length l)
    (option_map (λ (q : Part). sectors_of first q.blocks) store)
    ≡ option_map (λ (q : Part). length q.blocks) store
store_length first None = refl
store_length first (Some q) = ap Some (length-sectors_of first q.blocks)

-- ---- names

-- a partition of a slot has a name that is no store's
pub no_store : (slot : ℕ) (name other : List ℕ)
    → is_of_slot slot name ≡ true
    → store_of other ≢ name
no_store slot name other of e = store_not_own slot other (ap (is_of_slot slot) e ∙ of)

pub other_store : (a b : List ℕ) → a ≢ b → store_of a ≢ store_of b
other_store a b differ e = differ (store_of_same a b e)

pub own_of : (slot : ℕ) (parts : List Part) (p : Part)
    → Contains (own_parts slot parts) p
    → Contains parts p
own_of slot parts p c = (of_filter (λ (x : Part). is_of_slot slot x.name) parts p c).0

pub own_is : (slot : ℕ) (parts : List Part) (p : Part)
    → Contains (own_parts slot parts) p
    → is_of_slot slot p.name ≡ true
own_is slot parts p c = (of_filter (λ (x : Part). is_of_slot slot x.name) parts p c).1

-- ---- entries

-- the entry of a partition whose store is as before
pub entry_same : (old new : Layout) (plan : List PlanEntry) (p : Part)
    → IsAsBefore (store_of p.name) old new
    → entry_by new plan p ≡ entry_by old plan p
entry_same old new plan p stays =
    let store = size_same (store_of p.name) old new stays in
    (λ i. record {
      name = base_of p.name;
      group = group_of p.group;
      blocks = length p.blocks;
      store = store i;
      image = image_or (is_updated p) (written_of (entry_named (base_of p.name) plan));
    })
