-- A slot's own partitions in its table, and how long names are.
use Rattle.std.proofs.Common.{◌≡◌, ℕ, zero, suc, ◌<◌, ◌≤◌, true, Bool, List, [], ◌∷◌, length}
use Rattle.std.proofs.Common.{get_or, leb, codes, inl, inr, refl, sym, ap, ◌∙◌, subst, arith}
use Rattle.std.proofs.Common.{append-nil}
use Rattle.std.specs.Prelude.{All, map}
use Rattle.std.specs.List.{filter}
use Rattle.std.specs.Str.{bytes_eq}
use Rattle.std.proofs.lemmas.Bool.{cases_Bool, leb-true, and_parts}
use Rattle.std.proofs.lemmas.List.{length-map, get_or-map}
use Rattle.std.proofs.lemmas.List.Elements.{All-head, All-tail}
use Rattle.std.proofs.lemmas.Slice.Eq.{bytes_eq-Decides}
use Rattle.vab_bytes.specs.Name.{IsName, is_name}
use Rattle.vab_bytes.proofs.NameLaws.{name_fits}
use Rattle.vab_names.specs.Names.{is_base, is_short, is_of_slot, base_of}
use Rattle.vab_names.proofs.NameLaws.{joined_name, base_name, length-base_of}
use Rattle.vab_tables.specs.declared.entries.Group.{Group}
use Rattle.vab_tables.specs.declared.entries.Partition.{Partition}
use Rattle.vab_tables.specs.declared.table.Table.{Table}
use Rattle.vab_tables.specs.Rules.{is_shared, has_slot, IsGroup}
use Rattle.vab_layout.specs.declared.layout.Part.{Part as PartOfLayout}
use Rattle.vab_layout.specs.Layout.{part_of, layout_of}
use Rattle.vab_layout.specs.Slots.{IsOwnPart, IsOwn}

-- ---- how long names are

shared_long : (name : List ℕ) → is_shared name ≡ true → 3 ≤ length name
unfolding is_shared
shared_long name h = elim (cases_Bool (bytes_eq name (codes "default"))) [
  | inl t ↦ omega (arith, ap length ((bytes_eq-Decides name (codes "default")).0 t))
  | inr f ↦
      let rest : bytes_eq name (codes "cow") ≡ true = rw f at h in
      omega (arith, ap length ((bytes_eq-Decides name (codes "cow")).0 rest))
]

slot_long : (name : List ℕ) → has_slot name ≡ true → 3 ≤ length name
unfolding has_slot
slot_long name h = leb-true 3 (length name)
    (and_parts (leb 3 (length name)) _ (and_parts _ _ h).0).0

pub group_long : (g : Group) → IsGroup g → 3 ≤ length g.name
group_long g is = elim (cases_Bool (is_shared g.name)) [
  | inl t ↦ shared_long g.name t
  | inr f ↦ let rest : has_slot g.name ≡ true = rw f at is.named in slot_long g.name rest
]

pub base_is_name : (name : List ℕ) → IsName name → 3 ≤ length name → IsName (base_of name)
base_is_name name is long =
    subst IsName (append-nil (base_of name))
    (joined_name (base_of name) [] (base_name name is) refl
    (omega (arith, length-base_of name, long))
    (omega (arith, length-base_of name, name_fits name is)))

base_is : (base : List ℕ) → is_base base ≡ true → IsName base
unfolding is_base
base_is base h = (and_parts (is_name base) (is_short base) h).0

-- a name that has a base name is longer than its suffix
pub base_long : (name : List ℕ) → is_base (base_of name) ≡ true → 3 ≤ length name
base_long name h =
    omega (arith, length-base_of name, (name_fits (base_of name) (base_is (base_of name) h)).0)

-- ---- one of the partitions that pass a test

all_first : {X : Type 0} (P : X → Type 0) (q : X → Bool) (x : X) (xs : List X)
    → All P (filter q (x ∷ xs))
    → q x ≡ true
    → P x
all_first P q x xs all h =
    let both : All P (x ∷ filter q xs) = rw h at all in
    All-head P x (filter q xs) both

all_rest : {X : Type 0} (P : X → Type 0) (q : X → Bool) (x : X) (xs : List X)
    → All P (filter q (x ∷ xs))
    → All P (filter q xs)
all_rest P q x xs all = elim (cases_Bool (q x)) [
  | inl t ↦ let both : All P (x ∷ filter q xs) = rw t at all in All-tail P x (filter q xs) both
  | inr f ↦ rw f at all
]

pub filtered_at : {X : Type 0} (P : X → Type 0) (q : X → Bool) (xs : List X) (i : ℕ) (d : X)
    → All P (filter q xs)
    → i < length xs
    → q (get_or xs i d) ≡ true
    → P (get_or xs i d)
filtered_at P q [] i d all lt h = absurd (omega arith)
filtered_at P q (x ∷ xs) zero d all lt h = all_first P q x xs all h
filtered_at P q (x ∷ xs) (suc i) d all lt h =
    filtered_at P q xs i d (all_rest P q x xs all) (omega arith) h

-- a partition of the slot keeps the rules of its own
pub own_at : (slot : ℕ) (t : Table) (i : ℕ) (d : Partition)
    → IsOwn slot (layout_of t).parts
    → i < length t.partitions
    → is_of_slot slot (get_or t.partitions i d).name ≡ true
    → IsOwnPart slot (part_of t (get_or t.partitions i d))
unfolding layout_of
own_at slot t i d own lt h =
    let is : get_or (map (part_of t) t.partitions) i (part_of t d)
    ≡ part_of t (get_or t.partitions i d) =
    get_or-map (part_of t) t.partitions i d (part_of t d) lt in
    subst (IsOwnPart slot) is
    (filtered_at (IsOwnPart slot) (λ (p : PartOfLayout). is_of_slot slot p.name)
    (map (part_of t) t.partitions) i (part_of t d) own.each
    (omega (arith, lt, length-map t.partitions (part_of t)))
    (ap (λ (p : PartOfLayout). is_of_slot slot p.name) is ∙ h))

-- the name of such a partition is longer than its suffix
pub own_long : (slot : ℕ) (t : Table) (i : ℕ) (p : Partition)
    → IsOwn slot (layout_of t).parts
    → i < length t.partitions
    → p ≡ get_or t.partitions i p
    → is_of_slot slot p.name ≡ true
    → 3 ≤ length p.name
own_long slot t i p own lt at h =
    let there : is_of_slot slot (get_or t.partitions i p).name ≡ true =
    subst (λ (q : Partition). is_of_slot slot q.name ≡ true) at h in
    base_long p.name
    (subst (λ (q : Partition). is_base (base_of q.name) ≡ true) (sym at)
    (own_at slot t i p own lt there).base)
