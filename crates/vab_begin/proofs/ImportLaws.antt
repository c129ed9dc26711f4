-- The table that is imported of a source.
use Rattle.std.proofs.Common.{◌≡◌, ◌∙◌, inl, inr, ℕ, zero, suc, ◌+◌, ◌*◌, ◌<◌, List, [], ◌∷◌}
use Rattle.std.proofs.Common.{Result, Ok, Err, refl}
use Rattle.std.proofs.Common.{arith, length}
use Rattle.std.specs.Prelude.{Bool, true, false, map, nat_le, Option, Some, None}
use Rattle.std.specs.List.{filter}
use Rattle.std.proofs.lemmas.Bool.{cases_Bool}
use Rattle.std.proofs.lemmas.List.{length-map}
use Rattle.std.proofs.lemmas.List.Elements.{filter_passes}
use Rattle.vab_disk.specs.Disk.{Image}
use Rattle.vab_names.specs.Names.{is_of_slot, default_name, store_of}
use Rattle.vab_tables.specs.declared.entries.Group.{Group}
use Rattle.vab_tables.specs.Spelling.{table_size_of, as_minor_2}
use Rattle.vab_layout.specs.declared.layout.Part.{Part as PartOfLayout}
use Rattle.vab_layout.specs.declared.layout.Layout.{Layout}
use Rattle.vab_layout.specs.Layout.{table_of}
use Rattle.vab_layout.specs.Slots.{own_parts, is_updated, IsOwn}
use Rattle.vab_layout.specs.Plain.{plain, default_group, own_groups}
use Rattle.vab_builder.specs.declared.fault.EditFault.{EditFault}
use Rattle.vab_builder.specs.declared.fault.EditFault.TheVariants.{TableFull}
use Rattle.vab_builder.specs.Import.{imported_by}
use Rattle.vab_builder.specs.Edits.{fitting}
use Rattle.vab_builder.proofs.ListLaws.{filter_all}
use Rattle.vab_device.specs.Kept.{sectors_of, HasNoStores}
use Rattle.vab_plan.proofs.NoStoreLaws.{own_no_stores}
use Rattle.vab_device.specs.Mounted.{entry_on}
use Rattle.vab_device.specs.Phases.{planned_on, plan_of}
use Rattle.vab_device.specs.Stores.{first_named}
use Rattle.vab_device.specs.Updates.{entry_by, plan_by}

-- ---- of a source without stores it is the same

twice : {X : Type 0} (q : X → Bool) (xs : List X) → filter q (filter q xs) ≡ filter q xs
twice q xs = filter_all q (filter q xs) (filter_passes q xs)

default_of_none : (slot : ℕ) → slot < 2 → is_of_slot slot default_name ≡ false
unfolding is_of_slot
default_of_none zero below = refl
default_of_none (suc zero) below = refl
default_of_none (suc (suc n)) below = absurd (omega (arith, below))

own_again : (slot : ℕ) (groups : List Group)
    → slot < 2
    → own_groups slot (default_group ∷ own_groups slot groups) ≡ own_groups slot groups
own_again slot groups below =
    let first : own_groups slot (default_group ∷ own_groups slot groups)
    ≡ own_groups slot (own_groups slot groups) = rw (default_of_none slot below) refl in
    first ∙ twice (λ (g : Group). is_of_slot slot g.name) groups

pub imported_plain : (apart : Bool) (slot : ℕ) (l : Layout)
    → slot < 2
    → imported_by apart slot (plain slot l) ≡ imported_by apart slot l
unfolding imported_by plain
imported_plain true slot l below =
    rw (
      twice (λ (p : PartOfLayout). is_of_slot slot p.name) l.parts,
      own_again slot l.groups
          below,
    ) refl
imported_plain false slot l below =
    rw (
      twice (λ (p : PartOfLayout). is_of_slot slot p.name) l.parts,
      own_again slot l.groups
          below,
    ) refl

-- ---- where the target stands apart, it has no partition in the stores' group

pub imported_no_stores : (apart : Bool) (slot : ℕ) (l : Layout)
    → slot < 2
    → IsOwn slot l.parts
    → HasNoStores apart (imported_by apart slot l).parts
unfolding imported_by
imported_no_stores true slot l below own = own_no_stores slot l.parts below own.each
imported_no_stores false slot l below own = tt

-- ---- a layout that fits

pub fitting_same : (max : ℕ) (x l : Layout) → fitting max x ≡ Ok l → x ≡ l
fitting_same max x l is = elim (cases_Bool (nat_le (table_size_of (table_of x)) max)) [
  | inl fits ↦
      let same : (let r : Result Layout EditFault = Ok x in r ≡ Ok l) = rw fits at is in
      cc
  | inr long ↦
      let bad :
      (let r : Result Layout EditFault = Err (TableFull (table_size_of (table_of x)) max) in r
      ≡ Ok l) =
      rw long at is in
      absurd cc
]

pub minor_2 : (l : Layout) → as_minor_2 (table_of l) ≡ table_of l
unfolding table_of
minor_2 l = refl

-- ---- its plan

length_of : (first : ℕ) (blocks : List ℕ) → length (sectors_of first blocks) ≡ length blocks
unfolding sectors_of
length_of first blocks = length-map blocks (λ b. 4096 + first + 8 * b)

entry_same : (image : Image) (l : Layout) (p : PartOfLayout)
    → entry_on image (planned_on l [] p) ≡ entry_by l [] p
entry_same image l p = by_store (first_named (store_of p.name) l.parts) refl
  where
    by_store : (q : Option PartOfLayout)
        → first_named (store_of p.name) l.parts ≡ q
        → entry_on image (planned_on l [] p) ≡ entry_by l [] p
    by_store None is = elim (cases_Bool (is_updated p)) [
      | inl t ↦ rw (is, t, length_of l.device.first_logical_sector p.blocks) refl
      | inr f ↦ rw (is, f, length_of l.device.first_logical_sector p.blocks) refl
    ]
    by_store (Some q) is = elim (cases_Bool (is_updated p)) [
      | inl t ↦ rw (
        is,
        t,
        length_of l.device.first_logical_sector p.blocks,
        length_of
            l.device.first_logical_sector q.blocks,
      ) refl
      | inr f ↦ rw (
        is,
        f,
        length_of l.device.first_logical_sector p.blocks,
        length_of
            l.device.first_logical_sector q.blocks,
      ) refl
    ]

entries_same : (image : Image) (l : Layout) (ps : List PartOfLayout)
    → map (entry_on image) (map (planned_on l []) ps) ≡ map (entry_by l []) ps
entries_same image l [] = refl
entries_same image l (p ∷ ps) =
    let here = entry_same image l p in
    let rest = entries_same image l ps in
    (λ i. here i ∷ rest i)

pub plan_same : (image : Image) (slot : ℕ) (l : Layout)
    → map (entry_on image) (plan_of slot l []) ≡ plan_by slot l []
plan_same image slot l = entries_same image l (own_parts slot l.parts)
