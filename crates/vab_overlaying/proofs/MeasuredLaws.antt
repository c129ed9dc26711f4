-- The row of an overlay that has room, and what refuses it.
use Rattle.std.proofs.Common.{◌≡◌, ◌∙◌, inl, inr, ℕ, ◌+◌, ◌≤◌, true, false, List, [], ◌∷◌}
use Rattle.std.proofs.Common.{length, Ok, Err, refl, sym, ap, subst, arith}
use Rattle.std.specs.Prelude.{nat_le, Option, Some, Result, IfErr, map, sum_by, All, Contains}
use Rattle.std.specs.Str.{bytes_eq}
use Rattle.std.proofs.lemmas.Bool.{cases_Bool, le-leb}
use Rattle.std.proofs.lemmas.List.Elements.{All-contains, All-tail}
use Rattle.std.proofs.lemmas.List.Elements.{filter_passes}
use Rattle.std.proofs.lemmas.List.Sums.{sum_by-cons, sum-map}
use Rattle.vab_disk.specs.Disk.{Image}
use Rattle.vab_names.specs.Names.{is_of_slot, base_of}
use Rattle.vab_names.proofs.NameCases.{same_name, eq_name, full_slot}
use Rattle.vab_tables.specs.declared.table.Table.{Table}
use Rattle.vab_tables.specs.Rules.{cap_of}
use Rattle.vab_tables.specs.Spelling.{table_size_of}
use Rattle.vab_blocks.proofs.Contained.{first, later, cons_cases}
use Rattle.vab_layout.specs.declared.layout.Part.{Part as PartOfLayout}
use Rattle.vab_layout.specs.declared.layout.Layout.{Layout}
use Rattle.vab_layout.specs.Layout.{layout_of, table_of, blocks_of_parts}
use Rattle.vab_layout.specs.Slots.{own_parts}
use Rattle.vab_builder.specs.declared.fault.EditFault.TheVariants.{TableFull}
use Rattle.vab_builder.specs.Edits.{fitting}
use Rattle.vab_builder.specs.Overlay.{with_overlay}
use Rattle.vab_builder.specs.Sizes.{has_part}
use Rattle.vab_builder.proofs.OverlayTable.{sizes_are}
use Rattle.vab_model.specs.declared.command.Refusal.{Refusal}
use Rattle.vab_model.specs.declared.command.Refusal.TheVariants as refusals
use Rattle.vab_model.specs.Commands.{Overlay}
use Rattle.vab_model.specs.Effects.{refuses, unless_refused}
use Rattle.vab_device.specs.declared.device.Part.{Part}
use Rattle.vab_device.specs.declared.device.Device.{Device}
use Rattle.vab_device.specs.Kept.{IsDevice, part_named, parts_of, part_on, table_of_slot}
use Rattle.vab_device.specs.Mounted.{Mounted, mounted_on, image_on}
use Rattle.vab_device.specs.Reading.{Represents}
use Rattle.vab_device.specs.Updates.{effect_on, over_effect}
use Rattle.vab_device.proofs.OwnParts.{length-sectors_of}
use Rattle.vab_overlaying.specs.Prepared.{AreWhole, Refuses, IsMeasured}
use Rattle.vab_overlaying.proofs.CountLaws.{parts_are, each_counted, named_there}
use Rattle.vab_overlaying.proofs.JudgedLaws.{slot_table}
use Rattle.vab_overlaying.proofs.OverlaidLaws.{base_one}
use Rattle.vab_device.proofs.StandsLaws.{stands_idle}
use Rattle.vab_overlaying.proofs.RowLaws.{IsCounted, found_row, plain_over}

-- ---- the row

pub measured_row : (d : Device) (n : ℕ) (image : Image) (staged : Option (List ℕ)) (name : List ℕ)
    (size blocks : ℕ) (t : Table)
    → IsDevice d n
    → Represents d n image
    → AreWhole n image
    → (m : IsMeasured d name size blocks)
    → table_of_slot d d.mark.slot ≡ Some t
    → effect_on (mounted_on d image) staged (Overlay name size)
    ≡ over_effect (mounted_on d image) (image_on image m.part) blocks
    (fitting d.geometry.max (with_overlay d.mark.slot (layout_of t) name blocks))
measured_row d n image staged name size blocks t dev is whole m table =
    let each = each_counted d n image t m.parts dev is whole m.asked.idle m.asked.plain table
    m.are in
    let here = All-contains (IsCounted image) m.parts m.part each
    (named_there (base_of name) m.parts m.part m.named) in
    let room : nat_le (sum_by (λ q. length q.map) m.parts + blocks) d.cap ≡ true =
    le-leb (sum_by (λ q. length q.map) m.parts + blocks) d.cap m.room in
    found_row d n image staged name size blocks m.parts m.part t dev m.asked m.are table m.named
    here each m.blocks
    ∙ rw room
    (ap
    (λ (l : Layout).
    over_effect (mounted_on d image) (image_on image m.part) blocks (fitting d.geometry.max l))
    (plain_over d.mark.slot (layout_of t) name blocks))

-- ---- memory, and the text

may_refuse : (m : Mounted) (image : Image) (p : Part) (blocks max : ℕ) (l : Layout)
    → unless_refused true (over_effect m (image_on image p) blocks (fitting max l))
    ≡ refuses refusals.NoMemory
may_refuse m image p blocks max l = elim (cases_Bool (nat_le (table_size_of (table_of l)) max)) [
  | inl fits ↦ rw fits refl
  | inr long ↦ rw long refl
]

pub refuses_memory : (d : Device) (name : List ℕ) (size blocks : ℕ)
    → IsMeasured d name size blocks
    → Refuses d name size refusals.NoMemory
refuses_memory d name size blocks m = record {
  refused = true;
  wants = false;
  is = λ n image staged dev is whole.
      let t = slot_table d n dev in
      ap (unless_refused true)
      (measured_row d n image staged name size blocks t.0 dev is whole m t.1)
      ∙ may_refuse (mounted_on d image) image m.part blocks d.geometry.max
      (with_overlay d.mark.slot (layout_of t.0) name blocks);
}

pub refuses_full : (d : Device) (name : List ℕ) (size blocks long max : ℕ) (t : Table)
    → IsMeasured d name size blocks
    → table_of_slot d d.mark.slot ≡ Some t
    → fitting d.geometry.max (with_overlay d.mark.slot (layout_of t) name blocks)
    ≡ Err (TableFull long max)
    → Refuses d name size (refusals.TableFull long max)
refuses_full d name size blocks long max t m table full = record {
  refused = false;
  wants = true;
  is = λ n image staged dev is whole.
      measured_row d n image staged name size blocks t dev is whole m table
      ∙ ap (over_effect (mounted_on d image) (image_on image m.part) blocks) full;
}

-- ---- the table is that of the disk

-- the slot's own partition of a whole name, where its base name is found
pub own_named : (slot at : ℕ) (ps : List PartOfLayout) (name : List ℕ) (p : Part)
    → is_of_slot slot name ≡ true
    → All (λ (q : PartOfLayout). is_of_slot slot q.name ≡ true) ps
    → part_named (base_of name) (map (part_on at) ps) ≡ Some p
    → (q : PartOfLayout) × Contains ps q × (q.name ≡ name) × (p ≡ part_on at q)
own_named slot at [] name p own of is = absurd cc
own_named slot at (q ∷ qs) name p own of is =
    elim (cases_Bool (bytes_eq (base_of q.name) (base_of name))) [
      | inl here ↦
          let found : (let o : Option Part = Some (part_on at q) in o ≡ Some p) = rw here at is in (
            q,
            first q qs,
            base_one slot q.name name (of 0 q (omega arith)) own
                (same_name (base_of q.name) (base_of name) here),
            let same : part_on at q ≡ p = cc in sym same,
          )
      | inr other ↦
          let rest = own_named slot at qs name p own
          (All-tail (λ (q : PartOfLayout). is_of_slot slot q.name ≡ true) q qs of)
          (rw other at is) in
          (rest.0, later q qs rest.0 rest.1, rest.2, rest.3)
    ]

pub has_named : (ps : List PartOfLayout) (name : List ℕ) (q : PartOfLayout)
    → Contains ps q
    → q.name ≡ name
    → has_part name ps ≡ true
has_named [] name q c is = absurd (omega (arith, c.1))
has_named (x ∷ xs) name q c is = elim (cons_cases x xs q c) [
  | inl here ↦
      rw (eq_name x.name name (ap (λ (y : PartOfLayout). y.name) here ∙ is)) refl
  | inr there ↦ elim (cases_Bool (bytes_eq x.name name)) [
    | inl same ↦ rw same refl
    | inr other ↦ rw other (has_named xs name q there is)
  ]
]

-- the partition that was found is the slot's own of the table
pub measured_own : (d : Device) (n : ℕ) (image : Image) (name : List ℕ) (size blocks : ℕ)
    (t : Table)
    → IsDevice d n
    → Represents d n image
    → (m : IsMeasured d name size blocks)
    → table_of_slot d d.mark.slot ≡ Some t
    → (q : PartOfLayout)
    × Contains (own_parts d.mark.slot (layout_of t).parts) q
    × (q.name ≡ name)
    × (m.part ≡ part_on (layout_of t).device.first_logical_sector q)
measured_own d n image name size blocks t dev is m table =
    let both : Some m.parts ≡ Some (parts_of d.mark.slot (layout_of t)) =
    sym m.are ∙ parts_are d n image t dev is m.asked.idle m.asked.plain table in
    let same : m.parts ≡ parts_of d.mark.slot (layout_of t) = cc in
    own_named d.mark.slot (layout_of t).device.first_logical_sector
    (own_parts d.mark.slot (layout_of t).parts) name m.part
    (full_slot d.mark.slot name m.asked.full)
    (filter_passes (λ (q : PartOfLayout). is_of_slot d.mark.slot q.name) (layout_of t).parts)
    (subst (λ (ps : List Part). part_named (base_of name) ps ≡ Some m.part) same m.named)

blocks_same : (at : ℕ) (ps : List PartOfLayout)
    → sum_by (λ q. length q.map) (map (part_on at) ps) ≡ length (blocks_of_parts ps)
blocks_same at ps = by_list ps ∙ sym (sum-map (λ (p : PartOfLayout). length p.blocks) ps)
    ∙ sym (sizes_are ps)
  where
    by_list : (qs : List PartOfLayout)
        → sum_by (λ q. length q.map) (map (part_on at) qs)
        ≡ sum_by (λ (p : PartOfLayout). length p.blocks) qs
    by_list [] = refl
    by_list (q ∷ qs) =
        sum_by-cons (λ (p : Part). length p.map) (part_on at q) (map (part_on at) qs)
        ∙ (let here = length-sectors_of at q.blocks in
        let rest = by_list qs in
        (λ i. here i + rest i))
        ∙ sym (sum_by-cons (λ (p : PartOfLayout). length p.blocks) q qs)

-- so there is room for the store in it
pub measured_room : (d : Device) (n : ℕ) (image : Image) (name : List ℕ) (size blocks : ℕ)
    (t : Table)
    → IsDevice d n
    → Represents d n image
    → IsMeasured d name size blocks
    → table_of_slot d d.mark.slot ≡ Some t
    → length (blocks_of_parts (own_parts d.mark.slot (layout_of t).parts)) + blocks
    ≤ cap_of (layout_of t).device
measured_room d n image name size blocks t dev is m table =
    let both : Some m.parts ≡ Some (parts_of d.mark.slot (layout_of t)) =
    sym m.are ∙ parts_are d n image t dev is m.asked.idle m.asked.plain table in
    let same : m.parts ≡ parts_of d.mark.slot (layout_of t) = cc in
    let cap : d.cap ≡ cap_of (layout_of t).device =
    ap (λ (k : Device). k.cap)
    (stands_idle d n image t dev.slot m.asked.idle m.asked.plain table is).is in
    let count : sum_by (λ q. length q.map) m.parts
    ≡ length (blocks_of_parts (own_parts d.mark.slot (layout_of t).parts)) =
    ap (sum_by (λ (q : Part). length q.map)) same
    ∙ blocks_same (layout_of t).device.first_logical_sector
    (own_parts d.mark.slot (layout_of t).parts) in
    omega (arith, m.room, cap, count)

-- its disk has the partition and the room
pub refuses_never : (d : Device) (name : List ℕ) (size blocks : ℕ)
    (r : Refusal)
    → ((n : ℕ) (image : Image) → IsDevice d n → Represents d n image → ⊥)
    → Refuses d name size r
refuses_never d name size blocks r never = record {
  refused = false;
  wants = false;
  is = λ n image staged dev is whole. absurd (never n image dev is);
}

-- where only want of memory is left
pub if_memory : {A : Type 0} (r : Result A Refusal) (P : Refusal → Type 0)
    → P refusals.NoMemory
    → IfErr r (λ x. x ≡ refusals.NoMemory)
    → IfErr r P
if_memory (Ok x) P memory is = tt
if_memory (Err f) P memory is = subst P (sym is) memory
