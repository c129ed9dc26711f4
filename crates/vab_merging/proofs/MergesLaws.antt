-- A device whose slot's stores are merged, by what is read of its disk.
use Rattle.std.proofs.Common.{◌≡◌, ◌∙◌, ℕ, zero, suc, ◌<◌, true, false, List}
use Rattle.std.proofs.Common.{[]}
use Rattle.std.proofs.Common.{◌∷◌, length, get_or, Ok, refl, sym, ap, subst, arith}
use Rattle.std.specs.Prelude.{Bool, Option, Some, None, option_map, AllPairs, Contains}
use Rattle.std.proofs.lemmas.List.{get_or-map, get_or_default, length-map}
use Rattle.std.proofs.lemmas.List.Elements.{All-get_or, Contains-get_or}
use Rattle.std.proofs.lemmas.List.Kept.{AllPairs-filter}
use Rattle.vab_disk.specs.Disk.{Image}
use Rattle.vab_bootctl.specs.declared.slots.Control.{Control}
use Rattle.vab_bootctl.specs.Control.{control_of}
use Rattle.vab_names.specs.Names.{is_of_slot, base_of, store_of}
use Rattle.vab_marks.specs.declared.mark.MarkPhase.{MarkPhase}
use Rattle.vab_marks.specs.declared.mark.MarkPhase.TheVariants as marks
use Rattle.vab_marks.specs.declared.mark.UpdateMark.{UpdateMark}
use Rattle.vab_marks.specs.declared.status.PartStatus.{PartStatus}
use Rattle.vab_geometry.specs.declared.geometry.Geometry.{Geometry}
use Rattle.vab_geometry.specs.Geometry.{IsGeometry}
use Rattle.vab_space.specs.declared.Chunk.{Chunk}
use Rattle.vab_exceptions.specs.declared.area.Exception.{Exception}
use Rattle.vab_tables.specs.declared.table.Table.{Table}
use Rattle.vab_physical.specs.declared.tail.Tail.{Tail}
use Rattle.vab_layout.specs.declared.layout.Part.{Part as PartOfLayout}
use Rattle.vab_layout.specs.declared.layout.Layout.{Layout}
use Rattle.vab_layout.specs.Layout.{layout_of}
use Rattle.vab_layout.specs.Slots.{own_parts, is_updated}
use Rattle.vab_layout.proofs.LayoutLaws.{layout_keeps}
use Rattle.vab_partitions.specs.Merging.{IsMerging}
use Rattle.vab_partitions.specs.MergingRules.{bad_merging_of}
use Rattle.vab_partitions.proofs.MergingLaws.{is_merging}
use Rattle.vab_blocks.proofs.Contained.{of_filter}
use Rattle.vab_device.specs.declared.device.Part.{Part}
use Rattle.vab_device.specs.declared.device.PartImage.{PartImage}
use Rattle.vab_device.specs.declared.device.PartImage.TheVariants.{Written}
use Rattle.vab_device.specs.declared.device.Device.{Device}
use Rattle.vab_device.specs.Checks.{names_none}
use Rattle.vab_device.specs.Kept.{sectors_of, IsDevice, IsPart, IsStored, IsTableOf, IsKeptTable}
use Rattle.vab_device.specs.Mounted.{count_of}
use Rattle.vab_device.specs.Phases.{phase_in, phase_at, merging_check, planned_on, planned_image}
use Rattle.vab_device.specs.Phases.{plan_of, store_on}
use Rattle.vab_device.specs.Reading.{Read, kept, Reads, AgreeCopies, Represents, tables_in}
use Rattle.vab_device.specs.Reading.{table_for}
use Rattle.vab_device.specs.Stores.{Scanned, first_named, scanned_named}
use Rattle.vab_device.proofs.CheckLaws.{first_kept}
use Rattle.vab_device.proofs.ReadingLaws.{slot_below, flags_known}
use Rattle.vab_device.proofs.StayLaws.{one_of}
use Rattle.vab_merging.specs.Turns.{own_of, with_own, part_at, no_part}
use Rattle.vab_merging.proofs.OwnLaws.{Single, own_kept}
use Rattle.vab_device.proofs.NamedParts.{Named, first_is}
use Rattle.vab_marks.specs.Mark.{rephased, resloted}
use Rattle.vab_device.proofs.MarkLaws.{as_phase}
use Rattle.vab_marks.specs.declared.version.MarkVersion.TheVariants.{Two}
use Rattle.vab_names.specs.Names.{most_partitions}
use Rattle.vab_device.specs.Reading.{version_at}
use Rattle.vab_device.proofs.MostLaws.{parts_all}

-- ---- what is read

-- of a disk whose slot's stores are merged, with its table
abbrev pub merging_read : UpdateMark
    → ℕ
    → List (Option PartStatus)
    → Control
    → Tail
    → Geometry
    → Table
    → List Scanned
    → Read
merging_read base slot statuses control tail geometry t scanned = record {
  mark = rephased marks.Merging (resloted slot base);
  statuses = statuses;
  control = control;
  tail = tail;
  geometry = geometry;
  tables = t ∷ [];
  scanned = scanned;
}

-- the device is read so
pub record Merges (d : Device) (size : ℕ) (image : Image) : Type 0 where
  pub base : UpdateMark
  pub slot : ℕ
  pub statuses : List (Option PartStatus)
  pub seen : Control
  pub tail : Tail
  pub geometry : Geometry
  pub table : Table
  pub scanned : List Scanned
  pub below : slot < 2
  pub reads : Reads size (merging_read base slot statuses seen tail geometry table scanned) image
  pub is : d
      ≡ record (kept (merging_read base slot statuses seen tail geometry table scanned)) {
        control = d.control;
      }
  pub control : control_of (image 4) ≡ Ok d.control
  pub copies : AgreeCopies geometry (slot ∷ []) (table ∷ []) image
  pub version : version_at image ≡ Two

pub merges_represents : (d : Device) (size : ℕ) (image : Image)
    → Merges d size image
    → Represents d size image
merges_represents d size image i = record {
  read = merging_read i.base i.slot i.statuses i.seen i.tail i.geometry i.table i.scanned;
  reads = i.reads;
  is = i.is;
  control = i.control;
  copies = i.copies;
  version = i.version;
}

pub merges_of : (d : Device) (size : ℕ) (image : Image)
    → Represents d size image
    → d.mark.phase ≡ marks.Merging
    → Merges d size image
merges_of d size image is merging =
    let r : Read = is.read in
    let phase : r.mark.phase ≡ marks.Merging =
    sym (ap (λ (k : Device). k.mark.phase) is.is) ∙ merging in
    let one = one_of r.tail.super_end r.geometry r.mark.slot image r.tables
    (subst
    (λ (p : MarkPhase).
    tables_in r.tail.super_end r.geometry (phase_in p r.mark).tables image ≡ Ok r.tables)
    phase is.reads.tables) in
    let form : Read =
    merging_read r.mark r.mark.slot r.statuses r.control r.tail r.geometry one.0 r.scanned in
    let e : r ≡ form =
    (λ i. record {
      mark = as_phase r.mark marks.Merging (flags_known image r.mark is.reads.mark) refl phase i;
      statuses = r.statuses;
      control = r.control;
      tail = r.tail;
      geometry = r.geometry;
      tables = one.1 i;
      scanned = r.scanned;
    }) in
    record {
      base = r.mark;
      slot = r.mark.slot;
      statuses = r.statuses;
      seen = r.control;
      tail = r.tail;
      geometry = r.geometry;
      table = one.0;
      scanned = r.scanned;
      below = slot_below image r.mark is.reads.mark;
      reads = subst (λ (x : Read). Reads size x image) e is.reads;
      is = subst (λ (x : Read). d ≡ record (kept x) { control = d.control }) e is.is;
      control = is.control;
      copies =
          subst
          (λ (x : Read).
          AgreeCopies x.geometry (phase_at x.mark).tables x.tables image)
          e is.copies;
      version = is.version;
    }

-- ---- the partitions of the slot

own_form : (base : UpdateMark) (slot : ℕ) (ss : List (Option PartStatus)) (seen c : Control)
    (tail : Tail) (g : Geometry) (t : Table) (scanned : List Scanned)
    → slot < 2
    → own_of (record (kept (merging_read base slot ss seen tail g t scanned)) { control = c })
    ≡ plan_of slot (layout_of t) scanned
own_form base zero ss seen c tail g t scanned below = refl
own_form base (suc zero) ss seen c tail g t scanned below = refl
own_form base (suc (suc n)) ss seen c tail g t scanned below = absurd (omega (arith, below))

pub with_form : (base : UpdateMark) (slot : ℕ) (ss : List (Option PartStatus)) (seen c : Control)
    (tail : Tail) (g : Geometry) (t : Table) (scanned now : List Scanned)
    → slot < 2
    → with_own (record (kept (merging_read base slot ss seen tail g t scanned)) { control = c })
    (plan_of slot (layout_of t) now)
    ≡ record (kept (merging_read base slot ss seen tail g t now)) { control = c }
with_form base zero ss seen c tail g t scanned now below = refl
with_form base (suc zero) ss seen c tail g t scanned now below = refl
with_form base (suc (suc n)) ss seen c tail g t scanned now below = absurd (omega (arith, below))

pub own_is : (d : Device) (size : ℕ) (image : Image) (i : Merges d size image)
    → own_of d ≡ plan_of i.slot (layout_of i.table) i.scanned
own_is d size image i =
    ap own_of i.is
    ∙ own_form i.base i.slot i.statuses i.seen d.control i.tail i.geometry i.table i.scanned i.below

pub slot_is : (d : Device) (size : ℕ) (image : Image) (i : Merges d size image)
    → d.mark.slot ≡ i.slot
slot_is d size image i = ap (λ (k : Device). k.mark.slot) i.is

-- ---- the table

table_of : (super_end slot : ℕ) (g : Geometry) (t : Table)
    → slot < 2
    → IsKeptTable super_end g 0 (table_for 0 (slot ∷ []) (t ∷ []))
    → IsKeptTable super_end g 1 (table_for 1 (slot ∷ []) (t ∷ []))
    → IsTableOf super_end g slot t
table_of super_end zero g t below a b = a
table_of super_end (suc zero) g t below a b = b
table_of super_end (suc (suc n)) g t below a b = absurd (omega (arith, below))

names_kept : (o : Option (List ℕ)) → names_none o ≡ None → o ≡ None
names_kept None is = refl
names_kept (Some name) is = absurd cc

-- what holds of the table
pub record Rules (d : Device) (size : ℕ) (image : Image) (i : Merges d size image) : Type 0 where
  pub geometry : IsGeometry i.geometry
  pub table : IsTableOf i.tail.super_end i.geometry i.slot i.table
  pub merging : IsMerging i.slot (layout_of i.table).parts

pub rules_of : (d : Device) (size : ℕ) (image : Image) (i : Merges d size image)
    → IsDevice d size
    → Rules d size image i
rules_of d size image i is =
    let r : Read =
    merging_read i.base i.slot i.statuses i.seen i.tail i.geometry i.table i.scanned in
    let form : Device = record (kept r) { control = d.control } in
    let of : IsDevice form size = subst (λ (k : Device). IsDevice k size) i.is is in
    let none = first_kept (merging_check most_partitions i.slot i.table) []
    (parts_all r image i.reads.parts) in
    record {
      geometry = of.geometry;
      table = table_of i.tail.super_end i.slot i.geometry i.table i.below of.table_a of.table_b;
      merging =
          (is_merging most_partitions i.slot (layout_of i.table).parts (omega arith)
          (names_kept (bad_merging_of most_partitions i.slot (layout_of i.table).parts)
          none.0)).is;
    }

-- ---- partitions by their names

-- ---- a partition that is written

-- with its store, whose chunks have this size, and these exceptions
abbrev pub written_on : Layout → PartOfLayout → PartOfLayout → Chunk → List Exception → Part
written_on l p keeps k es = record {
  name = base_of p.name;
  group = p.group;
  map = sectors_of l.device.first_logical_sector p.blocks;
  store = Some (sectors_of l.device.first_logical_sector keeps.blocks);
  image = Written k es;
}

written_of : (b : Bool) (o : Option Scanned)
    → 0 < count_of (planned_image b o)
    → (s : Scanned) × (b ≡ true) × (o ≡ Some s) × (0 < length s.exceptions)
written_of false o some = absurd (omega (arith, some))
written_of true None some = absurd (omega (arith, some))
written_of true (Some s) some = (s, refl, refl, some)

stored_of : (size at : ℕ) (base : List ℕ) (o : Option PartOfLayout) (k : Chunk)
    (es : List Exception)
    → IsStored size base (option_map (λ q. sectors_of at q.blocks) o) (Written k es)
    → 0 < length es
    → (q : PartOfLayout) × (o ≡ Some q)
stored_of size at base None k es is some =
    absurd (omega (arith, ap (λ (xs : List Exception). length xs) is, some))
stored_of size at base (Some q) k es is some = (q, refl)

-- The partition at a place is this one of the table, its store that one, and this is what was read
-- of it.
pub record Placed (d : Device) (size : ℕ) (image : Image) (i : Merges d size image) (place : ℕ)
    : Type 0 where
  pub part : PartOfLayout
  pub keeps : PartOfLayout
  pub scan : Scanned
  pub within : place < length (own_parts i.slot (layout_of i.table).parts)
  pub at_place : (e : PartOfLayout)
      → get_or (own_parts i.slot (layout_of i.table).parts) place e ≡ part
  pub there : Contains (own_parts i.slot (layout_of i.table).parts) part
  pub own : is_of_slot i.slot part.name ≡ true
  pub part_is : first_named part.name (own_parts i.slot (layout_of i.table).parts) ≡ Some part
  pub found : first_named (store_of part.name) (layout_of i.table).parts ≡ Some keeps
  pub updated : is_updated part ≡ true
  pub read : scanned_named part.name i.scanned ≡ Some scan
  pub planned : part_at d place ≡ planned_on (layout_of i.table) i.scanned part
  pub written : part_at d place
      ≡ written_on (layout_of i.table) part keeps scan.chunk scan.exceptions
  pub differ : AllPairs Named (own_parts i.slot (layout_of i.table).parts)

pub names_differ : (d : Device) (size : ℕ) (image : Image) (i : Merges d size image)
    → Rules d size image i
    → AllPairs Named (own_parts i.slot (layout_of i.table).parts)
names_differ d size image i rules =
    AllPairs-filter Named (λ p. is_of_slot i.slot p.name) (layout_of i.table).parts
    (layout_keeps i.table rules.table.rules).part_names

-- what is known of a partition of the table makes it so
module _ (d : Device) (size : ℕ) (image : Image) (i : Merges d size image) (place : ℕ)
    (part : PartOfLayout)
    (differ : AllPairs Named (own_parts i.slot (layout_of i.table).parts))
    (within : place < length (own_parts i.slot (layout_of i.table).parts))
    (at_place : (e : PartOfLayout)
    → get_or (own_parts i.slot (layout_of i.table).parts) place e ≡ part)
    (there : Contains (own_parts i.slot (layout_of i.table).parts) part)
    (planned : part_at d place ≡ planned_on (layout_of i.table) i.scanned part) where
  abbrev l : Layout
  l = layout_of i.table

  abbrev at : ℕ
  at = l.device.first_logical_sector

  placed_with : (keeps : PartOfLayout) (s : Scanned)
      → first_named (store_of part.name) l.parts ≡ Some keeps
      → is_updated part ≡ true
      → scanned_named part.name i.scanned ≡ Some s
      → Placed d size image i place
  placed_with keeps s found updated read =
      let as_written : planned_on l i.scanned part
      ≡ written_on l part keeps s.chunk s.exceptions =
      (λ k. record (planned_on l i.scanned part) {
        store = option_map (λ q. sectors_of at q.blocks) (found k);
        image = planned_image (updated k) (read k);
      }) in
      record {
        part = part;
        keeps = keeps;
        scan = s;
        within = within;
        at_place = at_place;
        there = there;
        own = (of_filter (λ q. is_of_slot i.slot q.name) l.parts part there).1;
        part_is = first_is (own_parts i.slot l.parts) part differ there;
        found = found;
        updated = updated;
        read = read;
        planned = planned;
        written = planned ∙ as_written;
        differ = differ;
      }

  placed_part : IsPart d.tail.super_end (part_at d place)
      → 0 < count_of (part_at d place).image
      → Placed d size image i place
  placed_part kept some =
      let super_end = d.tail.super_end in
      let w = written_of (is_updated part) (scanned_named part.name i.scanned)
      (subst (λ (p : Part). 0 < count_of p.image) planned some) in
      let stored : IsStored super_end (sectors_of at part.blocks) (store_on l part.name)
      (planned_image (is_updated part) (scanned_named part.name i.scanned)) =
      (subst (IsPart super_end) planned kept).store in
      let as_written : IsStored super_end (sectors_of at part.blocks) (store_on l part.name)
      (Written w.0.chunk w.0.exceptions) =
      subst
      (λ (x : PartImage). IsStored super_end (sectors_of at part.blocks) (store_on l part.name) x)
      (λ k. planned_image (w.1 k) (w.2 k)) stored in
      let s = stored_of super_end at (sectors_of at part.blocks)
      (first_named (store_of part.name) l.parts) w.0.chunk w.0.exceptions as_written w.3 in
      placed_with s.0 w.0 s.1 w.1 w.2

pub placed_of : (d : Device) (size : ℕ) (image : Image) (i : Merges d size image) (place : ℕ)
    → Single d
    → IsDevice d size
    → Rules d size image i
    → place < length (own_of d)
    → 0 < count_of (part_at d place).image
    → Placed d size image i place
placed_of d size image i place single is rules below some =
    let l : Layout = layout_of i.table in
    let owns : List PartOfLayout = own_parts i.slot l.parts in
    let whole = own_is d size image i in
    let within : place < length owns =
    omega (arith, below, ap length whole, length-map owns (planned_on l i.scanned)) in
    let none : PartOfLayout = record { name = []; attributes = 0; group = []; blocks = [] } in
    placed_part d size image i place (get_or owns place none) (names_differ d size image i rules)
    within
    (λ e. get_or_default owns place e none within)
    (Contains-get_or owns place none within)
    (ap (λ (ps : List Part). get_or ps place no_part) whole
    ∙ get_or-map (planned_on l i.scanned) owns place none no_part within)
    (All-get_or (IsPart d.tail.super_end) (own_of d) place no_part below
    (own_kept d size single is).each)
    some
