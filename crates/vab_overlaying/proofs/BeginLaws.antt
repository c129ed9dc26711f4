-- What is prepared of an overlay: it is what begins it, and what it writes is the overlay's.
use Rattle.std.proofs.Common.{◌≡◌, ◌∙◌, inl, inr, ℕ, ◌+◌, ◌/◌, ◌≤◌, ◌^◌, true, List, length}
use Rattle.std.proofs.Common.{Result, Ok, Err, refl, sym, ap, subst, arith}
use Rattle.std.specs.Prelude.{◌==◌, nat_le, nat_lt, ◌||◌, Option, Some, sum_by, take}
use Rattle.std.proofs.lemmas.Bool.{cases_Bool, and_parts, ltb-true}
use Rattle.vab_disk.specs.Disk.{Image, IsAt}
use Rattle.vab_names.specs.Names.{is_full, base_of}
use Rattle.vab_marks.specs.declared.mark.UpdateMark.{UpdateMark}
use Rattle.vab_marks.specs.Mark.{mark_spelling, overlaid_by}
use Rattle.vab_geometry.specs.declared.geometry.Geometry.{Geometry}
use Rattle.vab_tables.specs.declared.entries.BlockDevice.{BlockDevice}
use Rattle.vab_tables.specs.declared.table.Table.{Table}
use Rattle.vab_tables.specs.Spelling.{table_size_of, table_text, as_minor_2}
use Rattle.vab_tables.specs.Text.{IsTableText}
use Rattle.vab_lpstore.specs.Storing.{IsOfTable}
use Rattle.vab_layout.specs.declared.layout.Part.{Part as PartOfLayout}
use Rattle.vab_layout.specs.declared.layout.Layout.{Layout}
use Rattle.vab_layout.specs.Layout.{layout_of, table_of}
use Rattle.vab_layout.specs.Overlay.{overlaid_in, IsOverlaidBy}
use Rattle.vab_layout.specs.Plain.{plain}
use Rattle.vab_builder.specs.declared.fault.EditFault.{EditFault}
use Rattle.vab_builder.specs.declared.fault.EditFault.TheVariants.{TableFull}
use Rattle.vab_builder.specs.Edits.{fitting}
use Rattle.vab_builder.specs.Overlay.{with_overlay, overlay_part}
use Rattle.vab_model.specs.Overlay.{is_store_size, store_of_size}
use Rattle.vab_device.specs.declared.device.Part.{Part}
use Rattle.vab_device.specs.declared.device.Device.{Device}
use Rattle.vab_device.specs.Kept.{IsDevice, IsTableOf, lies_in, table_of_slot, parts_of}
use Rattle.vab_device.specs.Kept.{part_named, part_on, sectors_of}
use Rattle.vab_device.specs.Mounted.{mounted_on, image_on}
use Rattle.vab_device.specs.Reading.{Represents, IsOfBlocks}
use Rattle.vab_device.specs.Updates.{over_effect}
use Rattle.vab_device.proofs.OwnParts.{length-sectors_of}
use Rattle.vab_device.proofs.SlotTable.{kept_table}
use Rattle.vab_overlaying.specs.declared.prepared.Prepared.{Prepared}
use Rattle.vab_overlaying.specs.Begun.{with_table, IsOver, IsOfHead, Begins}
use Rattle.vab_overlaying.specs.Prepared.{AreWhole, IsMeasured, HasStore}
use Rattle.vab_overlaying.specs.Prepared.{IsPrepared}
use Rattle.vab_overlaying.specs.Writes.{IsOfOverlay, overlay_text}
use Rattle.vab_overlaying.proofs.CountLaws.{parts_are}
use Rattle.vab_overlaying.proofs.KeptLaws.{mark_now, table_now, parts_now}
use Rattle.vab_overlaying.proofs.MeasuredLaws.{measured_row}
use Rattle.vab_device.proofs.AlikeLaws as same
use Rattle.vab_device.proofs.AlikeLaws.{device_is}
use Rattle.vab_overlaying.proofs.RowLaws.{plain_over}
use Rattle.vab_overlaying.proofs.StoredLaws.{stored_part, stored_over}
use Rattle.vab_overlaying.proofs.TableLaws.{geometry_stays, cap_stays}

-- ---- the table that was made

-- a layout that fits is the one that was asked for
fitting_same : (max : ℕ) (l m : Layout) → fitting max l ≡ Ok m → m ≡ l
fitting_same max l m is = elim (cases_Bool (nat_le (table_size_of (table_of l)) max)) [
  | inl fits ↦
      let found : (let r : Result Layout EditFault = Ok l in r ≡ Ok m) = rw fits at is in
      let e : l ≡ m = cc in sym e
  | inr long ↦
      let none : (let r : Result Layout EditFault =
      Err (TableFull (table_size_of (table_of l)) max) in r ≡ Ok m) = rw long at is in
      absurd cc
]

-- the table of a layout is of minor 2
same_minor : (u : Table) (l : Layout) → u ≡ table_of l → as_minor_2 u ≡ u
unfolding table_of
same_minor u l is = subst (λ (x : Table). as_minor_2 x ≡ x) (sym is) refl

-- tables that are the same without stores have the same table with one
over_same : (slot : ℕ) (t u : Table) (name : List ℕ) (n : ℕ)
    → plain slot (layout_of u) ≡ plain slot (layout_of t)
    → with_overlay slot (layout_of u) name n ≡ with_overlay slot (layout_of t) name n
over_same slot t u name n is =
    sym (plain_over slot (layout_of u) name n)
    ∙ ap (λ (l : Layout). with_overlay slot l name n) is
    ∙ plain_over slot (layout_of t) name n

-- a store has two blocks
store_two : (blocks size : ℕ) → is_store_size size ≡ true → 2 ≤ store_of_size blocks size
store_two blocks size is = elim (cases_Bool (size == 0)) [
  | inl none ↦ rw none (omega arith)
  | inr some ↦
      let both = and_parts (nat_le size (2 ^ 40))
      (size == 0 || nat_lt 1 ((size + 4095) / 4096)) is in
      let more : nat_lt 1 ((size + 4095) / 4096) ≡ true = rw some at both.1 in
      rw some (omega (arith, ltb-true 1 ((size + 4095) / 4096) more))
]

-- ---- what the row says of it

begins_with : (e : Device) (n : ℕ) (image : Image) (staged : Option (List ℕ)) (name : List ℕ)
    (size blocks : ℕ) (t : Table) (l : Layout) (p : Part) (store : List ℕ)
    → IsDevice e n
    → Represents e n image
    → AreWhole n image
    → (m : IsMeasured e name size blocks)
    → table_of_slot e e.mark.slot ≡ Some t
    → fitting e.geometry.max (with_overlay e.mark.slot (layout_of t) name blocks) ≡ Ok l
    → m.part ≡ p
    → length store ≡ blocks
    → Begins e staged name size p (length store) image
begins_with e n image staged name size blocks t l p store dev is whole m table fits part long =
    subst (λ (k : ℕ). Begins e staged name size p k image) (sym long)
    (subst (λ (q : Part). Begins e staged name size q blocks image) part
    (measured_row e n image staged name size blocks t dev is whole m table
    ∙ ap (over_effect (mounted_on e image) (image_on image m.part) blocks) fits))

-- ---- what is prepared

module _
    (d : Device) (n : ℕ) (name : List ℕ) (size : ℕ) (x : Prepared)
    (dev : IsDevice d n)
    (is : IsPrepared d name size x) where
  abbrev slot : ℕ
  slot = d.mark.slot

  abbrev t : Table
  t = is.table

  abbrev u : Table
  u = x.table

  abbrev m : IsMeasured d name size is.blocks
  m = is.measured

  abbrev has : HasStore d.mark.slot name x.table
  has = record {
    max = d.geometry.max;
    small = omega (arith, dev.geometry.most);
    table = is.table;
    count = is.blocks;
    stored = is.stored;
  }

  old_table : IsTableOf d.tail.super_end d.geometry d.mark.slot is.table
  old_table = kept_table d n is.table dev is.is

  pub prepared_lies : lies_in d.tail.super_end d.geometry (layout_of is.table).device ≡ true
  prepared_lies = old_table.lies

  device_same : (layout_of x.table).device ≡ (layout_of is.table).device
  device_same = device_is d.mark.slot is.table x.table is.stored.plain

  pub prepared_table : IsTableOf d.tail.super_end d.geometry d.mark.slot x.table
  prepared_table = record {
    rules = is.stored.rules;
    small = omega (arith, is.stored.size, dev.geometry.most);
    own = is.stored.own;
    lies = ap (lies_in d.tail.super_end d.geometry) device_same ∙ old_table.lies;
  }

  pub prepared_short : length x.text ≤ d.geometry.max
  prepared_short = omega (arith, is.spelled.long, is.stored.size)

  pub prepared_stands : IsTableText d.geometry.max x.text x.table
  prepared_stands =
      subst (λ (v : Table). IsTableText d.geometry.max x.text v)
      (same_minor x.table is.stored.gives.0 is.stored.gives.2)
      (is.spelled.stands d.geometry.max is.stored.size)

  pub prepared_mark : (with_table d x.table).mark ≡ d.mark
  prepared_mark = mark_now d x.table dev.slot

  -- ---- the partition and its store

  part_is : x.part ≡ part_on (layout_of x.table).device.first_logical_sector is.stored.over.part
  part_is =
      let both : Some x.part
      ≡ Some (part_on (layout_of x.table).device.first_logical_sector is.stored.over.part) =
      sym is.spelled.part ∙ stored_part d.mark.slot name x.table has in
      cc

  over_is : is.spelled.over ≡ overlay_part d.mark.slot (layout_of is.table) name is.blocks
  over_is =
      let both : Some is.spelled.over
      ≡ Some (overlay_part d.mark.slot (layout_of is.table) name is.blocks) =
      sym is.spelled.named ∙ stored_over d.mark.slot name x.table has in
      cc

  store_is : x.store
      ≡ sectors_of (layout_of x.table).device.first_logical_sector
      (overlay_part d.mark.slot (layout_of is.table) name is.blocks).blocks
  store_is =
      is.spelled.store
      ∙ ap
      (λ (o : PartOfLayout).
      sectors_of (layout_of x.table).device.first_logical_sector o.blocks)
      over_is

  store_long : length x.store ≡ is.blocks
  store_long =
      ap length store_is
      ∙ length-sectors_of (layout_of x.table).device.first_logical_sector
      (overlay_part d.mark.slot (layout_of is.table) name is.blocks).blocks
      ∙ is.stored.over.size

  two : 2 ≤ is.blocks
  two = omega (arith, m.blocks, store_two (length m.part.map) size m.asked.sized)

  pub prepared_over : IsOver (with_table d x.table) x.part x.store
  prepared_over =
      let at_slot = ap (λ (k : UpdateMark). k.slot) prepared_mark in
      record {
        idle = ap (λ (k : UpdateMark). k.phase) prepared_mark ∙ m.asked.idle;
        plain = ap (λ (k : UpdateMark). k.overlaid) prepared_mark ∙ m.asked.plain;
        table = x.table;
        is = table_now d x.table dev.slot;
        parts =
            parts_now d x.table dev.slot
            ∙ ap (λ (k : ℕ). Some (parts_of k (layout_of x.table))) (sym at_slot);
        over = record {
          part = is.stored.over.part;
          store = overlay_part d.mark.slot (layout_of is.table) name is.blocks;
        };
        one =
            ap (λ (k : ℕ). overlaid_in k (layout_of x.table).parts) at_slot ∙ is.stored.over.one;
        by =
            subst
            (λ (k : ℕ).
            IsOverlaidBy k (layout_of x.table).parts is.stored.over.part
            (overlay_part d.mark.slot (layout_of is.table) name is.blocks))
            (sym at_slot) is.stored.over.is;
        part = part_is;
        stored = store_is;
        two = omega (arith, two, is.stored.over.size);
      }

  -- ---- the row

  module _ (image : Image) (represents : Represents d n image) where
    parts_same : m.parts ≡ parts_of d.mark.slot (layout_of x.table)
    parts_same =
        let both : Some m.parts ≡ Some (parts_of d.mark.slot (layout_of is.table)) =
        sym m.are ∙ parts_are d n image is.table dev represents m.asked.idle m.asked.plain is.is in
        let old : m.parts ≡ parts_of d.mark.slot (layout_of is.table) = cc in
        old ∙ sym (same.parts_are d.mark.slot is.table x.table is.stored.plain)

    part_same : m.part ≡ x.part
    part_same =
        let both : Some m.part ≡ Some x.part =
        sym m.named
        ∙ ap (λ (ps : List Part). part_named (base_of name) ps) parts_same
        ∙ is.spelled.part in
        cc

    -- it begins the overlay of the device
    pub prepared_begins : (staged : Option (List ℕ))
        → AreWhole n image
        → Begins d staged name size x.part (length x.store) image
    prepared_begins staged whole =
        begins_with d n image staged name size is.blocks is.table is.stored.gives.0 x.part x.store
        dev represents whole m is.is is.stored.gives.1 part_same store_long

    next_measured : IsMeasured (with_table d x.table) name size is.blocks
    next_measured =
        let at_slot = ap (λ (k : UpdateMark). k.slot) prepared_mark in
        record {
          asked = record {
            idle = ap (λ (k : UpdateMark). k.phase) prepared_mark ∙ m.asked.idle;
            plain = ap (λ (k : UpdateMark). k.overlaid) prepared_mark ∙ m.asked.plain;
            full = ap (λ (k : ℕ). is_full k name) at_slot ∙ m.asked.full;
            sized = m.asked.sized;
          };
          parts = parts_of d.mark.slot (layout_of x.table);
          are = parts_now d x.table dev.slot;
          part = x.part;
          named = is.spelled.part;
          blocks =
              m.blocks ∙ ap (λ (q : Part). store_of_size (length q.map) size) part_same;
          room =
              omega (
                arith,
                m.room,
                ap (λ (ps : List Part). sum_by (λ q. length q.map) ps) parts_same,
                cap_stays d x.table,
              );
        }

    -- and so with its table
    pub next_begins : (new : Image) (staged : Option (List ℕ))
        → IsDevice (with_table d x.table) n
        → Represents (with_table d x.table) n new
        → AreWhole n new
        → Begins (with_table d x.table) staged name size x.part (length x.store) new
    unfolding next_measured
    next_begins new staged kept now whole =
        begins_with (with_table d x.table) n new staged name size is.blocks x.table
        is.stored.gives.0 x.part x.store kept now whole next_measured
        (table_now d x.table dev.slot)
        ((λ i. fitting (ap (λ (g : Geometry). g.max) (geometry_stays d x.table) i)
        (with_overlay (ap (λ (k : UpdateMark). k.slot) prepared_mark i) (layout_of x.table) name
        is.blocks))
        ∙ ap (fitting d.geometry.max)
        (over_same d.mark.slot is.table x.table name is.blocks is.stored.plain)
        ∙ is.stored.gives.1)
        refl store_long

  -- ---- what it writes

  text_is : x.text ≡ overlay_text d.mark.slot is.table name is.blocks
  text_is =
      is.spelled.text
      ∙ ap table_text
      (is.stored.gives.2
      ∙ ap table_of
      (fitting_same d.geometry.max (with_overlay d.mark.slot (layout_of is.table) name is.blocks)
      is.stored.gives.0 is.stored.gives.1))

  short : length (overlay_text d.mark.slot is.table name is.blocks) ≤ d.geometry.max
  short = subst (λ (l : List ℕ). length l ≤ d.geometry.max) text_is prepared_short

  pub table_in : (s : ℕ) (b : List ℕ)
      → IsOfTable d.geometry d.mark.slot x.text s b
      → IsOfOverlay d name s b
  table_in s b w = record {
    idle = m.asked.idle;
    plain = m.asked.plain;
    table = is.table;
    is = is.is;
    store = is.blocks;
    short = short;
    writes = inl (subst (λ (l : List ℕ). IsOfTable d.geometry d.mark.slot l s b) text_is w);
  }

  pub head_in : (s : ℕ) (b : List ℕ)
      → IsOfHead (with_table d x.table) x.store s b
      → IsOfOverlay d name s b
  head_in s b (IsOfHead.of_store w) = record {
    idle = m.asked.idle;
    plain = m.asked.plain;
    table = is.table;
    is = is.is;
    store = is.blocks;
    short = short;
    writes =
        inr (inl
        (subst (λ (l : List ℕ). IsOfBlocks (take 2 l) s)
        (store_is
        ∙ ap
        (λ (v : BlockDevice).
        sectors_of v.first_logical_sector
        (overlay_part d.mark.slot (layout_of is.table) name is.blocks).blocks)
        device_same)
        w));
  }
  head_in s b (IsOfHead.of_mark at) = record {
    idle = m.asked.idle;
    plain = m.asked.plain;
    table = is.table;
    is = is.is;
    store = is.blocks;
    short = short;
    writes =
        inr (inr
        (subst
        (λ (k : UpdateMark).
        IsAt 2048 (mark_spelling (overlaid_by true k)) s b)
        prepared_mark at));
  }
