-- A disk of which blocks of the store are others, with another list of exceptions that ends clean,
-- is the device with that list.
use Rattle.std.proofs.Common.{◌≡◌, ◌∙◌, inl, inr, ℕ, zero, suc, ◌-◌, ◌*◌, ◌≤◌, ◌<◌, List}
use Rattle.std.proofs.Common.{[], ◌∷◌, length, Ok, refl, sym, ap, subst, arith, true, false}
use Rattle.std.specs.Prelude.{Option, Some, ◌==◌, All, option_map}
use Rattle.std.proofs.lemmas.Bool.{cases_Bool, eqb-true, and_parts, leb-true}
use Rattle.vab_disk.specs.Disk.{Image}
use Rattle.vab_bootctl.specs.declared.slots.Control.{Control}
use Rattle.vab_bootctl.specs.Control.{control_of}
use Rattle.vab_marks.specs.declared.mark.MarkPhase.TheVariants as marks
use Rattle.vab_marks.specs.declared.mark.UpdateMark.{UpdateMark}
use Rattle.vab_exceptions.specs.declared.area.Exception.{Exception}
use Rattle.vab_geometry.specs.declared.geometry.Geometry.{Geometry}
use Rattle.vab_space.specs.declared.Chunk.TheVariants.{One}
use Rattle.vab_store.specs.Layout.{AreDisjoint, IsApart}
use Rattle.vab_store.specs.View.{Fits}
use Rattle.vab_tables.specs.declared.table.Table.{Table}
use Rattle.vab_layout.specs.Layout.{layout_of}
use Rattle.vab_layout.specs.Overlay.{Overlaid, overlaid_in}
use Rattle.vab_model.specs.Overlay.{with_overlay}
use Rattle.vab_device.specs.declared.device.Part.{Part}
use Rattle.vab_device.specs.declared.device.Device.{Device}
use Rattle.vab_device.specs.Checks.{◌>>=◌}
use Rattle.vab_device.specs.Kept.{IsDevice, IsPart, IsStore, IsTableOf, IsKeptTable}
use Rattle.vab_device.specs.Kept.{IsOverlaidOn, parts_at, parts_of, copies_end, sectors_of}
use Rattle.vab_device.specs.Mounted.{mounted_on, state_on, images_on, overlay_by, in_state}
use Rattle.vab_device.specs.Phases as phases
use Rattle.vab_device.specs.Phases.{phase_at, wanted_over}
use Rattle.vab_device.specs.Reading.{Read, Reads, Represents, AgreeCopies, IsOfImages}
use Rattle.vab_device.specs.Reading.{IsOfTables, IsOfBlocks, parts_for, table_for, version_at}
use Rattle.vab_device.specs.Reading.{stores_of}
use Rattle.vab_device.specs.Stores.{Scanned, scans_in}
use Rattle.vab_device.proofs.MostLaws.{parts_under}
use Rattle.vab_device.proofs.PartBlocks.{block_behind, sectors_disjoint}
use Rattle.vab_device.proofs.PhaseCases.{unplanned_of}
use Rattle.vab_device.proofs.SameLaws.{mark_same, version_same, control_same, tail_kept}
use Rattle.vab_device.proofs.SameLaws.{geometry_same, tables_agree, images_same}
use Rattle.vab_device.proofs.StayLaws.{copy_stays, copies_from}
use Rattle.vab_device.proofs.StoreLaws.{statuses_kept}
use Rattle.vab_device.proofs.UpdateLaws.{kept_with}
use Rattle.vab_overlaying.specs.Over.{with_list, with_over}
use Rattle.vab_overlaying.proofs.ApartLaws.{NoneIn, none_apart, once_apart, parts_miss}
use Rattle.vab_overlaying.proofs.ApartLaws.{copies_within}
use Rattle.vab_overlaying.proofs.WriteRowLaws.{overlaid_on}
use Rattle.vab_overlaying.proofs.ShapeLaws.{first_of, base_of_over, store_of_over, wanted_by}
use Rattle.vab_overlaying.proofs.ShapeLaws.{scanned_by, part_by, part_is, IsList, read_store}
use Rattle.vab_overlaying.proofs.ShapeLaws.{IsOver}

-- ---- what is read and kept

abbrev pub over_read : UpdateMark → (slot : ℕ) → Read → Table → Scanned → Read
over_read base slot r t x = record {
  mark = record base { phase = marks.Idle; slot = slot; overlaid = true };
  statuses = r.statuses;
  control = r.control;
  tail = r.tail;
  geometry = r.geometry;
  tables = t ∷ [];
  scanned = x ∷ [];
}

-- with another list the device is that with the list
kept_over : (base : UpdateMark) (slot : ℕ) (c : Control) (r : Read) (t : Table) (x : Scanned)
    (o : Overlaid) (now : List Exception)
    → slot < 2
    → overlaid_in slot (layout_of t).parts ≡ Some o
    → record (kept_with (over_read base slot r t x) c) { overlay = Some (part_by t o now) }
    ≡ kept_with (over_read base slot r t (scanned_by o now)) c
kept_over base zero c r t x o now below found =
    let same : Some (part_by t o now)
    ≡ option_map (phases.overlaid_on (layout_of t) (scanned_by o now ∷ []))
    (overlaid_in 0 (layout_of t).parts) =
    ap (λ (p : Part). Some p) (sym (part_is t o now))
    ∙ ap (option_map (phases.overlaid_on (layout_of t) (scanned_by o now ∷ []))) (sym found) in
    ap (λ (over : Option Part).
    record (kept_with (over_read base 0 r t (scanned_by o now)) c) { overlay = over }) same
kept_over base (suc zero) c r t x o now below found =
    let same : Some (part_by t o now)
    ≡ option_map (phases.overlaid_on (layout_of t) (scanned_by o now ∷ []))
    (overlaid_in 1 (layout_of t).parts) =
    ap (λ (p : Part). Some p) (sym (part_is t o now))
    ∙ ap (option_map (phases.overlaid_on (layout_of t) (scanned_by o now ∷ []))) (sym found) in
    ap (λ (over : Option Part).
    record (kept_with (over_read base 1 r t (scanned_by o now)) c) { overlay = over }) same
kept_over base (suc (suc n)) c r t x o now below found = absurd (omega (arith, below))

-- the table of the slot
table_kept : (size slot : ℕ) (g : Geometry) (t : Table)
    → slot < 2
    → IsKeptTable size g 0 (table_for 0 (slot ∷ []) (t ∷ []))
    → IsKeptTable size g 1 (table_for 1 (slot ∷ []) (t ∷ []))
    → IsTableOf size g slot t
table_kept size zero g t below a b = a
table_kept size (suc zero) g t below a b = b
table_kept size (suc (suc n)) g t below a b = absurd (omega (arith, below))

-- the partitions of the slot
parts_there : (base : UpdateMark) (slot : ℕ) (c : Control) (r : Read) (t : Table) (x : Scanned)
    → slot < 2
    → parts_at (kept_with (over_read base slot r t x) c) slot ≡ Some (parts_of slot (layout_of t))
parts_there base zero c r t x below = refl
parts_there base (suc zero) c r t x below = refl
parts_there base (suc (suc n)) c r t x below = absurd (omega (arith, below))

-- no image has a block of the store
for_miss : (k slot : ℕ) (xs : List Scanned) (t : Table) (blocks : List ℕ) (s : ℕ)
    → All
    (λ (q : Part). NoneIn q.map (sectors_of (first_of t) blocks))
    (parts_of slot (layout_of t))
    → IsOfImages (parts_for k (slot == k) false xs (table_for k (slot ∷ []) (t ∷ []))) s
    → IsOfBlocks (sectors_of (first_of t) blocks) s
    → ⊥
for_miss k slot xs t blocks s apart is here = elim (cases_Bool (slot == k)) [
  | inl same ↦
      let at : IsOfImages (Some (parts_of k (layout_of t))) s = (rw same at is) in
      parts_miss (first_of t) _ blocks s apart
      (subst (λ (n : ℕ). IsOfImages (Some (parts_of n (layout_of t))) s)
      (sym (eqb-true slot k same)) at)
      here
  | inr other ↦ absurd (let none : ⊥ = (rw other at is) in none)
]

-- ---- a device with an overlaid partition

module _ (d : Device) (size : ℕ) (old : Image) (dev : IsDevice d size)
    (is : Represents d size old) (p : Part) (over : d.overlay ≡ Some p)
    (i : IsOver d size old is.read p) where
  abbrev r : Read
  r = is.read

  abbrev pub table : Table
  table = i.table

  abbrev pub base : List ℕ
  base = base_of_over i.table i.over

  abbrev pub store : List ℕ
  store = store_of_over i.table i.over

  abbrev pub part : Part
  part = part_by i.table i.over i.exceptions

  abbrev form : Read
  form = over_read r.mark r.mark.slot r i.table (scanned_by i.over i.exceptions)

  shape : r ≡ form
  shape = (λ k. record {
    mark = record r.mark { phase = i.phase k; overlaid = i.overlaid k };
    statuses = r.statuses;
    control = r.control;
    tail = r.tail;
    geometry = r.geometry;
    tables = i.tables k;
    scanned = i.scanned k;
  })

  d_is : d ≡ kept_with form d.control
  d_is = is.is ∙ ap (λ (x : Read). kept_with x d.control) shape

  of : IsDevice (kept_with form d.control) size
  of = subst (λ (k : Device). IsDevice k size) d_is dev

  below : r.mark.slot < 2
  below = of.slot

  table_is : IsTableOf r.tail.super_end r.geometry r.mark.slot i.table
  table_is = table_kept r.tail.super_end r.mark.slot r.geometry i.table below of.table_a of.table_b

  -- ---- the partition and its store

  on : (ps : List Part) × (parts_at d d.mark.slot ≡ Some ps) × IsOverlaidOn d.tail.super_end ps p
  on = overlaid_on d size p dev over

  pub part_kept : IsPart d.tail.super_end (part_by i.table i.over i.exceptions)
  part_kept = subst (IsPart d.tail.super_end) i.part on.2.part

  pub store_is : IsStore d.tail.super_end base store
  store_is = part_kept.store.0

  pub fits : Fits One (length base) store i.exceptions
  fits = part_kept.store.1

  pub apart : IsApart store
  apart = once_apart (first_of i.table) i.over.store.blocks store_is.once

  pub disjoint : AreDisjoint base store
  disjoint =
      sectors_disjoint (first_of i.table) i.over.part.blocks i.over.store.blocks
      (none_apart (first_of i.table) i.over.part.blocks i.over.store.blocks store_is.apart)

  same_store : on.2.store ≡ store
  same_store =
      let both : Some on.2.store ≡ Some store =
      sym on.2.stored ∙ ap (λ (q : Part). q.store) i.part in
      cc

  parts_are : on.0 ≡ parts_of r.mark.slot (layout_of i.table)
  parts_are =
      let there : parts_at d d.mark.slot ≡ Some (parts_of r.mark.slot (layout_of i.table)) =
      ap (λ (k : Device). parts_at k k.mark.slot) d_is
      ∙ parts_there r.mark r.mark.slot d.control r i.table (scanned_by i.over i.exceptions)
      below in
      let both : Some on.0 ≡ Some (parts_of r.mark.slot (layout_of i.table)) =
      sym on.1 ∙ there in
      cc

  none_in : All (λ (q : Part). NoneIn q.map store) (parts_of r.mark.slot (layout_of i.table))
  none_in =
      subst (λ (ps : List Part). All (λ (q : Part). NoneIn q.map store) ps) parts_are
      (subst (λ (xs : List ℕ). All (λ (q : Part). NoneIn q.map xs) on.0) same_store on.2.apart)

  low : copies_end r.geometry ≤ 512 * first_of i.table
  low = let both = and_parts _ _ table_is.lies in leb-true _ _ both.1

  -- which is the store that is kept
  pub store_stored : (xs : List ℕ)
      → p.store ≡ Some xs
      → (s : ℕ)
      → IsOfBlocks xs s
      → IsOfBlocks store s
  store_stored xs stored s here =
      let both : Some xs ≡ Some store =
      sym stored ∙ ap (λ (q : Part). q.store) i.part in
      let same : xs ≡ store = cc in
      subst (λ (l : List ℕ). IsOfBlocks l s) same here

  -- no image of the slot has a sector of it
  pub none_of_images : (s : ℕ)
      → IsOfImages (parts_at d d.mark.slot) s
      → IsOfBlocks store s
      → ⊥
  none_of_images s source here =
      let there : parts_at d d.mark.slot ≡ Some (parts_of r.mark.slot (layout_of i.table)) =
      ap (λ (k : Device). parts_at k k.mark.slot) d_is
      ∙ parts_there r.mark r.mark.slot d.control r i.table (scanned_by i.over i.exceptions)
      below in
      parts_miss (first_of i.table) _ i.over.store.blocks s none_in
      (subst (λ (o : Option (List Part)). IsOfImages o s) there source) here

  -- its blocks stand behind the copies
  pub behind : (s : ℕ) → IsOfBlocks store s → copies_end r.geometry ≤ 512 * (s - 4096)
  behind s here =
      omega (arith, low, block_behind (first_of i.table) i.over.store.blocks s here)

  -- ---- another image

  module _ (now : List Exception) (new : Image)
      (stay : (s : ℕ) → (IsOfBlocks store s → ⊥) → new s ≡ old s)
      (list : IsList i.table i.over now new) where
    abbrev next : Read
    next = over_read r.mark r.mark.slot r i.table (scanned_by i.over now)

    before : (s : ℕ) → s < 4120 → new s ≡ old s
    before s first = stay s (λ here. omega (arith, first, behind s here))

    of_tables : (s : ℕ) → IsOfTables r.geometry (r.mark.slot ∷ []) s → new s ≡ old s
    of_tables s there =
        stay s
        (λ here.
        omega (
          arith,
          behind s here,
          copies_within r.geometry r.mark.slot s of.geometry below there,
          copies_from r.geometry (r.mark.slot ∷ []) s there,
        ))

    was : Reads size form old
    was = subst (λ (x : Read). Reads size x old) shape is.reads

    version : version_at new ≡ version_at old
    version = version_same old new (before 2048 (omega arith))

    stores : scans_in (stores_of next) new ≡ Ok (scanned_by i.over now ∷ [])
    stores =
        let w = wanted_by i.table i.over in
        ap (λ (o : Option Overlaid). scans_in (wanted_over (layout_of i.table) o) new) i.found
        ∙ ap (λ x. x >>= λ y. scans_in [] new >>= λ rest. Ok (y ∷ rest))
        (read_store i.table i.over now new list)

    reads : Reads size next new
    reads = record {
      enough = was.enough;
      mark = mark_same old new (before 2048 (omega arith)) ∙ was.mark;
      statuses = statuses_kept false old new version (λ no. absurd cc) ∙ was.statuses;
      control = control_same _ _ old new (before 4 (omega arith)) ∙ was.control;
      tail =
          tail_kept r.mark.physical size old new (λ some. before 2113 (omega arith)) ∙ was.tail;
      geometry = geometry_same r.tail.super_end old new
          (before 4104 (omega arith))
          (before 4112 (omega arith))
          ∙ was.geometry;
      tables =
          tables_agree r.tail.super_end r.geometry (r.mark.slot ∷ []) old new of_tables
          ∙ was.tables;
      parts = parts_under next old new version was.parts;
      stores = stores;
      state = was.state;
    }

    kept_is : with_over d p now ≡ kept_with next d.control
    kept_is =
        ap (λ (q : Part). with_over d q now) i.part
        ∙ ap (λ (k : Device). record k { overlay = Some (part_by i.table i.over now) }) d_is
        ∙ kept_over r.mark r.mark.slot d.control r i.table (scanned_by i.over i.exceptions) i.over
        now below i.found

    copies : AgreeCopies r.geometry (r.mark.slot ∷ []) (i.table ∷ []) new
    copies =
        let were : AgreeCopies r.geometry (r.mark.slot ∷ []) (i.table ∷ []) old =
        subst (λ (x : Read). AgreeCopies x.geometry (phase_at x.mark).tables x.tables old) shape
        is.copies in (
          (
            were.0.0,
            were.0.1,
            copy_stays r.geometry r.mark.slot were.0.0 old new of_tables were.0.2,
          ),
          tt,
        )

    pub represents_over : Represents (with_over d p now) size new
    represents_over = record {
      read = next;
      reads = reads;
      is = kept_is;
      control = ap control_of (before 4 (omega arith)) ∙ is.control;
      copies = copies;
      version = version ∙ is.version;
    }

    images : (k : ℕ)
        → images_on new (parts_for k (r.mark.slot == k) false
        (scanned_by i.over i.exceptions ∷ []) (table_for k (r.mark.slot ∷ []) (i.table ∷ [])))
        ≡ images_on old (parts_for k (r.mark.slot == k) false
        (scanned_by i.over i.exceptions ∷ []) (table_for k (r.mark.slot ∷ []) (i.table ∷ [])))
    images k =
        images_same old new _
        (λ s there.
        stay s
        (for_miss k r.mark.slot (scanned_by i.over i.exceptions ∷ []) i.table
        i.over.store.blocks s none_in there))

    images_a : images_on new d.a ≡ images_on old d.a
    images_a =
        subst (λ (k : Device). images_on new k.a ≡ images_on old k.a) (sym d_is) (images 0)

    images_b : images_on new d.b ≡ images_on old d.b
    images_b =
        subst (λ (k : Device). images_on new k.b ≡ images_on old k.b) (sym d_is) (images 1)

    -- it is the state with the overlay that the store then is
    pub mounted_over : mounted_on (with_over d p now) new
        ≡ in_state (mounted_on d old)
        (with_overlay (state_on d old) (Some (overlay_by new (with_list p now))))
    unfolding state_on
    mounted_over =
        let phase : d.mark.phase ≡ marks.Idle = ap (λ (k : Device). k.mark.phase) d_is in
        let plan = unplanned_of d size marks.Idle dev refl phase in
        rw (plan, images_a, images_b) refl
