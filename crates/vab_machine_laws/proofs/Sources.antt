-- The slot of an update's source, or of a device without an update and an overlay: its table and
-- its images.
use Rattle.std.proofs.Common.{◌≡◌, ◌∙◌, ℕ, zero, suc, ◌≤◌, ◌<◌, List, [], ◌∷◌}
use Rattle.std.proofs.Common.{refl, sym, ap, subst, arith, Ok, eqb}
use Rattle.std.specs.Prelude.{Option, Some, None, map}
use Rattle.std.proofs.lemmas.Bool.{leb-true, eqb-true}
use Rattle.vab_disk.specs.Disk.{Image}
use Rattle.vab_bootctl.specs.declared.slots.Control.{Control}
use Rattle.vab_bootctl.specs.Boot.{info_at}
use Rattle.vab_marks.specs.declared.mark.MarkPhase.TheVariants as marks
use Rattle.vab_marks.specs.declared.status.PartStatus.{PartStatus}
use Rattle.vab_marks.specs.declared.mark.UpdateMark.{UpdateMark}
use Rattle.vab_marks.specs.Mark.{rephased, resloted}
use Rattle.vab_tables.specs.declared.table.Table.{Table}
use Rattle.vab_tables.specs.Rules.{cap_of}
use Rattle.vab_geometry.specs.declared.geometry.Geometry.{Geometry}
use Rattle.vab_names.specs.Names.{most_partitions}
use Rattle.vab_layout.specs.declared.layout.Layout.{Layout}
use Rattle.vab_layout.specs.Layout.{layout_of}
use Rattle.vab_layout.specs.Plain.{plain}
use Rattle.vab_layout.specs.Slots.{other_slot, IsOwn}
use Rattle.vab_layout.proofs.LayoutLaws.{layout_keeps}
use Rattle.vab_partitions.proofs.OwnRules.{own_kept}
use Rattle.vab_model.specs.declared.state.Image.{Image as ImageOfSlot}
use Rattle.vab_model.specs.declared.state.Plan.{Plan}
use Rattle.vab_model.specs.declared.state.Phase.TheVariants.{Idle, Installing}
use Rattle.vab_model.specs.State.{images_at}
use Rattle.vab_device.specs.declared.fault.StartFault.TheVariants.{BadState}
use Rattle.vab_device.specs.Checks.{Check, check}
use Rattle.vab_device.specs.Kept.{parts_of, AreParts}
use Rattle.vab_device.specs.Mounted.{Mounted, mounted_on, state_on, image_on, phase_on}
use Rattle.vab_device.specs.Mounted.{overlay_on}
use Rattle.vab_device.specs.Phases.{is_good, own_check, twin_check, target_check, no_store_check}
use Rattle.vab_device.specs.Reading.{Read, kept, IsIn, Reads, table_at}
use Rattle.vab_device.specs.Stores.{Scanned}
use Rattle.vab_device.specs.Updates.{layout_at}
use Rattle.vab_device.proofs.CheckLaws.{first_kept, check_kept}
use Rattle.vab_device.proofs.MostLaws.{parts_all}
use Rattle.vab_device.proofs.OwnParts.{parts_kept}
use Rattle.vab_device.proofs.MarkLaws.{as_phase}
use Rattle.vab_device.proofs.ReadingLaws.{device_was, slot_below, flags_known}
use Rattle.vab_device.proofs.StayLaws.{one_of}
use Rattle.vab_edit.proofs.InstallingLaws.{read_at, two_tables}
use Rattle.vab_physical.specs.declared.tail.Tail.{Tail}
use Rattle.vab_targets.specs.Sectors.{HasWholeSectors}
use Rattle.vab_targets.proofs.EndLaws.{EndsOn, tail_ends, whole_front}
use Rattle.vab_targets.proofs.Sectors.{table_rules, IsRead}
use Rattle.vab_targets.proofs.Installed.{IsReadAs, none_named, installing_of}
use Rattle.vab_targets.proofs.PlainIdle.{plain_idle}

-- The slot of the update mark: its table, whose partitions have the slot's images, and the blocks
-- of the device; and where `super` ends.
pub record HasSource (size : ℕ) (image : Image) (m : Mounted) (slot : ℕ) : Type 0 where
  pub l : Layout
  pub below : slot < 2
  pub from : layout_at m.places slot ≡ Some (plain slot l)
  pub pictures : List ImageOfSlot
  pub images : images_at m.state slot ≡ Some pictures
  pub are : pictures ≡ map (image_on image) (parts_of slot l)
  pub cap : m.state.cap ≡ cap_of l.device
  pub super_end : ℕ
  pub ends : super_end ≤ size
  pub parts : AreParts super_end (parts_of slot l)

-- ---- without an update and an overlay

abbrev idle_at : UpdateMark
    → ℕ
    → List (Option PartStatus)
    → Control
    → Tail
    → Geometry
    → Table
    → List Scanned
    → Read
idle_at base slot statuses c tail g t scanned = record {
  mark = rephased marks.Idle (resloted slot base);
  statuses = statuses;
  control = c;
  tail = tail;
  geometry = g;
  tables = t ∷ [];
  scanned = scanned;
}

phase_said : (r : Read) (image : Image)
    → (mounted_on (kept r) image).state.phase ≡ phase_on (kept r) image
unfolding state_on
phase_said r image = refl

overlay_said : (r : Read) (image : Image)
    → (mounted_on (kept r) image).state.overlay ≡ overlay_on image (kept r).overlay
unfolding state_on
overlay_said r image = refl

module _
    (size : ℕ) (image : Image) (base : UpdateMark) (slot : ℕ)
    (statuses : List (Option PartStatus)) (c : Control) (tail : Tail) (g : Geometry)
    (t : Table) (ss : List Scanned)
    (whole : HasWholeSectors size image)
    (reads : Reads size (idle_at base slot statuses c tail g t ss) image)
    (table : table_at tail.super_end g slot image ≡ Ok t) where
  abbrev r : Read
  r = idle_at base slot statuses c tail g t ss

  lower : slot < 2
  lower = slot_below image r.mark reads.mark

  ending : EndsOn size tail
  ending =
      tail_ends base.physical size image tail (leb-true 4120 size reads.enough) reads.tail

  inside : HasWholeSectors tail.super_end image
  inside = whole_front tail.super_end size image ending.1 whole

  from_at : (k : ℕ)
      → k < 2
      → layout_at (mounted_on (kept (idle_at base k statuses c tail g t ss)) image).places k
      ≡ Some (plain k (layout_of t))
  from_at zero lt = refl
  from_at (suc zero) lt = refl
  from_at (suc (suc n)) lt = absurd (omega (arith, lt))

  images_are : (k : ℕ)
      → k < 2
      → images_at (mounted_on (kept (idle_at base k statuses c tail g t ss)) image).state k
      ≡ Some (map (image_on image) (parts_of k (layout_of t)))
  unfolding state_on
  images_are zero lt = refl
  images_are (suc zero) lt = refl
  images_are (suc (suc n)) lt = absurd (omega (arith, lt))

  cap_is : (mounted_on (kept r) image).state.cap ≡ cap_of (layout_of t).device
  unfolding state_on
  cap_is = refl

  idle_parts : AreParts tail.super_end (parts_of slot (layout_of t))
  idle_parts =
      let own : IsOwn slot (layout_of t).parts =
      own_kept most_partitions slot (layout_of t).parts (omega arith)
      (none_named _
      (first_kept (own_check most_partitions slot t) [] (parts_all r image reads.parts)).0) in
      let read : IsRead tail.super_end g t =
      table_rules tail.super_end image g slot t inside ending.0 lower reads.geometry table in
      parts_kept tail.super_end slot g (layout_of t) ending.0 (layout_keeps t read.rules) own
      read.lies

  -- the slot of the mark is current
  pub current_on : (mounted_on (kept r) image).state.control.current ≡ slot
  unfolding state_on
  current_on =
      let at : Check = check (eqb c.current slot) (BadState 1) in
      let good : Check = check (is_good (info_at c slot)) (BadState 2) in
      eqb-true c.current slot
      (check_kept (eqb c.current slot) (BadState 1) (first_kept at (good ∷ []) reads.state).0)

  pub idle_source : HasSource size image (mounted_on (kept r) image) slot
  idle_source = record {
    l = layout_of t;
    below = lower;
    from = from_at slot lower;
    pictures = map (image_on image) (parts_of slot (layout_of t));
    images = images_are slot lower;
    are = refl;
    cap = cap_is;
    super_end = tail.super_end;
    ends = ending.1;
    parts = idle_parts;
  }

pub has_idle : (size : ℕ) (image : Image) (m : Mounted)
    → HasWholeSectors size image
    → IsIn size m image
    → m.state.phase ≡ Idle
    → m.state.overlay ≡ None
    → HasSource size image m m.state.control.current
has_idle size image m whole is phase none =
    let was = device_was size image m is in
    let r : Read = was.read in
    let is_marked = plain_idle size r image was.reads
    (sym (phase_said r image) ∙ sym (ap (λ (x : Mounted). x.state.phase) was.is) ∙ phase)
    (sym (overlay_said r image) ∙ sym (ap (λ (x : Mounted). x.state.overlay) was.is) ∙ none) in
    let marked : r ≡ record r { mark = rephased marks.Idle r.mark } =
    (λ i. record r { mark = is_marked i }) in
    let now = subst (IsReadAs size image m) marked (record { reads = was.reads; is = was.is }) in
    let one = one_of r.tail.super_end r.geometry r.mark.slot image r.tables now.reads.tables in
    let form : record r { mark = rephased marks.Idle r.mark }
    ≡ idle_at r.mark r.mark.slot r.statuses r.control r.tail r.geometry one.0 r.scanned =
    (λ i. record {
      mark = rephased marks.Idle r.mark;
      statuses = r.statuses;
      control = r.control;
      tail = r.tail;
      geometry = r.geometry;
      tables = one.1 i;
      scanned = r.scanned;
    }) in
    let read = subst (IsReadAs size image m) form now in
    let there = idle_source size image r.mark r.mark.slot r.statuses r.control r.tail r.geometry
    one.0
    r.scanned
    whole read.reads one.2 in
    let current = current_on size image r.mark r.mark.slot r.statuses r.control r.tail r.geometry
    one.0
    r.scanned
    whole read.reads one.2 in
    let at : HasSource size image (mounted_on (kept
    (idle_at r.mark r.mark.slot r.statuses r.control r.tail r.geometry one.0 r.scanned)) image)
    (mounted_on (kept
    (idle_at r.mark r.mark.slot r.statuses r.control r.tail r.geometry one.0 r.scanned))
    image).state.control.current =
    subst (HasSource size image (mounted_on (kept
    (idle_at r.mark r.mark.slot r.statuses r.control r.tail r.geometry one.0 r.scanned)) image))
    (sym current)
    there in
    subst (λ (x : Mounted). HasSource size image x x.state.control.current) (sym read.is) at

-- ---- while an update is installed

-- the mark's slot is the source
source_of : (base : UpdateMark) (k : ℕ) (statuses : List (Option PartStatus)) (seen : Control)
    (tail : Tail) (g : Geometry) (s t : Table) (ss : List Scanned) (image : Image) (source : ℕ)
    (plan : Plan)
    → (mounted_on (kept (read_at base k statuses seen tail g s t ss)) image).state.phase
    ≡ Installing source plan
    → k ≡ source
unfolding state_on
source_of base k statuses seen tail g s t ss image source plan is = cc

module _
    (size : ℕ) (image : Image) (base : UpdateMark) (slot : ℕ)
    (statuses : List (Option PartStatus)) (seen : Control) (tail : Tail) (g : Geometry)
    (s t : Table) (ss : List Scanned)
    (whole : HasWholeSectors size image)
    (reads : Reads size (read_at base slot statuses seen tail g s t ss) image) where
  abbrev both : Read
  both = read_at base slot statuses seen tail g s t ss

  under : slot < 2
  under = slot_below image both.mark reads.mark

  ended : EndsOn size tail
  ended =
      tail_ends base.physical size image tail (leb-true 4120 size reads.enough) reads.tail

  within : HasWholeSectors tail.super_end image
  within = whole_front tail.super_end size image ended.1 whole

  source_at : (k : ℕ)
      → k < 2
      → layout_at (mounted_on (kept (read_at base k statuses seen tail g s t ss)) image).places k
      ≡ Some (plain k (layout_of s))
  source_at zero lt = refl
  source_at (suc zero) lt = refl
  source_at (suc (suc n)) lt = absurd (omega (arith, lt))

  drawn : (k : ℕ)
      → k < 2
      → images_at (mounted_on (kept (read_at base k statuses seen tail g s t ss)) image).state k
      ≡ Some (map (image_on image) (parts_of k (layout_of s)))
  unfolding state_on
  drawn zero lt = refl
  drawn (suc zero) lt = refl
  drawn (suc (suc n)) lt = absurd (omega (arith, lt))

  blocks_are : (mounted_on (kept both) image).state.cap ≡ cap_of (layout_of s).device
  unfolding state_on
  blocks_are = refl

  source_parts : AreParts tail.super_end (parts_of slot (layout_of s))
  source_parts =
      let o : ℕ = other_slot slot in
      let checked : Check = own_check most_partitions slot s in
      let rest : List Check =
      target_check base.apart most_partitions o s t ∷ no_store_check base.apart t ∷ [] in
      let one = first_kept (twin_check o s t) (checked ∷ rest)
      (parts_all both image reads.parts) in
      let two = first_kept checked rest one.1 in
      let own : IsOwn slot (layout_of s).parts =
      own_kept most_partitions slot (layout_of s).parts (omega arith) (none_named _ two.0) in
      let tables = two_tables tail.super_end g slot o image (s ∷ t ∷ []) reads.tables in
      let are : tables.source ∷ tables.target ∷ [] ≡ s ∷ t ∷ [] = sym tables.are in
      let same : tables.source ≡ s = cc in
      let read : IsRead tail.super_end g s =
      subst (IsRead tail.super_end g) same
      (table_rules tail.super_end image g slot tables.source within ended.0 under reads.geometry
      tables.source_read) in
      parts_kept tail.super_end slot g (layout_of s) ended.0 (layout_keeps s read.rules) own
      read.lies

  pub installing_source : HasSource size image (mounted_on (kept both) image) slot
  installing_source = record {
    l = layout_of s;
    below = under;
    from = source_at slot under;
    pictures = map (image_on image) (parts_of slot (layout_of s));
    images = drawn slot under;
    are = refl;
    cap = blocks_are;
    super_end = tail.super_end;
    ends = ended.1;
    parts = source_parts;
  }

pub has_source : (size : ℕ) (image : Image) (m : Mounted) (source : ℕ) (plan : Plan)
    → HasWholeSectors size image
    → IsIn size m image
    → m.state.phase ≡ Installing source plan
    → HasSource size image m source
has_source size image m source plan whole is phase =
    let was = device_was size image m is in
    let r : Read = was.read in
    let installing : r.mark.phase ≡ marks.Installing =
    installing_of r image source plan
    (sym (ap (λ (x : Mounted). x.state.phase) was.is) ∙ phase) in
    let is_marked = as_phase r.mark marks.Installing (flags_known image r.mark was.reads.mark) refl
    installing in
    let marked : r ≡ record r { mark = rephased marks.Installing r.mark } =
    (λ i. record r { mark = is_marked i }) in
    let now = subst (IsReadAs size image m) marked (record { reads = was.reads; is = was.is }) in
    let two = two_tables r.tail.super_end r.geometry r.mark.slot (other_slot r.mark.slot) image
    r.tables
    now.reads.tables in
    let form : record r { mark = rephased marks.Installing r.mark }
    ≡ read_at r.mark r.mark.slot r.statuses r.control r.tail r.geometry two.source two.target
    r.scanned =
    (λ i. record {
      mark = rephased marks.Installing r.mark;
      statuses = r.statuses;
      control = r.control;
      tail = r.tail;
      geometry = r.geometry;
      tables = two.are i;
      scanned = r.scanned;
    }) in
    let read = subst (IsReadAs size image m) form now in
    let there = installing_source size image r.mark r.mark.slot r.statuses r.control r.tail
    r.geometry
    two.source
    two.target r.scanned whole read.reads in
    let same = source_of r.mark r.mark.slot r.statuses r.control r.tail r.geometry two.source
    two.target
    r.scanned
    image source plan (sym (ap (λ (x : Mounted). x.state.phase) read.is) ∙ phase) in
    subst (λ (x : Mounted). HasSource size image x source) (sym read.is)
    (subst (HasSource size image (mounted_on (kept (read_at r.mark r.mark.slot r.statuses r.control
    r.tail r.geometry two.source two.target r.scanned)) image)) same there)
