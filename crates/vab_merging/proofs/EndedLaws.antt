-- With the mark that all stores are merged the disk is the device without an update.
use Rattle.std.proofs.Common.{◌≡◌, ◌≢◌, ◌∙◌, ℕ, zero, suc, ◌+◌, ◌≤◌, ◌<◌, List, [], ◌∷◌, false}
use Rattle.std.proofs.Common.{Ok, refl, sym, ap, subst, arith}
use Rattle.std.specs.Prelude.{Option, Some, None, ◌==◌, map, is_some}
use Rattle.vab_disk.specs.Disk.{Image}
use Rattle.vab_disk.specs.Written.{set_here, set_there}
use Rattle.vab_bootctl.specs.declared.slots.Control.{Control}
use Rattle.vab_bootctl.specs.Control.{control_of}
use Rattle.vab_marks.specs.declared.mark.MarkPhase.{MarkPhase}
use Rattle.vab_marks.specs.declared.mark.MarkPhase.TheVariants as marks
use Rattle.vab_marks.specs.declared.mark.UpdateMark.{UpdateMark}
use Rattle.vab_marks.specs.declared.status.PartStatus.{PartStatus}
use Rattle.vab_marks.specs.Mark.{mark_of, mark_spelling, rephased, resloted}
use Rattle.vab_geometry.specs.declared.geometry.Geometry.{Geometry}
use Rattle.vab_tables.specs.declared.table.Table.{Table}
use Rattle.vab_physical.specs.declared.tail.Tail.{Tail}
use Rattle.vab_layout.specs.declared.layout.Part.{Part as PartOfLayout}
use Rattle.vab_layout.specs.declared.layout.Layout.{Layout}
use Rattle.vab_layout.specs.Layout.{layout_of}
use Rattle.vab_layout.specs.Slots.{own_parts}
use Rattle.vab_partitions.specs.MergingRules.{bad_merging_of}
use Rattle.vab_partitions.proofs.MergingLaws.{own_of_merging}
use Rattle.vab_device.specs.declared.device.Part.{Part}
use Rattle.vab_device.specs.declared.device.PartImage.{PartImage}
use Rattle.vab_device.specs.declared.device.PartImage.TheVariants.{Kept, Declared, Written}
use Rattle.vab_device.specs.declared.device.Device.{Device}
use Rattle.vab_device.specs.Checks.{first_fault, names_none}
use Rattle.vab_device.specs.Idle.{idle_read, control_read_of}
use Rattle.vab_device.specs.Kept.{IsDevice, part_on, group_of}
use Rattle.vab_device.specs.Mounted.{mounted_on, state_on, images_on, image_on, bytes_at}
use Rattle.vab_device.specs.Mounted.{sectors_by, sectors_read, blocks_there, count_of, count_in}
use Rattle.vab_device.specs.Mounted.{count_at}
use Rattle.vab_device.specs.Phases.{phase_in, phase_at, planned_on, slot_checks, own_check}
use Rattle.vab_device.specs.Phases.{merging_check}
use Rattle.vab_device.specs.Reading.{Read, mark_read, mark_in, table_at, tables_in, Reads}
use Rattle.vab_device.specs.Reading.{Represents, AgreeCopies, IsOfImages, IsOfTables}
use Rattle.vab_device.specs.Stores.{Scanned}
use Rattle.vab_device.specs.Updates.{merge_ended}
use Rattle.vab_device.proofs.Behind.{images_behind}
use Rattle.vab_device.proofs.CheckLaws.{first_kept}
use Rattle.vab_device.proofs.IdleLaws.{reads_idle}
use Rattle.vab_device.proofs.OpeningLaws.{control_seen_in}
use Rattle.vab_device.proofs.ReadingLaws.{control_is_seen, single_works, flags_known}
use Rattle.vab_device.proofs.SameLaws.{tail_kept, geometry_same, tables_agree, images_same}
use Rattle.vab_device.proofs.StayLaws.{copy_stays, copies_from, one_of}
use Rattle.vab_device.proofs.Steps.{marked}
use Rattle.vab_device.proofs.UpdateLaws.{kept_with}
use Rattle.vab_merging.specs.Kept.{plain_part, plain_parts, ended_device}
use Rattle.vab_merging.proofs.BegunLaws.{merging_read, none_named}
use Rattle.vab_merging.proofs.KeptLaws.{plain_there}
use Rattle.vab_device.proofs.PhaseCases.{unplanned_of}
use Rattle.vab_device.proofs.MarkLaws.{as_phase}
use Rattle.vab_device.proofs.InPlaceLaws.{seen_plain}
use Rattle.vab_marks.specs.declared.version.MarkVersion.TheVariants.{Two}
use Rattle.vab_names.specs.Names.{most_partitions}
use Rattle.vab_marks.specs.Version.{partitions_under}
use Rattle.vab_device.specs.Reading.{version_at, most_at}
use Rattle.vab_device.proofs.MostLaws.{parts_all}
use Rattle.vab_device.proofs.StayLaws.{version_there}
use Rattle.vab_device.proofs.OverlayLaws.{update_none}
use Rattle.vab_marks.specs.Mark.{is_idle}
use Rattle.vab_device.proofs.ReadingLaws.{bare_known}
use Rattle.vab_device.proofs.StayLaws.{bare_read}

-- the mark is read as that of no update
completed_there : (m : UpdateMark) (image : Image)
    → m.physical ≡ false
    → mark_of (mark_spelling (rephased marks.Completed m)) ≡ Ok (rephased marks.Completed m)
    → image 2048 ≡ mark_spelling (rephased marks.Completed m)
    → mark_in image ≡ Ok (rephased marks.Idle m)
unfolding mark_in
completed_there m image bare read same =
    ap (λ (b : List ℕ). mark_read (mark_of b)) same
    ∙ ap mark_read read
    ∙ bare_read (rephased marks.Completed m) bare

-- ---- images without stores

none_written : (p : Part) (x : PartImage) → count_of x ≡ 0 → sectors_by p x ≡ p.map
none_written p Kept none = refl
none_written p Declared none = refl
none_written p (Written k []) none = seen_plain k (blocks_there p.store) 0 p.map
none_written p (Written k (e ∷ es)) none = absurd (omega (arith, none))

plain_image : (image : Image) (p : Part)
    → count_of p.image ≡ 0
    → image_on image (plain_part p) ≡ image_on image p
plain_image image p none =
    let blocks : p.map ≡ sectors_read p = sym (none_written p p.image none) in
    (λ i. record {
      name = p.name;
      group = group_of p.group;
      bytes = bytes_at image (blocks i);
    })

plain_images : (image : Image) (ps : List Part)
    → count_in ps ≡ 0
    → map (image_on image) (map plain_part ps) ≡ map (image_on image) ps
plain_images image [] none = refl
plain_images image (p ∷ ps) none =
    let here = plain_image image p (omega (arith, none)) in
    let rest = plain_images image ps (omega (arith, none)) in
    (λ i. here i ∷ rest i)

-- where no store has an exception
same_images : (image : Image) (x : Option (List Part))
    → count_at x ≡ 0
    → images_on image (plain_parts x) ≡ images_on image x
same_images image None none = refl
same_images image (Some ps) none = ap Some (plain_images image ps none)

-- ---- what is kept

plain_planned : (l : Layout) (scanned : List Scanned) (ps : List PartOfLayout)
    → map plain_part (map (planned_on l scanned) ps)
    ≡ map (part_on l.device.first_logical_sector) ps
plain_planned l scanned [] = refl
plain_planned l scanned (p ∷ ps) =
    ap (λ (rest : List Part). part_on l.device.first_logical_sector p ∷ rest)
    (plain_planned l scanned ps)

kept_ended : (base : UpdateMark) (slot : ℕ) (ss : List (Option PartStatus)) (seen : Control)
    (tail : Tail) (g : Geometry) (t : Table) (scanned : List Scanned) (c : Control)
    → slot < 2
    → ended_device (kept_with (merging_read base slot ss seen tail g t scanned) c)
    ≡ kept_with (idle_read (rephased marks.Idle (resloted slot base)) c tail g t) c
kept_ended base zero ss seen tail g t scanned c below =
    rw (plain_planned (layout_of t) scanned (own_parts 0 (layout_of t).parts)) refl
kept_ended base (suc zero) ss seen tail g t scanned c below =
    rw (plain_planned (layout_of t) scanned (own_parts 1 (layout_of t).parts)) refl
kept_ended base (suc (suc n)) ss seen tail g t scanned c below = absurd (omega (arith, below))

-- ---- what it means

means_ended : (d : Device) (old new : Image)
    → d.plan ≡ None
    → d.overlay ≡ None
    → is_some (plain_parts d.a) ≡ is_some d.a
    → is_some (plain_parts d.b) ≡ is_some d.b
    → images_on new (plain_parts d.a) ≡ images_on old d.a
    → images_on new (plain_parts d.b) ≡ images_on old d.b
    → mounted_on (ended_device d) new ≡ merge_ended (mounted_on d old)
unfolding state_on
means_ended d old new plan plain some_a some_b a b =
    rw (plan, plain, some_a, some_b, a, b) refl

-- ---- the device with the new mark

module _
    (d : Device) (size : ℕ) (old : Image)
    (dev : IsDevice d size)
    (is : Represents d size old)
    (merging : d.mark.phase ≡ marks.Merging)
    (none : count_at d.a + count_at d.b ≡ 0)
    (read : mark_of (mark_spelling (rephased marks.Completed d.mark))
    ≡ Ok (rephased marks.Completed d.mark)) where
  abbrev r : Read
  r = is.read

  abbrev new : Image
  new = marked old (mark_spelling (rephased marks.Completed d.mark))

  own_mark : d.mark ≡ r.mark
  own_mark = ap (λ (k : Device). k.mark) is.is

  own : d.mark.slot ≡ r.mark.slot
  own = ap (λ (m : UpdateMark). m.slot) own_mark

  phase : r.mark.phase ≡ marks.Merging
  phase = sym (ap (λ (k : Device). k.mark.phase) is.is) ∙ merging

  elsewhere : (s : ℕ) → s ≢ 2048 → new s ≡ old s
  elsewhere s other = set_there old 2048 (mark_spelling (rephased marks.Completed d.mark)) s other

  of_tables : (s : ℕ) → IsOfTables r.geometry (r.mark.slot ∷ []) s → new s ≡ old s
  of_tables s there =
      elsewhere s (λ e. omega (arith, e, copies_from r.geometry (r.mark.slot ∷ []) s there))

  one : (t : Table) × (r.tables ≡ t ∷ [])
      × (table_at r.tail.super_end r.geometry r.mark.slot old ≡ Ok t)
  one =
      one_of r.tail.super_end r.geometry r.mark.slot old r.tables
      (subst
      (λ (p : MarkPhase).
      tables_in r.tail.super_end r.geometry (phase_in p r.mark).tables old ≡ Ok r.tables)
      phase is.reads.tables)

  abbrev shaped : Read
  shaped = merging_read r.mark r.mark.slot r.statuses r.control r.tail r.geometry one.0 r.scanned

  shape : r ≡ shaped
  shape = (λ i. record {
    mark = as_phase r.mark marks.Merging (flags_known old r.mark is.reads.mark) refl phase i;
    statuses = r.statuses;
    control = r.control;
    tail = r.tail;
    geometry = r.geometry;
    tables = one.1 i;
    scanned = r.scanned;
  })

  reads : Reads size shaped old
  reads = subst (λ (x : Read). Reads size x old) shape is.reads

  -- ---- the rules

  version_new : version_at new ≡ Two
  version_new =
      version_there (rephased marks.Completed d.mark) new
      (set_here old 2048 (mark_spelling (rephased marks.Completed d.mark)) 2048 refl)

  own_rules : own_check (most_at new) r.mark.slot one.0 ≡ None
  own_rules =
      let most : ℕ = most_partitions in
      let named : merging_check most r.mark.slot one.0 ≡ None =
      (first_kept (merging_check most r.mark.slot one.0) [] (parts_all shaped old reads.parts)).0
      in
      let kept : bad_merging_of most r.mark.slot (layout_of one.0).parts ≡ None =
      none_named (bad_merging_of most r.mark.slot (layout_of one.0).parts) named in
      let own : own_check most r.mark.slot one.0 ≡ None =
      ap names_none
      (own_of_merging most r.mark.slot (layout_of one.0).parts (omega arith) kept) in
      subst (λ v. own_check (partitions_under v) r.mark.slot one.0 ≡ None) (sym version_new) own

  seen_is : r.control ≡ control_read_of r.mark.slot d.control
  seen_is =
      control_is_seen (r.mark.slot == 0) (r.mark.slot == 1) old d.control r.control reads.control
      is.control

  works : first_fault (slot_checks r.mark.slot (control_read_of r.mark.slot d.control)) ≡ None
  works =
      ap (λ (c : Control). first_fault (slot_checks r.mark.slot c)) (sym seen_is)
      ∙ single_works shaped refl reads.state

  -- ---- what is read

  control_new : control_of (new 4) ≡ Ok d.control
  control_new = ap control_of (elsewhere 4 (λ e. omega (arith, e))) ∙ is.control

  table_new : table_at r.tail.super_end r.geometry r.mark.slot new ≡ Ok one.0
  table_new =
      let there : tables_in r.tail.super_end r.geometry (r.mark.slot ∷ []) new ≡ Ok (one.0 ∷ []) =
      tables_agree r.tail.super_end r.geometry (r.mark.slot ∷ []) old new of_tables
      ∙ reads.tables in
      let now = one_of r.tail.super_end r.geometry r.mark.slot new (one.0 ∷ []) there in
      let both : one.0 ∷ [] ≡ now.0 ∷ [] = now.1 in
      now.2 ∙ (let e : now.0 ≡ one.0 = cc in ap Ok e)

  mark_new : mark_in new ≡ Ok (rephased marks.Idle r.mark)
  mark_new =
      subst (λ (m : UpdateMark). mark_in new ≡ Ok (rephased marks.Idle m)) own_mark
      (completed_there d.mark new
      (ap (λ (m : UpdateMark). m.physical) own_mark ∙ bare_known old r.mark is.reads.mark) read
      (set_here old 2048 (mark_spelling (rephased marks.Completed d.mark)) 2048 refl))

  abbrev ended_read : Read
  ended_read = idle_read (rephased marks.Idle r.mark) d.control r.tail r.geometry one.0

  reads_new : Reads size ended_read new
  reads_new =
      reads_idle size new (rephased marks.Idle r.mark) is.reads.enough mark_new refl d.control
      r.tail r.geometry
      one.0 refl
      (control_seen_in _ _ new d.control control_new)
      (tail_kept r.mark.physical size old new
      (λ some. elsewhere 2113 (λ e. omega (arith, e)))
      ∙ is.reads.tail)
      (geometry_same r.tail.super_end old new
      (elsewhere 4104 (λ e. omega (arith, e)))
      (elsewhere 4112 (λ e. omega (arith, e)))
      ∙ is.reads.geometry)
      table_new own_rules works

  kept_is : ended_device d ≡ kept_with ended_read d.control
  kept_is =
      ap ended_device (is.is ∙ ap (λ (x : Read). kept_with x d.control) shape)
      ∙ kept_ended r.mark r.mark.slot r.statuses r.control r.tail r.geometry one.0 r.scanned
      d.control (omega (arith, dev.slot, own))

  copies : AgreeCopies r.geometry (r.mark.slot ∷ []) (one.0 ∷ []) new
  copies =
      let were : AgreeCopies r.geometry (r.mark.slot ∷ []) (one.0 ∷ []) old =
      subst (λ (x : Read). AgreeCopies x.geometry (phase_at x.mark).tables
      x.tables old) shape is.copies in (
        (
          were.0.0,
          were.0.1,
          copy_stays r.geometry r.mark.slot were.0.0 old new of_tables were.0.2,
        ),
        tt,
      )

  pub ended_represents : Represents (ended_device d) size new
  ended_represents = record {
    read = ended_read;
    reads = reads_new;
    is = kept_is;
    control = control_new;
    copies = copies;
    version = version_new;
  }

  -- ---- the images

  of_images : (parts : Option (List Part))
      → ((s : ℕ) → IsOfImages parts s → 4096 ≤ s)
      → count_at parts ≡ 0
      → images_on new (plain_parts parts) ≡ images_on old parts
  of_images parts behind empty =
      same_images new parts empty
      ∙ images_same old new parts (λ s there. elsewhere s (λ e. omega (arith, e, behind s there)))

  pub ended_means : mounted_on (ended_device d) new ≡ merge_ended (mounted_on d old)
  ended_means =
      means_ended d old new (unplanned_of d size marks.Merging dev refl merging)
      (update_none d size dev (ap is_idle merging))
      (plain_there d.a) (plain_there d.b)
      (of_images d.a
      (λ s there.
      images_behind size 4096 0 _ _ is.read old s is.reads (omega arith)
      (subst (λ (k : Device). IsOfImages k.a s) is.is there))
      (omega (arith, none)))
      (of_images d.b
      (λ s there.
      images_behind size 4096 1 _ _ is.read old s is.reads (omega arith)
      (subst (λ (k : Device). IsOfImages k.b s) is.is there))
      (omega (arith, none)))
