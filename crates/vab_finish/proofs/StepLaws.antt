-- The step of a finish, of a device.
use Rattle.std.proofs.Common.{◌≡◌, ◌∙◌, ℕ, zero, suc, ◌<◌, true, List, [], ◌∷◌, Ok, refl, sym, ap}
use Rattle.std.proofs.Common.{subst, arith, false}
use Rattle.std.specs.Prelude.{Option, Some, None, is_some, map}
use Rattle.vab_disk.specs.Disk.{Image}
use Rattle.vab_disk.specs.Calls.{SameBut}
use Rattle.vab_names.specs.Names.{base_of, in_slot}
use Rattle.vab_bootctl.specs.declared.slots.Control.{Control}
use Rattle.vab_bootctl.specs.Control.{control_of}
use Rattle.vab_marks.specs.declared.mark.MarkPhase.{MarkPhase}
use Rattle.vab_marks.specs.declared.mark.MarkPhase.TheVariants as marks
use Rattle.vab_marks.specs.declared.status.PartStatus.{PartStatus}
use Rattle.vab_marks.specs.declared.mark.UpdateMark.{UpdateMark}
use Rattle.vab_marks.specs.Mark.{mark_of, mark_spelling, rephased, resloted}
use Rattle.vab_geometry.specs.declared.geometry.Geometry.{Geometry}
use Rattle.vab_physical.specs.declared.tail.Tail.{Tail}
use Rattle.vab_tables.specs.declared.table.Table.{Table}
use Rattle.vab_layout.specs.Layout.{layout_of}
use Rattle.vab_layout.specs.Slots.{other_slot, own_parts, blocks_named}
use Rattle.vab_install.specs.Control.{cleared_of, IsControl}
use Rattle.vab_model.specs.declared.command.Reply.TheVariants as replies
use Rattle.vab_model.specs.Commands.{Finish}
use Rattle.vab_model.specs.Effects.{does}
use Rattle.vab_device.specs.declared.device.Part.{Part}
use Rattle.vab_device.specs.declared.device.Device.{Device}
use Rattle.vab_device.specs.Kept.{IsDevice, AreOfUpdate, is_installing, sectors_of}
use Rattle.vab_device.specs.Mounted.{Mounted, mounted_on, state_on, bytes_at, image_on, entry_on}
use Rattle.vab_device.specs.Phases.{phase_in, phase_at, are_ready, plan_of}
use Rattle.vab_device.specs.Reading.{Read, Reads, Represents}
use Rattle.vab_device.specs.Reading.{AgreeCopies, Dead, tables_in, table_at}
use Rattle.vab_device.specs.Stores.{Scanned}
use Rattle.vab_device.specs.Flashed.{source_bytes}
use Rattle.vab_device.specs.Updates.{finished, final_image}
use Rattle.vab_begin.proofs.BegunLaws.{device_same}
use Rattle.vab_device.proofs.UpdateLaws.{update_read, kept_with}
use Rattle.vab_device.proofs.StayLaws.{two_of}
use Rattle.vab_device.proofs.Steps.{marked, IsStep}
use Rattle.vab_finish.specs.Finished.{finished_device}
use Rattle.vab_finish.specs.Ready.{MayFinish}
use Rattle.vab_finish.proofs.FinalLaws.{source_named, final_all}
use Rattle.vab_finish.proofs.FinishedLaws.{same_read, reads_new, control_new, copies_new, images_a}
use Rattle.vab_finish.proofs.FinishedLaws.{images_b, kept_finished, means_a, means_b}
use Rattle.vab_finish.proofs.ReadyLaws.{plan_on, ready_of, finish_by}
use Rattle.vab_marks.specs.declared.version.MarkVersion.TheVariants.{Two}
use Rattle.vab_device.specs.Reading.{version_at}
use Rattle.vab_finish.proofs.FinishedLaws.{version_new}
use Rattle.vab_device.proofs.MarkLaws.{as_phase}
use Rattle.vab_device.proofs.ReadingLaws.{flags_known}

installing_only : (p : MarkPhase) → is_installing p ≡ true → p ≡ marks.Installing
installing_only marks.Idle is = absurd cc
installing_only marks.Installing is = refl
installing_only marks.Staged is = absurd cc
installing_only marks.Merging is = absurd cc
installing_only marks.Completed is = absurd cc

pub installing_of : (d : Device) (size : ℕ)
    → IsDevice d size
    → MayFinish d
    → d.mark.phase ≡ marks.Installing
installing_of d size dev ready =
    installing_only d.mark.phase (sym dev.planned ∙ ap is_some ready.plan_is)

-- the tables are those of an update
update_of : (base : UpdateMark) (slot : ℕ) (ss : List (Option PartStatus)) (seen : Control)
    (tail : Tail) (g : Geometry) (t u : Table)
    (scanned : List Scanned) (c : Control) (size : ℕ)
    → slot < 2
    → IsDevice (kept_with
    (update_read (rephased marks.Installing (resloted slot base)) ss seen tail g t u scanned) c)
    size
    → AreOfUpdate base.apart slot t u
update_of base zero ss seen tail g t u scanned c size below dev = dev.update
update_of base (suc zero) ss seen tail g t u scanned c size below dev = dev.update
update_of base (suc (suc n)) ss seen tail g t u scanned c size below dev = absurd (omega (
  arith,
  below,
))

-- the source's images are those of the first table
source_of : (base : UpdateMark) (slot : ℕ) (ss : List (Option PartStatus)) (seen : Control)
    (tail : Tail) (g : Geometry) (t u : Table)
    (scanned : List Scanned) (c : Control) (image : Image) (name : List ℕ)
    → slot < 2
    → source_bytes
    (state_on (kept_with (update_read (rephased marks.Installing (resloted slot base)) ss seen tail
    g t u scanned) c) image) slot
    (base_of name)
    ≡ bytes_at image (sectors_of (layout_of t).device.first_logical_sector
    (blocks_named (in_slot slot name) (layout_of t).parts))
unfolding state_on
source_of base zero ss seen tail g t u scanned c image name below =
    source_named image (layout_of t).device.first_logical_sector 0 name (layout_of t).parts
source_of base (suc zero) ss seen tail g t u scanned c image name below =
    source_named image (layout_of t).device.first_logical_sector 1 name (layout_of t).parts
source_of base (suc (suc n)) ss seen tail g t u scanned c image name below =
    absurd (omega (arith, below))

module _ (told : Type 0) (size : ℕ) (old : Image) where
  abbrev pub Writes : Device → ℕ → List ℕ → Type 0
  Writes d = IsControl told (cleared_of d.control (other_slot d.mark.slot)) (old 4)

  abbrev DeadOf : Device → Read → Type 0
  DeadOf d r =
      IsDevice d size
      → Reads size r old
      → control_of (old 4) ≡ Ok d.control
      → Dead size r old (Writes d)

  -- what is shown of the next device
  record IsNext (d : Device) (plan : List Part) (new : Image) : Type 0 where
    represents : Represents (finished_device d) size new
    means : mounted_on (finished_device d) new
        ≡ finished (mounted_on d old) d.mark.slot (plan_on d old plan)

  abbrev NextOf : Image → Device → Read → Type 0
  NextOf mid d r =
      IsDevice d size
      → Reads size r old
      → control_of (old 4) ≡ Ok d.control
      → AgreeCopies r.geometry (phase_at r.mark).tables r.tables old
      → version_at old ≡ Two
      → SameBut (Writes d) old mid
      → control_of (mid 4) ≡ Ok (cleared_of d.control (other_slot d.mark.slot))
      → mark_of (mark_spelling (rephased marks.Staged d.mark)) ≡ Ok (rephased marks.Staged d.mark)
      → (ready : MayFinish d)
      → IsNext d ready.plan (marked mid (mark_spelling (rephased marks.Staged d.mark)))

  module _
      (base : UpdateMark) (slot : ℕ) (ss : List (Option PartStatus)) (seen : Control)
      (tail : Tail) (g : Geometry)
      (t u : Table)
      (scanned : List Scanned) (c : Control) where
    abbrev was : Device
    was = kept_with (update_read (rephased marks.Installing (resloted slot base)) ss seen tail g t u
        scanned) c

    abbrev planned : List Part
    planned = plan_of (other_slot slot) (layout_of u) scanned

    dead_shape : DeadOf was
        (update_read (rephased marks.Installing (resloted slot base)) ss seen tail g t u scanned)
    dead_shape dev reads whole new same =
        same_read base slot ss seen tail g t u scanned c told size old new dev.slot reads whole same

    module _
        (mid : Image)
        (dev : IsDevice was size)
        (reads : Reads size (update_read (rephased marks.Installing (resloted slot base)) ss seen
        tail g t u scanned) old)
        (whole : control_of (old 4) ≡ Ok c)
        (copies : AgreeCopies g (slot ∷ other_slot slot ∷ []) (t ∷ u ∷ []) old)
        (version : version_at old ≡ Two)
        (same : SameBut (Writes was) old mid)
        (prepared : control_of (mid 4) ≡ Ok (cleared_of c (other_slot slot)))
        (read : mark_of (mark_spelling (rephased marks.Staged (resloted slot base)))
        ≡ Ok (rephased marks.Staged (resloted slot base)))
        (ready : are_ready planned ≡ true) where
      abbrev new : Image
      new = marked mid (mark_spelling (rephased marks.Staged (resloted slot base)))

      represents : Represents (finished_device was) size new
      represents = record {
        read = update_read (rephased marks.Staged (resloted slot base)) ss
            (cleared_of c (other_slot slot)) tail g t u scanned;
        reads = reads_new base slot ss seen tail g t u scanned c told size old mid dev.slot reads
            whole same
            prepared copies version read ready;
        is = kept_finished base slot ss seen tail g t u scanned c dev.slot;
        control = control_new base slot ss seen tail g t u scanned c told size old mid dev.slot
            reads whole
            same prepared copies version read ready;
        copies = copies_new base slot ss seen tail g t u scanned c told size old mid dev.slot reads
            whole same prepared copies version read ready;
        version = version_new base slot ss seen tail g t u scanned c told size old mid dev.slot
            reads whole
            same prepared copies version read ready;
      }

      final_same : map (final_image (state_on was old) slot) (map (entry_on old) planned)
          ≡ map (image_on old) planned
      final_same =
          let update = update_of base slot ss seen tail g t u scanned c size dev.slot dev in
          final_all base.apart slot (layout_of t) (layout_of u) scanned (state_on was old) old
          dev.slot
          (ap (λ d. d.first_logical_sector) (device_same u t update.device))
          (λ name. source_of base slot ss seen tail g t u scanned c old name dev.slot)
          (own_parts (other_slot slot) (layout_of u).parts) update.target.each ready

    some_same : (x : List Part) (new : Image)
        → Some (map (image_on new) x) ≡ Some (map (image_on old) x)
        → map (image_on new) x ≡ map (image_on old) x
    some_same x new is = cc

  means_shape : (base : UpdateMark) (slot : ℕ) (ss : List (Option PartStatus)) (seen : Control)
      (tail : Tail) (g : Geometry)
      (t u : Table) (scanned : List Scanned) (c : Control) (mid : Image)
      (dev : IsDevice (was base slot ss seen tail g t u scanned c) size)
      (reads : Reads size (update_read (rephased marks.Installing (resloted slot base)) ss seen tail
      g t u scanned) old)
      (whole : control_of (old 4) ≡ Ok c)
      (copies : AgreeCopies g (slot ∷ other_slot slot ∷ []) (t ∷ u ∷ []) old)
      (version : version_at old ≡ Two)
      (same : SameBut (Writes (was base slot ss seen tail g t u scanned c)) old mid)
      (prepared : control_of (mid 4) ≡ Ok (cleared_of c (other_slot slot)))
      (read : mark_of (mark_spelling (rephased marks.Staged (resloted slot base)))
      ≡ Ok (rephased marks.Staged (resloted slot base)))
      (ready : are_ready (planned base slot ss seen tail g t u scanned c) ≡ true)
      → mounted_on (finished_device (was base slot ss seen tail g t u scanned c))
      (marked mid (mark_spelling (rephased marks.Staged (resloted slot base))))
      ≡ finished (mounted_on (was base slot ss seen tail g t u scanned c) old) slot
      (plan_on (was base slot ss seen tail g t u scanned c) old
      (planned base slot ss seen tail g t u scanned c))
  means_shape base zero ss seen tail g t u scanned c mid dev reads whole copies version same
      prepared
      read ready =
      let new = marked mid (mark_spelling (rephased marks.Staged (resloted 0 base))) in
      let a = some_same base 0 ss seen tail g t u scanned c _ new
      (images_a base 0 ss seen tail g t u scanned c told size old mid dev.slot reads whole same
      prepared copies version
      read ready) in
      let b = some_same base 0 ss seen tail g t u scanned c _ new
      (images_b base 0 ss seen tail g t u scanned c told size old mid dev.slot reads whole same
      prepared copies version
      read ready) in
      ap (λ (k : Device). mounted_on k new) (kept_finished base 0 ss seen tail g t u scanned c
      dev.slot)
      ∙ means_a base ss seen tail g t u scanned c old new a
      (b ∙ sym
      (final_same base 0 ss seen tail g t u scanned c mid dev reads whole copies version same
      prepared read
      ready))
  means_shape base (suc zero) ss seen tail g t u scanned c mid dev reads whole copies version same
      prepared read ready =
      let new = marked mid (mark_spelling (rephased marks.Staged (resloted 1 base))) in
      let a = some_same base 1 ss seen tail g t u scanned c _ new
      (images_a base 1 ss seen tail g t u scanned c told size old mid dev.slot reads whole same
      prepared copies version
      read ready) in
      let b = some_same base 1 ss seen tail g t u scanned c _ new
      (images_b base 1 ss seen tail g t u scanned c told size old mid dev.slot reads whole same
      prepared copies version
      read ready) in
      ap (λ (k : Device). mounted_on k new) (kept_finished base 1 ss seen tail g t u scanned c
      dev.slot)
      ∙ means_b base ss seen tail g t u scanned c old new b
      (a ∙ sym
      (final_same base 1 ss seen tail g t u scanned c mid dev reads whole copies version same
      prepared read
      ready))
  means_shape base (suc (suc n)) ss seen tail g t u scanned c mid dev reads whole copies version
      same
      prepared read ready = absurd (omega (arith, dev.slot))

  next_shape : (base : UpdateMark) (slot : ℕ) (ss : List (Option PartStatus)) (seen : Control)
      (tail : Tail) (g : Geometry)
      (t u : Table) (scanned : List Scanned) (c : Control) (mid : Image)
      → NextOf mid (was base slot ss seen tail g t u scanned c)
      (update_read (rephased marks.Installing (resloted slot base)) ss seen tail g t u scanned)
  next_shape base slot ss seen tail g t u scanned c mid dev reads whole copies version same prepared
      read
      ready =
      let both : Some (planned base slot ss seen tail g t u scanned c) ≡ Some ready.plan =
      ready.plan_is in
      let e : planned base slot ss seen tail g t u scanned c ≡ ready.plan = cc in
      let are : are_ready (planned base slot ss seen tail g t u scanned c) ≡ true =
      ap are_ready e ∙ ready_of ready.plan ready.none in
      record {
        represents =
            represents base slot ss seen tail g t u scanned c mid dev reads whole copies version
            same prepared
            read are;
        means =
            means_shape base slot ss seen tail g t u scanned c mid dev reads whole copies version
            same prepared read
            are
            ∙ ap
            (λ (ps : List Part).
            finished (mounted_on (was base slot ss seen tail g t u scanned c) old) slot
            (plan_on (was base slot ss seen tail g t u scanned c) old ps))
            e;
      }

  -- ---- a device

  module _ (d : Device) (dev : IsDevice d size) (is : Represents d size old) (ready : MayFinish d)
    where
      abbrev r : Read
      r = is.read

      phase : is.read.mark.phase ≡ marks.Installing
      phase =
          sym (ap (λ (k : Device). k.mark.phase) is.is) ∙ installing_of d size dev ready

      two : (t : Table) × (u : Table) × (r.tables ≡ t ∷ u ∷ [])
          × (table_at r.tail.super_end r.geometry r.mark.slot old ≡ Ok t)
      two =
          two_of r.tail.super_end r.geometry r.mark.slot (other_slot r.mark.slot) old r.tables
          (subst (λ (p : MarkPhase). tables_in r.tail.super_end r.geometry (phase_in p
          r.mark).tables old
          ≡ Ok r.tables)
          phase is.reads.tables)

      abbrev shaped : Read
      shaped =
          update_read (rephased marks.Installing r.mark) r.statuses r.control r.tail r.geometry
          two.0 two.1 r.scanned

      marked_as : r.mark ≡ rephased marks.Installing r.mark
      marked_as =
          as_phase r.mark marks.Installing (flags_known old r.mark is.reads.mark) refl phase

      shape : r ≡ shaped
      shape = (λ i. record {
        mark = marked_as i;
        statuses = r.statuses;
        control = r.control;
        tail = r.tail;
        geometry = r.geometry;
        tables = two.2 i;
        scanned = r.scanned;
      })

      form : d ≡ kept_with shaped d.control
      form = is.is ∙ ap (λ (x : Read). kept_with x d.control) shape

      pub finish_dead : Dead size is.read old (Writes d)
      finish_dead =
          subst (λ (x : Read). DeadOf d x) (sym shape)
          (subst (λ (k : Device). DeadOf k shaped) (sym form)
          (dead_shape r.mark r.mark.slot r.statuses r.control r.tail r.geometry two.0 two.1
          r.scanned d.control))
          dev is.reads is.control

      module _
          (mid : Image)
          (same : SameBut (Writes d) old mid)
          (prepared : control_of (mid 4) ≡ Ok (cleared_of d.control (other_slot d.mark.slot)))
          (read : mark_of (mark_spelling (rephased marks.Staged d.mark))
          ≡ Ok (rephased marks.Staged d.mark))
        where
          next : IsNext d ready.plan (marked mid (mark_spelling (rephased marks.Staged d.mark)))
          next =
              subst (λ (y : Read). NextOf mid d y) (sym shape)
              (subst (λ (k : Device). NextOf mid k shaped) (sym form)
              (next_shape r.mark r.mark.slot r.statuses r.control r.tail r.geometry two.0 two.1
              r.scanned d.control
              mid))
              dev is.reads is.control is.copies is.version same prepared read ready

          pub finish_step : (staged : Option (List ℕ))
              → IsStep d (finished_device d) staged Finish replies.Done false size old
              (marked mid (mark_spelling (rephased marks.Staged d.mark)))
          finish_step staged = record {
            represents = next.represents;
            effect =
                finish_by d old staged ready.plan None ready.plan_is ready.none
                ∙ ap (λ (m : Mounted). does replies.Done m) (sym next.means);
          }
