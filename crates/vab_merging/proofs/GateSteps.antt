-- The step of a merge that begins, of a device.
use Rattle.std.proofs.Common.{◌≡◌, ◌∙◌, ℕ, zero, suc, ◌+◌, ◌<◌, true, false, List, [], ◌∷◌, Ok}
use Rattle.std.proofs.Common.{refl}
use Rattle.std.proofs.Common.{sym, ap, subst, arith, inl, inr}
use Rattle.std.specs.Prelude.{◌==◌, Option, Some, None, map}
use Rattle.std.proofs.lemmas.Bool.{cases_Bool, eqb-true}
use Rattle.vab_disk.specs.Disk.{Image}
use Rattle.vab_bootctl.specs.declared.slots.Control.{Control}
use Rattle.vab_bootctl.specs.Boot.{info_at}
use Rattle.vab_bootctl.specs.Control.{control_of}
use Rattle.vab_marks.specs.declared.mark.MarkPhase.{MarkPhase}
use Rattle.vab_marks.specs.declared.mark.MarkPhase.TheVariants as marks
use Rattle.vab_marks.specs.declared.mark.UpdateMark.{UpdateMark}
use Rattle.vab_marks.specs.declared.status.PartStatus.{PartStatus}
use Rattle.vab_marks.specs.Mark.{mark_of, mark_spelling, rephased, resloted}
use Rattle.vab_geometry.specs.declared.geometry.Geometry.{Geometry}
use Rattle.vab_tables.specs.declared.table.Table.{Table}
use Rattle.vab_physical.specs.declared.tail.Tail.{Tail}
use Rattle.vab_layout.specs.declared.layout.Part.{Part as PartOfLayout}
use Rattle.vab_layout.specs.Layout.{layout_of}
use Rattle.vab_layout.specs.Slots.{other_slot, own_parts}
use Rattle.vab_model.specs.declared.command.Refusal.TheVariants as refusals
use Rattle.vab_model.specs.declared.command.Reply.TheVariants as replies
use Rattle.vab_model.specs.Commands.{BeginMerge}
use Rattle.vab_model.specs.Effects.{does, refuses}
use Rattle.vab_device.specs.declared.device.Part.{Part}
use Rattle.vab_device.specs.declared.device.Device.{Device}
use Rattle.vab_device.specs.Idle.{control_read_of}
use Rattle.vab_device.specs.Kept.{IsDevice, has_both, part_on, parts_of}
use Rattle.vab_device.specs.Mounted.{Mounted, mounted_on, state_on, images_on, image_on, count_in}
use Rattle.vab_device.specs.Mounted.{count_at}
use Rattle.vab_device.specs.Phases.{phase_in, phase_at, plan_of}
use Rattle.vab_device.specs.Reading.{Read, Reads, Represents, AgreeCopies, tables_in, table_at}
use Rattle.vab_device.specs.Stores.{Scanned}
use Rattle.vab_device.specs.Updates.{effect_on, merging_from}
use Rattle.vab_device.proofs.StayLaws.{two_of}
use Rattle.vab_device.proofs.Steps.{marked, IsStep}
use Rattle.vab_device.proofs.UpdateLaws.{update_read, kept_with}
use Rattle.vab_merging.specs.Kept.{merging_device}
use Rattle.vab_merging.specs.GateWrites.{MayMerge, merging_mark}
use Rattle.vab_merging.proofs.BegunLaws.{merging_read, reads_new, control_new, copies_new}
use Rattle.vab_merging.proofs.BegunLaws.{images_a, images_b, device_same, limits_same}
use Rattle.vab_merging.proofs.BegunLaws.{kept_begun}
use Rattle.vab_merging.proofs.SlotLaws.{both_of}
use Rattle.vab_device.proofs.PhaseCases.{unplanned_of}
use Rattle.vab_device.proofs.MarkLaws.{as_phase}
use Rattle.vab_device.proofs.ReadingLaws.{flags_known}
use Rattle.vab_marks.specs.declared.version.MarkVersion.TheVariants.{Two}
use Rattle.vab_device.specs.Reading.{version_at}
use Rattle.vab_merging.proofs.BegunLaws.{version_new}

-- ---- what it means

-- partitions without stores have no exceptions
count_plain : (at : ℕ) (ps : List PartOfLayout) → count_in (map (part_on at) ps) ≡ 0
count_plain at [] = refl
count_plain at (p ∷ ps) = omega (arith, count_plain at ps)

module _
    (base : UpdateMark) (ss : List (Option PartStatus)) (seen : Control)
    (tail : Tail) (g : Geometry) (t u : Table)
    (scanned : List Scanned) (c : Control) (old new : Image) where
  abbrev was : ℕ → Device
  was slot = kept_with (update_read (rephased marks.Staged (resloted slot base)) ss seen tail g t u
      scanned) c

  abbrev planned : ℕ → List Part
  planned slot = plan_of (other_slot slot) (layout_of u) scanned

  abbrev own : ℕ → List Part
  own slot = parts_of slot (layout_of t)

  none_left : (slot : ℕ) → count_in (own slot) ≡ 0
  none_left slot =
      count_plain (layout_of t).device.first_logical_sector (own_parts slot (layout_of t).parts)

  left_a : 0 + count_in (planned 0) ≡ count_in (own 0) + count_in (planned 0)
  left_a = omega (arith, none_left 0)

  left_b : count_in (planned 1) + 0 ≡ count_in (planned 1) + count_in (own 1)
  left_b = omega (arith, none_left 1)

  abbrev Means : ℕ → Type 0
  Means slot =
      map (image_on new) (planned slot) ≡ map (image_on old) (planned slot)
      → mounted_on (merging_device (was slot)) new
      ≡ merging_from (mounted_on (was slot) old) slot
      (count_at (was slot).a + count_at (was slot).b)

  means_a : Means 0
  unfolding state_on
  means_a same = rw (same, left_a) refl

  means_b : Means 1
  unfolding state_on
  means_b same = rw (same, left_b) refl

some_same : (x : List Part) (old new : Image)
    → (let some : Option (List Part) = Some x in images_on new some ≡ images_on old some)
    → map (image_on new) x ≡ map (image_on old) x
some_same x old new is = cc

-- ---- the effect

module _ (d : Device) (old : Image) (staged : Option (List ℕ)) where
  pub refused_idle : d.plan ≡ None
      → d.mark.phase ≡ marks.Idle
      → effect_on (mounted_on d old) staged BeginMerge ≡ refuses refusals.NotStaged
  unfolding state_on
  refused_idle plan phase = rw (plan, phase) refl

  pub refused_installing : (plan : List Part)
      → d.plan ≡ Some plan
      → effect_on (mounted_on d old) staged BeginMerge ≡ refuses refusals.NotStaged
  unfolding state_on
  refused_installing plan is = rw is refl

  pub refused_merging : d.plan ≡ None
      → d.mark.phase ≡ marks.Merging
      → effect_on (mounted_on d old) staged BeginMerge ≡ refuses refusals.NotStaged
  unfolding state_on
  refused_merging plan phase = rw (plan, phase) refl

  pub refused_running : d.plan ≡ None
      → d.mark.phase ≡ marks.Staged
      → (d.control.current == d.mark.slot) ≡ true
      → effect_on (mounted_on d old) staged BeginMerge ≡ refuses refusals.NotRunningTarget
  unfolding state_on
  refused_running plan phase at = rw (plan, phase, at) refl

  module _ (a b : List Part)
      (plan : d.plan ≡ None)
      (phase : d.mark.phase ≡ marks.Staged)
      (first : d.a ≡ Some a)
      (second : d.b ≡ Some b)
      (at : (d.control.current == d.mark.slot) ≡ false) where
    pub refused_successful : (info_at d.control (other_slot d.mark.slot)).successful ≡ false
        → effect_on (mounted_on d old) staged BeginMerge ≡ refuses refusals.NotSuccessful
    unfolding state_on
    refused_successful not_yet = rw (plan, phase, first, second, at, not_yet) refl

    begins : (info_at d.control (other_slot d.mark.slot)).successful ≡ true
        → effect_on (mounted_on d old) staged BeginMerge
        ≡ does replies.Done
        (merging_from (mounted_on d old) d.mark.slot (count_at d.a + count_at d.b))
    unfolding state_on
    begins is = rw (plan, phase, first, second, at, is) refl

-- ---- the device with the new mark

module _ (size : ℕ) (old : Image) where
  -- what is shown of it
  record IsNext (d : Device) (new : Image) : Type 0 where
    represents : Represents (merging_device d) size new
    means : mounted_on (merging_device d) new
        ≡ merging_from (mounted_on d old) d.mark.slot (count_at d.a + count_at d.b)

  abbrev NextOf : Device → Read → Type 0
  NextOf d r =
      d.mark.slot < 2
      → Reads size r old
      → control_of (old 4) ≡ Ok d.control
      → AgreeCopies r.geometry (phase_at r.mark).tables r.tables old
      → version_at old ≡ Two
      → mark_of (mark_spelling (merging_mark d.mark))
      ≡ Ok (merging_mark d.mark)
      → d.control.current ≡ other_slot d.mark.slot
      → (info_at d.control (other_slot d.mark.slot)).successful ≡ true
      → IsNext d (marked old (mark_spelling (merging_mark d.mark)))

  means_shape : (base : UpdateMark) (slot : ℕ) (ss : List (Option PartStatus)) (seen : Control)
      (tail : Tail) (g : Geometry)
      (t u : Table) (scanned : List Scanned) (c : Control) (new : Image)
      → slot < 2
      → images_on new (kept_with
      (update_read (rephased marks.Staged (resloted slot base)) ss seen tail g t u scanned) c).a
      ≡ images_on old (kept_with
      (update_read (rephased marks.Staged (resloted slot base)) ss seen tail g t u scanned) c).a
      → images_on new (kept_with
      (update_read (rephased marks.Staged (resloted slot base)) ss seen tail g t u scanned) c).b
      ≡ images_on old (kept_with
      (update_read (rephased marks.Staged (resloted slot base)) ss seen tail g t u scanned) c).b
      → mounted_on
      (merging_device (kept_with
      (update_read (rephased marks.Staged (resloted slot base)) ss seen tail g t u scanned) c)) new
      ≡ merging_from
      (mounted_on (kept_with
      (update_read (rephased marks.Staged (resloted slot base)) ss seen tail g t u scanned) c)
      old) slot
      (count_at (kept_with (update_read (rephased marks.Staged (resloted slot base)) ss seen tail g
      t u scanned) c).a
      + count_at (kept_with
      (update_read (rephased marks.Staged (resloted slot base)) ss seen tail g t u scanned) c).b)
  means_shape base zero ss seen tail g t u scanned c new below a b =
      means_a base ss seen tail g t u scanned c old new
      (some_same (plan_of 1 (layout_of u) scanned) old new b)
  means_shape base (suc zero) ss seen tail g t u scanned c new below a b =
      means_b base ss seen tail g t u scanned c old new
      (some_same (plan_of 0 (layout_of u) scanned) old new a)
  means_shape base (suc (suc n)) ss seen tail g t u scanned c new below a b =
      absurd (omega (arith, below))

  next_shape : (base : UpdateMark) (slot : ℕ) (ss : List (Option PartStatus)) (seen : Control)
      (tail : Tail) (g : Geometry)
      (t u : Table) (scanned : List Scanned) (c : Control)
      → NextOf (kept_with (update_read (rephased marks.Staged (resloted slot base)) ss seen tail g t
      u scanned) c)
      (update_read (rephased marks.Staged (resloted slot base)) ss seen tail g t u scanned)
  next_shape base slot ss seen tail g t u scanned c below reads whole copies version read running
      successful =
      record {
        represents = record {
          read = merging_read base (other_slot slot) ss (control_read_of (other_slot slot) c) tail g
              u scanned;
          reads = reads_new base slot ss seen tail g t u scanned c size old below reads whole copies
              version
              read
              running
              successful;
          is = kept_begun base slot ss seen tail g t u scanned c below
              (device_same base slot ss seen tail g t u scanned c size old below reads whole copies
              version
              read
              running
              successful)
              (limits_same base slot ss seen tail g t u scanned c size old below reads whole copies
              version
              read
              running
              successful);
          control = control_new base slot ss seen tail g t u scanned c size old below reads whole
              copies version read
              running successful;
          copies = copies_new base slot ss seen tail g t u scanned c size old below reads whole
              copies version
              read
              running successful;
          version = version_new base slot ss seen tail g t u scanned c size old below reads whole
              copies version read running successful;
        };
        means = means_shape base slot ss seen tail g t u scanned c
            (marked old (mark_spelling (merging_mark (rephased marks.Staged (resloted slot base)))))
            below
            (images_a base slot ss seen tail g t u scanned c size old below reads whole copies
            version read
            running
            successful)
            (images_b base slot ss seen tail g t u scanned c size old below reads whole copies
            version read
            running
            successful);
      }

  -- ---- a device

  module _
      (d : Device)
      (dev : IsDevice d size)
      (is : Represents d size old)
      (may : MayMerge d)
      (read : mark_of (mark_spelling (merging_mark d.mark))
      ≡ Ok (merging_mark d.mark)) where
    abbrev r : Read
    r = is.read

    phase : is.read.mark.phase ≡ marks.Staged
    phase = sym (ap (λ (k : Device). k.mark.phase) is.is) ∙ may.staged

    two : (t : Table) × (u : Table) × (r.tables ≡ t ∷ u ∷ [])
        × (table_at r.tail.super_end r.geometry r.mark.slot old ≡ Ok t)
    two =
        two_of r.tail.super_end r.geometry r.mark.slot (other_slot r.mark.slot) old r.tables
        (subst
        (λ (p : MarkPhase).
        tables_in r.tail.super_end r.geometry (phase_in p r.mark).tables old ≡ Ok r.tables)
        phase is.reads.tables)

    abbrev shaped : Read
    shaped =
        update_read (rephased marks.Staged r.mark) r.statuses r.control r.tail r.geometry two.0
        two.1 r.scanned

    shape : r ≡ shaped
    shape = (λ i. record {
      mark = as_phase r.mark marks.Staged (flags_known old r.mark is.reads.mark) refl phase i;
      statuses = r.statuses;
      control = r.control;
      tail = r.tail;
      geometry = r.geometry;
      tables = two.2 i;
      scanned = r.scanned;
    })

    form : d ≡ kept_with shaped d.control
    form = is.is ∙ ap (λ (x : Read). kept_with x d.control) shape

    next : IsNext d (marked old (mark_spelling (merging_mark d.mark)))
    next =
        subst (λ (y : Read). NextOf d y) (sym shape)
        (subst (λ (k : Device). NextOf k shaped) (sym form)
        (next_shape r.mark r.mark.slot r.statuses r.control r.tail r.geometry two.0 two.1 r.scanned
        d.control))
        dev.slot is.reads is.control is.copies is.version read may.running may.successful

    not_source : (d.control.current == d.mark.slot) ≡ false
    not_source = elim (cases_Bool (d.control.current == d.mark.slot)) [
      | inl same ↦
          let e : d.control.current ≡ d.mark.slot =
          eqb-true d.control.current d.mark.slot same in
          absurd (omega (arith, e, may.running, dev.slot))
      | inr other ↦ other
    ]

    pub begin_step : (staged : Option (List ℕ))
        → IsStep d (merging_device d) staged BeginMerge replies.Done false size old
        (marked old (mark_spelling (merging_mark d.mark)))
    begin_step staged =
        let both = both_of d size dev (ap has_both may.staged) in
        record {
          represents = next.represents;
          effect =
              begins d old staged both.0 both.1
              (unplanned_of d size marks.Staged dev refl may.staged) may.staged both.2 both.3
              not_source may.successful
              ∙ ap (λ (m : Mounted). does replies.Done m) (sym next.means);
        }
