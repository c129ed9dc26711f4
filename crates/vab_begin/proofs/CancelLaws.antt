-- With the mark that there is no update the disk is the device without it.
use Rattle.std.proofs.Common.{◌≡◌, ◌≢◌, ◌∙◌, inl, inr, ℕ, zero, suc, ◌≤◌, ◌<◌, List, [], ◌∷◌}
use Rattle.std.proofs.Common.{Ok, refl, sym, ap, subst, arith, true, false, eq-eqb}
use Rattle.std.specs.Prelude.{Option, Some, None, ◌==◌, map}
use Rattle.vab_disk.specs.Disk.{Image}
use Rattle.vab_disk.specs.Written.{set_here, set_there}
use Rattle.vab_bootctl.specs.declared.slots.Control.{Control}
use Rattle.vab_bootctl.specs.Control.{control_of}
use Rattle.vab_marks.specs.declared.mark.MarkPhase.{MarkPhase}
use Rattle.vab_marks.specs.declared.mark.MarkPhase.TheVariants as marks
use Rattle.vab_marks.specs.declared.status.PartStatus.{PartStatus}
use Rattle.vab_marks.specs.declared.mark.UpdateMark.{UpdateMark}
use Rattle.vab_marks.specs.Mark.{mark_of, mark_spelling, rephased, resloted}
use Rattle.vab_geometry.specs.declared.geometry.Geometry.{Geometry}
use Rattle.vab_tables.specs.declared.table.Table.{Table}
use Rattle.vab_layout.specs.Slots.{other_slot}
use Rattle.vab_physical.specs.declared.tail.Tail.{Tail}
use Rattle.vab_model.specs.declared.command.Reply.TheVariants as replies
use Rattle.vab_model.specs.declared.command.Refusal.TheVariants as refusals
use Rattle.vab_model.specs.Commands.{Cancel}
use Rattle.vab_model.specs.Effects.{does, refuses}
use Rattle.vab_device.specs.declared.device.Part.{Part}
use Rattle.vab_device.specs.declared.device.Device.{Device}
use Rattle.vab_device.specs.Checks.{first_fault}
use Rattle.vab_device.specs.Idle.{idle_read}
use Rattle.vab_device.specs.Kept.{IsDevice, reads_both}
use Rattle.vab_device.specs.Mounted.{Mounted, mounted_on, state_on, images_on, image_on}
use Rattle.vab_device.specs.Phases.{phase_in, phase_at, own_check, update_checks}
use Rattle.vab_device.specs.Phases.{twin_check, target_check, no_store_check}
use Rattle.vab_device.specs.Reading.{Read, mark_in, part_fault, tables_in, table_at, Reads}
use Rattle.vab_device.specs.Reading.{Represents, AgreeCopies, IsOfImages, IsOfTables}
use Rattle.vab_device.specs.Stores.{Scanned}
use Rattle.vab_device.specs.Updates.{effect_on, cancelled}
use Rattle.vab_device.proofs.Behind.{images_behind}
use Rattle.vab_device.proofs.CheckLaws.{first_kept}
use Rattle.vab_device.proofs.IdleLaws.{reads_idle}
use Rattle.vab_device.proofs.OpeningLaws.{control_seen_in}
use Rattle.vab_device.proofs.SameLaws.{tail_kept, geometry_same, tables_agree, images_same}
use Rattle.vab_begin.specs.Kept.{without_update}
use Rattle.vab_begin.specs.Writes.{MayEnd}
use Rattle.vab_device.proofs.Steps.{marked, IsStep}
use Rattle.vab_begin.proofs.KeptLaws.{source_a}
use Rattle.vab_device.proofs.PhaseCases.{some_of, planned_of, unplanned_of, cases_slot}
use Rattle.vab_begin.proofs.KeptLaws.{source_b}
use Rattle.vab_device.proofs.UpdateLaws.{update_read, kept_with}
use Rattle.vab_device.proofs.StayLaws.{mark_there, copy_stays, copies_from, one_of, two_of}
use Rattle.vab_begin.proofs.RunsLaws.{source_runs}
use Rattle.vab_marks.specs.declared.version.MarkVersion.TheVariants.{Two}
use Rattle.vab_device.specs.Reading.{version_at, most_at}
use Rattle.vab_device.proofs.MostLaws.{parts_under}
use Rattle.vab_device.proofs.StayLaws.{version_there}
use Rattle.vab_device.proofs.OverlayLaws.{plain_none}
use Rattle.vab_begin.proofs.KeptLaws.{ends_plain}
use Rattle.vab_device.proofs.ReadingLaws.{bare_known}

-- ---- what is kept

kept_ended : (base : UpdateMark) (phase : MarkPhase) (slot : ℕ) (c : Control)
    (ss : List (Option PartStatus)) (seen : Control) (tail : Tail) (g : Geometry) (t u : Table)
    (scanned : List Scanned)
    → reads_both phase ≡ true
    → slot < 2
    → without_update (kept_with
    (update_read (record base { phase = phase; slot = slot }) ss seen tail g t u scanned) c)
    ≡ kept_with (idle_read (rephased marks.Idle (resloted slot base)) c tail g t) c
kept_ended base marks.Installing zero c ss seen tail g t u scanned both below = refl
kept_ended base marks.Installing (suc zero) c ss seen tail g t u scanned both below = refl
kept_ended base marks.Staged zero c ss seen tail g t u scanned both below = refl
kept_ended base marks.Staged (suc zero) c ss seen tail g t u scanned both below = refl
kept_ended base phase (suc (suc n)) c ss seen tail g t u scanned both below =
    absurd (omega (arith, below))
kept_ended base marks.Idle zero c ss seen tail g t u scanned both below = absurd cc
kept_ended base marks.Idle (suc zero) c ss seen tail g t u scanned both below = absurd cc
kept_ended base marks.Merging zero c ss seen tail g t u scanned both below = absurd cc
kept_ended base marks.Merging (suc zero) c ss seen tail g t u scanned both below = absurd cc
kept_ended base marks.Completed zero c ss seen tail g t u scanned both below = absurd cc
kept_ended base marks.Completed (suc zero) c ss seen tail g t u scanned both below = absurd cc

-- an update's phases read both tables
ends_both : (d : Device) → MayEnd d → reads_both d.mark.phase ≡ true
ends_both d (inl installing) = ap reads_both installing
ends_both d (inr staged) = ap reads_both staged.0

both_tables : (p : MarkPhase) (m : UpdateMark)
    → reads_both p ≡ true
    → (phase_in p m).tables ≡ m.slot ∷ other_slot m.slot ∷ []
both_tables marks.Idle m both = absurd cc
both_tables marks.Installing m both = refl
both_tables marks.Staged m both = refl
both_tables marks.Merging m both = absurd cc
both_tables marks.Completed m both = absurd cc

both_checks : (p : MarkPhase) (m : UpdateMark) (most : ℕ) (t u : Table)
    → reads_both p ≡ true
    → (phase_in p m).part_checks most (t ∷ u ∷ []) ≡ update_checks m.apart most m.slot t u
both_checks marks.Idle m most t u both = absurd cc
both_checks marks.Installing m most t u both = refl
both_checks marks.Staged m most t u both = refl
both_checks marks.Merging m most t u both = absurd cc
both_checks marks.Completed m most t u both = absurd cc

-- ---- what it means

cancelled_a : (d : Device) (old new : Image) (a : List Part)
    → d.mark.slot ≡ 0
    → d.a ≡ Some a
    → d.overlay ≡ None
    → map (image_on new) a ≡ map (image_on old) a
    → mounted_on (without_update d) new ≡ cancelled (mounted_on d old) d.mark.slot
unfolding state_on
cancelled_a d old new a slot some plain same = rw (slot, some, plain, same) refl

cancelled_b : (d : Device) (old new : Image) (b : List Part)
    → d.mark.slot ≡ 1
    → d.b ≡ Some b
    → d.overlay ≡ None
    → map (image_on new) b ≡ map (image_on old) b
    → mounted_on (without_update d) new ≡ cancelled (mounted_on d old) d.mark.slot
unfolding state_on
cancelled_b d old new b slot some plain same = rw (slot, some, plain, same) refl

cancel_installed : (d : Device) (old : Image) (staged : Option (List ℕ)) (plan : List Part)
    → d.plan ≡ Some plan
    → effect_on (mounted_on d old) staged Cancel
    ≡ does replies.Done (cancelled (mounted_on d old) d.mark.slot)
unfolding state_on
cancel_installed d old staged plan is = rw is refl

cancel_staged : (d : Device) (old : Image) (staged : Option (List ℕ))
    → d.plan ≡ None
    → d.mark.phase ≡ marks.Staged
    → (d.control.current == d.mark.slot) ≡ true
    → effect_on (mounted_on d old) staged Cancel
    ≡ does replies.Done (cancelled (mounted_on d old) d.mark.slot)
unfolding state_on
cancel_staged d old staged plan phase at = rw (plan, phase, at) refl

pub cancel_running : (d : Device) (old : Image) (staged : Option (List ℕ))
    → d.plan ≡ None
    → d.mark.phase ≡ marks.Staged
    → (d.control.current == d.mark.slot) ≡ false
    → effect_on (mounted_on d old) staged Cancel ≡ refuses refusals.RunningTarget
unfolding state_on
cancel_running d old staged plan phase at = rw (plan, phase, at) refl

pub cancel_refused : (d : Device) (old : Image) (staged : Option (List ℕ))
    → d.plan ≡ None
    → d.mark.phase ≡ marks.Idle
    → effect_on (mounted_on d old) staged Cancel ≡ refuses refusals.NothingToCancel
unfolding state_on
cancel_refused d old staged plan phase = rw (plan, phase) refl

pub cancel_merging : (d : Device) (old : Image) (staged : Option (List ℕ))
    → d.plan ≡ None
    → d.mark.phase ≡ marks.Merging
    → effect_on (mounted_on d old) staged Cancel ≡ refuses refusals.Merging
unfolding state_on
cancel_merging d old staged plan phase = rw (plan, phase) refl

cancel_is : (d : Device) (size : ℕ) (old : Image) (staged : Option (List ℕ))
    → IsDevice d size
    → MayEnd d
    → effect_on (mounted_on d old) staged Cancel
    ≡ does replies.Done (cancelled (mounted_on d old) d.mark.slot)
cancel_is d size old staged dev (inl installing) =
    let plan = planned_of d size dev installing in
    cancel_installed d old staged plan.0 plan.1
cancel_is d size old staged dev (inr ready) =
    cancel_staged d old staged (unplanned_of d size marks.Staged dev refl ready.0) ready.0
    (eq-eqb d.control.current d.mark.slot ready.1)

pub some_same : (x : List Part) (old new : Image) (a : Option (List Part))
    → a ≡ Some x
    → images_on new a ≡ images_on old a
    → map (image_on new) x ≡ map (image_on old) x
some_same x old new a is same =
    let whole : images_on new (Some x) ≡ images_on old (Some x) =
    subst (λ (k : Option (List Part)). images_on new k ≡ images_on old k) is same in
    cc

-- ---- the step

module _
    (d : Device) (size : ℕ) (old : Image) (staged : Option (List ℕ))
    (dev : IsDevice d size)
    (is : Represents d size old)
    (ends : MayEnd d)
    (read : mark_of (mark_spelling (rephased marks.Idle d.mark))
    ≡ Ok (rephased marks.Idle d.mark)) where
  abbrev r : Read
  r = is.read

  abbrev new : Image
  new = marked old (mark_spelling (rephased marks.Idle d.mark))

  abbrev next : Device
  next = without_update d

  own_mark : d.mark ≡ r.mark
  own_mark = ap (λ (k : Device). k.mark) is.is

  own : d.mark.slot ≡ r.mark.slot
  own = ap (λ (m : UpdateMark). m.slot) own_mark

  phase : r.mark.phase ≡ d.mark.phase
  phase = sym (ap (λ (k : Device). k.mark.phase) is.is)

  both : reads_both r.mark.phase ≡ true
  both = ap reads_both phase ∙ ends_both d ends

  elsewhere : (s : ℕ) → s ≢ 2048 → new s ≡ old s
  elsewhere s other = set_there old 2048 (mark_spelling (rephased marks.Idle d.mark)) s other

  version_new : version_at new ≡ Two
  version_new =
      version_there (rephased marks.Idle d.mark) new
      (set_here old 2048 (mark_spelling (rephased marks.Idle d.mark)) 2048 refl)

  two : (t : Table) × (u : Table) × (r.tables ≡ t ∷ u ∷ [])
      × (table_at r.tail.super_end r.geometry r.mark.slot old ≡ Ok t)
  two =
      two_of r.tail.super_end r.geometry r.mark.slot (other_slot r.mark.slot) old r.tables
      (subst (λ (slots : List ℕ). tables_in r.tail.super_end r.geometry slots old ≡ Ok r.tables)
      (both_tables r.mark.phase r.mark both) is.reads.tables)

  abbrev t : Table
  t = two.0

  abbrev shaped : Read
  shaped =
      update_read r.mark r.statuses r.control r.tail r.geometry two.0 two.1 r.scanned

  shape : r ≡ shaped
  shape = (λ i. record {
    mark = r.mark;
    statuses = r.statuses;
    control = r.control;
    tail = r.tail;
    geometry = r.geometry;
    tables = two.2 i;
    scanned = r.scanned;
  })

  of_tables : (s : ℕ) → IsOfTables r.geometry (r.mark.slot ∷ []) s → new s ≡ old s
  of_tables s there =
      elsewhere s (λ e. omega (arith, e, copies_from r.geometry (r.mark.slot ∷ []) s there))

  -- under version 2, which the disk has and keeps
  own_rules : own_check (most_at new) r.mark.slot two.0 ≡ None
  own_rules =
      let source = r.mark.slot in
      let target = other_slot r.mark.slot in
      let most : ℕ = most_at new in
      let parts = parts_under r old new (version_new ∙ sym is.version) is.reads.parts in
      let apart = r.mark.apart in
      let all : first_fault (update_checks apart most source two.0 two.1) ≡ None =
      ap first_fault (sym (both_checks r.mark.phase r.mark most two.0 two.1 both))
      ∙ subst (λ (x : Read). part_fault most x ≡ None) shape parts in
      let rest = first_kept (twin_check target two.0 two.1)
      (own_check most source two.0 ∷ target_check apart most target two.0 two.1
      ∷ no_store_check apart two.1 ∷ [])
      all in
      (first_kept (own_check most source two.0)
      (target_check apart most target two.0 two.1 ∷ no_store_check apart two.1 ∷ [])
      rest.1).0

  control_new : control_of (new 4) ≡ Ok d.control
  control_new = ap control_of (elsewhere 4 (λ e. omega (arith, e))) ∙ is.control

  table_new : table_at r.tail.super_end r.geometry r.mark.slot new ≡ Ok two.0
  table_new =
      let same = tables_agree r.tail.super_end r.geometry (r.mark.slot ∷ []) old new of_tables in
      let here : tables_in r.tail.super_end r.geometry (r.mark.slot ∷ []) old ≡ Ok (two.0 ∷ []) =
      rw two.3 refl in
      let one = one_of r.tail.super_end r.geometry r.mark.slot new (two.0 ∷ []) (same ∙ here) in
      let both : two.0 ∷ [] ≡ one.0 ∷ [] = one.1 in
      one.2 ∙ (let e : one.0 ≡ two.0 = cc in ap Ok e)

  bare : d.mark.physical ≡ false
  bare =
      ap (λ (m : UpdateMark). m.physical) own_mark ∙ bare_known old r.mark is.reads.mark

  mark_new : mark_in new ≡ Ok (rephased marks.Idle r.mark)
  mark_new =
      subst (λ (m : UpdateMark). mark_in new ≡ Ok (rephased marks.Idle m)) own_mark
      (mark_there (rephased marks.Idle d.mark) new refl bare read
      (set_here old 2048 (mark_spelling (rephased marks.Idle d.mark)) 2048 refl))

  reads : Reads size (idle_read (rephased marks.Idle r.mark) d.control r.tail r.geometry two.0) new
  reads =
      reads_idle size new (rephased marks.Idle r.mark) is.reads.enough mark_new refl d.control
      r.tail r.geometry
      two.0 refl
      (control_seen_in _ _ new d.control control_new)
      (tail_kept r.mark.physical size old new
      (λ some. elsewhere 2113 (λ e. omega (arith, e)))
      ∙ is.reads.tail)
      (geometry_same r.tail.super_end old new
      (elsewhere 4104 (λ e. omega (arith, e)))
      (elsewhere 4112 (λ e. omega (arith, e)))
      ∙ is.reads.geometry)
      table_new own_rules (source_runs d size old dev is ends)

  kept_is : next
      ≡ kept_with (idle_read (rephased marks.Idle r.mark) d.control r.tail r.geometry two.0)
      d.control
  kept_is =
      ap without_update
      (is.is ∙ ap (λ (x : Read). kept_with x d.control) shape)
      ∙ kept_ended r.mark r.mark.phase r.mark.slot d.control r.statuses r.control r.tail
      r.geometry two.0
      two.1
      r.scanned both (omega (arith, dev.slot, own))

  copies : AgreeCopies r.geometry (r.mark.slot ∷ []) (two.0 ∷ []) new
  copies =
      let were : AgreeCopies r.geometry (r.mark.slot ∷ other_slot r.mark.slot ∷ [])
      (two.0 ∷ two.1 ∷ []) old =
      subst (λ (slots : List ℕ). AgreeCopies r.geometry slots (two.0 ∷ two.1 ∷ []) old)
      (both_tables r.mark.phase r.mark both)
      (subst (λ (ts : List Table). AgreeCopies r.geometry
      (phase_at r.mark).tables
      ts old) two.2 is.copies) in (
        (
          were.0.0,
          were.0.1,
          copy_stays r.geometry r.mark.slot were.0.0 old new of_tables were.0.2,
        ),
        tt,
      )

  represents : Represents next size new
  represents = record {
    read = idle_read (rephased marks.Idle r.mark) d.control r.tail r.geometry two.0;
    reads = reads;
    is = kept_is;
    control = control_new;
    copies = copies;
    version = version_new;
  }

  of_images : (slot : ℕ) (parts : Option (List Part))
      → ((s : ℕ) → IsOfImages parts s → 4096 ≤ s)
      → images_on new parts ≡ images_on old parts
  of_images slot parts behind =
      images_same old new parts (λ s there. elsewhere s (λ e. omega (arith, e, behind s there)))

  images_a : images_on new d.a ≡ images_on old d.a
  images_a =
      of_images 0 d.a (λ s there.
      images_behind size 4096 0 _ _ is.read old s is.reads (omega arith)
      (subst (λ (k : Device). IsOfImages k.a s) is.is there))

  images_b : images_on new d.b ≡ images_on old d.b
  images_b =
      of_images 1 d.b (λ s there.
      images_behind size 4096 1 _ _ is.read old s is.reads (omega arith)
      (subst (λ (k : Device). IsOfImages k.b s) is.is there))

  no_overlay : d.overlay ≡ None
  no_overlay = plain_none d size dev (ends_plain d size dev ends)

  means : mounted_on next new ≡ cancelled (mounted_on d old) d.mark.slot
  means = elim (cases_slot d.mark.slot dev.slot) [
    | inl first ↦
        let a = some_of d.a (source_a d size dev first) in
        cancelled_a d old new a.0 first a.1 no_overlay (some_same a.0 old new d.a a.1 images_a)
    | inr one ↦
        let b = some_of d.b (source_b d size dev one) in
        cancelled_b d old new b.0 one b.1 no_overlay (some_same b.0 old new d.b b.1 images_b)
  ]

  pub cancel_step : IsStep d next staged Cancel replies.Done false size old new
  cancel_step = record {
    represents = represents;
    effect =
        cancel_is d size old staged dev ends ∙ ap (λ (m : Mounted). does replies.Done m)
        (sym means);
  }
