-- With the mark of a slot that isn't overlaid the disk is the device without its overlay.
use Rattle.std.proofs.Common.{◌≡◌, ◌≢◌, ◌∙◌, inl, ℕ, zero, suc, ◌≤◌, ◌<◌, List, [], ◌∷◌}
use Rattle.std.proofs.Common.{Ok, refl, sym, ap, subst, arith, true, false}
use Rattle.std.specs.Prelude.{Option, Some, None}
use Rattle.vab_disk.specs.Disk.{Image}
use Rattle.vab_disk.specs.Written.{set_here, set_there}
use Rattle.vab_bootctl.specs.declared.slots.Control.{Control}
use Rattle.vab_bootctl.specs.Control.{control_of}
use Rattle.vab_marks.specs.declared.mark.MarkPhase.{MarkPhase}
use Rattle.vab_marks.specs.declared.mark.MarkPhase.TheVariants as marks
use Rattle.vab_marks.specs.declared.mark.UpdateMark.{UpdateMark}
use Rattle.vab_marks.specs.declared.version.MarkVersion.TheVariants.{Two}
use Rattle.vab_marks.specs.Mark.{mark_of, mark_spelling, overlaid_by}
use Rattle.vab_tables.specs.declared.table.Table.{Table}
use Rattle.vab_layout.specs.Layout.{layout_of}
use Rattle.vab_layout.specs.Slots.{other_slot}
use Rattle.vab_model.specs.declared.command.Reply.TheVariants as replies
use Rattle.vab_model.specs.declared.command.Refusal.TheVariants as refusals
use Rattle.vab_model.specs.Commands.{OverlayDiscard}
use Rattle.vab_model.specs.Effects.{does, refuses}
use Rattle.vab_model.specs.Machine.{machine_effect}
use Rattle.vab_device.specs.declared.device.Part.{Part}
use Rattle.vab_device.specs.declared.device.Device.{Device}
use Rattle.vab_device.specs.Checks.{first_fault}
use Rattle.vab_device.specs.Idle.{idle_read, control_read_of}
use Rattle.vab_device.specs.Kept.{IsDevice, IsUpdate, has_both, table_of_slot}
use Rattle.vab_device.specs.Mounted.{mounted_on, state_on, images_on}
use Rattle.vab_device.specs.Phases.{phase_at, own_check, overlay_checks, slot_checks, idle}
use Rattle.vab_device.specs.Reading.{Read, mark_in, tables_in, table_at, Reads}
use Rattle.vab_device.specs.Reading.{Represents, AgreeCopies, IsOfImages, IsOfTables}
use Rattle.vab_device.specs.Reading.{version_at, most_at, control_kept}
use Rattle.vab_device.specs.Updates.{effect_on}
use Rattle.vab_device.proofs.Behind.{images_behind}
use Rattle.vab_device.proofs.CheckLaws.{first_kept}
use Rattle.vab_device.proofs.IdleLaws.{reads_idle}
use Rattle.vab_device.proofs.MostLaws.{parts_under}
use Rattle.vab_device.proofs.OpeningLaws.{control_seen_in}
use Rattle.vab_device.proofs.OverlayLaws.{overlaid_idle}
use Rattle.vab_device.proofs.PhaseCases.{some_of, none_of, no_target, unplanned_of}
use Rattle.vab_device.proofs.ReadingLaws.{idle_at, single_works, control_is_seen, seen_slots}
use Rattle.vab_device.proofs.SameLaws.{tail_kept, geometry_same, tables_agree, images_same}
use Rattle.vab_device.proofs.StayLaws.{mark_there, copy_stays, copies_from, one_of, version_there}
use Rattle.vab_device.proofs.Steps.{marked, IsStep}
use Rattle.vab_device.proofs.UpdateLaws.{kept_with}
use Rattle.vab_overlaying.specs.Discarded.{without_overlay}
use Rattle.vab_device.proofs.ReadingLaws.{bare_known}

-- ---- what is kept

-- what is read where there is no update
abbrev pub read_by : UpdateMark → Read → Table → Read
read_by m r t = record {
  mark = m;
  statuses = r.statuses;
  control = r.control;
  tail = r.tail;
  geometry = r.geometry;
  tables = t ∷ [];
  scanned = r.scanned;
}

kept_plain : (base : UpdateMark) (slot : ℕ) (c : Control) (r : Read) (t : Table)
    → slot < 2
    → without_overlay (kept_with
    (read_by (record base { phase = marks.Idle; slot = slot }) r t) c)
    ≡ kept_with
    (idle_read (overlaid_by false (record base { slot = slot })) c r.tail r.geometry t) c
kept_plain base zero c r t below = refl
kept_plain base (suc zero) c r t below = refl
kept_plain base (suc (suc n)) c r t below = absurd (omega (arith, below))

pub plain_kept : (d : Device) (size : ℕ)
    → IsDevice d size
    → d.mark.overlaid ≡ true
    → IsDevice (without_overlay d) size
plain_kept d size is overlaid =
    let idle = overlaid_idle d.mark is.flags overlaid in
    let shape : d ≡ record d { mark = record d.mark { phase = marks.Idle } } =
    (λ i. record d { mark = record d.mark { phase = idle i } }) in
    let here : IsDevice (record d { mark = record d.mark { phase = marks.Idle } }) size =
    subst (λ (k : Device). IsDevice k size) shape is in
    record {
      enough = here.enough;
      ends = here.ends;
      geometry = here.geometry;
      control = here.control;
      phase = inl refl;
      slot = here.slot;
      flags = (refl, refl);
      current = here.current;
      has_a = here.has_a;
      has_b = here.has_b;
      copies_on = here.copies_on;
      parts_a = here.parts_a;
      parts_b = here.parts_b;
      table_a = here.table_a;
      table_b = here.table_b;
      source = here.source;
      target = here.target;
      planned = here.planned;
      plan = here.plan;
      update = (subst (IsUpdate false d.mark.slot (table_of_slot d d.mark.slot))
          (sym (none_of (table_of_slot d (other_slot d.mark.slot)) here.target))
          (no_target false d.mark.slot (table_of_slot d d.mark.slot)));
      overlaid = refl;
      overlay = tt;
    }

-- ---- what it means

discarded : (d : Device) (old new : Image) (staged : Option (List ℕ)) (p : Part)
    → d.mark.phase ≡ marks.Idle
    → d.plan ≡ None
    → d.overlay ≡ Some p
    → images_on new d.a ≡ images_on old d.a
    → images_on new d.b ≡ images_on old d.b
    → effect_on (mounted_on d old) staged OverlayDiscard
    ≡ does replies.Done (mounted_on (without_overlay d) new)
unfolding state_on machine_effect
discarded d old new staged p phase plan over a b = rw (phase, plan, over, a, b) refl

pub discard_refused : (d : Device) (old : Image) (staged : Option (List ℕ))
    → d.overlay ≡ None
    → effect_on (mounted_on d old) staged OverlayDiscard ≡ refuses refusals.NotOverlaid
unfolding state_on machine_effect
discard_refused d old staged none = rw none refl

-- ---- the step

module _
    (d : Device) (size : ℕ) (old : Image) (staged : Option (List ℕ))
    (dev : IsDevice d size)
    (is : Represents d size old)
    (overlaid : d.mark.overlaid ≡ true)
    (read : mark_of (mark_spelling (overlaid_by false d.mark)) ≡ Ok (overlaid_by false d.mark))
  where
    abbrev r : Read
    r = is.read

    abbrev new : Image
    new = marked old (mark_spelling (overlaid_by false d.mark))

    abbrev next : Device
    next = without_overlay d

    own_mark : d.mark ≡ r.mark
    own_mark = ap (λ (k : Device). k.mark) is.is

    own : d.mark.slot ≡ r.mark.slot
    own = ap (λ (m : UpdateMark). m.slot) own_mark

    own_phase : d.mark.phase ≡ marks.Idle
    own_phase = overlaid_idle d.mark dev.flags overlaid

    phase : r.mark.phase ≡ marks.Idle
    phase = sym (ap (λ (k : Device). k.mark.phase) is.is) ∙ own_phase

    elsewhere : (s : ℕ) → s ≢ 2048 → new s ≡ old s
    elsewhere s other =
        set_there old 2048 (mark_spelling (overlaid_by false d.mark)) s other

    version_new : version_at new ≡ Two
    version_new =
        version_there (overlaid_by false d.mark) new
        (set_here old 2048 (mark_spelling (overlaid_by false d.mark)) 2048 refl)

    one : (t : Table) × (r.tables ≡ t ∷ [])
        × (table_at r.tail.super_end r.geometry r.mark.slot old ≡ Ok t)
    one =
        one_of r.tail.super_end r.geometry r.mark.slot old r.tables
        (subst (λ p. tables_in r.tail.super_end r.geometry p.tables old ≡ Ok r.tables)
        (idle_at r.mark phase)
        is.reads.tables)

    shape : r ≡ read_by (record r.mark { phase = marks.Idle }) r one.0
    shape = (λ i. record {
      mark = record r.mark { phase = phase i };
      statuses = r.statuses;
      control = r.control;
      tail = r.tail;
      geometry = r.geometry;
      tables = one.1 i;
      scanned = r.scanned;
    })

    of_tables : (s : ℕ) → IsOfTables r.geometry (r.mark.slot ∷ []) s → new s ≡ old s
    of_tables s there =
        elsewhere s (λ e. omega (arith, e, copies_from r.geometry (r.mark.slot ∷ []) s there))

    -- under version 2, which the disk has and keeps
    own_rules : own_check (most_at new) r.mark.slot one.0 ≡ None
    own_rules =
        let most : ℕ = most_at new in
        let parts = parts_under r old new (version_new ∙ sym is.version) is.reads.parts in
        let all : first_fault ((idle r.mark).part_checks most (one.0 ∷ [])) ≡ None =
        ap (λ p. first_fault (p.part_checks most (one.0 ∷ []))) (sym (idle_at r.mark phase))
        ∙ ap (λ (ts : List Table). first_fault ((phase_at r.mark).part_checks most ts)) (sym one.1)
        ∙ parts in
        (first_kept (own_check most r.mark.slot one.0)
        (overlay_checks r.mark.overlaid r.mark.slot (layout_of one.0)) all).0

    control_new : control_of (new 4) ≡ Ok d.control
    control_new = ap control_of (elsewhere 4 (λ e. omega (arith, e))) ∙ is.control

    seen : r.control ≡ control_kept r.mark d.control
    seen = control_is_seen _ _ old d.control r.control is.reads.control is.control
        ∙ seen_slots r d.control

    -- the slot works as before
    runs : first_fault (slot_checks r.mark.slot (control_read_of r.mark.slot d.control)) ≡ None
    runs =
        ap (λ (m : MarkPhase). first_fault (slot_checks r.mark.slot
        (control_kept (record r.mark { phase = m }) d.control))) (sym phase)
        ∙ ap (λ (c : Control). first_fault (slot_checks r.mark.slot c)) (sym seen)
        ∙ single_works r (ap has_both phase) is.reads.state

    table_new : table_at r.tail.super_end r.geometry r.mark.slot new ≡ Ok one.0
    table_new =
        let same = tables_agree r.tail.super_end r.geometry (r.mark.slot ∷ []) old new of_tables in
        let here : tables_in r.tail.super_end r.geometry (r.mark.slot ∷ []) old ≡ Ok (one.0 ∷ []) =
        rw one.2 refl in
        let there = one_of r.tail.super_end r.geometry r.mark.slot new (one.0 ∷ []) (same ∙ here) in
        let both : one.0 ∷ [] ≡ there.0 ∷ [] = there.1 in
        there.2 ∙ (let e : there.0 ≡ one.0 = cc in ap Ok e)

    bare : d.mark.physical ≡ false
    bare =
        ap (λ (m : UpdateMark). m.physical) own_mark ∙ bare_known old r.mark is.reads.mark

    mark_new : mark_in new ≡ Ok (overlaid_by false r.mark)
    mark_new =
        subst (λ (m : UpdateMark). mark_in new ≡ Ok (overlaid_by false m)) own_mark
        (mark_there (overlaid_by false d.mark) new refl bare read
        (set_here old 2048 (mark_spelling (overlaid_by false d.mark)) 2048 refl))

    reads : Reads size (idle_read (overlaid_by false r.mark) d.control r.tail r.geometry one.0) new
    reads =
        reads_idle size new (overlaid_by false r.mark) is.reads.enough mark_new refl d.control
        r.tail r.geometry
        one.0 refl
        (control_seen_in _ _ new d.control control_new)
        (tail_kept r.mark.physical size old new
        (λ some. elsewhere 2113 (λ e. omega (arith, e)))
        ∙ is.reads.tail)
        (geometry_same r.tail.super_end old new
        (elsewhere 4104 (λ e. omega (arith, e)))
        (elsewhere 4112 (λ e. omega (arith, e)))
        ∙ is.reads.geometry)
        table_new own_rules runs

    kept_is : next
        ≡ kept_with (idle_read (overlaid_by false r.mark) d.control r.tail r.geometry one.0)
        d.control
    kept_is =
        ap without_overlay
        (is.is ∙ ap (λ (x : Read). kept_with x d.control) shape)
        ∙ kept_plain r.mark r.mark.slot d.control r one.0 (omega (arith, dev.slot, own))

    copies : AgreeCopies r.geometry (r.mark.slot ∷ []) (one.0 ∷ []) new
    copies =
        let were : AgreeCopies r.geometry (r.mark.slot ∷ []) (one.0 ∷ []) old =
        subst (λ p. AgreeCopies r.geometry p.tables (one.0 ∷ []) old) (idle_at r.mark phase)
        (subst (λ (ts : List Table). AgreeCopies r.geometry (phase_at r.mark).tables ts old) one.1
        is.copies) in (
          (
            were.0.0,
            were.0.1,
            copy_stays r.geometry r.mark.slot were.0.0 old new of_tables were.0.2,
          ),
          tt,
        )

    represents : Represents next size new
    represents = record {
      read = idle_read (overlaid_by false r.mark) d.control r.tail r.geometry one.0;
      reads = reads;
      is = kept_is;
      control = control_new;
      copies = copies;
      version = version_new;
    }

    of_images : (parts : Option (List Part))
        → ((s : ℕ) → IsOfImages parts s → 4096 ≤ s)
        → images_on new parts ≡ images_on old parts
    of_images parts behind =
        images_same old new parts (λ s there. elsewhere s (λ e. omega (arith, e, behind s there)))

    images_a : images_on new d.a ≡ images_on old d.a
    images_a =
        of_images d.a (λ s there.
        images_behind size 4096 0 _ _ is.read old s is.reads (omega arith)
        (subst (λ (k : Device). IsOfImages k.a s) is.is there))

    images_b : images_on new d.b ≡ images_on old d.b
    images_b =
        of_images d.b (λ s there.
        images_behind size 4096 1 _ _ is.read old s is.reads (omega arith)
        (subst (λ (k : Device). IsOfImages k.b s) is.is there))

    over : (p : Part) × (d.overlay ≡ Some p)
    over = some_of d.overlay (dev.overlaid ∙ overlaid)

    pub discard_step : IsStep d next staged OverlayDiscard replies.Done false size old new
    discard_step = record {
      represents = represents;
      effect =
          discarded d old new staged over.0 own_phase
          (unplanned_of d size marks.Idle dev refl own_phase) over.1 images_a images_b;
    }
