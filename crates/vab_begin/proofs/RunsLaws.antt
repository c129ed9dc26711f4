-- Where the source was booted last, it may be booted alone.
use Rattle.std.proofs.Common.{◌≡◌, ◌∙◌, inl, inr, ℕ, ◌<◌, true, eqb, [], ◌∷◌, refl, sym}
use Rattle.std.proofs.Common.{ap, arith, eq-eqb}
use Rattle.std.specs.Prelude.{◌==◌, ◌||◌, not, None}
use Rattle.std.proofs.lemmas.Bool.{cases_Bool, and_parts, eqb-false}
use Rattle.vab_disk.specs.Disk.{Image}
use Rattle.vab_bootctl.specs.declared.slots.Control.{Control}
use Rattle.vab_bootctl.specs.Boot.{info_at}
use Rattle.vab_marks.specs.declared.mark.MarkPhase.{MarkPhase}
use Rattle.vab_marks.specs.declared.mark.MarkPhase.TheVariants as marks
use Rattle.vab_layout.specs.Slots.{other_slot}
use Rattle.vab_device.specs.declared.device.Device.{Device}
use Rattle.vab_device.specs.declared.fault.StartFault.TheVariants.{BadState}
use Rattle.vab_device.specs.Checks.{check, first_fault}
use Rattle.vab_device.specs.Idle.{control_read_of}
use Rattle.vab_device.specs.Kept.{IsDevice, has_both}
use Rattle.vab_device.specs.Phases.{is_good, may_run, slot_checks, target_ready}
use Rattle.vab_device.specs.Reading.{Read, Represents, control_kept}
use Rattle.vab_device.proofs.CheckLaws.{check_kept, first_kept}
use Rattle.vab_device.proofs.ReadingLaws.{single_works, state_staged, seen_slots, control_is_seen}
use Rattle.vab_begin.specs.Writes.{MayEnd}

-- of one slot's images the boot control of that slot is read
seen_at : (slot : ℕ) (c : Control)
    → slot < 2
    → info_at (control_read_of slot c) slot ≡ info_at c slot
seen_at slot c below = elim (cases_Bool (eqb slot 0)) [
  | inl h ↦ rw h refl
  | inr h ↦
      let other : (slot ≡ 0) → ⊥ = eqb-false slot 0 h in
      let one : eqb slot 1 ≡ true = eq-eqb slot 1 (omega (arith, other, below)) in
      rw (h, one) refl
]

runs_alone : (slot : ℕ) (c : Control)
    → slot < 2
    → c.current ≡ slot
    → is_good (info_at c slot) ≡ true
    → first_fault (slot_checks slot (control_read_of slot c)) ≡ None
runs_alone slot c below current good =
    let now : eqb c.current slot ≡ true = eq-eqb c.current slot current in
    let works : is_good (info_at (control_read_of slot c) slot) ≡ true =
    ap is_good (seen_at slot c below) ∙ good in
    rw (now, works) refl

module _ (d : Device) (size : ℕ) (old : Image) (dev : IsDevice d size) (is : Represents d size old)
  where
    abbrev r : Read
    r = is.read

    own : d.mark.slot ≡ r.mark.slot
    own = ap (λ (k : Device). k.mark.slot) is.is

    seen : r.control ≡ control_kept r.mark d.control
    seen = control_is_seen _ _ old d.control r.control is.reads.control is.control
        ∙ seen_slots r d.control

    -- what is read of boot control in a phase
    seen_in : (p : MarkPhase)
        → r.mark.phase ≡ p
        → r.control ≡ control_kept (record r.mark { phase = p }) d.control
    seen_in p phase =
        seen
        ∙ ap (λ (m : MarkPhase). control_kept (record r.mark { phase = m }) d.control)
        phase

    installed : r.mark.phase ≡ marks.Installing
        → first_fault (slot_checks r.mark.slot (control_read_of r.mark.slot d.control)) ≡ None
    installed phase =
        ap (λ (k : Control). first_fault (slot_checks r.mark.slot k))
        (sym (seen_in marks.Installing phase))
        ∙ single_works r (ap has_both phase) is.reads.state

    works : r.mark.phase ≡ marks.Staged → is_good (info_at d.control r.mark.slot) ≡ true
    works phase =
        let passed = sym (state_staged r phase) ∙ is.reads.state in
        let first = first_kept (check (may_run r.mark.slot r.control) (BadState 2))
        (check (target_ready r.mark.slot r.tables r.scanned) (BadState 3) ∷ []) passed in
        let runs : may_run r.mark.slot r.control ≡ true =
        check_kept (may_run r.mark.slot r.control) (BadState 2) first.0 in
        let whole : r.control ≡ d.control = seen_in marks.Staged phase in
        let now : may_run r.mark.slot d.control ≡ true =
        ap (may_run r.mark.slot) (sym whole) ∙ runs in
        (and_parts (is_good (info_at d.control r.mark.slot))
        (d.control.current == r.mark.slot
        || not ((info_at d.control (other_slot r.mark.slot)).priority == 0)) now).0

    pub source_runs : MayEnd d
        → first_fault (slot_checks r.mark.slot (control_read_of r.mark.slot d.control)) ≡ None
    source_runs (inl installing) =
        installed (sym (ap (λ (k : Device). k.mark.phase) is.is) ∙ installing)
    source_runs (inr ready) =
        runs_alone r.mark.slot d.control (omega (arith, dev.slot, own)) (ready.1 ∙ own)
        (works (sym (ap (λ (k : Device). k.mark.phase) is.is) ∙ ready.0))
