-- What a command does, by what it does to the disk.
use Rattle.std.proofs.Common.{◌≡◌, ◌∙◌, inl, inr, ⊎_elim, ℕ, ◌<◌, true, false, eqb, List, [], ◌∷◌}
use Rattle.std.proofs.Common.{Ok}
use Rattle.std.proofs.Common.{Err, None, refl, sym, ap, subst, arith, eq-eqb}
use Rattle.std.specs.Prelude.{◌==◌, Option, Bool, if◌then◌else◌}
use Rattle.std.proofs.lemmas.Bool.{cases_Bool, and_parts, and_from, or_left, eqb-true, eqb-false}
use Rattle.vab_disk.specs.declared.disk.Disk.{Ghosts}
use Rattle.vab_disk.specs.Disk.{Image, Outcome, Adds, DiskFailed}
use Rattle.vab_disk.specs.Calls.{IsAtRest, IsQuiet, Touches}
use Rattle.vab_disk.proofs.Moments.{adds_wider}
use Rattle.vab_disk.proofs.CallLaws.{touches_wider}
use Rattle.vab_gate.specs.declared.gate.DiskFault.{DiskFault}
use Rattle.vab_bootctl.specs.declared.slots.Control.{Control}
use Rattle.vab_bootctl.specs.Control.{Fits}
use Rattle.vab_bootctl.specs.Boot.{info_at}
use Rattle.vab_marks.specs.declared.mark.MarkPhase.{MarkPhase}
use Rattle.vab_marks.specs.declared.mark.MarkPhase.TheVariants as marks
use Rattle.vab_marks.specs.declared.mark.UpdateMark.{UpdateMark}
use Rattle.vab_tables.specs.declared.table.Table.{Table}
use Rattle.vab_model.specs.State.{control_seen}
use Rattle.vab_model.specs.declared.command.Reply.{Reply}
use Rattle.vab_model.specs.Commands.{Command}
use Rattle.vab_model.specs.Effects.{Effect, steps_of, after_of, IsOneOf}
use Rattle.vab_device.specs.declared.device.Device.{Device}
use Rattle.vab_device.specs.declared.fault.StartFault.TheVariants.{BadState}
use Rattle.vab_device.specs.Checks.{first_fault, check}
use Rattle.vab_device.specs.Kept.{IsDevice, has_both, has_slot}
use Rattle.vab_device.proofs.DoesLaws.{follows_kept, step_follows}
use Rattle.vab_device.specs.Does.{LeavesStep}
use Rattle.vab_device.specs.Mounted.{Mounted, mounted_on}
use Rattle.vab_device.specs.Phases.{slot_checks, staged_checks, target_ready, is_good, may_run}
use Rattle.vab_device.specs.Reading.{Read, device, Represents, control_kept, state_fault}
use Rattle.vab_device.specs.Stores.{Scanned}
use Rattle.vab_device.specs.Updates.{effect_on}
use Rattle.vab_device.proofs.CheckLaws.{check_kept, first_kept}
use Rattle.vab_device.proofs.ControlLaws.{read_with, with_boot, KeepsState, represents_gated}
use Rattle.vab_device.proofs.ControlLaws.{mounted_gated}
use Rattle.vab_device.proofs.ReadingLaws.{single_works, single_again, state_staged, seen_slots}
use Rattle.vab_device.proofs.ReadingLaws.{control_is_seen}
use Rattle.vab_device.proofs.ReadingLaws.{device_stands}
use Rattle.vab_manager.specs.Commands.{DoesCommand}
use Rattle.vab_manager.specs.Controls.{HasControl, LeavesControl, IsControl}
use Rattle.vab_manager.specs.Controls.{WritesControl, with_kept, GivesControl}
use Rattle.vab_manager.proofs.BootLaws.{kept_device}

-- ---- the rules of the slots, with another boot control

-- of a slot with images the boot control is read
info_seen_at : (a b : Bool) (slot : ℕ) (c : Control)
    → (if slot == 0 then a else b) ≡ true
    → info_at (control_seen a b c) slot ≡ info_at c slot
info_seen_at a b slot c has = elim (cases_Bool (eqb slot 0)) [
  | inl h ↦
      let there : a ≡ true = rw h at has in
      rw (h, there) refl
  | inr h ↦
      let there : b ≡ true = rw h at has in
      rw (h, there) refl
]

-- where one slot has images, it is that of the mark
single_info : (m : UpdateMark) (c : Control)
    → m.slot < 2
    → has_both m.phase ≡ false
    → info_at (control_kept m c) m.slot ≡ info_at c m.slot
single_info m c below one =
    info_seen_at (has_slot m.phase m.slot 0) (has_slot m.phase m.slot 1) m.slot c
    (elim (cases_Bool (eqb m.slot 0)) [
      | inl h ↦ rw (h, one) refl
      | inr h ↦
          let other = eqb-false m.slot 0 h in
          rw (h, one) (eq-eqb m.slot 1 (omega (arith, other, below)))
    ])

single_current : (m : UpdateMark) (n : ℕ)
    → has_both m.phase ≡ false
    → has_slot m.phase m.slot n ≡ true
    → n ≡ m.slot
single_current m n one has =
    let same : eqb m.slot n ≡ true = rw one at has in
    sym (eqb-true m.slot n same)

-- where both have, all of it is read
both_kept : (m : UpdateMark) (c : Control)
    → has_both m.phase ≡ true
    → control_kept m c ≡ c
both_kept m c both = rw both refl

both_staged : (m : MarkPhase) → has_both m ≡ true → m ≡ marks.Staged
both_staged marks.Idle both = absurd cc
both_staged marks.Installing both = absurd cc
both_staged marks.Staged both = refl
both_staged marks.Merging both = absurd cc
both_staged marks.Completed both = absurd cc

-- ---- of one slot

single_pass : (m : UpdateMark) (c : Control)
    → m.slot < 2
    → has_both m.phase ≡ false
    → has_slot m.phase m.slot c.current ≡ true
    → may_run m.slot c ≡ true
    → first_fault (slot_checks m.slot (control_kept m c)) ≡ None
single_pass m c below one current runs =
    let now : eqb c.current m.slot ≡ true =
    eq-eqb c.current m.slot (single_current m c.current one current) in
    let works : is_good (info_at (control_kept m c) m.slot) ≡ true =
    ap is_good (single_info m c below one) ∙ (and_parts (is_good (info_at c m.slot)) _ runs).0 in
    rw (now, works) refl

single_runs : (m : UpdateMark) (c : Control)
    → m.slot < 2
    → has_both m.phase ≡ false
    → first_fault (slot_checks m.slot (control_kept m c)) ≡ None
    → may_run m.slot c ≡ true
single_runs m c below one none =
    let good : Bool = is_good (info_at (control_kept m c) m.slot) in
    let first = first_kept (check (c.current == m.slot) (BadState 1))
    (check good (BadState 2) ∷ []) none in
    let second = first_kept (check good (BadState 2)) [] first.1 in
    and_from _ _
    (ap is_good (sym (single_info m c below one)) ∙ check_kept good (BadState 2) second.0)
    (or_left _ _ (check_kept (c.current == m.slot) (BadState 1) first.0))

-- ---- of both

staged_parts : (slot : ℕ) (c : Control) (ts : List Table) (ss : List Scanned)
    → first_fault (staged_checks slot c ts ss) ≡ None
    → (may_run slot c ≡ true) × (target_ready slot ts ss ≡ true)
staged_parts slot c ts ss none =
    let first = first_kept (check (may_run slot c) (BadState 2))
    (check (target_ready slot ts ss) (BadState 3) ∷ []) none in
    let second = first_kept (check (target_ready slot ts ss) (BadState 3)) [] first.1 in (
      check_kept (may_run slot c) (BadState 2) first.0,
      check_kept (target_ready slot ts ss) (BadState 3) second.0,
    )

staged_pass : (slot : ℕ) (c : Control) (ts : List Table) (ss : List Scanned)
    → may_run slot c ≡ true
    → target_ready slot ts ss ≡ true
    → first_fault (staged_checks slot c ts ss) ≡ None
staged_pass slot c ts ss runs ready = rw (runs, ready) refl

-- ---- of a device

own_mark : (d : Device) (size : ℕ) (old : Image) (is : Represents d size old)
    → d.mark ≡ is.read.mark
own_mark d size old is = ap (λ (k : Device). k.mark) is.is

-- what its reading has of the boot control
own_control : (d : Device) (size : ℕ) (old : Image) (is : Represents d size old)
    → is.read.control ≡ control_kept is.read.mark d.control
own_control d size old is =
    control_is_seen _ _ old d.control is.read.control is.reads.control is.control
    ∙ seen_slots is.read d.control

module _ (r : Read) (c : Control) (below : r.mark.slot < 2) where
  -- the rules of the slots, as far as this boot control is read
  runs_of : state_fault r ≡ None
      → r.control ≡ control_kept r.mark c
      → may_run r.mark.slot c ≡ true
  runs_of state seen = elim (cases_Bool (has_both r.mark.phase)) [
    | inl both ↦
        let staged = state_staged r (both_staged r.mark.phase both) in
        subst (λ (k : Control). may_run r.mark.slot k ≡ true) (seen ∙ both_kept r.mark c both)
        (staged_parts r.mark.slot r.control r.tables r.scanned (sym staged ∙ state)).0
    | inr one ↦
        single_runs r.mark c below one
        (ap (λ (k : Control). first_fault (slot_checks r.mark.slot k)) (sym seen)
        ∙ single_works r one state)
  ]

  state_of : state_fault r ≡ None
      → has_slot r.mark.phase r.mark.slot c.current ≡ true
      → may_run r.mark.slot c ≡ true
      → KeepsState r c
  state_of state current runs = elim (cases_Bool (has_both r.mark.phase)) [
    | inl both ↦
        let is = both_staged r.mark.phase both in
        let was = staged_parts r.mark.slot r.control r.tables r.scanned
        (sym (state_staged r is) ∙ state) in
        state_staged (read_with r c) is
        ∙ ap (λ (k : Control). first_fault (staged_checks r.mark.slot k r.tables r.scanned))
        (seen_slots r c ∙ both_kept r.mark c both)
        ∙ staged_pass r.mark.slot c r.tables r.scanned runs was.1
    | inr one ↦
        single_again r (read_with r c).control one state
        (ap (λ (k : Control). first_fault (slot_checks r.mark.slot k)) (seen_slots r c)
        ∙ single_pass r.mark c below one current runs)
  ]

-- a boot control in which a slot with images is current, and the slots keep their rules
pub keeps_state : (d : Device) (size : ℕ) (old : Image) (c : Control) (is : Represents d size old)
    → d.mark.slot < 2
    → has_slot d.mark.phase d.mark.slot c.current ≡ true
    → may_run d.mark.slot c ≡ true
    → KeepsState is.read c
keeps_state d size old c is below current runs =
    let mark = own_mark d size old is in
    state_of is.read c
    (subst (λ (m : UpdateMark). m.slot < 2) mark below)
    is.reads.state
    (subst (λ (m : UpdateMark). has_slot m.phase m.slot c.current ≡ true) mark current)
    (subst (λ (m : UpdateMark). may_run m.slot c ≡ true) mark runs)

-- the slots of a device's own boot control keep their rules
pub runs_own : (d : Device) (size : ℕ) (old : Image)
    → Represents d size old
    → d.mark.slot < 2
    → may_run d.mark.slot d.control ≡ true
runs_own d size old is below =
    let mark = own_mark d size old is in
    subst (λ (m : UpdateMark). may_run m.slot d.control ≡ true) (sym mark)
    (runs_of is.read d.control
    (subst (λ (m : UpdateMark). m.slot < 2) mark below)
    is.reads.state (own_control d size old is))

-- ---- what a command does

module _ {D : Type 0} (g : Ghosts D) (d : Device) (staged : Option (List ℕ)) (command : Command)
  where
    -- it writes another boot control by one gate
    module _
        (reply : Reply) (c : Control) (old new : D)
        (kept : IsDevice d (g.size old))
        (is : g.is_modelled → Represents d (g.size old) (g.seen old))
        (current : has_slot d.mark.phase d.mark.slot c.current ≡ true)
        (runs : g.is_modelled → may_run d.mark.slot c ≡ true)
        (gives : g.is_modelled → GivesControl d (g.seen old) staged command reply c)
        (writes : WritesControl d (g.seen old 4) command c)
        (touches : g.is_modelled → Touches g (IsControl c (g.seen old 4)) old new)
        (quiet : IsQuiet g old new)
        (gate : g.is_modelled
        → IsAtRest g old
        → Adds g.moment g.outcomes old new (LeavesControl (g.told old) c (g.seen old))) where
      next : Mounted
      next = with_kept d c (g.seen old)

      represented : (t : g.is_modelled) (image : Image)
          → HasControl c (g.seen old) image
          → Represents (with_boot c d) (g.size old) image
      represented t image has =
          subst (λ (i : Image). Represents (with_boot c d) (g.size old) i) (sym has.3)
          (represents_gated d (g.size old) (g.seen old) (is t) has.0 c has.1
          (keeps_state d (g.size old) (g.seen old) c (is t) kept.slot current (runs t)))

      mounted : (t : g.is_modelled) (image : Image)
          → HasControl c (g.seen old) image
          → mounted_on (with_boot c d) image ≡ with_kept d c (g.seen old)
      mounted t image has =
          ap (mounted_on (with_boot c d)) has.3
          ∙ mounted_gated d (g.size old) (g.seen old) (is t) has.0 c has.1

      leaves : (t : g.is_modelled) (o : Outcome)
          → LeavesControl (g.told old) c (g.seen old) o
          → LeavesStep (g.told old) (g.size old)
          (steps_of (mounted_on d (g.seen old))
          (effect_on (mounted_on d (g.seen old)) staged command)) o
      leaves t o left = ⊎_elim
          (λ same. record {
            told_so_far = left.told_so_far;
            mounted = mounted_on d (g.seen old);
            step = inl refl;
            means =
                ap (device (g.size old)) same ∙ device_stands d (g.size old) (g.seen old) (is t);
          })
          (λ has. record {
            told_so_far = left.told_so_far;
            mounted = with_kept d c (g.seen old);
            step =
                subst
                (λ (e : Effect Mounted).
                IsOneOf (steps_of (mounted_on d (g.seen old)) e) (with_kept d c (g.seen old)))
                (sym (gives t)) (inr (inl refl));
            means =
                device_stands (with_boot c d) (g.size old) o.image (represented t o.image has)
                ∙ ap Ok (mounted t o.image has);
          })
          left.either

      steps : g.is_modelled
          → IsAtRest g old
          → Adds g.moment g.outcomes old new
          (LeavesStep (g.told old) (g.size old)
          (steps_of (mounted_on d (g.seen old))
          (effect_on (mounted_on d (g.seen old)) staged command)))
      steps t rest = adds_wider g.moment g.outcomes old new _ _ (gate t rest) (leaves t)

      -- the disk failed
      pub fails_change : (fault : DiskFault)
          → DiskFailed (g.faults old) (g.faults new)
          → DoesCommand g d staged command old new (Err fault)
      fails_change fault rose = record {
        refused = false;
        kept = tt;
        follows = tt;
        represents = λ t. tt;
        after = λ t. tt;
        reply = λ t. tt;
        rest = λ t rest. tt;
        quiet = quiet;
        still = λ t none. absurd (step_follows (gives t) none);
        touches = λ t. touches_wider g _ _ old new (touches t) writes;
        time = steps;
        faults = record { steady = tt; cause = rose };
      }

      pub does_change : Fits c
          → (g.is_modelled → HasControl c (g.seen old) (g.seen new))
          → (g.is_modelled → IsAtRest g new)
          → g.faults new ≡ g.faults old
          → DoesCommand g d staged command old new (Ok (with_boot c d, reply))
      does_change fits has settled counts = record {
        refused = false;
        kept = kept_device d (g.size old) c kept fits current;
        follows = follows_kept d command (with_boot c d)
            (record { geometry = refl; slot = refl; parts = refl });
        represents = λ t. represented t (g.seen new) (has t);
        after = λ t.
            mounted t (g.seen new) (has t)
            ∙ ap (λ (e : Effect Mounted). after_of (mounted_on d (g.seen old)) e) (sym (gives t));
        reply = λ t. ap (λ (e : Effect Mounted). e.reply) (sym (gives t));
        rest = λ t rest. settled t;
        quiet = quiet;
        still = λ t none. absurd (step_follows (gives t) none);
        touches = λ t. touches_wider g _ _ old new (touches t) writes;
        time = steps;
        faults = record { steady = counts; cause = tt };
      }
