-- What the state of a device has, by where its update stands.
use Rattle.std.proofs.Common.{◌≡◌, ◌∙◌, ℕ, zero, suc, ◌+◌, ◌%◌, ◌<◌, inl, inr, Bool}
use Rattle.std.proofs.Common.{true, false}
use Rattle.std.proofs.Common.{not, ◌||◌, cond, eqb, List, [], ◌∷◌, Option, Some, None, Result}
use Rattle.std.proofs.Common.{Ok, Err, take, refl, sym, ap, subst, arith}
use Rattle.std.proofs.lemmas.Bool.{and_parts, cases_Bool, eqb-true, eq-eqb}
use Rattle.std.specs.Prelude.{is_some, option_map, ok_or, slice_index}
use Rattle.std.specs.Str.{bytes_eq}
use Rattle.std.specs.Int.{w32}
use Rattle.vab_bytes.specs.Crc.{crc_of}
use Rattle.vab_disk.specs.Disk.{Image}
use Rattle.vab_bytes.specs.Number.{le_at}
use Rattle.vab_bootctl.specs.declared.slots.Control.{Control}
use Rattle.vab_bootctl.specs.declared.sector.ControlFault.{ControlFault}
use Rattle.vab_bootctl.specs.declared.sector.ControlFault.TheVariants.{BadMagic, BadVersion, BadSum}
use Rattle.vab_bootctl.specs.declared.sector.ControlFault.TheVariants.{BadSlots}
use Rattle.vab_bootctl.specs.Control.{control_of, with_infos, slot_of, suffix}
use Rattle.vab_bootctl.specs.Boot.{info_at}
use Rattle.vab_marks.specs.declared.mark.MarkPhase.{MarkPhase}
use Rattle.vab_marks.specs.declared.mark.MarkPhase.TheVariants as marks
use Rattle.vab_marks.specs.declared.mark.UpdateMark.{UpdateMark}
use Rattle.vab_tables.specs.declared.table.Table.{Table}
use Rattle.vab_layout.specs.Slots.{other_slot}
use Rattle.vab_model.specs.declared.state.PlanEntry.{PlanEntry}
use Rattle.vab_model.specs.declared.state.State.{State}
use Rattle.vab_model.specs.State.{images_at, control_seen, info_seen}
use Rattle.vab_device.specs.declared.fault.StartFault.TheVariants.{BadState}
use Rattle.vab_device.specs.declared.device.Device.{Device}
use Rattle.vab_device.specs.declared.device.Part.{Part}
use Rattle.vab_device.specs.Checks.{check, first_fault}
use Rattle.vab_device.specs.Kept.{has_both, has_slot}
use Rattle.vab_device.specs.Mounted.{Mounted, state_on, images_on, entries_on}
use Rattle.vab_device.specs.Mounted.{unplanned}
use Rattle.vab_device.specs.Mounted.{phase_by, count_at}
use Rattle.vab_device.specs.Phases.{phase_in, slot_checks, staged_checks, is_good, may_run}
use Rattle.vab_device.specs.Phases.{target_ready}
use Rattle.vab_device.specs.Stores.{Scanned}
use Rattle.vab_device.specs.Reading.{IsIn, Read, Reads, kept, state_fault, control_in, control_read}
use Rattle.vab_device.proofs.CheckLaws.{first_kept, check_kept}
use Rattle.vab_device.proofs.ReadingLaws.{device_was, of_phase, single_works, state_staged}
use Rattle.vab_device.proofs.ReadingLaws.{known_phase, slot_below, has_images}
use Rattle.vab_session.specs.Alone.{IsUnready}
use Rattle.vab_boots.specs.Boots.{worked_of, worked_slot, is_ready}

-- The slot of the update mark works. Where no update is ready it is current, and the other has no
-- images; where one is, the other has some.
pub record Facts (s : State) : Type 0 where
  pub slot : ℕ
  pub below : slot < 2
  pub current_below : s.control.current < 2
  pub has_own : is_some (images_at s slot) ≡ true
  pub good : is_good (info_at s.control slot) ≡ true
  pub worked : worked_slot s ≡ slot
  pub current : is_ready s.phase ≡ false → s.control.current ≡ slot
  pub alone : is_ready s.phase ≡ false → is_some (images_at s (other_slot slot)) ≡ false
  pub unready : is_ready s.phase ≡ false → IsUnready slot s.phase
  pub both : is_ready s.phase ≡ true → is_some (images_at s (other_slot slot)) ≡ true

-- ---- phases

unplanned_ready : (p : MarkPhase) (slot left : ℕ) → is_ready (unplanned p slot left) ≡ has_both p
unplanned_ready marks.Idle slot left = refl
unplanned_ready marks.Installing slot left = refl
unplanned_ready marks.Staged slot left = refl
unplanned_ready marks.Merging slot left = refl
unplanned_ready marks.Completed slot left = refl

unplanned_worked : (p : MarkPhase) (slot left current : ℕ)
    → (has_both p ≡ false → current ≡ slot)
    → worked_of (unplanned p slot left) current ≡ slot
unplanned_worked marks.Idle slot left current at = at refl
unplanned_worked marks.Installing slot left current at = at refl
unplanned_worked marks.Staged slot left current at = refl
unplanned_worked marks.Merging slot left current at = refl
unplanned_worked marks.Completed slot left current at = at refl

unplanned_unready : (p : MarkPhase) (slot left : ℕ)
    → has_both p ≡ false
    → IsUnready slot (unplanned p slot left)
unplanned_unready marks.Idle slot left one = tt
unplanned_unready marks.Installing slot left one = tt
unplanned_unready marks.Staged slot left one = absurd cc
unplanned_unready marks.Merging slot left one = refl
unplanned_unready marks.Completed slot left one = tt

-- where both slots have images nothing is planned
no_plan : (p : MarkPhase) (m : UpdateMark) (ts : List Table) (ss : List Scanned)
    → has_both p ≡ true
    → (phase_in p m).plan ts ss ≡ None
no_plan marks.Idle m ts ss both = absurd cc
no_plan marks.Installing m ts ss both = absurd cc
no_plan marks.Staged m ts ss both = refl
no_plan marks.Merging m ts ss both = absurd cc
no_plan marks.Completed m ts ss both = absurd cc

ready_is : (m : UpdateMark) (left : ℕ) (entries : Option (List PlanEntry))
    → (has_both m.phase ≡ true → entries ≡ None)
    → is_ready (phase_by m left entries) ≡ has_both m.phase
ready_is m left None none = unplanned_ready m.phase m.slot left
ready_is m left (Some es) none = elim (cases_Bool (has_both m.phase)) [
  | inl both ↦ absurd (let bad : Some es ≡ None = none both in cc)
  | inr one ↦ sym one
]

worked_is : (m : UpdateMark) (left : ℕ) (entries : Option (List PlanEntry)) (current : ℕ)
    → (has_both m.phase ≡ false → current ≡ m.slot)
    → worked_of (phase_by m left entries) current ≡ m.slot
worked_is m left None current at = unplanned_worked m.phase m.slot left current at
worked_is m left (Some es) current at = refl

unready_is : (m : UpdateMark) (left : ℕ) (entries : Option (List PlanEntry))
    → has_both m.phase ≡ false
    → IsUnready m.slot (phase_by m left entries)
unready_is m left None one = unplanned_unready m.phase m.slot left one
unready_is m left (Some es) one = refl

-- ---- which slots have images

flag : MarkPhase → UpdateMark → (slot : ℕ) → Bool
flag p m slot = cond (eqb slot 0) (phase_in p m).has_a (phase_in p m).has_b

flag_is : (p : MarkPhase) (m : UpdateMark) (slot : ℕ)
    → slot < 2
    → flag p m slot ≡ has_slot p m.slot slot
unfolding flag
flag_is p m zero lt = (of_phase p m).has_a
flag_is p m (suc zero) lt = (of_phase p m).has_b
flag_is p m (suc (suc n)) lt = absurd (omega (arith, lt))

own_slot : (p : MarkPhase) (own : ℕ) → has_slot p own own ≡ true
own_slot p own = elim (cases_Bool (has_both p)) [
  | inl both ↦ rw both refl
  | inr one ↦ rw one (eq-eqb own own refl)
]

both_slots : (p : MarkPhase) (own slot : ℕ) → has_both p ≡ true → has_slot p own slot ≡ true
both_slots p own slot both = rw both refl

other_lacks : (p : MarkPhase) (own : ℕ)
    → own < 2
    → has_both p ≡ false
    → has_slot p own (other_slot own) ≡ false
other_lacks p zero lt one = rw one refl
other_lacks p (suc zero) lt one = rw one refl
other_lacks p (suc (suc n)) lt one = absurd (omega (arith, lt))

some_images : (image : Image) (parts : Option (List Part))
    → is_some (images_on image parts) ≡ is_some parts
some_images image None = refl
some_images image (Some parts) = refl

-- it has partitions
has_parts : (d : Device) (image : Image) (slot : ℕ)
    → slot < 2
    → is_some (images_at (state_on d image) slot) ≡ true
    → cond (eqb slot 0) (is_some d.a) (is_some d.b) ≡ true
unfolding state_on
has_parts d image zero lt has = sym (some_images image d.a) ∙ has
has_parts d image (suc zero) lt has = sym (some_images image d.b) ∙ has
has_parts d image (suc (suc n)) lt has = absurd (omega (arith, lt))

-- a slot has images where the phase says so
has_at : (size : ℕ) (r : Read) (image : Image)
    → Reads size r image
    → (slot : ℕ)
    → slot < 2
    → is_some (images_at (state_on (kept r) image) slot) ≡ has_slot r.mark.phase r.mark.slot slot
unfolding state_on flag
has_at size r image reads zero lt =
    some_images image (kept r).a
    ∙ (has_images size r image reads).a
    ∙ flag_is r.mark.phase r.mark 0 lt
has_at size r image reads (suc zero) lt =
    some_images image (kept r).b
    ∙ (has_images size r image reads).b
    ∙ flag_is r.mark.phase r.mark 1 lt
has_at size r image reads (suc (suc n)) lt = absurd (omega (arith, lt))

-- ---- boot control

-- of a slot with images it is what was read
seen_at : (a b : Bool) (c : Control) (slot : ℕ)
    → slot < 2
    → cond (eqb slot 0) a b ≡ true
    → info_at (control_seen a b c) slot ≡ info_at c slot
seen_at a b c zero lt has = ap (λ (x : Bool). info_seen x c.a) has
seen_at a b c (suc zero) lt has = ap (λ (x : Bool). info_seen x c.b) has
seen_at a b c (suc (suc n)) lt has = absurd (omega (arith, lt))

-- Of one without images nothing is read: its priority is 0.
low_on : (d : Device) (image : Image) (slot : ℕ)
    → slot < 2
    → is_some (images_at (state_on d image) slot) ≡ false
    → (info_at (state_on d image).control slot).priority ≡ 0
unfolding state_on
low_on d image zero lt none =
    ap (λ (x : Bool). (info_seen x d.control.a).priority) (sym (some_images image d.a) ∙ none)
low_on d image (suc zero) lt none =
    ap (λ (x : Bool). (info_seen x d.control.b).priority) (sym (some_images image d.b) ∙ none)
low_on d image (suc (suc n)) lt none = absurd (omega (arith, lt))

pub unread_low : (size : ℕ) (image : Image) (m : Mounted)
    → IsIn size m image
    → (slot : ℕ)
    → slot < 2
    → is_some (images_at m.state slot) ≡ false
    → (info_at m.state.control slot).priority ≡ 0
unread_low size image m is slot lt =
    let was = device_was size image m is in
    subst
    (λ (x : Mounted).
    is_some (images_at x.state slot) ≡ false
    → (info_at x.state.control slot).priority ≡ 0)
    (sym was.is)
    (low_on (kept was.read) image slot lt)

slot_good : (slot : ℕ) (c : Control)
    → first_fault (slot_checks slot c) ≡ None
    → (c.current ≡ slot) × (is_good (info_at c slot) ≡ true)
slot_good slot c none =
    let current = check (eqb c.current slot) (BadState 1) in
    let good = check (is_good (info_at c slot)) (BadState 2) in
    let parts = first_kept current (good ∷ []) none in
    let later = first_kept good [] parts.1 in (
      eqb-true c.current slot (check_kept (eqb c.current slot) (BadState 1) parts.0),
      check_kept (is_good (info_at c slot)) (BadState 2) later.0,
    )

staged_good : (slot : ℕ) (c : Control) (ts : List Table) (ss : List Scanned)
    → first_fault (staged_checks slot c ts ss) ≡ None
    → is_good (info_at c slot) ≡ true
staged_good slot c ts ss none =
    let runs = check (may_run slot c) (BadState 2) in
    let ready = check (target_ready slot ts ss) (BadState 3) in
    let parts = first_kept runs (ready ∷ []) none in
    (and_parts
    (is_good (info_at c slot))
    (eqb c.current slot || not (eqb (info_at c (other_slot slot)).priority 0))
    (check_kept (may_run slot c) (BadState 2) parts.0)).0

-- the slot of the mark works, in each phase
own_good : (size : ℕ) (r : Read) (image : Image)
    → Reads size r image
    → is_good (info_at r.control r.mark.slot) ≡ true
own_good size r image reads = elim (known_phase image r.mark reads.mark) [
  | inl idle ↦ by_one (ap has_both idle)
  | inr (inl installing) ↦ by_one (ap has_both installing)
  | inr (inr (inl staged)) ↦
      staged_good r.mark.slot r.control r.tables r.scanned
      (sym (state_staged r staged) ∙ reads.state)
  | inr (inr (inr merging)) ↦ by_one (ap has_both merging)
]
  where
    by_one : has_both r.mark.phase ≡ false → is_good (info_at r.control r.mark.slot) ≡ true
    by_one one = (slot_good r.mark.slot r.control (single_works r one reads.state)).1

own_current : (r : Read)
    → state_fault r ≡ None
    → has_both r.mark.phase ≡ false
    → r.control.current ≡ r.mark.slot
own_current r none one =
    (slot_good r.mark.slot r.control (single_works r one none)).0

-- ---- the current slot is a or b

unless_bad : (b : Bool) (fault : ControlFault) (x : Result Control ControlFault) (c : Control)
    → cond b (Err fault) x ≡ Ok c
    → x ≡ Ok c
unless_bad true fault x c is = absurd (let bad : Err fault ≡ Ok c = is in cc)
unless_bad false fault x c is = is

suffix_below : (a b : Bool) (slot : ℕ)
    → cond a (Some 0) (cond b (Some 1) None) ≡ Some slot
    → slot < 2
suffix_below true b slot is = let at : 0 ≡ slot = cc in omega (arith, at)
suffix_below false true slot is = let at : 1 ≡ slot = cc in omega (arith, at)
suffix_below false false slot is = absurd cc

named_below : (bytes : List ℕ) (o : Option ℕ) (c : Control)
    → ((slot : ℕ) → o ≡ Some slot → slot < 2)
    → ok_or (option_map (with_infos bytes) o) BadSlots ≡ Ok c
    → c.current < 2
named_below bytes None c below is = absurd cc
named_below bytes (Some slot) c below is =
    let e : with_infos bytes slot ≡ c = cc in
    subst (λ (k : Control). k.current < 2) e (below slot refl)

-- each test of the sector held
whole : (bytes : List ℕ) (c : Control)
    → control_of bytes ≡ Ok c
    → ok_or (option_map (with_infos bytes) (slot_of (take 4 bytes))) BadSlots ≡ Ok c
unfolding control_of
whole bytes c is =
    let named : Result Control ControlFault =
    ok_or (option_map (with_infos bytes) (slot_of (take 4 bytes))) BadSlots in
    let bad_slots : Bool = not (eqb (slice_index bytes 9 % 8) 2) in
    let bad_sum : Bool = not (eqb (le_at w32 bytes 28) (crc_of (take 28 bytes))) in
    let bad_version : Bool = not (eqb (slice_index bytes 8) 1) in
    let slots : Result Control ControlFault = cond bad_slots (Err BadSlots) named in
    let sum : Result Control ControlFault = cond bad_sum (Err BadSum) slots in
    let version : Result Control ControlFault = cond bad_version (Err BadVersion) sum in
    unless_bad bad_slots BadSlots named c
    (unless_bad bad_sum BadSum slots c
    (unless_bad bad_version BadVersion sum c
    (unless_bad (not (eqb (le_at w32 bytes 4) 0x42414342)) BadMagic version c is)))

control_below : (bytes : List ℕ) (c : Control) → control_of bytes ≡ Ok c → c.current < 2
control_below bytes c is =
    let text = take 4 bytes in
    named_below bytes (slot_of text) c
    (suffix_below (bytes_eq text (suffix 0)) (bytes_eq text (suffix 1)))
    (whole bytes c is)

read_below : (a b : Bool) (x : Result Control ControlFault) (seen : Control)
    → ((c : Control) → x ≡ Ok c → c.current < 2)
    → control_read a b x ≡ Ok seen
    → seen.current < 2
read_below a b (Ok c) seen below is =
    let e : control_seen a b c ≡ seen = cc in
    subst (λ (k : Control). k.current < 2) e (below c refl)
read_below a b (Err fault) seen below is = absurd cc

in_below : (a b : Bool) (image : Image) (c : Control) → control_in a b image ≡ Ok c → c.current < 2
unfolding control_in
in_below a b image c is = read_below a b (control_of (image 4)) c (control_below (image 4)) is

-- ---- a disk that is read

entries_none : (image : Image) (plan : Option (List Part))
    → plan ≡ None
    → entries_on image plan ≡ None
entries_none image plan none = ap (entries_on image) none

facts_on : (size : ℕ) (r : Read) (image : Image)
    → Reads size r image
    → Facts (state_on (kept r) image)
unfolding state_on
facts_on size r image reads =
    let d : Device = kept r in
    let p : MarkPhase = r.mark.phase in
    let slot : ℕ = r.mark.slot in
    let left : ℕ = count_at d.a + count_at d.b in
    let entries : Option (List PlanEntry) = entries_on image d.plan in
    let below : slot < 2 = slot_below image r.mark reads.mark in
    let other : other_slot slot < 2 = omega (arith, below) in
    let planned : has_both p ≡ true → entries ≡ None =
    (λ both. entries_none image d.plan (no_plan p r.mark r.tables r.scanned both)) in
    let ready : is_ready (phase_by r.mark left entries) ≡ has_both p =
    ready_is r.mark left entries planned in
    let one : is_ready (phase_by r.mark left entries) ≡ false → has_both p ≡ false =
    (λ not_ready. sym ready ∙ not_ready) in
    let has : is_some (images_at (state_on d image) slot) ≡ true =
    has_at size r image reads slot below ∙ own_slot p slot in
    record {
      slot = slot;
      below = below;
      current_below = in_below _ _ image r.control reads.control;
      has_own = has;
      good = ap is_good (seen_at (is_some d.a) (is_some d.b) r.control slot below
          (has_parts d image slot below has))
          ∙ own_good size r image reads;
      worked = worked_is r.mark left entries r.control.current (own_current r reads.state);
      current = λ not_ready. own_current r reads.state (one not_ready);
      alone = λ not_ready.
          has_at size r image reads (other_slot slot) other
          ∙ other_lacks p slot below (one not_ready);
      unready = λ not_ready. unready_is r.mark left entries (one not_ready);
      both = λ is_ready.
          has_at size r image reads (other_slot slot) other
          ∙ both_slots p slot (other_slot slot) (sym ready ∙ is_ready);
    }

pub facts_of : (size : ℕ) (image : Image) (m : Mounted) → IsIn size m image → Facts m.state
facts_of size image m is =
    let was = device_was size image m is in
    subst (λ (x : Mounted). Facts x.state) (sym was.is) (facts_on size was.read image was.reads)
