-- A begin: its dead writes, and its step.
use Rattle.std.proofs.Common.{◌≡◌, ◌≢◌, ◌∙◌, inl, inr, ℕ, zero, suc, ◌≤◌, ◌<◌, List, is_some}
use Rattle.std.proofs.Common.{[], ◌∷◌, length, Ok, refl, sym, ap, subst, arith}
use Rattle.std.specs.Prelude.{Bool, true, false, Option, Some, None, ◌==◌, map, nat_le}
use Rattle.std.specs.Prelude.{if◌then◌else◌}
use Rattle.std.proofs.lemmas.Bool.{cases_Bool}
use Rattle.vab_disk.specs.Disk.{Image}
use Rattle.vab_disk.specs.Calls.{SameBut}
use Rattle.vab_bootctl.specs.declared.slots.Control.{Control}
use Rattle.vab_bootctl.specs.Control.{control_of, Fits, FitsInfo}
use Rattle.vab_marks.specs.declared.mark.MarkPhase.{MarkPhase}
use Rattle.vab_marks.specs.declared.mark.MarkPhase.TheVariants as marks
use Rattle.vab_marks.specs.declared.mark.UpdateMark.{UpdateMark}
use Rattle.vab_marks.specs.declared.status.PartStatus.{PartStatus}
use Rattle.vab_marks.specs.Mark.{mark_of, mark_spelling, rephased, resloted, begun, FlagsFit}
use Rattle.vab_statuses.specs.Statuses.{no_statuses}
use Rattle.vab_geometry.specs.declared.geometry.Geometry.{Geometry}
use Rattle.vab_tables.specs.declared.table.Table.{Table}
use Rattle.vab_tables.specs.Spelling.{table_size_of}
use Rattle.vab_tables.specs.Text.{IsTableText}
use Rattle.vab_layout.specs.declared.layout.Layout.{Layout}
use Rattle.vab_layout.specs.Layout.{layout_of, table_of, first_device}
use Rattle.vab_layout.specs.Slots.{other_slot, twins_by}
use Rattle.vab_layout.specs.Plain.{plain}
use Rattle.vab_physical.specs.declared.tail.Tail.{Tail}
use Rattle.vab_builder.specs.declared.fault.EditFault.{EditFault}
use Rattle.vab_builder.specs.declared.fault.EditFault.TheVariants as faults
use Rattle.vab_builder.specs.Import.{imported_by}
use Rattle.vab_builder.specs.Edits.{fitting}
use Rattle.vab_install.specs.Control.{cleared_of, no_info}
use Rattle.vab_model.specs.declared.command.Reply.TheVariants as replies
use Rattle.vab_model.specs.declared.command.Refusal.TheVariants as refusals
use Rattle.vab_model.specs.Effects.{does, refuses, wanting, unless_refused, if_plain, Effect}
use Rattle.vab_device.specs.declared.device.Part.{Part}
use Rattle.vab_device.specs.declared.device.Device.{Device}
use Rattle.vab_device.specs.Idle.{control_read_of}
use Rattle.vab_device.specs.Kept.{IsDevice, IsTableOf, IsKeptTable, IsUpdate, lies_in}
use Rattle.vab_device.specs.Kept.{table_of_slot, HasNoStores}
use Rattle.vab_device.specs.Mounted.{Mounted, mounted_on, state_on, images_on, image_on, overlay_on}
use Rattle.vab_device.specs.Phases.{phase_in, phase_at, plan_of}
use Rattle.vab_device.specs.Reading.{Read, tables_in, table_at, Reads, AgreeCopies}
use Rattle.vab_device.specs.Reading.{Represents, Dead}
use Rattle.vab_device.specs.Stores.{Scanned}
use Rattle.vab_device.specs.Updates.{effect_on, table_effect, installing_with, refusal_of}
use Rattle.vab_device.specs.Updates.{is_full_table, no_entries, begin_effect}
use Rattle.vab_begin.specs.declared.target.Target.{Target}
use Rattle.vab_begin.specs.Kept.{with_control, with_update}
use Rattle.vab_begin.specs.Target.{layout_for, IsTargetOf, IsTargetFor, IsRefusedBy}
use Rattle.vab_begin.specs.Writes.{begin_of, IsOfPlaces}
use Rattle.vab_device.proofs.DoesLaws.{step_follows}
use Rattle.vab_device.proofs.Steps.{marked, IsStep}
use Rattle.vab_begin.proofs.KeptLaws.{update_kept}
use Rattle.vab_device.proofs.MarkLaws.{as_idle}
use Rattle.vab_device.proofs.ReadingLaws.{flags_known}
use Rattle.vab_device.proofs.PhaseCases.{some_of, none_of, cases_slot, unplanned_of}
use Rattle.vab_begin.proofs.KeptLaws.{current_of, source_a, source_b, no_target_a, no_target_b}
use Rattle.vab_device.specs.Kept.{has_both}
use Rattle.vab_device.proofs.StayLaws.{one_of}
use Rattle.vab_device.proofs.UpdateLaws.{update_read, kept_with}
use Rattle.vab_begin.proofs.CancelLaws.{some_same}
use Rattle.vab_begin.proofs.ImportLaws.{imported_plain, imported_no_stores, fitting_same, plan_same}
use Rattle.vab_begin.proofs.PlannedLaws.{plan_keeps, target_table}
use Rattle.vab_begin.proofs.BeginLaws.{idle_shape, IsPrepared, same_read}
use Rattle.vab_begin.proofs.BeginLaws.{reads_new}
use Rattle.vab_begin.proofs.BeginLaws.{copies_new, control_new, images_new_a, images_new_b}
use Rattle.vab_begin.proofs.BeginLaws.{version_new}
use Rattle.vab_device.proofs.OverlayLaws.{plain_none}
use Rattle.vab_model.specs.declared.state.Overlay.{Overlay}

-- the device with an update to a target of this table, which stands apart or not
abbrev pub begun_device : (apart : Bool) → Device → Table → Device
begun_device apart d u =
    with_control (cleared_of d.control (other_slot d.mark.slot))
    (with_update d (begun apart d.mark) (Some u)
    (Some (plan_of (other_slot d.mark.slot) (layout_of u) [])))

-- ---- what it means

-- the row of a begin
begins : (m : Mounted) (staged : Option (List ℕ)) (apart : Bool)
    → effect_on m staged (begin_of apart)
    ≡ if_plain m.state.overlay (begin_effect m apart m.state.phase)
begins m staged true = refl
begins m staged false = refl

-- it is refused over an overlay, as where there is an update
plain_refused : (o : Option Overlay) (next : Effect Mounted)
    → next ≡ refuses refusals.NotIdle
    → if_plain o next ≡ refuses refusals.NotIdle
plain_refused None next is = is
plain_refused (Some o) next is = refl

over_refused : (o : Option Overlay) (next : Effect Mounted)
    → is_some o ≡ true
    → if_plain o next ≡ refuses refusals.NotIdle
over_refused None next some = absurd cc
over_refused (Some o) next some = refl

begun_a : (apart : Bool) (d : Device) (old new : Image) (a : List Part) (u : Table)
    → d.mark.slot ≡ 0
    → d.a ≡ Some a
    → d.b ≡ None
    → d.overlay ≡ None
    → map (image_on new) a ≡ map (image_on old) a
    → mounted_on (begun_device apart d u) new
    ≡ installing_with (mounted_on d old) d.mark.slot (no_entries apart) (layout_of u)
unfolding state_on cleared_of
begun_a apart d old new a u slot some none plain same =
    rw (plan_same new (other_slot d.mark.slot) (layout_of u), slot, some, none, plain, same) refl

begun_b : (apart : Bool) (d : Device) (old new : Image) (b : List Part) (u : Table)
    → d.mark.slot ≡ 1
    → d.a ≡ None
    → d.b ≡ Some b
    → d.overlay ≡ None
    → map (image_on new) b ≡ map (image_on old) b
    → mounted_on (begun_device apart d u) new
    ≡ installing_with (mounted_on d old) d.mark.slot (no_entries apart) (layout_of u)
unfolding state_on cleared_of
begun_b apart d old new b u slot none some plain same =
    rw (plan_same new (other_slot d.mark.slot) (layout_of u), slot, some, none, plain, same) refl

begins_a : (apart : Bool) (d : Device) (old : Image) (staged : Option (List ℕ)) (a : List Part)
    (s : Table)
    → d.overlay ≡ None
    → d.plan ≡ None
    → d.mark.phase ≡ marks.Idle
    → d.mark.slot ≡ 0
    → d.control.current ≡ 0
    → d.a ≡ Some a
    → d.table_a ≡ Some s
    → effect_on (mounted_on d old) staged (begin_of apart)
    ≡ table_effect (mounted_on d old) d.mark.slot (no_entries apart)
    (fitting d.geometry.max (imported_by apart d.mark.slot (plain d.mark.slot (layout_of s))))
unfolding state_on
begins_a apart d old staged a s plain plan phase slot current some table =
    begins (mounted_on d old) staged apart
    ∙ rw (plain, plan, phase, slot, current, some, table) refl

begins_b : (apart : Bool) (d : Device) (old : Image) (staged : Option (List ℕ)) (b : List Part)
    (s : Table)
    → d.overlay ≡ None
    → d.plan ≡ None
    → d.mark.phase ≡ marks.Idle
    → d.mark.slot ≡ 1
    → d.control.current ≡ 1
    → d.b ≡ Some b
    → d.table_b ≡ Some s
    → effect_on (mounted_on d old) staged (begin_of apart)
    ≡ table_effect (mounted_on d old) d.mark.slot (no_entries apart)
    (fitting d.geometry.max (imported_by apart d.mark.slot (plain d.mark.slot (layout_of s))))
unfolding state_on
begins_b apart d old staged b s plain plan phase slot current some table =
    begins (mounted_on d old) staged apart
    ∙ rw (plain, plan, phase, slot, current, some, table) refl

-- the table of a slot, where the slot is known
slot_at : (n k : ℕ) (a b x : Option Table)
    → n ≡ k
    → (if n == 0 then a else b) ≡ x
    → (if k == 0 then a else b) ≡ x
slot_at n k a b x is same = subst (λ (m : ℕ). (if m == 0 then a else b) ≡ x) is same

-- The begin of an update of a device: the target's table, or the refusal.
pub begin_is : (apart : Bool) (d : Device) (size : ℕ) (old : Image) (staged : Option (List ℕ))
    (s : Table)
    → IsDevice d size
    → d.mark.phase ≡ marks.Idle
    → d.mark.overlaid ≡ false
    → table_of_slot d d.mark.slot ≡ Some s
    → effect_on (mounted_on d old) staged (begin_of apart)
    ≡ table_effect (mounted_on d old) d.mark.slot (no_entries apart)
    (layout_for apart d.geometry.max d.mark.slot s)
begin_is apart d size old staged s dev idle bare is =
    let none = plain_none d size dev bare in
    let plan = unplanned_of d size marks.Idle dev refl idle in
    let current = current_of d size dev (ap has_both idle) in
    let plainly : effect_on (mounted_on d old) staged (begin_of apart)
    ≡ table_effect (mounted_on d old) d.mark.slot (no_entries apart)
    (fitting d.geometry.max (imported_by apart d.mark.slot (plain d.mark.slot (layout_of s)))) =
    elim (cases_slot d.mark.slot dev.slot) [
      | inl first ↦
          let a = some_of d.a (source_a d size dev first) in
          begins_a apart d old staged a.0 s none plan idle first (current ∙ first) a.1
          (slot_at d.mark.slot 0 d.table_a d.table_b (Some s) first is)
      | inr one ↦
          let b = some_of d.b (source_b d size dev one) in
          begins_b apart d old staged b.0 s none plan idle one (current ∙ one) b.1
          (slot_at d.mark.slot 1 d.table_a d.table_b (Some s) one is)
    ] in
    plainly
    ∙ ap
    (λ (l : Layout).
    table_effect (mounted_on d old) d.mark.slot (no_entries apart) (fitting d.geometry.max l))
    (imported_plain apart d.mark.slot (layout_of s) dev.slot)

-- the begin of an update to this target
begin_gives : (apart : Bool) (d : Device) (size : ℕ) (old : Image) (staged : Option (List ℕ))
    (x : Target)
    → IsDevice d size
    → d.mark.phase ≡ marks.Idle
    → d.mark.overlaid ≡ false
    → IsTargetFor apart d x
    → effect_on (mounted_on d old) staged (begin_of apart)
    ≡ wanting true
    (does replies.Done
    (installing_with (mounted_on d old) d.mark.slot (no_entries apart) (layout_of x.table)))
begin_gives apart d size old staged x dev idle plain for =
    let of = for.target in
    let gives : layout_for apart d.geometry.max d.mark.slot for.source
    ≡ Ok (layout_of x.table) =
    of.gives.1
    ∙ ap Ok (sym
    (fitting_same d.geometry.max (imported_by apart d.mark.slot (layout_of for.source))
    of.gives.0
    of.gives.1) ∙ sym of.layout) in
    begin_is apart d size old staged for.source dev idle plain for.is
    ∙ ap (table_effect (mounted_on d old) d.mark.slot (no_entries apart)) gives

-- it has a device behind it
pub begin_follows : (apart : Bool) (d : Device) (size : ℕ) (old : Image)
    (staged : Option (List ℕ)) (x : Target)
    → IsDevice d size
    → d.mark.phase ≡ marks.Idle
    → d.mark.overlaid ≡ false
    → IsTargetFor apart d x
    → (effect_on (mounted_on d old) staged (begin_of apart)).later ≢ []
begin_follows apart d size old staged x dev idle plain for =
    step_follows (begin_gives apart d size old staged x dev idle plain for)

pub begin_refused : (apart : Bool) (d : Device) (old : Image) (staged : Option (List ℕ))
    (plan : List Part)
    → d.plan ≡ Some plan
    → effect_on (mounted_on d old) staged (begin_of apart) ≡ refuses refusals.NotIdle
unfolding state_on
begin_refused apart d old staged plan is =
    begins (mounted_on d old) staged apart
    ∙ plain_refused (overlay_on old d.overlay)
    (begin_effect (mounted_on d old) apart (state_on d old).phase) (rw is refl)

pub begin_staged : (apart : Bool) (d : Device) (old : Image) (staged : Option (List ℕ))
    → d.plan ≡ None
    → d.mark.phase ≡ marks.Staged
    → effect_on (mounted_on d old) staged (begin_of apart) ≡ refuses refusals.NotIdle
unfolding state_on
begin_staged apart d old staged plan phase =
    begins (mounted_on d old) staged apart
    ∙ plain_refused (overlay_on old d.overlay)
    (begin_effect (mounted_on d old) apart (state_on d old).phase) (rw (plan, phase) refl)

pub begin_merging : (apart : Bool) (d : Device) (old : Image) (staged : Option (List ℕ))
    → d.plan ≡ None
    → d.mark.phase ≡ marks.Merging
    → effect_on (mounted_on d old) staged (begin_of apart) ≡ refuses refusals.NotIdle
unfolding state_on
begin_merging apart d old staged plan phase =
    begins (mounted_on d old) staged apart
    ∙ plain_refused (overlay_on old d.overlay)
    (begin_effect (mounted_on d old) apart (state_on d old).phase) (rw (plan, phase) refl)

over_some : (image : Image) (o : Option Part) → is_some (overlay_on image o) ≡ is_some o
over_some image None = refl
over_some image (Some p) = refl

pub begin_over : (apart : Bool) (d : Device) (size : ℕ) (old : Image) (staged : Option (List ℕ))
    → IsDevice d size
    → d.mark.overlaid ≡ true
    → effect_on (mounted_on d old) staged (begin_of apart) ≡ refuses refusals.NotIdle
unfolding state_on
begin_over apart d size old staged dev overlaid =
    begins (mounted_on d old) staged apart
    ∙ over_refused (overlay_on old d.overlay)
    (begin_effect (mounted_on d old) apart (state_on d old).phase)
    (over_some old d.overlay ∙ dev.overlaid ∙ overlaid)

-- ---- why there is no target

abbrev pub is_memory : EditFault → Bool
is_memory faults.BadName = false
is_memory faults.BadSize = false
is_memory faults.Unknown = false
is_memory faults.Exists = false
is_memory faults.HasStore = false
is_memory (faults.TooMany count) = false
is_memory (faults.GroupLimit used limit) = false
is_memory (faults.NoRoom used cap) = false
is_memory (faults.TableFull size most) = false
is_memory faults.NoMemory = true

-- memory may be refused in place of each answer of a table
may_refuse : (apart : Bool) (m : Mounted) (slot max : ℕ) (l : Layout)
    → unless_refused true (table_effect m slot (no_entries apart) (fitting max l))
    ≡ refuses refusals.NoMemory
may_refuse apart m slot max l = elim (cases_Bool (nat_le (table_size_of (table_of l)) max)) [
  | inl fits ↦ rw fits refl
  | inr long ↦ rw long refl
]

pub refused_is : (apart : Bool) (m : Mounted) (slot max : ℕ) (s : Table) (fault : EditFault)
    → IsRefusedBy apart max slot s fault
    → unless_refused (is_memory fault)
    (table_effect m slot (no_entries apart) (layout_for apart max slot s))
    ≡ wanting (is_full_table fault) (refuses (refusal_of fault))
refused_is apart m slot max s faults.BadName is =
    ap (table_effect m slot (no_entries apart)) is
refused_is apart m slot max s faults.BadSize is =
    ap (table_effect m slot (no_entries apart)) is
refused_is apart m slot max s faults.Unknown is =
    ap (table_effect m slot (no_entries apart)) is
refused_is apart m slot max s faults.Exists is =
    ap (table_effect m slot (no_entries apart)) is
refused_is apart m slot max s faults.HasStore is =
    ap (table_effect m slot (no_entries apart)) is
refused_is apart m slot max s (faults.TooMany count) is =
    ap (table_effect m slot (no_entries apart)) is
refused_is apart m slot max s (faults.GroupLimit used limit) is =
    ap (table_effect m slot (no_entries apart)) is
refused_is apart m slot max s (faults.NoRoom used cap) is =
    ap (table_effect m slot (no_entries apart)) is
refused_is apart m slot max s (faults.TableFull size most) is =
    ap (table_effect m slot (no_entries apart)) is
refused_is apart m slot max s faults.NoMemory is =
    may_refuse apart m slot max (imported_by apart slot (layout_of s))

-- ---- what is kept

pub source_rules : (d : Device) (size : ℕ) (s : Table)
    → IsDevice d size
    → table_of_slot d d.mark.slot ≡ Some s
    → IsTableOf d.tail.super_end d.geometry d.mark.slot s
source_rules d size s dev is = elim (cases_slot d.mark.slot dev.slot) [
  | inl first ↦
      let there = slot_at d.mark.slot 0 d.table_a d.table_b (Some s) first is in
      let kept : IsTableOf d.tail.super_end d.geometry 0 s =
      subst (IsKeptTable d.tail.super_end d.geometry 0) there dev.table_a in
      subst (λ (n : ℕ). IsTableOf d.tail.super_end d.geometry n s) (sym first) kept
  | inr one ↦
      let there = slot_at d.mark.slot 1 d.table_a d.table_b (Some s) one is in
      let kept : IsTableOf d.tail.super_end d.geometry 1 s =
      subst (IsKeptTable d.tail.super_end d.geometry 1) there dev.table_b in
      subst (λ (n : ℕ). IsTableOf d.tail.super_end d.geometry n s) (sym one) kept
]

pub device_same : (s u : Table)
    → u.devices ≡ s.devices
    → (layout_of u).device ≡ (layout_of s).device
unfolding layout_of
device_same s u is = ap first_device is

pub none_fits : FitsInfo no_info
none_fits = record { priority = omega arith; tries = omega arith }

pub cleared_fits : (c : Control) (slot : ℕ) → Fits c → Fits (cleared_of c slot)
unfolding cleared_of
cleared_fits c slot is = elim (cases_Bool (slot == 0)) [
  | inl h ↦ rw h (record { current = is.current; a = none_fits; b = is.b })
  | inr h ↦ rw h (record { current = is.current; a = is.a; b = none_fits })
]

cleared_current : (c : Control) (slot : ℕ) → (cleared_of c slot).current ≡ c.current
unfolding cleared_of
cleared_current c slot = elim (cases_Bool (slot == 0)) [ inl h ↦ rw h refl | inr h ↦ rw h refl ]

-- of a target that stands apart no partition is in the stores' group
pub target_no_stores : (apart : Bool) (d : Device) (size : ℕ) (x : Target)
    → IsDevice d size
    → IsTargetFor apart d x
    → HasNoStores apart (layout_of x.table).parts
target_no_stores apart d size x dev for =
    subst (λ (l : Layout). HasNoStores apart l.parts) (sym for.target.layout)
    (imported_no_stores apart d.mark.slot (layout_of for.source) dev.slot
    (source_rules d size for.source dev for.is).own)

begun_flags : (apart : Bool) (m : UpdateMark) → FlagsFit (begun apart m)
begun_flags true m = (refl, refl)
begun_flags false m = (refl, refl)

pub begun_kept : (apart : Bool) (d : Device) (size : ℕ) (x : Target)
    → IsDevice d size
    → d.mark.phase ≡ marks.Idle
    → d.mark.overlaid ≡ false
    → IsTargetFor apart d x
    → IsDevice (begun_device apart d x.table) size
begun_kept apart d size x dev idle plain for =
    let g = d.geometry in
    let s = for.source in
    let of = for.target in
    let rules = source_rules d size s dev for.is in
    let lies : lies_in d.tail.super_end g (layout_of x.table).device ≡ true =
    ap (lies_in d.tail.super_end g) (device_same s x.table of.device) ∙ rules.lies in
    let planned = plan_keeps d.tail.super_end (other_slot d.mark.slot) g x.table dev.enough
    (target_table (other_slot d.mark.slot) (twins_by apart (layout_of s).parts) (layout_of s).parts
    x.table of.rules of.target)
    lies in
    update_kept d size (cleared_of d.control (other_slot d.mark.slot)) marks.Installing apart
    (Some x.table) (Some (plan_of (other_slot d.mark.slot) (layout_of x.table) [])) dev
    (cleared_fits d.control (other_slot d.mark.slot) dev.control)
    (cleared_current d.control (other_slot d.mark.slot) ∙ current_of d size dev (ap has_both idle))
    (inr (inl refl)) (begun_flags apart d.mark) plain (ap has_both idle) refl
    (record {
      rules = of.rules;
      small = omega (arith, of.size, dev.geometry.most);
      own = of.target.own;
      lies = lies;
    })
    refl refl planned
    (subst (λ (t : Option Table). IsUpdate apart d.mark.slot t (Some x.table)) (sym for.is)
    (record {
      target = of.target;
      device = sym of.device;
      groups = sym of.groups;
      no_stores = target_no_stores apart d size x dev for;
    }))

kept_begun : (apart : Bool) (base : UpdateMark) (slot : ℕ) (c : Control)
    (ss : List (Option PartStatus))
    (seen : Control)
    (tail : Tail)
    (g : Geometry)
    (s u : Table) (scanned : List Scanned)
    → slot < 2
    → begun_device apart (kept_with (idle_shape base slot ss seen tail g s scanned) c) u
    ≡ kept_with (update_read (begun apart (resloted slot base)) no_statuses
    (control_read_of slot c) tail g s u [])
    (cleared_of c (other_slot slot))
kept_begun apart base zero c ss seen tail g s u scanned below = refl
kept_begun apart base (suc zero) c ss seen tail g s u scanned below = refl
kept_begun apart base (suc (suc n)) c ss seen tail g s u scanned below =
    absurd (omega (arith, below))

kept_source : (base : UpdateMark) (slot : ℕ) (c : Control) (ss : List (Option PartStatus))
    (seen : Control)
    (tail : Tail)
    (g : Geometry)
    (s : Table) (scanned : List Scanned)
    → slot < 2
    → table_of_slot (kept_with (idle_shape base slot ss seen tail g s scanned) c) slot ≡ Some s
kept_source base zero c ss seen tail g s scanned below = refl
kept_source base (suc zero) c ss seen tail g s scanned below = refl
kept_source base (suc (suc n)) c ss seen tail g s scanned below = absurd (omega (arith, below))

-- ---- from the form in which it is read to the device

module _ (told : Type 0) (apart : Bool) (text : List ℕ) (size : ℕ) (old : Image) where
  abbrev DeadOf : Device → Read → Type 0
  DeadOf d r =
      IsDevice d size
      → Reads size r old
      → control_of (old 4) ≡ Ok d.control
      → length text ≤ d.geometry.max
      → Dead size r old (IsOfPlaces told d text (old 4))

  -- what is shown of the next device
  record IsNext (d next : Device) (new : Image) : Type 0 where
    represents : Represents next size new
    images_a : images_on new d.a ≡ images_on old d.a
    images_b : images_on new d.b ≡ images_on old d.b

  abbrev NextOf : Target → Image → Device → Read → Type 0
  NextOf x mid d r =
      IsDevice d size
      → IsTargetFor apart d x
      → Reads size r old
      → control_of (old 4) ≡ Ok d.control
      → AgreeCopies r.geometry (phase_at r.mark).tables r.tables old
      → length text ≤ d.geometry.max
      → SameBut (IsOfPlaces told d text (old 4)) old mid
      → IsPrepared d text mid
      → IsTableText d.geometry.max text x.table
      → mark_of (mark_spelling (begun apart d.mark)) ≡ Ok (begun apart d.mark)
      → IsNext d (begun_device apart d x.table)
      (marked mid (mark_spelling (begun apart d.mark)))

  module _
      (base : UpdateMark) (slot : ℕ) (ss : List (Option PartStatus)) (seen : Control) (tail : Tail)
      (g : Geometry) (s : Table)
      (scanned : List Scanned) (c : Control) where
    dead_shape : DeadOf (kept_with (idle_shape base slot ss seen tail g s scanned) c)
        (idle_shape base slot ss seen tail g s scanned)
    dead_shape dev reads whole short new same =
        same_read base slot ss seen tail g s scanned c told text size old new dev.slot
        dev.geometry short
        same
        reads whole

    next_shape : (x : Target) (mid : Image)
        → NextOf x mid (kept_with (idle_shape base slot ss seen tail g s scanned) c)
        (idle_shape base slot ss seen tail g s scanned)
    next_shape x mid dev for reads whole copies short same prepared stands read =
        let both : Some for.source ≡ Some s =
        sym for.is ∙ kept_source base slot c ss seen tail g s scanned dev.slot in
        let source : for.source ≡ s = cc in
        let of : IsTargetOf apart g.max slot s x =
        subst (λ (t : Table). IsTargetOf apart g.max slot t x) source for.target in
        let rules = source_rules (kept_with (idle_shape base slot ss seen tail g s scanned) c) size
        s dev
        (kept_source base slot c ss seen tail g s scanned dev.slot) in
        let none = target_no_stores apart
        (kept_with (idle_shape base slot ss seen tail g s scanned) c)
        size x dev for in
        record {
          represents = record {
            read = update_read (begun apart (resloted slot base)) no_statuses
                (control_read_of slot c)
                tail g s x.table [];
            reads = reads_new base slot ss seen tail g s scanned c told text size old mid
                dev.slot dev.geometry short same reads whole apart x.table of.target none of.device
                of.groups stands rules.lies prepared copies read;
            is = kept_begun apart base slot c ss seen tail g s x.table scanned dev.slot;
            control = control_new base slot ss seen tail g s scanned c told text size old mid
                dev.slot dev.geometry short same reads whole apart x.table of.target none of.device
                of.groups stands rules.lies prepared copies read;
            copies = copies_new base slot ss seen tail g s scanned c told text size old mid
                dev.slot dev.geometry short same reads whole apart x.table of.target none of.device
                of.groups stands rules.lies prepared copies read;
            version = version_new base slot ss seen tail g s scanned c told text size old mid
                dev.slot dev.geometry short same reads whole apart x.table of.target none of.device
                of.groups stands rules.lies prepared copies read;
          };
          images_a = images_new_a base slot ss seen tail g s scanned c told text size old mid
              dev.slot dev.geometry short same reads whole apart x.table of.target none of.device
              of.groups stands rules.lies prepared copies read;
          images_b = images_new_b base slot ss seen tail g s scanned c told text size old mid
              dev.slot dev.geometry short same reads whole apart x.table of.target none of.device
              of.groups stands rules.lies prepared copies read;
        }

  -- ---- a device

  module _
      (d : Device)
      (dev : IsDevice d size)
      (is : Represents d size old)
      (idle : d.mark.phase ≡ marks.Idle)
      (plain : d.mark.overlaid ≡ false)
      (short : length text ≤ d.geometry.max) where
    abbrev r : Read
    r = is.read

    phase : is.read.mark.phase ≡ marks.Idle
    phase = sym (ap (λ (k : Device). k.mark.phase) is.is) ∙ idle

    one : (t : Table) × (r.tables ≡ t ∷ [])
        × (table_at r.tail.super_end r.geometry r.mark.slot old ≡ Ok t)
    one =
        one_of r.tail.super_end r.geometry r.mark.slot old r.tables
        (subst
        (λ (p : MarkPhase).
        tables_in r.tail.super_end r.geometry (phase_in p r.mark).tables old ≡ Ok r.tables)
        phase is.reads.tables)

    phased : is.read.mark ≡ rephased marks.Idle is.read.mark
    phased =
        as_idle is.read.mark (flags_known old is.read.mark is.reads.mark)
        (sym (ap (λ (k : Device). k.mark.overlaid) is.is) ∙ plain) phase

    abbrev shaped : Read
    shaped = idle_shape r.mark r.mark.slot r.statuses r.control r.tail r.geometry one.0 r.scanned

    shape : r ≡ shaped
    shape = (λ i. record {
      mark = phased i;
      statuses = r.statuses;
      control = r.control;
      tail = r.tail;
      geometry = r.geometry;
      tables = one.1 i;
      scanned = r.scanned;
    })

    form : d ≡ kept_with shaped d.control
    form = is.is ∙ ap (λ (x : Read). kept_with x d.control) shape

    pub begin_dead : Dead size is.read old (IsOfPlaces told d text (old 4))
    begin_dead =
        subst (λ (x : Read). DeadOf d x) (sym shape)
        (subst (λ (k : Device). DeadOf k shaped) (sym form)
        (dead_shape r.mark r.mark.slot r.statuses r.control r.tail r.geometry one.0 r.scanned
        d.control))
        dev is.reads is.control short

    module _
        (x : Target) (mid : Image) (for : IsTargetFor apart d x)
        (same : SameBut (IsOfPlaces told d text (old 4)) old mid)
        (prepared : IsPrepared d text mid)
        (stands : IsTableText d.geometry.max text x.table)
        (read : mark_of (mark_spelling (begun apart d.mark)) ≡ Ok (begun apart d.mark)) where
      abbrev new : Image
      new = marked mid (mark_spelling (begun apart d.mark))

      next : IsNext d (begun_device apart d x.table)
          (marked mid (mark_spelling (begun apart d.mark)))
      next =
          subst (λ (y : Read). NextOf x mid d y) (sym shape)
          (subst (λ (k : Device). NextOf x mid k shaped) (sym form)
          (next_shape r.mark r.mark.slot r.statuses r.control r.tail r.geometry one.0 r.scanned
          d.control x mid))
          dev for is.reads is.control is.copies short same prepared stands read

      means : mounted_on (begun_device apart d x.table) new
          ≡ installing_with (mounted_on d old) d.mark.slot (no_entries apart) (layout_of x.table)
      means = elim (cases_slot d.mark.slot dev.slot) [
        | inl first ↦
            let a = some_of d.a (source_a d size dev first) in
            let b = none_of d.b (no_target_b d size dev (ap has_both idle) first) in
            begun_a apart d old new a.0 x.table first a.1 b (plain_none d size dev plain)
            (some_same a.0 old new d.a a.1 next.images_a)
        | inr last ↦
            let a = none_of d.a (no_target_a d size dev (ap has_both idle) last) in
            let b = some_of d.b (source_b d size dev last) in
            begun_b apart d old new b.0 x.table last a b.1 (plain_none d size dev plain)
            (some_same b.0 old new d.b b.1 next.images_b)
      ]

      pub begin_step : (staged : Option (List ℕ))
          → IsStep d (begun_device apart d x.table) staged (begin_of apart) replies.Done true size
          old new
      begin_step staged = record {
        represents = next.represents;
        effect =
            begin_gives apart d size old staged x dev idle plain for
            ∙ ap (λ (m : Mounted). wanting true (does replies.Done m)) (sym means);
      }
