-- What the table of effects says of an edit.
use Rattle.std.proofs.Common.{◌≡◌, ◌∙◌, inl, inr, ℕ, ◌+◌, true, false, List, Result, refl, sym, ap}
use Rattle.std.proofs.Common.{arith, [], ◌∷◌, length}
use Rattle.std.specs.Prelude.{map, Option, Some, None, option_map, is_some, ◌==◌, ◌&&◌, ◌^◌, Bool}
use Rattle.std.specs.Prelude.{nat_le}
use Rattle.std.specs.Prelude.{if◌then◌else◌}
use Rattle.std.specs.Str.{bytes_eq}
use Rattle.std.proofs.lemmas.Bool.{cases_Bool}
use Rattle.vab_disk.specs.Disk.{Image}
use Rattle.vab_marks.specs.declared.mark.MarkPhase.{MarkPhase}
use Rattle.vab_marks.specs.declared.mark.MarkPhase.TheVariants as marks
use Rattle.vab_tables.specs.declared.table.Table.{Table}
use Rattle.vab_layout.specs.declared.layout.Layout.{Layout}
use Rattle.vab_layout.specs.Layout.{layout_of}
use Rattle.vab_layout.specs.Plain.{plain}
use Rattle.vab_names.specs.Names.{is_full, base_of}
use Rattle.vab_layout.specs.Slots.{other_slot, twins_by}
use Rattle.vab_builder.specs.declared.edit.Edit.{Edit}
use Rattle.vab_builder.specs.declared.edit.Edit.TheVariants.{Create, Resize, Delete, AddStore}
use Rattle.vab_builder.specs.declared.fault.EditFault.{EditFault}
use Rattle.vab_builder.specs.Edits.{changed_beside, edited_beside, if_fitting}
use Rattle.vab_model.specs.declared.state.Plan.{Plan}
use Rattle.vab_model.specs.declared.command.Refusal.{Refusal}
use Rattle.vab_model.specs.Plans.{entry_named}
use Rattle.vab_model.specs.Machine.{is_written as is_written_entry}
use Rattle.vab_model.specs.declared.command.Refusal.TheVariants.{NotInstalling}
use Rattle.vab_model.specs.declared.command.Refusal.TheVariants as refusals
use Rattle.vab_model.specs.Effects.{refuses}
use Rattle.vab_device.specs.declared.device.Part.{Part}
use Rattle.vab_device.specs.declared.device.Device.{Device}
use Rattle.vab_device.specs.Kept.{table_of_slot, has_slot, IsDevice}
use Rattle.vab_device.specs.Mounted.{Mounted, table_placed, places_on, entry_on, entries_on}
use Rattle.vab_device.specs.Mounted.{count_at, unplanned, phase_by, phase_on, state_on, mounted_on}
use Rattle.vab_device.specs.declared.device.PartImage.{PartImage}
use Rattle.vab_device.specs.declared.device.PartImage.TheVariants.{Kept, Declared, Written}
use Rattle.vab_device.specs.Mounted.{planned_on}
use Rattle.vab_device.specs.Updates.{EditOf, layout_at, edited_effect, edit_effect, table_effect}
use Rattle.vab_device.specs.Updates.{effect_on, Guard, is_settled_in, settled_guard}
use Rattle.vab_device.specs.Updates.{unless_kept}
use Rattle.vab_edit.specs.Carried.{planned_named}
use Rattle.vab_edit.specs.Guards.{is_written, is_settled, unless_settled, kept_from, kept_off}
use Rattle.vab_edit.specs.Writes.{command_by, edit_by, guard_by, plan_at, layout_by}
use Rattle.vab_edit.specs.Tables.{HasTables}
use Rattle.vab_device.proofs.PhaseCases.{cases_slot}
use Rattle.vab_edit.proofs.PlainLaws.{changed_plain}
use Rattle.vab_edit.proofs.StandsLaws.{planned_phase}

-- an edit gives what the builder gives
edit_is : (edit : Edit) (apart : Bool) (target : ℕ) (s t : Layout)
    → edit_by edit apart target s t
    ≡ changed_beside target (twins_by apart s.parts) s t edit
edit_is (Create name bytes) apart target s t = refl
edit_is (Resize name bytes) apart target s t = refl
edit_is (Delete name) apart target s t = refl
edit_is (AddStore name bytes) apart target s t = refl

by_edit : (m : Mounted) (staged : Option (List ℕ)) (edit : Edit)
    → effect_on m staged (command_by edit)
    ≡ edit_effect m (guard_by edit) (edit_by edit) m.state.phase
by_edit m staged (Create name bytes) = refl
by_edit m staged (Resize name bytes) = refl
by_edit m staged (Delete name) = refl
by_edit m staged (AddStore name bytes) = refl

phase_is : (d : Device) (image : Image) → (mounted_on d image).state.phase ≡ phase_on d image
unfolding state_on
phase_is d image = refl

phase_of : (d : Device) (image : Image) (plan : Option (List Part))
    → d.plan ≡ plan
    → (mounted_on d image).state.phase
    ≡ phase_by d.mark (count_at d.a + count_at d.b) (entries_on image plan)
phase_of d image plan is =
    phase_is d image
    ∙ ap (λ (x : Option (List Part)).
    phase_by d.mark (count_at d.a + count_at d.b) (entries_on image x)) is

unplanned_refuses : (m : Mounted) (guard : Guard) (edit : EditOf) (phase : MarkPhase)
    (slot left : ℕ)
    → edit_effect m guard edit (unplanned phase slot left) ≡ refuses NotInstalling
unplanned_refuses m guard edit marks.Idle slot left = refl
unplanned_refuses m guard edit marks.Installing slot left = refl
unplanned_refuses m guard edit marks.Staged slot left = refl
unplanned_refuses m guard edit marks.Merging slot left = refl
unplanned_refuses m guard edit marks.Completed slot left = refl

-- where no update is installed
pub not_installing : (d : Device) (image : Image) (staged : Option (List ℕ)) (edit : Edit)
    → d.plan ≡ None
    → effect_on (mounted_on d image) staged (command_by edit) ≡ refuses NotInstalling
not_installing d image staged edit none =
    by_edit (mounted_on d image) staged edit
    ∙ ap (edit_effect (mounted_on d image) (guard_by edit) (edit_by edit))
    (phase_of d image None none)
    ∙ unplanned_refuses (mounted_on d image) (guard_by edit) (edit_by edit) d.mark.phase
    d.mark.slot (count_at d.a + count_at d.b)

-- ---- what keeps an edit from the plan

written_as : (image : Image) (p : Part) (x : PartImage)
    → is_written_entry (planned_on image p x) ≡ is_written x
written_as image p Kept = refl
written_as image p Declared = refl
written_as image p (Written k es) = refl

store_as : (x : Option (List ℕ)) → is_some (option_map (λ (l : List ℕ). length l) x) ≡ is_some x
store_as None = refl
store_as (Some store) = refl

settled_as : (apart : Bool) (image : Image) (name : List ℕ) (all : List Part) (plan : List Part)
    → is_settled_in (plan_at apart image all) (entry_named name (map (entry_on image) plan))
    ≡ is_settled apart (planned_named name plan)
settled_as apart image name all [] = refl
settled_as apart image name all (p ∷ ps) = elim (cases_Bool (bytes_eq p.name name)) [
  | inl here ↦ rw (here, store_as p.store, written_as image p p.image) refl
  | inr other ↦ rw other (settled_as apart image name all ps)
]

settled_guards : (apart passes : Bool) (source : ℕ) (name : List ℕ) (image : Image)
    (plan : List Part)
    → settled_guard passes name source (plan_at apart image plan)
    ≡ unless_settled apart passes (other_slot source) name plan
settled_guards apart passes source name image plan =
    ap
    (λ (b : Bool).
    if is_full (other_slot source) name && passes && b then Some refusals.Written else None)
    (settled_as apart image (base_of name) plan plan)

guards : (apart : Bool) (source : ℕ) (edit : Edit) (image : Image) (plan : List Part)
    → guard_by edit source (plan_at apart image plan)
    ≡ kept_from apart (other_slot source) plan edit
guards apart source (Create name bytes) image plan = refl
guards apart source (Resize name bytes) image plan =
    settled_guards apart (nat_le bytes (2 ^ 40)) source name.now image plan
guards apart source (Delete name) image plan =
    settled_guards apart true source name.now image plan
guards apart source (AddStore name bytes) image plan = refl

-- of a device
pub kept_so : (d : Device) (plan : List Part) (x : Option Refusal) (edit : Edit) (image : Image)
    → d.plan ≡ Some plan
    → kept_off d.mark.apart (other_slot d.mark.slot) d.plan edit ≡ x
    → guard_by edit d.mark.slot (plan_at d.mark.apart image plan) ≡ x
kept_so d plan x edit image planned is =
    guards d.mark.apart d.mark.slot edit image plan
    ∙ ap (λ (o : Option (List Part)). kept_off d.mark.apart (other_slot d.mark.slot) o edit)
    (sym planned)
    ∙ is

-- where something keeps it from the plan, it is refused
pub effect_kept : (d : Device) (plan : List Part) (image : Image) (staged : Option (List ℕ))
    (edit : Edit) (r : Refusal)
    → d.plan ≡ Some plan
    → kept_off d.mark.apart (other_slot d.mark.slot) d.plan edit ≡ Some r
    → effect_on (mounted_on d image) staged (command_by edit) ≡ refuses r
effect_kept d plan image staged edit r planned is =
    let m : Mounted = mounted_on d image in
    by_edit m staged edit
    ∙ ap (edit_effect m (guard_by edit) (edit_by edit)) (phase_of d image (Some plan) planned)
    ∙ ap (λ (x : Option Refusal).
    unless_kept x
    (edited_effect m d.mark.slot (plan_at d.mark.apart image plan) (edit_by edit)
    (layout_at m.places d.mark.slot) (layout_at m.places (other_slot d.mark.slot))))
    (kept_so d plan (Some r) edit image planned is)

-- ---- the tables

module _
    (d : Device) (size : ℕ) (s t : Table)
    (kept : IsDevice d size)
    (has : HasTables d s t) where
  has_own : (slot : ℕ) → has_slot d.mark.phase d.mark.slot slot ≡ (d.mark.slot == slot)
  has_own slot =
      ap (λ (p : MarkPhase). has_slot p d.mark.slot slot)
      (planned_phase d size has.old_plan kept has.is_planned)

  placed_source : layout_at (places_on d) d.mark.slot ≡ Some (plain d.mark.slot (layout_of s))
  placed_source = elim (cases_slot d.mark.slot kept.slot) [
    | inl e ↦
        let here : d.table_a ≡ Some s = ap (table_of_slot d) (sym e) ∙ has.source in
        let images : is_some d.a ≡ true = kept.has_a ∙ has_own 0 ∙ ap (λ (n : ℕ). n == 0) e in
        ap (layout_at (places_on d)) e
        ∙ (λ i. table_placed 0 (images i) (here i))
        ∙ ap (λ (n : ℕ). Some (plain n (layout_of s))) (sym e)
    | inr e ↦
        let here : d.table_b ≡ Some s = ap (table_of_slot d) (sym e) ∙ has.source in
        let images : is_some d.b ≡ true = kept.has_b ∙ has_own 1 ∙ ap (λ (n : ℕ). n == 1) e in
        ap (layout_at (places_on d)) e
        ∙ (λ i. table_placed 1 (images i) (here i))
        ∙ ap (λ (n : ℕ). Some (plain n (layout_of s))) (sym e)
  ]

  placed_target : layout_at (places_on d) (other_slot d.mark.slot) ≡ Some (layout_of t)
  placed_target = elim (cases_slot d.mark.slot kept.slot) [
    | inl e ↦
        let here : d.table_b ≡ Some t =
        ap (λ (n : ℕ). table_of_slot d (other_slot n)) (sym e) ∙ has.target in
        let images : is_some d.b ≡ false = kept.has_b ∙ has_own 1 ∙ ap (λ (n : ℕ). n == 1) e in
        ap (λ (n : ℕ). layout_at (places_on d) (other_slot n)) e
        ∙ (λ i. table_placed 1 (images i) (here i))
    | inr e ↦
        let here : d.table_a ≡ Some t =
        ap (λ (n : ℕ). table_of_slot d (other_slot n)) (sym e) ∙ has.target in
        let images : is_some d.a ≡ false = kept.has_a ∙ has_own 0 ∙ ap (λ (n : ℕ). n == 0) e in
        ap (λ (n : ℕ). layout_at (places_on d) (other_slot n)) e
        ∙ (λ i. table_placed 0 (images i) (here i))
  ]

  plain_same : (edit : Edit)
      → edit_by edit d.mark.apart (other_slot d.mark.slot) (plain d.mark.slot (layout_of s))
      (layout_of t)
      ≡ changed_beside (other_slot d.mark.slot) (twins_by d.mark.apart (layout_of s).parts)
      (layout_of s) (layout_of t) edit
  plain_same edit =
      let twice : other_slot (other_slot d.mark.slot) ≡ d.mark.slot = omega (arith, kept.slot) in
      edit_is edit d.mark.apart (other_slot d.mark.slot) (plain d.mark.slot (layout_of s))
      (layout_of t)
      ∙ ap (λ (n : ℕ). changed_beside (other_slot d.mark.slot)
      (twins_by d.mark.apart (plain n (layout_of s)).parts) (plain n (layout_of s)) (layout_of t)
      edit) (sym twice)
      ∙ changed_plain d.mark.apart (other_slot d.mark.slot) (layout_of s) (layout_of t) edit

  -- An edit of a device with an update gives what the builder gives of its tables.
  pub effect_edited : (image : Image) (staged : Option (List ℕ)) (edit : Edit)
      → kept_off d.mark.apart (other_slot d.mark.slot) d.plan edit ≡ None
      → effect_on (mounted_on d image) staged (command_by edit)
      ≡ table_effect (mounted_on d image) d.mark.slot
      (plan_at d.mark.apart image has.old_plan)
      (edited_beside (other_slot d.mark.slot) (twins_by d.mark.apart (layout_of s).parts)
      (layout_of s) (layout_of t) d.geometry.max edit)
  effect_edited image staged edit free =
      let m : Mounted = mounted_on d image in
      let plan : Plan = plan_at d.mark.apart image has.old_plan in
      by_edit m staged edit
      ∙ ap (edit_effect m (guard_by edit) (edit_by edit))
      (phase_of d image (Some has.old_plan) has.is_planned)
      ∙ ap (λ (x : Option Refusal).
      unless_kept x
      (edited_effect m d.mark.slot plan (edit_by edit)
      (layout_at m.places d.mark.slot) (layout_at m.places (other_slot d.mark.slot))))
      (kept_so d has.old_plan None edit image has.is_planned free)
      ∙ (λ i. edited_effect m d.mark.slot plan (edit_by edit) (placed_source i) (placed_target i))
      ∙ ap (λ (x : Result Layout EditFault).
      table_effect m d.mark.slot plan (if_fitting d.geometry.max x)) (plain_same edit)

-- What an edit gives of two tables is what the builder gives of them.
pub gives_edited : (edit : Edit) (apart : Bool) (max source : ℕ) (s t : Table)
    → layout_by (edit_by edit) apart max source s t
    ≡ edited_beside (other_slot source) (twins_by apart (layout_of s).parts) (layout_of s)
    (layout_of t) max edit
gives_edited edit apart max source s t =
    ap (if_fitting max) (edit_is edit apart (other_slot source) (layout_of s) (layout_of t))
