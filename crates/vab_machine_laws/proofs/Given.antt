-- What a table that is given, or refused, makes of a device and of its state.
use Rattle.std.proofs.Common.{◌≡◌, ◌∙◌, ℕ, true, false, List, [], ◌∷◌, Result, Ok, Err, inl}
use Rattle.std.proofs.Common.{inr}
use Rattle.std.proofs.Common.{refl, sym, ap, subst}
use Rattle.std.specs.Prelude.{nat_le, Option, Some, None}
use Rattle.std.proofs.lemmas.Bool.{cases_Bool, leb-false}
use Rattle.vab_disk.specs.Disk.{Image}
use Rattle.vab_tables.specs.Spelling.{table_size_of}
use Rattle.vab_layout.specs.declared.layout.Layout.{Layout}
use Rattle.vab_layout.specs.Layout.{table_of}
use Rattle.vab_layout.specs.Slots.{other_slot}
use Rattle.vab_builder.specs.declared.edit.Edit.{Edit}
use Rattle.vab_builder.specs.declared.fault.EditFault.{EditFault}
use Rattle.vab_builder.specs.Edits.{if_fitting}
use Rattle.vab_model.specs.declared.state.Plan.{Plan}
use Rattle.vab_model.specs.declared.state.Phase.{Phase}
use Rattle.vab_model.specs.declared.state.Phase.TheVariants.{Idle, Installing, Staged, Merging}
use Rattle.vab_model.specs.declared.state.State.{State}
use Rattle.vab_model.specs.declared.command.Refusal.{Refusal}
use Rattle.vab_model.specs.declared.command.Reply.TheVariants as replies
use Rattle.vab_model.specs.Commands.{Command}
use Rattle.vab_model.specs.Effects.{Effect, refuses, after_of}
use Rattle.vab_model.specs.Kinds.{is_edit}
use Rattle.vab_model.specs.Machine.{planned, if_installing}
use Rattle.vab_device.specs.Mounted.{Mounted}
use Rattle.vab_device.specs.Reading.{IsIn}
use Rattle.vab_device.specs.Updates.{Guard, unless_kept, effect_on, edit_effect, edited_effect}
use Rattle.vab_device.specs.Updates.{table_effect, refusal_of, is_full_table, layout_at}
use Rattle.vab_targets.specs.Sectors.{HasWholeSectors}
use Rattle.vab_targets.proofs.Plans.{EditsFollowSizes, edited_plan, with_plan}
use Rattle.vab_targets.proofs.Installed.{IsInstalled}
use Rattle.vab_targets.proofs.Updates.{by_edit, given_plain}
use Rattle.vab_machine_laws.specs.Edits.{IsMachinesOrFull}

-- what the machine says, where an edit's table is given or refused so
abbrev pub IsGiven : Mounted → (source : ℕ) → (next : Plan) → Result Layout EditFault
    → Effect State → Type 0
IsGiven m source next (Ok l) row = row ≡ planned m.state source next
IsGiven m source next (Err fault) row =
    (row ≡ refuses (refusal_of fault)) × (is_full_table fault ≡ false)

-- the same of an edit that may be kept from the plan
abbrev pub IsGivenBy : Mounted → (source : ℕ) → (next : Plan) → (kept : Option Refusal)
    → Result Layout EditFault → Effect State → Type 0
IsGivenBy m source next None r row = IsGiven m source next r row
IsGivenBy m source next (Some refusal) r row = row ≡ refuses refusal

-- where it is done, the update has this plan
abbrev pub Follows : Mounted → (source : ℕ) → (next : Plan) → Effect Mounted → Type 0
Follows m source next e =
    e.reply ≡ replies.Done → (after_of m e).state ≡ with_plan m.state source next

pub judged : (m : Mounted) (source : ℕ) (plan next : Plan) (most : ℕ)
    (r : Result Layout EditFault) (row : Effect State)
    → Follows m source next (table_effect m source plan (if_fitting most r))
    → IsGiven m source next r row
    → IsMachinesOrFull most (table_effect m source plan (if_fitting most r)) row
judged m source plan next most (Ok l) row follows given =
    elim (cases_Bool (nat_le (table_size_of (table_of l)) most)) [
      | inl fits ↦
          let after = (rw fits at follows) refl in
          rw fits (inl ((λ i. record {
            reply = replies.Done;
            later = after i ∷ [];
            wants = true;
          }) ∙ sym given))
      | inr long ↦ rw long (inr (record {
        size = table_size_of (table_of l);
        longer = leb-false (table_size_of (table_of l)) most long;
        full = refl;
        done = ap (λ (e : Effect State). e.reply) given;
      }))
    ]
judged m source plan next most (Err fault) row follows given =
    let wants : is_full_table fault ≡ false = given.1 in
    inl ((λ i. record {
      reply = replies.Refused (refusal_of fault);
      later = [];
      wants = wants i;
    }) ∙ sym given.0)

kept_judged : (m : Mounted) (source : ℕ) (next : Plan) (most : ℕ) (kept : Option Refusal)
    (made : Result Layout EditFault) (told : Effect Mounted) (row : Effect State)
    → Follows m source next (unless_kept kept told)
    → (Follows m source next told
    → IsGiven m source next made row
    → IsMachinesOrFull most told row)
    → IsGivenBy m source next kept made row
    → IsMachinesOrFull most (unless_kept kept told) row
kept_judged m source next most None made told row follows free given = free follows given
kept_judged m source next most (Some refusal) made told row follows free given = inl (sym given)

edit_judged : (m : Mounted) (guard : Guard) (source : ℕ) (plan next : Plan) (edit : Edit)
    (i : IsInstalled m source plan) (row : Effect State)
    → Follows m source next (edit_effect m guard (by_edit edit) (Installing source plan))
    → IsGivenBy m source next (guard source plan)
    (by_edit edit plan.apart (other_slot source) i.s i.t) row
    → IsMachinesOrFull m.places.geometry.max
    (edit_effect m guard (by_edit edit) (Installing source plan)) row
edit_judged m guard source plan next edit i row follows given =
    let max : ℕ = m.places.geometry.max in
    let made : Result Layout EditFault =
    by_edit edit plan.apart (other_slot source) i.s i.t in
    let told : Effect Mounted = edited_effect m source plan (by_edit edit)
    (layout_at m.places source) (layout_at m.places (other_slot source)) in
    let is : told ≡ table_effect m source plan (if_fitting max made) =
    (λ j. edited_effect m source plan (by_edit edit) (i.from j) (i.to j))
    ∙ ap (λ (x : Result Layout EditFault). table_effect m source plan (if_fitting max x))
    (given_plain m source plan edit i) in
    kept_judged m source next max (guard source plan) made told row follows
    (λ after free.
    subst (λ (e : Effect Mounted). IsMachinesOrFull max e row) (sym is)
    (judged m source plan next max made row (subst (Follows m source next) is after) free))
    given

-- an edit where no update is installed, or where this is said of each that is
edit_by : (m : Mounted) (guard : Guard) (edit : Edit) (row : ℕ → Plan → Effect State)
    (phase : Phase)
    → ((source : ℕ) (plan : Plan)
    → phase ≡ Installing source plan
    → IsMachinesOrFull m.places.geometry.max
    (edit_effect m guard (by_edit edit) (Installing source plan)) (row source plan))
    → IsMachinesOrFull m.places.geometry.max (edit_effect m guard (by_edit edit) phase)
    (if_installing phase row)
edit_by m guard edit row Idle each = inl refl
edit_by m guard edit row (Installing source plan) each = each source plan refl
edit_by m guard edit row (Staged source left) each = inl refl
edit_by m guard edit row (Merging target left) each = inl refl

module _
    (law : EditsFollowSizes)
    (size : ℕ) (image : Image) (m : Mounted) (staged : Option (List ℕ))
    (whole : HasWholeSectors size image)
    (is : IsIn size m image)
    (c : Command) (edits : is_edit c ≡ true) (guard : Guard) (edit : Edit)
    (same : effect_on m staged c ≡ edit_effect m guard (by_edit edit) m.state.phase) where
  -- what this edit makes of the device and of its state, by what its table is
  pub edit_is : (row : ℕ → Plan → Effect State)
      → ((source : ℕ) (plan : Plan)
      → m.state.phase ≡ Installing source plan
      → (i : IsInstalled m source plan)
      × IsGivenBy m source (edited_plan m.state.groups c plan) (guard source plan)
      (by_edit edit plan.apart (other_slot source) i.s i.t) (row source plan))
      → IsMachinesOrFull m.places.geometry.max
      (edit_effect m guard (by_edit edit) m.state.phase)
      (if_installing m.state.phase row)
  edit_is row each =
      edit_by m guard edit row m.state.phase (λ source plan phase.
      let given = each source plan phase in
      let next : Plan = edited_plan m.state.groups c plan in
      let follows : Follows m source next
      (edit_effect m guard (by_edit edit) (Installing source plan)) =
      subst (Follows m source next) (same ∙ ap (edit_effect m guard (by_edit edit)) phase)
      (law size image m staged c source plan whole is phase edits) in
      edit_judged m guard source plan next edit given.0 (row source plan) follows given.1)
