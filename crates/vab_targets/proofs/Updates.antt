-- A command that is done on an update follows the law of its edit.
use Rattle.std.proofs.Common.{◌≡◌, ◌∙◌, inl, inr, ℕ, ◌^◌, Bool, List, Result, Ok, Err, true, false}
use Rattle.std.proofs.Common.{refl, sym, ap}
use Rattle.std.specs.Prelude.{Option, Some, None, nat_le, not, ◌&&◌, is_some, if◌then◌else◌}
use Rattle.std.proofs.lemmas.Bool.{cases_Bool, le-leb}
use Rattle.vab_disk.specs.Disk.{Image}
use Rattle.vab_names.specs.Names.{is_full, base_of}
use Rattle.vab_names.proofs.NameCases.{full_slot}
use Rattle.vab_tables.specs.Spelling.{table_size_of}
use Rattle.vab_layout.specs.declared.layout.Layout.{Layout}
use Rattle.vab_layout.specs.Layout.{table_of}
use Rattle.vab_layout.specs.Plain.{plain}
use Rattle.vab_layout.specs.Slots.{other_slot, twins_by}
use Rattle.vab_builder.specs.declared.edit.Edit.{Edit}
use Rattle.vab_builder.specs.declared.fault.EditFault.{EditFault}
use Rattle.vab_builder.specs.declared.fault.EditFault.TheVariants as faults
use Rattle.vab_builder.specs.Edits.{changed_beside, fitting, if_fitting}
use Rattle.vab_builder.proofs.ResizeVerdicts.{resized_passes}
use Rattle.vab_builder.proofs.SlotLaws.{other_slot_again}
use Rattle.vab_builder.proofs.StoreVerdicts.{stored_passes}
use Rattle.vab_model.specs.declared.state.PlanImage.{PlanImage}
use Rattle.vab_model.specs.declared.state.PlanImage.TheVariants.{Kept, Declared, Written}
use Rattle.vab_model.specs.declared.state.PlanEntry.{PlanEntry}
use Rattle.vab_model.specs.declared.state.Plan.{Plan}
use Rattle.vab_model.specs.declared.state.Phase.TheVariants.{Installing}
use Rattle.vab_model.specs.declared.command.Refusal.{Refusal}
use Rattle.vab_model.specs.declared.command.Refusal.TheVariants as refusals
use Rattle.vab_model.specs.declared.command.Reply.TheVariants as replies
use Rattle.vab_model.specs.Commands.{Command, Create}
use Rattle.vab_model.specs.Commands.{Resize, Delete, Snapshot}
use Rattle.vab_model.specs.Effects.{Effect, after_of}
use Rattle.vab_model.specs.Kinds.{is_edit}
use Rattle.vab_model.specs.Machine.{is_written, is_settled}
use Rattle.vab_model.specs.Plans.{entry_named, first_group, with_entries}
use Rattle.vab_device.specs.Mounted.{Mounted}
use Rattle.vab_device.specs.Reading.{IsIn}
use Rattle.vab_device.specs.Updates.{EditOf, Guard, effect_on, edit_effect, edited_effect}
use Rattle.vab_device.specs.Updates.{unless_kept, no_guard, settled_guard, store_guard}
use Rattle.vab_device.specs.Updates.{is_settled_in, table_effect, entry_by, plan_by, refusal_of}
use Rattle.vab_device.specs.Updates.{if_written, written_of, layout_at}
use Rattle.vab_edit.proofs.PlainLaws.{changed_plain}
use Rattle.vab_targets.specs.Sectors.{HasWholeSectors}
use Rattle.vab_targets.proofs.Plans.{edited_entries, edited_plan, with_plan}
use Rattle.vab_targets.proofs.Edits.{create_of, resize_of, delete_of, store_edit_of, group_is}
use Rattle.vab_targets.proofs.Edits.{created_plan, resized_plan, deleted_plan, stored_plan}
use Rattle.vab_targets.proofs.Installed.{IsInstalled, is_installed}
use Rattle.vab_targets.proofs.Named.{entry_there, store_there}

-- ---- a table that is given

pub refused_not : {A : Type 0} (refusal : Refusal) → replies.Refused refusal ≡ replies.Done → A
refused_not refusal done = absurd cc

pub table_done : (m : Mounted) (source : ℕ) (plan : Plan) (r : Result Layout EditFault)
    → (table_effect m source plan r).reply ≡ replies.Done
    → (l : Layout) × (r ≡ Ok l)
table_done m source plan (Ok l) done = (l, refl)
table_done m source plan (Err fault) done = refused_not (refusal_of fault) done

pub fitting_is : (max : ℕ) (x l : Layout) → fitting max x ≡ Ok l → x ≡ l
fitting_is max x l is = elim (cases_Bool (nat_le (table_size_of (table_of x)) max)) [
  | inl fits ↦
      let same : (let r : Result Layout EditFault = Ok x in r ≡ Ok l) = rw fits at is in
      cc
  | inr long ↦
      let bad : (let r : Result Layout EditFault =
      Err (faults.TableFull (table_size_of (table_of x)) max) in r ≡ Ok l) = rw long at is in
      absurd cc
]

given_is : (max : ℕ) (r : Result Layout EditFault) (l : Layout)
    → if_fitting max r ≡ Ok l
    → r ≡ Ok l
given_is max (Ok x) l is = ap Ok (fitting_is max x l is)
given_is max (Err fault) l is =
    absurd (let bad : (let r : Result Layout EditFault = Err fault in r ≡ Ok l) = is in cc)

-- ---- an edit

-- what an edit gives of two tables' layouts, where the target stands apart or not
abbrev pub by_edit : Edit → EditOf
by_edit edit apart target s t = changed_beside target (twins_by apart s.parts) s t edit

-- what isn't kept from a plan
pub kept_done : (kept : Option Refusal) (next : Effect Mounted)
    → (unless_kept kept next).reply ≡ replies.Done
    → kept ≡ None
kept_done None next done = refl
kept_done (Some refusal) next done = refused_not refusal done

-- the source without stores serves as well
pub given_plain : (m : Mounted) (source : ℕ) (plan : Plan) (edit : Edit)
    (i : IsInstalled m source plan)
    → by_edit edit plan.apart (other_slot source) (plain source i.s) i.t
    ≡ by_edit edit plan.apart (other_slot source) i.s i.t
given_plain m source plan edit i =
    ap (λ (n : ℕ). by_edit edit plan.apart (other_slot source) (plain n i.s) i.t)
    (sym (other_slot_again source i.below))
    ∙ changed_plain plan.apart (other_slot source) i.s i.t edit

edit_follows : (m : Mounted) (guard : Guard) (source : ℕ) (plan : Plan) (next : List PlanEntry)
    (edit : Edit) (i : IsInstalled m source plan)
    → m.state.phase ≡ Installing source plan
    → (guard source plan ≡ None
    → (l : Layout)
    → by_edit edit plan.apart (other_slot source) i.s i.t ≡ Ok l
    → plan_by (other_slot source) l plan.entries ≡ next)
    → (edit_effect m guard (by_edit edit) m.state.phase).reply ≡ replies.Done
    → (after_of m (edit_effect m guard (by_edit edit) m.state.phase)).state
    ≡ with_plan m.state source (with_entries plan next)
edit_follows m guard source plan next edit i phase law done =
    let max : ℕ = m.places.geometry.max in
    let given : Result Layout EditFault =
    by_edit edit plan.apart (other_slot source) i.s i.t in
    let told : Effect Mounted = edited_effect m source plan (by_edit edit)
    (layout_at m.places source) (layout_at m.places (other_slot source)) in
    let first : edit_effect m guard (by_edit edit) m.state.phase
    ≡ unless_kept (guard source plan) told =
    ap (edit_effect m guard (by_edit edit)) phase in
    let free = kept_done (guard source plan) told
    (sym (ap (λ (e : Effect Mounted). e.reply) first) ∙ done) in
    let is : edit_effect m guard (by_edit edit) m.state.phase
    ≡ table_effect m source plan (if_fitting max given) =
    first
    ∙ ap (λ (kept : Option Refusal). unless_kept kept told) free
    ∙ (λ j. edited_effect m source plan (by_edit edit) (i.from j) (i.to j))
    ∙ ap (λ (x : Result Layout EditFault). table_effect m source plan (if_fitting max x))
    (given_plain m source plan edit i) in
    let r = table_done m source plan (if_fitting max given)
    (sym (ap (λ (e : Effect Mounted). e.reply) is) ∙ done) in
    ap (λ (e : Effect Mounted). (after_of m e).state) (is ∙ ap (table_effect m source plan) r.1)
    ∙ ap (λ (es : List PlanEntry). with_plan m.state source (with_entries plan es))
    (law free r.0 (given_is max given r.0 r.1))

-- ---- a partition to which nothing is written

-- nothing is written to an entry without a store that isn't settled
unsettled : (plan : Plan) (e : PlanEntry)
    → plan.apart ≡ true
    → is_settled plan e ≡ false
    → if_written e.image ≡ None
unsettled plan e apart loose = by_image e.image (sym (ap (λ (b : Bool). b && is_written e.image)
    apart) ∙ loose)
  where
    by_image : (x : PlanImage) → is_written x ≡ false → if_written x ≡ None
    by_image Kept unwritten = refl
    by_image Declared unwritten = refl
    by_image (Written bytes n) unwritten = absurd cc

unkept : (kept : Bool) → (if kept then Some refusals.Written else None) ≡ None → kept ≡ false
unkept true is = absurd (let bad : Some refusals.Written ≡ None = is in cc)
unkept false is = refl

-- whether an edit of a partition of this whole name, which passes so far, is kept from a plan
abbrev pub is_kept : (passes : Bool) → ℕ → List ℕ → Plan → Bool
is_kept passes o name plan =
    is_full o name && passes
    && is_settled_in plan (entry_named (base_of name) plan.entries)

-- an entry without a store, of an edit that isn't kept, isn't settled
pub free_entry : (passes : Bool) (o : ℕ) (name : List ℕ) (plan : Plan) (e : PlanEntry)
    → is_full o name ≡ true
    → passes ≡ true
    → entry_named (base_of name) plan.entries ≡ Some e
    → is_some e.store ≡ false
    → is_kept passes o name plan ≡ false
    → is_settled plan e ≡ false
free_entry passes o name plan e full sized is plain free =
    let tests : is_full o name && passes ≡ true = rw (full, sized) refl in
    let there : Option PlanEntry = entry_named (base_of name) plan.entries in
    let loose : is_settled_in plan there ≡ false =
    sym (ap (λ (b : Bool). b && is_settled_in plan there) tests) ∙ free in
    let here : not (is_some e.store) && is_settled plan e ≡ false =
    sym (ap (is_settled_in plan) is) ∙ loose in
    sym (ap (λ (b : Bool). not b && is_settled plan e) plain) ∙ here

-- a resize that isn't kept from a plan is of a partition to which nothing is written
resize_unwritten : (m : Mounted) (source : ℕ) (plan : Plan) (i : IsInstalled m source plan)
    (name : List ℕ) (bytes : ℕ) (l : Layout)
    → settled_guard (nat_le bytes (2 ^ 40)) name source plan ≡ None
    → by_edit (resize_of name bytes) plan.apart (other_slot source) i.s i.t ≡ Ok l
    → written_of (entry_named (base_of name) plan.entries) ≡ None
resize_unwritten m source plan i name bytes l free given =
    let o : ℕ = other_slot source in
    let passes = resized_passes o (twins_by plan.apart i.s.parts) i.s i.t name bytes l given in
    let full = passes.0.full in
    let of = full_slot o name full in
    let sized : nat_le bytes (2 ^ 40) ≡ true = le-leb bytes (2 ^ 40) passes.0.size in
    let kept : is_kept (nat_le bytes (2 ^ 40)) o name plan ≡ false =
    unkept (is_kept (nat_le bytes (2 ^ 40)) o name plan) free in
    elim (cases_Bool plan.apart) [
      | inr beside ↦ i.unwritten beside name of passes.0.plain
      | inl apart ↦
          let there = entry_there o i.t plan.entries i.again name of passes.0.known in
          let found : PlanEntry = entry_by i.t plan.entries there.0.part in
          let plain : is_some found.store ≡ false =
          store_there o i.t plan.entries i.again name there.0.part there.0.named
          ∙ passes.0.plain in
          let loose = free_entry (nat_le bytes (2 ^ 40)) o name plan found full sized there.1
          plain kept in
          ap written_of there.1 ∙ unsettled plan found apart loose
    ]

beside_of : (b : Bool) → (if b then Some refusals.InPlace else None) ≡ None → b ≡ false
beside_of true is = absurd (let bad : Some refusals.InPlace ≡ None = is in cc)
beside_of false is = refl

-- ---- each command

follows : (m : Mounted) (staged : Option (List ℕ)) (c : Command) (source : ℕ) (plan : Plan)
    → IsInstalled m source plan
    → m.state.phase ≡ Installing source plan
    → is_edit c ≡ true
    → (effect_on m staged c).reply ≡ replies.Done
    → (after_of m (effect_on m staged c)).state
    ≡ with_plan m.state source (edited_plan m.state.groups c plan)
follows m staged (Create name bytes) source plan i phase edits done =
    let group = group_is (other_slot source) source i.s.groups i.t.groups i.groups
    ∙ sym (ap first_group i.limits) in
    edit_follows m no_guard source plan
    (edited_entries m.state.groups (Create name bytes) plan.entries)
    (create_of name bytes) i phase
    (λ free l. created_plan (other_slot source) (twins_by plan.apart i.s.parts) i.s i.t plan.entries
    i.update i.again m.state.groups name bytes l group)
    done
follows m staged (Resize name bytes) source plan i phase edits done =
    edit_follows m (settled_guard (nat_le bytes (2 ^ 40)) name) source plan
    (edited_entries m.state.groups (Resize name bytes) plan.entries)
    (resize_of name bytes) i phase
    (λ free l given. resized_plan (other_slot source) (twins_by plan.apart i.s.parts) i.s i.t
    plan.entries i.update i.again name bytes l
    (resize_unwritten m source plan i name bytes l free given) given)
    done
follows m staged (Delete name) source plan i phase edits done =
    edit_follows m (settled_guard true name) source plan
    (edited_entries m.state.groups (Delete name) plan.entries)
    (delete_of name) i phase
    (λ free. deleted_plan (other_slot source) (twins_by plan.apart i.s.parts) i.s i.t plan.entries
    i.update i.again name)
    done
follows m staged (Snapshot name bytes) source plan i phase edits done =
    edit_follows m store_guard source plan
    (edited_entries m.state.groups (Snapshot name bytes) plan.entries)
    (store_edit_of name bytes) i phase
    (λ free l given.
    let twins = twins_by plan.apart i.s.parts in
    let passes = stored_passes (other_slot source) twins i.s i.t name bytes l given in
    stored_plan (other_slot source) twins i.s i.t plan.entries i.update i.again name bytes l
    (i.unwritten (beside_of plan.apart free) name
    (full_slot (other_slot source) name passes.0.full) passes.0.plain)
    given)
    done
follows m staged _ source plan i phase edits done = absurd cc

pub edits_follow : (size : ℕ) (image : Image) (m : Mounted) (staged : Option (List ℕ))
    (c : Command) (source : ℕ) (plan : Plan)
    → HasWholeSectors size image
    → IsIn size m image
    → m.state.phase ≡ Installing source plan
    → is_edit c ≡ true
    → (effect_on m staged c).reply ≡ replies.Done
    → (after_of m (effect_on m staged c)).state
    ≡ with_plan m.state source (edited_plan m.state.groups c plan)
edits_follow size image m staged c source plan whole is phase =
    follows m staged c source plan (is_installed size image m source plan whole is phase) phase
