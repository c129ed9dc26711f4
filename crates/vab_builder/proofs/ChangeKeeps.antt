-- The target after an edit keeps the rules.
use Rattle.std.proofs.Common.{List, ◌≡◌, ℕ, ◌+◌, ◌^◌, ◌≤◌, length, sum_by, sym, subst, Result, Ok}
use Rattle.std.proofs.Common.{Err}
use Rattle.std.specs.Prelude.{IfOk}
use Rattle.vab_layout.specs.declared.layout.Part.{Part}
use Rattle.vab_layout.specs.declared.layout.Layout.{Layout}
use Rattle.vab_blocks.specs.Runs.{runs_of}
use Rattle.vab_layout.specs.Rules.{IsLayout}
use Rattle.vab_layout.specs.Slots.{IsTargetBeside, groups_of_slot}
use Rattle.vab_builder.specs.declared.edit.Edit.{Edit}
use Rattle.vab_builder.specs.declared.edit.Edit.TheVariants.{Create, Resize, Delete, AddStore}
use Rattle.vab_builder.specs.Asked.{edited_name, HasAsked, KeepsOthers}
use Rattle.vab_builder.specs.Edits.{changed_beside}
use Rattle.vab_builder.proofs.AskedLaws.{edit_done}
use Rattle.vab_builder.proofs.Keeps.{Keeps}
use Rattle.vab_builder.specs.Update.{IsUpdateBeside}
use Rattle.vab_builder.proofs.Verdicts.{created_passes}
use Rattle.vab_builder.proofs.ResizeVerdicts.{resized_passes}
use Rattle.vab_builder.proofs.DeleteVerdicts.{deleted_passes}
use Rattle.vab_builder.proofs.StoreVerdicts.{stored_passes}
use Rattle.vab_builder.proofs.CreateKeeps.{created_keeps}
use Rattle.vab_builder.proofs.ResizeKeeps.{resized_keeps}
use Rattle.vab_builder.proofs.DeleteKeeps.{deleted_keeps}
use Rattle.vab_builder.proofs.StoreKeeps.{stored_keeps}

pub edit_keeps : (slot : ℕ) (twins : List Part) (source target : Layout) (edit : Edit) (l : Layout)
    → IsUpdateBeside slot twins source target → changed_beside slot twins source target edit ≡ Ok l
    → Keeps slot twins source target l
edit_keeps slot twins source target (Create name bytes) l update h =
    let r = created_passes slot twins source target name.now bytes l h in
    subst (Keeps slot twins source target) (sym r.1)
    (created_keeps slot twins source target name.now bytes update r.0)
edit_keeps slot twins source target (Resize name bytes) l update h =
    let r = resized_passes slot twins source target name.now bytes l h in
    subst (Keeps slot twins source target) (sym r.1)
    (resized_keeps slot twins source target name.now bytes update r.0)
edit_keeps slot twins source target (Delete name) l update h =
    let r = deleted_passes slot target name.now l h in
    subst (Keeps slot twins source target) (sym r.1)
    (deleted_keeps slot twins source target name.now update r.0)
edit_keeps slot twins source target (AddStore name bytes) l update h =
    let r = stored_passes slot twins source target name.now bytes l h in
    subst (Keeps slot twins source target) (sym r.1)
    (stored_keeps slot twins source target name.now bytes update r.0)

-- what is given is done and keeps the rules, in the words of the contract
pub record GivenKeeps
    {E : Type 0}
    (slot : ℕ)
    (twins : List Part)
    (source target : Layout)
    (edit : Edit)
    (r : Result Layout E) : Type 0 where
  pub asked : IfOk r (HasAsked edit target)
  pub others : IfOk r (KeepsOthers (edited_name edit) target)
  pub rules : IfOk r IsLayout
  pub parts : IfOk r (λ l. IsTargetBeside slot twins source.parts l.parts)
  pub device : IfOk r (λ l. l.device ≡ target.device)
  pub groups : IfOk r (λ l. groups_of_slot slot l.groups ≡ groups_of_slot slot target.groups)
  pub few_parts : IfOk r (λ l. length l.parts ≤ length target.parts + 1)
  pub few_groups : IfOk r (λ l. length l.groups ≤ length target.groups + 1)
  pub few_runs : IfOk r
      (λ l. sum_by (λ p. length (runs_of p.blocks)) l.parts
      ≤ sum_by (λ p. length (runs_of p.blocks)) target.parts + 2 ^ 40)

pub given_keeps : {E : Type 0} (slot : ℕ) (twins : List Part) (source target : Layout) (edit : Edit)
    (r : Result Layout E)
    → IsUpdateBeside slot twins source target
    → IfOk r (λ l. changed_beside slot twins source target edit ≡ Ok l)
    → GivenKeeps slot twins source target edit r
given_keeps slot twins source target edit (Ok l) update gives =
    let k = edit_keeps slot twins source target edit l update gives in
    let done = edit_done slot twins source target edit l update gives in
    record {
      asked = done.asked;
      others = done.others;
      rules = k.rules;
      parts = k.parts;
      device = k.device;
      groups = k.groups;
      few_parts = k.few_parts;
      few_groups = k.few_groups;
      few_runs = k.few_runs;
    }
given_keeps slot twins source target edit (Err fault) update gives = record {
  asked = tt;
  others = tt;
  rules = tt;
  parts = tt;
  device = tt;
  groups = tt;
  few_parts = tt;
  few_groups = tt;
  few_runs = tt;
}
