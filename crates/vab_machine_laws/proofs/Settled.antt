-- An entry whose image is written in place keeps edits from its plan.
use Rattle.std.proofs.Common.{◌≡◌, ℕ, Bool, true, false, List, Result, refl}
use Rattle.std.specs.Prelude.{Option, Some, None, not, ◌&&◌, is_some, if◌then◌else◌}
use Rattle.std.proofs.lemmas.Bool.{and_parts}
use Rattle.vab_names.specs.Names.{is_full, base_of}
use Rattle.vab_layout.specs.declared.layout.Layout.{Layout}
use Rattle.vab_builder.specs.declared.fault.EditFault.{EditFault}
use Rattle.vab_model.specs.declared.state.Plan.{Plan}
use Rattle.vab_model.specs.declared.state.PlanEntry.{PlanEntry}
use Rattle.vab_model.specs.declared.state.State.{State}
use Rattle.vab_model.specs.declared.command.Refusal.{Refusal}
use Rattle.vab_model.specs.Effects.{Effect, refuses}
use Rattle.vab_model.specs.Machine.{is_settled}
use Rattle.vab_model.specs.Plans.{entry_named}
use Rattle.vab_device.specs.Mounted.{Mounted}
use Rattle.vab_device.specs.Updates.{is_settled_in}
use Rattle.vab_targets.proofs.Updates.{is_kept}
use Rattle.vab_machine_laws.proofs.Given.{IsGiven, IsGivenBy}

-- the entry of this name has no store, and is settled
pub record IsSettled (passes : Bool) (o : ℕ) (name : List ℕ) (plan : Plan) : Type 0 where
  pub full : is_full o name ≡ true
  pub passed : passes ≡ true
  pub entry : PlanEntry
  pub is : entry_named (base_of name) plan.entries ≡ Some entry
  pub plain : is_some entry.store ≡ false
  pub settled : is_settled plan entry ≡ true

not_true : (b : Bool) → not b ≡ true → b ≡ false
not_true true is = absurd cc
not_true false is = refl

pub settled_of : (passes : Bool) (o : ℕ) (name : List ℕ) (plan : Plan)
    → is_kept passes o name plan ≡ true
    → IsSettled passes o name plan
settled_of passes o name plan kept =
    let parts = and_parts (is_full o name && passes)
    (is_settled_in plan (entry_named (base_of name) plan.entries)) kept in
    let tests = and_parts (is_full o name) passes parts.0 in
    by_entry (entry_named (base_of name) plan.entries) refl tests.0 tests.1 parts.1
  where
    by_entry : (x : Option PlanEntry)
        → entry_named (base_of name) plan.entries ≡ x
        → is_full o name ≡ true
        → passes ≡ true
        → is_settled_in plan x ≡ true
        → IsSettled passes o name plan
    by_entry None is full passed in_plan = absurd cc
    by_entry (Some e) is full passed in_plan =
        let both = and_parts (not (is_some e.store)) (is_settled plan e) in_plan in
        record {
          full = full;
          passed = passed;
          entry = e;
          is = is;
          plain = not_true (is_some e.store) both.0;
          settled = both.1;
        }

-- an edit that is refused so where a test holds, and else is what its table says
pub given_by : (m : Mounted) (source : ℕ) (next : Plan) (test : Bool) (refusal : Refusal)
    (made : Result Layout EditFault) (row : Effect State)
    → (test ≡ true → row ≡ refuses refusal)
    → (test ≡ false → IsGiven m source next made row)
    → IsGivenBy m source next (if test then Some refusal else None) made row
given_by m source next true refusal made row kept free = kept refl
given_by m source next false refusal made row kept free = free refl
