-- What holds of an effect that changes what a physical partition holds, or refuses to.
use Rattle.std.proofs.Common.{ℕ, ◌*◌, Bool, true, false, List, length, Option, Some, None}
use Rattle.std.specs.Prelude.{nat_le, not, is_some}
use Rattle.vab_names.specs.Names.{is_full, base_of}
use Rattle.vab_model.specs.declared.state.PlanEntry.{PlanEntry}
use Rattle.vab_model.specs.declared.state.Plan.{Plan}
use Rattle.vab_model.specs.declared.state.Phase.{Phase}
use Rattle.vab_model.specs.declared.state.Phase.TheVariants.{Idle, Installing, Staged, Merging}
use Rattle.vab_model.specs.declared.state.Physical.{Physical}
use Rattle.vab_model.specs.declared.state.State.{State}
use Rattle.vab_model.specs.declared.command.Refusal.{Refusal}
use Rattle.vab_model.specs.declared.command.Refusal.TheVariants as refusals
use Rattle.vab_model.specs.declared.command.Reply.TheVariants as replies
use Rattle.vab_model.specs.Commands.{Keep}
use Rattle.vab_model.specs.Effects.{Effect, refuses, does, effect_map}
use Rattle.vab_model.specs.Plans.{other_slot, is_planned}
use Rattle.vab_model.specs.Staged.{is_sparse, filled}
use Rattle.vab_model.specs.Physical.{physical_named, held_by, with_held}
use Rattle.vab_model.specs.Machine.{unless, flash_staged, physical_entry, is_written}
use Rattle.vab_model.specs.Machine.{keep_held, keep_physical, keep_row, if_installing}
use Rattle.vab_model.specs.Machine.{machine_effect}
use Rattle.vab_device.specs.Mounted.{Mounted, in_state}
use Rattle.vab_device.specs.Flashed.{physical_effect}
use Rattle.vab_device.specs.Updates.{effect_on}

-- the device whose physical partitions hold this
abbrev pub held_in : Mounted → List Physical → Mounted
held_in m ps = in_state m (record m.state { physical = ps })

-- of what refuses, and of what is done
module _ (m : Mounted) (P : Effect Mounted → Type 0) (refused : (r : Refusal) → P (refuses r))
    (one : (ps : List Physical) → P (does replies.Done (held_in m ps))) where
  abbrev Of : Effect State → Type 0
  Of row = P (effect_map (in_state m) row)

  tested : (b : Bool) (r : Refusal) (row : Effect State) → Of row → Of (unless b r row)
  tested true r row of = of
  tested false r row of = refused r

  holds : (target : ℕ) (name bytes : List ℕ)
      → Of (does replies.Done (with_held m.state target name bytes))
  holds target name bytes = one (with_held m.state target name bytes).physical

  -- ---- a flash

  staged_makes : (e : PlanEntry) (target : ℕ) (name : List ℕ) (staged : Option (List ℕ))
      → Of (flash_staged e (λ b. does replies.Done (with_held m.state target name b)) staged)
  staged_makes e target name None = refused refusals.NothingStaged
  staged_makes e target name (Some staged) =
      let large : Refusal = refusals.TooLarge (length staged) (4096 * e.blocks) in
      let small : Bool = nat_le (length staged) (4096 * e.blocks) in
      let next : State = with_held m.state target name (filled staged e.blocks) in
      let done : Effect State = does replies.Done next in
      tested (not (is_sparse staged)) refusals.Sparse (unless small large done)
      (tested small large done (holds target name (filled staged e.blocks)))

  pub physical_makes : (target : ℕ) (staged : Option (List ℕ)) (p : Option Physical)
      → P (physical_effect m target staged p)
  physical_makes target staged None = refused refusals.Unknown
  physical_makes target staged (Some p) =
      let e : PlanEntry = physical_entry p (held_by target p) in
      tested (not (is_written e.image)) refusals.Written
      (flash_staged e (λ b. does replies.Done (with_held m.state target p.name b)) staged)
      (staged_makes e target p.name staged)

  -- ---- a keep

  held : (target : ℕ) (p : Physical) (bytes : Option (List ℕ))
      → Of (keep_held m.state target p bytes)
  held target p None = refused refusals.NoImages
  held target p (Some bytes) = holds target p.name bytes

  named : (source : ℕ) (planned : Bool) (p : Option Physical)
      → Of (keep_physical m.state source planned p)
  named source planned None =
      tested planned refusals.Unknown (refuses refusals.NotPhysical)
      (refused refusals.NotPhysical)
  named source planned (Some p) =
      let target : ℕ = other_slot source in
      tested (not (is_some (held_by target p))) refusals.Written
      (keep_held m.state target p (held_by source p))
      (held target p (held_by source p))

  kept : (name : List ℕ) (phase : Phase) → Of (if_installing phase (keep_row m.state name))
  kept name (Installing source plan) =
      let planned : Bool = is_planned (base_of name) plan.entries in
      let p : Option Physical = physical_named (base_of name) m.state.physical in
      tested (is_full (other_slot source) name) refusals.BadName
      (keep_physical m.state source planned p)
      (named source planned p)
  kept name _ = refused refusals.NotInstalling

  pub keep_makes : (staged : Option (List ℕ)) (name : List ℕ) → P (effect_on m staged (Keep name))
  unfolding machine_effect
  keep_makes staged name = kept name m.state.phase
