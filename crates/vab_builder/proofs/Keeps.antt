-- What each edit keeps of the rules of an update's target.
use Rattle.std.specs.Prelude.{List, ◌≡◌, ℕ, ◌+◌, ◌^◌, ◌≤◌, length, sum_by}
use Rattle.vab_layout.specs.declared.layout.Part.{Part}
use Rattle.vab_layout.specs.declared.layout.Layout.{Layout}
use Rattle.vab_blocks.specs.Runs.{runs_of}
use Rattle.vab_layout.specs.Rules.{IsLayout}
use Rattle.vab_layout.specs.Slots.{IsTargetBeside, groups_of_slot}

-- a target after an edit keeps the rules of layouts and of targets, the device and the slot's
-- groups, and is not much longer
pub record Keeps (slot : ℕ) (twins : List Part) (source target after : Layout) : Type 0 where
  pub rules : IsLayout after
  pub parts : IsTargetBeside slot twins source.parts after.parts
  pub device : after.device ≡ target.device
  pub groups : groups_of_slot slot after.groups ≡ groups_of_slot slot target.groups
  pub few_parts : length after.parts ≤ length target.parts + 1
  pub few_groups : length after.groups ≤ length target.groups + 1
  pub few_runs : sum_by (λ p. length (runs_of p.blocks)) after.parts
      ≤ sum_by (λ p. length (runs_of p.blocks)) target.parts + 2 ^ 40
