-- A planned partition, by its place in the plan.
use Rattle.std.specs.Prelude.{◌≡◌, ℕ, true, List, [], position, Option, Some, None}
use Rattle.std.specs.Prelude.{slice_index_or}
use Rattle.std.specs.Str.{bytes_eq}
use Rattle.vab_names.specs.Names.{is_full, base_of}
use Rattle.vab_layout.specs.Slots.{other_slot}
use Rattle.vab_device.specs.declared.device.Part.{Part}
use Rattle.vab_device.specs.declared.device.PartImage.TheVariants.{Kept}
use Rattle.vab_device.specs.declared.device.Device.{Device}

-- the place of the first planned partition of a base name
abbrev pub place_of : List ℕ → List Part → Option ℕ
place_of base plan = position (λ p. bytes_eq p.name base) plan

-- while an update is installed, the target has a partition of this name at this place of the plan
pub record HasPlace (d : Device) (name : List ℕ) (place : ℕ) : Type 0 where
  pub plan : List Part
  pub plan_is : d.plan ≡ Some plan
  pub full : is_full (other_slot d.mark.slot) name ≡ true
  pub place_is : place_of (base_of name) plan ≡ Some place

abbrev pub plan_or : Option (List Part) → List Part
plan_or None = []
plan_or (Some plan) = plan

abbrev pub no_planned : Part
no_planned = record { name = []; group = []; map = []; store = None; image = Kept }

abbrev pub planned_at : Device → ℕ → Part
planned_at d place = slice_index_or (plan_or d.plan) place no_planned
