-- An installation that may end: each partition of its target is kept or written.
use Rattle.std.specs.Prelude.{◌≡◌, ℕ, List, [], ◌∷◌, Option, Some, None}
use Rattle.vab_model.specs.Machine.{lesser}
use Rattle.vab_device.specs.declared.device.Part.{Part}
use Rattle.vab_device.specs.declared.device.PartImage.{PartImage}
use Rattle.vab_device.specs.declared.device.PartImage.TheVariants.{Kept, Declared, Written}
use Rattle.vab_device.specs.declared.device.Device.{Device}

abbrev pub declared_by : Option (List ℕ) → List ℕ → PartImage → Option (List ℕ)
declared_by least name Kept = least
declared_by least name Declared = lesser least name
declared_by least name (Written k es) = least

-- the lesser of a name and the partition's, where that is declared and not written
abbrev pub declared_of : Option (List ℕ) → Part → Option (List ℕ)
declared_of least p = declared_by least p.name p.image

-- the least base name of these that are declared and not written, and of that one
abbrev pub least_of : Option (List ℕ) → List Part → Option (List ℕ)
least_of least [] = least
least_of least (p ∷ ps) = least_of (declared_of least p) ps

-- an update is installed, and each of its partitions is kept or written
pub record MayFinish (d : Device) : Type 0 where
  pub plan : List Part
  pub plan_is : d.plan ≡ Some plan
  pub none : least_of None plan ≡ None
