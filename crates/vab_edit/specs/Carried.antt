-- A plan of another table that keeps what was written.
use Rattle.std.specs.Prelude.{ℕ, List, [], ◌∷◌, Option, Some, None, if◌then◌else◌}
use Rattle.std.specs.Str.{bytes_eq}
use Rattle.vab_device.specs.declared.device.Part.{Part}
use Rattle.vab_device.specs.declared.device.PartImage.{PartImage}
use Rattle.vab_device.specs.declared.device.PartImage.TheVariants.{Kept, Declared, Written}

-- the first that is planned under this base name
abbrev pub planned_named : List ℕ → List Part → Option Part
planned_named name [] = None
planned_named name (p ∷ ps) = if bytes_eq p.name name then Some p else planned_named name ps

-- a planned partition with what was written to this one, where something was
abbrev pub written_by : Part → Part → PartImage → Part
written_by p o Kept = p
written_by p o Declared = p
written_by p o (Written k es) =
    record p { map = o.map; store = o.store; image = Written k es }

abbrev pub with_written : Part → Option Part → Part
with_written p None = p
with_written p (Some o) = written_by p o o.image

-- with what the plan before it has written under its name
abbrev pub carried : List Part → Part → Part
carried olds p = with_written p (planned_named p.name olds)
