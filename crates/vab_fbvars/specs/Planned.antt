-- The partitions that are planned, as they are kept.
use Rattle.std.specs.Prelude.{ℕ, ◌*◌, if◌then◌else◌, List, [], ◌∷◌, length, Option, Some, None}
use Rattle.std.specs.Str.{bytes_eq}
use Rattle.vab_device.specs.declared.device.Part.{Part}

-- the first of this base name
abbrev pub planned_named : List ℕ → List Part → Option Part
planned_named base [] = None
planned_named base (p ∷ ps) = if bytes_eq p.name base then Some p else planned_named base ps

-- the same, where there is a plan
abbrev pub kept_planned : List ℕ → Option (List Part) → Option Part
kept_planned base None = None
kept_planned base (Some plan) = planned_named base plan

-- its size in bytes
abbrev pub bytes_planned : Option Part → Option ℕ
bytes_planned None = None
bytes_planned (Some p) = Some (4096 * length p.map)
