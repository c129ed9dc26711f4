-- The physical partitions, which each slot has behind `super`: what they hold, and which is meant
-- by a name.
use Rattle.std.specs.Prelude.{ℕ, ◌==◌, Bool, if◌then◌else◌, List, [], ◌∷◌, map, Option, Some, None}
use Rattle.std.specs.Prelude.{is_some, option_map}
use Rattle.std.specs.Str.{bytes_eq}
use Rattle.vab_model.specs.declared.state.Image.{Image}
use Rattle.vab_model.specs.declared.state.Physical.{Physical}
use Rattle.vab_model.specs.declared.state.State.{State}
use Rattle.vab_model.specs.State.{image_named}

-- what that of a slot holds, where that counts
abbrev pub held_by : (slot : ℕ) → Physical → Option (List ℕ)
held_by slot p = if slot == 0 then p.a else p.b

-- that of a slot holds these bytes, or nothing that counts
abbrev pub holding : (slot : ℕ) → Option (List ℕ) → Physical → Physical
holding slot bytes p = if slot == 0 then record p { a = bytes } else record p { b = bytes }

-- the one of this base name
abbrev pub physical_named : List ℕ → List Physical → Option Physical
physical_named name [] = None
physical_named name (p ∷ ps) = if bytes_eq p.name name then Some p else physical_named name ps

-- there is one
abbrev pub is_physical : List ℕ → List Physical → Bool
is_physical name ps = is_some (physical_named name ps)

-- the one of this base name is changed
abbrev pub at_physical : List ℕ → (Physical → Physical) → List Physical → List Physical
at_physical name change ps =
    map {A = Physical} (λ p. if bytes_eq p.name name then change p else p) ps

-- the state in which that of a slot holds these bytes
abbrev pub with_held : State → (slot : ℕ) → List ℕ → List ℕ → State
with_held s slot name bytes =
    record s { physical = at_physical name (holding slot (Some bytes)) s.physical }

-- those of a slot hold nothing that counts any more
abbrev pub all_blank : (slot : ℕ) → List Physical → List Physical
all_blank slot ps = map (holding slot None) ps

-- as an image of a slot: it is in the group of no slot
abbrev pub image_held : (slot : ℕ) → Option Physical → Option Image
image_held slot None = None
image_held slot (Some p) =
    option_map (λ bytes. record { name = p.name; group = None; bytes = bytes }) (held_by slot p)

abbrev pub or_image : Option Image → Option Image → Option Image
or_image None other = other
or_image (Some image) other = Some image

-- the image of this base name among a slot's physical partitions and its others
abbrev pub image_among : (slot : ℕ) → List ℕ → List Physical → List Image → Option Image
image_among slot name ps images =
    or_image (image_held slot (physical_named name ps)) (image_named name images)
