-- Parts of a state.
use Rattle.std.specs.Prelude.{ℕ, ◌==◌, Bool, true, false, if◌then◌else◌, List, [], ◌∷◌, Option}
use Rattle.std.specs.Prelude.{Some, None, is_some}
use Rattle.std.specs.Str.{bytes_eq}
use Rattle.vab_bootctl.specs.declared.slots.Info.{Info}
use Rattle.vab_bootctl.specs.declared.slots.Control.{Control}
use Rattle.vab_model.specs.declared.state.Image.{Image}
use Rattle.vab_model.specs.declared.state.State.{State}

-- the images of a slot, where it has some
abbrev pub images_at : State → ℕ → Option (List Image)
images_at s slot = if slot == 0 then s.a else s.b

-- which slots have images
abbrev pub has_images : State → List Bool
has_images s = is_some s.a ∷ is_some s.b ∷ []

-- ---- boot control

-- what boot control says of a slot that isn't read
abbrev pub no_info : Info
no_info = record { priority = 0; tries = 0; successful = false }

abbrev pub info_seen : Bool → Info → Info
info_seen true info = info
info_seen false info = no_info

-- Boot control as a state has it: of a slot without images nothing is read.
abbrev pub control_seen : Bool → Bool → Control → Control
control_seen has_a has_b c = record c { a = info_seen has_a c.a; b = info_seen has_b c.b }

-- the state with another boot control
abbrev pub with_control : Control → State → State
with_control c s = record s { control = c }

-- ---- images

-- the state with these images of a slot
abbrev pub with_images : State → (slot : ℕ) → List Image → State
with_images s slot images =
    if slot == 0 then record s { a = Some images } else record s { b = Some images }

-- the image of this base name
abbrev pub image_named : List ℕ → List Image → Option Image
image_named name [] = None
image_named name (image ∷ images) =
    if bytes_eq image.name name then Some image else image_named name images
