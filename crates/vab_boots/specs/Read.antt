-- What is read over a partition behind commands that write over it, by what was replied to each.
use Rattle.std.specs.Prelude.{◌≡◌, ℕ, Bool, true, false, List, [], ◌∷◌, ◌++◌, Option, Some}
use Rattle.std.specs.Prelude.{All}
use Rattle.vab_names.specs.Names.{base_of}
use Rattle.vab_model.specs.declared.state.Image.{Image as ImageOfSlot}
use Rattle.vab_model.specs.declared.state.Overlay.{Overlay as OverlayOf}
use Rattle.vab_model.specs.declared.command.Reply.{Reply}
use Rattle.vab_model.specs.declared.command.Reply.TheVariants as replies
use Rattle.vab_model.specs.Commands.{Command, Overlay, OverlayWrite}
use Rattle.vab_model.specs.Effects.{after_of}
use Rattle.vab_model.specs.Plans.{images_of}
use Rattle.vab_model.specs.State.{image_named}
use Rattle.vab_model.specs.Writes.{BlockWrite, ReadsAsWritten}
use Rattle.vab_device.specs.Mounted.{Mounted}
use Rattle.vab_device.specs.Updates.{effect_on}
use Rattle.vab_boots.specs.Overlaid.{Asked, after_all, overlaid_by}

abbrev pub is_write : Command → Bool
is_write (OverlayWrite block) = true
is_write _ = false

abbrev pub AreWrites : List Asked → Type 0
AreWrites asked = All (λ a. is_write a.command ≡ true) asked

-- what a command writes of these staged bytes
abbrev pub write_of : Option (List ℕ) → Command → List BlockWrite
write_of (Some bytes) (OverlayWrite block) = record { block = block; bytes = bytes } ∷ []
write_of _ _ = []

-- where it is done
abbrev pub if_done : Reply → List BlockWrite → List BlockWrite
if_done replies.Done writes = writes
if_done _ writes = []

-- the writes of these commands that are done, in their order
abbrev pub writes_done : Mounted → List Asked → List BlockWrite
writes_done m [] = []
writes_done m (a ∷ rest) =
    if_done (effect_on m a.staged a.command).reply (write_of a.staged a.command)
    ++ writes_done (after_of m (effect_on m a.staged a.command)) rest

-- It is the device with an overlay over this image, and each block reads as the last write to it
-- that was done, and else as the image's.
pub record ReadsWhatWasDone
    (m : Mounted)
    (image : ImageOfSlot)
    (writes : List BlockWrite)
    (next : Mounted) : Type 0 where
  pub overlay : OverlayOf
  pub is : next ≡ overlaid_by m (Some overlay)
  pub reads : ReadsAsWritten image writes overlay

-- Behind the begin of an overlay that is done over the current slot's partition of this name, and
-- behind any writes, each with any staged bytes and done or refused.
pub record WritesAreReadOver
    (m : Mounted)
    (name : List ℕ)
    (begun : Mounted)
    (asked : List Asked) : Type 0 where
  pub image : ImageOfSlot
  pub named : image_named (base_of name) (images_of m.state m.state.control.current) ≡ Some image
  pub reads : ReadsWhatWasDone m image (writes_done begun asked) (after_all begun asked)

abbrev pub WritesAreRead : Type 0
WritesAreRead = (m : Mounted) (staged : Option (List ℕ)) (name : List ℕ) (size : ℕ)
    (asked : List Asked)
    → (effect_on m staged (Overlay name size)).reply ≡ replies.Done
    → AreWrites asked
    → WritesAreReadOver m name (after_of m (effect_on m staged (Overlay name size))) asked
