-- Commands that are carried out one after another, until one is refused.
use Rattle.std.specs.Prelude.{ℕ, Bool, true, false, if◌then◌else◌, List, [], ◌∷◌, ◌++◌, Option}
use Rattle.vab_model.specs.declared.command.Reply.{Reply}
use Rattle.vab_model.specs.declared.command.Reply.TheVariants as replies
use Rattle.vab_model.specs.Commands.{Command}
use Rattle.vab_model.specs.Effects.{Effect, answers, after_of}
use Rattle.vab_device.specs.Mounted.{Mounted}
use Rattle.vab_device.specs.Updates.{effect_on}

-- A command, by the device that it comes to, and the bytes that are staged for it.
pub record Order : Type 0 where
  pub command : Mounted → Command
  pub staged : Option (List ℕ)

abbrev pub is_refused : Reply → Bool
is_refused replies.Done = false
is_refused (replies.Booted slot) = false
is_refused (replies.Bytes name) = false
is_refused (replies.Digest sum) = false
is_refused (replies.Left blocks) = false
is_refused replies.Merged = false
is_refused (replies.Refused refusal) = true

-- what one makes of a device
abbrev pub effect_one : Order → Mounted → Effect Mounted
effect_one o m = effect_on m o.staged (o.command m)

-- Unless it is refused, the others follow.
abbrev pub followed : Effect Mounted → Effect Mounted → Effect Mounted
followed e rest =
    if is_refused e.reply
    then e
    else record { reply = rest.reply; later = e.later ++ rest.later; wants = rest.wants }

-- What all of them make of it: the devices after each, and the reply of the one that is refused.
unfoldable pub effect_all : List Order → Mounted → Effect Mounted
effect_all [] m = answers replies.Done
effect_all (o ∷ os) m = followed (effect_one o m) (effect_all os (after_of m (effect_one o m)))
