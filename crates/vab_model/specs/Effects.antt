-- Effects of commands: a reply and the states that follow one another; and of the image that is
-- asked for, of boot control, and of want of memory.
use Rattle.std.specs.Prelude.{◌≡◌, ◌⊎◌, ℕ, if◌then◌else◌, Bool, true, false, ◌&&◌, List, [], ◌∷◌}
use Rattle.std.specs.Prelude.{map, Option, Some, None}
use Rattle.sha2.specs.Sha256.{sha256}
use Rattle.vab_bootctl.specs.declared.slots.Control.{Control}
use Rattle.vab_names.specs.Names.{is_full, base_of}
use Rattle.vab_model.specs.declared.state.Image.{Image}
use Rattle.vab_model.specs.declared.state.Overlay.{Overlay}
use Rattle.vab_model.specs.declared.state.Physical.{Physical}
use Rattle.vab_model.specs.declared.state.State.{State}
use Rattle.vab_model.specs.declared.command.Refusal.{Refusal}
use Rattle.vab_model.specs.declared.command.Refusal.TheVariants.{BadName, Unknown, NoImages}
use Rattle.vab_model.specs.declared.command.Refusal.TheVariants.{NoMemory, NotIdle}
use Rattle.vab_model.specs.declared.command.Reply.{Reply}
use Rattle.vab_model.specs.declared.command.Reply.TheVariants as replies
use Rattle.vab_model.specs.Over.{read_over}
use Rattle.vab_model.specs.State.{with_control}
use Rattle.vab_model.specs.Physical.{image_among}

-- A reply; the states that follow one another, none for a refusal or a question; and whether memory
-- may be refused in its place.
pub record Effect (S : Type 0) : Type 0 where
  pub reply : Reply
  pub later : List S
  pub wants : Bool

abbrev pub answers : {S : Type 0} → Reply → Effect S
answers reply = record { reply = reply; later = []; wants = false }

abbrev pub refuses : {S : Type 0} → Refusal → Effect S
refuses refusal = answers (replies.Refused refusal)

abbrev pub does : {S : Type 0} → Reply → S → Effect S
does reply next = record { reply = reply; later = next ∷ []; wants = false }

-- the same, where memory may be refused in its place, or not
abbrev pub wanting : {S : Type 0} → Bool → Effect S → Effect S
wanting wants e = record e { wants = wants }

-- the same of what has a state in it
abbrev pub effect_map : {S T : Type 0} → (S → T) → Effect S → Effect T
effect_map f e = record { reply = e.reply; later = map f e.later; wants = e.wants }

-- ---- the image that is asked for

-- what was found under a name
pub data Found : Type 0 where
  Image_is : (image : Image) → Found
  Refused_by : (refusal : Refusal) → Found

abbrev pub found_image : Option Image → Found
found_image None = Refused_by Unknown
found_image (Some image) = Image_is image

-- of a slot with these images and physical partitions
abbrev pub found_in : (slot : ℕ) → List Physical → Option (List Image) → List ℕ → Found
found_in slot physical None name = Refused_by NoImages
found_in slot physical (Some images) name =
    found_image (image_among slot (base_of name) physical images)

-- the image of a name with a slot's suffix
abbrev pub found_under : State → List ℕ → Found
found_under s name =
    if is_full 0 name then found_in 0 s.physical s.a name
    else (if is_full 1 name then found_in 1 s.physical s.b name else Refused_by BadName)

-- what was found as it is read, with what is written over it
abbrev pub found_over : Option Overlay → Found → Found
found_over overlay (Image_is image) = Image_is (read_over overlay image)
found_over overlay (Refused_by refusal) = Refused_by refusal

-- the image of a name as it is read
abbrev pub found_of : State → List ℕ → Found
found_of s name = found_over s.overlay (found_under s name)

-- ---- an overlay

-- where there is none: an update doesn't begin over one
abbrev pub if_plain : {S : Type 0} → Option Overlay → Effect S → Effect S
if_plain None next = next
if_plain (Some overlay) next = refuses NotIdle

-- ---- questions and boot control

abbrev pub print_effect : {S : Type 0} → List ℕ → Found → Effect S
print_effect name (Image_is image) = answers (replies.Bytes name)
print_effect name (Refused_by refusal) = refuses refusal

abbrev pub digest_effect : {S : Type 0} → Found → Effect S
digest_effect (Image_is image) = answers (replies.Digest (sha256 image.bytes))
digest_effect (Refused_by refusal) = refuses refusal

-- another boot control, where the slot has images
abbrev pub active_effect : Bool → State → Control → Effect State
active_effect true s c = does replies.Done (with_control c s)
active_effect false s c = refuses NoImages

-- ---- want of memory

-- what a command does, where memory is refused to it or not
abbrev pub unless_refused : {S : Type 0} → Bool → Effect S → Effect S
unless_refused refused e = if refused && e.wants then refuses NoMemory else e

-- ---- what follows from an effect, whatever the command is

abbrev pub last_of : {S : Type 0} → S → List S → S
last_of s [] = s
last_of s (x ∷ xs) = last_of x xs

-- the states from the one before a command to the one after it
abbrev pub steps_of : {S : Type 0} → S → Effect S → List S
steps_of s e = s ∷ e.later

abbrev pub after_of : {S : Type 0} → S → Effect S → S
after_of s e = last_of s e.later

-- one of these
abbrev pub IsOneOf : {S : Type 0} → List S → S → Type 0
IsOneOf [] x = ⊥
IsOneOf (s ∷ ss) x = (x ≡ s) ⊎ IsOneOf ss x
