-- What kind of command each is: one row a command, from which all that is asked of every command is
-- read off.
use Rattle.std.specs.Prelude.{◌≡◌, ℕ, Bool, true, false}
use Rattle.vab_model.specs.Commands.{Command, SetActive, Boot, Mark, Print, Digest, Begin, Create}
use Rattle.vab_model.specs.Commands.{Resize, Delete, Snapshot, Flash, Finish, Cancel, BeginMerge}
use Rattle.vab_model.specs.Commands.{Merge, Factory, UpdateSuper, Overlay, OverlayWrite}
use Rattle.vab_model.specs.Commands.{OverlayDiscard, Keep}

pub record Kind : Type 0 where
  -- it gives up the images of a source, changes where those of the target are read, or changes the
  -- current slot's table
  pub changes_source : Bool
  -- it begins an installation, or ends one
  pub of_installation : Bool
  -- by it another slot has images, or a slot alone has others
  pub ends_alone : Bool
  -- it gives images to a slot, or takes them from it
  pub changes_images : Bool
  -- it edits the target's table
  pub is_edit : Bool
  -- it uses up the staged bytes where it is done
  pub uses_staged : Bool
  -- a verb of the command line asks for it
  pub is_verb : Bool
  -- how many turns of a merge it asks for
  pub turns : ℕ

-- none of these
abbrev pub plain : Kind
plain = record {
  changes_source = false;
  of_installation = false;
  ends_alone = false;
  changes_images = false;
  is_edit = false;
  uses_staged = false;
  is_verb = false;
  turns = 0;
}

-- a command of a verb, and of nothing else
abbrev pub verb : Kind
verb = record plain { is_verb = true }

abbrev pub edit : Kind
edit = record plain { is_edit = true }

abbrev pub kind_of : Command → Kind
kind_of (SetActive slot) = verb
kind_of Boot = verb
kind_of Mark = verb
kind_of (Print name) = verb
kind_of (Digest name) = verb
kind_of Begin = record plain { of_installation = true }
kind_of Factory = record plain { of_installation = true }
kind_of (Create name size) = edit
kind_of (Resize name size) = edit
kind_of (Delete name) = edit
kind_of (Snapshot name size) = edit
kind_of (Flash name chunk) = record plain { uses_staged = true }
kind_of (Keep name) = plain
kind_of Finish =
    record plain { of_installation = true; ends_alone = true; changes_images = true }
kind_of Cancel = record verb { changes_images = true }
kind_of BeginMerge = record verb { changes_source = true; changes_images = true }
kind_of (Merge blocks) = record verb { changes_source = true; turns = blocks }
kind_of UpdateSuper = record plain {
  changes_source = true;
  ends_alone = true;
  changes_images = true;
  uses_staged = true;
}
kind_of (Overlay name size) = record plain { changes_source = true }
kind_of (OverlayWrite block) = record plain { uses_staged = true }
kind_of OverlayDiscard = plain

-- ---- what is asked of a command

abbrev pub changes_source : Command → Bool
changes_source c = (kind_of c).changes_source

abbrev pub is_of_installation : Command → Bool
is_of_installation c = (kind_of c).of_installation

abbrev pub ends_alone : Command → Bool
ends_alone c = (kind_of c).ends_alone

abbrev pub changes_images : Command → Bool
changes_images c = (kind_of c).changes_images

abbrev pub is_edit : Command → Bool
is_edit c = (kind_of c).is_edit

abbrev pub uses_staged : Command → Bool
uses_staged c = (kind_of c).uses_staged

abbrev pub IsVerb : Command → Type 0
IsVerb c = (kind_of c).is_verb ≡ true

abbrev pub turns_of : Command → ℕ
turns_of c = (kind_of c).turns
