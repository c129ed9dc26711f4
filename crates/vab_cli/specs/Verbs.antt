-- The verbs on a device: what is told of each, how it ends, and the devices from the one before it
-- to the one after it.
use Rattle.std.specs.Prelude.{ℕ, Bool, true, false, List, length, [], ◌∷◌, ◌++◌, codes, decimal}
use Rattle.std.specs.Prelude.{Option, Some, None}
use Rattle.hex.specs.Hex.{encode_lower}
use Rattle.vab_model.specs.declared.command.Reply.{Reply}
use Rattle.vab_model.specs.declared.command.Reply.TheVariants as replies
use Rattle.vab_model.specs.declared.command.Refusal.{Refusal}
use Rattle.vab_model.specs.Commands.{Command, SetActive, Boot, Mark, Print, Digest, Cancel}
use Rattle.vab_model.specs.Commands.{BeginMerge, Merge}
use Rattle.vab_model.specs.Effects.{Found, Image_is, Refused_by, found_of, steps_of, after_of}
use Rattle.vab_tables.specs.Rules.{cap_of}
use Rattle.vab_set.specs.declared.set.SetImage.{SetImage}
use Rattle.vab_device.specs.Mounted.{Mounted}
use Rattle.vab_device.specs.Updates.{effect_on}
use Rattle.vab_make.specs.declared.fault.MakeFault.{MakeFault}
use Rattle.vab_make.specs.declared.fault.MakeFault.TheVariants as make
use Rattle.vab_make.specs.Made.{set_blocks, made_device}
use Rattle.vab_lines.specs.Lines.{made_line, make_refusal}
use Rattle.vab_lines.specs.Lines.{refused_line as refused_because}
use Rattle.vab_words.specs.Verbs.{Meaning}
use Rattle.vab_words.specs.Verbs as words
use Rattle.vab_fbproto.specs.Texts.{slot_letter, refusal_text}
use Rattle.vab_exchanges.specs.Items.{Item}
use Rattle.vab_session.specs.Responses.{left_of}
use Rattle.vab_session.specs.Served.{nothing_staged}
use Rattle.vab_cli.specs.declared.status.Status.{Status}
use Rattle.vab_cli.specs.Codes.{reply_status}

-- the command that a verb on a device is
abbrev pub command_of : Meaning → Option Command
command_of (words.Make limit metadata_max) = None
command_of (words.Adopt slot) = None
command_of (words.Serve fresh turns) = None
command_of words.Install = None
command_of words.Boot = Some Boot
command_of words.Mark = Some Mark
command_of words.BeginMerge = Some BeginMerge
command_of (words.Merge blocks) = Some (Merge blocks)
command_of words.Cancel = Some Cancel
command_of (words.Activate slot) = Some (SetActive slot)
command_of (words.Print name) = Some (Print name)
command_of (words.Digest name) = Some (Digest name)
command_of words.Status = None
command_of (words.Demo seed scale) = None

-- ---- lines

abbrev pub line : List ℕ → List ℕ
line text = text ++ 10 ∷ []

-- where there is no device
abbrev pub none_line : List ℕ
none_line = line (codes "not a device")

abbrev pub refused_line : Refusal → List ℕ
refused_line refusal = line (codes "refused: " ++ refusal_text refusal)

-- a command that is done and has no more to tell, where this slot is the current one and so many
-- blocks are left to merge; the others have, or are no verbs
abbrev pub done_line : Command → (current left : ℕ) → List ℕ
done_line (SetActive slot) current left = line (codes "active " ++ slot_letter slot)
done_line Mark current left = line (codes "marked " ++ slot_letter current)
done_line Cancel current left = line (codes "cancelled")
done_line BeginMerge current left = line (codes "merging, left " ++ decimal left)
done_line _ current left = line []

-- the line of a reply
unfoldable pub reply_line : Command → (current left : ℕ) → Reply → List ℕ
reply_line c current left replies.Done = done_line c current left
reply_line c current left (replies.Booted slot) = line (codes "booted " ++ slot_letter slot)
reply_line c current left (replies.Bytes name) = line []
reply_line c current left (replies.Digest sum) = line (encode_lower sum)
reply_line c current left (replies.Left blocks) = line (codes "left " ++ decimal blocks)
reply_line c current left replies.Merged = line (codes "merged")
reply_line c current left (replies.Refused refusal) = refused_line refusal

-- the line of a command on a device
abbrev pub command_line : Mounted → Command → List ℕ
command_line m c =
    reply_line c m.state.control.current (left_of m.state.phase) (effect_on m None c).reply

-- a text, where no command is refused
abbrev pub unless_refused : Reply → List ℕ → List ℕ
unless_refused (replies.Refused refusal) text = []
unless_refused _ text = text

-- the same behind a text, which isn't told of a refusal
abbrev pub line_behind : (front : List ℕ) → Mounted → Command → List ℕ
line_behind front m c = unless_refused (effect_on m None c).reply front ++ command_line m c

-- an image's bytes, or why there are none
abbrev pub print_told : Found → List ℕ
print_told (Image_is image) = image.bytes
print_told (Refused_by refusal) = refused_line refusal

-- what is told of a command: the bytes of an image, or its line
abbrev pub told_of : Mounted → Command → List ℕ
told_of m (Print name) = print_told (found_of m.state name)
told_of m c = command_line m c

-- ---- items

-- this is told of a command
abbrev pub command_item : Mounted → Command → List ℕ → Item Mounted
command_item m c told = record {
  reply = told;
  steps = steps_of m (effect_on m None c);
  last = nothing_staged (after_of m (effect_on m None c));
}

-- this is told, and nothing changes
abbrev pub line_item : Mounted → List ℕ → Item Mounted
line_item m told = record { reply = told; steps = m ∷ []; last = nothing_staged m }

-- the one item of a verb on a device
abbrev pub verb_item : Mounted → Command → Item Mounted
verb_item m c = command_item m c (told_of m c)

-- and how it ends
abbrev pub verb_status : Mounted → Command → Status
verb_status m c = reply_status (effect_on m None c).reply

-- ---- making a device

-- nothing is told where memory was refused or the disk failed
abbrev pub is_silent : MakeFault → Bool
is_silent (make.TooSmall need have) = false
is_silent (make.GroupLimit used limit) = false
is_silent (make.NoRoom used cap) = false
is_silent (make.TableFull size max) = false
is_silent make.NoMemory = true
is_silent (make.Disk fault) = true

-- why none is made
abbrev pub make_line : MakeFault → List ℕ
make_line (make.TooSmall need have) = none_line
make_line (make.GroupLimit used limit) = refused_because (make_refusal (make.GroupLimit used limit))
make_line (make.NoRoom used cap) = refused_because (make_refusal (make.NoRoom used cap))
make_line (make.TableFull size max) = refused_because (make_refusal (make.TableFull size max))
make_line make.NoMemory = []
make_line (make.Disk fault) = []

-- one is made of this set, on a disk of so many sectors
abbrev pub done_making : List SetImage → ℕ → List ℕ
done_making set size = made_line (length set) (set_blocks set) (cap_of (made_device size))
