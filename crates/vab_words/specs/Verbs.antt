-- What the words ask for.
use Rattle.std.specs.Prelude.{◌≤◌, ◌<◌, ◌^◌, ℕ, Bool, false, List, Option, Some, None, codes}
use Rattle.std.specs.Prelude.{if◌then◌else◌, option_and_then, option_map}
use Rattle.std.specs.Option.{option_map_or}
use Rattle.std.specs.Str.{bytes_eq}
use Rattle.clap.specs.Words.{Row, Text, first_of}
use Rattle.vab_words.specs.Command.{found_in, is_taken}
use Rattle.vab_words.specs.Values.{blocks_of, limit_of, metadata_max_of, slot_of, IsBlocks}
use Rattle.vab_words.specs.Values.{IsMetadataMax, seed_of, scale_of, IsScale, turns_of}
use Rattle.clap.specs.declared.error.kind.ErrorKind.{ErrorKind}
use Rattle.clap.specs.declared.error.kind.ErrorKind.TheVariants as kind
use Rattle.vab_words.specs.declared.verb.WordsFault.{WordsFault}
use Rattle.vab_words.specs.declared.verb.WordsFault.TheVariants as fault
use Rattle.vab_words.specs.declared.verb.Verb.{Verb}
use Rattle.vab_words.specs.declared.verb.Verb.TheVariants as code

-- a verb, with the values of its options and operands
pub data Meaning : Type 0 where
  Make : ℕ → ℕ → Meaning
  Adopt : ℕ → Meaning
  Serve : Bool → ℕ → Meaning
  Install : Meaning
  Boot : Meaning
  Mark : Meaning
  BeginMerge : Meaning
  Merge : ℕ → Meaning
  Cancel : Meaning
  Activate : ℕ → Meaning
  Print : Text → Meaning
  Digest : Text → Meaning
  Status : Meaning
  Demo : ℕ → ℕ → Meaning

abbrev pub meaning_of : Verb → Meaning
meaning_of (code.Make limit metadata_max) = Make limit metadata_max
meaning_of (code.Adopt slot) = Adopt slot
meaning_of (code.Serve fresh turns) = Serve fresh turns
meaning_of code.Install = Install
meaning_of code.Boot = Boot
meaning_of code.Mark = Mark
meaning_of code.BeginMerge = BeginMerge
meaning_of (code.Merge blocks) = Merge blocks
meaning_of code.Cancel = Cancel
meaning_of (code.Activate slot) = Activate slot
meaning_of (code.Print name) = Print name.now
meaning_of (code.Digest name) = Digest name.now
meaning_of code.Status = Status
meaning_of (code.Demo seed scale) = Demo seed scale

-- the values of `make`, of `adopt`, of `serve`, of `merge` and of `demo` are in their ranges
abbrev pub IsInRange : Verb → Type 0
IsInRange (code.Make limit metadata_max) = (limit ≤ 2 ^ 44) × IsMetadataMax metadata_max
IsInRange (code.Adopt slot) = slot < 2
IsInRange (code.Serve fresh turns) = turns < 2 ^ 32
IsInRange code.Install = Unit {0}
IsInRange code.Boot = Unit {0}
IsInRange code.Mark = Unit {0}
IsInRange code.BeginMerge = Unit {0}
IsInRange (code.Merge blocks) = IsBlocks blocks
IsInRange code.Cancel = Unit {0}
IsInRange (code.Activate slot) = Unit {0}
IsInRange (code.Print name) = Unit {0}
IsInRange (code.Digest name) = Unit {0}
IsInRange code.Status = Unit {0}
IsInRange (code.Demo seed scale) = (seed < 2 ^ 64) × IsScale scale

-- `make` with the texts of its options
unfoldable pub make_of : Option Text → Option Text → Option Meaning
make_of limit metadata_max =
    option_and_then (λ bytes. option_map (Make bytes) (metadata_max_of metadata_max))
    (limit_of limit)

-- `demo` with its operand and the text of its option
unfoldable pub demo_of : Text → Option Text → Option Meaning
demo_of seed scale =
    option_and_then (λ number. option_map (Demo number) (scale_of scale)) (seed_of seed)

abbrev pub demo_in : List Row → Option Meaning
demo_in rows =
    option_and_then (λ seed. demo_of seed (first_of (codes "scale") rows))
    (first_of (codes "seed") rows)

-- a flag is given where its value is `true`
unfoldable pub is_set : Option Text → Bool
is_set value = option_map_or (λ text. bytes_eq text (codes "true")) value false

-- `serve` with what was found for its flag and the text of its option
unfoldable pub serve_of : Option Text → Option Text → Option Meaning
serve_of fresh turns = option_map (Serve (is_set fresh)) (turns_of turns)

-- the verb of this name, by what was found for its arguments
unfoldable pub verb_in : Text → List Row → Option Meaning
verb_in name rows =
    if bytes_eq name (codes "make") then make_of (first_of (codes "limit") rows)
    (first_of (codes "metadata-max") rows)
    else if bytes_eq name (codes "adopt") then option_map Adopt
    (option_and_then slot_of (first_of (codes "slot") rows))
    else if bytes_eq name (codes "serve") then serve_of (first_of (codes "fresh") rows)
    (first_of (codes "turns") rows)
    else if bytes_eq name (codes "install") then Some Install
    else if bytes_eq name (codes "boot") then Some Boot
    else if bytes_eq name (codes "mark") then Some Mark
    else if bytes_eq name (codes "begin-merge") then Some BeginMerge
    else if bytes_eq name (codes "merge") then option_map Merge
    (option_and_then blocks_of (first_of (codes "blocks") rows))
    else if bytes_eq name (codes "cancel") then Some Cancel
    else if bytes_eq name (codes "activate") then option_map Activate
    (option_and_then slot_of (first_of (codes "slot") rows))
    else if bytes_eq name (codes "print") then option_map Print (first_of (codes "name") rows)
    else if bytes_eq name (codes "digest") then option_map Digest (first_of (codes "name") rows)
    else if bytes_eq name (codes "status") then Some Status
    else if bytes_eq name (codes "demo") then demo_in rows
    else None

-- what the words ask for, where they are taken and the values are in form and range
unfoldable pub verb_of : List Text → Option Meaning
verb_of words =
    if is_taken words then option_and_then (λ found. verb_in found.0 found.1) (found_in words)
    else None

-- why a parse that fails asks for nothing
abbrev pub fault_of : ErrorKind → WordsFault
fault_of kind.OutOfMemory = fault.NoMemory
fault_of _ = fault.Usage
