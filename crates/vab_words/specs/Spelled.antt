-- What words that are written out ask for.
use Rattle.std.specs.Prelude.{◌≡◌, ◌≢◌, Bool, List, [], ◌∷◌, Option, codes, slice_index}
use Rattle.std.specs.List.{list_any}
use Rattle.std.specs.Str.{bytes_eq}
use Rattle.clap.specs.Words.{Text}
use Rattle.vab_words.specs.Verbs.{Activate, Adopt, BeginMerge, Boot, Cancel, Demo, Digest, Install}
use Rattle.vab_words.specs.Verbs.{Make, Mark, Meaning, Merge, Print, Serve, Status, verb_of}

-- the word is no option: it doesn't begin with a hyphen
abbrev pub IsPlain : Text → Type 0
IsPlain text = slice_index text 0 ≢ 45

-- a verb and one plain word
abbrev pub AsksBy : Text → (Text → Option Meaning) → Type 0
AsksBy verb meaning = (text : Text) → IsPlain text → verb_of (verb ∷ text ∷ []) ≡ meaning text

-- `make` and one option with a plain word
abbrev pub MakesBy : Text → (Text → Option Meaning) → Type 0
MakesBy option meaning =
    (text : Text) → IsPlain text → verb_of (codes "make" ∷ option ∷ text ∷ []) ≡ meaning text

abbrev pub verb_names : List Text
verb_names =
    codes "make" ∷ codes "adopt" ∷ codes "serve" ∷ codes "install" ∷ codes "boot" ∷ codes "mark" ∷
    codes "begin-merge" ∷ codes "merge" ∷ codes "cancel" ∷ codes "activate" ∷ codes "print" ∷
    codes "digest" ∷ codes "status" ∷ codes "demo" ∷ []

-- the word is the name of a verb
abbrev pub is_verb_name : Text → Bool
is_verb_name word = list_any (λ name. bytes_eq name word) verb_names

-- the name of the verb that is asked for
abbrev pub name_of : Meaning → Text
name_of (Make limit metadata_max) = codes "make"
name_of (Adopt slot) = codes "adopt"
name_of (Serve fresh turns) = codes "serve"
name_of Install = codes "install"
name_of Boot = codes "boot"
name_of Mark = codes "mark"
name_of BeginMerge = codes "begin-merge"
name_of (Merge blocks) = codes "merge"
name_of Cancel = codes "cancel"
name_of (Activate slot) = codes "activate"
name_of (Print name) = codes "print"
name_of (Digest name) = codes "digest"
name_of Status = codes "status"
name_of (Demo seed scale) = codes "demo"
