-- What is wrong with words that ask for nothing.
use Rattle.std.specs.Prelude.{◌≡◌, ℕ, Bool, false, List, slice_get, Some, is_some}
use Rattle.vab_words.specs.Values.{blocks_of, limit_of, metadata_max_of, scale_of, seed_of, slot_of}
use Rattle.vab_words.specs.Values.{turns_of}
use Rattle.vab_words.specs.declared.complaint.Complaint.{Complaint}
use Rattle.vab_words.specs.declared.complaint.Complaint.TheVariants as complaints
use Rattle.vab_words.specs.declared.complaint.Value.{Value}
use Rattle.vab_words.specs.declared.complaint.Value.TheVariants.{Turns, Slot, Seed, Limit}
use Rattle.vab_words.specs.declared.complaint.Value.TheVariants.{MetadataMax, Scale, Between}

-- a text is in form and range
abbrev pub is_value : Value → List ℕ → Bool
is_value Turns text = is_some (blocks_of text)
is_value Slot text = is_some (slot_of text)
is_value Seed text = is_some (seed_of text)
is_value Limit text = is_some (limit_of (Some text))
is_value MetadataMax text = is_some (metadata_max_of (Some text))
is_value Scale text = is_some (scale_of (Some text))
is_value Between text = is_some (turns_of (Some text))

-- a word that is named is there, and isn't one
abbrev pub Names : List (List ℕ) → Complaint → Type 0
Names words (complaints.Value index value) =
    (text : List ℕ)
    × (slice_get words index ≡ Some text)
    × (is_value value text ≡ false)
Names words _ = Unit {0}
