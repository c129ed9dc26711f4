-- The verb of the words, from what `clap` found.
use Rattle.std.proofs.Common.{◌≡◌, ◌∙◌, sym, ap, List, true, false, Option, Some, None, option_map}
use Rattle.std.proofs.Common.{IfOk, IfErr, refl}
use Rattle.std.specs.Prelude.{option_and_then, ok_or}
use Rattle.clap.specs.Words.{Row, Text}
use Rattle.vab_words.specs.Command.{found_in, is_taken}
use Rattle.vab_words.specs.Verbs.{meaning_of, verb_in, verb_of}
use Rattle.vab_words.specs.declared.verb.Verb.{Verb}
use Rattle.vab_words.specs.declared.verb.WordsFault.{WordsFault}
use Rattle.vab_words.specs.declared.verb.WordsFault.TheVariants.{Usage}

pub untaken : (words : List Text) → is_taken words ≡ false → verb_of words ≡ None
unfolding verb_of
untaken words e = rw e refl

asked : (words : List Text) (o : Option Verb) (found : Option (Text × List Row))
    → is_taken words ≡ true
    → found ≡ found_in words
    → option_map meaning_of o ≡ option_and_then (λ p. verb_in p.0 p.1) found
    → option_map meaning_of o ≡ verb_of words
unfolding verb_of
asked words o found taken at e = e ∙ (ap
    (option_and_then (λ (p : Text × List Row). verb_in p.0 p.1)) at ∙ rw taken refl)

pub answered : (words : List Text) (o : Option Verb) (found : Option (Text × List Row))
    → is_taken words ≡ true
    → found ≡ found_in words
    → option_map meaning_of o ≡ option_and_then (λ p. verb_in p.0 p.1) found
    → IfOk (ok_or {E = WordsFault} o Usage) (λ v. verb_of words ≡ Some (meaning_of v))
answered words None found taken at e = tt
answered words (Some v) found taken at e = sym (asked words (Some v) found taken at e)

pub refused : (words : List Text) (o : Option Verb) (found : Option (Text × List Row))
    → is_taken words ≡ true
    → found ≡ found_in words
    → option_map meaning_of o ≡ option_and_then (λ p. verb_in p.0 p.1) found
    → IfErr (ok_or {E = WordsFault} o Usage) (λ fault. fault ≡ Usage → verb_of words ≡ None)
refused words None found taken at e = λ usage. sym (asked words None found taken at e)
refused words (Some v) found taken at e = tt
