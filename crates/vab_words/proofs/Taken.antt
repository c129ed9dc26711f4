-- The command of `vab` is one of which `clap` says all, and what an `Ok` and an `Err` say of the
-- words.
use Rattle.std.proofs.Common.{◌≡◌, List, [], Bool, true, false, refl}
use Rattle.std.specs.List.{list_all}
use Rattle.clap.specs.Simple.{built}
use Rattle.clap.specs.Words.{Text, fault_of, is_simple, is_simple_and_free}
use Rattle.clap.proofs.OnLiterals.{clap_on_literals}
use Rattle.clap.proofs.WalkLemmas.{both}
use Rattle.vab_words.specs.Command.{is_taken, vab_app}
use Rattle.vab_words.proofs.Faultless.{is_sound, takes_faultless}

pub all_known : is_simple_and_free vab_app ≡ true
unfolding clap_on_literals vab_app
all_known = refl

pub simple : is_simple vab_app ≡ true
simple = (both _ _ all_known).0

sound_top : is_sound (built vab_app).top ≡ true
unfolding clap_on_literals vab_app
sound_top = refl

sound_verbs : list_all is_sound (built vab_app).subs ≡ true
unfolding clap_on_literals vab_app
sound_verbs = refl

pub taken : (words : List Text) → fault_of vab_app words ≡ [] → is_taken words ≡ true
unfolding is_taken
taken words none = takes_faultless vab_app words simple sound_top sound_verbs none

pub not_true : (b : Bool) → (b ≡ true → ⊥) → b ≡ false
not_true true h = absurd (h refl)
not_true false h = refl
