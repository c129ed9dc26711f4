-- A question leaves the state.
use Rattle.std.proofs.Common.{◌≡◌, ℕ, List, None, refl}
use Rattle.vab_model.specs.declared.state.State.{State}
use Rattle.vab_model.specs.Commands.{Print, Digest}
use Rattle.vab_model.specs.Effects.{Found, Image_is, Refused_by, found_of, after_of}
use Rattle.vab_model.specs.Effects.{print_effect, digest_effect}
use Rattle.vab_model.specs.Machine.{machine_effect}

print_found : (s : State) (name : List ℕ) (found : Found)
    → after_of s (print_effect name found) ≡ s
print_found s name (Image_is image) = refl
print_found s name (Refused_by refusal) = refl

pub print_stays : (s : State) (name : List ℕ)
    → after_of s (machine_effect s None (Print name)) ≡ s
unfolding machine_effect
print_stays s name = print_found s name (found_of s name)

digest_found : (s : State) (found : Found) → after_of s (digest_effect found) ≡ s
digest_found s (Image_is image) = refl
digest_found s (Refused_by refusal) = refl

pub digest_stays : (s : State) (name : List ℕ)
    → after_of s (machine_effect s None (Digest name)) ≡ s
unfolding machine_effect
digest_stays s name = digest_found s (found_of s name)
