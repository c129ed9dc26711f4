-- Only under a name with a slot's suffix is an image found.
use Rattle.std.proofs.Common.{◌≡◌, ℕ, Bool, true, false, cond, List, ◌⊎◌, inl, inr, refl}
use Rattle.vab_bytes.specs.Name.{IsName}
use Rattle.vab_names.specs.Names.{is_full}
use Rattle.vab_model.specs.declared.command.Refusal.TheVariants.{BadName}
use Rattle.vab_model.specs.declared.state.Image.{Image}
use Rattle.vab_model.specs.declared.state.State.{State}
use Rattle.vab_model.specs.Effects.{Found, Image_is, Refused_by, found_in, found_under}
use Rattle.vab_model.proofs.Names.{full_is}

of_a_slot : (a b : Bool) (x y : Found) (image : Image)
    → cond a x (cond b y (Refused_by BadName)) ≡ Image_is image
    → (a ≡ true) ⊎ (b ≡ true)
of_a_slot true b x y image h = inl refl
of_a_slot false true x y image h = inr refl
of_a_slot false false x y image h = absurd cc

pub found_is_name : (s : State) (name : List ℕ) (image : Image)
    → found_under s name ≡ Image_is image
    → IsName name
found_is_name s name image h =
    elim (of_a_slot (is_full 0 name) (is_full 1 name) (found_in 0 s.physical s.a name)
    (found_in 1 s.physical s.b name) image h) [
      | inl a ↦ full_is 0 name a
      | inr b ↦ full_is 1 name b
    ]
