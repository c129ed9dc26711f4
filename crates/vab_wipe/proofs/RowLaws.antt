-- The row of a wipe: what it says of an image it says of what is made of the image.
use Rattle.std.proofs.Common.{◌≡◌, inl, inr, ℕ, true, false, List, refl, ap}
use Rattle.std.specs.Prelude.{Bool, Option, Some, None}
use Rattle.std.proofs.lemmas.Bool.{cases_Bool}
use Rattle.vab_super_image.specs.declared.image.SuperImage.{SuperImage}
use Rattle.vab_super_image.specs.SuperImage.{super_image_of, first_filled}
use Rattle.vab_model.specs.declared.state.Phase.{Phase}
use Rattle.vab_model.specs.declared.state.Phase.TheVariants.{Idle, Installing, Staged, Merging}
use Rattle.vab_model.specs.declared.command.Refusal.{Refusal}
use Rattle.vab_model.specs.declared.command.Refusal.TheVariants as refusals
use Rattle.vab_model.specs.declared.command.Reply.TheVariants as replies
use Rattle.vab_model.specs.Effects.{Effect, refuses, does, wanting, effect_map, unless_refused}
use Rattle.vab_model.specs.Staged.{is_sparse}
use Rattle.vab_model.specs.Wipe.{Judge, filled_refusal, if_passing, judged_effect, staged_effect}
use Rattle.vab_model.specs.Wipe.{wipe_effect}

-- ---- a map of the states

passing_map : {S T : Type 0} (f : S → T) (a b c : Option Refusal) (x : S)
    → if_passing a (if_passing b (if_passing c (does replies.Done (f x))))
    ≡ effect_map f (if_passing a (if_passing b (if_passing c (does replies.Done x))))
passing_map f None None None x = refl
passing_map f None None (Some r) x = refl
passing_map f None (Some r) c x = refl
passing_map f (Some r) b c x = refl

judged_map : {S T : Type 0} (f : S → T) (before behind : Judge) (next : SuperImage → S)
    (o : Option SuperImage)
    → judged_effect before behind (λ i. f (next i)) o
    ≡ effect_map f (judged_effect before behind next o)
judged_map f before behind next None = refl
judged_map f before behind next (Some i) =
    passing_map f (before i) (filled_refusal (first_filled i.table.partitions)) (behind i) (next i)

staged_map : {S T : Type 0} (f : S → T) (before behind : Judge) (next : SuperImage → S)
    (slot : ℕ) (staged : Option (List ℕ))
    → staged_effect before behind (λ i. f (next i)) slot staged
    ≡ effect_map f (staged_effect before behind next slot staged)
staged_map f before behind next slot None = refl
staged_map f before behind next slot (Some bytes) = elim (cases_Bool (is_sparse bytes)) [
  | inl sparse ↦ rw sparse refl
  | inr not ↦
      rw not
      (ap (wanting true) (judged_map f before behind next (super_image_of slot bytes)))
]

-- The row of what is made of the image is that of the image, with it made of that.
pub wipe_map : {S T : Type 0} (f : S → T) (before behind : Judge) (next : SuperImage → S)
    (slot : ℕ) (staged : Option (List ℕ)) (phase : Phase)
    → wipe_effect before behind (λ i. f (next i)) slot staged phase
    ≡ effect_map f (wipe_effect before behind next slot staged phase)
wipe_map f before behind next slot staged Idle = staged_map f before behind next slot staged
wipe_map f before behind next slot staged (Installing source plan) = refl
wipe_map f before behind next slot staged (Staged source left) = refl
wipe_map f before behind next slot staged (Merging target left) = refl

-- so it is where memory is refused
pub refused_map : {S T : Type 0} (f : S → T) (refused : Bool) (e : Effect S)
    → unless_refused refused (effect_map f e) ≡ effect_map f (unless_refused refused e)
refused_map f false e = refl
refused_map f true e = elim (cases_Bool e.wants) [
  | inl wants ↦ rw wants refl
  | inr not ↦ rw not refl
]

-- ---- while there is an update

abbrev pub IsBusy : Phase → Type 0
IsBusy Idle = ⊥
IsBusy (Installing source plan) = Unit {0}
IsBusy (Staged source left) = Unit {0}
IsBusy (Merging target left) = Unit {0}

pub busy_refuses : {S : Type 0} (before behind : Judge) (next : SuperImage → S) (slot : ℕ)
    (staged : Option (List ℕ)) (phase : Phase)
    → IsBusy phase
    → wipe_effect before behind next slot staged phase ≡ refuses refusals.NotIdle
busy_refuses before behind next slot staged Idle busy = absurd busy
busy_refuses before behind next slot staged (Installing source plan) busy = refl
busy_refuses before behind next slot staged (Staged source left) busy = refl
busy_refuses before behind next slot staged (Merging target left) busy = refl
