-- What the twins of an update's partitions keep of the source.
use Rattle.std.proofs.Common.{ℕ, Bool, true, false, List, sym, subst, refl, inl, inr}
use Rattle.std.specs.Prelude.{Contains}
use Rattle.vab_layout.specs.declared.layout.Part.{Part}
use Rattle.vab_layout.specs.Slots.{twins_by, IsOwn}
use Rattle.vab_layout.proofs.ApartLaws.{apart_own}
use Rattle.vab_blocks.proofs.Contained.{none_in_nil}
use Rattle.vab_builder.specs.Update.{AreTwins}

pub twins_are : (apart : Bool) (source : List Part) → AreTwins (twins_by apart source) source
twins_are true source = inr refl
twins_are false source = inl refl

pub twins_in : (twins source : List Part) (p : Part)
    → AreTwins twins source
    → Contains twins p
    → Contains source p
twins_in twins source p are c = elim are [
  | inl all ↦ subst (λ (l : List Part). Contains l p) all c
  | inr none ↦ absurd (none_in_nil p (subst (λ (l : List Part). Contains l p) none c))
]

pub twins_own : (slot : ℕ) (twins source : List Part)
    → AreTwins twins source
    → IsOwn slot source
    → IsOwn slot twins
twins_own slot twins source are own = elim are [
  | inl all ↦ subst (IsOwn slot) (sym all) own
  | inr none ↦ subst (IsOwn slot) (sym none) (apart_own slot true source own)
]
