-- The devices after the turns of a merge.
use Rattle.std.proofs.Common.{◌≡◌, ◌∙◌, ◌⊎◌, inl, inr, ℕ, zero, suc, ◌-◌, ◌≤◌, ◌<◌, [], ◌∷◌}
use Rattle.std.proofs.Common.{refl, sym, ap, subst, arith}
use Rattle.std.proofs.lemmas.Bool.{cases_lt, le-leb, lt-leb}
use Rattle.vab_model.specs.declared.command.Reply.TheVariants as replies
use Rattle.vab_model.specs.declared.state.Phase.TheVariants.{Idle, Merging}
use Rattle.vab_model.specs.Effects.{last_of, after_of, IsOneOf}
use Rattle.vab_model.specs.Machine.{merge_reply}
use Rattle.vab_model.specs.Machine.{turns as turns_of}
use Rattle.vab_device.specs.Mounted.{Mounted}
use Rattle.vab_device.specs.Updates.{merged_to, merge_ended, merge_effect, turns}

-- a device that is merged with so many left
pub merged_self : (m : Mounted) (slot left : ℕ)
    → m.state.phase ≡ Merging slot left
    → m ≡ merged_to m slot left
merged_self m slot left is = (λ i. record m { state = record m.state { phase = is i } })

-- the last of the turns, where there are exceptions for each
pub last_left : (blocks : ℕ) (m x : Mounted) (slot left : ℕ)
    → blocks ≤ left
    → x ≡ merged_to m slot left
    → last_of x (turns blocks m slot left) ≡ merged_to m slot (left - blocks)
unfolding turns_of
last_left zero m x slot left below is =
    is ∙ (let none : left ≡ left - 0 = omega arith in ap (merged_to m slot) none)
last_left (suc n) m x slot zero below is = absurd (omega (arith, below))
last_left (suc n) m x slot (suc left) below is =
    let less : left - n ≡ suc left - suc n = omega arith in
    last_left n m (merged_to m slot left) slot left (omega (arith, below)) refl
    ∙ ap (merged_to m slot) less

-- and where there are fewer
pub last_ended : (blocks : ℕ) (m x : Mounted) (slot left : ℕ)
    → left < blocks
    → last_of x (turns blocks m slot left) ≡ merge_ended m
unfolding turns_of
last_ended zero m x slot left below = absurd (omega (arith, below))
last_ended (suc n) m x slot zero below = refl
last_ended (suc n) m x slot (suc left) below =
    last_ended n m (merged_to m slot left) slot left (omega (arith, below))

-- the device after some of the turns is one of their steps
pub step_left : (made blocks : ℕ) (m x : Mounted) (slot left : ℕ)
    → made ≤ blocks
    → made ≤ left
    → x ≡ merged_to m slot left
    → IsOneOf (x ∷ turns blocks m slot left) (merged_to m slot (left - made))
unfolding turns_of
step_left zero blocks m x slot left some within is =
    inl ((let none : left - 0 ≡ left = omega arith in ap (merged_to m slot) none) ∙ sym is)
step_left (suc k) zero m x slot left some within is = absurd (omega (arith, some))
step_left (suc k) (suc n) m x slot zero some within is = absurd (omega (arith, within))
step_left (suc k) (suc n) m x slot (suc left) some within is =
    let less : left - k ≡ suc left - suc k = omega arith in
    inr
    (subst
    (λ (j : ℕ).
    IsOneOf (merged_to m slot left ∷ turns n m slot left) (merged_to m slot j))
    less
    (step_left k n m (merged_to m slot left) slot left (omega (arith, some))
    (omega (arith, within)) refl))

-- and so is the one behind the last
pub step_ended : (blocks : ℕ) (m x : Mounted) (slot left : ℕ)
    → left < blocks
    → IsOneOf (x ∷ turns blocks m slot left) (merge_ended m)
unfolding turns_of
step_ended zero m x slot left below = absurd (omega (arith, below))
step_ended (suc n) m x slot zero below = inr (inl refl)
step_ended (suc n) m x slot (suc left) below =
    inr (step_ended n m (merged_to m slot left) slot left (omega (arith, below)))

-- a turn that is asked for has a device behind it
pub turns_none : (blocks : ℕ) (m : Mounted) (slot left : ℕ)
    → turns blocks m slot left ≡ []
    → blocks ≡ 0
unfolding turns_of
turns_none zero m slot left none = refl
turns_none (suc n) m slot zero none =
    let no : merge_ended m ∷ [] ≡ [] = none in absurd cc
turns_none (suc n) m slot (suc left) none =
    let no : merged_to m slot left ∷ turns n m slot left ≡ [] = none in absurd cc

-- ---- the reply

pub reply_left : (blocks left : ℕ)
    → blocks ≤ left
    → merge_reply blocks left ≡ replies.Left (left - blocks)
reply_left blocks left below = rw (le-leb blocks left below) refl

pub reply_merged : (blocks left : ℕ) → left < blocks → merge_reply blocks left ≡ replies.Merged
reply_merged blocks left below = rw (lt-leb blocks left below) refl

-- What a merge answers is what it leaves: the update is merged, and there is none any more, or so
-- many exceptions are left.
pub merge_leaves : (m : Mounted) (blocks slot left : ℕ)
    → m.state.phase ≡ Merging slot left
    → ((merge_reply blocks left ≡ replies.Merged)
    × ((after_of m (merge_effect m blocks (Merging slot left))).state.phase ≡ Idle))
    ⊎ ((k : ℕ)
    × (merge_reply blocks left ≡ replies.Left k)
    × ((after_of m (merge_effect m blocks (Merging slot left))).state.phase ≡ Merging slot k))
merge_leaves m blocks slot left is = elim (cases_lt left blocks) [
  | inl more ↦
      inl (
        reply_merged blocks left more,
        ap (λ (x : Mounted). x.state.phase) (last_ended blocks m m slot left more),
      )
  | inr below ↦
      inr (
        left - blocks,
        reply_left blocks left below,
        ap (λ (x : Mounted). x.state.phase)
            (last_left blocks m m slot left below (merged_self m slot left is)),
      )
]
