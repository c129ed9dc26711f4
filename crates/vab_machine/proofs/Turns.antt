-- The last of the states of a merge's turns.
use Rattle.std.proofs.Common.{◌≡◌, ℕ, zero, suc, ◌-◌, ◌<◌, ◌≤◌, refl, ap, ◌∙◌, arith}
use Rattle.vab_model.specs.declared.state.Phase.TheVariants.{Idle, Merging}
use Rattle.vab_model.specs.declared.state.State.{State}
use Rattle.vab_model.specs.Effects.{last_of}
use Rattle.vab_model.specs.Machine.{turns}

-- where an exception is left for each turn
pub turns_some : (s x : State) (n target left : ℕ)
    → n ≤ left
    → x ≡ record s { phase = Merging target left }
    → last_of x (turns n s target left) ≡ record s { phase = Merging target (left - n) }
unfolding turns
turns_some s x zero target left le is =
    is
    ∙ (let none : left ≡ left - 0 = omega arith in
    ap (λ (k : ℕ). record s { phase = Merging target k }) none)
turns_some s x (suc n) target zero le is = absurd (omega (arith, le))
turns_some s x (suc n) target (suc left) le is =
    let less : left - n ≡ suc left - suc n = omega arith in
    turns_some s (record s { phase = Merging target left }) n target left (omega (arith, le)) refl
    ∙ ap (λ (k : ℕ). record s { phase = Merging target k }) less

-- where there are more turns
pub turns_all : (s x : State) (n target left : ℕ)
    → left < n
    → last_of x (turns n s target left) ≡ record s { phase = Idle }
unfolding turns
turns_all s x zero target left lt = absurd (omega (arith, lt))
turns_all s x (suc n) target zero lt = refl
turns_all s x (suc n) target (suc left) lt =
    turns_all s (record s { phase = Merging target left }) n target left (omega (arith, lt))
