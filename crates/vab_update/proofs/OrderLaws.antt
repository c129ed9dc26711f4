-- Effects of commands that follow one another.
use Rattle.std.proofs.Common.{◌≡◌, ◌∙◌, inl, inr, List, [], ◌∷◌, ◌++◌, refl, sym, ap, subst}
use Rattle.std.proofs.Common.{append_assoc}
use Rattle.std.specs.Prelude.{true, false}
use Rattle.std.proofs.lemmas.Bool.{cases_Bool}
use Rattle.vab_model.specs.declared.command.Reply.TheVariants as replies
use Rattle.vab_model.specs.Effects.{Effect, answers, last_of, steps_of, after_of, IsOneOf}
use Rattle.vab_device.specs.Mounted.{Mounted}
use Rattle.vab_update.specs.Orders.{Order, is_refused, effect_one, followed, effect_all}

-- ---- lists of devices

pub last_append : {S : Type 0} (s : S) (xs ys : List S)
    → last_of s (xs ++ ys) ≡ last_of (last_of s xs) ys
last_append s [] ys = refl
last_append s (x ∷ xs) ys = last_append x xs ys

pub one_before : {S : Type 0} (xs ys : List S) (x : S) → IsOneOf xs x → IsOneOf (xs ++ ys) x
one_before [] ys x is = absurd is
one_before (y ∷ xs) ys x (inl here) = inl here
one_before (y ∷ xs) ys x (inr there) = inr (one_before xs ys x there)

pub one_behind : {S : Type 0} (xs ys : List S) (x : S) → IsOneOf ys x → IsOneOf (xs ++ ys) x
one_behind [] ys x is = is
one_behind (y ∷ xs) ys x is = inr (one_behind xs ys x is)

-- the last of some steps is one of them
pub last_step : {S : Type 0} (s : S) (later : List S) → IsOneOf (s ∷ later) (last_of s later)
last_step s [] = inl refl
last_step s (x ∷ xs) = inr (last_step x xs)

-- ---- an effect and the rest

-- what follows a command that isn't refused
abbrev pub joined : Effect Mounted → Effect Mounted → Effect Mounted
joined e rest =
    record { reply = rest.reply; later = e.later ++ rest.later; wants = rest.wants }

pub followed_refused : (e rest : Effect Mounted) → is_refused e.reply ≡ true → followed e rest ≡ e
followed_refused e rest is = rw is refl

pub followed_done : (e rest : Effect Mounted)
    → is_refused e.reply ≡ false
    → followed e rest ≡ joined e rest
followed_done e rest is = rw is refl

-- a step of the one is a step of both
pub step_first : (m : Mounted) (e rest : Effect Mounted) (x : Mounted)
    → IsOneOf (steps_of m e) x
    → IsOneOf (steps_of m (followed e rest)) x
step_first m e rest x is = elim (cases_Bool (is_refused e.reply)) [
  | inl refused ↦
      subst (λ (f : Effect Mounted). IsOneOf (steps_of m f) x)
      (sym (followed_refused e rest refused)) is
  | inr done ↦
      subst (λ (f : Effect Mounted). IsOneOf (steps_of m f) x)
      (sym (followed_done e rest done))
      (one_before (m ∷ e.later) rest.later x is)
]

-- and so is a step of the other
pub step_second : (m : Mounted) (e rest : Effect Mounted) (x : Mounted)
    → is_refused e.reply ≡ false
    → IsOneOf (steps_of (after_of m e) rest) x
    → IsOneOf (steps_of m (followed e rest)) x
step_second m e rest x done (inl here) =
    subst (λ (f : Effect Mounted). IsOneOf (steps_of m f) x)
    (sym (followed_done e rest done))
    (one_before (m ∷ e.later) rest.later x
    (subst (λ (y : Mounted). IsOneOf (m ∷ e.later) y) (sym here) (last_step m e.later)))
step_second m e rest x done (inr there) =
    subst (λ (f : Effect Mounted). IsOneOf (steps_of m f) x)
    (sym (followed_done e rest done))
    (one_behind (m ∷ e.later) rest.later x there)

pub after_second : (m : Mounted) (e rest : Effect Mounted)
    → is_refused e.reply ≡ false
    → after_of m (followed e rest) ≡ after_of (after_of m e) rest
after_second m e rest done =
    ap (λ (f : Effect Mounted). after_of m f) (followed_done e rest done)
    ∙ last_append m e.later rest.later

-- ---- all of them

-- one behind another, whether it is refused or not
followed_twice : (e f rest : Effect Mounted)
    → followed e (followed f rest) ≡ followed (followed e f) rest
followed_twice e f rest = elim (cases_Bool (is_refused e.reply)) [
  | inl refused ↦
      followed_refused e (followed f rest) refused
      ∙ sym (ap (λ (x : Effect Mounted). followed x rest) (followed_refused e f refused)
      ∙ followed_refused e rest refused)
  | inr done ↦
      elim (cases_Bool (is_refused f.reply)) [
        | inl refused ↦
            ap (λ (x : Effect Mounted). followed e x) (followed_refused f rest refused)
            ∙ followed_done e f done
            ∙ sym (followed_refused (joined e f) rest refused)
            ∙ ap (λ (x : Effect Mounted). followed x rest) (sym (followed_done e f done))
        | inr well ↦
            ap (λ (x : Effect Mounted). followed e x) (followed_done f rest well)
            ∙ followed_done e (joined f rest) done
            ∙ ap
            (λ (l : List Mounted).
            (let x : Effect Mounted =
            record { reply = rest.reply; later = l; wants = rest.wants } in x))
            (sym (append_assoc e.later f.later rest.later))
            ∙ sym (followed_done (joined e f) rest well)
            ∙ ap (λ (x : Effect Mounted). followed x rest) (sym (followed_done e f done))
      ]
]

-- the device after the first of two that are carried out
after_followed : (m : Mounted) (e f : Effect Mounted) (rest : Mounted → Effect Mounted)
    → followed (followed e f) (rest (after_of (after_of m e) f))
    ≡ followed (followed e f) (rest (after_of m (followed e f)))
after_followed m e f rest = elim (cases_Bool (is_refused e.reply)) [
  | inl refused ↦
      ap (λ (x : Effect Mounted). followed x (rest (after_of (after_of m e) f)))
      (followed_refused e f refused)
      ∙ followed_refused e _ refused
      ∙ sym (followed_refused e (rest (after_of m (followed e f))) refused)
      ∙ ap (λ (x : Effect Mounted). followed x (rest (after_of m (followed e f))))
      (sym (followed_refused e f refused))
  | inr done ↦
      ap (λ (x : Mounted). followed (followed e f) (rest x)) (sym (after_second m e f done))
]

-- What some commands and others behind them make of a device.
pub effect_append : (xs ys : List Order) (m : Mounted)
    → effect_all (xs ++ ys) m
    ≡ followed (effect_all xs m) (effect_all ys (after_of m (effect_all xs m)))
unfolding effect_all
effect_append [] ys m = refl
effect_append (o ∷ os) ys m =
    let e : Effect Mounted = effect_one o m in
    let n : Mounted = after_of m e in
    let f : Effect Mounted = effect_all os n in
    ap (λ (x : Effect Mounted). followed e x) (effect_append os ys n)
    ∙ followed_twice e f (effect_all ys (after_of n f))
    ∙ after_followed m e f (λ x. effect_all ys x)

-- one alone
pub effect_single : (o : Order) (m : Mounted)
    → effect_all (o ∷ []) m ≡ followed (effect_one o m) (answers replies.Done)
unfolding effect_all
effect_single o m = refl
