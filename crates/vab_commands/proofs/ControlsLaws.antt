-- Which boot controls commands leave, one behind the other.
use Rattle.std.proofs.Common.{◌≡◌, ◌∙◌, ℕ, List, [], ◌∷◌, ◌++◌, Ok, refl, sym, ap}
use Rattle.std.specs.Prelude.{Bool, true, false, if◌then◌else◌}
use Rattle.vab_bootctl.specs.declared.slots.Control.{Control}
use Rattle.vab_bootctl.specs.Control.{KeepsRest}
use Rattle.vab_commands.specs.Controls.{Step, control_at, controls_by, AreOf, IsOfControls}

-- ---- lists of commands

pub controls_append : (xs ys : List Step) (c : Control)
    → controls_by (xs ++ ys) c ≡ controls_by ys (controls_by xs c)
controls_append [] ys c = refl
controls_append (x ∷ xs) ys c = controls_append xs ys (control_at x c)

of_append : (Of : ℕ → Type 0) (xs ys : List Step) → AreOf Of xs → AreOf Of ys → AreOf Of (xs ++ ys)
of_append Of [] ys first second = second
of_append Of (x ∷ xs) ys first second = (first.0, of_append Of xs ys first.1 second)

of_wider : (Of Wider : ℕ → Type 0) (xs : List Step)
    → ((slot : ℕ) → Of slot → Wider slot)
    → AreOf Of xs
    → AreOf Wider xs
of_wider Of Wider [] wider is = tt
of_wider Of Wider (x ∷ xs) wider is = (wider x.source is.0, of_wider Of Wider xs wider is.1)

-- what is of such slots is of all that hold these
pub controls_wider : (Of Wider : ℕ → Type 0) (c : Control) (old : List ℕ) (s : ℕ)
    (bytes : List ℕ)
    → ((slot : ℕ) → Of slot → Wider slot)
    → IsOfControls Of c old s bytes
    → IsOfControls Wider c old s bytes
controls_wider Of Wider c old s bytes wider is = record {
  steps = is.steps;
  of = of_wider Of Wider is.steps wider is.of;
  writes = is.writes;
}

-- ---- the other bits of the sector

-- what keeps the rest of what keeps the rest keeps it
pub rest_on : (old mid new : List ℕ) → KeepsRest old mid → KeepsRest mid new → KeepsRest old new
rest_on old mid new first second = record {
  bits = second.bits ∙ first.bits;
  bytes = λ k from not_a not_b where_.
      second.bytes k from not_a not_b where_ ∙ first.bytes k from not_a not_b where_;
}

pub rest_same : (old : List ℕ) → KeepsRest old old
rest_same old = record { bits = refl; bytes = λ k from not_a not_b where_. refl }

pub chosen : (t : Bool) (x y : Control) → t ≡ true → (if t then x else y) ≡ x
chosen true x y is = refl
chosen false x y is = absurd (let no : false ≡ true = is in cc)

-- ---- commands behind others

-- What commands left: a boot control, and bytes that keep the rest of the first ones.
pub record Reached
    (Of : ℕ → Type 0)
    (first : Control)
    (old : List ℕ)
    (c : Control)
    (mid : List ℕ) : Type 0 where
  pub steps : List Step
  pub of : AreOf Of steps
  pub control : c ≡ controls_by steps first
  pub rest : KeepsRest old mid

-- what commands write behind others
pub writes_behind : (Of : ℕ → Type 0) (first c : Control) (old mid : List ℕ) (s : ℕ)
    (bytes : List ℕ)
    → Reached Of first old c mid
    → IsOfControls Of c mid s bytes
    → IsOfControls Of first old s bytes
writes_behind Of first c old mid s bytes reached is =
    let whole : controls_by is.steps c ≡ controls_by (reached.steps ++ is.steps) first =
    ap (controls_by is.steps) reached.control
    ∙ sym (controls_append reached.steps is.steps first) in
    record {
      steps = reached.steps ++ is.steps;
      of = of_append Of reached.steps is.steps reached.of is.of;
      writes = record {
        at = is.writes.at;
        control = is.writes.control ∙ ap Ok whole;
        rest = rest_on old mid bytes reached.rest is.writes.rest;
      };
    }
