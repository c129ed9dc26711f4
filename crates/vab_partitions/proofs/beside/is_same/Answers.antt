use Rattle.std.proofs.Common.{◌≡◌, ℕ, ◌&&◌, eqb, sym, ap, ◌∙◌}
use Rattle.std.specs.Bool.{Decides}
use Rattle.std.proofs.lemmas.Bool.{and_parts, and_from, eqb-true, eq-eqb}
use Rattle.std.proofs.lemmas.Slice.Eq.{slice_eq-Decides}
use Rattle.vab_blocks.specs.Runs.{blocks_of_runs, runs_of}
use Rattle.vab_blocks.proofs.RunLaws.{runs_again}
use Rattle.vab_partitions.proofs.beside.is_same.Goals as goal

pair_is : (a b : ℕ × ℕ) → a.0 ≡ b.0 → a.1 ≡ b.1 → a ≡ b
pair_is a b e f = ap (λ (x : ℕ). let p : ℕ × ℕ = (x, a.1) in p) e
    ∙ ap (λ (y : ℕ). let p : ℕ × ℕ = (b.0, y) in p) f

pair_decides : (a b : ℕ × ℕ) → Decides (eqb a.0 b.0 && eqb a.1 b.1) (a ≡ b)
pair_decides a b = (
  λ t.
      let both = and_parts (eqb a.0 b.0) (eqb a.1 b.1) t in
      pair_is a b (eqb-true a.0 b.0 both.0) (eqb-true a.1 b.1 both.1),
  λ e. and_from _ _ (eq-eqb a.0 b.0 (ap (λ (p : ℕ × ℕ). p.0) e))
      (eq-eqb a.1 b.1 (ap (λ (p : ℕ × ℕ). p.1) e)),
)

pub returns : goal.returns
returns c =
    let a = c.args.a.now in
    let b = c.args.b.now in
    let decides = slice_eq-Decides pair_decides _ _ _ c.eq.ensures in (
      λ told. sym (runs_again a)
          ∙ ap blocks_of_runs (sym c.runs.ensures.value ∙ decides.0 told ∙ c.runs-2.ensures.value)
          ∙ runs_again b,
      λ same. decides.1 (c.runs.ensures.value ∙ ap runs_of same ∙ sym c.runs-2.ensures.value),
    )
