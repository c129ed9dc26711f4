use Rattle.std.proofs.Common.{◌≡◌, ◌+◌, ◌<◌, ◌≤◌, ◌++◌, ℕ, List, get_or, length, take}
use Rattle.std.proofs.Common.{ap, sym, subst, append_assoc, ◌∙◌}
use Rattle.std.specs.List.{range_with_len}
use Rattle.std.proofs.lemmas.List.{take_all}
use Rattle.vab_blocks.specs.Runs.{blocks_of_runs, runs_of}
use Rattle.vab_blocks.proofs.Pieces.{blocks_before}
use Rattle.vab_blocks.proofs.RunLaws.{runs_again}
use Rattle.vab_blocks.proofs.blocks.Blocks.append.Goals as goal

step : (old xs so new : List ℕ) (items : List (ℕ × ℕ)) (i : ℕ)
    → items ≡ runs_of xs
    → i < length items
    → so ≡ old ++ blocks_of_runs (take i (runs_of xs))
    → new ≡ so ++ range_with_len (get_or items i (0, 0)).0 (get_or items i (0, 0)).1
    → new ≡ old ++ blocks_of_runs (take (i + 1) (runs_of xs))
step old xs so new items i is lt e pushed =
    let there : i < length (runs_of xs) = subst (λ (l : List (ℕ × ℕ)). i < length l) is lt in
    let piece : List (ℕ × ℕ) → List ℕ = λ l.
    range_with_len (get_or l i (0, 0)).0 (get_or l i (0, 0)).1 in
    pushed ∙ ap (λ (l : List (ℕ × ℕ)). so ++ piece l) is
    ∙ ap (λ (l : List ℕ). l ++ piece (runs_of xs)) e
    ∙ append_assoc old (blocks_of_runs (take i (runs_of xs))) (piece (runs_of xs))
    ∙ ap (λ (l : List ℕ). old ++ l) (sym (blocks_before (runs_of xs) i (0, 0) there))

pub loop-run-preserved : goal.loop-run-preserved
loop-run-preserved c =
    step c.args.self.now c.args.other.now c.loop-run.self c.push_run.new.self
    c.runs-run-items.result.now c.loop-run.run-index c.runs-run-items.ensures.value
    c.loop-run-test.true c.loop-run.invariant c.in_ok-push_run.ensures.ok

ended : (old xs so : List ℕ) (items : List (ℕ × ℕ)) (i : ℕ)
    → items ≡ runs_of xs
    → length items ≤ i
    → so ≡ old ++ blocks_of_runs (take i (runs_of xs))
    → so ≡ old ++ xs
ended old xs so items i is le e =
    let done : length (runs_of xs) ≤ i = subst (λ (l : List (ℕ × ℕ)). length l ≤ i) is le in
    e ∙ ap (λ (l : List (ℕ × ℕ)). old ++ blocks_of_runs l) (take_all i (runs_of xs) done)
    ∙ ap (λ (l : List ℕ). old ++ l) (runs_again xs)

pub returns : goal.returns
returns c =
    ended c.args.self.now c.args.other.now c.loop-run.self c.runs-run-items.result.now
    c.loop-run.run-index c.runs-run-items.ensures.value c.loop-run-test.false c.loop-run.invariant
