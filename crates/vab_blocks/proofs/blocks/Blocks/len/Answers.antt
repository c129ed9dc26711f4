use Rattle.std.proofs.Common.{◌≡◌, ◌+◌, ℕ, get_or, length, take, arith, ap, sym, ◌∙◌, subst, ◌<◌}
use Rattle.std.proofs.Common.{◌≤◌, List}
use Rattle.std.proofs.lemmas.List.{take_all}
use Rattle.vab_blocks.specs.Runs.{blocks_of_runs, runs_of}
use Rattle.vab_blocks.proofs.Pieces.{length_before, length_front}
use Rattle.vab_blocks.proofs.RunLaws.{runs_again}
use Rattle.vab_blocks.proofs.blocks.Blocks.len.Goals as goal

step : (xs : List ℕ) (items : List (ℕ × ℕ)) (i count : ℕ)
    → items ≡ runs_of xs
    → i < length items
    → count ≡ length (blocks_of_runs (take i (runs_of xs)))
    → count + (get_or items i (0, 0)).1 ≡ length (blocks_of_runs (take (i + 1) (runs_of xs)))
step xs items i count is lt so =
    let there : i < length (runs_of xs) = subst (λ (l : List (ℕ × ℕ)). i < length l) is lt in
    let same = ap (λ (l : List (ℕ × ℕ)). (get_or l i (0, 0)).1) is in
    omega (arith, so, same, length_before (runs_of xs) i (0, 0) there)

pub overflow_add-count : goal.overflow_add-count
overflow_add-count c =
    let xs = c.args.self.now in
    let i = c.loop-run.run-index in
    let whole = ap length (runs_again xs) in
    omega (
      arith,
      step xs c.runs-run-items.result.now i c.loop-run.count c.runs-run-items.ensures.value
          c.loop-run-test.true c.loop-run.invariant,
      length_front (runs_of xs) (i + 1),
      whole,
      c.requires,
    )

pub loop-run-preserved : goal.loop-run-preserved
loop-run-preserved c =
    step c.args.self.now c.runs-run-items.result.now c.loop-run.run-index c.loop-run.count
    c.runs-run-items.ensures.value c.loop-run-test.true c.loop-run.invariant

ended : (xs : List ℕ) (items : List (ℕ × ℕ)) (i count : ℕ)
    → items ≡ runs_of xs
    → length items ≤ i
    → count ≡ length (blocks_of_runs (take i (runs_of xs)))
    → count ≡ length xs
ended xs items i count is le so =
    let done : length (runs_of xs) ≤ i = subst (λ (l : List (ℕ × ℕ)). length l ≤ i) is le in
    so ∙ ap (λ (l : List (ℕ × ℕ)). length (blocks_of_runs l)) (take_all i (runs_of xs) done)
    ∙ ap length (runs_again xs)

pub returns : goal.returns
returns c =
    ended c.args.self.now c.runs-run-items.result.now c.loop-run.run-index c.loop-run.count
    c.runs-run-items.ensures.value c.loop-run-test.false c.loop-run.invariant
