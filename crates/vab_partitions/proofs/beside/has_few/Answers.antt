use Rattle.std.proofs.Common.{◌≡◌, ◌+◌, ◌<◌, ◌≤◌, ℕ, List, length, ap, arith, sym, ◌∙◌}
use Rattle.std.proofs.lemmas.Bool.{lt-leb, le-leb}
use Rattle.std.proofs.lemmas.List.{take_all}
use Rattle.vab_blocks.specs.Runs.{blocks_of_runs, runs_of}
use Rattle.vab_blocks.proofs.RunLaws.{runs_again}
use Rattle.vab_partitions.proofs.PartCases.{runs_more, runs_front}
use Rattle.vab_partitions.proofs.beside.has_few.Goals as goal

-- runs of blocks have as many
whole : (runs : List (ℕ × ℕ)) (blocks : List ℕ)
    → runs ≡ runs_of blocks
    → length (blocks_of_runs runs) ≡ length blocks
whole runs blocks is = ap (λ (r : List (ℕ × ℕ)). length (blocks_of_runs r)) is
    ∙ ap length (runs_again blocks)

pub returns-then-run-count : goal.returns-then-run-count
returns-then-run-count c =
    let runs = c.runs-run-items.result.now in
    let i = c.loop-run.run-index in
    let lt : i < length runs = omega arith in
    let more = runs_more runs i (0, 0) lt in
    let front = runs_front runs (i + 1) in
    let all = whole runs c.args.blocks.now c.runs-run-items.ensures.value in
    sym (lt-leb _ _ (omega (arith, more, front, all, c.loop-run.invariant, c.if-run-count.true)))

pub loop-run-preserved : goal.loop-run-preserved
loop-run-preserved c =
    let runs = c.runs-run-items.result.now in
    let i = c.loop-run.run-index in
    let lt : i < length runs = omega arith in
    let more = runs_more runs i (0, 0) lt in (
      omega (arith, more, c.loop-run.invariant),
      omega (arith, c.loop-run.invariant, c.if-run-count.false),
    )

pub returns : goal.returns
returns c =
    let runs = c.runs-run-items.result.now in
    let i = c.loop-run.run-index in
    let done : length runs ≤ i = omega arith in
    let all = whole runs c.args.blocks.now c.runs-run-items.ensures.value in
    let taken = ap (λ (r : List (ℕ × ℕ)). length (blocks_of_runs r)) (take_all i runs done) in
    sym (le-leb _ _ (omega (arith, all, taken, c.loop-run.invariant)))
