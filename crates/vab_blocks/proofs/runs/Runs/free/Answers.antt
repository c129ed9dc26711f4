use Rattle.std.proofs.Common.{◌≡◌, ◌+◌, ◌-◌, ◌<◌, ◌≤◌, ◌++◌, ℕ, List, get_or, length, ap, sym}
use Rattle.std.proofs.Common.{subst, ◌∙◌, arith}
use Rattle.std.specs.List.{range_with_len}
use Rattle.std.specs.List.Sorted.{IsStrictlyIncreasing}
use Rattle.std.proofs.lemmas.List.{get_or_default}
use Rattle.vab_blocks.specs.Runs.{runs_of, IsAscending}
use Rattle.vab_blocks.proofs.BlockLaws.{free_ascends}
use Rattle.vab_blocks.proofs.Gaps.{free_is_ascending, last_gap, next_gap, no_gaps}
use Rattle.vab_blocks.proofs.runs.Runs.free.Goals as goal

pub loop-run-init : goal.loop-run-init
loop-run-init c = no_gaps c.args.cap c.args.taken.now c.new-blocks.result c.new-blocks.ensures

pub loop-run-preserved : goal.loop-run-preserved
loop-run-preserved c =
    let items = c.runs-run-items.result.now in
    let taken = c.args.taken.now in
    let i = c.loop-run.run-index in
    let run : ℕ × ℕ = get_or items i (0, 0) in
    let is = c.runs-run-items.ensures.value in
    let there = subst (λ (l : List (ℕ × ℕ)). i < length l) is c.loop-run-test.true in
    let at : run ≡ get_or (runs_of taken) i run =
    get_or_default items i (0, 0) run c.loop-run-test.true
    ∙ ap (λ (l : List (ℕ × ℕ)). get_or l i run) is in
    let gap = λ (k : ℕ). c.loop-run.blocks ++ range_with_len c.loop-run.at (k - c.loop-run.at) in
    next_gap c.args.cap taken i c.loop-run.blocks c.push_gap.new.blocks c.loop-run.at run
    c.runs-run-items.ensures.ascends c.loop-run.invariant there at
    (c.in_ok-push_gap.ensures ∙ ap gap c.min.ensures)

pub returns-clause-value : goal.returns-clause-value
returns-clause-value c =
    let i = c.loop-run.run-index in
    let is = c.runs-run-items.ensures.value in
    let done = subst (λ (l : List (ℕ × ℕ)). length l ≤ i) is c.loop-run-test.false in
    last_gap c.args.cap c.args.taken.now i c.loop-run.blocks _ c.loop-run.at c.loop-run.invariant
    done c.in_ok-push_gap-2.ensures

pub invariant_of-result : goal.invariant_of-result
invariant_of-result c =
    subst IsAscending (sym (returns-clause-value c))
    (free_is_ascending c.args.cap c.args.taken.now (omega arith))

pub returns-clause-ascends : goal.returns-clause-ascends
returns-clause-ascends c =
    subst IsStrictlyIncreasing (sym (returns-clause-value c))
    (free_ascends c.args.cap c.args.taken.now)
