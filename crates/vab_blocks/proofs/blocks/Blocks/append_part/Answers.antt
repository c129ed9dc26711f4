use Rattle.std.proofs.Common.{◌≡◌, ◌+◌, ◌-◌, ◌<◌, ◌≤◌, ◌++◌, ℕ, List, get_or, length, take}
use Rattle.std.proofs.Common.{drop, ap, refl, sym, subst, ◌∙◌}
use Rattle.std.specs.Prelude.{min}
use Rattle.std.specs.List.{range_with_len}
use Rattle.std.proofs.lemmas.List.{get_or_default}
use Rattle.vab_blocks.specs.Runs.{blocks_of_runs, runs_of}
use Rattle.vab_blocks.proofs.Pieces.{part_more, part_done}
use Rattle.vab_blocks.proofs.RunLaws.{runs_again}
use Rattle.vab_blocks.proofs.blocks.Blocks.append_part.Goals as goal

pub loop-run-init : goal.loop-run-init
loop-run-init c =
    let part = λ (l : List ℕ). c.args.self.now ++ take c.args.count (drop c.args.skip l) in
    ap part (runs_again c.args.other.now)

step : (xs new old whole : List ℕ) (items : List (ℕ × ℕ)) (i s n p t : ℕ)
    → items ≡ runs_of xs
    → i < length items
    → p ≡ min s (get_or items i (0, 0)).1
    → t ≡ min n ((get_or items i (0, 0)).1 - p)
    → new ≡ old ++ range_with_len ((get_or items i (0, 0)).0 + p) t
    → old ++ take n (drop s (blocks_of_runs (drop i (runs_of xs)))) ≡ whole
    → new ++ take (n - t) (drop (s - p) (blocks_of_runs (drop (i + 1) (runs_of xs)))) ≡ whole
step xs new old whole items i s n p t is lt ep et pushed so =
    let run : ℕ × ℕ = get_or items i (0, 0) in
    let there : i < length (runs_of xs) = subst (λ (l : List (ℕ × ℕ)). i < length l) is lt in
    let here : run ≡ get_or (runs_of xs) i run =
    get_or_default items i (0, 0) run lt ∙ ap (λ (l : List (ℕ × ℕ)). get_or l i run) is in
    part_more xs new old whole i s n p t run there here ep et pushed so

pub loop-run-preserved : goal.loop-run-preserved
loop-run-preserved c =
    step c.args.other.now c.push_run.new.self c.loop-run.self _ c.runs-run-items.result.now
    c.loop-run.run-index c.loop-run.skip c.loop-run.left c.min-passed.result c.min-taken.result
    c.runs-run-items.ensures.value c.loop-run-test.true c.min-passed.ensures c.min-taken.ensures
    c.in_ok-push_run.ensures.ok c.loop-run.invariant

pub returns : goal.returns
returns c =
    let done =
    subst (λ (l : List (ℕ × ℕ)). length l ≤ c.loop-run.run-index) c.runs-run-items.ensures.value
    c.loop-run-test.false in
    part_done c.args.other.now c.loop-run.self _ c.loop-run.run-index c.loop-run.skip
    c.loop-run.left done c.loop-run.invariant
