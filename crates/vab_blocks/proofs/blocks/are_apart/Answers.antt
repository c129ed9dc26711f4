use Rattle.std.proofs.Common.{◌≡◌, ℕ, List, get_or, refl, sym}
use Rattle.std.proofs.lemmas.List.{get_or_default}
use Rattle.vab_blocks.proofs.Distinct.{all_apart, apart_more, never_apart}
use Rattle.vab_blocks.proofs.Merging.{none_merged}
use Rattle.vab_blocks.proofs.blocks.are_apart.Goals as goal

pub loop-run-init : goal.loop-run-init
loop-run-init c = none_merged c.args.runs.now _ refl

pub returns-then-run-end : goal.returns-then-run-end
returns-then-run-end c =
    let runs : List (ℕ × ℕ) = c.args.runs.now in
    let i : ℕ = c.loop-run.run-index in
    let run : ℕ × ℕ = get_or runs i (0, 0) in
    let at : run ≡ get_or runs i run = get_or_default runs i (0, 0) run c.loop-run-test.true in
    let some = c.requires.some i (0, 0) c.loop-run-test.true in
    sym (never_apart runs i c.loop-run.end run c.requires.up c.loop-run.invariant
    c.loop-run-test.true at some c.if-run-end.true)

pub loop-run-preserved : goal.loop-run-preserved
loop-run-preserved c =
    let runs : List (ℕ × ℕ) = c.args.runs.now in
    let i : ℕ = c.loop-run.run-index in
    let run : ℕ × ℕ = get_or runs i (0, 0) in
    let at : run ≡ get_or runs i run = get_or_default runs i (0, 0) run c.loop-run-test.true in
    let some = c.requires.some i (0, 0) c.loop-run-test.true in
    let fits = c.requires.fits i (0, 0) c.loop-run-test.true in
    apart_more runs i c.loop-run.end run c.requires.up c.loop-run.invariant c.loop-run-test.true
    at some fits c.if-run-end.false

pub returns : goal.returns
returns c =
    sym (all_apart c.args.runs.now c.loop-run.run-index c.loop-run.end c.loop-run.invariant
    c.loop-run-test.false)
