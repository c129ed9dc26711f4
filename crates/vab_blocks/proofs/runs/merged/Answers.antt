use Rattle.std.proofs.Common.{◌≡◌, ◌<◌, ◌+◌, ◌-◌, ◌^◌, ◌++◌, ℕ, List, get_or, sym, ap, ◌∙◌, subst}
use Rattle.std.proofs.Common.{refl}
use Rattle.std.specs.Prelude.{max}
use Rattle.std.specs.List.{range_with_len}
use Rattle.std.proofs.lemmas.List.{get_or_default}
use Rattle.vab_blocks.proofs.Merging.{all_ascend, all_listed, more_merged, same_merged, Merged}
use Rattle.vab_blocks.proofs.runs.merged.Goals as goal
use Rattle.vab_blocks.proofs.runs.merged.Goals.{then-end-until+in_ok-push_run, else-end-until}

pub loop-run-preserved : goal.loop-run-preserved
loop-run-preserved c =
    let runs : List (ℕ × ℕ) = c.args.runs.now in
    let i : ℕ = c.loop-run.run-index in
    let all : List ℕ = c.loop-run.all in
    let end : ℕ = c.loop-run.end in
    let run : ℕ × ℕ = get_or runs i (0, 0) in
    let at : run ≡ get_or runs i run = get_or_default runs i (0, 0) run c.loop-run-test.true in
    let m = c.loop-run.invariant in
    elim c.if-end-until.branch [
      | then-end-until+in_ok-push_run w ↦
          let from : w.max-from.result ≡ max run.0 end = w.max-from.ensures in
          let fits : run.0 + run.1 < 2 ^ 64 = c.requires.fits i (0, 0) c.loop-run-test.true in
          let piece : ℕ → List ℕ = λ k. all ++ range_with_len k (run.0 + run.1 - k) in
          let new = w.all-is ∙ w.in_ok-push_run.ensures.ok ∙ ap piece from in
          subst (λ (e : ℕ). Merged runs (i + 1) c.if-end-until.all e) (sym w.end-is)
          (more_merged runs i all c.if-end-until.all end run c.requires.up m c.loop-run-test.true at
          w.if-end-until.true fits new)
      | else-end-until w ↦
          let same =
          same_merged runs i all end run c.requires.up m c.loop-run-test.true at
          w.if-end-until.false in
          let one = subst (λ (e : ℕ). Merged runs (i + 1) all e) (sym w.end-is) same in
          subst (λ (l : List ℕ). Merged runs (i + 1) l c.if-end-until.end) (sym w.all-is) one
    ]

pub returns-clause-ascends : goal.returns-clause-ascends
returns-clause-ascends c =
    all_ascend c.args.runs.now c.loop-run.run-index c.loop-run.all c.loop-run.end
    c.loop-run.invariant

pub returns-clause-listed : goal.returns-clause-listed
returns-clause-listed c =
    all_listed c.args.runs.now c.loop-run.run-index c.loop-run.all c.loop-run.end
    c.loop-run.invariant c.loop-run-test.false
