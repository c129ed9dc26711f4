use Rattle.std.proofs.Common.{◌≡◌, ◌+◌, ◌<◌, ◌^◌, ℕ, List, ap, sym, subst, rules, ◌∙◌}
use Rattle.std.specs.Prelude.{All, Contains}
use Rattle.std.specs.List.Sorted.{IsNonDecreasingBy}
use Rattle.std.proofs.lemmas.List.Sorted.{All-permutation, IsNonDecreasingBy-from_sort_by_key}
use Rattle.vab_blocks.specs.Runs.{blocks_of_runs}
use Rattle.vab_blocks.proofs.Merging.{same_listed}
use Rattle.vab_blocks.proofs.RunLaws.{runs_again}
use Rattle.vab_blocks.proofs.runs.Runs.sorted.Goals as goal

pub merged-requires-clause-up : goal.merged-requires-clause-up
merged-requires-clause-up c =
    let by : ℕ × ℕ → ℕ = λ run. run.0 in
    subst (λ (l : List (ℕ × ℕ)). IsNonDecreasingBy by l) (sym c.deref.ensures.value)
    (IsNonDecreasingBy-from_sort_by_key by _ c.sort_unstable_by_key.ensures.sorted
    (λ a r q k. search rules))

pub merged-requires-clause-fits : goal.merged-requires-clause-fits
merged-requires-clause-fits c =
    let P : ℕ × ℕ → Type 0 = λ run. run.0 + run.1 < 2 ^ 64 in
    let is = c.in_ok-runs.ensures.items ∙ c.runs.ensures.value in
    let before = subst (All P) (sym is) c.runs.ensures.fits in
    subst (All P) (sym c.deref.ensures.value)
    (All-permutation P _ _ c.sort_unstable_by_key.ensures.permutation before)

pub returns-clause-listed : goal.returns-clause-listed
returns-clause-listed c = λ b.
    let is = c.in_ok-runs.ensures.items ∙ c.runs.ensures.value in
    let old = ap blocks_of_runs is ∙ runs_again c.args.blocks.now in
    let new = ap blocks_of_runs c.deref.ensures.value in
    let In : List ℕ → Type 0 = λ l. Contains l b in
    let listed = c.in_ok-blocks.ensures.listed b in
    let same = same_listed _ _ b c.sort_unstable_by_key.ensures.permutation in (
      λ there. subst In old (same.1 (subst In new (listed.0 there))),
      λ there. listed.1 (subst In (sym new) (same.0 (subst In (sym old) there))),
    )
