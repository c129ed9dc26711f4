use Rattle.std.proofs.Common.{◌≡◌, ◌+◌, ◌<◌, ◌^◌, ℕ, List, ap, sym, subst, rules, ◌∙◌}
use Rattle.std.specs.Prelude.{All}
use Rattle.std.specs.List.Sorted.{IsNonDecreasingBy}
use Rattle.std.proofs.lemmas.List.Sorted.{All-permutation, IsNonDecreasingBy-from_sort_by_key}
use Rattle.vab_blocks.specs.Blocks.{is_distinct}
use Rattle.vab_blocks.specs.Runs.{blocks_of_runs}
use Rattle.vab_blocks.proofs.Distinct.{same_distinct}
use Rattle.vab_blocks.proofs.RunLaws.{runs_again}
use Rattle.vab_blocks.proofs.blocks.Blocks.is_distinct.Goals as goal

pub are_apart-requires-clause-up : goal.are_apart-requires-clause-up
are_apart-requires-clause-up c =
    let by : ℕ × ℕ → ℕ = λ run. run.0 in
    subst (λ (l : List (ℕ × ℕ)). IsNonDecreasingBy by l) (sym c.deref.ensures.value)
    (IsNonDecreasingBy-from_sort_by_key by _ c.sort_unstable_by_key.ensures.sorted
    (λ a r q k. search rules))

pub are_apart-requires-clause-fits : goal.are_apart-requires-clause-fits
are_apart-requires-clause-fits c =
    let P : ℕ × ℕ → Type 0 = λ run. run.0 + run.1 < 2 ^ 64 in
    let is = c.in_ok-runs.ensures.items ∙ c.runs.ensures.value in
    subst (All P) (sym c.deref.ensures.value)
    (All-permutation P _ _ c.sort_unstable_by_key.ensures.permutation
    (subst (All P) (sym is) c.runs.ensures.fits))

pub are_apart-requires-clause-some : goal.are_apart-requires-clause-some
are_apart-requires-clause-some c =
    let P : ℕ × ℕ → Type 0 = λ run. 0 < run.1 in
    let is = c.in_ok-runs.ensures.items ∙ c.runs.ensures.value in
    subst (All P) (sym c.deref.ensures.value)
    (All-permutation P _ _ c.sort_unstable_by_key.ensures.permutation
    (subst (All P) (sym is) c.runs.ensures.some))

pub returns : goal.returns
returns c =
    let is = c.in_ok-runs.ensures.items ∙ c.runs.ensures.value in
    let test = λ (l : List (ℕ × ℕ)). is_distinct (blocks_of_runs l) in
    c.are_apart.ensures ∙ ap test c.deref.ensures.value
    ∙ same_distinct _ _ c.sort_unstable_by_key.ensures.permutation
    ∙ ap test is ∙ ap is_distinct (runs_again c.args.self.now)
