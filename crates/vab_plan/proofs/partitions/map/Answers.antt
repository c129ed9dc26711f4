use Rattle.std.proofs.Common.{◌≡◌, ◌+◌, ◌^◌, ◌<◌, ◌≤◌, ℕ, List, length, take, arith, ap, sym, subst}
use Rattle.std.proofs.Common.{◌∙◌}
use Rattle.std.specs.Prelude.{map, sum_by, All}
use Rattle.std.proofs.lemmas.List.{take_all}
use Rattle.vab_tables.specs.declared.entries.Extent.{Extent}
use Rattle.vab_blocks.specs.Blocks.{extents_of}
use Rattle.vab_linear.specs.Map.{blocks_of}
use Rattle.vab_plan.proofs.PartLaws.{run_on, partition_runs, partition_ends, partition_sum}
use Rattle.vab_plan.proofs.partitions.map.Goals as goal

-- what was collected is all extents
all_of : (runs : List (ℕ × ℕ)) (items es : List Extent) (i : ℕ)
    → runs ≡ map run_on (take i items)
    → items ≡ es
    → length items ≤ i
    → runs ≡ map run_on es
all_of runs items es i is same done = is ∙ ap (map run_on) (take_all i items done ∙ same)

pub new-requires-clause-ends : goal.new-requires-clause-ends
new-requires-clause-ends c =
    let es : List Extent = extents_of c.args.table.now c.args.partition.now in
    let is : c.loop-extent.runs.items ≡ map run_on es =
    all_of c.loop-extent.runs.items c.extents_of-extent-items.result.now es
    c.loop-extent.extent-index c.loop-extent.invariant c.extents_of-extent-items.ensures
    (omega (arith, c.loop-extent-test.false)) in
    subst (λ (l : List (ℕ × ℕ)). All (λ r. r.0 + r.1 < 2 ^ 63) l) (sym (c.deref.ensures.value ∙ is))
    (partition_ends c.args.table.now c.requires.keeps c.args.partition.now)

pub new-requires-clause-sum : goal.new-requires-clause-sum
new-requires-clause-sum c =
    let es : List Extent = extents_of c.args.table.now c.args.partition.now in
    let is : c.loop-extent.runs.items ≡ map run_on es =
    all_of c.loop-extent.runs.items c.extents_of-extent-items.result.now es
    c.loop-extent.extent-index c.loop-extent.invariant c.extents_of-extent-items.ensures
    (omega (arith, c.loop-extent-test.false)) in
    let sum : sum_by (λ r. r.1) c.deref.result.now ≡ sum_by (λ r. r.1) (map run_on es) =
    ap (λ (l : List (ℕ × ℕ)). sum_by (λ r. r.1) l) (c.deref.ensures.value ∙ is) in
    omega (
      arith,
      sum,
      partition_sum c.args.table.now c.requires.keeps c.args.partition.now,
      c.requires.small,
    )

pub returns-clause-blocks : goal.returns-clause-blocks
returns-clause-blocks c =
    let es : List Extent = extents_of c.args.table.now c.args.partition.now in
    let is : c.loop-extent.runs.items ≡ map run_on es =
    all_of c.loop-extent.runs.items c.extents_of-extent-items.result.now es
    c.loop-extent.extent-index c.loop-extent.invariant c.extents_of-extent-items.ensures
    (omega (arith, c.loop-extent-test.false)) in
    c.in_ok-new.ensures ∙ ap blocks_of (c.deref.ensures.value ∙ is)
    ∙ partition_runs c.args.table.now c.requires.keeps c.args.partition.now
