use Rattle.std.proofs.Common.{◌≡◌, ℕ, ◌<◌, List, [], ◌∷◌, ◌++◌, length, sym, ap, ◌∙◌, arith}
use Rattle.std.proofs.lemmas.List.Sums.{sum_by_more}
use Rattle.vab_tables.specs.declared.entries.Partition.{Partition}
use Rattle.vab_layout.specs.declared.layout.Part.{Part}
use Rattle.vab_blocks.specs.Runs.{runs_of}
use Rattle.vab_layout.specs.Layout.{partitions_from}
use Rattle.vab_layout.proofs.LayoutLaws.{partitions_more}
use Rattle.vab_layout.proofs.to_table.partitions.Goals as goal

pub loop-part-preserved : goal.loop-part-preserved
loop-part-preserved c =
    let groups = c.args.groups.now in
    let parts = c.args.parts.now in
    let i : ℕ = c.loop-part.part-index in
    let p : Part = c.part-item.result in
    let q : Partition = c.partition-partition.result in
    let lt : i < length parts = c.loop-part-test.true in
    let here : q ∷ [] ≡ _ = c.partition-partition.ensures.value
    ∙ ap (λ (k : ℕ). partitions_from k groups (p ∷ [])) c.loop-part.invariant.next in
    let size : Part → ℕ = λ x. length (runs_of x.blocks) in
    record {
      made = c.in_ok-push.ensures.items
          ∙ ap (λ (l : List Partition). l ++ q ∷ []) c.loop-part.invariant.made
          ∙ sym (partitions_more groups parts i p q lt c.part-item.is here);
      next = omega (
        arith,
        sum_by_more size parts i p lt,
        ap size c.part-item.is,
        c.partition-partition.ensures.count,
        c.loop-part.invariant.next,
      );
    }
