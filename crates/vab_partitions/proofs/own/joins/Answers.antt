use Rattle.std.proofs.Common.{◌≡◌, ◌^◌, ℕ, true, List, length, leb, sym, ap, ◌∙◌}
use Rattle.std.specs.List.{flat_map}
use Rattle.std.proofs.lemmas.Result.{IfOk-weaker}
use Rattle.vab_tables.specs.declared.entries.Extent.{Extent}
use Rattle.vab_tables.specs.declared.entries.Partition.{Partition}
use Rattle.vab_tables.specs.declared.table.Table.{Table}
use Rattle.vab_blocks.specs.Blocks.{blocks_of_extent, extents_of, first_sector_of}
use Rattle.vab_layout.specs.Layout.{blocks_of_partition}
use Rattle.vab_partitions.specs.Rules.{is_distinct}
use Rattle.vab_partitions.proofs.OwnLaws.{first_fails, second_fails, both_pass, partition_blocks}
use Rattle.vab_partitions.proofs.own.joins.Goals as goal
use Rattle.vab_partitions.proofs.own.joins.Goals.{then-not-passes_alone-via-then-not-passes_alone}
use Rattle.vab_partitions.proofs.own.joins.Goals.{then-not-passes_alone-via-else-not-passes_alone+then-not-is_small}

-- the size of a partition, by its extents
small_is : (t : Table) (p : Partition) (first : ℕ) (own : List Extent)
    → first ≡ first_sector_of t
    → own ≡ extents_of t p
    → leb (length (blocks_of_partition t p)) (2 ^ 28)
    ≡ leb (length (flat_map (blocks_of_extent first) own)) (2 ^ 28)
small_is t p first own at is =
    let small = λ (l : List ℕ). leb (length l) (2 ^ 28) in
    ap small (partition_blocks t p)
    ∙ ap (λ (n : ℕ). small (flat_map (blocks_of_extent n) (extents_of t p))) (sym at)
    ∙ ap (λ (l : List Extent). small (flat_map (blocks_of_extent first) l)) (sym is)

pub returns-then-not-passes_alone-clause-joins : goal.returns-then-not-passes_alone-clause-joins
returns-then-not-passes_alone-clause-joins c =
    elim c.then-not-passes_alone.branch [
      | then-not-passes_alone-via-then-not-passes_alone w ↦
          first_fails _ _ _ (sym c.passes_alone.ensures ∙ w.if-not-passes_alone.true)
      | then-not-passes_alone-via-else-not-passes_alone+then-not-is_small w ↦
          second_fails _ _ _
          (small_is c.args.table.now c.args.partition.now w.first_sector.result
          c.extents_of-extents.result.now w.first_sector.ensures c.extents_of-extents.ensures
          ∙ sym w.is_small.ensures ∙ w.if-not-is_small.true)
    ]

pub returns-then-apart-clause-joins : goal.returns-then-apart-clause-joins
returns-then-apart-clause-joins c =
    both_pass _ _ _ true (sym c.passes_alone.ensures ∙ c.if-not-passes_alone.false)
    (small_is c.args.table.now c.args.partition.now c.first_sector.result
    c.extents_of-extents.result.now c.first_sector.ensures c.extents_of-extents.ensures
    ∙ sym c.is_small.ensures ∙ c.if-not-is_small.false)
    (sym (c.requires.apart c.if-apart.true))

pub returns-clause-joins : goal.returns-clause-joins
returns-clause-joins c =
    IfOk-weaker c.is_distinct.result _ _
    (λ ok is.
    both_pass _ _ _ ok (sym c.passes_alone.ensures ∙ c.if-not-passes_alone.false)
    (small_is c.args.table.now c.args.partition.now c.first_sector.result
    c.extents_of-extents.result.now c.first_sector.ensures c.extents_of-extents.ensures
    ∙ sym c.is_small.ensures ∙ c.if-not-is_small.false)
    (is ∙ ap is_distinct c.in_ok-push_blocks.ensures))
    c.is_distinct.ensures
