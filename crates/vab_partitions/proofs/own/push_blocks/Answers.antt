use Rattle.std.proofs.Common.{◌≡◌, ◌++◌, ℕ, List, ap, sym, ◌∙◌}
use Rattle.std.specs.List.{flat_map}
use Rattle.std.proofs.lemmas.Result.{on_ok_weaker}
use Rattle.vab_tables.specs.declared.entries.Extent.{Extent}
use Rattle.vab_tables.specs.declared.entries.Partition.{Partition}
use Rattle.vab_tables.specs.declared.table.Table.{Table}
use Rattle.vab_blocks.specs.Blocks.{blocks_of_extent, extents_of, first_sector_of}
use Rattle.vab_layout.specs.Layout.{blocks_of_partition}
use Rattle.vab_partitions.proofs.OwnLaws.{partition_blocks}
use Rattle.vab_partitions.proofs.own.push_blocks.Goals as goal

pushed : (t : Table) (p : Partition) (old new : List ℕ) (first : ℕ) (extents : List Extent)
    → first ≡ first_sector_of t
    → extents ≡ extents_of t p
    → new ≡ old ++ flat_map (blocks_of_extent first) extents
    → new ≡ old ++ blocks_of_partition t p
pushed t p old new first extents at is e =
    e ∙ ap (λ (s : ℕ). old ++ flat_map (blocks_of_extent s) extents) at
    ∙ ap (λ (l : List Extent). old ++ flat_map (blocks_of_extent (first_sector_of t)) l) is
    ∙ ap (λ (l : List ℕ). old ++ l) (sym (partition_blocks t p))

pub returns : goal.returns
returns c =
    on_ok_weaker c.push_extents.result
    (pushed c.args.table.now c.args.partition.now c.args.blocks.now c.push_extents.new.self
    c.first_sector.result c.extents_of.result.now c.first_sector.ensures c.extents_of.ensures)
    c.push_extents.ensures
