use Rattle.std.proofs.Common.{sym, ap, ◌∙◌, List, map}
use Rattle.vab_tables.specs.declared.entries.Partition.{Partition}
use Rattle.vab_layout.specs.Layout.{part_of}
use Rattle.vab_layout.specs.Slots.{blocks_named}
use Rattle.vab_builder.proofs.PartitionLaws.{layout_parts}
use Rattle.vab_builder.proofs.counts.count_named.Goals as goal

pub loop-partition-init : goal.loop-partition-init
loop-partition-init c =
    let name = c.args.name.now in
    let t = c.args.table.now in
    ap (blocks_named name) (layout_parts t)
    ∙ ap (λ (l : List Partition). blocks_named name (map (part_of t) l))
    (sym c.as_slice-partitions.ensures)
