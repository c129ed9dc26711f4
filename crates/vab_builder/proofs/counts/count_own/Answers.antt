use Rattle.std.proofs.Common.{sym, ap, ◌∙◌, List, length}
use Rattle.std.specs.List.{filter}
use Rattle.vab_names.specs.Names.{is_of_slot}
use Rattle.vab_tables.specs.declared.entries.Partition.{Partition}
use Rattle.vab_builder.proofs.PartitionLaws.{own_count}
use Rattle.vab_builder.proofs.counts.count_own.Goals as goal

pub returns : goal.returns
returns c =
    let slot = c.args.slot in
    c.count_of_slot.ensures
    ∙ ap (λ (l : List Partition). length (filter (λ p. is_of_slot slot p.name) l))
    c.as_slice.ensures
    ∙ sym (own_count slot c.args.table.now)
