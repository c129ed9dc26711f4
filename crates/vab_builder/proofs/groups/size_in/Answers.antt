use Rattle.std.proofs.Common.{sym, ap, ◌∙◌, arith}
use Rattle.vab_names.specs.Names.{is_of_slot}
use Rattle.vab_builder.proofs.SumLaws.{listed_small}
use Rattle.vab_builder.proofs.groups.size_in.Goals as goal

pub count_blocks-requires-clause-small : goal.count_blocks-requires-clause-small
count_blocks-requires-clause-small c =
    let a = c.args in
    let own =
    sym (c.is_of_slot.ensures ∙ ap (is_of_slot a.slot) c.text.ensures.value)
    ∙ c.if-is_of_slot.true in
    omega (
      arith,
      listed_small a.slot a.table.now a.partition.now c.requires.own c.requires.listed own,
    )
