use Rattle.std.proofs.Common.{arith}
use Rattle.vab_layout.specs.Layout.{layout_of}
use Rattle.vab_builder.proofs.Bounds.{group_small}
use Rattle.vab_builder.proofs.GroupLaws.{limit_is}
use Rattle.vab_builder.proofs.groups.resized_group.Goals as goal

pub group_sum-requires : goal.group_sum-requires
group_sum-requires c =
    let a = c.args in
    omega (
      arith,
      c.group_blocks-all.ensures,
      group_small a.slot (layout_of a.table.now).parts c.group_named-group.result a.name.now
          a.count c.requires.own c.requires.small,
    )

pub returns-clause-limit : goal.returns-clause-limit
returns-clause-limit c =
    limit_is c.args.table.now c.as_slice.result.now c.text.result.now c.group_named-group.result _
    c.limit_of-limit.result c.limit_of-limit.ensures c.as_slice.ensures c.text.ensures.value
    c.group_named-group.ensures
