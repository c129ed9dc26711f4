use Rattle.std.proofs.Common.{arith}
use Rattle.vab_layout.specs.Layout.{layout_of}
use Rattle.vab_builder.proofs.Bounds.{group_small}
use Rattle.vab_builder.proofs.GroupLaws.{created_group_is, created_sum_is, limit_is}
use Rattle.vab_builder.proofs.groups.created_group.Goals as goal

pub group_sum-requires : goal.group_sum-requires
group_sum-requires c =
    let a = c.args in
    omega (
      arith,
      c.group_blocks-others.ensures,
      group_small a.slot (layout_of a.table.now).parts c.first_group-group.result a.name.now
          a.count c.requires.own c.requires.small,
    )

pub returns-clause-sum : goal.returns-clause-sum
returns-clause-sum c =
    let a = c.args in
    created_sum_is a.slot a.table.now a.name.now c.first_group-group.result a.count
    c.group_blocks-others.result c.group_sum.result
    (created_group_is a.slot a.table.now c.first_group-group.result c.as_slice-groups.result.now
    c.first_group-group.ensures c.as_slice-groups.ensures)
    c.group_blocks-others.ensures c.group_sum.ensures

pub returns-clause-limit : goal.returns-clause-limit
returns-clause-limit c =
    let a = c.args in
    limit_is a.table.now c.as_slice-groups.result.now c.text.result.now c.first_group-group.result _
    c.limit_of.result c.limit_of.ensures c.as_slice-groups.ensures c.text.ensures.value
    (created_group_is a.slot a.table.now c.first_group-group.result c.as_slice-groups.result.now
    c.first_group-group.ensures c.as_slice-groups.ensures)
