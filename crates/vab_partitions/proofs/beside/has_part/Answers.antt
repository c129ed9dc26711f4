use Rattle.std.proofs.Common.{sym, ◌∙◌}
use Rattle.vab_partitions.proofs.PartCases.{part_then, then_part}
use Rattle.vab_partitions.proofs.beside.has_part.Goals as goal

pub returns : goal.returns
returns c = (
  λ told. part_then c.args.name.now c.args.parts.now (sym c.is_named.ensures ∙ told),
  λ there. c.is_named.ensures ∙ then_part c.args.name.now c.args.parts.now there,
)
