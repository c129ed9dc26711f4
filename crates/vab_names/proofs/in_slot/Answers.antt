use Rattle.std.proofs.Common.{ap, arith, length}
use Rattle.vab_bytes.proofs.NameLaws.{name_fits}
use Rattle.vab_names.proofs.NameLaws.{length-base_of, length-suffix_of}
use Rattle.vab_names.proofs.in_slot.Goals as goal

pub joined-requires-clause-short : goal.joined-requires-clause-short
joined-requires-clause-short c = omega (
  arith,
  ap length c.base_of.ensures,
  ap length
      c.suffix.ensures,
  ap length c.text.ensures.value,
  length-base_of c.text.result.now,
  length-suffix_of c.args.slot,
  name_fits c.args.name.now c.text.ensures.name,
)
