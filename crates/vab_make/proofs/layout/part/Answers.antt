use Rattle.std.proofs.Common.{arith}
use Rattle.vab_set.proofs.SetLaws.{base_short}
use Rattle.vab_make.proofs.layout.part.Goals as goal

pub full_name-requires-clause-short : goal.full_name-requires-clause-short
full_name-requires-clause-short c =
    omega (arith, base_short c.args.image.now.name c.requires.image.name)
