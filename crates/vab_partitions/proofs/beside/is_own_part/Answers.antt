use Rattle.std.proofs.Common.{arith}
use Rattle.vab_names.proofs.NameLaws.{of_slot_long}
use Rattle.vab_partitions.proofs.beside.is_own_part.Goals as goal

pub has_base-requires : goal.has_base-requires
has_base-requires c =
    omega (arith, of_slot_long c.args.slot c.args.part.now.name c.requires.of_slot)
