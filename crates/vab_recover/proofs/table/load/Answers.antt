use Rattle.std.proofs.Common.{arith}
use Rattle.vab_device.proofs.PlaceLaws.{copies_on_disk}
use Rattle.vab_recover.proofs.table.load.Goals as goal

pub load_table-requires-clause-on_disk : goal.load_table-requires-clause-on_disk
load_table-requires-clause-on_disk g c =
    omega (
      arith,
      copies_on_disk c.args.geometry.now c.args.slot c.args.super_end c.requires.rules
          c.requires.slot c.requires.copies_on,
      c.requires.ends,
    )
