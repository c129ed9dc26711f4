use Rattle.vab_device.proofs.PlaceLaws.{copies_on_disk}
use Rattle.vab_survey.proofs.tables.read_slot.Goals as goal

pub load_table-requires-clause-on_disk : goal.load_table-requires-clause-on_disk
load_table-requires-clause-on_disk g c =
    copies_on_disk c.args.geometry.now c.args.slot (g.D.Disk.size c.args.d.now) c.requires.rules
    c.requires.slot c.requires.copies_on
