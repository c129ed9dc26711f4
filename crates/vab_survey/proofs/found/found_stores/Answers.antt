use Rattle.std.proofs.Common.{arith}
use Rattle.vab_device.specs.Reading.{whole_disk}
use Rattle.vab_recover.proofs.FinishLaws.{source_on_disk, through_are, through_on_disk}
use Rattle.vab_survey.proofs.found.found_stores.Goals as goal

pub read_stores-requires-clause-target : goal.read_stores-requires-clause-target
read_stores-requires-clause-target g c =
    through_are (g.D.Disk.size c.args.d.now) (whole_disk (g.D.Disk.size c.args.d.now))
    c.args.geometry.now c.args.mark.now c.args.tables.now c.requires.there c.requires.update
    c.requires.merging

pub read_stores-requires-clause-on_disk : goal.read_stores-requires-clause-on_disk
read_stores-requires-clause-on_disk g c =
    through_on_disk (g.D.Disk.size c.args.d.now) (whole_disk (g.D.Disk.size c.args.d.now))
    c.args.geometry.now c.args.mark.now c.args.tables.now c.requires.there c.requires.update
    c.requires.merging c.requires.enough (omega arith)

pub read_stores-requires-clause-source_on_disk : goal.read_stores-requires-clause-source_on_disk
read_stores-requires-clause-source_on_disk g c =
    source_on_disk (g.D.Disk.size c.args.d.now) (whole_disk (g.D.Disk.size c.args.d.now))
    c.args.geometry.now c.args.mark.now c.args.tables.now c.requires.there c.requires.update
    c.requires.merging c.requires.enough (omega arith)
