use Rattle.std.proofs.Common.{arith}
use Rattle.vab_store.proofs.PartLaws.{run_on_disk, run_apart}
use Rattle.vab_device_tests.proofs.snapshots.written.Goals as goal

pub list_differing-requires-clause-on_disk : goal.list_differing-requires-clause-on_disk
list_differing-requires-clause-on_disk g c =
    run_on_disk c.args.base.now 0 3 _ c.requires.base (omega arith)

pub write_snapshot-requires-clause-on_disk : goal.write_snapshot-requires-clause-on_disk
write_snapshot-requires-clause-on_disk g c =
    run_on_disk c.args.store.now 24 5 _ c.requires.store
    (omega (arith, c.in-Ok.ensures.reads.quiet.size, c.sectors.ensures, c.if-sectors-lt64.false))

pub write_snapshot-requires-clause-apart : goal.write_snapshot-requires-clause-apart
write_snapshot-requires-clause-apart g c = λ _. run_apart c.args.store.now 24 5 c.requires.store
