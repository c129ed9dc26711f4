use Rattle.std.proofs.Common.{arith}
use Rattle.vab_store.proofs.PartLaws.{run_on_disk}
use Rattle.vab_store_tests.proofs.tests.scanned.Goals as goal

pub scan-requires : goal.scan-requires
scan-requires c = run_on_disk c.in_ok-store.store c.args.first c.args.blocks _ c.in_ok-store.ensures
    (omega arith)
