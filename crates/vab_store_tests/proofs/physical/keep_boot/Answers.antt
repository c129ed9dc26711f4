use Rattle.std.proofs.Common.{◌≡◌, ◌≤◌, length, refl, arith}
use Rattle.vab_store.proofs.PartLaws.{run_apart, run_long, run_on_disk, runs_disjoint}
use Rattle.vab_store_tests.proofs.physical.keep_boot.Goals as goal

pub copy_image-requires-clause-fits : goal.copy_image-requires-clause-fits
copy_image-requires-clause-fits c =
    omega (
      arith,
      run_long c.in_ok-from.from 8208 2 c.in_ok-from.ensures,
      run_long c.in_ok-to.to 8224 2 c.in_ok-to.ensures,
    )

pub copy_image-requires-clause-from_on_disk : goal.copy_image-requires-clause-from_on_disk
copy_image-requires-clause-from_on_disk c =
    run_on_disk c.in_ok-from.from 8208 2 _ c.in_ok-from.ensures
    (omega (arith, c.if-sectors-ge8240.true, c.sectors.ensures))

pub copy_image-requires-clause-to_on_disk : goal.copy_image-requires-clause-to_on_disk
copy_image-requires-clause-to_on_disk c =
    run_on_disk c.in_ok-to.to 8224 2 _ c.in_ok-to.ensures
    (omega (arith, c.if-sectors-ge8240.true, c.sectors.ensures))

pub copy_image-requires-clause-apart : goal.copy_image-requires-clause-apart
copy_image-requires-clause-apart c = λ t. run_apart c.in_ok-to.to 8224 2 c.in_ok-to.ensures

pub copy_image-requires-clause-disjoint : goal.copy_image-requires-clause-disjoint
copy_image-requires-clause-disjoint c = λ t.
    runs_disjoint c.in_ok-from.from c.in_ok-to.to 8208 2 8224 2 c.in_ok-from.ensures
    c.in_ok-to.ensures (omega arith)
