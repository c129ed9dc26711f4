use Rattle.std.proofs.Common.{◌≡◌, take}
use Rattle.sha2.specs.Hashers.{Holds256}
use Rattle.vab_disk.specs.Calls.{OnlyReads}
use Rattle.vab_device.specs.Mounted.{bytes_at, sectors_read}
use Rattle.vab_manager.proofs.images.digest_of.Given as goal

abbrev pub invariant-loop-block : goal.invariant-loop-block
invariant-loop-block g l = record {
  holds : g.D.Disk.is_modelled
      → Holds256 l.hasher (bytes_at (g.D.Disk.seen l.fn.d) (take l.block (sectors_read l.part)));
  reads : OnlyReads g.D.Disk l.fn.d l.d;
  steady : g.D.Disk.faults l.d ≡ g.D.Disk.faults l.fn.d;
}
