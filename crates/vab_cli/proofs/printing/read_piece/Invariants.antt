use Rattle.std.proofs.Common.{◌≡◌, ◌*◌, length, take, drop}
use Rattle.vab_disk.specs.Calls.{OnlyReads}
use Rattle.vab_device.specs.declared.device.Part.{Part}
use Rattle.vab_device.specs.Mounted.{bytes_at, sectors_read}
use Rattle.vab_manager.specs.Blocks.{KeepsPart}
use Rattle.vab_cli.proofs.printing.read_piece.Given as goal

abbrev pub invariant-loop-block : goal.invariant-loop-block
invariant-loop-block g l = record {
  bytes : g.P.Disk.is_modelled
      → (p : Part)
      → KeepsPart l.device l.slot l.name p
      → l.piece.items ≡ bytes_at (g.P.Disk.seen l.fn.port)
      (take l.block (drop l.first (sectors_read p)));
  long : length l.piece.items ≡ 4096 * l.block;
  reads : OnlyReads g.P.Disk l.fn.port l.port;
  steady : g.P.Disk.faults l.port ≡ g.P.Disk.faults l.fn.port;
}
