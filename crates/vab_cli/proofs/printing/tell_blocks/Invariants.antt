use Rattle.std.proofs.Common.{◌≡◌, ◌-◌, ◌≤◌, take, Ok}
use Rattle.vab_device.specs.declared.device.Part.{Part}
use Rattle.vab_device.specs.Mounted.{bytes_at, sectors_read}
use Rattle.vab_manager.specs.Blocks.{KeepsPart}
use Rattle.vab_cli.specs.declared.status.Status.{Status}
use Rattle.vab_cli.specs.Telling.{Says}
use Rattle.vab_cli.proofs.printing.tell_blocks.Given as goal

abbrev pub invariant-loop-done : goal.invariant-loop-done
invariant-loop-done g l = record {
  within : l.done ≤ l.blocks;
  size : g.P.Disk.size l.port ≡ g.P.Disk.size l.fn.port;
  steady : g.P.Disk.faults l.port ≡ g.P.Disk.faults l.fn.port;
  says : g.P.Disk.is_modelled
      → (p : Part)
      → KeepsPart l.device l.slot l.name p
      → Says g.P.Disk {A = Unit {0}} {E = Status}
      (bytes_at (g.P.Disk.seen l.fn.port) (take l.done (sectors_read p))) l.fn.port l.port (Ok tt);
}

abbrev pub decreases-loop-done : goal.decreases-loop-done
decreases-loop-done g l = l.blocks - l.done
