use Rattle.std.proofs.Common.{◌≡◌, ◌≤◌, ◌-◌, ◌++◌, length, take}
use Rattle.vab_disk.specs.Disk.{Adds, SameHoldings, NoFewer}
use Rattle.vab_disk.specs.Port.{LeavesSaying}
use Rattle.vab_exchanges.proofs.tell.say_all.Given as goal

abbrev pub invariant-loop-done : goal.invariant-loop-done
invariant-loop-done g l = record {
  within : l.done ≤ length l.bytes;
  told : g.P.Disk.is_modelled → g.P.Disk.told l.p ≡ g.P.Disk.told l.fn.p ++ take l.done l.bytes;
  size : g.P.Disk.size l.p ≡ g.P.Disk.size l.fn.p;
  seen : g.P.Disk.is_modelled → g.P.Disk.seen l.p ≡ g.P.Disk.seen l.fn.p;
  crash : g.P.Disk.is_modelled → SameHoldings (g.P.Disk.may_leave l.fn.p) (g.P.Disk.may_leave l.p);
  left : g.P.Disk.is_modelled → g.P.Disk.input_left l.p ≡ g.P.Disk.input_left l.fn.p;
  time : g.P.Disk.is_modelled
      → Adds g.P.Disk.moment g.P.Disk.outcomes l.fn.p l.p
      (LeavesSaying (g.P.Disk.told l.fn.p) l.bytes (g.P.Disk.may_leave l.fn.p));
  heard : g.P.Disk.is_modelled → g.P.Disk.heard l.p ≡ g.P.Disk.heard l.fn.p;
  steady : g.P.Disk.faults l.p ≡ g.P.Disk.faults l.fn.p;
  counts : NoFewer (g.P.Disk.faults l.fn.p) (g.P.Disk.faults l.p);
}

abbrev pub decreases-loop-done : goal.decreases-loop-done
decreases-loop-done g l = length l.bytes - l.done
