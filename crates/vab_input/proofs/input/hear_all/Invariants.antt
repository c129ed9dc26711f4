use Rattle.std.proofs.Common.{◌≡◌, ◌≤◌, ◌-◌, ◌++◌, length}
use Rattle.vab_disk.specs.Disk.{Adds, Nothing, SameHoldings}
use Rattle.vab_exchanges.specs.Hearing.{HearsWhere}
use Rattle.vab_input.specs.HearsToEnd.{FindsSome}
use Rattle.vab_input.proofs.input.hear_all.Given as goal

abbrev pub invariant-loop-heard : goal.invariant-loop-heard
invariant-loop-heard g l = record {
  bytes : g.P.Disk.is_modelled
      → l.heard.items ++ g.P.Disk.input_left l.p ≡ g.P.Disk.input_left l.fn.p;
  within : length l.heard.items ≤ l.most;
  size : g.P.Disk.size l.p ≡ g.P.Disk.size l.fn.p;
  seen : g.P.Disk.is_modelled → g.P.Disk.seen l.p ≡ g.P.Disk.seen l.fn.p;
  crash : g.P.Disk.is_modelled → SameHoldings (g.P.Disk.may_leave l.fn.p) (g.P.Disk.may_leave l.p);
  told : g.P.Disk.is_modelled → g.P.Disk.told l.p ≡ g.P.Disk.told l.fn.p;
  heard : g.P.Disk.is_modelled
      → HearsWhere FindsSome (g.P.Disk.heard l.fn.p) (g.P.Disk.heard l.p);
  time : g.P.Disk.is_modelled → Adds g.P.Disk.moment g.P.Disk.outcomes l.fn.p l.p Nothing;
  steady : g.P.Disk.faults l.p ≡ g.P.Disk.faults l.fn.p;
}

abbrev pub decreases-loop-heard : goal.decreases-loop-heard
decreases-loop-heard g l = l.most - length l.heard.items
