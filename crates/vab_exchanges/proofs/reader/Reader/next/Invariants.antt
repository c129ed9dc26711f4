use Rattle.std.proofs.Common.{◌≡◌, ◌-◌}
use Rattle.vab_fbtcp.specs.Frame.{IsIdle}
use Rattle.vab_exchanges.specs.Hearing.{Listens}
use Rattle.vab_exchanges.specs.Reading.{stands_at, rest_of, beyond_of, all_of, room_of, total_of}
use Rattle.vab_exchanges.specs.Reading.{IsFed}
use Rattle.vab_exchanges.proofs.reader.Reader.next.Given as goal

abbrev pub invariant-loop-event : goal.invariant-loop-event
invariant-loop-event g l = record {
  listens : Listens g.P.Disk
      (all_of l.fn.self (g.P.Disk.input_left l.fn.p)) (IsIdle (stands_at l.fn.self)) l.fn.p l.p;
  place : stands_at l.self ≡ stands_at l.fn.self;
  rest : g.P.Disk.is_modelled
      → rest_of l.self (g.P.Disk.input_left l.p)
      ≡ rest_of l.fn.self (g.P.Disk.input_left l.fn.p);
  fed : IsFed l.self;
  room : room_of l.self ≡ room_of l.fn.self;
  beyond : g.P.Disk.is_modelled
      → beyond_of l.self (g.P.Disk.input_left l.p)
      ≡ beyond_of l.fn.self (g.P.Disk.input_left l.fn.p);
  steady : g.P.Disk.faults l.p ≡ g.P.Disk.faults l.fn.p;
  count : g.P.Disk.is_modelled
      → total_of l.self (g.P.Disk.input_left l.p)
      ≡ total_of l.fn.self (g.P.Disk.input_left l.fn.p);
  most : l.self.budget.most ≡ l.fn.self.budget.most;
}

abbrev pub decreases-loop-event : goal.decreases-loop-event
decreases-loop-event g l = l.self.budget.most - l.self.budget.taken
