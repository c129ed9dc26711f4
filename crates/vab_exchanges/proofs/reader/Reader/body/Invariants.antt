use Rattle.std.proofs.Common.{◌≡◌, ◌+◌, ◌≤◌, ◌++◌, length}
use Rattle.vab_fbtcp.specs.Frame.{body_place}
use Rattle.vab_exchanges.specs.Hearing.{Listens}
use Rattle.vab_exchanges.specs.Reading.{stands_at, rest_of, beyond_of, all_of, room_of, total_of}
use Rattle.vab_exchanges.specs.Reading.{IsFed, IsFewerThan}
use Rattle.vab_exchanges.proofs.reader.Reader.body.Given as goal

abbrev pub invariant-loop-left : goal.invariant-loop-left
invariant-loop-left g l = record {
  listens : Listens g.P.Disk
      (all_of l.fn.self (g.P.Disk.input_left l.fn.p)) (IsFewerThan l.count) l.fn.p l.p;
  place : stands_at l.self ≡ body_place l.left;
  long : length l.packet.items + l.left ≡ l.count;
  fits : l.count ≤ 4096;
  fed : IsFed l.self;
  packet : g.P.Disk.is_modelled
      → rest_of l.fn.self (g.P.Disk.input_left l.fn.p)
      ≡ l.packet.items ++ rest_of l.self (g.P.Disk.input_left l.p);
  room : room_of l.self ≤ room_of l.fn.self;
  beyond : g.P.Disk.is_modelled
      → beyond_of l.self (g.P.Disk.input_left l.p)
      ≡ beyond_of l.fn.self (g.P.Disk.input_left l.fn.p);
  steady : g.P.Disk.faults l.p ≡ g.P.Disk.faults l.fn.p;
  count : g.P.Disk.is_modelled
      → total_of l.self (g.P.Disk.input_left l.p)
      ≡ total_of l.fn.self (g.P.Disk.input_left l.fn.p);
  most : l.self.budget.most ≡ l.fn.self.budget.most;
}

abbrev pub decreases-loop-left : goal.decreases-loop-left
decreases-loop-left g l = l.left
