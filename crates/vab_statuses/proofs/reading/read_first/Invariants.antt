use Rattle.std.proofs.Common.{◌≡◌, ◌-◌, length}
use Rattle.vab_disk.specs.Calls.{OnlyReads}
use Rattle.vab_statuses.specs.Statuses.{statuses_from, statuses_of, AreFitting, NamesDiffer}
use Rattle.vab_statuses.proofs.reading.read_first.Given as goal

abbrev pub invariant-loop-i : goal.invariant-loop-i
invariant-loop-i g l = record {
  so_far : g.D.Disk.is_modelled
      → statuses_of l.fn.count (g.D.Disk.seen l.fn.d)
      ≡ statuses_from (l.fn.count - l.i) (g.D.Disk.seen l.fn.d) l.statuses.items;
  all : length l.statuses.items ≡ l.i;
  fits : AreFitting l.statuses.items;
  differ : NamesDiffer l.statuses.items;
  reads : OnlyReads g.D.Disk l.fn.d l.d;
  steady : g.D.Disk.faults l.d ≡ g.D.Disk.faults l.fn.d;
}
