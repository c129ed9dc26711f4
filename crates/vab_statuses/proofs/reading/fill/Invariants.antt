use Rattle.std.proofs.Common.{◌≡◌, ◌-◌, ◌++◌, length, replicate, None}
use Rattle.vab_statuses.proofs.reading.fill.Given as goal

abbrev pub invariant-loop : goal.invariant-loop
invariant-loop l = record {
  items : l.statuses.items
      ≡ l.fn.statuses.items ++ replicate (l.counter - length l.fn.statuses.items) None;
  all : length l.statuses.items ≡ l.counter;
}
