use Rattle.std.proofs.Common.{◌≡◌, ◌<◌, ◌+◌, ◌*◌, ◌^◌, ◌≤◌, length, sum_by, All, take}
use Rattle.vab_linear.specs.declared.map.Run.{Run}
use Rattle.vab_linear.specs.Map.{blocks_of}
use Rattle.vab_linear.specs.Held.{held_of}
use Rattle.vab_linear.proofs.map.Map.new.Given as goal

abbrev pub invariant-loop-run : goal.invariant-loop-run
invariant-loop-run l = record {
  counted : l.count ≡ length (held_of l.held.items);
  ends : All (λ (r : Run). r.first + 8 * r.blocks < 2 ^ 63) l.held.items;
  same : held_of l.held.items ≡ blocks_of (take l.run-index l.runs);
  sum : 8 * l.count ≤ sum_by (λ r. r.1) (take l.run-index l.runs);
}
