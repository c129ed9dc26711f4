use Rattle.std.proofs.Common.{◌≡◌, ◌≤◌, ℕ, take, reverse}
use Rattle.vab_disk.specs.Memory.{seen_of, settled_of}
use Rattle.vab_disk.proofs.memory.before_sync.Given as goal

abbrev pub invariant-loop-i : goal.invariant-loop-i
invariant-loop-i l = record {
  within : l.last ≤ l.i;
  settled : (count : ℕ)
      → settled_of count (reverse (take l.i l.fn.calls))
      ≡ seen_of count (reverse (take l.last l.fn.calls));
}
