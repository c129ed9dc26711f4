use Rattle.std.proofs.Common.{◌≡◌, ◌<◌, ℕ}
use Rattle.vab_exceptions.specs.Entries.{entry_at, firsts, IsListed}
use Rattle.vab_exceptions.proofs.area.decode_area.Given as goal

abbrev pub invariant-loop-i : goal.invariant-loop-i
invariant-loop-i l = record {
  read : l.area.items ≡ firsts (entry_at l.bytes) l.i;
  listed : (k : ℕ) → k < l.i → IsListed (entry_at l.bytes k);
}
