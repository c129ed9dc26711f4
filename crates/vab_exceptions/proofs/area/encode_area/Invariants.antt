use Rattle.std.proofs.Common.{◌≡◌, length, take, All}
use Rattle.vab_exceptions.specs.Entries.{area_bytes, FitsEntry}
use Rattle.vab_exceptions.proofs.area.encode_area.Given as goal

abbrev pub invariant-loop-i : goal.invariant-loop-i
invariant-loop-i l = record {
  bytes : l.bytes ≡ area_bytes (length l.fn.bytes) (take l.i l.entry-items);
  fit : All FitsEntry (take l.i l.entry-items);
}
