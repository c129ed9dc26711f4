use Rattle.std.proofs.Common.{◌≡◌, ◌<◌, ◌^◌, Some, drop}
use Rattle.vab_fbproto.specs.Requests.{digits_behind}
use Rattle.vab_fbproto.proofs.number.digits_value.Given as goal

abbrev pub invariant-loop-byte : goal.invariant-loop-byte
invariant-loop-byte l = record {
  rest : digits_behind l.base (Some l.value) (drop l.byte-index l.digits)
      ≡ digits_behind l.base (Some 0) l.digits;
  small : l.value < 16 ^ l.byte-index;
}
