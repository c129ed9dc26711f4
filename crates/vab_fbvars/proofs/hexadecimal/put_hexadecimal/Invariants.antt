use Rattle.std.proofs.Common.{◌≡◌, suc, ◌+◌, ◌<◌, ◌^◌, length, drop}
use Rattle.std.specs.Prelude.{true}
use Rattle.std.specs.Fmt.{digits_onto}
use Rattle.vab_fbvars.specs.Hexadecimal.{hexadecimal}
use Rattle.vab_fbvars.proofs.hexadecimal.put_hexadecimal.Given as goal

abbrev pub invariant-loop-left : goal.invariant-loop-left
invariant-loop-left l = record {
  long : length l.digits ≡ 16;
  within : l.at < 16;
  small : l.left < 16 ^ (l.at + 1);
  rest : hexadecimal l.n ≡ digits_onto (suc (l.at + 48)) 16 true l.left (drop (l.at + 1) l.digits);
}

abbrev pub decreases-loop-left : goal.decreases-loop-left
decreases-loop-left l = l.left
