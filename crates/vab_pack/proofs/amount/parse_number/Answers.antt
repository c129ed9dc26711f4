use Rattle.std.proofs.Common.{rules, arith}
use Rattle.vab_pack.proofs.Numbers.{no_number, read, unread}
use Rattle.vab_pack.proofs.amount.parse_number.Goals as goal

pub returns-then-not-is_number : goal.returns-then-not-is_number
returns-then-not-is_number c = no_number _ (search rules)

pub returns-in-Ok : goal.returns-in-Ok
returns-in-Ok c = read _ (search rules) _ (omega arith) c.in-Ok.ensures.value.0

pub returns-in-Err : goal.returns-in-Err
returns-in-Err c = unread _ (search rules) c.in-Err.ensures.value.0
