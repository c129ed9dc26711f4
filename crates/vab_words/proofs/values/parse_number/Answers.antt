use Rattle.std.proofs.Common.{arith, rules}
use Rattle.vab_words.proofs.Numbers.{no_number, read, read_past, unread}
use Rattle.vab_words.proofs.values.parse_number.Goals as goal

pub returns-then-not-is_number-clause-value : goal.returns-then-not-is_number-clause-value
returns-then-not-is_number-clause-value c = no_number _ _ (search rules)

pub returns-in-Ok-clause-value : goal.returns-in-Ok-clause-value
returns-in-Ok-clause-value c = read _ _ (search rules) _ c.in-Ok.ensures.value.0
    c.if-number-most.true

pub returns-in_default-clause-value : goal.returns-in_default-clause-value
returns-in_default-clause-value c = read_past _ _ (search rules) _ c.in-Ok.ensures.value.0
    c.if-number-most.false

pub returns-in_default-2-clause-value : goal.returns-in_default-2-clause-value
returns-in_default-2-clause-value c = unread _ _ (search rules) c.in_default.ensures.value.0
    (omega arith)
