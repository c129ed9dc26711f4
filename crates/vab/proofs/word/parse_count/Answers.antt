use Rattle.vab.proofs.Counts.{is_read}
use Rattle.vab.proofs.word.parse_count.Goals as goal

pub returns-in-Err : goal.returns-in-Err
returns-in-Err c = is_read c.args.digits.now c.in-Err.ensures.value.0
