use Rattle.vab_model.proofs.OverLaws.{last_write_is_read}
use Rattle.vab_machine_laws.proofs.writes.last_write_is_read.Goals as goal

pub returns : goal.returns
returns c = last_write_is_read
