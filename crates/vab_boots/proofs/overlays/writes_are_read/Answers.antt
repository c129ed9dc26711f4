use Rattle.vab_boots.proofs.Reading.{writes_are_read}
use Rattle.vab_boots.proofs.overlays.writes_are_read.Goals as goal

pub returns : goal.returns
returns c = writes_are_read
