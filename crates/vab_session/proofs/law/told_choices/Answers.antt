use Rattle.vab_exchanges.proofs.Choices.{tells_its_choices}
use Rattle.vab_session.specs.Responses.{machine}
use Rattle.vab_session.proofs.Plain.{plain}
use Rattle.vab_session.proofs.law.told_choices.Goals as goal

pub returns : goal.returns
returns c = λ turns. tells_its_choices (machine turns) plain
