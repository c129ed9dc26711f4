use Rattle.vab_rounds.proofs.Alone.{keeps}
use Rattle.vab_rounds.proofs.rounds.keeps_images.Goals as goal

pub returns : goal.returns
returns c = keeps
