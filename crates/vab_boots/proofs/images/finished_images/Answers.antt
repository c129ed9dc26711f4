use Rattle.vab_boots.proofs.Keeping.{finishes, cancels, same_images}
use Rattle.vab_boots.proofs.images.finished_images.Goals as goal

pub returns-clause-target : goal.returns-clause-target
returns-clause-target c = finishes

pub returns-clause-cancelled : goal.returns-clause-cancelled
returns-clause-cancelled c = cancels

pub returns-clause-others : goal.returns-clause-others
returns-clause-others c = same_images
