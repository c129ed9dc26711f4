use Rattle.std.proofs.Common.{◌∙◌, sym}
use Rattle.vab_machine.proofs.Questions.{digest_stays}
use Rattle.vab_machine.proofs.images.digested.Goals as goal

pub returns-clause-state : goal.returns-clause-state
returns-clause-state c = c.in_ok-copy.ensures ∙ sym (digest_stays c.args.state.now c.args.name.now)
