use Rattle.std.proofs.Common.{◌∙◌, sym}
use Rattle.vab_machine.proofs.Questions.{print_stays}
use Rattle.vab_machine.proofs.images.printed.Goals as goal

pub returns-clause-state : goal.returns-clause-state
returns-clause-state c = c.in_ok-copy.ensures ∙ sym (print_stays c.args.state.now c.args.name.now)
