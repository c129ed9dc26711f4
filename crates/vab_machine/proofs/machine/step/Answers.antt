use Rattle.std.proofs.Common.{sym, subst}
use Rattle.std.specs.Option.{option_copied}
use Rattle.vab_model.specs.Commands.{command_of}
use Rattle.vab_machine.specs.Small.{IsSmall}
use Rattle.vab_machine.proofs.SmallAfter.{small_after}
use Rattle.vab_machine.proofs.machine.step.Goals as goal

pub returns-clause-small : goal.returns-clause-small
returns-clause-small c =
    subst IsSmall (sym c.in_ok-next.ensures.state)
    (small_after c.args.state.now (option_copied c.args.staged) (command_of c.args.command.now)
    c.requires)
