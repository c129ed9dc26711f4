use Rattle.std.proofs.Common.{ap, sym, ◌∙◌}
use Rattle.std.proofs.lemmas.Bool.{false≢true}
use Rattle.std.specs.Prelude.{Ok, Err}
use Rattle.vab_model.specs.Effects.{Effect, answers}
use Rattle.vab_model.specs.declared.command.Reply.{Reply}
use Rattle.vab_model.specs.declared.command.Reply.TheVariants as replies
use Rattle.vab_device.specs.Mounted.{Mounted}
use Rattle.vab_manager.proofs.FoundLaws.{print_is, found_name}
use Rattle.vab_manager.proofs.images.print.Goals as goal

pub unreachable-requires : goal.unreachable-requires
unreachable-requires c =
    false≢true (c.in-Err-parse.ensures.exact.1
    (found_name c.args.device.now c.args.name.now c.in-Ok.field-0.now c.in-Ok.ensures))

pub returns-in-Err : goal.returns-in-Err
returns-in-Err c = λ image.
    print_is c.args.device.now image c.args.name.now (Err c.in-Err.refusal) c.in-Err.ensures

pub returns-in-Ok-parse : goal.returns-in-Ok-parse
returns-in-Ok-parse c = λ image.
    print_is c.args.device.now image c.args.name.now (Ok c.in-Ok.field-0.now) c.in-Ok.ensures
    ∙ sym (ap (λ (r : Reply). (let e : Effect Mounted = answers r in e))
    (ap replies.Bytes c.in-Ok-parse.ensures.ok))
