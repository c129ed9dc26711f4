use Rattle.std.proofs.lemmas.Bool.{false≢true}
use Rattle.vab_machine.specs.Views.{image_of}
use Rattle.vab_machine.proofs.Found.{found_is_name}
use Rattle.vab_machine.proofs.images.print.Goals as goal

pub unreachable-requires : goal.unreachable-requires
unreachable-requires c =
    false≢true (c.in-Err-parse.ensures.exact.1
    (found_is_name c.args.state.now c.args.name.now (image_of c.in-Ok.field-0) c.in-Ok.ensures))
