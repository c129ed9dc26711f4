use Rattle.std.proofs.Common.{◌∙◌, ℕ, ap}
use Rattle.vab_super_image.specs.SuperImage.{super_image_of}
use Rattle.vab_machine.proofs.SideLaws.{image_side}
use Rattle.vab_super_image.proofs.OwnLaws.{if_own_image}
use Rattle.vab_machine.proofs.wipe.image_in.Goals as goal

pub returns-in-Ok-clause-exact : goal.returns-in-Ok-clause-exact
returns-in-Ok-clause-exact c =
    c.in-Ok.ensures.exact
    ∙ ap (λ (slot : ℕ). super_image_of slot c.args.bytes.now) c.a_or_b.ensures.is
    ∙ image_side c.args.slot c.args.bytes.now

pub returns-in-Ok-clause-own : goal.returns-in-Ok-clause-own
returns-in-Ok-clause-own c =
    if_own_image c.args.slot c.args.bytes.now c.in-Ok.image (returns-in-Ok-clause-exact c)
