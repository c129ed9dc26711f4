use Rattle.std.proofs.Common.{◌∙◌, List, ℕ, true, false, refl, sym, ap}
use Rattle.vab_model.specs.Commands.{Create, Resize}
use Rattle.vab_device.specs.Mounted.{state_on, mounted_on}
use Rattle.vab_fbvars.specs.Variables.{has_image}
use Rattle.vab_update.proofs.InstallLaws.{size_is}
use Rattle.vab_update.proofs.installing.size_command.Goals as goal

pub returns-then-is_there-clause-is : goal.returns-then-is_there-clause-is
returns-then-is_there-clause-is c = λ disk.
    let d = c.args.device.now in
    let image = c.args.image.now in
    size_is c.args.source image (mounted_on d disk) true c.args.name.now
    (Resize c.args.name.now image.size)
    (ap (λ (n : List ℕ). has_image (state_on d disk) c.args.source n) (sym c.text.ensures.value)
    ∙ c.is_there.ensures disk
    ∙ c.if-is_there.true)
    c.requires.named refl

pub returns-else-is_there-clause-is : goal.returns-else-is_there-clause-is
returns-else-is_there-clause-is c = λ disk.
    let d = c.args.device.now in
    let image = c.args.image.now in
    size_is c.args.source image (mounted_on d disk) false c.args.name.now
    (Create c.args.name.now image.size)
    (ap (λ (n : List ℕ). has_image (state_on d disk) c.args.source n) (sym c.text.ensures.value)
    ∙ c.is_there.ensures disk
    ∙ c.if-is_there.false)
    c.requires.named refl
