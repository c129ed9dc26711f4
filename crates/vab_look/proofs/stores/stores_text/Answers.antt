use Rattle.std.proofs.Common.{◌∙◌, Ok, ap}
use Rattle.vab_disk.specs.Disk.{Image}
use Rattle.vab_device.specs.Mounted.{mounted_on}
use Rattle.vab_look.proofs.stores.stores_text.Goals as goal

pub returns-in-Ok-stores_of-clause-page : goal.returns-in-Ok-stores_of-clause-page
returns-in-Ok-stores_of-clause-page g c = λ t. (
  c.in-Ok.device,
  c.in-Ok.ensures.kept,
  c.in-Ok.ensures.device t
      ∙ ap (λ (i : Image). Ok (mounted_on c.in-Ok.device i)) (c.in-Ok.ensures.reads.seen t),
  c.in-Ok-stores_of.ensures,
)
