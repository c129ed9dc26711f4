use Rattle.std.proofs.Common.{◌≤◌, ◌^◌, length}
use Rattle.vab_device.specs.declared.device.Part.{Part}
use Rattle.vab_status.proofs.OrderLaws.{all_there}
use Rattle.vab_status.proofs.slot.push_images.Goals as goal

pub image_line-requires : goal.image_line-requires
image_line-requires c =
    all_there (λ (p : Part). length p.map ≤ 2 ^ 28) c.args.parts.now c.loop-part.part-index
    c.part-item.result c.loop-part-test.true c.part-item.is c.requires
