use Rattle.vab_device.specs.Kept.{parts_at}
use Rattle.vab_status.proofs.PageLaws.{small_overlay}
use Rattle.vab_look.proofs.facts.status_facts.Goals as goal

pub push_overlay-requires : goal.push_overlay-requires
push_overlay-requires c =
    small_overlay c.args.device.now.tail.super_end
    (parts_at c.args.device.now c.args.device.now.mark.slot)
    c.args.device.now.overlay c.requires.1.overlay
