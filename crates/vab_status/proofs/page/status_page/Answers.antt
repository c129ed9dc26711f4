use Rattle.std.proofs.Common.{rules, ◌≡◌, ◌∙◌, sym}
use Rattle.vab_device.specs.Kept.{parts_at}
use Rattle.vab_status.proofs.PageLaws.{small_overlay, kept_page, page_on}
use Rattle.vab_status.proofs.page.status_page.Goals as goal

pub push_overlay-requires : goal.push_overlay-requires
push_overlay-requires c =
    small_overlay c.args.device.now.tail.super_end
    (parts_at c.args.device.now c.args.device.now.mark.slot)
    c.args.device.now.overlay c.requires.1.overlay

pub returns : goal.returns
returns c = λ size image is whole.
    let told : c.push_overlay.new.page.items ≡ kept_page c.args.device.now = search rules in
    told ∙ sym (page_on c.args.device.now size image is whole)
