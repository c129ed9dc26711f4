use Rattle.std.proofs.Common.{◌∙◌, sym}
use Rattle.vab_fbvars.proofs.OnDevice.{base_kept, planned_on, or_true, or_false}
use Rattle.vab_fbvars.proofs.images.has_base.Goals as goal

pub returns-then-is_some : goal.returns-then-is_some
returns-then-is_some c = λ image.
    let d = c.args.device.now in
    or_true _ _
    (base_kept d image 0 c.args.base.now c.kept_part.result _ c.kept_part.ensures c.is_some.ensures
    ∙ c.if-is_some.true)

pub returns-then-is_some-2 : goal.returns-then-is_some-2
returns-then-is_some-2 c = λ image.
    let d = c.args.device.now in
    or_false _ _ _
    (base_kept d image 0 c.args.base.now c.kept_part.result _ c.kept_part.ensures c.is_some.ensures
    ∙ c.if-is_some.false)
    (or_true _ _
    (base_kept d image 1 c.args.base.now c.kept_part-2.result _ c.kept_part-2.ensures
    c.is_some-2.ensures
    ∙ c.if-is_some-2.true))

pub returns : goal.returns
returns c = λ image.
    let d = c.args.device.now in
    or_false _ _ _
    (base_kept d image 0 c.args.base.now c.kept_part.result _ c.kept_part.ensures c.is_some.ensures
    ∙ c.if-is_some.false)
    (or_false _ _ _
    (base_kept d image 1 c.args.base.now c.kept_part-2.result _ c.kept_part-2.ensures
    c.is_some-2.ensures
    ∙ c.if-is_some-2.false)
    (planned_on d image c.args.base.now ∙ sym c.is_planned.ensures))
