use Rattle.std.proofs.Common.{List, [], sym, ap, subst, ◌∙◌}
use Rattle.std.proofs.lemmas.Result.{err_from_is_err_and}
use Rattle.vab_set.specs.declared.set.SetImage.{SetImage}
use Rattle.vab_set.specs.Reading.{Fails, image_at, images_at}
use Rattle.vab_set.proofs.Loop.{goes_on, ends, is_done, all_read, some_left}
use Rattle.vab_set.proofs.reading.read_images.Goals as goal

pub returns-in_err-image : goal.returns-in_err-image
returns-in_err-image c =
    let p = err_from_is_err_and c.from_residual.result c.from_residual.ensures.1 in
    let failed : Fails c.in_err-image.field-0.0 (image_at c.loop.images.items c.loop.rest.now) =
    subst (λ (images : List SetImage).
    Fails c.in_err-image.field-0.0 (image_at images c.loop.rest.now)) c.deref.ensures.value
    c.in_err-image.ensures in
    rw (p.1, p.2) (ends c.in_err-image.field-0.0 c.loop.images.items c.args.count c.loop.counter
    c.loop.rest.now (images_at c.args.count [] c.args.bytes.now) c.loop-test.true failed
    c.loop.invariant)

pub loop-preserved : goal.loop-preserved
loop-preserved c =
    let image = c.in_ok-image.image in
    let is = ap (λ (images : List SetImage). image_at images c.loop.rest.now)
    (sym c.deref.ensures.value) ∙ c.in_ok-image.ensures in
    rw c.in_ok-push.ensures.items (goes_on c.loop.images.items c.args.count c.loop.counter
    c.loop.rest.now image c.in_ok-image.after.now (images_at c.args.count [] c.args.bytes.now)
    c.loop-test.true is c.loop.invariant)

pub returns-then-not-is_empty : goal.returns-then-not-is_empty
returns-then-not-is_empty c =
    sym (is_done c.loop.images.items c.args.count c.loop.counter c.loop.rest.now
    (images_at c.args.count [] c.args.bytes.now) c.loop-test.false c.loop.invariant)
    ∙ some_left c.loop.images.items c.loop.rest.now
    (sym c.is_empty.ensures ∙ c.if-not-is_empty.true)

pub returns : goal.returns
returns c =
    sym (is_done c.loop.images.items c.args.count c.loop.counter c.loop.rest.now
    (images_at c.args.count [] c.args.bytes.now) c.loop-test.false c.loop.invariant)
    ∙ all_read c.loop.images.items c.loop.rest.now
    (sym c.is_empty.ensures ∙ c.if-not-is_empty.false)
