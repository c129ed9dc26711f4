use Rattle.std.proofs.Common.{inr}
use Rattle.std.proofs.lemmas.Result.{err_from_is_err_and}
use Rattle.vabpack.proofs.Images.{goes_on, stops}
use Rattle.vabpack.proofs.pack.read_images.Goals as goal

pub returns-in_err-image-clause-refused : goal.returns-in_err-image-clause-refused
returns-in_err-image-clause-refused g c =
    let p = err_from_is_err_and c.from_residual.result c.from_residual.ensures.1 in
    rw (p.1, p.2) (inr (stops (g.S.Source.bytes_at c.args.source.now)
    (g.S.Source.fails c.args.source.now) c.args.entries.now c.loop-entry.entry-index
    c.loop-entry.images.items c.entry-item.result c.in_err-image.field-0.0
    c.loop-entry-test.true c.entry-item.is c.loop-entry.invariant
    c.in_err-image.ensures.refused))

pub loop-entry-preserved : goal.loop-entry-preserved
loop-entry-preserved g c = rw c.in_ok-push.ensures.items
    (goes_on (g.S.Source.bytes_at c.args.source.now) c.args.entries.now c.loop-entry.entry-index
    c.loop-entry.images.items c.entry-item.result c.in_ok-image.image c.loop-entry-test.true
    c.entry-item.is c.loop-entry.invariant c.in_ok-image.ensures.image)
