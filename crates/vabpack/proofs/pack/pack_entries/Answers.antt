use Rattle.vab_set.specs.Spelling.{IsSet}
use Rattle.vabpack.proofs.Images.{names, fit}
use Rattle.vabpack.proofs.Refusals.{set_of}
use Rattle.vabpack.proofs.pack.pack_entries.Goals as goal

pub spell-requires : goal.spell-requires
spell-requires g c =
    let files = g.S.Source.bytes_at c.args.source.now in
    let asked = c.args.entries.now in
    let images = c.in_ok-read_images.field-0.items in
    let are = c.in_ok-read_images.ensures.images in
    rw c.from_vec-images.ensures (c.requires.names images (names files asked images are)
    (fit files asked images are))

pub returns-clause-set : goal.returns-clause-set
returns-clause-set g c =
    let files = g.S.Source.bytes_at c.args.source.now in
    let asked = c.args.entries.now in
    let images = c.in_ok-read_images.field-0.items in
    let are = c.in_ok-read_images.ensures.images in
    let set : IsSet images = c.requires.names images (names files asked images are)
    (fit files asked images are) in
    let spelled = rw c.from_vec-images.ensures at c.spell.ensures.spelled in
    set_of (λ v. v.items) files asked images c.spell.result are set spelled c.spell.ensures.short
