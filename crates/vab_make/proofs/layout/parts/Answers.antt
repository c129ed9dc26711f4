use Rattle.std.proofs.Common.{◌≡◌, ◌<◌, ◌+◌, List, length, get_or, ap, ◌∙◌, arith}
use Rattle.vab_space.specs.Space.{blocks_of}
use Rattle.vab_set.specs.declared.set.SetImage.{SetImage}
use Rattle.vab_make.proofs.SumLaws.{blocks_push, blocks_within, blocks_few, parts_push}
use Rattle.vab_make.proofs.layout.parts.Goals as goal

pub part-requires-clause-fits : goal.part-requires-clause-fits
part-requires-clause-fits c =
    omega (
      arith,
      c.loop-image.invariant.place,
      blocks_within c.args.set.now c.loop-image.image-index,
      blocks_few c.args.set.now c.requires.each,
      c.requires.count,
    )

pub overflow_add-first : goal.overflow_add-first
overflow_add-first c =
    let set = c.args.set.now in
    let i = c.loop-image.image-index in
    let image = c.image-item.result in
    let lt : i < length set = omega (arith, ap length c.as_slice-image-items.ensures) in
    let at : image ≡ get_or set i image =
    c.image-item.is
    ∙ ap (λ (images : List SetImage). get_or images i image) c.as_slice-image-items.ensures in
    let size : c.blocks-first.result ≡ blocks_of (get_or set i image).size =
    c.blocks-first.ensures.is ∙ ap (λ (x : SetImage). blocks_of x.size) at in
    omega (
      arith,
      size,
      c.loop-image.invariant.place,
      blocks_push set i image lt,
      blocks_within set (i + 1),
      blocks_few set c.requires.each,
      c.requires.count,
    )

pub loop-image-preserved : goal.loop-image-preserved
loop-image-preserved c =
    let set = c.args.set.now in
    let i = c.loop-image.image-index in
    let image = c.image-item.result in
    let lt : i < length set = omega (arith, ap length c.as_slice-image-items.ensures) in
    let at : image ≡ get_or set i image =
    c.image-item.is
    ∙ ap (λ (images : List SetImage). get_or images i image) c.as_slice-image-items.ensures in
    let size : c.blocks-first.result ≡ blocks_of (get_or set i image).size =
    c.blocks-first.ensures.is ∙ ap (λ (x : SetImage). blocks_of x.size) at in
    record {
      place = omega (arith, size, c.loop-image.invariant.place, blocks_push set i image lt);
      parts =
          c.in_ok-push.ensures.items
          ∙ parts_push set i c.loop-image.first image c.loop-image.parts.items c.in_ok-part.part
          lt at c.loop-image.invariant.place c.loop-image.invariant.parts
          c.in_ok-part.ensures.value;
    }
