use Rattle.std.proofs.Common.{◌≡◌, ◌<◌, ◌+◌, List, length, get_or, ap, ◌∙◌, arith}
use Rattle.vab_space.specs.Space.{blocks_of}
use Rattle.vab_set.specs.declared.set.SetImage.{SetImage}
use Rattle.vab_make.proofs.SumLaws.{blocks_push, blocks_within, blocks_few}
use Rattle.vab_make.proofs.checks.set_blocks.Goals as goal

pub overflow_add-sum : goal.overflow_add-sum
overflow_add-sum c =
    let set = c.args.set.now in
    let i = c.loop-image.image-index in
    let image = c.image-item.result in
    let lt : i < length set = omega (arith, ap length c.as_slice-image-items.ensures) in
    let at : image ≡ get_or set i image =
    c.image-item.is
    ∙ ap (λ (images : List SetImage). get_or images i image) c.as_slice-image-items.ensures in
    let size : c.blocks-sum.result ≡ blocks_of (get_or set i image).size =
    c.blocks-sum.ensures.is ∙ ap (λ (x : SetImage). blocks_of x.size) at in
    omega (
      arith,
      size,
      c.loop-image.invariant,
      blocks_push set i image lt,
      blocks_within set (i + 1),
      blocks_few set c.requires.each,
      c.requires.count,
    )

pub returns-clause-few : goal.returns-clause-few
returns-clause-few c =
    omega (
      arith,
      c.loop-image.invariant,
      blocks_within c.args.set.now c.loop-image.image-index,
      blocks_few c.args.set.now c.requires.each,
      c.requires.count,
    )
