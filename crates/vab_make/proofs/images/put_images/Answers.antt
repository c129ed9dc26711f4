use Rattle.std.proofs.Common.{◌≡◌, ◌+◌, ◌*◌, ◌<◌, ℕ, List, length, get_or, take, refl, ap, ◌∙◌}
use Rattle.std.proofs.Common.{arith}
use Rattle.vab_disk.specs.Calls.{IsBetween}
use Rattle.vab_disk.proofs.CallLaws.{touches_none, touches_then, touches_wider}
use Rattle.vab_space.specs.Space.{blocks_of}
use Rattle.vab_set.specs.declared.set.SetImage.{SetImage}
use Rattle.vab_make.specs.Made.{set_blocks}
use Rattle.vab_make.proofs.SumLaws.{blocks_push, blocks_within}
use Rattle.vab_make.proofs.Parts.{images_more}
use Rattle.vab_make.proofs.TouchLaws.{around}
use Rattle.vab_make.proofs.images.put_images.Goals as goal

-- the blocks of the next image are among all
next_of : (at n i : ℕ) (set : List SetImage) (d : SetImage) (s : ℕ)
    → i < length set
    → at ≡ 6144 + 8 * set_blocks (take i set)
    → n ≡ blocks_of (get_or set i d).size
    → IsBetween at (at + 8 * n) s
    → IsBetween 6144 (6144 + 8 * set_blocks set) s
next_of at n i set d s lt place many is = record {
  from = omega (arith, is.from, place);
  below = omega (arith, is.below, place, many, blocks_push set i d lt, blocks_within set (i + 1));
}

pub loop-image-init : goal.loop-image-init
loop-image-init g c = record {
  place = refl;
  touches = touches_none g.D.Disk _ _;
  steady = refl;
  holds = λ t j d lt. absurd (omega (arith, lt));
}

pub put_image-requires : goal.put_image-requires
put_image-requires g c =
    let i = c.loop-image.invariant in
    let set : List SetImage = c.args.set.now in
    let lt : c.loop-image.image-index < length set =
    omega (arith, ap length c.as_slice-image-items.ensures, c.loop-image-test.true) in
    let at : c.image-item.result ≡ get_or set c.loop-image.image-index c.image-item.result =
    c.image-item.is
    ∙ ap (λ (images : List SetImage). get_or images c.loop-image.image-index c.image-item.result)
    c.as_slice-image-items.ensures in
    let size : c.blocks-count.result
    ≡ blocks_of (get_or set c.loop-image.image-index c.image-item.result).size =
    c.blocks-count.ensures.is ∙ ap (λ (x : SetImage). blocks_of x.size) at in
    omega (
      arith,
      size,
      i.place,
      i.touches.quiet.size,
      c.requires.on_disk,
      blocks_push set c.loop-image.image-index c.image-item.result lt,
      blocks_within set (c.loop-image.image-index + 1),
    )

pub loop-image-preserved : goal.loop-image-preserved
loop-image-preserved g c =
    let i = c.loop-image.invariant in
    let ok = c.in_ok-put_image.ensures in
    let set : List SetImage = c.args.set.now in
    let lt : c.loop-image.image-index < length set =
    omega (arith, ap length c.as_slice-image-items.ensures, c.loop-image-test.true) in
    let at : c.image-item.result ≡ get_or set c.loop-image.image-index c.image-item.result =
    c.image-item.is
    ∙ ap (λ (images : List SetImage). get_or images c.loop-image.image-index c.image-item.result)
    c.as_slice-image-items.ensures in
    let size : c.blocks-count.result
    ≡ blocks_of (get_or set c.loop-image.image-index c.image-item.result).size =
    c.blocks-count.ensures.is ∙ ap (λ (x : SetImage). blocks_of x.size) at in
    record {
      place =
          omega (
            arith,
            size,
            i.place,
            blocks_push set c.loop-image.image-index c.image-item.result lt,
          );
      touches = touches_then g.D.Disk _ _ _ _ i.touches
          (touches_wider g.D.Disk _ _ _ _ c.put_image.ensures.touches
          (λ s b is.
          next_of c.loop-image.at c.blocks-count.result c.loop-image.image-index set
          c.image-item.result s lt i.place size is));
      steady = ok.faults.steady ∙ i.steady;
      holds = λ t.
          images_more c.loop-image.image-index c.loop-image.at c.blocks-count.result set
          c.image-item.result c.as_slice.result.now (g.D.Disk.seen c.loop-image.d)
          (g.D.Disk.seen c.put_image.new.d)
          lt at i.place c.blocks-count.ensures.is c.as_slice.ensures
          (around _ _ _ _ (c.put_image.ensures.touches.seen t)) (ok.holds t) (i.holds t);
    }

pub returns-in_err-put_image-clause-touches : goal.returns-in_err-put_image-clause-touches
returns-in_err-put_image-clause-touches g c =
    let i = c.loop-image.invariant in
    let set : List SetImage = c.args.set.now in
    let lt : c.loop-image.image-index < length set =
    omega (arith, ap length c.as_slice-image-items.ensures, c.loop-image-test.true) in
    let at : c.image-item.result ≡ get_or set c.loop-image.image-index c.image-item.result =
    c.image-item.is
    ∙ ap (λ (images : List SetImage). get_or images c.loop-image.image-index c.image-item.result)
    c.as_slice-image-items.ensures in
    let size : c.blocks-count.result
    ≡ blocks_of (get_or set c.loop-image.image-index c.image-item.result).size =
    c.blocks-count.ensures.is ∙ ap (λ (x : SetImage). blocks_of x.size) at in
    touches_then g.D.Disk _ _ _ _ i.touches
    (touches_wider g.D.Disk _ _ _ _ c.put_image.ensures.touches
    (λ s b is.
    next_of c.loop-image.at c.blocks-count.result c.loop-image.image-index set c.image-item.result
    s lt i.place size is))
