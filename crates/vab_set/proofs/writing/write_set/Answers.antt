use Rattle.std.proofs.Common.{◌≡◌, ◌++◌, List, ℕ, length, take, get_or, sym, ap, subst, ◌∙◌}
use Rattle.std.proofs.Common.{append_assoc, take_all, arith, rules}
use Rattle.std.specs.Int.{w32, to_le_bytes}
use Rattle.vab_set.specs.declared.set.SetImage.{SetImage}
use Rattle.vab_set.specs.Spelling.{magic, IsImage, images_text, image_text, set_text}
use Rattle.vab_set.proofs.SetLaws.{base_short}
use Rattle.vab_set.proofs.Loop.{images_text-more}
use Rattle.vab_set.proofs.writing.write_set.Goals as goal

pub loop-image-init : goal.loop-image-init
unfolding images_text
loop-image-init c = search rules

pub put_image-requires : goal.put_image-requires
put_image-requires c =
    let images : List SetImage = c.args.set.now in
    let item = c.image-item.result in
    let same = c.as_slice-image-items.ensures in
    let is : item ≡ get_or images c.loop-image.image-index item = c.image-item.is
    ∙ ap (λ (l : List SetImage). get_or l c.loop-image.image-index item) same in
    let fits : IsImage item = subst IsImage (sym is)
    (c.requires.each c.loop-image.image-index item (omega (arith, ap length same))) in
    base_short item.name fits.name

pub loop-image-preserved : goal.loop-image-preserved
loop-image-preserved c =
    let images : List SetImage = c.as_slice-image-items.result.now in
    let head : List ℕ = magic ++ to_le_bytes w32 (length c.args.set.now) in
    let more = images_text-more images c.loop-image.image-index c.image-item.result
    c.loop-image-test.true in
    c.in_ok-put_image.ensures ∙ ap (λ (l : List ℕ). l ++ image_text c.image-item.result)
    c.loop-image.invariant
    ∙ append_assoc head (images_text (take c.loop-image.image-index images))
    (image_text c.image-item.result)
    ∙ ap (λ (i : SetImage). head ++ (images_text (take c.loop-image.image-index images)
    ++ image_text i)) c.image-item.is
    ∙ ap (λ (l : List ℕ). head ++ l) (sym more)

pub returns : goal.returns
unfolding set_text
returns c =
    let images : List SetImage = c.as_slice-image-items.result.now in
    let head : List ℕ = magic ++ to_le_bytes w32 (length c.args.set.now) in
    let all : take c.loop-image.image-index images ≡ images =
    take_all c.loop-image.image-index images (omega arith) in
    c.loop-image.invariant ∙ ap (λ (l : List SetImage). head ++ images_text l)
    (all ∙ c.as_slice-image-items.ensures)
