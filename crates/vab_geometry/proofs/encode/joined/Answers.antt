use Rattle.std.proofs.Common.{List, ℕ, ◌∙◌, ap, refl}
use Rattle.vab_bytes.specs.Number.{put_at}
use Rattle.vab_geometry.proofs.Joining.{three}
use Rattle.vab_geometry.proofs.encode.joined.Goals as goal

pub returns : goal.returns
returns c =
    c.put-3.ensures
    ∙ ap (λ (l : List ℕ). put_at l 40 c.args.back.now)
    (c.put-2.ensures ∙ ap (λ (l : List ℕ). put_at l 8 c.args.sum.now) c.put.ensures)
    ∙ three c.args.front.now c.args.sum.now c.args.back.now _ c.told-front c.told-sum c.told-back
    refl
