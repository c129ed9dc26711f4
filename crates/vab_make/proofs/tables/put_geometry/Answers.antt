use Rattle.std.proofs.Common.{◌≡◌, List, ℕ, inl, ap, arith, ◌∙◌}
use Rattle.std.proofs.lemmas.Result.{on_ok_weaker}
use Rattle.vab_disk.specs.Disk.{Image}
use Rattle.vab_disk.proofs.CallLaws.{touches_wider, touches_on}
use Rattle.vab_gate.specs.Gate.{set_block}
use Rattle.vab_gate.proofs.Blocks.{block_outside}
use Rattle.vab_geometry.specs.Geometry.{geometry_sector}
use Rattle.vab_make.proofs.Parts.{geometry_first}
use Rattle.vab_make.proofs.tables.put_geometry.Goals as goal

pub returns-in_err-put_block-clause-touches : goal.returns-in_err-put_block-clause-touches
returns-in_err-put_block-clause-touches g c =
    touches_wider g.D.Disk _ _ _ _ c.put_block.ensures.touches
    (λ s b is. record { from = is.first; below = omega (arith, is.last) })

pub returns-clause-touches : goal.returns-clause-touches
returns-clause-touches g c =
    touches_on g.D.Disk _ _ _ _ _ _ c.put_block.ensures.touches c.put_block-2.ensures.touches
    (λ s b is. record { from = is.first; below = omega (arith, is.last) })
    (λ s b is. record { from = omega (arith, is.first); below = is.last })

pub returns-clause-primary : goal.returns-clause-primary
returns-clause-primary g c = λ t.
    let old : Image = g.D.Disk.seen c.args.d.now in
    let mid : Image = g.D.Disk.seen c.put_block.new.d in
    let page : List ℕ = c.geometry_page-page.result in
    let first : mid 4104 ≡ geometry_sector c.args.geometry.now =
    ap (λ (i : Image). i 4104) (c.in_ok-put_block.ensures.written t)
    ∙ ap (λ (l : List ℕ). set_block old 4104 l 4104) c.geometry_page-page.ensures
    ∙ geometry_first c.args.geometry.now old 4104 in
    on_ok_weaker c.put_block-2.result
    (λ is.
    ap (λ (i : Image). i 4104) is ∙ block_outside mid 4112 page 4104 (inl (omega arith)) ∙ first)
    (c.put_block-2.ensures.written t)

pub returns-clause-backup : goal.returns-clause-backup
returns-clause-backup g c = λ t.
    let mid : Image = g.D.Disk.seen c.put_block.new.d in
    on_ok_weaker c.put_block-2.result
    (λ is.
    ap (λ (i : Image). i 4112) is
    ∙ ap (λ (l : List ℕ). set_block mid 4112 l 4112) c.geometry_page-page.ensures
    ∙ geometry_first c.args.geometry.now mid 4112)
    (c.put_block-2.ensures.written t)
