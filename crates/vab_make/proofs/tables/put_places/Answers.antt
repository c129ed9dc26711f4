use Rattle.std.proofs.Common.{◌≡◌, ℕ, inl, inr, ap, subst, arith}
use Rattle.std.proofs.lemmas.Result.{on_ok_weaker}
use Rattle.vab_disk.specs.Calls.{Touches, InSectors}
use Rattle.vab_disk.proofs.CallLaws.{touches_wider, touches_on}
use Rattle.vab_geometry.specs.declared.geometry.Geometry.{Geometry}
use Rattle.vab_lpstore.specs.Layout.{BothHold}
use Rattle.vab_make.specs.Made.{made_geometry}
use Rattle.vab_make.specs.Touched.{IsOfCopies}
use Rattle.vab_make.proofs.StateLaws.{most_geometry}
use Rattle.vab_make.proofs.Parts.{sector_kept}
use Rattle.vab_make.proofs.TouchLaws.{below_copies}
use Rattle.vab_make.proofs.tables.put_places.Goals as goal

pub returns-in_err-put_geometry-clause-touches : goal.returns-in_err-put_geometry-clause-touches
returns-in_err-put_geometry-clause-touches g c =
    touches_wider g.D.Disk _ _ _ _ c.put_geometry.ensures.touches (λ s b is. inl is)

pub returns-clause-touches : goal.returns-clause-touches
returns-clause-touches g c =
    let max : c.made_geometry-geometry.result.max ≡ c.args.max =
    ap (λ (x : Geometry). x.max) c.made_geometry-geometry.ensures in
    touches_on g.D.Disk _ _ _ _ _ _ c.put_geometry.ensures.touches
    (subst
    (λ (m : ℕ). Touches g.D.Disk (InSectors (IsOfCopies m)) c.put_geometry.new.d c.put_table.new.d)
    max
    c.put_table.ensures.touches)
    (λ s b is. inl is) (λ s b is. inr is)

pub returns-clause-places : goal.returns-clause-places
returns-clause-places g c = λ t.
    let new = g.D.Disk.seen c.put_table.new.d in
    let mid = g.D.Disk.seen c.put_geometry.new.d in
    let is : c.made_geometry-geometry.result ≡ made_geometry c.args.max =
    c.made_geometry-geometry.ensures in
    let most = most_geometry c.args.max c.requires.most in
    let same = below_copies _ _ _ (c.put_table.ensures.touches.seen t) in
    on_ok_weaker c.put_table.result
    (λ stored. record {
      primary =
          sector_kept mid new c.made_geometry-geometry.result c.args.max 4104 is most
          (c.in_ok-put_geometry.ensures.primary t) (same 4104 (omega arith));
      backup =
          sector_kept mid new c.made_geometry-geometry.result c.args.max 4112 is most
          (c.in_ok-put_geometry.ensures.backup t) (same 4112 (omega arith));
      table = subst (λ (x : Geometry). BothHold x 0 c.args.text.now new) is stored;
    })
    (c.put_table.ensures.stored t)
