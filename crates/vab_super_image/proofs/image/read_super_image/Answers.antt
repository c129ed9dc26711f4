use Rattle.std.proofs.Common.{◌≡◌, ◌∙◌, Option, sym, ap, subst, arith}
use Rattle.std.specs.Prelude.{IfOk, Ok, Err}
use Rattle.vab_geometry.specs.Reading.{geometry_of}
use Rattle.vab_super_image.specs.declared.image.SuperImage.{SuperImage}
use Rattle.vab_super_image.proofs.ReadLaws.{too_short, long_enough}
use Rattle.vab_super_image.proofs.image.read_super_image.Goals as goal

pub returns-then-bytes-lt-BLOCK-clause-exact : goal.returns-then-bytes-lt-BLOCK-clause-exact
returns-then-bytes-lt-BLOCK-clause-exact c =
    sym (too_short c.args.slot c.args.bytes.now (omega (arith, c.if-bytes-lt-BLOCK.true)))

pub returns-in-Err-clause-exact : goal.returns-in-Err-clause-exact
returns-in-Err-clause-exact c =
    sym (long_enough c.args.slot c.args.bytes.now (Err c.in-Err.field-0)
    (omega (arith, c.if-bytes-lt-BLOCK.false))
    (sym (c.in-Err.ensures.exact ∙ ap geometry_of c.first_sector.ensures)))

pub returns-in-Ok-clause-exact : goal.returns-in-Ok-clause-exact
returns-in-Ok-clause-exact c =
    subst (λ (s : Option SuperImage). IfOk c.behind.result (λ i. i ≡ s))
    (sym (long_enough c.args.slot c.args.bytes.now (Ok c.in-Ok.geometry)
    (omega (arith, c.if-bytes-lt-BLOCK.false))
    (sym (c.in-Ok.ensures.exact ∙ ap geometry_of c.first_sector.ensures))))
    c.behind.ensures.exact
