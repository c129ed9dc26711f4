use Rattle.std.proofs.Common.{◌∙◌, List, Ok, sym, ap}
use Rattle.vab_exceptions.specs.declared.area.Exception.{Exception}
use Rattle.vab_space.specs.declared.Chunk.TheVariants.{One}
use Rattle.vab_layout.specs.Layout.{layout_of}
use Rattle.vab_recover.proofs.PlanLaws.{placed_there}
use Rattle.vab_recover.proofs.plan.scan_placed.Goals as goal

pub returns-then-is_placed-clause-ok : goal.returns-then-is_placed-clause-ok
returns-then-is_placed-clause-ok c = λ image.
    let l = layout_of c.args.table.now in
    placed_there c.args.fewer c.args.may c.args.slot l c.args.name.now image c.if-may.true
    (sym c.is_placed.ensures ∙ c.if-is_placed.true)
    ∙ ap
    (λ (es : List Exception).
    Ok (record { name = c.args.name.now; chunk = One; exceptions = es })) (sym c.empty.ensures)
