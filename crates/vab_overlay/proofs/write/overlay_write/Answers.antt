use Rattle.std.proofs.Common.{◌+◌, ◌≤◌, ℕ, List, length, sym, subst, arith}
use Rattle.vab_exceptions.specs.declared.area.Exception.{Exception}
use Rattle.vab_space.specs.Space.{need_of}
use Rattle.vab_space.specs.declared.Chunk.TheVariants.{One}
use Rattle.vab_store.specs.View.{Fits}
use Rattle.vab_overlay.proofs.EnteredLaws.{entered_fits, free_inside}
use Rattle.vab_overlay.proofs.write.overlay_write.Goals as goal

pub returns-clause-fits : goal.returns-clause-fits
returns-clause-fits g c = λ bound above fits.
    let store : List ℕ = c.args.store.now in
    let es : List Exception = c.args.view.now in
    let chunk : ℕ = c.in_ok-chunk.chunk in
    let enough : need_of (length es + 1) ≤ length store =
    omega (
      arith,
      c.if-have-needed.false,
      c.need-needed.ensures,
      c.count.ensures,
      c.len-have.ensures.count,
    ) in
    subst (Fits One bound store) (sym c.in_ok-next.ensures)
    (entered_fits es c.args.block chunk bound store fits above c.in_ok-chunk.ensures.lowest
    (free_inside (length es) chunk store enough c.in_ok-chunk.ensures.most) enough)
