use Rattle.std.proofs.Common.{ℕ, ◌<◌, List, length, get_or, sym, ap, ◌∙◌, arith}
use Rattle.vab_linear.specs.declared.map.Run.{Run}
use Rattle.vab_linear.specs.Held.{held_of}
use Rattle.vab_linear.proofs.Runs.{run_left, left_here, left_later, length-left}
use Rattle.vab_linear.proofs.map.Map.sector_of.Goals as goal

pub returns-then-left-run-clause-sector : goal.returns-then-left-run-clause-sector
returns-then-left-run-clause-sector c =
    let none : Run = record { first = 0; blocks = 0 } in
    let runs : List Run = c.deref-run-items.result.now in
    let below : c.loop-run.run-index < length runs = omega arith in
    sym (left_here runs c.loop-run.run-index c.loop-run.left none below c.if-left-run.true)
    ∙ c.loop-run.invariant.same
    ∙ ap (λ (l : List Run). get_or (held_of l) c.args.block 0) c.deref-run-items.ensures.value
    ∙ ap (λ (l : List ℕ). get_or l c.args.block 0) c.self.view_is

pub loop-run-preserved : goal.loop-run-preserved
loop-run-preserved c =
    let i = c.loop-run.invariant in
    let none : Run = record { first = 0; blocks = 0 } in
    let runs : List Run = c.deref-run-items.result.now in
    let below : c.loop-run.run-index < length runs = omega arith in
    record {
      some = omega (
        arith,
        i.some,
        c.if-left-run.false,
        length-left runs c.loop-run.run-index none
            below,
      );
      same = sym (left_later runs c.loop-run.run-index c.loop-run.left none below
          c.if-left-run.false) ∙ i.same;
    }

pub unreachable-requires : goal.unreachable-requires
unreachable-requires c =
    let runs : List Run = c.deref-run-items.result.now in
    let below : c.loop-run.run-index < length runs =
    run_left runs c.loop-run.run-index c.loop-run.left c.loop-run.invariant.some in
    omega arith
