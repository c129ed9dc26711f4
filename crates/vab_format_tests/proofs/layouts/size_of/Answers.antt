use Rattle.std.specs.Prelude.{◌<◌, ◌^◌, length}
use Rattle.std.specs.List.{sum_by}
use Rattle.std.proofs.Common.{arith, subst, sym}
use Rattle.vab_blocks.specs.Runs.{runs_of}
use Rattle.vab_layout.specs.declared.layout.Layout.{Layout}
use Rattle.vab_layout.proofs.LayoutLaws.{layout_runs_small}
use Rattle.vab_format_tests.proofs.layouts.size_of.Goals as goal

pub text_size-requires-clause-runs : goal.text_size-requires-clause-runs
text_size-requires-clause-runs c =
    subst (λ (l : Layout). sum_by (λ p. length (runs_of p.blocks)) l.parts < 2 ^ 58)
    (sym c.requires.layout)
    (layout_runs_small c.args.table.now c.requires.keeps
    (omega (arith, c.if-len-eq5.true, c.len.ensures)))
