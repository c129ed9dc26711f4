use Rattle.std.proofs.Common.{ℕ, List, subst}
use Rattle.vab_overlaying.specs.Prepared.{Refuses, IsMeasured}
use Rattle.vab_overlaying.proofs.MeasuredLaws.{if_memory, refuses_memory}
use Rattle.vab_overlaying.proofs.prepared.prepare.Goals as goal

pub returns-clause-refused : goal.returns-clause-refused
returns-clause-refused c =
    let d = c.args.device.now in
    if_memory c.spelled.result (Refuses d c.args.name.now c.args.size)
    (refuses_memory d c.args.name.now c.args.size c.in_ok-blocks.blocks
    (subst (λ (n : List ℕ). IsMeasured d n c.args.size c.in_ok-blocks.blocks)
    c.in_ok-name.ensures.name c.in_ok-blocks.ensures.measured))
    c.spelled.ensures.refused
