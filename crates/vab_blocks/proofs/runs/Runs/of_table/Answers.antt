use Rattle.std.proofs.Common.{◌≤◌, List, length, subst, sym, ap, ◌∙◌}
use Rattle.std.specs.Prelude.{Contains}
use Rattle.std.specs.List.{flat_map}
use Rattle.std.proofs.lemmas.List.{take_all}
use Rattle.std.proofs.lemmas.Result.{IfOk-weaker}
use Rattle.vab_blocks.specs.Blocks.{blocks_of_named}
use Rattle.vab_blocks.proofs.BlockLaws.{has_block}
use Rattle.vab_blocks.proofs.runs.Runs.of_table.Goals as goal

pub returns-clause-listed : goal.returns-clause-listed
returns-clause-listed c =
    let t = c.args.table.now in
    let names = c.args.names.now in
    let at = c.loop-partition.partition-index in
    let ended : length t.partitions ≤ at =
    subst (λ (l : List _). length l ≤ at) c.as_slice-partition-items.ensures
    c.loop-partition-test.false in
    let whole = ap (flat_map (blocks_of_named t names)) (take_all at t.partitions ended) in
    let is = c.loop-partition.invariant ∙ whole in
    IfOk-weaker c.sorted.result _ _
    (λ r listed b.
    let has = has_block t names b c.requires in (
      λ h. has.0 (subst (λ (l : List _). Contains l b) is ((listed b).0 h)),
      λ h. (listed b).1 (subst (λ (l : List _). Contains l b) (sym is) (has.1 h)),
    ))
    c.sorted.ensures.listed
