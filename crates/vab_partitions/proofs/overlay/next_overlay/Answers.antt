use Rattle.std.proofs.Common.{◌≡◌, ℕ, ◌<◌, ◌≤◌, List, length, get_or, refl, ap, arith, ◌∙◌}
use Rattle.vab_tables.specs.declared.entries.Partition.{Partition}
use Rattle.vab_partitions.proofs.OverlayLaws.{other_overlay, next_pair, no_more}
use Rattle.vab_partitions.proofs.overlay.next_overlay.Goals as goal

pub loop-at-init : goal.loop-at-init
loop-at-init c = refl

pub returns-in-Some-clause-next : goal.returns-in-Some-clause-next
returns-in-Some-clause-next c =
    let t = c.args.table.now in
    let i : ℕ = c.loop-at.at in
    let s : Partition = c.index-partitions-at.result in
    let items = c.as_slice-partitions.ensures in
    let at : s ≡ get_or t.partitions i s =
    c.index-partitions-at.is ∙ ap (λ (l : List Partition). get_or l i s) items in
    let lt : i < length t.partitions = omega (arith, ap length items, c.loop-at-test.true) in
    c.loop-at.invariant
    ∙ next_pair c.args.slot t i c.in-Some.partition.now s lt at c.in-Some.ensures.is

pub loop-at-preserved : goal.loop-at-preserved
loop-at-preserved c =
    let t = c.args.table.now in
    let i : ℕ = c.loop-at.at in
    let s : Partition = c.index-partitions-at.result in
    let items = c.as_slice-partitions.ensures in
    let at : s ≡ get_or t.partitions i s =
    c.index-partitions-at.is ∙ ap (λ (l : List Partition). get_or l i s) items in
    let lt : i < length t.partitions = omega (arith, ap length items, c.loop-at-test.true) in
    c.loop-at.invariant ∙ other_overlay c.args.slot t i s lt at c.in_default.ensures.is

pub returns-clause-none : goal.returns-clause-none
returns-clause-none c =
    let t = c.args.table.now in
    let done : length t.partitions ≤ c.loop-at.at =
    omega (arith, ap length c.as_slice-partitions.ensures, c.loop-at-test.false) in
    c.loop-at.invariant ∙ no_more c.args.slot t c.loop-at.at done
