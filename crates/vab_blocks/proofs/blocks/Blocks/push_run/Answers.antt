use Rattle.std.proofs.Common.{◌≡◌, ◌∷◌, [], ◌++◌, ◌∙◌, ap, sym, length, rules, arith}
use Rattle.std.specs.List.{range_with_len}
use Rattle.vab_blocks.proofs.RunLaws.{added, added_first, behind_run, grown, maximal_behind}
use Rattle.vab_blocks.proofs.blocks.Blocks.push_run.Goals as goal
use Rattle.vab_blocks.proofs.blocks.Blocks.push_run.Goals.{else-end-gt0-via-then-end-gt0+else-touches}
use Rattle.vab_blocks.proofs.blocks.Blocks.push_run.Goals.{else-end-gt0-via-else-end-gt0}

pub invariant_of-self : goal.invariant_of-self
invariant_of-self c =
    let runs = c.self.inside.runs.items in
    let long : c.len-end.result ≡ length runs = search rules in
    let grows =
    grown runs c.index.result.now c.index_mut.result.now c.len-end.result c.args.first
    c.args.count long (omega arith) c.index.ensures c.index_mut.ensures.value
    (sym c.touches.ensures ∙ c.if-touches.true) in
    (maximal_behind runs _ c.args.first c.args.count c.self.invariant (omega arith) c.requires
    grows).0

pub returns-then-touches-clause-ok : goal.returns-then-touches-clause-ok
returns-then-touches-clause-ok c =
    let runs = c.self.inside.runs.items in
    let long : c.len-end.result ≡ length runs = search rules in
    let grows =
    grown runs c.index.result.now c.index_mut.result.now c.len-end.result c.args.first
    c.args.count long (omega arith) c.index.ensures c.index_mut.ensures.value
    (sym c.touches.ensures ∙ c.if-touches.true) in
    (maximal_behind runs _ c.args.first c.args.count c.self.invariant (omega arith) c.requires
    grows).1
    ∙ ap (λ l. l ++ range_with_len c.args.first c.args.count) c.self.view_is

pub invariant_of-self-2 : goal.invariant_of-self-2
invariant_of-self-2 c =
    let runs = c.self.inside.runs.items in
    let long : c.len-end.result ≡ length runs = search rules in
    let grows : runs ++ (c.args.first, c.args.count) ∷ []
    ≡ behind_run runs c.args.first c.args.count = elim c.else-end-gt0.branch [
      | else-end-gt0-via-then-end-gt0+else-touches w ↦
          added runs w.index.result.now c.len-end.result c.args.first c.args.count long
          w.index.ensures (sym w.touches.ensures ∙ w.if-touches.false)
      | else-end-gt0-via-else-end-gt0 w ↦
          added_first runs c.len-end.result c.args.first c.args.count long w.if-end-gt0.false
    ] in
    (maximal_behind runs _ c.args.first c.args.count c.self.invariant (omega arith) c.requires
    (c.in_ok-push.ensures.items ∙ grows)).0
