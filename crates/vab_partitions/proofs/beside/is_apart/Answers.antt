use Rattle.std.proofs.Common.{◌++◌, ℕ, List, ap, sym, ◌∙◌}
use Rattle.std.proofs.lemmas.Result.{IfOk-weaker}
use Rattle.vab_blocks.specs.Blocks.{is_distinct}
use Rattle.vab_partitions.proofs.PartCases.{apart_then, then_apart}
use Rattle.vab_partitions.proofs.beside.is_apart.Goals as goal

pub returns : goal.returns
returns c =
    let taken = c.args.taken.now in
    let blocks = c.args.blocks.now in
    let both = ap is_distinct (c.in_ok-append.ensures
    ∙ ap (λ (l : List ℕ). l ++ blocks) c.in_ok-both.ensures) in
    IfOk-weaker c.is_distinct.result _ _
    (λ ok is. (
      λ told. apart_then taken blocks (sym (is ∙ both) ∙ told),
      λ apart. is ∙ both ∙ then_apart taken blocks c.requires.taken c.requires.blocks apart,
    ))
    c.is_distinct.ensures
