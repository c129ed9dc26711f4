use Rattle.std.proofs.Common.{sym, subst, ◌∙◌, List, ℕ}
use Rattle.std.specs.Prelude.{Contains}
use Rattle.vab_blocks.proofs.BlockLaws.{listed_once, listed_then}
use Rattle.vab_blocks.proofs.runs.Runs.contains.Goals as goal

pub returns-clause-listed : goal.returns-clause-listed
returns-clause-listed c =
    let b = c.args.block in
    let is = c.self.view_is in (
      λ t. subst (λ (l : List ℕ). Contains l b) is
          (listed_once c.self.inside.blocks b (sym c.contains.ensures ∙ t)),
      λ there. c.contains.ensures
          ∙ listed_then c.self.inside.blocks b
          (subst (λ (l : List ℕ). Contains l b) (sym is) there),
    )
