use Rattle.std.proofs.Common.{◌≡◌, ap, sym, ◌∙◌, length, rules, vec_len}
use Rattle.std.proofs.lemmas.Bool.{eq-eqb, eqb-true}
use Rattle.std.proofs.lemmas.List.{nil_from_length}
use Rattle.vab_blocks.specs.Runs.{blocks_of_runs}
use Rattle.vab_blocks.proofs.RunLaws.{no_run}
use Rattle.vab_blocks.proofs.blocks.Blocks.is_empty.Goals as goal

pub returns : goal.returns
returns c =
    let runs = c.self.inside.runs.items in
    let long : vec_len c.self.inside.runs ≡ length runs = search rules in
    let is = c.is_empty.ensures in (
      λ t. sym c.self.view_is
          ∙ ap blocks_of_runs (nil_from_length runs (sym long ∙ eqb-true _ _ (sym is ∙ t))),
      λ none.
          is ∙ eq-eqb _ _ (long ∙ ap length (no_run runs c.self.invariant (c.self.view_is ∙ none))),
    )
