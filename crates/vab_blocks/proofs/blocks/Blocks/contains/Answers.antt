use Rattle.std.proofs.Common.{ℕ, eqb, ap, sym, ◌∙◌}
use Rattle.std.specs.List.{list_any, range_with_len}
use Rattle.vab_blocks.proofs.Pieces.{any_runs}
use Rattle.vab_blocks.proofs.RunLaws.{runs_again}
use Rattle.vab_blocks.specs.Runs.{runs_of}
use Rattle.vab_blocks.proofs.blocks.Blocks.contains.Goals as goal

pub returns : goal.returns
returns c =
    let p = λ (b : ℕ). eqb b c.args.block in
    let test = list_any (λ (run : ℕ × ℕ). list_any p (range_with_len run.0 run.1)) in
    c.any_has.ensures ∙ ap test c.runs.ensures.value
    ∙ sym (any_runs p (runs_of c.args.self.now))
    ∙ ap (list_any p) (runs_again c.args.self.now)
