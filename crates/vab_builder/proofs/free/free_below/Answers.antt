use Rattle.std.proofs.Common.{◌≡◌, ℕ, List, ap, subst, ◌∙◌}
use Rattle.std.specs.Prelude.{IfOk}
use Rattle.vab_blocks.specs.Blocks.{free_below}
use Rattle.vab_builder.proofs.Counting.{free_same}
use Rattle.vab_builder.proofs.free.free_below.Goals as goal

pub returns : goal.returns
returns c =
    let same =
    free_same c.cap.result c.in_ok-taken.taken c.args.taken.now c.in_ok-taken.ensures.listed in
    let is = same ∙ ap (λ (n : ℕ). free_below n c.args.taken.now) c.cap.ensures in
    subst (λ (xs : List ℕ). IfOk c.free.result (λ r. r ≡ xs)) is c.free.ensures.value
