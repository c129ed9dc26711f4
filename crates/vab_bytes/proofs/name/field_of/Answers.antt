use Rattle.std.proofs.Common.{ℕ, List, ◌++◌, length, drop, replicate, ◌∙◌, ap}
use Rattle.std.proofs.lemmas.List.{drop-replicate}
use Rattle.vab_bytes.proofs.name.field_of.Goals as goal

pub returns : goal.returns
returns c =
    let text : List ℕ = c.args.text.now in
    ap (λ (t : List ℕ). t ++ drop (length text) (replicate 36 0)) c.copy_from_slice.ensures.after
    ∙ ap (λ (t : List ℕ). text ++ t) (drop-replicate (length text) 36 0)
