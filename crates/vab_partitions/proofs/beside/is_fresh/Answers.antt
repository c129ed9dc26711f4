use Rattle.std.proofs.Common.{◌≡◌, ◌++◌, ℕ, List, [], length, take, drop, ap, sym, subst, ◌∙◌}
use Rattle.std.specs.Prelude.{◌↔◌, All, Contains, IsTrue}
use Rattle.std.proofs.lemmas.Result.{IfOk-weaker}
use Rattle.vab_layout.specs.Slots.{IsDistinct}
use Rattle.vab_partitions.proofs.PartCases.{rest_of, once_drop}
use Rattle.vab_partitions.proofs.beside.is_fresh.Goals as goal

-- what is written behind nothing
behind : (fresh first blocks : List ℕ) (skip count : ℕ)
    → fresh ≡ first ++ take count (drop skip blocks)
    → first ≡ []
    → count ≡ length blocks
    → fresh ≡ drop skip blocks
behind fresh first blocks skip count is none long =
    is ∙ ap (λ (l : List ℕ). l ++ take count (drop skip blocks)) none
    ∙ ap (λ (n : ℕ). take n (drop skip blocks)) long
    ∙ rest_of blocks skip

pub is_apart-requires-clause-blocks : goal.is_apart-requires-clause-blocks
is_apart-requires-clause-blocks c =
    let blocks = c.args.blocks.now in
    let is =
    behind c.append_part.new.self _ blocks c.args.skip _ c.in_ok-append_part.ensures
    c.new-fresh.ensures c.len.ensures in
    subst IsDistinct (sym is) (once_drop c.args.skip blocks c.requires.blocks)

pub returns : goal.returns
returns c =
    let blocks = c.args.blocks.now in
    let taken = c.args.taken.now in
    let is =
    behind c.append_part.new.self _ blocks c.args.skip _ c.in_ok-append_part.ensures
    c.new-fresh.ensures c.len.ensures in
    IfOk-weaker c.is_apart.result _ _
    (λ ok told. subst (λ (l : List ℕ). IsTrue ok ↔ All (λ b. Contains taken b → ⊥) l) is told)
    c.is_apart.ensures
