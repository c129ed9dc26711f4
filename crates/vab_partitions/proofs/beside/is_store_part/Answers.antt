use Rattle.std.proofs.Common.{ℕ, List, subst, sym}
use Rattle.std.specs.Prelude.{All, Contains}
use Rattle.std.proofs.lemmas.Result.{IfOk-weaker}
use Rattle.vab_partitions.proofs.beside.is_store_part.Goals as goal

pub returns : goal.returns
returns c =
    let blocks : List ℕ = c.args.part.now.blocks in
    let stands = c.is_store_alone.ensures.0 c.if-not-is_store_alone.false in
    IfOk-weaker c.is_apart.result _ _
    (λ ok told. (
      λ t. record {
        group = stands.group;
        of_part = stands.of_part;
        apart = subst (λ (l : List ℕ). All (λ b. Contains l b → ⊥) blocks) c.requires.taken
            (told.0 t);
      },
      λ is. told.1
          (subst (λ (l : List ℕ). All (λ b. Contains l b → ⊥) blocks) (sym c.requires.taken)
          is.apart),
    ))
    c.is_apart.ensures
