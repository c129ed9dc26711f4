use Rattle.std.proofs.Common.{sym, ◌∙◌}
use Rattle.std.proofs.lemmas.Bool.Decides.{Decides-eqb}
use Rattle.std.proofs.lemmas.Slice.Eq.{slice_eq-Decides}
use Rattle.vab_partitions.proofs.beside.is_in_store_group.Goals as goal

pub returns : goal.returns
returns c =
    let decides = slice_eq-Decides Decides-eqb _ _ _ c.eq.ensures in (
      λ told. decides.0 told ∙ c.store_group.ensures,
      λ same. decides.1 (same ∙ sym c.store_group.ensures),
    )
