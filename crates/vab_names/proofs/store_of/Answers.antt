use Rattle.std.proofs.Common.{◌++◌, List, ℕ, subst, sym}
use Rattle.vab_bytes.specs.Name.{IsName}
use Rattle.vab_names.specs.Names.{store_of, store_suffix}
use Rattle.vab_names.proofs.NameLaws.{store_is_name}
use Rattle.vab_names.proofs.store_of.Goals as goal

pub joined-requires-clause-name : goal.joined-requires-clause-name
unfolding store_of
joined-requires-clause-name c =
    let P : List ℕ → Type 0 = λ text. IsName (text ++ store_suffix) in
    subst P (sym c.text.ensures.value) (store_is_name c.args.name.now c.text.ensures.name
    c.requires)
