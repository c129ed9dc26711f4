-- The group of no slot has no limit.
use Rattle.std.proofs.Common.{◌≡◌, ℕ, true, List, [], ◌∷◌, inl, inr, refl}
use Rattle.std.specs.Prelude.{All, IsTrue}
use Rattle.std.specs.Str.{bytes_eq}
use Rattle.std.proofs.lemmas.Bool.{cases_Bool}
use Rattle.std.proofs.lemmas.List.Elements.{All-head, All-tail}
use Rattle.vab_names.specs.Names.{default_name}
use Rattle.vab_tables.specs.Rules.{is_shared, IsGroup}
use Rattle.vab_tables.specs.declared.entries.Group.{Group}
use Rattle.vab_builder.specs.Sizes.{limit_of}

default_shared : (name : List ℕ) → bytes_eq name default_name ≡ true → IsTrue (is_shared name)
unfolding is_shared
default_shared name t = rw t refl

-- of groups that keep the rules of a table's
pub default_unlimited : (groups : List Group)
    → All IsGroup groups
    → limit_of groups default_name ≡ 0
default_unlimited [] each = refl
default_unlimited (g ∷ gs) each = elim (cases_Bool (bytes_eq g.name default_name)) [
  | inl t ↦
      rw t ((All-head IsGroup g gs each).unlimited (default_shared g.name t))
  | inr f ↦ rw f (default_unlimited gs (All-tail IsGroup g gs each))
]
