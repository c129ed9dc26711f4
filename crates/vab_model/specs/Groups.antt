-- The groups of a slot's table, without the slot's suffix.
use Rattle.std.specs.Prelude.{ℕ, if◌then◌else◌, List, map, Option, Some, None}
use Rattle.std.specs.Str.{bytes_eq}
use Rattle.vab_names.specs.Names.{base_of, default_name}
use Rattle.vab_tables.specs.declared.entries.Group.{Group}
use Rattle.vab_layout.specs.Plain.{own_groups}
use Rattle.vab_model.specs.declared.state.GroupLimit.{GroupLimit}

-- the groups of a slot, each with its limit
abbrev pub limits_of : ℕ → List Group → List GroupLimit
limits_of slot groups =
    map (λ g. record { name = base_of g.name; limit = g.maximum_size }) (own_groups slot groups)

-- the group of a name; `None` is that of no slot
abbrev pub group_of : List ℕ → Option (List ℕ)
group_of name = if bytes_eq name default_name then None else Some (base_of name)
