-- A slot's table without stores and without what belongs to the other slot.
use Rattle.std.specs.Prelude.{List, ◌∷◌, ℕ}
use Rattle.std.specs.List.{filter}
use Rattle.vab_names.specs.Names.{is_of_slot, default_name}
use Rattle.vab_tables.specs.declared.entries.Group.{Group}
use Rattle.vab_layout.specs.declared.layout.Layout.{Layout}
use Rattle.vab_layout.specs.Slots.{own_parts}

-- the group of no slot, without a limit
abbrev pub default_group : Group
default_group = record { name = default_name; flags = 0; maximum_size = 0 }

-- the groups of a slot, in their order
abbrev pub own_groups : ℕ → List Group → List Group
own_groups slot groups = filter (λ g. is_of_slot slot g.name) groups

-- the slot's own partitions, and its groups behind that of no slot
unfoldable pub plain : ℕ → Layout → Layout
plain slot l = record {
  parts = own_parts slot l.parts;
  groups = default_group ∷ own_groups slot l.groups;
  device = l.device;
  flags = l.flags;
}
