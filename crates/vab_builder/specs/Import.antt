-- The tables that begin an update and end it.
use Rattle.std.specs.Prelude.{List, [], ◌∷◌, ◌++◌, ℕ, Bool, true, false, map, bit_and, bit_or}
use Rattle.std.specs.Prelude.{if◌then◌else◌}
use Rattle.std.specs.Str.{bytes_eq}
use Rattle.vab_names.specs.Names.{in_slot, default_name, store_group_name}
use Rattle.vab_tables.specs.declared.entries.Group.{Group}
use Rattle.vab_layout.specs.declared.layout.Part.{Part}
use Rattle.vab_layout.specs.declared.layout.Layout.{Layout}
use Rattle.vab_layout.specs.Slots.{other_slot, own_parts}
use Rattle.vab_layout.specs.Plain.{default_group, own_groups}

-- the group of exception stores, without a limit
abbrev pub stores_group : Group
stores_group = record { name = store_group_name; flags = 0; maximum_size = 0 }

-- ---- the twins in another slot

-- the group of the other slot, and the one of no slot itself
abbrev pub twin_group_name : ℕ → List ℕ → List ℕ
twin_group_name slot name = if bytes_eq name default_name then name else in_slot slot name

abbrev pub twin_group : ℕ → Group → Group
twin_group slot g = record g { name = in_slot slot g.name }

-- the same blocks, and the same attributes but for that of an updated partition
abbrev pub twin_part : ℕ → Part → Part
twin_part slot p =
    record {
      name = in_slot slot p.name;
      attributes = bit_and p.attributes 9;
      group =
          twin_group_name slot p.group;
      blocks = p.blocks;
    }

-- ---- the tables

-- the source's own partitions, and then their twins where the target doesn't stand apart
abbrev pub parts_by : (apart : Bool) → ℕ → List Part → List Part
parts_by true source parts = own_parts source parts
parts_by false source parts =
    own_parts source parts ++ map (twin_part (other_slot source)) (own_parts source parts)

-- The target's table as an update begins, of the source's: the source's groups and their twins with
-- the same limits between the groups of no slot,
-- and these partitions.
unfoldable pub imported_by : (apart : Bool) → ℕ → Layout → Layout
imported_by apart source l = record {
  parts = parts_by apart source l.parts;
  groups =
      default_group ∷ (own_groups source l.groups
      ++ (map (twin_group (other_slot source)) (own_groups source l.groups) ++ stores_group ∷ []));
  device = l.device;
  flags = bit_or l.flags 1;
}

-- the same, with the twins
abbrev pub imported : ℕ → Layout → Layout
imported source l = imported_by false source l
