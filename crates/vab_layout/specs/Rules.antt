-- The rules that a layout keeps whose table keeps the rules of tables.
use Rattle.std.specs.Prelude.{◌≡◌, ℕ, ◌<◌, ◌^◌, List, map, bit_and, All, Contains}
use Rattle.vab_bytes.specs.Name.{IsName}
use Rattle.vab_tables.specs.declared.entries.Group.{Group}
use Rattle.vab_tables.specs.Rules.{cap_of, IsDevice, IsGroup, NamesDiffer}
use Rattle.vab_layout.specs.declared.layout.Part.{Part}
use Rattle.vab_layout.specs.declared.layout.Layout.{Layout}

abbrev pub names_of_groups : List Group → List (List ℕ)
names_of_groups groups = map (λ g. g.name) groups

-- its name, the attributes that a table has, a group that there is, and blocks of the device
pub record IsPart (cap : ℕ) (groups : List Group) (p : Part) : Type 0 where
  pub name : IsName p.name
  pub attributes : bit_and p.attributes 13 ≡ p.attributes
  pub small : p.attributes < 2 ^ 32
  pub group : Contains (names_of_groups groups) p.group
  pub blocks : All (λ b. b < cap) p.blocks

pub record IsLayout (l : Layout) : Type 0 where
  pub device : IsDevice l.device
  pub flags : l.flags < 2 ^ 32
  pub groups : All IsGroup l.groups
  pub group_names : NamesDiffer (λ g. g.name) l.groups
  pub parts : All (IsPart (cap_of l.device) l.groups) l.parts
  pub part_names : NamesDiffer (λ p. p.name) l.parts
