-- A slot's table with an exception store over one of its partitions.
use Rattle.std.specs.Prelude.{◌≡◌, ℕ, List, [], ◌∷◌, ◌++◌, length, take, Some}
use Rattle.vab_names.specs.Names.{store_of, store_group_name}
use Rattle.vab_tables.specs.Rules.{cap_of}
use Rattle.vab_blocks.specs.Blocks.{free_below}
use Rattle.vab_layout.specs.declared.layout.Part.{Part}
use Rattle.vab_layout.specs.declared.layout.Layout.{Layout}
use Rattle.vab_layout.specs.Layout.{blocks_of_parts}
use Rattle.vab_layout.specs.Slots.{own_parts}
use Rattle.vab_layout.specs.Plain.{default_group, own_groups, plain}
use Rattle.vab_layout.specs.Overlay.{overlaid_in, IsOverlaidBy}
use Rattle.vab_builder.specs.Import.{stores_group}

-- the blocks of none of the slot's own partitions
abbrev pub free_beside : ℕ → Layout → List ℕ
free_beside slot l = free_below (cap_of l.device) (blocks_of_parts (own_parts slot l.parts))

-- the store over the partition of this name: the lowest n free blocks
abbrev pub overlay_part : ℕ → Layout → List ℕ → ℕ → Part
overlay_part slot l name n =
    record {
      name = store_of name;
      attributes = 0;
      group = store_group_name;
      blocks =
          take n (free_beside slot l);
    }

-- the slot's table without other stores, and this one; the partition's attributes stay
unfoldable pub with_overlay : ℕ → Layout → List ℕ → ℕ → Layout
with_overlay slot l name n = record (plain slot l) {
  parts = own_parts slot l.parts ++ overlay_part slot l name n ∷ [];
  groups = default_group ∷ (own_groups slot l.groups ++ stores_group ∷ []);
}

-- of the two layouts the later has one store, over the slot's partition of this name, of so many
-- blocks: the lowest that are in none of the slot's partitions
pub record IsOverlaid (slot : ℕ) (before after : Layout) (name : List ℕ) (n : ℕ) : Type 0 where
  pub part : Part
  pub named : part.name ≡ name
  pub one : overlaid_in slot after.parts
      ≡ Some (record { part = part; store = overlay_part slot before name n })
  pub is : IsOverlaidBy slot after.parts part (overlay_part slot before name n)
  pub size : length (take n (free_beside slot before)) ≡ n
