-- What an edit asks of the blocks of the target's partitions.
use Rattle.std.specs.Prelude.{◌≡◌, ◌≢◌, ℕ, List, length, true, false}
use Rattle.vab_names.specs.Names.{store_of}
use Rattle.vab_space.specs.Space.{blocks_of}
use Rattle.vab_layout.specs.declared.layout.Layout.{Layout}
use Rattle.vab_layout.specs.Slots.{blocks_named}
use Rattle.vab_builder.specs.declared.edit.Edit.{Edit}
use Rattle.vab_builder.specs.declared.edit.Edit.TheVariants.{Create, Resize, Delete, AddStore}
use Rattle.vab_builder.specs.Edits.{store_blocks}
use Rattle.vab_builder.specs.Sizes.{has_part}

-- the partition that an edit makes, changes or takes away
abbrev pub edited_name : Edit → List ℕ
edited_name (Create name bytes) = name.now
edited_name (Resize name bytes) = name.now
edited_name (Delete name) = name.now
edited_name (AddStore name bytes) = store_of name.now

-- there is a partition of this name, and it has so many blocks
pub record HasBlocks (l : Layout) (name : List ℕ) (n : ℕ) : Type 0 where
  pub there : has_part name l.parts ≡ true
  pub count : length (blocks_named name l.parts) ≡ n

-- that partition has exactly the blocks that were asked for, or it is gone
abbrev pub HasAsked : Edit → Layout → Layout → Type 0
HasAsked (Create name bytes) old new = HasBlocks new name.now (blocks_of bytes)
HasAsked (Resize name bytes) old new = HasBlocks new name.now (blocks_of bytes)
HasAsked (Delete name) old new = has_part name.now new.parts ≡ false
HasAsked (AddStore name bytes) old new =
    HasBlocks new (store_of name.now) (store_blocks old name.now bytes)

-- a partition is there as before, or isn't, with the same blocks
pub record IsAsBefore (name : List ℕ) (old new : Layout) : Type 0 where
  pub there : has_part name new.parts ≡ has_part name old.parts
  pub blocks : blocks_named name new.parts ≡ blocks_named name old.parts

-- each other partition is
abbrev pub KeepsOthers : List ℕ → Layout → Layout → Type 0
KeepsOthers name old new = (other : List ℕ) → other ≢ name → IsAsBefore other old new
