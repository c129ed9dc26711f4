-- The rules of a slot's own partitions, in the order of the table.
use Rattle.std.specs.Prelude.{ℕ, ◌^◌, Bool, ◌&&◌, ◌||◌, nat_le, nat_lt, if◌then◌else◌, List, []}
use Rattle.std.specs.Prelude.{◌∷◌, ◌++◌, length, Option, Some, None}
use Rattle.std.specs.Str.{bytes_eq}
use Rattle.vab_names.specs.Names.{is_base, base_of, is_of_slot, default_name}
pub use Rattle.vab_blocks.specs.Blocks.{is_distinct}
use Rattle.vab_layout.specs.declared.layout.Part.{Part}
use Rattle.vab_layout.specs.Layout.{blocks_of_parts}

-- Whether a partition may stand behind these where a slot may have so many: its base name, at most
-- 2^40 bytes, the group of no slot or one of the slot, room for one more, and no block twice in it
-- and in them.
abbrev pub part_passes : (most slot : ℕ) → (earlier : List Part) → Part → Bool
part_passes most slot earlier p =
    is_base (base_of p.name) && nat_le (length p.blocks) (2 ^ 28)
    && (bytes_eq p.group default_name || is_of_slot slot p.group)
    && nat_lt (length earlier) most && is_distinct (blocks_of_parts earlier ++ p.blocks)

-- the first that may not
unfoldable pub bad_part : (most slot : ℕ) → (earlier parts : List Part) → Option (List ℕ)
bad_part most slot earlier [] = None
bad_part most slot earlier (p ∷ ps) =
    if part_passes most slot earlier p
    then bad_part most slot (earlier ++ p ∷ []) ps
    else Some p.name
