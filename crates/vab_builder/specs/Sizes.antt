-- The sizes of an update's partitions and stores: numbers of blocks alone.
use Rattle.std.specs.Prelude.{ℕ, Bool, ◌||◌, ◌==◌, nat_le, if◌then◌else◌, List, [], ◌∷◌}
use Rattle.std.specs.Prelude.{length, map}
use Rattle.std.specs.List.{filter, list_any}
use Rattle.std.specs.Str.{bytes_eq}
use Rattle.vab_names.specs.Names.{store_of}
use Rattle.vab_space.specs.declared.Want.{Want}
use Rattle.vab_space.specs.Space.{used_of}
use Rattle.vab_tables.specs.declared.entries.Group.{Group}
use Rattle.vab_layout.specs.declared.layout.Part.{Part}
use Rattle.vab_layout.specs.Slots.{other_slot, own_parts, blocks_named, before_of}

-- a partition of this name is among these
abbrev pub has_part : List ℕ → List Part → Bool
has_part name parts = list_any (λ p. bytes_eq p.name name) parts

-- the blocks of each partition of the source
abbrev pub source_sizes : ℕ → List Part → List ℕ
source_sizes slot source = map (λ p. length p.blocks) (own_parts (other_slot slot) source)

-- what the update wants of a partition of the target, beside its twins
abbrev pub want_of : (slot : ℕ) → (twins target : List Part) → Part → Want
want_of slot twins target p =
    record {
      before = length (before_of slot twins p.name);
      blocks = length p.blocks;
      store =
          length (blocks_named (store_of p.name) target);
    }

abbrev pub wants_of : (slot : ℕ) → (twins target : List Part) → List Want
wants_of slot twins target = map (want_of slot twins target) (own_parts slot target)

-- the same, where the partition of this name has so many blocks
abbrev pub wants_resized : (slot : ℕ) → (twins target : List Part) → List ℕ → ℕ → List Want
wants_resized slot twins target name n =
    map (λ p. if bytes_eq p.name name then record (want_of slot twins target p) { blocks = n } else
    want_of slot twins target p) (own_parts slot target)

-- and where its store has
abbrev pub wants_stored : (slot : ℕ) → (twins target : List Part) → List ℕ → ℕ → List Want
wants_stored slot twins target name n =
    map (λ p. if bytes_eq p.name name then record (want_of slot twins target p) { store = n } else
    want_of slot twins target p) (own_parts slot target)

-- the blocks in use: the source's, and those that the update wants
abbrev pub used_by : ℕ → List Part → List Want → ℕ
used_by slot source wants = used_of (source_sizes slot source) wants

-- ---- groups

-- the limit of the group of this name, in bytes; 0 is none
abbrev pub limit_of : List Group → List ℕ → ℕ
limit_of [] name = 0
limit_of (g ∷ gs) name = if bytes_eq g.name name then g.maximum_size else limit_of gs name

-- the blocks of each partition in a group, where the one of this name has n
abbrev pub sizes_in : List ℕ → List ℕ → ℕ → List Part → List ℕ
sizes_in group name n parts =
    map (λ p. if bytes_eq p.name name then n else length p.blocks)
    (filter (λ p. bytes_eq p.group group) parts)

-- so many bytes are within a limit
abbrev pub is_within : ℕ → ℕ → Bool
is_within sum limit = limit == 0 || nat_le sum limit
