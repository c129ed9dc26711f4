-- The version of an update mark, and how many partitions it has room for.
use Rattle.std.specs.Prelude.{ℕ, Bool, ◌||◌, ◌==◌, if◌then◌else◌, List, slice_index}
use Rattle.vab_names.specs.Names.{most_partitions}
use Rattle.vab_marks.specs.declared.version.MarkVersion.{MarkVersion}
use Rattle.vab_marks.specs.declared.version.MarkVersion.TheVariants.{One, Two}

abbrev pub version_byte : MarkVersion → ℕ
version_byte One = 1
version_byte Two = 2

abbrev pub is_version : ℕ → Bool
is_version b = b == 1 || b == 2

-- the version of a byte that is one
abbrev pub version_of : ℕ → MarkVersion
version_of b = if b == 1 then One else Two

-- the version of a sector that holds a mark
abbrev pub version_in : List ℕ → MarkVersion
version_in bytes = version_of (slice_index bytes 4)

-- the most partitions of a slot, each of which has a sector for its status
abbrev pub partitions_under : MarkVersion → ℕ
partitions_under One = 32
partitions_under Two = most_partitions
