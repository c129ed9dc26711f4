-- The sizes of the physical partitions behind `super`: the one spelling of each, and what the bytes
-- of a sector mean.
use Rattle.std.specs.Prelude.{◌≡◌, ℕ, ◌^◌, ◌==◌, nat_lt, nat_le, Bool, true, ◌&&◌}
use Rattle.std.specs.Prelude.{if◌then◌else◌, List, [], ◌∷◌, ◌++◌, slice_index, Result, Ok, Err}
use Rattle.std.specs.Int.{w64, to_le_bytes}
use Rattle.vab_bytes.specs.Number.{field, le_at}
use Rattle.vab_marks.specs.declared.sector.MarkFault.{MarkFault}
use Rattle.vab_marks.specs.declared.sector.MarkFault.TheVariants.{BadField}
use Rattle.vab_marks.specs.declared.physical.PhysicalSizes.{PhysicalSizes}
use Rattle.vab_marks.specs.Sector.{zeros, are_zeros, sealed, head_fault, unless}

-- 1 to 2^20 blocks
abbrev pub is_size : ℕ → Bool
is_size blocks = nat_lt 0 blocks && nat_le blocks (2 ^ 20)

-- what has a spelling
pub record FitsSizes (s : PhysicalSizes) : Type 0 where
  pub boot : is_size s.boot ≡ true
  pub vbmeta : is_size s.vbmeta ≡ true

-- VABP
abbrev pub physical_magic : List ℕ
physical_magic = 86 ∷ 65 ∷ 66 ∷ 80 ∷ []

-- the magic, version 1, zeros, the blocks of boot and of vbmeta, and zeros
abbrev pub physical_front : PhysicalSizes → List ℕ
physical_front s =
    physical_magic
    ++ 1 ∷ 0 ∷ 0 ∷ 0 ∷ (to_le_bytes w64 s.boot ++ (to_le_bytes w64 s.vbmeta ++ zeros 484))

-- that, and the sum
unfoldable pub physical_spelling : PhysicalSizes → List ℕ
physical_spelling s = sealed (physical_front s)

-- the sizes in these fields
abbrev pub sizes_in : List ℕ → PhysicalSizes
sizes_in bytes = record { boot = le_at w64 bytes 8; vbmeta = le_at w64 bytes 16 }

-- there are zeros where no field stands
abbrev pub is_clean : List ℕ → Bool
is_clean bytes = are_zeros (field bytes 5 3) && are_zeros (field bytes 24 484)

abbrev pub are_sizes : PhysicalSizes → Bool
are_sizes s = is_size s.boot && is_size s.vbmeta

-- a field is bad where it is no size, or a byte is not zero where no field stands
abbrev pub physical_fields : List ℕ → Result PhysicalSizes MarkFault
physical_fields bytes =
    if is_clean bytes && are_sizes (sizes_in bytes) then Ok (sizes_in bytes) else Err BadField

-- the sizes in the bytes of a sector, or the first fault
unfoldable pub physical_of : List ℕ → Result PhysicalSizes MarkFault
physical_of bytes =
    unless (head_fault physical_magic (slice_index bytes 4 == 1) bytes) (physical_fields bytes)
