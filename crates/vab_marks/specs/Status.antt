-- The status of a partition: the one spelling of each, and what the bytes of a sector mean.
use Rattle.std.specs.Prelude.{ℕ, ◌<◌, ◌^◌, ◌==◌, if◌then◌else◌, List, [], ◌∷◌}
use Rattle.std.specs.Prelude.{◌++◌, slice_index, Option, Some, None, Result, Ok, Err}
use Rattle.std.specs.Int.{w16, w64, to_le_bytes}
use Rattle.vab_bytes.specs.Number.{field, le_at}
use Rattle.vab_bytes.specs.Name.{IsName, name_field, name_of_field}
use Rattle.vab_space.specs.declared.Chunk.{Chunk}
use Rattle.vab_space.specs.declared.Chunk.TheVariants.{One, Two, Four}
use Rattle.vab_space.specs.Sectors.{sectors_in, chunk_of_sectors}
use Rattle.vab_marks.specs.declared.sector.MarkFault.{MarkFault}
use Rattle.vab_marks.specs.declared.sector.MarkFault.TheVariants.{BadField}
use Rattle.vab_marks.specs.declared.status.PartStatus.{PartStatus}
use Rattle.vab_marks.specs.declared.status.StatusImage.{StatusImage}
use Rattle.vab_marks.specs.declared.status.StatusImage.TheVariants.{Stored, InPlace}
use Rattle.vab_marks.specs.Sector.{zeros, are_zeros, sealed, head_fault, unless}

-- the byte of an image, the size of a chunk and the count of exceptions that stand with it
abbrev pub state_byte : StatusImage → ℕ
state_byte (Stored count chunk) = 1
state_byte InPlace = 2

abbrev pub chunk_said : StatusImage → Chunk
chunk_said (Stored count chunk) = chunk
chunk_said InPlace = One

abbrev pub count_said : StatusImage → ℕ
count_said (Stored count chunk) = count
count_said InPlace = 0

-- what has a spelling
pub record FitsStatus (s : PartStatus) : Type 0 where
  pub name : IsName s.name
  pub count : count_said s.image < 2 ^ 64

-- VABS
abbrev pub status_magic : List ℕ
status_magic = 86 ∷ 65 ∷ 66 ∷ 83 ∷ []

-- the magic, version 1, the byte of the image, the sectors of a chunk, the name, the count of
-- exceptions, and zeros
abbrev pub status_front : PartStatus → List ℕ
status_front s =
    status_magic
    ++ (1 ∷ state_byte s.image ∷ to_le_bytes w16 (sectors_in (chunk_said s.image)))
    ++ (name_field s.name ++ (to_le_bytes w64 (count_said s.image) ++ zeros 456))

-- that, and the sum
unfoldable pub status_spelling : PartStatus → List ℕ
status_spelling s = sealed (status_front s)

-- an image in place has chunks of one block, and no exceptions
abbrev pub placed_in : ℕ → Chunk → Option StatusImage
placed_in count One = if count == 0 then Some InPlace else None
placed_in count Two = None
placed_in count Four = None

-- the image of these fields, where they are those of one
abbrev pub image_of : (state count : ℕ) → Option Chunk → Option StatusImage
image_of state count None = None
image_of state count (Some chunk) =
    if state == 1 then Some (Stored count chunk)
    else (if state == 2 then placed_in count chunk else None)

-- a status of these fields, where both are there
abbrev pub with_fields : Option StatusImage → Option (List ℕ) → Result PartStatus MarkFault
with_fields (Some image) (Some name) = Ok (record { name = name; image = image })
with_fields (Some image) None = Err BadField
with_fields None name = Err BadField

-- a field is bad where it has a value that is not named, or a byte is not zero where no field
-- stands
abbrev pub status_fields : List ℕ → Result PartStatus MarkFault
status_fields bytes =
    if are_zeros (field bytes 52 456)
    then with_fields
    (image_of (slice_index bytes 5) (le_at w64 bytes 44) (chunk_of_sectors (le_at w16 bytes 6)))
    (name_of_field (field bytes 8 36))
    else Err BadField

-- the status in the bytes of a sector, or the first fault
unfoldable pub status_of : List ℕ → Result PartStatus MarkFault
status_of bytes =
    unless (head_fault status_magic (slice_index bytes 4 == 1) bytes) (status_fields bytes)
