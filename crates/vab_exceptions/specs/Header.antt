-- What the header of a store says.
use Rattle.std.specs.Prelude.{ℕ, List, ◌++◌, replicate, if◌then◌else◌, ◌==◌, not, Result, Err}
use Rattle.std.specs.Prelude.{ok_or}
use Rattle.std.specs.Int.{w32, to_le_bytes}
use Rattle.vab_bytes.specs.Number.{le_at}
use Rattle.vab_space.specs.declared.Chunk.{Chunk}
use Rattle.vab_space.specs.Sectors.{sectors_in, chunk_of_sectors}
use Rattle.vab_exceptions.specs.declared.header.HeaderFault.{HeaderFault}
use Rattle.vab_exceptions.specs.declared.header.HeaderFault.TheVariants.{BadMagic, Invalid}
use Rattle.vab_exceptions.specs.declared.header.HeaderFault.TheVariants.{BadVersion, BadChunk}

-- the size of its chunks, or the first fault in the order of the four numbers
abbrev pub header_of : List ℕ → Result Chunk HeaderFault
header_of bytes =
    if not (le_at w32 bytes 0 == 0x70416E53)
    then Err BadMagic
    else
    (if le_at w32 bytes 4 == 0
    then Err Invalid
    else
    (if not (le_at w32 bytes 8 == 1)
    then Err BadVersion
    else ok_or (chunk_of_sectors (le_at w32 bytes 12)) BadChunk))

-- the magic, valid, the version and the chunk size, and zeros
abbrev pub header_front : Chunk → List ℕ
header_front k =
    to_le_bytes w32 0x70416E53 ++ to_le_bytes w32 1 ++ to_le_bytes w32 1
    ++ to_le_bytes w32 (sectors_in k)

unfoldable pub header_bytes : Chunk → List ℕ
header_bytes k = header_front k ++ replicate 496 0
