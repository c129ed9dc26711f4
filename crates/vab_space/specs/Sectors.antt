-- The size of a chunk in sectors of 512 bytes, as the bytes of a store and of a status spell it.
use Rattle.std.specs.Prelude.{ℕ, ◌*◌, ◌==◌, if◌then◌else◌, Option, Some, None}
use Rattle.vab_space.specs.declared.Chunk.{Chunk}
use Rattle.vab_space.specs.declared.Chunk.TheVariants.{One, Two, Four}
use Rattle.vab_space.specs.Chunks.{blocks_in}

abbrev pub sectors_in : Chunk → ℕ
sectors_in k = 8 * blocks_in k

-- the chunk of so many sectors, where there is one
abbrev pub chunk_of_sectors : ℕ → Option Chunk
chunk_of_sectors sectors =
    if sectors == 8 then Some One
    else (if sectors == 16 then Some Two else (if sectors == 32 then Some Four else None))
