-- The chunks of an image that differ from those of another, where it is known which blocks do.
use Rattle.std.specs.Prelude.{ℕ, ◌+◌, ◌*◌, Bool, ◌&&◌, nat_lt, List, [], ◌∷◌}
use Rattle.std.specs.List.{filter, list_any, range_with_len}
use Rattle.vab_space.specs.declared.Chunk.{Chunk}
use Rattle.vab_space.specs.declared.Chunk.TheVariants.{One, Two, Four}
use Rattle.vab_space.specs.Chunks.{chunks_for}

-- one of these blocks differs that is below so many
abbrev pub any_differs : (ℕ → Bool) → (blocks : ℕ) → List ℕ → Bool
any_differs differs blocks bs = list_any (λ b. nat_lt b blocks && differs b) bs

-- a chunk differs where a block of it does; the last one may have blocks behind the image's end,
-- which aren't looked at
abbrev pub chunk_differs : Chunk → (ℕ → Bool) → (blocks : ℕ) → ℕ → Bool
chunk_differs One differs blocks c = differs c
chunk_differs Two differs blocks c = any_differs differs blocks ((2 * c) ∷ (2 * c + 1) ∷ [])
chunk_differs Four differs blocks c =
    any_differs differs blocks
    ((4 * c) ∷ (4 * c + 1) ∷ (4 * c + 2) ∷ (4 * c + 3) ∷ [])

-- the chunks of so many blocks that differ, in ascending order
unfoldable pub differing_chunks : Chunk → (ℕ → Bool) → (blocks : ℕ) → List ℕ
differing_chunks k differs blocks =
    filter (chunk_differs k differs blocks) (range_with_len 0 (chunks_for k blocks))
