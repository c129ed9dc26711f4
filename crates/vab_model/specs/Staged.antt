-- Staged bytes as the image of a partition, beside the source's image of its name.
use Rattle.std.specs.Prelude.{ℕ, ◌-◌, ◌*◌, nat_lt, Bool, not, ◌&&◌, List, [], ◌∷◌, ◌++◌}
use Rattle.std.specs.Prelude.{length, take, replicate}
use Rattle.std.specs.Str.{bytes_eq}
use Rattle.vab_bytes.specs.Number.{field}
use Rattle.vab_space.specs.declared.Chunk.{Chunk}
use Rattle.vab_space.specs.Differing.{differing_chunks}
use Rattle.vab_model.specs.Plans.{blocks_in}

-- the first four bytes are those of an Android sparse image
abbrev pub is_sparse : List ℕ → Bool
is_sparse staged = bytes_eq (take 4 staged) (58 ∷ 255 ∷ 38 ∷ 237 ∷ [])

-- zeros behind the staged bytes, up to so many blocks
abbrev pub filled : List ℕ → (blocks : ℕ) → List ℕ
filled staged blocks = staged ++ replicate (4096 * blocks - length staged) 0

-- the bytes of block i
abbrev pub block_at : List ℕ → ℕ → List ℕ
block_at bytes i = field bytes (4096 * i) 4096

-- block i isn't the source's, or the source has none
abbrev pub differs : (source image : List ℕ) → ℕ → Bool
differs source image i =
    not (nat_lt i (blocks_in source) && bytes_eq (block_at source i) (block_at image i))

-- how many chunks of so many blocks differ
abbrev pub differences : Chunk → (source image : List ℕ) → (blocks : ℕ) → ℕ
differences k source image blocks = length (differing_chunks k (differs source image) blocks)
