-- The bytes of blocks.
use Rattle.std.specs.Prelude.{ℕ, ◌-◌, ◌*◌, ◌^◌, ◌&&◌, nat_lt, if◌then◌else◌, List, ◌++◌, length}
use Rattle.std.specs.Prelude.{take, drop, replicate}
use Rattle.std.specs.Int.{w64, to_le_bytes}
use Rattle.std.specs.List.{flat_map, range_with_len}
use Rattle.vab_space.specs.Space.{blocks_of}
use Rattle.vab_set.specs.declared.set.SetImage.{SetImage}

-- what is given at the numbers below this one, one behind another
unfoldable pub joined : (ℕ → List ℕ) → ℕ → List ℕ
joined f n = flat_map f (range_with_len 0 n)

-- so many times these bytes
unfoldable pub copies : ℕ → List ℕ → List ℕ
copies n bytes = joined (λ i. bytes) n

-- a block of the 8 bytes of a number, the low byte first
unfoldable pub filled : ℕ → List ℕ
filled number = copies 512 (to_le_bytes w64 number)

-- the k-th 4096 bytes, filled with zeros
abbrev pub block_of : List ℕ → ℕ → List ℕ
block_of bytes k =
    take 4096 (drop (4096 * k) bytes)
    ++ replicate (4096 - length (take 4096 (drop (4096 * k) bytes))) 0

-- the k-th block after an old image: that image's, where it has one and the number is a low one
unfoldable pub next_block : SetImage → ℕ → ℕ → List ℕ
next_block old k number =
    if nat_lt number (2 ^ 63) && nat_lt k (blocks_of old.size) then block_of old.bytes k
    else filled number
