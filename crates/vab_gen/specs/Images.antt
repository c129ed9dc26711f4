-- Images that are made of numbers drawn from a seed.
use Rattle.std.specs.Prelude.{ℕ, ◌+◌, ◌*◌, ◌/◌, ◌%◌, ◌^◌, List}
use Rattle.vab_space.specs.Space.{blocks_of}
use Rattle.vab_set.specs.declared.set.SetImage.{SetImage}
use Rattle.vab_gen.specs.Draws.{draw, drawn}
use Rattle.vab_gen.specs.Blocks.{joined, filled, next_block}

-- a number below this one, by the high bits of another
abbrev pub picked : ℕ → ℕ → ℕ
picked below number = number / 2 ^ 33 % below

-- ---- an image of numbers alone

-- its blocks, by its first number
abbrev pub fresh_blocks : ℕ → ℕ → ℕ
fresh_blocks scale first = scale * (4 + picked 16 first)

-- each block is filled with a number of its own
unfoldable pub fresh_image : ℕ → ℕ → List ℕ → SetImage
fresh_image scale seed name =
    let first = draw seed in
    let blocks = fresh_blocks scale first in
    record {
      name = name;
      size = 4096 * blocks;
      store = 0;
      bytes = joined (λ k. filled (drawn (k + 1) first)) blocks;
    }

-- the last number of it
unfoldable pub fresh_end : ℕ → ℕ → ℕ
fresh_end scale seed = drawn (fresh_blocks scale (draw seed)) (draw seed)

-- ---- an image after an old one

-- its blocks: those of the old image, and more by its first number
abbrev pub next_blocks : ℕ → ℕ → SetImage → ℕ
next_blocks scale first old = blocks_of old.size + scale * picked 4 first

-- each block is kept or filled by a number of its own
unfoldable pub next_image : ℕ → ℕ → SetImage → SetImage
next_image scale seed old =
    let first = draw seed in
    let blocks = next_blocks scale first old in
    record {
      name = old.name;
      size = 4096 * blocks;
      store = 0;
      bytes = joined (λ k. next_block old k (drawn (k + 1) first)) blocks;
    }

-- the last number of it
unfoldable pub next_end : ℕ → ℕ → SetImage → ℕ
next_end scale seed old = drawn (next_blocks scale (draw seed) old) (draw seed)
