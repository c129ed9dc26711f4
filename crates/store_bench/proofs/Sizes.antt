-- The blocks of a store of few exceptions.
use Rattle.std.proofs.Common.{ℕ, ◌+◌, ◌*◌, ◌^◌, ◌<◌, ◌≤◌, arith}
use Rattle.vab_space.specs.declared.Chunk.{Chunk}
use Rattle.vab_space.specs.declared.Chunk.TheVariants.{One, Two, Four}
use Rattle.vab_space.specs.Chunks.{blocks_in, need_at}

pub few_blocks : (k : Chunk) (n : ℕ) → n < 2 ^ 61 → blocks_in k * n < 2 ^ 63
few_blocks One n first = omega (arith, first)
few_blocks Two n first = omega (arith, first)
few_blocks Four n first = omega (arith, first)

pub few_needed : (k : Chunk) (n : ℕ) → n ≤ 2 ^ 20 → need_at n k ≤ 2 ^ 24
few_needed One n first = omega (arith, first)
few_needed Two n first = omega (arith, first)
few_needed Four n first = omega (arith, first)
