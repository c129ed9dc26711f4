-- The arithmetic of space: blocks of 4096 bytes, what an exception store takes, and what a device
-- uses.
use Rattle.std.specs.Prelude.{ℕ, ◌+◌, ◌-◌, ◌*◌, ◌/◌, List, sum, sum_by}
use Rattle.vab_space.specs.declared.Want.{Want}

-- the chunks of a store that holds n exceptions: its header, its areas of 256 entries and one entry
-- more to end the list, and a block for each
abbrev pub need_of : ℕ → ℕ
need_of n = 1 + (n / 256 + 1) + n

-- whole blocks of 4096 bytes, rounded up
abbrev pub blocks_of : ℕ → ℕ
blocks_of bytes = (bytes + 4095) / 4096

-- the blocks that a plan's entry takes beyond those that the source's partition of that name has
abbrev pub growth_of : Want → ℕ
growth_of want = want.blocks - want.before

-- the source's images, what the plan adds to them, and the stores
abbrev pub used_of : List ℕ → List Want → ℕ
used_of source plan = sum source + sum_by growth_of plan + sum_by (λ want. want.store) plan

-- bytes in all these blocks
abbrev pub group_sum_of : List ℕ → ℕ
group_sum_of blocks = 4096 * sum blocks
