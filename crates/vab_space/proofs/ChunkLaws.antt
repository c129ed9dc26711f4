-- The arithmetic of chunks.
use Rattle.std.proofs.Common.{◌≡◌, ◌≢◌, ℕ, ◌+◌, ◌*◌, ◌/◌, ◌%◌, ◌^◌, ◌<◌, ◌≤◌, Bool, true, false}
use Rattle.std.proofs.Common.{◌&&◌, ◌==◌, not, arith, refl}
use Rattle.std.proofs.lemmas.Bool.{ne_eqb, eq-eqb, eqb-false, and_parts}
use Rattle.vab_space.specs.declared.Chunk.{Chunk}
use Rattle.vab_space.specs.declared.Chunk.TheVariants.{One, Two, Four}
use Rattle.vab_space.specs.Chunks.{blocks_in, block_in, chunk_at, place_in, chunks_in, chunks_for}
use Rattle.vab_space.specs.Chunks.{entries_in, need_at, page_block, pages_in, is_area, is_data}
use Rattle.vab_space.specs.Chunks.{new_chunk_of, page_of, entry_of}

-- a block is one of its chunk
pub block_is : (k : Chunk) (b : ℕ) → block_in k (chunk_at k b) (place_in k b) ≡ b
block_is One b = omega arith
block_is Two b = omega arith
block_is Four b = omega arith

pub place_below : (k : Chunk) (b : ℕ) → place_in k b < blocks_in k
place_below One b = omega arith
place_below Two b = omega arith
place_below Four b = omega arith

-- the chunk of a block of chunk c, and its place there
pub chunk_again : (k : Chunk) (c r : ℕ) → r < blocks_in k → chunk_at k (block_in k c r) ≡ c
chunk_again One c r first = omega (arith, first)
chunk_again Two c r first = omega (arith, first)
chunk_again Four c r first = omega (arith, first)

pub place_again : (k : Chunk) (c r : ℕ) → r < blocks_in k → place_in k (block_in k c r) ≡ r
place_again One c r first = omega (arith, first)
place_again Two c r first = omega (arith, first)
place_again Four c r first = omega (arith, first)

pub block_from : (k : Chunk) (c r : ℕ) → c ≤ block_in k c r
block_from One c r = omega arith
block_from Two c r = omega arith
block_from Four c r = omega arith

-- a block of a whole chunk
pub block_inside : (k : Chunk) (blocks c r : ℕ)
    → c < chunks_in k blocks
    → r < blocks_in k
    → block_in k c r < blocks
block_inside One blocks c r first second = omega (arith, first, second)
block_inside Two blocks c r first second = omega (arith, first, second)
block_inside Four blocks c r first second = omega (arith, first, second)

-- a block of a chunk in which some block stands
pub block_below : (k : Chunk) (blocks c : ℕ) → c < chunks_for k blocks → block_in k c 0 < blocks
block_below One blocks c first = omega (arith, first)
block_below Two blocks c first = omega (arith, first)
block_below Four blocks c first = omega (arith, first)

pub chunk_below : (k : Chunk) (blocks b : ℕ) → b < blocks → chunk_at k b < chunks_for k blocks
chunk_below One blocks b first = omega (arith, first)
chunk_below Two blocks b first = omega (arith, first)
chunk_below Four blocks b first = omega (arith, first)

-- a page stands behind the header, in an area
pub page_some : (k : Chunk) (p : ℕ) → 0 < chunk_at k (page_block k p)
page_some One p = omega arith
page_some Two p = omega arith
page_some Four p = omega arith

pub page_area : (k : Chunk) (p : ℕ) → chunk_at k (page_block k p) % (entries_in k + 1) ≡ 1
page_area One p = omega arith
page_area Two p = omega arith
page_area Four p = omega arith

pub page_again : (k : Chunk) (p : ℕ) → page_of k (page_block k p) ≡ p
page_again One p = omega arith
page_again Two p = omega arith
page_again Four p = omega arith

pub page_positive : (k : Chunk) (p : ℕ) → 0 < page_block k p
page_positive One p = omega arith
page_positive Two p = omega arith
page_positive Four p = omega arith

-- pages ascend
pub pages_ascend : (k : Chunk) (p q : ℕ) → p < q → page_block k p < page_block k q
pages_ascend One p q first = omega (arith, first)
pages_ascend Two p q first = omega (arith, first)
pages_ascend Four p q first = omega (arith, first)

-- a page of a store is one of its blocks
pub page_inside : (k : Chunk) (blocks p : ℕ) → p < pages_in k blocks → page_block k p < blocks
page_inside One blocks p first = omega (arith, first)
page_inside Two blocks p first = omega (arith, first)
page_inside Four blocks p first = omega (arith, first)

-- a store with a page has an area behind its header
pub pages_enough : (k : Chunk) (blocks : ℕ) → 0 < pages_in k blocks → 2 ≤ chunks_in k blocks
pages_enough One blocks first = omega (arith, first)
pages_enough Two blocks first = omega (arith, first)
pages_enough Four blocks first = omega (arith, first)

-- the page of an entry, or of the one that ends the list, is among the blocks that n exceptions
-- need
pub page_within : (k : Chunk) (n j : ℕ) → j ≤ n → page_block k (j / 256) < need_at n k
page_within One n j first = omega (arith, first)
page_within Two n j first = omega (arith, first)
page_within Four n j first = omega (arith, first)

-- no page is a block of a data chunk
pub page_apart : (k : Chunk) (p c r : ℕ)
    → c % (entries_in k + 1) ≢ 1
    → r < blocks_in k
    → page_block k p ≢ block_in k c r
page_apart One p c r first second same = first (omega (arith, second, same))
page_apart Two p c r first second same = first (omega (arith, second, same))
page_apart Four p c r first second same = first (omega (arith, second, same))

-- a store that holds them has room for the entry that ends the list
pub room_for : (k : Chunk) (n blocks : ℕ) → need_at n k ≤ blocks → n < 256 * pages_in k blocks
room_for One n blocks first = omega (arith, first)
room_for Two n blocks first = omega (arith, first)
room_for Four n blocks first = omega (arith, first)

pub need_some : (k : Chunk) (n : ℕ) → 0 < need_at n k
need_some One n = omega arith
need_some Two n = omega arith
need_some Four n = omega arith

-- the data chunk of an exception is neither the header nor an area
pub new_chunk_some : (k : Chunk) (j : ℕ) → 0 < new_chunk_of k j
new_chunk_some One j = omega arith
new_chunk_some Two j = omega arith
new_chunk_some Four j = omega arith

pub new_chunk_place : (k : Chunk) (j : ℕ) → new_chunk_of k j % (entries_in k + 1) ≢ 1
new_chunk_place One j same = omega (arith, same)
new_chunk_place Two j same = omega (arith, same)
new_chunk_place Four j same = omega (arith, same)

pub new_chunk_entry : (k : Chunk) (j : ℕ) → entry_of k (new_chunk_of k j) ≡ j
new_chunk_entry One j = omega arith
new_chunk_entry Two j = omega arith
new_chunk_entry Four j = omega arith

-- new chunks ascend
pub new_chunks_ascend : (k : Chunk) (i j : ℕ) → i < j → new_chunk_of k i < new_chunk_of k j
new_chunks_ascend One i j first = omega (arith, first)
new_chunks_ascend Two i j first = omega (arith, first)
new_chunks_ascend Four i j first = omega (arith, first)

-- the data chunk of one of n exceptions
pub data_chunk_within : (k : Chunk) (n blocks j : ℕ)
    → need_at n k ≤ blocks
    → j < n
    → new_chunk_of k j < chunks_in k blocks
data_chunk_within One n blocks j first second = omega (arith, first, second)
data_chunk_within Two n blocks j first second = omega (arith, first, second)
data_chunk_within Four n blocks j first second = omega (arith, first, second)

pub data_within : (k : Chunk) (n j r : ℕ)
    → j < n
    → r < blocks_in k
    → block_in k (new_chunk_of k j) r < need_at n k
data_within One n j r first second = omega (arith, first, second)
data_within Two n j r first second = omega (arith, first, second)
data_within Four n j r first second = omega (arith, first, second)

-- a block that is neither the header's nor a page holds one of the exceptions
pub entry_within : (k : Chunk) (n b : ℕ)
    → b < need_at n k
    → chunk_at k b ≢ 0
    → chunk_at k b % (entries_in k + 1) ≢ 1
    → entry_of k (chunk_at k b) < n
entry_within One n b first second third = omega (arith, first, second, third)
entry_within Two n b first second third = omega (arith, first, second, third)
entry_within Four n b first second third = omega (arith, first, second, third)

-- how many pages so few blocks have
pub page_small : (k : Chunk) (p : ℕ) → page_block k p < 2 ^ 60 → p < 2 ^ 52
page_small One p first = omega (arith, first)
page_small Two p first = omega (arith, first)
page_small Four p first = omega (arith, first)

-- they need a chunk each
pub need_more : (k : Chunk) (n : ℕ) → blocks_in k * n ≤ need_at n k
need_more One n = omega arith
need_more Two n = omega arith
need_more Four n = omega arith

-- the first block
pub chunk_first : (k : Chunk) → chunk_at k 0 ≡ 0
chunk_first One = refl
chunk_first Two = refl
chunk_first Four = refl

pub place_first : (k : Chunk) → place_in k 0 ≡ 0
place_first One = refl
place_first Two = refl
place_first Four = refl

-- the chunk of an exception has eight bytes
pub new_chunk_small : (k : Chunk) (j : ℕ) → j < 2 ^ 62 → new_chunk_of k j < 2 ^ 64
new_chunk_small One j first = omega (arith, first)
new_chunk_small Two j first = omega (arith, first)
new_chunk_small Four j first = omega (arith, first)

-- as many blocks as chunks
pub chunks_fewer : (k : Chunk) (blocks n : ℕ) → n ≤ chunks_in k blocks → n ≤ blocks
chunks_fewer One blocks n first = omega (arith, first)
chunks_fewer Two blocks n first = omega (arith, first)
chunks_fewer Four blocks n first = omega (arith, first)

-- chunks of as many blocks are of one size
pub same_size : (j k : Chunk) → blocks_in j ≡ blocks_in k → j ≡ k
same_size One One is = refl
same_size One Two is = absurd (omega (arith, is))
same_size One Four is = absurd (omega (arith, is))
same_size Two One is = absurd (omega (arith, is))
same_size Two Two is = refl
same_size Two Four is = absurd (omega (arith, is))
same_size Four One is = absurd (omega (arith, is))
same_size Four Two is = absurd (omega (arith, is))
same_size Four Four is = refl

-- a chunk that is tested
pub area_tested : (k : Chunk) (c : ℕ) → c % (entries_in k + 1) ≡ 1 → is_area k c ≡ true
area_tested k c is = eq-eqb (c % (entries_in k + 1)) 1 is

pub other_tested : (k : Chunk) (c : ℕ) → c % (entries_in k + 1) ≢ 1 → is_area k c ≡ false
other_tested k c is = ne_eqb (c % (entries_in k + 1)) 1 is

pub data_tested : (k : Chunk) (c : ℕ)
    → 0 < c
    → c % (entries_in k + 1) ≢ 1
    → is_data k c ≡ true
data_tested k c some other =
    let behind : (c == 0) ≡ false = ne_eqb c 0 (λ is. omega (arith, is, some)) in
    (λ i. not (behind i) && not (other_tested k c other i))

not_true : (b : Bool) → not b ≡ true → b ≡ false
not_true true is = absurd (cc)
not_true false is = refl

pub data_other : (k : Chunk) (c : ℕ) → is_data k c ≡ true → c % (entries_in k + 1) ≢ 1
data_other k c is =
    eqb-false (c % (entries_in k + 1)) 1
    (not_true (is_area k c) (and_parts (not (c == 0)) (not (is_area k c)) is).1)

pub data_some : (k : Chunk) (c : ℕ) → is_data k c ≡ true → c ≢ 0
data_some k c is =
    eqb-false c 0 (not_true (c == 0) (and_parts (not (c == 0)) (not (is_area k c)) is).0)
