-- Chunks of a store on the disk.
use Rattle.std.proofs.Common.{◌≡◌, ◌≢◌, ◌⊎◌, inl, inr, ℕ, ◌+◌, ◌≤◌, ◌<◌, List, length, arith}
use Rattle.std.specs.Prelude.{slice_index}
use Rattle.std.proofs.lemmas.Bool.{cases_lt}
use Rattle.vab_disk.specs.Disk.{Image}
use Rattle.vab_disk.specs.Calls.{IsBetween}
use Rattle.vab_gate.specs.Gate.{set_block, IsAmong}
use Rattle.vab_gate.proofs.Blocks.{block_here, block_there, sectors_same}
use Rattle.vab_store.specs.Layout.{chunk_bytes, AreApart, IsApart, InFirst}

pub apart_flip : (a b : ℕ) → AreApart a b → AreApart b a
apart_flip a b (inl before) = inr before
apart_flip a b (inr behind) = inl behind

-- two blocks of a partition
pub apart_of : (map : List ℕ) (i j : ℕ)
    → IsApart map
    → i < length map
    → j < length map
    → i ≢ j
    → AreApart (slice_index map i) (slice_index map j)
apart_of map i j apart i_below j_below other =
    elim (cases_lt i j) [
      | inl before ↦ apart i j before j_below
      | inr behind ↦
          apart_flip (slice_index map j) (slice_index map i)
          (apart j i (omega (arith, behind, other)) i_below)
    ]

-- no sector of the one is one of the other
pub apart_sector : (a b s : ℕ) → AreApart a b → IsBetween a (a + 8) s → (s < b) ⊎ (b + 8 ≤ s)
apart_sector a b s (inl before) is = inl (omega (arith, before, is.below))
apart_sector a b s (inr behind) is = inr (omega (arith, behind, is.from))

-- a chunk whose sectors read as before
pub chunk_same : (map : List ℕ) (old new : Image) (c : ℕ)
    → ((s : ℕ) → IsBetween (slice_index map c) (slice_index map c + 8) s → new s ≡ old s)
    → chunk_bytes map new c ≡ chunk_bytes map old c
chunk_same map old new c same =
    sectors_same 8 (slice_index map c) old new
    (λ k below. same (slice_index map c + k)
    (record { from = omega arith; below = omega (arith, below) }))

-- a chunk that was written
pub chunk_here : (map : List ℕ) (old new : Image) (c : ℕ) (bytes : List ℕ)
    → length bytes ≡ 4096
    → new ≡ set_block old (slice_index map c) bytes
    → chunk_bytes map new c ≡ bytes
chunk_here map old new c bytes long is = block_here old new (slice_index map c) bytes is long

-- another chunk
pub chunk_there : (map : List ℕ) (old new : Image) (c other : ℕ) (bytes : List ℕ)
    → AreApart (slice_index map other) (slice_index map c)
    → new ≡ set_block old (slice_index map c) bytes
    → chunk_bytes map new other ≡ chunk_bytes map old other
chunk_there map old new c other bytes apart is =
    chunk_same map old new other
    (λ s here.
    block_there old new (slice_index map c) bytes is s
    (apart_sector (slice_index map other) (slice_index map c) s apart here))

-- a block's sectors are sectors of the first blocks, where it is one of them
pub in_first : (map : List ℕ) (n c : ℕ) (bytes : List ℕ) (s : ℕ) (b : List ℕ)
    → c < n
    → IsAmong 8 (slice_index map c) bytes s b
    → InFirst map n s
in_first map n c bytes s b below is = record {
  block = c;
  within = below;
  here = record { from = is.first; below = is.last };
}
