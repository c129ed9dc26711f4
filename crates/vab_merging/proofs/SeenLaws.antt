-- What a merged partition reads as, and which sectors its merge writes.
use Rattle.std.proofs.Common.{◌≡◌, ◌⊎◌, ◌∙◌, inl, inr, ℕ, suc, ◌+◌, ◌/◌, ◌≤◌, ◌<◌, List}
use Rattle.std.proofs.Common.{[], ◌∷◌, ◌++◌, length, get_or, refl, sym, ap, arith}
use Rattle.std.specs.Prelude.{Option, Some, None}
use Rattle.std.specs.List.{flat_map}
use Rattle.std.proofs.lemmas.List.{get_or_default}
use Rattle.vab_disk.specs.Disk.{Image}
use Rattle.vab_gate.specs.Gate.{sectors_at}
use Rattle.vab_exceptions.specs.declared.area.Exception.{Exception}
use Rattle.vab_space.specs.declared.Chunk.{Chunk}
use Rattle.vab_space.specs.Chunks.{page_block}
use Rattle.vab_space.proofs.ChunkLaws.{page_inside}
use Rattle.vab_store.specs.Seen.{chosen_bytes, view_block}
use Rattle.vab_store.specs.View.{stored_at, Fits}
use Rattle.vab_store.proofs.StoredLaws.{stored_inside}
use Rattle.vab_merge.specs.Copied.{InBlocksOf}
use Rattle.vab_store.specs.Sectors.{entry_sector}
use Rattle.vab_merge.proofs.TurnLaws.{IsMergedSector}
use Rattle.vab_device.specs.Mounted.{bytes_at}
use Rattle.vab_device.specs.Reading.{IsOfBlocks}
use Rattle.vab_device.specs.Stores.{sector_seen, sectors_seen}
use Rattle.vab_device.proofs.InStores.{in_blocks}

-- ---- blocks through a store

-- the sectors that a read of a block takes hold what is seen of it
block_seen : (chunk : Chunk) (base store : List ℕ) (es : List Exception) (image : Image) (n : ℕ)
    → Fits chunk (length base) store es
    → sectors_at 8 image (sector_seen store (get_or base n 0) (stored_at chunk es n))
    ≡ view_block chunk base store es image n
block_seen chunk base store es image n fits =
    by_stored (stored_at chunk es n)
    (λ b is. stored_inside chunk (length base) store es n b fits is)
  where
    -- of the store's block, where the store has it
    by_stored : (o : Option ℕ)
        → ((b : ℕ) → o ≡ Some b → b < length store)
        → sectors_at 8 image (sector_seen store (get_or base n 0) o)
        ≡ chosen_bytes base store image n o
    by_stored None there = refl
    by_stored (Some b) there =
        ap (λ (s : ℕ). sectors_at 8 image s)
        (get_or_default store b (get_or base n 0) 0 (there b refl))

module _ (chunk : Chunk) (base store : List ℕ) (es fewer : List Exception) (old new : Image)
    (fits : Fits chunk (length base) store es)
    (fits_fewer : Fits chunk (length base) store fewer)
    (same : (block : ℕ)
    → block < length base
    → view_block chunk base store fewer new block ≡ view_block chunk base store es old block) where
  seen_from : (n : ℕ) (owns : List ℕ)
      → ((j : ℕ) → j < length owns → get_or owns j 0 ≡ get_or base (n + j) 0)
      → n + length owns ≤ length base
      → flat_map (λ s. sectors_at 8 new s) (sectors_seen chunk store fewer n owns)
      ≡ flat_map (λ s. sectors_at 8 old s) (sectors_seen chunk store es n owns)
  seen_from n [] at within = refl
  seen_from n (own ∷ owns) at within =
      let none : n + 0 ≡ n = omega arith in
      let own_is : own ≡ get_or base n 0 =
      at 0 (omega arith) ∙ ap (λ (k : ℕ). get_or base k 0) none in
      let here : sectors_at 8 new (sector_seen store own (stored_at chunk fewer n))
      ≡ sectors_at 8 old (sector_seen store own (stored_at chunk es n)) =
      ap (λ (o : ℕ). sectors_at 8 new (sector_seen store o (stored_at chunk fewer n))) own_is
      ∙ block_seen chunk base store fewer new n fits_fewer
      ∙ same n (omega (arith, within))
      ∙ sym (block_seen chunk base store es old n fits)
      ∙ ap (λ (o : ℕ). sectors_at 8 old (sector_seen store o (stored_at chunk es n)))
      (sym own_is) in
      let rest = seen_from (n + 1) owns
      (λ j below.
      at (suc j) (omega (arith, below))
      ∙ ap (λ (k : ℕ). get_or base k 0) (let e : n + suc j ≡ (n + 1) + j = omega arith in e))
      (omega (arith, within)) in
      (λ i. here i ++ rest i)

  -- where each block is seen as before, so is the partition
  pub seen_same : bytes_at new (sectors_seen chunk store fewer 0 base)
      ≡ bytes_at old (sectors_seen chunk store es 0 base)
  unfolding bytes_at
  seen_same =
      seen_from 0 base
      (λ j below. ap (λ (k : ℕ). get_or base k 0) (let e : j ≡ 0 + j = omega arith in e))
      (omega arith)

-- ---- what is written

-- a sector of a merge is one of the partition's blocks, or one of the store's
pub merged_in : (chunk : Chunk) (base store : List ℕ) (es : List Exception) (most s : ℕ)
    → Fits chunk (length base) store es
    → IsMergedSector chunk base store es most s
    → IsOfBlocks base s ⊎ IsOfBlocks store s
merged_in chunk base store es most s fits is = by_place is.here
  where
    by_place : InBlocksOf chunk base es is.place s ⊎ (s ≡ entry_sector chunk store is.place)
        → IsOfBlocks base s ⊎ IsOfBlocks store s
    by_place (inl here) = inl (in_blocks base _ s here.below here.here)
    by_place (inr entry) =
        let page : ℕ = (is.place / 32) / 8 in
        let block : ℕ = page_block chunk page in
        let below : block < length store =
        page_inside chunk (length store) page (omega (arith, is.within, fits.room)) in
        inr (in_blocks store block s below (record {
          from = omega (arith, entry);
          below = omega (arith, entry);
        }))
