-- A partition that was written reads as the staged bytes, with zeros behind them.
use Rattle.std.proofs.Common.{◌≡◌, ◌∙◌, ℕ, suc, ◌+◌, ◌≤◌, ◌<◌, List, [], ◌∷◌, ◌++◌}
use Rattle.std.proofs.Common.{length, get_or, refl, sym, ap, subst, arith, inl, inr}
use Rattle.std.specs.Prelude.{Option, Some, None}
use Rattle.std.specs.List.{flat_map, range_with_len}
use Rattle.std.proofs.lemmas.Bool.{cases_lt}
use Rattle.std.proofs.lemmas.List.{get_or_default}
use Rattle.vab_disk.specs.Disk.{Image}
use Rattle.vab_gate.specs.Gate.{sectors_at}
use Rattle.vab_exceptions.specs.declared.area.Exception.{Exception}
use Rattle.vab_space.specs.declared.Chunk.{Chunk}
use Rattle.vab_space.specs.declared.Chunk.TheVariants.{One}
use Rattle.vab_space.specs.Chunks.{block_in, chunk_at, place_in}
use Rattle.vab_store.specs.Seen.{chosen_bytes}
use Rattle.vab_store.specs.View.{view_of, stored_at, Fits}
use Rattle.vab_store.specs.Writing.{block_of}
use Rattle.vab_store.proofs.StoredLaws.{stored_some, stored_inside}
use Rattle.vab_install.specs.InPlace.{HoldsImage}
use Rattle.vab_install.specs.Snapshot.{HoldsBlocks}
use Rattle.vab_device.specs.Mounted.{bytes_at}
use Rattle.vab_device.specs.Stores.{sector_seen, sectors_seen}
use Rattle.vab_device.specs.Flashed.{filled}

-- each block that is seen is the staged one
seen_filled : (chunk : Chunk) (store : List ℕ) (es : List Exception) (n : ℕ) (owns : List ℕ)
    (image : Image) (staged : List ℕ)
    → ((i : ℕ)
    → i < length owns
    → sectors_at 8 image (sector_seen store (get_or owns i 0) (stored_at chunk es (n + i)))
    ≡ block_of staged (n + i))
    → flat_map (λ s. sectors_at 8 image s) (sectors_seen chunk store es n owns)
    ≡ flat_map (block_of staged) (range_with_len n (length owns))
seen_filled chunk store es n [] image staged each = refl
seen_filled chunk store es n (own ∷ owns) image staged each =
    let at : n + 0 ≡ n = omega arith in
    let here : sectors_at 8 image (sector_seen store own (stored_at chunk es n))
    ≡ block_of staged n =
    subst (λ (k : ℕ).
    sectors_at 8 image (sector_seen store own (stored_at chunk es k)) ≡ block_of staged k)
    at (each 0 (omega arith)) in
    let rest = seen_filled chunk store es (n + 1) owns image staged
    (λ i below.
    subst (λ (k : ℕ).
    sectors_at 8 image (sector_seen store (get_or owns i 0) (stored_at chunk es k))
    ≡ block_of staged k)
    (let more : n + suc i ≡ (n + 1) + i = omega arith in more)
    (each (suc i) (omega (arith, below)))) in
    (λ j. here j ++ rest j)

-- a block that isn't in the store is in no chunk of it
pub no_chunk : (chunk : Chunk) (es : List Exception) (block : ℕ) (o : Option ℕ)
    → view_of es (chunk_at chunk block) ≡ o
    → stored_at chunk es block ≡ None
    → o ≡ None
no_chunk chunk es block None is none = refl
no_chunk chunk es block (Some new) is none =
    let bad : Some (block_in chunk new (place_in chunk block)) ≡ None =
    sym (stored_some chunk es block new is) ∙ none in
    absurd cc

-- A partition of which the first blocks are those that the store was made for: of the others each
-- is in the store.
module _ (chunk : Chunk) (base own store staged : List ℕ) (es : List Exception) (image : Image)
    (fits : Fits chunk (length own) store es)
    (begins : (i : ℕ) → i < length own → i < length base → get_or own i 0 ≡ get_or base i 0)
    (behind : (i : ℕ) → i < length own → length base ≤ i → stored_at chunk es i ≡ None → ⊥)
    (holds : HoldsBlocks chunk base store es image staged (length own)) where
  of_chosen : (i : ℕ) (o : Option ℕ)
      → i < length own
      → stored_at chunk es i ≡ o
      → sectors_at 8 image (sector_seen store (get_or own i 0) o) ≡ chosen_bytes base store image i
      o
  of_chosen i (Some stored) below h =
      ap (λ (s : ℕ). sectors_at 8 image s)
      (get_or_default store stored (get_or own i 0) 0
      (stored_inside chunk (length own) store es i stored fits h))
  of_chosen i None below h = elim (cases_lt i (length base)) [
    | inl inside ↦ ap (λ (s : ℕ). sectors_at 8 image s) (begins i below inside)
    | inr past ↦ absurd (behind i below (omega (arith, past)) h)
  ]

  pub bytes_filled : bytes_at image (sectors_seen chunk store es 0 own) ≡ filled staged (length own)
  unfolding bytes_at
  bytes_filled =
      seen_filled chunk store es 0 own image staged
      (λ i below.
      let at : i ≡ 0 + i = omega arith in
      subst (λ (k : ℕ).
      sectors_at 8 image (sector_seen store (get_or own i 0) (stored_at chunk es k))
      ≡ block_of staged k)
      at (of_chosen i (stored_at chunk es i) below refl ∙ holds i below))

-- a partition into whose own blocks the image was written
pub placed_filled : (own store staged : List ℕ) (image : Image)
    → HoldsImage own staged image (length own)
    → bytes_at image (sectors_seen One store [] 0 own) ≡ filled staged (length own)
unfolding bytes_at
placed_filled own store staged image holds =
    seen_filled One store [] 0 own image staged
    (λ i below.
    let at : i ≡ 0 + i = omega arith in
    subst (λ (k : ℕ). sectors_at 8 image (get_or own i 0) ≡ block_of staged k) at
    (holds i below))
