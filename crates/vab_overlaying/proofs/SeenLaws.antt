-- What is read of a partition, block by block, through its store.
use Rattle.std.proofs.Common.{◌≡◌, ◌≢◌, ◌∙◌, ℕ, suc, ◌+◌, ◌-◌, ◌*◌, ◌≤◌, ◌<◌, List, [], ◌∷◌, ◌++◌}
use Rattle.std.proofs.Common.{length, get_or, refl, sym, ap, arith}
use Rattle.std.specs.Prelude.{Option, Some, None, All}
use Rattle.std.specs.List.{flat_map}
use Rattle.std.proofs.lemmas.List.{get_or_default}
use Rattle.std.proofs.lemmas.List.Elements.{All-get_or}
use Rattle.vab_bytes.specs.Number.{put_at}
use Rattle.vab_disk.specs.Disk.{Image}
use Rattle.vab_gate.specs.Gate.{sectors_at}
use Rattle.vab_copies.proofs.CopyLaws.{length-sectors}
use Rattle.vab_exceptions.specs.declared.area.Exception.{Exception}
use Rattle.vab_space.specs.declared.Chunk.TheVariants.{One}
use Rattle.vab_store.specs.Seen.{chosen_bytes, view_block}
use Rattle.vab_store.specs.View.{stored_at, Fits}
use Rattle.vab_store.proofs.StoredLaws.{stored_inside}
use Rattle.vab_device.specs.Mounted.{bytes_at}
use Rattle.vab_device.specs.Stores.{sector_seen, sectors_seen}
use Rattle.vab_overlaying.proofs.PutLaws.{pieces, pieces_same, pieces_long, pieces_put}

module _ (base store : List ℕ) (es : List Exception) (image : Image)
    (fits : Fits One (length base) store es) where
  -- a block as it is seen
  abbrev pub seen : ℕ → List ℕ
  seen n = view_block One base store es image n

  by_stored : (n : ℕ) (o : Option ℕ)
      → ((b : ℕ) → o ≡ Some b → b < length store)
      → sectors_at 8 image (sector_seen store (get_or base n 0) o)
      ≡ chosen_bytes base store image n o
  by_stored n None there = refl
  by_stored n (Some b) there =
      ap (λ (s : ℕ). sectors_at 8 image s)
      (get_or_default store b (get_or base n 0) 0 (there b refl))

  block_seen : (n : ℕ)
      → sectors_at 8 image (sector_seen store (get_or base n 0) (stored_at One es n)) ≡ seen n
  block_seen n =
      by_stored n (stored_at One es n)
      (λ b is. stored_inside One (length base) store es n b fits is)

  -- the bytes are those of the blocks, one after another
  seen_from : (n : ℕ) (owns : List ℕ)
      → ((j : ℕ) → j < length owns → get_or owns j 0 ≡ get_or base (n + j) 0)
      → flat_map (λ s. sectors_at 8 image s) (sectors_seen One store es n owns)
      ≡ pieces seen n (length owns)
  unfolding pieces
  seen_from n [] at = refl
  seen_from n (own ∷ owns) at =
      let none : n + 0 ≡ n = omega arith in
      let own_is : own ≡ get_or base n 0 =
      at 0 (omega arith) ∙ ap (λ (k : ℕ). get_or base k 0) none in
      let here : sectors_at 8 image (sector_seen store own (stored_at One es n)) ≡ seen n =
      ap (λ (o : ℕ). sectors_at 8 image (sector_seen store o (stored_at One es n))) own_is
      ∙ block_seen n in
      let rest = seen_from (n + 1) owns
      (λ j below.
      at (suc j) (omega (arith, below))
      ∙ ap (λ (k : ℕ). get_or base k 0) (let e : n + suc j ≡ (n + 1) + j = omega arith in e)) in
      (λ i. here i ++ rest i)

  pub bytes_seen : bytes_at image (sectors_seen One store es 0 base)
      ≡ pieces seen 0 (length base)
  unfolding bytes_at
  bytes_seen =
      seen_from 0 base
      (λ j below. ap (λ (k : ℕ). get_or base k 0) (let e : j ≡ 0 + j = omega arith in e))

  -- where each sector of the disk is 512 bytes, each of them is 4096
  module _ (size : ℕ)
      (whole : (s : ℕ) → s < size → length (image s) ≡ 512)
      (base_on : All (λ s. s + 8 ≤ size) base)
      (store_on : All (λ s. s + 8 ≤ size) store) where
    at_long : (s : ℕ) → s + 8 ≤ size → length (sectors_at 8 image s) ≡ 4096
    at_long s fit =
        length-sectors 8 image s (λ k below. whole (s + k) (omega (arith, fit, below)))

    chosen_long : (n : ℕ) (o : Option ℕ)
        → n < length base
        → ((b : ℕ) → o ≡ Some b → b < length store)
        → length (chosen_bytes base store image n o) ≡ 4096
    chosen_long n None below there =
        at_long (get_or base n 0) (All-get_or (λ (s : ℕ). s + 8 ≤ size) base n 0 below base_on)
    chosen_long n (Some b) below there =
        at_long (get_or store b 0)
        (All-get_or (λ (s : ℕ). s + 8 ≤ size) store b 0 (there b refl) store_on)

    pub seen_long : (n : ℕ) → n < length base → length (seen n) ≡ 4096
    seen_long n below =
        chosen_long n (stored_at One es n) below
        (λ b is. stored_inside One (length base) store es n b fits is)

    pub bytes_long : length (bytes_at image (sectors_seen One store es 0 base))
        ≡ 4096 * length base
    bytes_long =
        ap length bytes_seen
        ∙ pieces_long seen 0 (length base) (λ i low high. seen_long i (omega (arith, high)))

module _ (base store : List ℕ) (es now : List Exception) (old new : Image)
    (fits : Fits One (length base) store es)
    (fits_now : Fits One (length base) store now) where
  -- where each block is seen as before, so is the partition
  pub bytes_kept : ((n : ℕ)
      → n < length base
      → view_block One base store now new n ≡ view_block One base store es old n)
      → bytes_at new (sectors_seen One store now 0 base)
      ≡ bytes_at old (sectors_seen One store es 0 base)
  bytes_kept same =
      bytes_seen base store now new fits_now
      ∙ pieces_same (seen base store es old fits) (seen base store now new fits_now) 0
      (length base) (λ i low high. same i (omega (arith, high)))
      ∙ sym (bytes_seen base store es old fits)

  -- where one block is seen as these bytes, they stand in its place
  pub bytes_put : (size block : ℕ) (from : List ℕ)
      → ((s : ℕ) → s < size → length (old s) ≡ 512)
      → All (λ s. s + 8 ≤ size) base
      → All (λ s. s + 8 ≤ size) store
      → block < length base
      → length from ≡ 4096
      → view_block One base store now new block ≡ from
      → ((n : ℕ)
      → n < length base
      → n ≢ block
      → view_block One base store now new n ≡ view_block One base store es old n)
      → bytes_at new (sectors_seen One store now 0 base)
      ≡ put_at (bytes_at old (sectors_seen One store es 0 base)) (4096 * block) from
  bytes_put size block from whole base_on store_on below long here others =
      bytes_seen base store now new fits_now
      ∙ pieces_put (seen base store es old fits) (seen base store now new fits_now) block from 0
      (length base) (omega arith) (omega (arith, below)) long
      (λ i low high. seen_long base store es old fits size whole base_on store_on i
      (omega (arith, high)))
      here (λ i low high other. others i (omega (arith, high)) other)
      ∙ (let at : 4096 * (block - 0) ≡ 4096 * block = omega arith in
      ap (λ (a : ℕ). put_at (pieces (seen base store es old fits) 0 (length base)) a from) at)
      ∙ ap (λ (l : List ℕ). put_at l (4096 * block) from)
      (sym (bytes_seen base store es old fits))
