-- An image that was written into a store.
use Rattle.std.proofs.Common.{◌≡◌, ℕ, ◌*◌, ◌<◌, ◌≤◌, Bool, false, List, length, get_or, Option}
use Rattle.std.proofs.Common.{Some, None, ltb, refl, sym, ap, ◌∙◌, subst, arith, ⊎_elim, Contains}
use Rattle.std.proofs.lemmas.Bool.{and_parts, ltb-true, not-false}
use Rattle.std.specs.Str.{bytes_eq}
use Rattle.std.proofs.lemmas.Slice.Eq.{bytes_eq-Decides}
use Rattle.std.proofs.lemmas.List.{get_or_default}
use Rattle.vab_disk.specs.Disk.{Image}
use Rattle.vab_exceptions.specs.declared.area.Exception.{Exception}
use Rattle.vab_disk.specs.Calls.{InSectors, SameBut}
use Rattle.vab_space.specs.declared.Chunk.{Chunk}
use Rattle.vab_space.specs.Chunks.{block_in, chunk_at, place_in, new_chunk_of}
use Rattle.vab_space.proofs.ChunkLaws.{block_is, place_below}
use Rattle.vab_space.proofs.DifferingLaws.{differing_lacks}
use Rattle.vab_store.specs.Layout.{chunk_bytes, AreDisjoint, InFirst}
use Rattle.vab_store.specs.Seen.{chosen_bytes, view_block}
use Rattle.vab_store.specs.View.{view_of, exception_at}
use Rattle.vab_store.specs.Writing.{planned_of, planned_at, block_of}
use Rattle.vab_store.proofs.BlockLaws.{block_past}
use Rattle.vab_store.proofs.StoredLaws.{stored_some, stored_none}
use Rattle.vab_store.proofs.ViewLaws.{IsIn, view_in, view_out}
use Rattle.vab_exceptions.proofs.EntryLaws.{length-firsts}
use Rattle.vab_store.proofs.ChunkLaws.{chunk_same, apart_sector}
use Rattle.vab_store.proofs.WrittenLaws.{planned_of-at}
use Rattle.vab_install.specs.Differing.{differs_at, differing_of}
use Rattle.vab_install.specs.Snapshot.{HoldsBlocks, HoldsNew, EndsInZeros}
use Rattle.vab_install.proofs.BeginLaws.{stays}

-- ---- what stays

-- a block that is in no chunk of the store reads as before
pub base_stays : (base store : List ℕ) (n : ℕ) (old new : Image) (i : ℕ)
    → AreDisjoint base store
    → n ≤ length store
    → SameBut (InSectors (InFirst store n)) old new
    → i < length base
    → chunk_bytes base new i ≡ chunk_bytes base old i
base_stays base store n old new i disjoint fits same below =
    chunk_same base old new i
    (λ s here. stays (InSectors (InFirst store n)) old new s same
    (λ written.
    ⊎_elim
    (λ before. omega (arith, before, written.here.from))
    (λ behind. omega (arith, behind, written.here.below))
    (apart_sector (get_or base i 0) (get_or store written.block 0) s
    (disjoint i written.block below (omega (arith, written.within, fits))) here)))

-- ---- what is read through the store

length_planned : (k : Chunk) (olds : List ℕ) → length (planned_of k olds) ≡ length olds
length_planned k olds = length-firsts (planned_at k olds) (length olds)

same_block : (base : List ℕ) (image : Image) (staged : List ℕ) (i : ℕ)
    → differs_at base image staged i ≡ false
    → (i < length base) × (chunk_bytes base image i ≡ block_of staged i)
same_block base image staged i h =
    let equal : Bool = bytes_eq (chunk_bytes base image i) (block_of staged i) in
    let parts = and_parts (ltb i (length base)) equal (not-false _ h) in (
      ltb-true i (length base) parts.0,
      (bytes_eq-Decides (chunk_bytes base image i) (block_of staged i)).0 parts.1,
    )

module _ (k : Chunk) (store olds staged : List ℕ) (new : Image)
    (holds : HoldsNew k store olds staged new) where
  read_new : (i chunk : ℕ)
      → view_of (planned_of k olds) (chunk_at k i) ≡ Some chunk
      → chunk_bytes store new (block_in k chunk (place_in k i)) ≡ block_of staged i
  read_new i chunk h =
      let r : ℕ = place_in k i in
      let at : IsIn (planned_of k olds) (chunk_at k i) chunk =
      view_in (planned_of k olds) (chunk_at k i) chunk h in
      let below : at.place < length olds = omega (arith, at.within, length_planned k olds) in
      let is : exception_at (planned_of k olds) at.place ≡ planned_at k olds at.place =
      planned_of-at k olds at.place below in
      let old_is : get_or olds at.place 0 ≡ chunk_at k i =
      sym (ap (λ (e : Exception). e.old_chunk) is) ∙ at.old_is in
      let new_is : new_chunk_of k at.place ≡ chunk =
      sym (ap (λ (e : Exception). e.new_chunk) is) ∙ at.new_is in
      ap (λ (c : ℕ). chunk_bytes store new (block_in k c r)) (sym new_is)
      ∙ holds at.place r below (place_below k i)
      ∙ ap (λ (c : ℕ). block_of staged (block_in k c r)) old_is
      ∙ ap (block_of staged) (block_is k i)

  -- behind the image's end there are zeros
  pub ends_in_zeros : (blocks : ℕ)
      → length staged ≤ 4096 * blocks
      → EndsInZeros k store (planned_of k olds) new blocks
  ends_in_zeros blocks short j r within inside behind =
      let below : j < length olds = omega (arith, within, length_planned k olds) in
      let is : exception_at (planned_of k olds) j ≡ planned_at k olds j =
      planned_of-at k olds j below in
      let past : length staged ≤ 4096 * block_in k (get_or olds j 0) r =
      omega (arith, short, behind, ap (λ (e : Exception). block_in k e.old_chunk r) is) in
      ap (λ (e : Exception). chunk_bytes store new (block_in k e.new_chunk r)) is
      ∙ holds j r below inside
      ∙ sym (block_past 4096 staged (block_in k (get_or olds j 0) r) refl past)

  module _ (base : List ℕ) (old : Image) (blocks : ℕ)
      (listed : olds ≡ differing_of k base old staged blocks)
      (kept : (i : ℕ) → i < length base → chunk_bytes base new i ≡ chunk_bytes base old i) where
    same_at : (i : ℕ)
        → i < blocks
        → view_of (planned_of k olds) (chunk_at k i) ≡ None
        → differs_at base old staged i ≡ false
    same_at i below h =
        differing_lacks k (differs_at base old staged) blocks i below
        (λ has.
        let there : Contains olds (chunk_at k i) =
        subst (λ (l : List ℕ). Contains l (chunk_at k i)) (sym listed) has in
        let is : exception_at (planned_of k olds) there.0 ≡ planned_at k olds there.0 =
        planned_of-at k olds there.0 there.1 in
        view_out (planned_of k olds) (chunk_at k i) h there.0
        (omega (arith, there.1, length_planned k olds))
        (ap (λ (e : Exception). e.old_chunk) is
        ∙ get_or_default olds there.0 0 (chunk_at k i) there.1
        ∙ there.2))

    chosen : (i : ℕ) (o : Option ℕ)
        → i < blocks
        → view_of (planned_of k olds) (chunk_at k i) ≡ o
        → view_block k base store (planned_of k olds) new i ≡ block_of staged i
    chosen i (Some chunk) below h =
        ap (chosen_bytes base store new i) (stored_some k (planned_of k olds) i chunk h)
        ∙ read_new i chunk h
    chosen i None below h =
        let same = same_block base old staged i (same_at i below h) in
        ap (chosen_bytes base store new i) (stored_none k (planned_of k olds) i h)
        ∙ kept i same.0
        ∙ same.1

    pub holds_blocks : HoldsBlocks k base store (planned_of k olds) new staged blocks
    holds_blocks i below = chosen i (view_of (planned_of k olds) (chunk_at k i)) below refl
