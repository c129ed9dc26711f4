-- What a scan gives of a store that was written.
use Rattle.std.proofs.Common.{◌≡◌, ℕ, ◌+◌, ◌-◌, ◌*◌, ◌/◌, ◌%◌, ◌^◌, ◌≤◌, ◌<◌, min, List, length}
use Rattle.std.proofs.Common.{take, get_or, replicate, refl, sym, ◌∙◌, ap, subst, arith, true}
use Rattle.std.proofs.Common.{false, cond, ◌==◌, All}
use Rattle.std.specs.Prelude.{slice_index, Ok}
use Rattle.std.specs.List.Sorted.{IsStrictlyIncreasing}
use Rattle.std.proofs.lemmas.Bool.{ne_eqb, eq-eqb}
use Rattle.std.proofs.lemmas.List.Kept.{AllPairs-from_increasing}
use Rattle.vab_disk.specs.Disk.{Image}
use Rattle.vab_space.specs.declared.Chunk.{Chunk}
use Rattle.vab_space.specs.declared.Chunk.TheVariants.{One, Two, Four}
use Rattle.vab_space.specs.Chunks.{blocks_in, block_in, chunk_at, place_in, chunks_in, chunks_for}
use Rattle.vab_space.specs.Chunks.{entries_in}
use Rattle.vab_space.specs.Chunks.{need_at, page_block, is_area, new_chunk_of, page_of, entry_of}
use Rattle.vab_space.proofs.ChunkLaws.{chunk_first, place_first, chunk_again, place_again}
use Rattle.vab_space.proofs.ChunkLaws.{page_some, page_area, page_again, page_within, pages_enough}
use Rattle.vab_space.proofs.ChunkLaws.{room_for, need_some, new_chunk_some, new_chunk_place}
use Rattle.vab_space.proofs.ChunkLaws.{new_chunk_entry, new_chunk_small, new_chunks_ascend}
use Rattle.vab_space.proofs.ChunkLaws.{data_chunk_within, data_within, area_tested, other_tested}
use Rattle.vab_space.proofs.ChunkLaws.{data_tested}
use Rattle.vab_exceptions.specs.declared.area.Exception.{Exception}
use Rattle.vab_exceptions.specs.Entries.{entry_at, area_bytes, FitsEntry}
use Rattle.vab_exceptions.specs.Header.{header_of, header_bytes}
use Rattle.vab_exceptions.proofs.EntryLaws.{length-firsts, get_or-firsts, entry_at-bytes}
use Rattle.vab_exceptions.proofs.EntryLaws.{entry_at-end}
use Rattle.vab_store.specs.Layout.{chunks_of, chunk_bytes, slot_at, slots_of}
use Rattle.vab_store.specs.View.{no_exception, exception_at, Lies, AreOther, Fits}
use Rattle.vab_store.specs.Scan.{IsScan}
use Rattle.vab_store.specs.Writing.{planned_at, planned_of, page_entries_of, block_of, header_block}
use Rattle.vab_store.specs.Writing.{store_block, HoldsStore}

-- ---- what stands in each kind of block

pub store_block-header : (k : Chunk) (olds image : List ℕ)
    → store_block k olds image 0 ≡ header_block k
unfolding store_block
store_block-header k olds image =
    let here : List ℕ = area_bytes 4096 (page_entries_of k olds (page_of k 0)) in
    let last : List ℕ =
    block_of image (block_in k (slice_index olds (entry_of k (chunk_at k 0))) (place_in k 0)) in
    ap (λ t. cond t (cond (place_in k 0 == 0) (header_block k) (replicate 4096 0))
    (cond (is_area k (chunk_at k 0)) here last))
    (eq-eqb (chunk_at k 0) 0 (chunk_first k))
    ∙ ap (λ t. cond t (header_block k) (replicate 4096 0))
    (eq-eqb (place_in k 0) 0 (place_first k))

pub store_block-page : (k : Chunk) (olds image : List ℕ) (p : ℕ)
    → store_block k olds image (page_block k p) ≡ area_bytes 4096 (page_entries_of k olds p)
unfolding store_block
store_block-page k olds image p =
    let b : ℕ = page_block k p in
    let c : ℕ = chunk_at k b in
    let front : List ℕ = cond (place_in k b == 0) (header_block k) (replicate 4096 0) in
    let here : List ℕ = area_bytes 4096 (page_entries_of k olds (page_of k b)) in
    let last : List ℕ =
    block_of image (block_in k (slice_index olds (entry_of k c)) (place_in k b)) in
    ap (λ t. cond t front (cond (is_area k c) here last))
    (ne_eqb c 0 (λ is. omega (arith, is, page_some k p)))
    ∙ ap (λ t. cond t here last) (area_tested k c (page_area k p))
    ∙ ap (λ (n : ℕ). area_bytes 4096 (page_entries_of k olds n)) (page_again k p)

pub store_block-data : (k : Chunk) (olds image : List ℕ) (j r : ℕ)
    → r < blocks_in k
    → store_block k olds image (block_in k (new_chunk_of k j) r)
    ≡ block_of image (block_in k (slice_index olds j) r)
unfolding store_block
store_block-data k olds image j r below =
    let b : ℕ = block_in k (new_chunk_of k j) r in
    let c : ℕ = chunk_at k b in
    let c_is : c ≡ new_chunk_of k j = chunk_again k (new_chunk_of k j) r below in
    let front : List ℕ = cond (place_in k b == 0) (header_block k) (replicate 4096 0) in
    let here : List ℕ = area_bytes 4096 (page_entries_of k olds (page_of k b)) in
    let last : List ℕ =
    block_of image (block_in k (slice_index olds (entry_of k c)) (place_in k b)) in
    let other : is_area k c ≡ false =
    other_tested k c
    (λ is. new_chunk_place k j (ap (λ (n : ℕ). n % (entries_in k + 1)) (sym c_is) ∙ is)) in
    let entry : entry_of k c ≡ j = ap (entry_of k) c_is ∙ new_chunk_entry k j in
    let place : place_in k b ≡ r = place_again k (new_chunk_of k j) r below in
    ap (λ t. cond t front (cond (is_area k c) here last))
    (ne_eqb c 0 (λ is. omega (arith, is, c_is, new_chunk_some k j)))
    ∙ ap (λ t. cond t here last) other
    ∙ ap (λ (n : ℕ). block_of image (block_in k (slice_index olds n) (place_in k b))) entry
    ∙ ap (λ (n : ℕ). block_of image (block_in k (slice_index olds j) n)) place

-- ---- the planned exceptions

length-planned_of : (k : Chunk) (olds : List ℕ) → length (planned_of k olds) ≡ length olds
length-planned_of k olds = length-firsts (planned_at k olds) (length olds)

pub planned_of-at : (k : Chunk) (olds : List ℕ) (j : ℕ)
    → j < length olds
    → exception_at (planned_of k olds) j ≡ planned_at k olds j
planned_of-at k olds j below =
    get_or-firsts (planned_at k olds) (length olds) j no_exception below

planned_lies : (k : Chunk) (olds : List ℕ) (blocks bound j : ℕ)
    → need_at (length olds) k ≤ blocks
    → slice_index olds j < bound
    → j < length olds
    → Lies k (chunks_in k blocks) bound (planned_at k olds j)
planned_lies k olds blocks bound j room below lt = record {
  old_chunk = below;
  new_chunk = data_chunk_within k (length olds) blocks j room lt;
  is_data = data_tested k (new_chunk_of k j) (new_chunk_some k j) (new_chunk_place k j);
}

planned_other : (k : Chunk) (olds : List ℕ) (i j : ℕ)
    → IsStrictlyIncreasing olds
    → i < j
    → j < length olds
    → AreOther (planned_at k olds i) (planned_at k olds j)
planned_other k olds i j ascend order below = record {
  old_chunk = λ same.
      let less : slice_index olds i < slice_index olds j =
      AllPairs-from_increasing olds ascend i j 0 order below in
      omega (arith, less, same);
  new_chunk = λ same. omega (arith, same, new_chunks_ascend k i j order);
}

-- these exceptions keep the rules of the store
pub planned_fits : (k : Chunk) (olds map : List ℕ) (bound : ℕ)
    → need_at (length olds) k ≤ length map
    → IsStrictlyIncreasing olds
    → All (λ old. old < chunks_for k bound) olds
    → Fits k bound map (planned_of k olds)
planned_fits k olds map bound room ascend below =
    let ended : length olds < slots_of k map = room_for k (length olds) (length map) room in
    record {
      chunks = pages_enough k (length map) (omega (arith, ended));
      room = omega (arith, ended, length-planned_of k olds);
      lie = λ j lt.
          let in_olds : j < length olds = omega (arith, lt, length-planned_of k olds) in
          subst (Lies k (chunks_of k map) (chunks_for k bound))
          (sym (planned_of-at k olds j in_olds))
          (planned_lies k olds (length map) (chunks_for k bound) j room (below j 0 in_olds)
          in_olds);
      once = λ i j order lt.
          let in_olds : j < length olds = omega (arith, lt, length-planned_of k olds) in
          subst (λ (e : Exception). AreOther e (exception_at (planned_of k olds) j))
          (sym (planned_of-at k olds i (omega (arith, order, in_olds))))
          (subst (AreOther (planned_at k olds i)) (sym (planned_of-at k olds j in_olds))
          (planned_other k olds i j ascend order in_olds));
    }

-- ---- the entries on the disk

record IsWritten (k : Chunk) (map olds image : List ℕ) (disk : Image) : Type 0 where
  room : need_at (length olds) k ≤ length map
  holds : HoldsStore k map olds image disk (need_at (length olds) k)

page_read : (k : Chunk) (map olds image : List ℕ) (disk : Image) (j : ℕ)
    → IsWritten k map olds image disk
    → j ≤ length olds
    → chunk_bytes map disk (page_block k (j / 256))
    ≡ area_bytes 4096 (page_entries_of k olds (j / 256))
page_read k map olds image disk j is within =
    is.holds (page_block k (j / 256)) (page_within k (length olds) j within)
    ∙ store_block-page k olds image (j / 256)

slot_read : (k : Chunk) (map olds image : List ℕ) (disk : Image) (t : ℕ)
    → IsWritten k map olds image disk
    → ((i : ℕ) → slice_index olds i < 2 ^ 64)
    → length olds < 2 ^ 62
    → t < length olds
    → slot_at k map disk t ≡ planned_at k olds t
unfolding slot_at
slot_read k map olds image disk t is small few below =
    let p : ℕ = t / 256 in
    let i : ℕ = t % 256 in
    let f : ℕ → Exception = λ j. planned_at k olds (256 * p + j) in
    let count : ℕ = min (length olds - 256 * p) 256 in
    let es : List Exception = page_entries_of k olds p in
    let inside : i < count = omega (arith, below) in
    let at_t : get_or es i no_exception ≡ f i = get_or-firsts f count i no_exception inside in
    let here : 256 * p + i ≡ t = omega arith in
    let fits : FitsEntry (f i) = record {
      old_chunk = small (256 * p + i);
      new_chunk = new_chunk_small k (256 * p + i) (omega (arith, few, below));
    } in
    let read : entry_at (area_bytes 4096 es) i ≡ get_or es i no_exception =
    entry_at-bytes 4096 es i no_exception (omega (arith, inside, length-firsts f count))
    (subst FitsEntry (sym at_t) fits) in
    ap (λ (b : List ℕ). entry_at b i) (page_read k map olds image disk t is (omega (arith, below)))
    ∙ read ∙ at_t ∙ ap (planned_at k olds) here

slot_end : (k : Chunk) (map olds image : List ℕ) (disk : Image)
    → IsWritten k map olds image disk
    → (slot_at k map disk (length olds)).new_chunk ≡ 0
unfolding slot_at
slot_end k map olds image disk is =
    let p : ℕ = length olds / 256 in
    let f : ℕ → Exception = λ j. planned_at k olds (256 * p + j) in
    let count : ℕ = min (length olds - 256 * p) 256 in
    let es : List Exception = page_entries_of k olds p in
    let long : length es ≡ length olds % 256 = omega (arith, length-firsts f count) in
    ap (λ (b : List ℕ). (entry_at b (length olds % 256)).new_chunk)
    (page_read k map olds image disk (length olds) is (omega arith))
    ∙ ap (λ (i : ℕ). (entry_at (area_bytes 4096 es) i).new_chunk) (sym long)
    ∙ entry_at-end 4096 es (omega (arith, long))

header_read : (k : Chunk) → header_of (take 512 (header_block k)) ≡ Ok k
unfolding header_block header_bytes
header_read One = refl
header_read Two = refl
header_read Four = refl

-- A store that was written is scanned so.
pub written_scan : (k : Chunk) (map olds image : List ℕ) (disk : Image) (bound : ℕ)
    → need_at (length olds) k ≤ length map
    → HoldsStore k map olds image disk (need_at (length olds) k)
    → IsStrictlyIncreasing olds
    → All (λ old. old < chunks_for k bound) olds
    → ((i : ℕ) → slice_index olds i < 2 ^ 64)
    → length olds < 2 ^ 62
    → IsScan k map bound disk (planned_of k olds)
written_scan k map olds image disk bound room holds ascend below small few =
    let is : IsWritten k map olds image disk = record { room = room; holds = holds } in
    record {
      fits = planned_fits k olds map bound room ascend below;
      header =
          ap (λ (b : List ℕ). header_of (take 512 b))
          (holds 0 (need_some k (length olds)) ∙ store_block-header k olds image)
          ∙ header_read k;
      reads = λ t lt.
          let in_olds : t < length olds = omega (arith, lt, length-planned_of k olds) in
          slot_read k map olds image disk t is small few in_olds
          ∙ sym (planned_of-at k olds t in_olds);
      stops =
          ap (λ (n : ℕ). (slot_at k map disk n).new_chunk) (length-planned_of k olds)
          ∙ slot_end k map olds image disk is;
    }

-- The chunk of each exception holds its blocks.
pub written_block : (k : Chunk) (map olds image : List ℕ) (disk : Image) (j r : ℕ)
    → HoldsStore k map olds image disk (need_at (length olds) k)
    → j < length olds
    → r < blocks_in k
    → chunk_bytes map disk (block_in k (new_chunk_of k j) r)
    ≡ block_of image (block_in k (slice_index olds j) r)
written_block k map olds image disk j r holds below inside =
    holds (block_in k (new_chunk_of k j) r) (data_within k (length olds) j r below inside)
    ∙ store_block-data k olds image j r inside
