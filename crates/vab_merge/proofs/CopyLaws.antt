-- Blocks that are copied, one after another.
use Rattle.std.proofs.Common.{◌≡◌, ◌≢◌, inl, inr, ⊎_elim, ℕ, ◌+◌, ◌≤◌, ◌<◌, List, length, ◌∙◌}
use Rattle.std.proofs.Common.{sym, ap, subst, arith}
use Rattle.std.specs.Prelude.{slice_index}
use Rattle.std.proofs.lemmas.Bool.{cases_lt}
use Rattle.vab_space.specs.declared.Chunk.{Chunk}
use Rattle.vab_space.specs.declared.Chunk.TheVariants.{One, Two, Four}
use Rattle.vab_space.specs.Chunks.{blocks_in, block_in, chunk_at}
use Rattle.vab_space.proofs.ChunkLaws.{block_inside, chunk_again}
use Rattle.vab_disk.specs.Disk.{Image}
use Rattle.vab_disk.specs.Calls.{InSectors, SameBut, IsBetween}
use Rattle.vab_gate.specs.Gate.{set_block, IsAmong}
use Rattle.vab_exceptions.specs.declared.area.Exception.{Exception}
use Rattle.vab_store.specs.Layout.{chunk_bytes, AreApart, IsApart, AreDisjoint, InFirst}
use Rattle.vab_store.specs.View.{exception_at, Fits}
use Rattle.vab_store.proofs.ChunkLaws.{apart_of, apart_sector, chunk_same, chunk_here, chunk_there}
use Rattle.vab_merge.specs.Copied.{InChunk, InCopied, IsCopied, AreCopied}

-- the blocks of a chunk follow one another
pub block_next : (k : Chunk) (c r : ℕ) → r < blocks_in k → block_in k c r ≡ block_in k c 0 + r
block_next One c r below = omega (arith, below)
block_next Two c r below = omega (arith, below)
block_next Four c r below = omega (arith, below)

-- what a copy keeps
pub record MayCopy (base store : List ℕ) : Type 0 where
  pub apart : IsApart base
  pub disjoint : AreDisjoint base store

-- ---- what stays

-- a sector of another of the partition's blocks
pub record InOther (base : List ℕ) (block s : ℕ) : Type 0 where
  pub other : ℕ
  pub within : other < length base
  pub differs : other ≢ block
  pub here : IsBetween (slice_index base other) (slice_index base other + 8) s

-- the store's blocks stay, where the partition's are written
pub store_kept : (base store : List ℕ) (W : ℕ → Type 0) (c : ℕ) (old new : Image)
    → AreDisjoint base store
    → ((s : ℕ) → W s → InFirst base (length base) s)
    → SameBut (InSectors W) old new
    → c < length store
    → chunk_bytes store new c ≡ chunk_bytes store old c
store_kept base store W c old new disjoint of_base but below =
    chunk_same store old new c
    (λ s here.
    ⊎_elim (λ same. same)
    (λ written.
    let in_base = of_base s written in
    let b : ℕ = in_base.block in
    let apart : AreApart (slice_index base b) (slice_index store c) =
    disjoint b c in_base.within below in
    ⊎_elim
    (λ before. absurd (omega (arith, before, here.from)))
    (λ behind. absurd (omega (arith, behind, here.below)))
    (apart_sector (slice_index base b) (slice_index store c) s apart in_base.here))
    (but s))

-- a block of the partition stays, where others are written
pub base_kept : (base : List ℕ) (W : ℕ → Type 0) (block : ℕ) (old new : Image)
    → IsApart base
    → ((s : ℕ) → W s → InOther base block s)
    → SameBut (InSectors W) old new
    → block < length base
    → chunk_bytes base new block ≡ chunk_bytes base old block
base_kept base W block old new apart of_other but below =
    chunk_same base old new block
    (λ s here.
    ⊎_elim (λ same. same)
    (λ written.
    let is = of_other s written in
    let b : ℕ = is.other in
    ⊎_elim
    (λ before. absurd (omega (arith, before, here.from)))
    (λ behind. absurd (omega (arith, behind, here.below)))
    (apart_sector (slice_index base b) (slice_index base block) s
    (apart_of base b block apart is.within below is.differs) is.here))
    (but s))

-- ---- one chunk

pub chunk_of_base : (k : Chunk) (base : List ℕ) (c s : ℕ)
    → InChunk k base c s
    → InFirst base (length base) s
chunk_of_base k base c s is = record {
  block = block_in k c is.place;
  within = is.below;
  here = is.here;
}

-- a block of another chunk isn't one of this
pub chunk_of_other : (k : Chunk) (base : List ℕ) (c block s : ℕ)
    → c ≢ chunk_at k block
    → InChunk k base c s
    → InOther base block s
chunk_of_other k base c block s other is = record {
  other = block_in k c is.place;
  within = is.below;
  differs = λ same. other (sym (chunk_again k c is.place is.within) ∙ ap (chunk_at k) same);
  here = is.here;
}

-- its first n blocks are copied
abbrev pub FirstCopied : Chunk → List ℕ → List ℕ → Exception → ℕ → Image → Image → Type 0
FirstCopied k base store e n old new = (r : ℕ)
    → r < n
    → r < blocks_in k
    → block_in k e.old_chunk r < length base
    → chunk_bytes base new (block_in k e.old_chunk r)
    ≡ chunk_bytes store old (block_in k e.new_chunk r)

-- so is the next one
pub chunk_more : (k : Chunk) (base store : List ℕ) (e : Exception) (n : ℕ) (old mid new : Image)
    (bytes : List ℕ)
    → MayCopy base store
    → n < blocks_in k
    → block_in k e.old_chunk n < length base
    → block_in k e.new_chunk n < length store
    → SameBut (InSectors (InChunk k base e.old_chunk)) old mid
    → FirstCopied k base store e n old mid
    → bytes ≡ chunk_bytes store mid (block_in k e.new_chunk n)
    → length bytes ≡ 4096
    → new ≡ set_block mid (slice_index base (block_in k e.old_chunk n)) bytes
    → FirstCopied k base store e (n + 1) old new
chunk_more k base store e n old mid new bytes may inside to_below from_below but copied is long
    written r below r_inside r_below =
    let b : ℕ = block_in k e.old_chunk n in
    elim (cases_lt r n) [
      | inl before ↦
          let a : ℕ = block_in k e.old_chunk r in
          let other : a ≢ b = λ same.
          omega (
            arith,
            same,
            before,
            block_next k e.old_chunk n inside,
            block_next k e.old_chunk r r_inside,
          ) in
          chunk_there base mid new b a bytes
          (apart_of base a b may.apart r_below to_below other)
          written
          ∙ copied r before r_inside r_below
      | inr last ↦
          let same : n ≡ r = omega (arith, last, below) in
          subst (λ (j : ℕ). chunk_bytes base new (block_in k e.old_chunk j)
          ≡ chunk_bytes store old (block_in k e.new_chunk j)) same
          (chunk_here base mid new b bytes long written
          ∙ is
          ∙ store_kept base store (InChunk k base e.old_chunk) (block_in k e.new_chunk n) old mid
          may.disjoint (λ s. chunk_of_base k base e.old_chunk s) but from_below)
    ]

-- its sectors are some of the chunk's
pub in_chunk : (k : Chunk) (base : List ℕ) (c n : ℕ) (bytes : List ℕ) (s : ℕ) (x : List ℕ)
    → n < blocks_in k
    → block_in k c n < length base
    → IsAmong 8 (slice_index base (block_in k c n)) bytes s x
    → InChunk k base c s
in_chunk k base c n bytes s x inside below is = record {
  place = n;
  within = inside;
  below = below;
  here = record { from = is.first; below = is.last };
}

-- ---- one chunk after another

pub copied_of_base : (k : Chunk) (base : List ℕ) (es : List Exception) (first s : ℕ)
    → InCopied k base es first s
    → InFirst base (length base) s
copied_of_base k base es first s is =
    chunk_of_base k base (exception_at es is.place).old_chunk s is.here

-- a block whose chunk none of the exceptions has
pub copied_of_other : (k : Chunk) (base : List ℕ) (es : List Exception) (first block s : ℕ)
    → ((j : ℕ) → first ≤ j → j < length es → (exception_at es j).old_chunk ≢ chunk_at k block)
    → InCopied k base es first s
    → InOther base block s
copied_of_other k base es first block s other is =
    chunk_of_other k base (exception_at es is.place).old_chunk block s
    (other is.place is.behind is.within) is.here

-- the next chunk is copied
pub copied_more : (k : Chunk) (base store : List ℕ) (es : List Exception) (first n : ℕ)
    (old mid new : Image)
    → MayCopy base store
    → Fits k (length base) store es
    → first ≤ n
    → n < length es
    → SameBut (InSectors (InCopied k base es first)) old mid
    → AreCopied k base store es first n old mid
    → SameBut (InSectors (InChunk k base (exception_at es n).old_chunk)) mid new
    → IsCopied k base store (exception_at es n) mid new
    → AreCopied k base store es first (n + 1) old new
copied_more k base store es first n old mid new may fits behind within but copied more is j from
    below r inside to_below =
    elim (cases_lt j n) [
      | inl before ↦
          let e : Exception = exception_at es j in
          let b : ℕ = block_in k e.old_chunk r in
          let c : ℕ = (exception_at es n).old_chunk in
          let other : c ≢ chunk_at k b = λ same.
          (fits.once j n before within).old_chunk
          (sym (same ∙ chunk_again k e.old_chunk r inside)) in
          base_kept base (InChunk k base c) b mid new may.apart
          (λ s. chunk_of_other k base c b s other) more to_below
          ∙ copied j from before r inside to_below
      | inr last ↦
          let same : n ≡ j = omega (arith, last, below) in
          let stored : block_in k (exception_at es n).new_chunk r < length store =
          block_inside k (length store) (exception_at es n).new_chunk r
          (fits.lie n within).new_chunk inside in
          let here : block_in k (exception_at es n).old_chunk r < length base =
          subst (λ (i : ℕ). block_in k (exception_at es i).old_chunk r < length base) (sym same)
          to_below in
          subst (λ (i : ℕ). chunk_bytes base new (block_in k (exception_at es i).old_chunk r)
          ≡ chunk_bytes store old (block_in k (exception_at es i).new_chunk r)) same
          (is r inside here
          ∙ store_kept base store (InCopied k base es first)
          (block_in k (exception_at es n).new_chunk r) old mid may.disjoint
          (λ s. copied_of_base k base es first s) but stored)
    ]

-- its sectors are some of those
pub in_copied : (k : Chunk) (base : List ℕ) (es : List Exception) (first n s : ℕ)
    → first ≤ n
    → n < length es
    → InChunk k base (exception_at es n).old_chunk s
    → InCopied k base es first s
in_copied k base es first n s behind within is = record {
  place = n;
  behind = behind;
  within = within;
  here = is;
}
