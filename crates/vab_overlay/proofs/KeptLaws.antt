-- A store in which only blocks are written that its list doesn't rest on.
use Rattle.std.proofs.Common.{◌≡◌, ◌≢◌, ℕ, ◌/◌, ◌≤◌, ◌<◌, List, length, take}
use Rattle.std.proofs.Common.{refl, sym, ◌∙◌, ap, subst, arith}
use Rattle.std.specs.Prelude.{Option, Some, None}
use Rattle.vab_disk.specs.Disk.{Image}
use Rattle.vab_disk.specs.Calls.{InSectors, SameBut}
use Rattle.vab_exceptions.specs.declared.area.Exception.{Exception}
use Rattle.vab_exceptions.specs.Header.{header_of}
use Rattle.vab_space.specs.declared.Chunk.TheVariants.{One}
use Rattle.vab_space.specs.Chunks.{page_block}
use Rattle.vab_space.proofs.ChunkLaws.{page_inside}
use Rattle.vab_store.specs.Layout.{chunk_bytes, slot_at, IsApart, AreDisjoint}
use Rattle.vab_store.specs.Scan.{IsScan}
use Rattle.vab_store.specs.Seen.{chosen_bytes, view_block}
use Rattle.vab_store.specs.View.{exception_at, view_of}
use Rattle.vab_store.proofs.ScanLaws.{scan_of_is, scan_of_ok}
use Rattle.vab_store.proofs.SlotLaws.{slot_same}
use Rattle.vab_store.proofs.ViewLaws.{view_in}
use Rattle.vab_overlay.specs.Overlaid.{IsOverlaid, IsKept}
use Rattle.vab_overlay.proofs.DataLaws.{InBlock, block_kept, base_kept}

-- a block of a store that is neither its header, nor a page up to the one in which the list ends,
-- nor the chunk of an exception
pub record IsUnseen (es : List Exception) (block : ℕ) : Type 0 where
  pub header : block ≢ 0
  pub page : (p : ℕ) → p ≤ length es / 256 → block ≢ page_block One p
  pub named : (j : ℕ) → j < length es → (exception_at es j).new_chunk ≢ block

-- only such blocks are written
abbrev pub SameSeen : List ℕ → List Exception → Image → Image → Type 0
SameSeen store es old new = SameBut (InSectors (InBlock store (IsUnseen es))) old new

module _ (store : List ℕ) (bound : ℕ) (es : List Exception) (old new : Image)
    (apart : IsApart store)
    (overlaid : IsOverlaid store bound es old)
    (same : SameSeen store es old new) where
  pub was_scan : IsScan One store bound old es
  was_scan = scan_of_ok store bound old es overlaid.scanned

  pub page_there : (p : ℕ) → p ≤ length es / 256 → page_block One p < length store
  page_there p within =
      page_inside One (length store) p (omega (arith, within, was_scan.fits.room))

  pub page_same : (p : ℕ)
      → p ≤ length es / 256
      → chunk_bytes store new (page_block One p) ≡ chunk_bytes store old (page_block One p)
  page_same p within =
      block_kept store (IsUnseen es) old new (page_block One p) apart same (page_there p within)
      (λ b unseen is. unseen.page p within (sym is))

  pub header_same : chunk_bytes store new 0 ≡ chunk_bytes store old 0
  header_same =
      block_kept store (IsUnseen es) old new 0 apart same (omega (arith, was_scan.fits.chunks))
      (λ b unseen is. unseen.header (sym is))

  pub named_same : (j : ℕ)
      → j < length es
      → chunk_bytes store new (exception_at es j).new_chunk
      ≡ chunk_bytes store old (exception_at es j).new_chunk
  named_same j below =
      block_kept store (IsUnseen es) old new (exception_at es j).new_chunk apart same
      (was_scan.fits.lie j below).new_chunk
      (λ b unseen. unseen.named j below)

  -- an entry of those pages
  pub entry_same : (t : ℕ)
      → t / 256 ≤ length es / 256
      → slot_at One store new t ≡ slot_at One store old t
  entry_same t within = slot_same One store old new t (page_same (t / 256) within)

  -- a block that is read through an exception
  pub stored_same : (block chunk : ℕ)
      → view_of es block ≡ Some chunk
      → chunk_bytes store new chunk ≡ chunk_bytes store old chunk
  stored_same block chunk is =
      let found = view_in es block chunk is in
      subst (λ (c : ℕ). chunk_bytes store new c ≡ chunk_bytes store old c) found.new_is
      (named_same found.place found.within)

  view_same : (base : List ℕ) (b : ℕ) (o : Option ℕ)
      → AreDisjoint base store
      → b < length base
      → view_of es b ≡ o
      → view_block One base store es new b ≡ view_block One base store es old b
  view_same base b (Some chunk) disjoint below is =
      ap (chosen_bytes base store new b) is
      ∙ stored_same b chunk is
      ∙ ap (chosen_bytes base store old b) (sym is)
  view_same base b None disjoint below is =
      ap (chosen_bytes base store new b) is
      ∙ base_kept base store (IsUnseen es) old new b disjoint same below
      ∙ ap (chosen_bytes base store old b) (sym is)

  still_scan : IsScan One store bound new es
  still_scan = record {
    fits = was_scan.fits;
    header = ap (λ (b : List ℕ). header_of (take 512 b)) header_same ∙ was_scan.header;
    reads = λ t below. entry_same t (omega (arith, below)) ∙ was_scan.reads t below;
    stops =
        ap (λ (e : Exception). e.new_chunk) (entry_same (length es) (omega arith))
        ∙ was_scan.stops;
  }

  pub kept : IsKept store bound es old new
  kept = record {
    overlaid = record {
      scanned = scan_of_is store bound new es still_scan;
      clean = λ t behind page.
          ap (λ (e : Exception). e.new_chunk) (entry_same t (omega (arith, page)))
          ∙ overlaid.clean t behind page;
    };
    same = λ base b disjoint below. view_same base b (view_of es b) disjoint below refl;
  }
