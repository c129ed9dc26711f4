-- A store whose list of exceptions rests on sectors that stay has the same list.
use Rattle.std.proofs.Common.{◌≡◌, ◌∙◌, inl, inr, ℕ, ◌/◌, ◌%◌, ◌<◌, ◌≤◌, List, length, take, Ok}
use Rattle.std.proofs.Common.{ap, arith}
use Rattle.vab_disk.specs.Disk.{Image}
use Rattle.vab_exceptions.specs.declared.area.Exception.{Exception}
use Rattle.vab_exceptions.specs.Entries.{entry_at}
use Rattle.vab_exceptions.specs.Header.{header_of}
use Rattle.vab_space.specs.declared.Chunk.{Chunk}
use Rattle.vab_space.specs.Chunks.{page_block, page_entries}
use Rattle.vab_store.specs.Layout.{chunk_bytes, slot_at}
use Rattle.vab_store.specs.Reached.{IsReached}
use Rattle.vab_store.specs.Scan.{scan_of}
use Rattle.vab_store.proofs.ChunkLaws.{chunk_same}
use Rattle.vab_store.proofs.ScanLaws.{scan_of_is, scan_of_ok}

module _
    (k : Chunk) (store : List ℕ) (count : ℕ) (old new : Image)
    (same : (s : ℕ) → IsReached k store count s → new s ≡ old s) where
  slot_kept : (t : ℕ) → t ≤ count → slot_at k store new t ≡ slot_at k store old t
  unfolding slot_at
  slot_kept t within =
      ap (λ bytes. entry_at bytes (t % page_entries))
      (chunk_same store old new (page_block k (t / page_entries))
      (λ s is. same s (inr (record { entry = t; within = within; here = is }))))

  pub scan_kept : (bound : ℕ) (es : List Exception)
      → length es ≡ count
      → scan_of k store bound old ≡ Ok es
      → scan_of k store bound new ≡ Ok es
  scan_kept bound es long is =
      let was = scan_of_ok store bound old es is in
      scan_of_is store bound new es (record {
        fits = was.fits;
        header =
            ap (λ bytes. header_of (take 512 bytes))
            (chunk_same store old new 0 (λ s here. same s (inl here)))
            ∙ was.header;
        reads = λ t below. slot_kept t (omega (arith, below, long)) ∙ was.reads t below;
        stops =
            ap (λ (e : Exception). e.new_chunk) (slot_kept (length es) (omega (arith, long)))
            ∙ was.stops;
      })
