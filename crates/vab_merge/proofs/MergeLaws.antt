-- What each step of a merge leaves.
use Rattle.std.proofs.Common.{◌≡◌, ◌≢◌, ◌⊎◌, inl, inr, ⊎_elim, ℕ, zero, suc, ◌+◌, ◌-◌, ◌*◌, ◌/◌}
use Rattle.std.proofs.Common.{◌%◌, ◌≤◌, ◌<◌, min, List, length, take, refl, sym, ◌∙◌, ap, subst}
use Rattle.std.proofs.Common.{arith, length-take-le}
use Rattle.std.specs.Prelude.{slice_index, Option, Some, None, Ok}
use Rattle.std.proofs.lemmas.Bool.{cases_lt, cases_eq}
use Rattle.std.proofs.lemmas.List.{take_all}
use Rattle.vab_space.specs.declared.Chunk.{Chunk}
use Rattle.vab_space.specs.Chunks.{block_in, chunk_at, place_in, page_block}
use Rattle.vab_space.proofs.ChunkLaws.{block_is, place_below, block_inside, chunks_fewer}
use Rattle.vab_space.proofs.ChunkLaws.{page_apart, page_inside, page_positive, data_other}
use Rattle.vab_disk.specs.Disk.{Image}
use Rattle.vab_disk.specs.Calls.{InSectors, SameBut, IsBetween}
use Rattle.vab_exceptions.specs.declared.area.Exception.{Exception}
use Rattle.vab_exceptions.specs.Entries.{entry_at}
use Rattle.vab_exceptions.specs.Header.{header_of}
use Rattle.vab_store.specs.Layout.{chunk_bytes, pages_of, slot_at, slots_of}
use Rattle.vab_store.specs.Scan.{IsScan}
use Rattle.vab_store.specs.Seen.{chosen_bytes, view_block}
use Rattle.vab_store.specs.View.{no_exception, exception_at, view_of, stored_at, Fits}
use Rattle.vab_store.proofs.ChunkLaws.{apart_of, apart_sector, chunk_same}
use Rattle.vab_store.proofs.ScanLaws.{scan_of_is}
use Rattle.vab_store.proofs.StoredLaws.{stored_some, stored_none}
use Rattle.vab_store.proofs.ViewLaws.{view_in, view_out, view_chunk, take-at, take_fits, view_kept}
use Rattle.vab_store.proofs.ViewLaws.{view_dropped, view_other}
use Rattle.vab_store.specs.Sectors.{page_sector}
use Rattle.vab_merge.specs.Copied.{InCopied, AreCopied}
use Rattle.vab_merge.specs.Cleared.{IsClearedAt, IsClearing, AreCleared}
use Rattle.vab_merge.specs.Merged.{CanMerge, WithoutLast}
use Rattle.vab_merge.proofs.CopyLaws.{MayCopy, store_kept, base_kept, copied_of_base}
use Rattle.vab_merge.proofs.CopyLaws.{copied_of_other}
use Rattle.vab_merge.proofs.ClearLaws.{entry_kept, entry_gone}
use Rattle.vab_store.proofs.SlotLaws.{AreWhole, slot_in_sector, slot_same, sector_other}

pub may_copy : (k : Chunk) (base store : List ℕ) (es : List Exception) (size : ℕ)
    → CanMerge k base store es size
    → MayCopy base store
may_copy k base store es size can = record {
  apart = can.base_apart;
  disjoint = can.disjoint;
}

-- the page of an entry lies in the store
page_below : (k : Chunk) (store : List ℕ) (t : ℕ)
    → t < slots_of k store
    → page_block k (t / 256) < length store
page_below k store t below = page_inside k (length store) (t / 256) (omega (arith, below))

-- ---- a store whose chunks read the same

scan_kept : (k : Chunk) (store : List ℕ) (bound : ℕ) (old new : Image) (es : List Exception)
    → ((c : ℕ) → c < length store → chunk_bytes store new c ≡ chunk_bytes store old c)
    → IsScan k store bound old es
    → IsScan k store bound new es
scan_kept k store bound old new es same is = record {
  fits = is.fits;
  header =
      ap (λ (b : List ℕ). header_of (take 512 b))
      (same 0 (omega (arith, chunks_fewer k (length store) 2 is.fits.chunks)))
      ∙ is.header;
  reads = λ t below.
      slot_same k store old new t
      (same (page_block k (t / 256))
      (page_below k store t (omega (arith, below, is.fits.room))))
      ∙ is.reads t below;
  stops =
      ap (λ (e : Exception). e.new_chunk)
      (slot_same k store old new (length es)
      (same (page_block k (length es / 256)) (page_below k store (length es) is.fits.room)))
      ∙ is.stops;
}

-- ---- while blocks are copied

copied_block : (k : Chunk) (base store : List ℕ) (es : List Exception) (first block : ℕ)
    (old new : Image) (o : Option ℕ)
    → MayCopy base store
    → Fits k (length base) store es
    → SameBut (InSectors (InCopied k base es first)) old new
    → block < length base
    → view_of es (chunk_at k block) ≡ o
    → view_block k base store es new block ≡ view_block k base store es old block
copied_block k base store es first block old new (Some c) may fits but below is =
    let lies = view_chunk (length base) store es (chunk_at k block) c fits is in
    let stored : ℕ = block_in k c (place_in k block) in
    let there : stored_at k es block ≡ Some stored = stored_some k es block c is in
    ap (chosen_bytes base store new block) there
    ∙ store_kept base store (InCopied k base es first) stored old new may.disjoint
    (λ s. copied_of_base k base es first s) but
    (block_inside k (length store) c (place_in k block) lies.new_chunk (place_below k block))
    ∙ ap (chosen_bytes base store old block) (sym there)
copied_block k base store es first block old new None may fits but below is =
    let none : stored_at k es block ≡ None = stored_none k es block is in
    ap (chosen_bytes base store new block) none
    ∙ base_kept base (InCopied k base es first) block old new may.apart
    (λ s. copied_of_other k base es first block s
    (λ j behind within. view_out es (chunk_at k block) is j within))
    but below
    ∙ ap (chosen_bytes base store old block) (sym none)

pub copy_keeps : (k : Chunk) (base store : List ℕ) (es : List Exception) (size first : ℕ)
    (old new : Image)
    → CanMerge k base store es size
    → IsScan k store (length base) old es
    → SameBut (InSectors (InCopied k base es first)) old new
    → WithoutLast k base store es 0 old new
copy_keeps k base store es size first old new can scan but =
    let may = may_copy k base store es size can in
    let whole : take (length es - 0) es ≡ es = take_all (length es - 0) es (omega arith) in
    let still : IsScan k store (length base) new es =
    scan_kept k store (length base) old new es
    (λ c below. store_kept base store (InCopied k base es first) c old new may.disjoint
    (λ s. copied_of_base k base es first s) but below) scan in
    record {
      scanned = scan_of_is store (length base) new es still ∙ ap (λ l. Ok l) (sym whole);
      same = λ block below.
          ap (λ (l : List Exception). view_block k base store l new block) whole
          ∙ copied_block k base store es first block old new (view_of es (chunk_at k block)) may
          can.may.fits but below refl;
    }

-- ---- while entries are zeroed

-- Before the entries from the first on are zeroed, their blocks are copied.
pub record Ready
    (k : Chunk)
    (base store : List ℕ)
    (es : List Exception)
    (size first : ℕ)
    (old mid : Image) : Type 0 where
  pub can : CanMerge k base store es size
  pub scan : IsScan k store (length base) old es
  pub some : first < length es
  pub but : SameBut (InSectors (InCopied k base es first)) old mid
  pub copied : AreCopied k base store es first (length es) old mid
  pub whole : (p : ℕ)
      → p < pages_of k store
      → AreWhole mid (slice_index store (page_block k p)) 8

-- each sector reads as before, or with its entries zeroed
abbrev pub IsClearedBlend : Chunk → List ℕ → ℕ → ℕ → Image → Image → Type 0
IsClearedBlend k store first end mid new = SameBut (IsClearing k store first end mid) mid new

-- a zeroed sector is one of its page
clearing_between : (k : Chunk) (store : List ℕ) (first end : ℕ) (image : Image) (s : ℕ) (b : List ℕ)
    (is : IsClearing k store first end image s b)
    → IsBetween (slice_index store (page_block k (is.sector / 8)))
    (slice_index store (page_block k (is.sector / 8)) + 8) s
clearing_between k store first end image s b is = record {
  from = omega (arith, is.here);
  below = omega (arith, is.here);
}

module _ (k : Chunk) (base store : List ℕ) (es : List Exception) (size first : ℕ)
    (old mid new : Image)
    (ready : Ready k base store es size first old mid)
    (blend : IsClearedBlend k store first (length es) mid new) where
  -- the pages of the sectors lie in the store
  page_in : (i : ℕ) → 32 * i < length es → i / 8 < pages_of k store
  page_in i below = omega (arith, below, ready.scan.fits.room)

  page_there : (i : ℕ) → 32 * i < length es → page_block k (i / 8) < length store
  page_there i below = page_inside k (length store) (i / 8) (page_in i below)

  may : MayCopy base store
  may = may_copy k base store es size ready.can

  -- a block of the store that is no page
  chunk_kept : (c : ℕ)
      → c < length store
      → ((p : ℕ) → c ≢ page_block k p)
      → chunk_bytes store new c ≡ chunk_bytes store mid c
  chunk_kept c below other =
      chunk_same store mid new c
      (λ s here.
      ⊎_elim (λ same. same)
      (λ cleared.
      let p : ℕ = cleared.sector / 8 in
      let at = clearing_between k store first (length es) mid s (new s) cleared in
      ⊎_elim
      (λ before. absurd (omega (arith, before, at.from)))
      (λ behind. absurd (omega (arith, behind, at.below)))
      (apart_sector (slice_index store c) (slice_index store (page_block k p)) s
      (apart_of store c (page_block k p) ready.can.store_apart below
      (page_there cleared.sector cleared.within.below) (other p)) here))
      (blend s))

  -- the partition's blocks
  block_kept : (b : ℕ) → b < length base → chunk_bytes base new b ≡ chunk_bytes base mid b
  block_kept b below =
      chunk_same base mid new b
      (λ s here.
      ⊎_elim (λ same. same)
      (λ cleared.
      let p : ℕ = cleared.sector / 8 in
      let at = clearing_between k store first (length es) mid s (new s) cleared in
      ⊎_elim
      (λ before. absurd (omega (arith, before, at.from)))
      (λ behind. absurd (omega (arith, behind, at.below)))
      (apart_sector (slice_index base b) (slice_index store (page_block k p)) s
      (ready.can.disjoint b (page_block k p) below
      (page_there cleared.sector cleared.within.below)) here))
      (blend s))

  whole_new : (p : ℕ)
      → p < pages_of k store
      → AreWhole new (slice_index store (page_block k p)) 8
  whole_new p inside i below =
      ⊎_elim
      (λ same. ap length same ∙ ready.whole p inside i below)
      (λ cleared. cleared.cleared.long ∙ ready.whole p inside i below)
      (blend (slice_index store (page_block k p) + i))

  -- an entry: as before, or zeroed
  slot_either : (t : ℕ)
      → t < slots_of k store
      → (slot_at k store new t ≡ slot_at k store mid t)
      ⊎ ((first ≤ t) × (t < length es) × (slot_at k store new t ≡ no_exception))
  slot_either t below =
      let i : ℕ = t / 32 in
      let j : ℕ = t % 32 in
      let s : ℕ = page_sector k store i in
      let inside : t / 256 < pages_of k store = omega (arith, below) in
      let now : slot_at k store new t ≡ entry_at (new s) j =
      slot_in_sector k store new t (whole_new (t / 256) inside) in
      let was : slot_at k store mid t ≡ entry_at (mid s) j =
      slot_in_sector k store mid t (ready.whole (t / 256) inside) in
      ⊎_elim
      (λ same. inl (now ∙ ap (λ (b : List ℕ). entry_at b j) same ∙ sym was))
      (λ cleared.
      let same_sector : cleared.sector ≡ i = elim (cases_eq cleared.sector i) [
        | inl one ↦ one
        | inr two ↦
            absurd (sector_other k store cleared.sector i ready.can.store_apart
            (page_in cleared.sector cleared.within.below) (omega (arith, below)) two
            (sym cleared.here))
      ] in
      let done : IsClearedAt first (length es) i (mid s) (new s) =
      subst (λ (n : ℕ). IsClearedAt first (length es) n (mid s) (new s)) same_sector
      cleared.cleared in
      let page : (t / 32) / 8 ≡ t / 256 = omega arith in
      let long : length (new s) ≡ 512 =
      subst (λ (p : ℕ). length (new (slice_index store (page_block k p) + i % 8)) ≡ 512) (sym page)
      (whole_new (t / 256) inside (i % 8) (omega arith)) in
      let from : ℕ = first - 32 * i in
      let to : ℕ = min (length es - 32 * i) 32 in
      elim (cases_lt t first) [
        | inl before ↦
            inl (now ∙ entry_kept from to j (mid s) (new s) done (inl (omega (arith, before)))
            ∙ sym was)
        | inr behind ↦ elim (cases_lt t (length es)) [
          | inl within ↦
              inr (
                behind,
                within,
                now
                    ∙ entry_gone from to j (mid s) (new s) done (omega (arith, behind))
                    (omega (arith, within)) (omega (arith, long)),
              )
          | inr past ↦
              inl (now ∙ entry_kept from to j (mid s) (new s) done (inr (omega (arith, past)))
              ∙ sym was)
        ]
      ])
      (blend s)

  fits : Fits k (length base) store es
  fits = ready.can.may.fits

  -- the store's blocks stay while blocks are copied
  stored_kept : (c : ℕ) → c < length store → chunk_bytes store mid c ≡ chunk_bytes store old c
  stored_kept c below =
      store_kept base store (InCopied k base es first) c old mid may.disjoint
      (λ s. copied_of_base k base es first s) ready.but below

  mid_scan : IsScan k store (length base) mid es
  mid_scan =
      scan_kept k store (length base) old mid es stored_kept ready.scan

  -- where the list ends now
  record EndsNow (f : ℕ) : Type 0 where
    from : first ≤ f
    within : f ≤ length es
    before : (t : ℕ) → t < f → slot_at k store new t ≡ slot_at k store mid t
    stops : (slot_at k store new f).new_chunk ≡ 0

  before_first : (t : ℕ)
      → t < first
      → slot_at k store new t ≡ slot_at k store mid t
  before_first t below =
      ⊎_elim (λ same. same) (λ zeroed. absurd (omega (arith, zeroed.0, below)))
      (slot_either t (omega (arith, below, ready.some, ready.scan.fits.room)))

  find_end : (left t : ℕ)
      → t + left ≡ length es
      → first ≤ t
      → ((u : ℕ) → u < t → slot_at k store new u ≡ slot_at k store mid u)
      → (f : ℕ) × EndsNow f
  find_end zero t sum from so_far =
      let last : t ≡ length es = omega (arith, sum) in
      let same : slot_at k store new (length es) ≡ slot_at k store mid
      (length es) =
      ⊎_elim (λ same. same) (λ zeroed. absurd (omega (arith, zeroed.1)))
      (slot_either (length es) ready.scan.fits.room) in (
        length es,
        record {
          from = omega (arith, from, last);
          within = omega arith;
          before = λ u below. so_far u (omega (arith, below, last));
          stops = ap (λ (e : Exception). e.new_chunk) same ∙ mid_scan.stops;
        },
      )
  find_end (suc left) t sum from so_far =
      ⊎_elim
      (λ same. find_end left (t + 1) (omega (arith, sum)) (omega (arith, from))
      (λ u below. elim (cases_lt u t) [
        | inl before ↦ so_far u before
        | inr last ↦
            let is : t ≡ u = omega (arith, last, below) in
            subst (λ (n : ℕ). slot_at k store new n ≡ slot_at k store mid n) is same
      ]))
      (λ zeroed. (
        t,
        record {
          from = from;
          within = omega (arith, sum);
          before = so_far;
          stops = ap (λ (e : Exception). e.new_chunk) zeroed.2;
        },
      ))
      (slot_either t (omega (arith, sum, ready.scan.fits.room)))

  some_end : (f : ℕ) × EndsNow f
  some_end =
      find_end (length es - first) first (omega (arith, ready.some)) (omega arith) before_first

  kept_block : (f block : ℕ) (o : Option ℕ)
      → EndsNow f
      → block < length base
      → view_of es (chunk_at k block) ≡ o
      → view_block k base store (take f es) new block ≡ view_block k base store es old block
  kept_block f block (Some c) ends below is =
      let r : ℕ = place_in k block in
      let found = view_in es (chunk_at k block) c is in
      let j : ℕ = found.place in
      let lies = view_chunk (length base) store es (chunk_at k block) c fits is in
      let stored : ℕ = block_in k c r in
      let there : stored_at k es block ≡ Some stored = stored_some k es block c is in
      elim (cases_lt j f) [
        | inl kept ↦
            let still : view_of (take f es) (chunk_at k block) ≡ Some c =
            ap (view_of (take f es)) (sym found.old_is)
            ∙ view_kept (length base) store es f j fits ends.within kept
            ∙ ap (λ (n : ℕ). Some n) found.new_is in
            let not_page : (p : ℕ) → stored ≢ page_block k p = λ p same.
            page_apart k p c r (data_other k c lies.is_data) (place_below k block) (sym same) in
            let inside : stored < length store =
            block_inside k (length store) c r lies.new_chunk (place_below k block) in
            ap (chosen_bytes base store new block) (stored_some k (take f es) block c still)
            ∙ chunk_kept stored inside not_page
            ∙ stored_kept stored inside
            ∙ ap (chosen_bytes base store old block) (sym there)
        | inr dropped ↦
            let gone : view_of (take f es) (chunk_at k block) ≡ None =
            ap (view_of (take f es)) (sym found.old_is)
            ∙ view_dropped (length base) store es f j fits dropped found.within in
            let here : block_in k (exception_at es j).old_chunk r ≡ block =
            ap (λ (n : ℕ). block_in k n r) found.old_is ∙ block_is k block in
            ap (chosen_bytes base store new block) (stored_none k (take f es) block gone)
            ∙ block_kept block below
            ∙ ap (chunk_bytes base mid) (sym here)
            ∙ ready.copied j (omega (arith, ends.from, dropped)) found.within r
            (place_below k block)
            (subst (λ (b : ℕ). b < length base) (sym here) below)
            ∙ ap (λ (n : ℕ). chunk_bytes store old (block_in k n r)) found.new_is
            ∙ ap (chosen_bytes base store old block) (sym there)
      ]
  kept_block f block None ends below is =
      ap (chosen_bytes base store new block)
      (stored_none k (take f es) block (view_other es f (chunk_at k block) ends.within is))
      ∙ block_kept block below
      ∙ base_kept base (InCopied k base es first) block old mid may.apart
      (λ s. copied_of_other k base es first block s
      (λ j behind within. view_out es (chunk_at k block) is j within))
      ready.but below
      ∙ ap (chosen_bytes base store old block) (sym (stored_none k es block is))

  without_at : (f : ℕ) → EndsNow f → WithoutLast k base store es (length es - f) old new
  without_at f ends =
      let left : length es - (length es - f) ≡ f = omega (arith, ends.within) in
      let long : length (take f es) ≡ f = length-take-le f es ends.within in
      let now : IsScan k store (length base) new (take f es) = record {
        fits = take_fits (length base) store es f ends.within ready.scan.fits;
        header =
            ap (λ (b : List ℕ). header_of (take 512 b))
            (chunk_kept 0 (omega (arith, chunks_fewer k (length store) 2 ready.scan.fits.chunks))
            (λ p is. omega (arith, is, page_positive k p)))
            ∙ mid_scan.header;
        reads = λ t below.
            let lt : t < f = omega (arith, below, long) in
            ends.before t lt ∙ mid_scan.reads t (omega (arith, lt, ends.within))
            ∙ sym (take-at es f t lt);
        stops = ap (λ (n : ℕ). (slot_at k store new n).new_chunk) long ∙ ends.stops;
      } in
      record {
        scanned =
            scan_of_is store (length base) new (take f es) now
            ∙ ap (λ (n : ℕ). Ok (take n es)) (sym left);
        same = λ block below.
            ap (λ (n : ℕ). view_block k base store (take n es) new block) left
            ∙ kept_block f block (view_of es (chunk_at k block)) ends below refl;
      }

  -- some of the exceptions from the first on are gone
  pub clear_keeps : (n : ℕ) × (n ≤ length es - first) × WithoutLast k base store es n old new
  clear_keeps =
      let some = some_end in
      (length es - some.0, omega (arith, some.1.from), without_at some.0 some.1)

  -- all of them, where each sector is done
  pub clear_drops : AreCleared k store first (length es) mid new
      → WithoutLast k base store es (length es - first) old new
  clear_drops all =
      let i : ℕ = first / 32 in
      let j : ℕ = first % 32 in
      let s : ℕ = page_sector k store i in
      let inside : first / 256 < pages_of k store =
      omega (arith, ready.some, ready.scan.fits.room) in
      let done : IsClearedAt first (length es) i (mid s) (new s) =
      all i (record { from = omega arith; below = omega (arith, ready.some) }) in
      let page : (first / 32) / 8 ≡ first / 256 = omega arith in
      let long : length (new s) ≡ 512 =
      subst (λ (p : ℕ). length (new (slice_index store (page_block k p) + i % 8)) ≡ 512) (sym page)
      (whole_new (first / 256) inside (i % 8) (omega arith)) in
      let zeroed : slot_at k store new first ≡ no_exception =
      slot_in_sector k store new first (whole_new (first / 256) inside)
      ∙ entry_gone (first - 32 * i) (min (length es - 32 * i) 32) j (mid s) (new s) done
      (omega arith) (omega (arith, ready.some)) (omega (arith, long)) in
      without_at first (record {
        from = omega arith;
        within = omega (arith, ready.some);
        before = before_first;
        stops = ap (λ (e : Exception). e.new_chunk) zeroed;
      })
