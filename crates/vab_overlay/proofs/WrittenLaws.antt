-- A store whose block has its data and then its entry.
use Rattle.std.proofs.Common.{◌≡◌, ◌≢◌, inl, inr, ⊎_elim, ℕ, ◌+◌, ◌-◌, ◌*◌, ◌/◌, ◌%◌, ◌≤◌, ◌<◌}
use Rattle.std.proofs.Common.{List}
use Rattle.std.proofs.Common.{length, take, replicate, refl, sym, ◌∙◌, ap, subst, arith, true}
use Rattle.std.proofs.Common.{◌==◌, ◌&&◌, cond}
use Rattle.std.specs.Prelude.{slice_index, Option, Some, None}
use Rattle.std.specs.Int.{w64, from_le_bytes}
use Rattle.std.proofs.lemmas.Bool.{cases_lt, cases_eq, eq-eqb, and_from}
use Rattle.std.proofs.lemmas.List.{drop-replicate, take-replicate}
use Rattle.vab_bytes.specs.Number.{field}
use Rattle.vab_disk.specs.Disk.{Image}
use Rattle.vab_disk.proofs.CallLaws.{wrote_here, wrote_there}
use Rattle.vab_exceptions.specs.declared.area.Exception.{Exception}
use Rattle.vab_exceptions.specs.Entries.{entry_at}
use Rattle.vab_exceptions.specs.Header.{header_of}
use Rattle.vab_space.specs.Space.{need_of}
use Rattle.vab_space.specs.declared.Chunk.TheVariants.{One}
use Rattle.vab_space.specs.Chunks.{page_block}
use Rattle.vab_space.proofs.ChunkLaws.{page_apart, page_positive, data_other}
use Rattle.vab_store.specs.Clean.{EndsClean}
use Rattle.vab_store.specs.Layout.{chunk_bytes, slot_at, slots_of, pages_of, IsApart, AreDisjoint}
use Rattle.vab_store.specs.Scan.{IsScan}
use Rattle.vab_store.specs.Sectors.{page_sector, entry_sector}
use Rattle.vab_store.specs.Seen.{chosen_bytes, view_block}
use Rattle.vab_store.specs.Setting.{entry_place, set_entry, IsLowestFree}
use Rattle.vab_store.specs.View.{exception_at, view_of, Fits}
use Rattle.vab_store.proofs.ChunkLaws.{apart_of, apart_sector, chunk_same}
use Rattle.vab_store.proofs.ScanLaws.{scan_of_is}
use Rattle.vab_store.proofs.SettingLaws.{exception_of, length-set_held, length-set_behind}
use Rattle.vab_store.proofs.SettingLaws.{set_entry-there, place_most, view_set, view_set_other}
use Rattle.vab_store.proofs.SlotLaws.{AreWhole, slot_in_sector, sector_other}
use Rattle.vab_store.proofs.ViewLaws.{view_in}
use Rattle.vab_overlay.specs.Data.{next_page}
use Rattle.vab_overlay.specs.Entry.{WithEntry}
use Rattle.vab_overlay.specs.Overlaid.{IsOverlaid, IsWritten}
use Rattle.vab_overlay.proofs.DataLaws.{base_kept}
use Rattle.vab_overlay.proofs.EnteredLaws.{was_there, place_inside, at_place}
use Rattle.vab_overlay.proofs.EnteredLaws.{entered_fits}
use Rattle.vab_overlay.proofs.KeptLaws.{IsUnseen, SameSeen, was_scan, page_there, header_same}
use Rattle.vab_overlay.proofs.KeptLaws.{entry_same, stored_same}

-- an entry of a page of zeros
pub zeros_entry : (i : ℕ) → i < 256 → (entry_at (replicate 4096 0) i).new_chunk ≡ 0
unfolding entry_at
zeros_entry i below =
    let at : ℕ = 16 * i + 8 in
    let zeros : field (replicate 4096 0) at 8 ≡ replicate 8 0 =
    ap (take 8) (drop-replicate at 4096 0)
    ∙ take-replicate 8 (4096 - at) 0 (omega (arith, below)) in
    ap (from_le_bytes w64) zeros

-- the next page, where a new entry fills its own
pub next_is : (count place : ℕ)
    → place ≡ count
    → count % 256 ≡ 255
    → next_page count place ≡ Some (page_block One (count / 256 + 1))
next_is count place is fills =
    let test : (place == count && place % 256 == 255) ≡ true =
    and_from (place == count) (place % 256 == 255) (eq-eqb place count is)
    (eq-eqb (place % 256) 255 (ap (λ (n : ℕ). n % 256) is ∙ fills)) in
    ap (λ b. cond b (Some (page_block One (place / 256 + 1))) None) test
    ∙ ap (λ (n : ℕ). Some (page_block One (n / 256 + 1))) is

-- Before the entry is written, its data stands in a free chunk, and the next page is zeroed where
-- it fills its own.
pub record Prepared
    (store : List ℕ)
    (bound : ℕ)
    (es : List Exception)
    (block chunk : ℕ)
    (from : List ℕ)
    (old mid : Image) : Type 0 where
  pub apart : IsApart store
  pub overlaid : IsOverlaid store bound es old
  pub above : block < bound
  pub lowest : IsLowestFree One es chunk
  pub inside : chunk < length store
  pub enough : need_of (length es + 1) ≤ length store
  pub same : SameSeen store es old mid
  pub bytes : chunk_bytes store mid chunk ≡ from
  pub zeros : (b : ℕ)
      → next_page (length es) (entry_place es block) ≡ Some b
      → chunk_bytes store mid b ≡ replicate 4096 0
  pub whole : (p : ℕ)
      → p < pages_of One store
      → AreWhole mid (slice_index store (page_block One p)) 8

module _ (store : List ℕ) (bound : ℕ) (es : List Exception) (block chunk : ℕ) (from : List ℕ)
    (old mid new : Image)
    (ready : Prepared store bound es block chunk from old mid)
    (put : WithEntry store (entry_place es block) (exception_of block chunk) mid new) where
  abbrev place : ℕ
  place = entry_place es block

  abbrev now : List Exception
  now = set_entry es block chunk

  abbrev at : ℕ
  at = entry_sector One store (entry_place es block)

  old_scan : IsScan One store bound old es
  old_scan = was_scan store bound es old mid ready.apart ready.overlaid ready.same

  place_below : entry_place es block < slots_of One store
  place_below = omega (arith, place_most es block, old_scan.fits.room)

  -- the page of the entry is one of those that the list rests on
  place_page : entry_place es block / 256 ≤ length es / 256
  place_page = omega (arith, place_most es block)

  at_is : at ≡ slice_index store (page_block One (entry_place es block / 256))
      + (entry_place es block / 32) % 8
  at_is =
      let page : (entry_place es block / 32) / 8 ≡ entry_place es block / 256 = omega arith in
      ap (λ (p : ℕ). slice_index store (page_block One p) + (entry_place es block / 32) % 8) page

  page_below : page_block One (entry_place es block / 256) < length store
  page_below =
      page_there store bound es old mid ready.apart ready.overlaid ready.same
      (entry_place es block / 256) place_page

  here : new at ≡ put.bytes
  here = wrote_here mid new at put.bytes put.is at refl

  there : (s : ℕ) → s ≢ at → new s ≡ mid s
  there s other = wrote_there mid new at put.bytes put.is s other

  whole_new : (p : ℕ)
      → p < pages_of One store
      → AreWhole new (slice_index store (page_block One p)) 8
  whole_new p inside i below =
      let s : ℕ = slice_index store (page_block One p) + i in
      elim (cases_eq s at) [
        | inl same ↦
            ap (λ (k : ℕ). length (new k)) same
            ∙ ap length here
            ∙ put.put.long
            ∙ ap (λ (k : ℕ). length (mid k)) (sym same)
            ∙ ready.whole p inside i below
        | inr other ↦ ap length (there s other) ∙ ready.whole p inside i below
      ]

  -- another block of the store than that page
  block_there : (c : ℕ)
      → c < length store
      → c ≢ page_block One (entry_place es block / 256)
      → chunk_bytes store new c ≡ chunk_bytes store mid c
  block_there c below other =
      chunk_same store mid new c
      (λ s within.
      there s
      (λ same.
      ⊎_elim
      (λ before. omega (arith, before, same, at_is))
      (λ behind. omega (arith, behind, same, at_is))
      (apart_sector (slice_index store c)
      (slice_index store (page_block One (entry_place es block / 256))) s
      (apart_of store c (page_block One (entry_place es block / 256)) ready.apart below page_below
      other) within)))

  -- the block's own entry
  entry_ours : slot_at One store new (entry_place es block) ≡ exception_of block chunk
  entry_ours =
      slot_in_sector One store new (entry_place es block)
      (whole_new (entry_place es block / 256) (omega (arith, place_below)))
      ∙ ap (λ (b : List ℕ). entry_at b (entry_place es block % 32)) here
      ∙ put.put.here

  -- another one
  entry_other : (t : ℕ)
      → t < slots_of One store
      → t ≢ entry_place es block
      → slot_at One store new t ≡ slot_at One store mid t
  entry_other t below other =
      let is_new = slot_in_sector One store new t (whole_new (t / 256) (omega (arith, below))) in
      let is_mid = slot_in_sector One store mid t (ready.whole (t / 256) (omega (arith, below))) in
      let s : ℕ = page_sector One store (t / 32) in
      is_new
      ∙ elim (cases_eq (t / 32) (entry_place es block / 32)) [
        | inl one ↦
            let same : s ≡ at = ap (page_sector One store) one in
            let differs : t % 32 ≢ entry_place es block % 32 = λ is.
            other (omega (arith, one, is)) in
            ap (λ (k : ℕ). entry_at (new k) (t % 32)) same
            ∙ ap (λ (b : List ℕ). entry_at b (t % 32)) here
            ∙ put.put.others (t % 32) differs
            ∙ ap (λ (k : ℕ). entry_at (mid k) (t % 32)) (sym same)
        | inr two ↦
            ap (λ (b : List ℕ). entry_at b (t % 32))
            (there s
            (sector_other One store (t / 32) (entry_place es block / 32) ready.apart
            (omega (arith, below)) (omega (arith, place_below)) two))
      ]
      ∙ sym is_mid

  -- an entry of a page that the old list rests on
  entry_was : (t : ℕ)
      → t / 256 ≤ length es / 256
      → slot_at One store mid t ≡ slot_at One store old t
  entry_was t within =
      entry_same store bound es old mid ready.apart ready.overlaid ready.same t within

  new_fits : Fits One bound store now
  new_fits =
      entered_fits es block chunk bound store old_scan.fits ready.above ready.lowest ready.inside
      ready.enough

  -- behind the end of the new list
  clean_mid : (t : ℕ)
      → length now ≤ t
      → t / 256 ≡ length now / 256
      → (slot_at One store mid t).new_chunk ≡ 0
  unfolding slot_at
  clean_mid t behind page =
      elim (cases_lt (entry_place es block) (length es)) [
        | inl held ↦
            let long = length-set_held es block chunk held in
            ap (λ (e : Exception). e.new_chunk) (entry_was t (omega (arith, page, long)))
            ∙ ready.overlaid.clean t (omega (arith, behind, long)) (omega (arith, page, long))
        | inr new_one ↦
            let long = length-set_behind es block chunk new_one in
            let is : entry_place es block ≡ length es =
            omega (arith, new_one, place_most es block) in
            elim (cases_eq (length es % 256) 255) [
              | inl fills ↦
                  let next : t / 256 ≡ length es / 256 + 1 = omega (arith, page, long, fills) in
                  let zeros : chunk_bytes store mid (page_block One (length es / 256 + 1))
                  ≡ replicate 4096 0 =
                  ready.zeros (page_block One (length es / 256 + 1))
                  (next_is (length es) (entry_place es block) is fills) in
                  ap (λ (p : ℕ).
                  (entry_at (chunk_bytes store mid (page_block One p)) (t % 256)).new_chunk) next
                  ∙ ap (λ (b : List ℕ). (entry_at b (t % 256)).new_chunk) zeros
                  ∙ zeros_entry (t % 256) (omega arith)
              | inr room ↦
                  let same : t / 256 ≡ length es / 256 = omega (arith, page, long, room) in
                  ap (λ (e : Exception). e.new_chunk) (entry_was t (omega (arith, same)))
                  ∙ ready.overlaid.clean t (omega (arith, behind, long)) same
            ]
      ]

  clean_new : EndsClean store (length now) new
  clean_new t behind page =
      let below : t < slots_of One store = omega (arith, new_fits.room, page) in
      let other : t ≢ entry_place es block = λ same.
      omega (arith, same, behind, place_inside es block chunk) in
      ap (λ (e : Exception). e.new_chunk) (entry_other t below other) ∙ clean_mid t behind page

  new_scan : IsScan One store bound new now
  new_scan = record {
    fits = new_fits;
    header =
        ap (λ (b : List ℕ). header_of (take 512 b))
        (block_there 0 (omega (arith, old_scan.fits.chunks))
        (λ is. omega (arith, is, page_positive One (entry_place es block / 256)))
        ∙ header_same store bound es old mid ready.apart ready.overlaid ready.same)
        ∙ old_scan.header;
    reads = λ t below. elim (cases_eq t (entry_place es block)) [
      | inl ours ↦
          ap (slot_at One store new) ours ∙ entry_ours ∙ sym (at_place es block chunk t ours)
      | inr other ↦
          let was : t < length es = was_there es block chunk t below other in
          entry_other t (omega (arith, was, old_scan.fits.room)) other
          ∙ entry_was t (omega (arith, was))
          ∙ old_scan.reads t was
          ∙ sym (set_entry-there es block chunk t other was)
    ];
    stops = clean_new (length now) (omega arith) refl;
  }

  -- a data chunk is no page
  data_there : (c : ℕ)
      → c < length store
      → c % 257 ≢ 1
      → chunk_bytes store new c ≡ chunk_bytes store mid c
  data_there c below other =
      block_there c below
      (λ same.
      page_apart One (entry_place es block / 256) c 0 other (omega arith) (sym same))

  -- a partition's block
  base_there : (base : List ℕ) (b : ℕ)
      → AreDisjoint base store
      → b < length base
      → chunk_bytes base new b ≡ chunk_bytes base old b
  base_there base b disjoint below =
      chunk_same base mid new b
      (λ s within.
      there s
      (λ same.
      ⊎_elim
      (λ before. omega (arith, before, same, at_is))
      (λ behind. omega (arith, behind, same, at_is))
      (apart_sector (slice_index base b)
      (slice_index store (page_block One (entry_place es block / 256))) s
      (disjoint b (page_block One (entry_place es block / 256)) below page_below) within)))
      ∙ base_kept base store (IsUnseen es) old mid b disjoint ready.same below

  other_block : (base : List ℕ) (b : ℕ) (o : Option ℕ)
      → AreDisjoint base store
      → b < length base
      → view_of now b ≡ view_of es b
      → view_of es b ≡ o
      → view_block One base store now new b ≡ view_block One base store es old b
  other_block base b (Some c) disjoint below as_before is =
      let found = view_in es b c is in
      let lies = old_scan.fits.lie found.place found.within in
      let inside : c < length store = omega (arith, lies.new_chunk, found.new_is) in
      let no_page : c % 257 ≢ 1 =
      subst (λ (n : ℕ). n % 257 ≢ 1) found.new_is
      (data_other One (exception_at es found.place).new_chunk lies.is_data) in
      ap (chosen_bytes base store new b) (as_before ∙ is)
      ∙ data_there c inside no_page
      ∙ stored_same store bound es old mid ready.apart ready.overlaid ready.same b c is
      ∙ ap (chosen_bytes base store old b) (sym is)
  other_block base b None disjoint below as_before is =
      ap (chosen_bytes base store new b) (as_before ∙ is)
      ∙ base_there base b disjoint below
      ∙ ap (chosen_bytes base store old b) (sym is)

  pub written : IsWritten store bound es (set_entry es block chunk) block from old new
  written = record {
    entered = record { chunk = chunk; lowest = ready.lowest; entered = refl };
    overlaid = record {
      scanned = scan_of_is store bound new now new_scan;
      clean = clean_new;
    };
    here = λ base.
        ap (chosen_bytes base store new block) (view_set es block chunk)
        ∙ data_there chunk ready.inside (data_other One chunk ready.lowest.data_chunk)
        ∙ ready.bytes;
    others = λ base b disjoint below other.
        other_block base b (view_of es b) disjoint below
        (view_set_other es block chunk b other) refl;
  }
