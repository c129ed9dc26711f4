-- The two steps of a write, on a disk.
use Rattle.std.proofs.Common.{◌≡◌, ◌≢◌, inl, inr, ⊎_elim, ℕ, ◌+◌, ◌/◌, ◌%◌, ◌≤◌, ◌<◌, List, length}
use Rattle.std.proofs.Common.{replicate, refl, sym, ◌∙◌, ap, subst, arith, true, false, Bool, ◌==◌}
use Rattle.std.proofs.Common.{◌&&◌, cond}
use Rattle.std.specs.Prelude.{slice_index, Option, Some, None, IfSome}
use Rattle.std.proofs.lemmas.Bool.{and_parts, eqb-true}
use Rattle.vab_disk.specs.declared.disk.Disk.{Ghosts}
use Rattle.vab_disk.specs.Disk.{Image, Adds}
use Rattle.vab_disk.specs.Calls.{SameBut, Touches, IsAtRest}
use Rattle.vab_disk.proofs.CallLaws.{quiet_then, touches_wider, touches_on}
use Rattle.vab_disk.proofs.Moments.{adds_wider, adds_on}
use Rattle.vab_exceptions.specs.declared.area.Exception.{Exception}
use Rattle.vab_space.specs.Space.{need_of}
use Rattle.vab_space.specs.declared.Chunk.TheVariants.{One}
use Rattle.vab_space.specs.Chunks.{page_block}
use Rattle.vab_space.proofs.ChunkLaws.{page_apart, page_inside, page_positive, pages_ascend}
use Rattle.vab_space.proofs.ChunkLaws.{data_other, data_some}
use Rattle.vab_store.specs.Layout.{chunk_bytes, IsApart, IsOnDisk}
use Rattle.vab_store.specs.Reached.{IsOfBlock}
use Rattle.vab_store.specs.Sectors.{entry_sector}
use Rattle.vab_store.proofs.ChunkLaws.{apart_of, apart_sector}
use Rattle.vab_store.specs.Setting.{entry_place, set_entry, IsLowestFree}
use Rattle.vab_store.specs.View.{exception_at, Fits}
use Rattle.vab_store.proofs.ScanLaws.{scan_of_ok}
use Rattle.vab_store.proofs.SettingLaws.{exception_of, place_most}
use Rattle.vab_overlay.specs.Data.{next_page, IsZeroAt, IsDataAt}
use Rattle.vab_overlay.specs.Entry.{IsPut, LeavesEntry, IsEntryAt}
use Rattle.vab_overlay.specs.Overlaid.{IsOverlaid, IsKept, LeavesOverlaid, IsOverlaying}
use Rattle.vab_overlay.proofs.DataLaws.{InBlock, but_wider}
use Rattle.vab_overlay.proofs.EnteredLaws.{next_inside}
use Rattle.vab_overlay.proofs.KeptLaws.{IsUnseen, SameSeen, kept}
use Rattle.vab_overlay.proofs.WrittenLaws.{Prepared, written}

-- ---- the next page

-- where there is one, the entry is a new one that fills its page
pub record Fills (count place block : ℕ) : Type 0 where
  pub new_one : place ≡ count
  pub fills : count % 256 ≡ 255
  pub block_is : page_block One (count / 256 + 1) ≡ block

some_if : (b : Bool) (x y : ℕ) → cond b (Some x) None ≡ Some y → (b ≡ true) × (x ≡ y)
some_if true x y is = (refl, cc)
some_if false x y is = absurd (cc)

pub next_fills : (count place block : ℕ)
    → next_page count place ≡ Some block
    → Fills count place block
next_fills count place block is =
    let both =
    some_if (place == count && place % 256 == 255) (page_block One (place / 256 + 1)) block is in
    let tests = and_parts (place == count) (place % 256 == 255) both.0 in
    let new_one : place ≡ count = eqb-true place count tests.0 in
    record {
      new_one = new_one;
      fills = ap (λ (n : ℕ). n % 256) (sym new_one) ∙ eqb-true (place % 256) 255 tests.1;
      block_is = ap (λ (n : ℕ). page_block One (n / 256 + 1)) (sym new_one) ∙ both.1;
    }

-- ---- which blocks are written

module _ (store : List ℕ) (bound : ℕ) (es : List Exception) (block chunk : ℕ)
    (fits : Fits One bound store es)
    (lowest : IsLowestFree One es chunk)
    (inside : chunk < length store)
    (enough : need_of (length es + 1) ≤ length store) where
  chunk_unseen : IsUnseen es chunk
  chunk_unseen = record {
    header = data_some One chunk lowest.data_chunk;
    page = λ p within same.
        page_apart One p chunk 0 (data_other One chunk lowest.data_chunk) (omega arith) (sym same);
    named = lowest.free;
  }

  next_unseen : (b : ℕ) → next_page (length es) (entry_place es block) ≡ Some b → IsUnseen es b
  next_unseen b is =
      let fills = next_fills (length es) (entry_place es block) b is in
      record {
        header = λ same.
            omega (arith, same, fills.block_is, page_positive One (length es / 256 + 1));
        page = λ p within same.
            omega (
              arith,
              same,
              fills.block_is,
              pages_ascend One p (length es / 256 + 1) (omega (arith, within)),
            );
        named = λ j below same.
            page_apart One (length es / 256 + 1) (exception_at es j).new_chunk 0
            (data_other One (exception_at es j).new_chunk (fits.lie j below).is_data) (omega arith)
            (fills.block_is ∙ sym same);
      }

  pub next_there : (b : ℕ)
      → next_page (length es) (entry_place es block) ≡ Some b
      → b < length store
  next_there b is =
      let fills = next_fills (length es) (entry_place es block) b is in
      subst (λ (n : ℕ). n < length store) fills.block_is
      (next_inside (length es) store enough fills.fills)

  of_next : (next : Option ℕ) (s : ℕ) (x : List ℕ)
      → ((b : ℕ) → next ≡ Some b → IsUnseen es b)
      → ((b : ℕ) → next ≡ Some b → b < length store)
      → IsZeroAt store next s x
      → InBlock store (IsUnseen es) s
  of_next None s x unseen within none = absurd none
  of_next (Some b) s x unseen within is = record {
    block = b;
    within = within b refl;
    here = record { from = is.first; below = is.last };
    is = unseen b refl;
  }

  -- the data is unseen
  pub data_unseen : (from : List ℕ) (s : ℕ) (x : List ℕ)
      → IsDataAt store chunk from (next_page (length es) (entry_place es block)) s x
      → InBlock store (IsUnseen es) s
  data_unseen from s x is =
      ⊎_elim
      (λ here. record {
        block = chunk;
        within = inside;
        here = record { from = here.first; below = here.last };
        is = chunk_unseen;
      })
      (of_next (next_page (length es) (entry_place es block)) s x next_unseen next_there)
      is

  -- and stands in the store
  pub data_overlays : (from : List ℕ) (image : Image) (s : ℕ) (x : List ℕ)
      → IsDataAt store chunk from (next_page (length es) (entry_place es block)) s x
      → IsOverlaying store es block from image s x
  data_overlays from image s x is =
      let at = data_unseen from s x is in
      record {
        inside = record { block = at.block; within = at.within; here = at.here };
        which = (chunk, lowest, inl is);
      }

  -- the page of the entry
  page_in : page_block One (entry_place es block / 256) < length store
  page_in =
      page_inside One (length store) (entry_place es block / 256)
      (omega (arith, place_most es block, fits.room))

  -- its sector is one of that page
  entry_of_page : (s : ℕ)
      → s ≡ entry_sector One store (entry_place es block)
      → IsOfBlock store (page_block One (entry_place es block / 256)) s
  entry_of_page s is =
      let p : ℕ = entry_place es block in
      let page : (p / 32) / 8 ≡ p / 256 = omega arith in
      let at : s ≡ slice_index store (page_block One (p / 256)) + (p / 32) % 8 =
      is ∙ ap (λ (n : ℕ). slice_index store (page_block One n) + (p / 32) % 8) page in
      record { from = omega (arith, at); below = omega (arith, at) }

  pub entry_overlays : (from : List ℕ) (image : Image) (s : ℕ) (x : List ℕ)
      → IsEntryAt store (entry_place es block) (exception_of block chunk) image s x
      → IsOverlaying store es block from image s x
  entry_overlays from image s x is = record {
    inside = record {
      block = page_block One (entry_place es block / 256);
      within = page_in;
      here = entry_of_page s is.here;
    };
    which = (chunk, lowest, inr is);
  }

  -- that sector stays as long as the data is written
  pub entry_stays : (old mid : Image) (s : ℕ)
      → IsApart store
      → SameSeen store es old mid
      → s ≡ entry_sector One store (entry_place es block)
      → mid s ≡ old s
  entry_stays old mid s apart same is =
      let page : ℕ = page_block One (entry_place es block / 256) in
      ⊎_elim (λ as_before. as_before)
      (λ (wrote : InBlock store (IsUnseen es) s).
      let other : page ≢ wrote.block = λ one.
      wrote.is.page (entry_place es block / 256) (omega (arith, place_most es block)) (sym one) in
      ⊎_elim
      (λ before. absurd (omega (arith, before, wrote.here.from)))
      (λ behind. absurd (omega (arith, behind, wrote.here.below)))
      (apart_sector (slice_index store page) (slice_index store wrote.block) s
      (apart_of store page wrote.block apart page_in wrote.within other) (entry_of_page s is)))
      (same s)

-- ---- on a disk

module _ {D : Type 0} (g : Ghosts D) (store : List ℕ) (es : List Exception) (block chunk : ℕ)
    (from : List ℕ) (old mid : D)
    (lowest : IsLowestFree One es chunk)
    (inside : chunk < length store)
    (enough : need_of (length es + 1) ≤ length store)
    (first : Touches g
    (IsDataAt store chunk from (next_page (length es) (entry_place es block))) old mid)
  where
    same_seen : (bound : ℕ) (image : Image)
        → Fits One bound store es
        → SameBut (IsDataAt store chunk from (next_page (length es) (entry_place es block)))
        (g.seen old) image
        → SameSeen store es (g.seen old) image
    same_seen bound image fits but =
        but_wider store (IsUnseen es)
        (IsDataAt store chunk from (next_page (length es) (entry_place es block))) (g.seen old)
        image
        (data_unseen store bound es block chunk fits lowest inside enough from) but

    pub touches_data : (bound : ℕ)
        → Fits One bound store es
        → Touches g (IsOverlaying store es block from (g.seen old)) old mid
    touches_data bound fits =
        touches_wider g (IsOverlaying store es block from (g.seen old)) _ old mid first
        (data_overlays store bound es block chunk fits lowest inside enough from (g.seen old))

    module _ (bound : ℕ) (new : D) (fits : Fits One bound store es)
        (apart : g.is_modelled → IsApart store)
        (second : Touches g
        (IsEntryAt store (entry_place es block) (exception_of block chunk) (g.seen mid)) mid new)
      where
        entry_before : g.is_modelled
            → (s : ℕ) (x : List ℕ)
            → IsEntryAt store (entry_place es block) (exception_of block chunk) (g.seen mid) s x
            → IsEntryAt store (entry_place es block) (exception_of block chunk) (g.seen old) s x
        entry_before t s x is = record {
          here = is.here;
          put =
              subst
              (λ (was : List ℕ). IsPut (entry_place es block % 32) (exception_of block chunk) was x)
              (entry_stays store bound es block chunk fits lowest inside enough (g.seen old)
              (g.seen mid) s (apart t) (same_seen bound (g.seen mid) fits (first.seen t)) is.here)
              is.put;
        }

        joined : g.is_modelled → Touches g (IsOverlaying store es block from (g.seen old)) old new
        joined t =
            touches_on g _ _ (IsOverlaying store es block from (g.seen old)) old mid new first
            second
            (data_overlays store bound es block chunk fits lowest inside enough from (g.seen old))
            (λ s x is.
            entry_overlays store bound es block chunk fits lowest inside enough from (g.seen old) s
            x
            (entry_before t s x is))

        pub touches_both : Touches g (IsOverlaying store es block from (g.seen old)) old new
        touches_both = record {
          quiet = quiet_then g old mid new first.quiet second.quiet;
          seen = λ t. (joined t).seen t;
          crash = λ t. (joined t).crash t;
          time = λ t. (joined t).time t;
        }

    -- while the data is written
    pub time_data : (bound : ℕ)
        → g.is_modelled
        → IsApart store
        → IsAtRest g old
        → IsOverlaid store bound es (g.seen old)
        → Adds g.moment g.outcomes old mid
        (LeavesOverlaid store bound es block from (g.told old) (g.seen old))
    time_data bound t apart rest overlaid =
        let fits : Fits One bound store es =
        (scan_of_ok store bound (g.seen old) es overlaid.scanned).fits in
        adds_wider g.moment g.outcomes old mid _ _ (first.time t)
        (λ o leaves. record {
          told_so_far = leaves.told_so_far;
          either =
              inl (kept store bound es (g.seen old) o.image apart overlaid
              (same_seen bound o.image fits
              (λ s.
              ⊎_elim (λ was. inl (rest s (o.image s) was)) (λ w. inr w) (leaves.each_sector s))));
        })

    -- before the entry is written
    pub prepared_of : (bound : ℕ)
        → g.is_modelled
        → IsApart store
        → IsOnDisk store (g.size old)
        → block < bound
        → IsOverlaid store bound es (g.seen old)
        → chunk_bytes store (g.seen mid) chunk ≡ from
        → IfSome (next_page (length es) (entry_place es block))
        (λ b. chunk_bytes store (g.seen mid) b ≡ replicate 4096 0)
        → ((s : ℕ) → s < g.size mid → length (g.seen mid s) ≡ 512)
        → Prepared store bound es block chunk from (g.seen old) (g.seen mid)
    prepared_of bound t apart on_disk above overlaid bytes zeros whole =
        let fits : Fits One bound store es =
        (scan_of_ok store bound (g.seen old) es overlaid.scanned).fits in
        record {
          apart = apart;
          overlaid = overlaid;
          above = above;
          lowest = lowest;
          inside = inside;
          enough = enough;
          same = same_seen bound (g.seen mid) fits (first.seen t);
          bytes = bytes;
          zeros = λ b is.
              subst
              (λ (o : Option ℕ).
              IfSome o (λ c. chunk_bytes store (g.seen mid) c ≡ replicate 4096 0)) is zeros;
          whole = λ p within i below.
              let lies = on_disk (page_block One p) (page_inside One (length store) p within) in
              whole (slice_index store (page_block One p) + i)
              (omega (arith, below, lies, first.quiet.size));
        }

    -- with the entry
    pub time_both : (bound : ℕ) (new : D)
        → g.is_modelled
        → IsAtRest g old
        → Prepared store bound es block chunk from (g.seen old) (g.seen mid)
        → Adds g.moment g.outcomes mid new
        (LeavesEntry store (entry_place es block) (exception_of block chunk) (g.told mid)
        (g.seen mid))
        → Adds g.moment g.outcomes old new
        (LeavesOverlaid store bound es block from (g.told old) (g.seen old))
    time_both bound new t rest ready gate =
        adds_on g.moment g.outcomes old mid new _ _
        (time_data bound t ready.apart rest ready.overlaid) gate
        (λ o leaves. record {
          told_so_far = leaves.told_so_far ∙ first.quiet.told t;
          either =
              ⊎_elim
              (λ same.
              inl (subst (IsKept store bound es (g.seen old)) (sym same)
              (kept store bound es (g.seen old) (g.seen mid) ready.apart ready.overlaid
              ready.same)))
              (λ put.
              inr (
                set_entry es block chunk,
                written store bound es block chunk from (g.seen old) (g.seen mid) o.image ready put,
              ))
              leaves.either;
        })
