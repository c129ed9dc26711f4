-- What is read of a store's list, page after page.
use Rattle.std.proofs.Common.{◌≡◌, ◌≢◌, inl, inr, ℕ, ◌+◌, ◌-◌, ◌*◌, ◌/◌, ◌%◌, ◌≤◌, ◌<◌, List, ◌++◌}
use Rattle.std.proofs.Common.{length, take, get_or, refl, sym, ◌∙◌, ap, subst, arith, false, cond}
use Rattle.std.proofs.Common.{length-append, length-take-le}
use Rattle.std.specs.Prelude.{nat_lt, Option, Some, Result, Ok, Err, IfOk, IsErrOf}
use Rattle.std.proofs.lemmas.Bool.{cases_lt, lt-ltb, le-ltb, ne_eqb}
use Rattle.std.proofs.lemmas.List.{get_or_append_left, get_or-append_right, get_or-take}
use Rattle.vab_disk.specs.Disk.{Image}
use Rattle.vab_disk.specs.declared.disk.Disk.{Ghosts}
use Rattle.vab_space.specs.declared.Chunk.{Chunk}
use Rattle.vab_space.specs.Chunks.{blocks_in, chunks_for, page_block}
use Rattle.vab_space.proofs.ChunkLaws.{pages_enough, same_size}
use Rattle.vab_exceptions.specs.declared.area.Exception.{Exception}
use Rattle.vab_exceptions.specs.declared.header.HeaderFault.{HeaderFault}
use Rattle.vab_exceptions.specs.declared.header.HeaderFault.TheVariants.{BadChunk}
use Rattle.vab_exceptions.specs.Entries.{firsts, entry_at, area_of, listed, IsListed}
use Rattle.vab_exceptions.specs.Header.{header_of}
use Rattle.vab_exceptions.proofs.EntryLaws.{length-firsts, get_or-firsts, firsts_same, firsts-add}
use Rattle.vab_exceptions.proofs.EntryLaws.{take-firsts, EndsAt, listed_is, ends_at}
use Rattle.vab_store.specs.declared.fault.StoreFault.{StoreFault}
use Rattle.vab_store.specs.declared.fault.StoreFault.TheVariants as faults
use Rattle.vab_store.specs.Answers.{ReadsStore}
use Rattle.vab_store.specs.Layout.{chunks_of, chunk_bytes, pages_of, slot_at, slots_of}
use Rattle.vab_store.specs.View.{no_exception, exception_at, Lies, Fits}
use Rattle.vab_store.specs.Scan.{lies, list_of, good_of, repeat_of, unless_repeated, after_header}
use Rattle.vab_store.specs.Scan.{judged, scan_of}
use Rattle.vab_store.proofs.ScanLaws.{header_passed, good_is, good_all, good_full, lies_listed}
use Rattle.vab_store.proofs.ScanLaws.{repeated_none}
use Rattle.vab_scan.specs.declared.list.End.{End}
use Rattle.vab_scan.specs.declared.list.End.TheVariants.{Ended, Unended, Bad}
use Rattle.vab_scan.specs.List.{AllLie, TakesTo, StepSo, StepsOver, EndsSo, IsFound, IsKept}
use Rattle.vab_scan.specs.List.{HasRoom, answer_of, finished_of, IsFinished}

-- ---- exceptions that are added

pub lie_more : (size : Chunk) (chunks bound : ℕ) (page old new : List Exception) (n : ℕ)
    → AllLie size chunks bound old
    → TakesTo size chunks bound page old new n
    → AllLie size chunks bound new
lie_more size chunks bound page old new n lie is j below =
    let front : length (take n page) ≡ n = length-take-le n page is.within in
    let long : length new ≡ length old + n =
    omega (arith, ap length is.new_is, length-append old (take n page), front) in
    let read : exception_at new j ≡ get_or (old ++ take n page) j no_exception =
    ap (λ (l : List Exception). exception_at l j) is.new_is in
    elim (cases_lt j (length old)) [
      | inl before ↦
          subst (Lies size chunks bound)
          (sym (read ∙ get_or_append_left old (take n page) no_exception j before))
          (lie j before)
      | inr behind ↦
          let i : ℕ = j - length old in
          let lt : i < n = omega (arith, below, long, behind) in
          subst (Lies size chunks bound)
          (sym (read
          ∙ get_or-append_right old (take n page) (length old) j no_exception refl behind
          ∙ get_or-take n page i no_exception lt))
          (is.lie i lt)
    ]

pub length_more : (size : Chunk) (chunks bound : ℕ) (page old new : List Exception) (n : ℕ)
    → TakesTo size chunks bound page old new n
    → length new ≡ length old + n
length_more size chunks bound page old new n is =
    omega (
      arith,
      ap length is.new_is,
      length-append old (take n page),
      length-take-le n page is.within,
    )

-- a page has at most so many exceptions
pub area_few : (count : ℕ) (bytes : List ℕ) → length (area_of count bytes) ≤ count
area_few count bytes = (ends_at (entry_at bytes) count).within

-- by the numbers that the code has
pub steps_over : (M : Type 0) (size : Chunk) (map : List ℕ) (bound : ℕ) (image : Image) (p : ℕ)
    (old new page : List Exception) (chunks most : ℕ) (end : Option End)
    → (M → page ≡ area_of 256 (chunk_bytes map image (page_block size p)))
    → length page ≤ 256
    → chunks ≡ chunks_of size map
    → most ≡ chunks_for size bound
    → StepSo size chunks most page old new end
    → StepsOver M size map bound image p old new end
steps_over M size map bound image p old new page chunks most end is few count limit step = record {
  page = page;
  page_is = is;
  few = few;
  step =
      subst (λ (n : ℕ). StepSo size n (chunks_for size bound) page old new end) count
      (subst (λ (n : ℕ). StepSo size chunks n page old new end) limit step);
}

-- ---- the entries of an page

-- the entries of a store, as those of an page
slot_in : (size : Chunk) (map : List ℕ) (image : Image) (p i : ℕ)
    → i < 256
    → slot_at size map image (256 * p + i)
    ≡ entry_at (chunk_bytes map image (page_block size p)) i
unfolding slot_at
slot_in size map image p i below =
    let which : (256 * p + i) / 256 ≡ p = omega (arith, below) in
    let place : (256 * p + i) % 256 ≡ i = omega (arith, below) in
    ap (λ (n : ℕ). entry_at (chunk_bytes map image (page_block size n))
    ((256 * p + i) % 256)) which
    ∙ ap (λ (n : ℕ). entry_at (chunk_bytes map image (page_block size p)) n) place

-- as many entries as an page has exceptions
pub page_slots : (size : Chunk) (map : List ℕ) (image : Image) (p n : ℕ) (page : List Exception)
    → page ≡ area_of 256 (chunk_bytes map image (page_block size p))
    → n ≤ length page
    → length page ≤ 256
    → firsts (slot_at size map image) (256 * p) ++ take n page
    ≡ firsts (slot_at size map image) (256 * p + n)
page_slots size map image p n page is within few =
    let bytes : List ℕ = chunk_bytes map image (page_block size p) in
    let f : ℕ → Exception = entry_at bytes in
    let count : ℕ = length (listed (firsts f 256)) in
    let ends : EndsAt f count 256 = ends_at f 256 in
    let whole : page ≡ firsts f count = is ∙ listed_is f count 256 ends in
    let long : length page ≡ count = ap length is in
    let front : take n page ≡ firsts f n =
    ap (take n) whole ∙ take-firsts f n count (omega (arith, within, long)) in
    let same : firsts f n ≡ firsts (λ i. slot_at size map image (256 * p + i)) n =
    firsts_same f (λ i. slot_at size map image (256 * p + i)) n
    (λ i below. sym (slot_in size map image p i (omega (arith, below, within, few)))) in
    ap (λ l. firsts (slot_at size map image) (256 * p) ++ l) (front ∙ same)
    ∙ sym (firsts-add (slot_at size map image) (256 * p) n)

-- the next entry ends the list, where the page has fewer exceptions than entries
page_ends : (size : Chunk) (map : List ℕ) (image : Image) (p : ℕ) (page : List Exception)
    → page ≡ area_of 256 (chunk_bytes map image (page_block size p))
    → length page < 256
    → (slot_at size map image (256 * p + length page)).new_chunk ≡ 0
page_ends size map image p page is few =
    let f : ℕ → Exception = entry_at (chunk_bytes map image (page_block size p)) in
    let count : ℕ = length (listed (firsts f 256)) in
    let ends : EndsAt f count 256 = ends_at f 256 in
    let long : length page ≡ count = ap length is in
    ap (λ (e : Exception). e.new_chunk) (slot_in size map image p (length page) few)
    ∙ ap (λ (n : ℕ). (f n).new_chunk) long
    ∙ ends.here (omega (arith, long, few))

-- the next entry is the page's next exception
page_next : (size : Chunk) (map : List ℕ) (image : Image) (p n : ℕ) (page : List Exception)
    → page ≡ area_of 256 (chunk_bytes map image (page_block size p))
    → n < length page
    → length page ≤ 256
    → (slot_at size map image (256 * p + n) ≡ exception_at page n)
    × IsListed (slot_at size map image (256 * p + n))
page_next size map image p n page is below few =
    let f : ℕ → Exception = entry_at (chunk_bytes map image (page_block size p)) in
    let count : ℕ = length (listed (firsts f 256)) in
    let ends : EndsAt f count 256 = ends_at f 256 in
    let whole : page ≡ firsts f count = is ∙ listed_is f count 256 ends in
    let lt : n < count = omega (arith, below, ap length is) in
    let slot : slot_at size map image (256 * p + n) ≡ f n =
    slot_in size map image p n (omega (arith, below, few)) in (
      slot
          ∙ sym (ap (λ (l : List Exception). exception_at l n) whole
          ∙ get_or-firsts f count n no_exception lt),
      subst IsListed (sym slot) (ends.before n lt),
    )

-- ---- what is found

record IsRead (size : Chunk) (map : List ℕ) (bound : ℕ) (image : Image) (es : List Exception)
    (n : ℕ) : Type 0 where
  read : es ≡ firsts (slot_at size map image) n
  lie : AllLie size (chunks_of size map) (chunks_for size bound) es

slots_listed : (size : Chunk) (map : List ℕ) (bound : ℕ) (image : Image) (es : List Exception)
    (n : ℕ)
    → IsRead size map bound image es n
    → (t : ℕ)
    → t < n
    → IsListed (slot_at size map image t)
slots_listed size map bound image es n is t below =
    let f : ℕ → Exception = slot_at size map image in
    let long : length es ≡ n = ap length is.read ∙ length-firsts f n in
    let read : exception_at es t ≡ f t =
    ap (λ (l : List Exception). exception_at l t) is.read
    ∙ get_or-firsts f n t no_exception below in
    subst IsListed read
    (lies_listed size (chunks_of size map) (chunks_for size bound) (exception_at es t)
    (is.lie t (omega (arith, below, long))))

-- the list ends behind these
list_ended : (size : Chunk) (map : List ℕ) (bound : ℕ) (image : Image) (es : List Exception) (n : ℕ)
    → IsRead size map bound image es n
    → n ≤ slots_of size map
    → (n < slots_of size map → (slot_at size map image n).new_chunk ≡ 0)
    → list_of size map image ≡ es
unfolding list_of
list_ended size map bound image es n is within stops =
    listed_is (slot_at size map image) n (slots_of size map)
    (record { within = within; before = slots_listed size map bound image es n is; here = stops })
    ∙ sym is.read

pub found_ended : (size : Chunk) (map : List ℕ) (bound : ℕ) (image : Image) (es : List Exception)
    (n : ℕ)
    → es ≡ firsts (slot_at size map image) n
    → AllLie size (chunks_of size map) (chunks_for size bound) es
    → n < slots_of size map
    → (slot_at size map image n).new_chunk ≡ 0
    → IsFound size map bound image es Ended
found_ended size map bound image es n read lie within stops =
    let is : IsRead size map bound image es n = record { read = read; lie = lie } in
    let list : list_of size map image ≡ es =
    list_ended size map bound image es n is (omega (arith, within)) (λ below. stops) in
    let long : length es ≡ n = ap length read ∙ length-firsts (slot_at size map image) n in
    let same : length (list_of size map image) ≡ length es = ap length list in
    record {
      good = sym (ap (good_of size (chunks_of size map) (chunks_for size bound)) list
          ∙ good_all size (chunks_of size map) (chunks_for size bound) es lie);
      ending = (omega (arith, same), omega (arith, same, long, within));
    }

pub found_unended : (size : Chunk) (map : List ℕ) (bound : ℕ) (image : Image) (es : List Exception)
    → es ≡ firsts (slot_at size map image) (slots_of size map)
    → AllLie size (chunks_of size map) (chunks_for size bound) es
    → IsFound size map bound image es Unended
found_unended size map bound image es read lie =
    let n : ℕ = slots_of size map in
    let is : IsRead size map bound image es n = record { read = read; lie = lie } in
    let list : list_of size map image ≡ es =
    list_ended size map bound image es n is (omega arith)
    (λ below. absurd (omega (arith, below))) in
    let long : length es ≡ n = ap length read ∙ length-firsts (slot_at size map image) n in
    let same : length (list_of size map image) ≡ length es = ap length list in
    record {
      good = sym (ap (good_of size (chunks_of size map) (chunks_for size bound)) list
          ∙ good_all size (chunks_of size map) (chunks_for size bound) es lie);
      ending = (omega (arith, same), omega (arith, same, long));
    }

pub found_bad : (size : Chunk) (map : List ℕ) (bound : ℕ) (image : Image) (es : List Exception)
    (n : ℕ)
    → es ≡ firsts (slot_at size map image) n
    → AllLie size (chunks_of size map) (chunks_for size bound) es
    → n < slots_of size map
    → IsListed (slot_at size map image n)
    → lies size (chunks_of size map) (chunks_for size bound) (slot_at size map image n) ≡ false
    → IsFound size map bound image es Bad
unfolding list_of
found_bad size map bound image es n read lie within on bad =
    let f : ℕ → Exception = slot_at size map image in
    let slots : ℕ = slots_of size map in
    let is : IsRead size map bound image es n = record { read = read; lie = lie } in
    let l : List Exception = listed (firsts f slots) in
    let ends : EndsAt f (length l) slots = ends_at f slots in
    let whole : l ≡ firsts f (length l) = listed_is f (length l) slots ends in
    let long : length es ≡ n = ap length read ∙ length-firsts f n in
    let more : n < length l = elim (cases_lt n (length l)) [
      | inl lt ↦ lt
      | inr le ↦ elim (cases_lt (length l) n) [
        | inl lt ↦
            absurd (slots_listed size map bound image es n is (length l) lt
            (ends.here (omega (arith, lt, within))))
        | inr other ↦
            let same : n ≡ length l = omega (arith, le, other) in
            absurd (on (ap (λ (t : ℕ). (f t).new_chunk) same
            ∙ ends.here (omega (arith, same, within))))
      ]
    ] in
    let at : (t : ℕ) → t < length l → exception_at l t ≡ f t =
    λ t below.
    ap (λ (k : List Exception). exception_at k t) whole
    ∙ get_or-firsts f (length l) t no_exception below in
    let es_at : (t : ℕ) → t < n → exception_at es t ≡ f t =
    λ t below.
    ap (λ (k : List Exception). exception_at k t) read ∙ get_or-firsts f n t no_exception below in
    record {
      good =
          read
          ∙ sym (take-firsts f n (length l) (omega (arith, more)))
          ∙ ap (take n) (sym whole)
          ∙ sym (good_is size (chunks_of size map) (chunks_for size bound) l n (omega (arith, more))
          (λ j below.
          subst (Lies size (chunks_of size map) (chunks_for size bound))
          (es_at j below ∙ sym (at j (omega (arith, below, more))))
          (lie j (omega (arith, below, long))))
          (λ below. ap (lies size (chunks_of size map) (chunks_for size bound)) (at n more) ∙ bad));
      ending = omega (arith, long, more);
    }

-- ---- one page more

-- what is found where an page is the last
pub found_so : (size : Chunk) (map : List ℕ) (bound : ℕ) (image : Image) (p : ℕ)
    (page old new : List Exception)
    (end : End)
    → old ≡ firsts (slot_at size map image) (256 * p)
    → AllLie size (chunks_of size map) (chunks_for size bound) old
    → p < pages_of size map
    → page ≡ area_of 256 (chunk_bytes map image (page_block size p))
    → length page ≤ 256
    → StepSo size (chunks_of size map) (chunks_for size bound) page old new (Some end)
    → IsFound size map bound image new end
found_so size map bound image p page old new Ended read lie below is few step =
    let n : ℕ = length page in
    let taken = step.0 in
    let now : new ≡ firsts (slot_at size map image) (256 * p + n) =
    taken.new_is
    ∙ ap (λ l. l ++ take n page) read
    ∙ page_slots size map image p n page is (omega arith) few in
    found_ended size map bound image new (256 * p + n) now
    (lie_more size (chunks_of size map) (chunks_for size bound) page old new n lie taken)
    (omega (arith, below, step.1))
    (page_ends size map image p page is step.1)
found_so size map bound image p page old new Unended read lie below is few step = absurd step
found_so size map bound image p page old new Bad read lie below is few step =
    let n : ℕ = step.0 in
    let taken = step.1 in
    let next = page_next size map image p n page is step.2 few in
    let now : new ≡ firsts (slot_at size map image) (256 * p + n) =
    taken.new_is
    ∙ ap (λ l. l ++ take n page) read
    ∙ page_slots size map image p n page is taken.within few in
    found_bad size map bound image new (256 * p + n) now
    (lie_more size (chunks_of size map) (chunks_for size bound) page old new n lie taken)
    (omega (arith, below, step.2, few))
    next.1
    (ap (lies size (chunks_of size map) (chunks_for size bound)) next.0 ∙ step.3)

pub kept_so : (size : Chunk) (map : List ℕ) (bound p : ℕ) (page old new : List Exception)
    (end : End)
    → length old ≡ 256 * p
    → AllLie size (chunks_of size map) (chunks_for size bound) old
    → p < pages_of size map
    → StepSo size (chunks_of size map) (chunks_for size bound) page old new (Some end)
    → IsKept size map bound new end
kept_so size map bound p page old new Ended long lie below step = record {
  lie = lie_more size (chunks_of size map) (chunks_for size bound) page old new (length page) lie
      step.0;
  room = omega (
    arith,
    length_more size (chunks_of size map) (chunks_for size bound) page old new (length page) step.0,
    long,
    below,
    step.1,
  );
}
kept_so size map bound p page old new Unended long lie below step = absurd step
kept_so size map bound p page old new Bad long lie below step = record {
  lie = lie_more size (chunks_of size map) (chunks_for size bound) page old new step.0 lie step.1;
  room = tt;
}

-- ---- the answer

pub scan_short : (size : Chunk) (map : List ℕ) (bound : ℕ) (image : Image)
    → length map < 2
    → scan_of size map bound image ≡ Err faults.Unended
unfolding scan_of
scan_short size map bound image few =
    let rest : Result (List Exception) StoreFault =
    after_header size (header_of (take 512 (chunk_bytes map image 0)))
    (judged size (chunks_of size map) (chunks_for size bound) (slots_of size map)
    (list_of size map image)) in
    ap (λ b. cond b (Err faults.Unended) rest) (lt-ltb (length map) 2 few)

scan_long : (size : Chunk) (map : List ℕ) (bound : ℕ) (image : Image)
    → 2 ≤ length map
    → scan_of size map bound image
    ≡ after_header size (header_of (take 512 (chunk_bytes map image 0)))
    (judged size (chunks_of size map) (chunks_for size bound) (slots_of size map)
    (list_of size map image))
unfolding scan_of
scan_long size map bound image enough =
    let rest : Result (List Exception) StoreFault =
    after_header size (header_of (take 512 (chunk_bytes map image 0)))
    (judged size (chunks_of size map) (chunks_for size bound) (slots_of size map)
    (list_of size map image)) in
    ap (λ b. cond b (Err faults.Unended) rest) (le-ltb (length map) 2 enough)

pub scan_header : (size : Chunk) (map : List ℕ) (bound : ℕ) (image : Image) (bytes : List ℕ)
    (fault : HeaderFault)
    → 2 ≤ length map
    → bytes ≡ take 512 (chunk_bytes map image 0)
    → Err fault ≡ header_of bytes
    → scan_of size map bound image ≡ Err (faults.Header fault)
scan_header size map bound image bytes fault enough is header =
    let rest : Result (List Exception) StoreFault =
    judged size (chunks_of size map) (chunks_for size bound) (slots_of size map)
    (list_of size map image) in
    scan_long size map bound image enough
    ∙ ap (λ h. after_header size h rest) (ap header_of (sym is) ∙ sym header)

judged_so : (size : Chunk) (chunks bound slots : ℕ) (good l : List Exception) (end : End)
    → good ≡ good_of size chunks bound l
    → EndsSo slots good l end
    → judged size chunks bound slots l ≡ finished_of good end
unfolding judged
judged_so size chunks bound slots good l end is ending =
    ap
    (λ g. unless_repeated (repeat_of g)
    (cond (nat_lt (length g) (length l)) (Err (faults.BadChunk (length g)))
    (cond (nat_lt (length l) slots) (Ok l) (Err faults.Unended))))
    (sym is)
    ∙ ap (unless_repeated (repeat_of good)) (answered end ending)
  where
    whole : length l ≤ length good → l ≡ good
    whole all =
        let fits : good_of size chunks bound l ≡ l =
        good_full size chunks bound l (omega (arith, all, ap length is)) in
        sym (is ∙ fits)

    answered : (end : End)
        → EndsSo slots good l end
        → cond (nat_lt (length good) (length l)) (Err (faults.BadChunk (length good)))
        (cond (nat_lt (length l) slots) (Ok l) (Err faults.Unended))
        ≡ answer_of good end
    answered Bad less = rw (lt-ltb (length good) (length l) less) refl
    answered Ended both =
        rw (le-ltb (length good) (length l) both.0)
        (rw (lt-ltb (length l) slots both.1) (ap (λ k. Ok k) (whole both.0)))
    answered Unended both =
        rw (le-ltb (length good) (length l) both.0)
        (rw (le-ltb (length l) slots both.1) refl)

-- a header of another size
pub scan_other : (size told : Chunk) (map : List ℕ) (bound : ℕ) (image : Image) (bytes : List ℕ)
    → 2 ≤ length map
    → bytes ≡ take 512 (chunk_bytes map image 0)
    → Ok told ≡ header_of bytes
    → blocks_in told ≢ blocks_in size
    → scan_of size map bound image ≡ Err (faults.Header BadChunk)
scan_other size told map bound image bytes enough is header other =
    let rest : Result (List Exception) StoreFault =
    judged size (chunks_of size map) (chunks_for size bound) (slots_of size map)
    (list_of size map image) in
    scan_long size map bound image enough
    ∙ ap (λ h. after_header size h rest) (ap header_of (sym is) ∙ sym header)
    ∙ ap (λ b. cond b rest (Err (faults.Header BadChunk)))
    (ne_eqb (blocks_in told) (blocks_in size) other)

-- one of the same size
pub scan_passed : (size told : Chunk) (bytes : List ℕ)
    → Ok told ≡ header_of bytes
    → blocks_in told ≡ blocks_in size
    → Ok size ≡ header_of bytes
scan_passed size told bytes header same =
    ap (λ (k : Chunk). Ok k) (sym (same_size told size same)) ∙ header

pub scan_finished : (size : Chunk) (map : List ℕ) (bound : ℕ) (image : Image) (bytes : List ℕ)
    (es : List Exception) (end : End)
    → 2 ≤ length map
    → bytes ≡ take 512 (chunk_bytes map image 0)
    → Ok size ≡ header_of bytes
    → IsFound size map bound image es end
    → scan_of size map bound image ≡ finished_of es end
scan_finished size map bound image bytes es end enough is header found =
    let rest : Result (List Exception) StoreFault =
    judged size (chunks_of size map) (chunks_for size bound) (slots_of size map)
    (list_of size map image) in
    scan_long size map bound image enough
    ∙ ap (λ h. after_header size h rest) (ap header_of (sym is) ∙ sym header)
    ∙ header_passed size rest
    ∙ judged_so size (chunks_of size map) (chunks_for size bound) (slots_of size map) es
    (list_of size map image) end
    found.good found.ending

-- over every disk
pub finished_fits : (size : Chunk) (map : List ℕ) (bound : ℕ) (es view : List Exception) (end : End)
    → 2 ≤ length map
    → IsKept size map bound es end
    → IsFinished es end view
    → Fits size bound map view
finished_fits size map bound es view end enough kept is =
    let room : HasRoom size map es Ended = subst (HasRoom size map es) is.ended kept.room in
    let of_list : Fits size bound map es = record {
      chunks = pages_enough size (length map) (omega (arith, room));
      room = room;
      lie = kept.lie;
      once = repeated_none es is.once;
    } in
    subst (Fits size bound map) (sym is.same) of_list

pub reads_steady : {D X : Type 0} (g : Ghosts D) (old new : D) (r : Result X StoreFault)
    → (IsErrOf r faults.DiskFault → ⊥)
    → g.faults new ≡ g.faults old
    → ReadsStore g old new r
reads_steady g old new (Ok x) never same = same
reads_steady g old new (Err faults.DiskFault) never same = absurd (never refl)
reads_steady g old new (Err faults.NoMemory) never same = same
reads_steady g old new (Err (faults.Header fault)) never same = same
reads_steady g old new (Err (faults.BadChunk j)) never same = same
reads_steady g old new (Err (faults.Repeated j k)) never same = same
reads_steady g old new (Err faults.Unended) never same = same

pub answer_fits : (size : Chunk) (map : List ℕ) (bound : ℕ) (es : List Exception) (end : End)
    (r : Result (List Exception) StoreFault)
    → 2 ≤ length map
    → IsKept size map bound es end
    → IfOk r (IsFinished es end)
    → IfOk r (Fits size bound map)
answer_fits size map bound es end (Ok view) enough kept is =
    finished_fits size map bound es view end enough kept is
answer_fits size map bound es end (Err fault) enough kept is = tt
