-- What a scan gives, and what it is that a scan gives it.
use Rattle.std.proofs.Common.{◌≡◌, inl, inr, ℕ, zero, suc, ◌≤◌, ◌<◌, List, length, take, refl, sym}
use Rattle.std.proofs.Common.{◌∙◌, ap, subst, arith, Bool, true, false, cond, ◌==◌, ◌||◌, ◌&&◌}
use Rattle.std.proofs.Common.{length-take-le}
use Rattle.std.specs.Prelude.{nat_lt, Option, Some, None, Result, Ok, Err}
use Rattle.std.proofs.lemmas.Bool.{cases_lt, cases_Bool, eqb-true, eq-eqb, and_parts, and_from}
use Rattle.std.proofs.lemmas.Bool.{ltb-true, ltb-false, lt-ltb, le-ltb, eqb-false, ne_eqb}
use Rattle.std.proofs.lemmas.List.{take_all}
use Rattle.std.proofs.lemmas.List.Sums.{prefix_len_is, prefix_len_passes, prefix_len-le-length}
use Rattle.std.specs.List.{prefix_len}
use Rattle.vab_disk.specs.Disk.{Image}
use Rattle.vab_space.specs.declared.Chunk.{Chunk}
use Rattle.vab_space.specs.Chunks.{blocks_in, chunks_for, is_data}
use Rattle.vab_space.proofs.ChunkLaws.{chunks_fewer, pages_enough, same_size, data_some}
use Rattle.vab_exceptions.specs.declared.area.Exception.{Exception}
use Rattle.vab_exceptions.specs.declared.header.HeaderFault.{HeaderFault}
use Rattle.vab_exceptions.specs.declared.header.HeaderFault.TheVariants.{BadChunk}
use Rattle.vab_exceptions.specs.Entries.{firsts, listed, IsListed}
use Rattle.vab_exceptions.specs.Header.{header_of}
use Rattle.vab_exceptions.proofs.EntryLaws.{get_or-firsts, firsts_is, EndsAt, listed_is, ends_at}
use Rattle.vab_store.specs.declared.fault.StoreFault.{StoreFault}
use Rattle.vab_store.specs.declared.fault.StoreFault.TheVariants as faults
use Rattle.vab_store.specs.Layout.{chunks_of, chunk_bytes, slot_at, slots_of}
use Rattle.vab_store.specs.View.{no_exception, exception_at, Lies, AreOther}
use Rattle.vab_store.specs.Scan.{or_else, first_some, share, repeat_at, repeat_of, lies, list_of}
use Rattle.vab_store.specs.Scan.{good_of, unless_repeated, after_header, judged, scan_of, IsScan}

-- ---- the first number at which a function gives something

pub first_none : {X : Type 0} (f : ℕ → Option X) (n : ℕ)
    → ((i : ℕ) → i < n → f i ≡ None)
    → first_some f n ≡ None
unfolding first_some
first_none f zero none = refl
first_none f (suc n) none =
    rw (first_none f n (λ i below. none i (omega (arith, below)))) (none n (omega arith))

pub first_found : {X : Type 0} (f : ℕ → Option X) (n k : ℕ) (x : X)
    → k < n
    → ((i : ℕ) → i < k → f i ≡ None)
    → f k ≡ Some x
    → first_some f n ≡ Some x
unfolding first_some
first_found f zero k x below none is = absurd (omega (arith, below))
first_found f (suc n) k x below none is =
    elim (cases_lt k n) [
      | inl before ↦ rw (first_found f n k x before none is) refl
      | inr last ↦
          let here : k ≡ n = omega (arith, below, last) in
          let so_far : first_some f n ≡ None =
          first_none f n (λ i lt. none i (omega (arith, lt, here))) in
          rw so_far (ap f (sym here) ∙ is)
    ]

none_front : {X : Type 0} (a b : Option X) → or_else a b ≡ None → (a ≡ None) × (b ≡ None)
none_front None b is = (refl, is)
none_front (Some x) b is = absurd (cc)

pub none_each : {X : Type 0} (f : ℕ → Option X) (n : ℕ)
    → first_some f n ≡ None
    → (i : ℕ)
    → i < n
    → f i ≡ None
unfolding first_some
none_each f zero is i below = absurd (omega (arith, below))
none_each f (suc n) is i below =
    let both = none_front (first_some f n) (f n) is in
    elim (cases_lt i n) [
      | inl before ↦ none_each f n both.0 i before
      | inr last ↦
          let here : i ≡ n = omega (arith, below, last) in
          ap f here ∙ both.1
    ]

-- ---- exceptions that share a chunk

pub others_share : (a b : Exception) → AreOther a b → share a b ≡ false
others_share a b other =
    let first : (a.old_chunk == b.old_chunk) ≡ false =
    ne_eqb a.old_chunk b.old_chunk other.old_chunk in
    let second : (a.new_chunk == b.new_chunk) ≡ false =
    ne_eqb a.new_chunk b.new_chunk other.new_chunk in
    (λ i. first i || second i)

or_false : (x y : Bool) → (x || y) ≡ false → (x ≡ false) × (y ≡ false)
or_false true y is = absurd (cc)
or_false false y is = (refl, is)

pub share_others : (a b : Exception) → share a b ≡ false → AreOther a b
share_others a b is =
    let both = or_false (a.old_chunk == b.old_chunk) (a.new_chunk == b.new_chunk) is in
    record {
      old_chunk = eqb-false a.old_chunk b.old_chunk both.0;
      new_chunk = eqb-false a.new_chunk b.new_chunk both.1;
    }

-- no exception shares a chunk with another
pub none_repeated : (es : List Exception)
    → ((j k : ℕ) → j < k → k < length es → AreOther (exception_at es j) (exception_at es k))
    → repeat_of es ≡ None
unfolding repeat_of repeat_at
none_repeated es once =
    first_none (repeat_at es) (length es)
    (λ k k_below.
    first_none
    (λ j. cond (share (exception_at es j) (exception_at es k)) (Some (j, k)) None) k
    (λ j j_below.
    rw (others_share (exception_at es j) (exception_at es k) (once j k j_below k_below)) refl))

some_none : {X : Type 0} (b : Bool) (x : X) → cond b (Some x) None ≡ None → b ≡ false
some_none true x is = absurd (cc)
some_none false x is = refl

pub repeated_none : (es : List Exception)
    → repeat_of es ≡ None
    → (j k : ℕ)
    → j < k
    → k < length es
    → AreOther (exception_at es j) (exception_at es k)
unfolding repeat_of repeat_at
repeated_none es is j k j_below k_below =
    let f : ℕ → Option (ℕ × ℕ) =
    λ i. cond (share (exception_at es i) (exception_at es k)) (Some (i, k)) None in
    let at_k : repeat_at es k ≡ None = none_each (repeat_at es) (length es) is k k_below in
    share_others (exception_at es j) (exception_at es k)
    (some_none (share (exception_at es j) (exception_at es k)) (j, k)
    (none_each f k at_k j j_below))

-- the first two that do
pub record IsFirstRepeat (es : List Exception) (j k : ℕ) : Type 0 where
  pub order : j < k
  pub within : k < length es
  pub shared : share (exception_at es j) (exception_at es k) ≡ true
  pub none_before : (a b : ℕ) → a < b → b < k
      → share (exception_at es a) (exception_at es b) ≡ false
  pub none_here : (a : ℕ) → a < j → share (exception_at es a) (exception_at es k) ≡ false

pub repeat_is : (es : List Exception) (j k : ℕ)
    → IsFirstRepeat es j k
    → repeat_of es ≡ Some (j, k)
unfolding repeat_of repeat_at
repeat_is es j k is =
    first_found (repeat_at es) (length es) k (j, k) is.within
    (λ b below.
    first_none
    (λ a. cond (share (exception_at es a) (exception_at es b)) (Some (a, b)) None) b
    (λ a lt. rw (is.none_before a b lt below) refl))
    (first_found
    (λ a. cond (share (exception_at es a) (exception_at es k)) (Some (a, k)) None) k j (j, k)
    is.order
    (λ a lt. rw (is.none_here a lt) refl)
    (rw is.shared refl))

-- ---- exceptions that lie in the store

pub lies_of : (size : Chunk) (chunks bound : ℕ) (e : Exception)
    → Lies size chunks bound e
    → lies size chunks bound e ≡ true
lies_of size chunks bound e is =
    and_from (nat_lt e.old_chunk bound)
    (nat_lt e.new_chunk chunks && is_data size e.new_chunk)
    (lt-ltb e.old_chunk bound is.old_chunk)
    (and_from (nat_lt e.new_chunk chunks) (is_data size e.new_chunk)
    (lt-ltb e.new_chunk chunks is.new_chunk) is.is_data)

pub of_lies : (size : Chunk) (chunks bound : ℕ) (e : Exception)
    → lies size chunks bound e ≡ true
    → Lies size chunks bound e
of_lies size chunks bound e is =
    let both = and_parts (nat_lt e.old_chunk bound)
    (nat_lt e.new_chunk chunks && is_data size e.new_chunk) is in
    let rest = and_parts (nat_lt e.new_chunk chunks) (is_data size e.new_chunk) both.1 in
    record {
      old_chunk = ltb-true e.old_chunk bound both.0;
      new_chunk = ltb-true e.new_chunk chunks rest.0;
      is_data = rest.1;
    }

-- a data chunk isn't 0, so that the exception doesn't end a list
pub lies_listed : (size : Chunk) (chunks bound : ℕ) (e : Exception)
    → Lies size chunks bound e
    → IsListed e
lies_listed size chunks bound e is zero_chunk = data_some size e.new_chunk is.is_data zero_chunk

-- the exceptions before the first that doesn't lie there
pub good_is : (size : Chunk) (chunks bound : ℕ) (es : List Exception) (k : ℕ)
    → k ≤ length es
    → ((j : ℕ) → j < k → Lies size chunks bound (exception_at es j))
    → (k < length es → lies size chunks bound (exception_at es k) ≡ false)
    → good_of size chunks bound es ≡ take k es
unfolding good_of
good_is size chunks bound es k within before here =
    ap (λ (n : ℕ). take n es)
    (prefix_len_is (lies size chunks bound) es k no_exception within
    (λ j lt. lies_of size chunks bound (exception_at es j) (before j lt)) here)

pub good_all : (size : Chunk) (chunks bound : ℕ) (es : List Exception)
    → ((j : ℕ) → j < length es → Lies size chunks bound (exception_at es j))
    → good_of size chunks bound es ≡ es
good_all size chunks bound es all =
    good_is size chunks bound es (length es) (omega arith) all
    (λ below. absurd (omega (arith, below)))
    ∙ take_all (length es) es (omega arith)

length-good_of : (size : Chunk) (chunks bound : ℕ) (es : List Exception)
    → length (good_of size chunks bound es) ≡ prefix_len (lies size chunks bound) es
unfolding good_of
length-good_of size chunks bound es =
    length-take-le (prefix_len (lies size chunks bound) es) es
    (prefix_len-le-length (lies size chunks bound) es)

good_lies : (size : Chunk) (chunks bound : ℕ) (es : List Exception)
    → length es ≤ length (good_of size chunks bound es)
    → (j : ℕ)
    → j < length es
    → Lies size chunks bound (exception_at es j)
good_lies size chunks bound es all j below =
    of_lies size chunks bound (exception_at es j)
    (prefix_len_passes (lies size chunks bound) es j no_exception
    (omega (arith, all, below, length-good_of size chunks bound es)))

-- ---- a list that is a scan

-- the entries' list
pub list_is : (size : Chunk) (map : List ℕ) (image : Image) (es : List Exception)
    → EndsAt (slot_at size map image) (length es) (slots_of size map)
    → ((t : ℕ) → t < length es → slot_at size map image t ≡ exception_at es t)
    → list_of size map image ≡ es
unfolding list_of
list_is size map image es ends reads =
    listed_is (slot_at size map image) (length es) (slots_of size map) ends
    ∙ firsts_is (slot_at size map image) es no_exception reads

judged_ok : (size : Chunk) (chunks bound slots : ℕ) (es : List Exception)
    → ((j : ℕ) → j < length es → Lies size chunks bound (exception_at es j))
    → ((j k : ℕ) → j < k → k < length es → AreOther (exception_at es j) (exception_at es k))
    → length es < slots
    → judged size chunks bound slots es ≡ Ok es
unfolding judged
judged_ok size chunks bound slots es lie once room =
    let ended : Result (List Exception) StoreFault =
    cond (nat_lt (length es) slots) (Ok es) (Err faults.Unended) in
    ap
    (λ g. unless_repeated (repeat_of g)
    (cond (nat_lt (length g) (length es)) (Err (faults.BadChunk (length g))) ended))
    (good_all size chunks bound es lie)
    ∙ ap
    (λ r. unless_repeated r
    (cond (nat_lt (length es) (length es)) (Err (faults.BadChunk (length es))) ended))
    (none_repeated es once)
    ∙ ap (λ b. cond b (Err (faults.BadChunk (length es))) ended)
    (le-ltb (length es) (length es) (omega arith))
    ∙ ap (λ b. cond b (Ok es) (Err faults.Unended)) (lt-ltb (length es) slots room)

-- a header of the size
pub header_passed : {X : Type 0} (size : Chunk) (means : Result X StoreFault)
    → after_header size (Ok size) means ≡ means
header_passed size means =
    ap (λ b. cond b means (Err (faults.Header BadChunk)))
    (eq-eqb (blocks_in size) (blocks_in size) refl)

pub scan_of_is : {size : Chunk} (map : List ℕ) (bound : ℕ) (image : Image) (es : List Exception)
    → IsScan size map bound image es
    → scan_of size map bound image ≡ Ok es
unfolding scan_of
scan_of_is {size} map bound image es is =
    let fits = is.fits in
    let ends : EndsAt (slot_at size map image) (length es) (slots_of size map) =
    record {
      within = omega (arith, fits.room);
      before = λ i below.
          subst IsListed (sym (is.reads i below))
          (lies_listed size (chunks_of size map) (chunks_for size bound) (exception_at es i)
          (fits.lie i below));
      here = λ below. is.stops;
    } in
    let header : Result Chunk HeaderFault = header_of (take 512 (chunk_bytes map image 0)) in
    let all : List Exception → Result (List Exception) StoreFault =
    λ l. judged size (chunks_of size map) (chunks_for size bound) (slots_of size map) l in
    ap (λ b. cond b (Err faults.Unended) (after_header size header (all (list_of size map image))))
    (le-ltb (length map) 2 (chunks_fewer size (length map) 2 fits.chunks))
    ∙ ap (λ h. after_header size h (all (list_of size map image))) is.header
    ∙ header_passed size (all (list_of size map image))
    ∙ ap all (list_is size map image es ends is.reads)
    ∙ judged_ok size (chunks_of size map) (chunks_for size bound) (slots_of size map) es fits.lie
    fits.once fits.room

-- ---- what it says that a scan gives a list

ok_tested : (b : Bool) (fault : StoreFault) (r : Result (List Exception) StoreFault)
    (es : List Exception)
    → cond b (Err fault) r ≡ Ok es
    → (b ≡ false) × (r ≡ Ok es)
ok_tested true fault r es is = absurd (cc)
ok_tested false fault r es is = (refl, is)

ok_header : (size : Chunk) (h : Result Chunk HeaderFault)
    (r : Result (List Exception) StoreFault) (es : List Exception)
    → after_header size h r ≡ Ok es
    → (h ≡ Ok size) × (r ≡ Ok es)
ok_header size (Ok other) r es is =
    elim (cases_Bool (blocks_in other == blocks_in size)) [
      | inl one ↦ (
        ap (λ (k : Chunk). Ok k) (same_size other size
            (eqb-true (blocks_in other) (blocks_in size) one)),
        rw one at is,
      )
      | inr two ↦
          let failed : Err (faults.Header BadChunk) ≡ Ok es = rw two at is in
          absurd (cc)
    ]
ok_header size (Err fault) r es is = absurd (cc)

ok_unrepeated : (o : Option (ℕ × ℕ)) (r : Result (List Exception) StoreFault)
    (es : List Exception)
    → unless_repeated o r ≡ Ok es
    → (o ≡ None) × (r ≡ Ok es)
ok_unrepeated None r es is = (refl, is)
ok_unrepeated (Some (j, k)) r es is = absurd (cc)

ok_ended : (b : Bool) (fault : StoreFault) (l es : List Exception)
    → cond b (Ok l) (Err fault) ≡ Ok es
    → (b ≡ true) × (l ≡ es)
ok_ended true fault l es is = (refl, cc)
ok_ended false fault l es is = absurd (cc)

record IsJudged (size : Chunk) (chunks bound slots : ℕ) (l es : List Exception) : Type 0 where
  same : l ≡ es
  room : length l < slots
  lie : (j : ℕ) → j < length l → Lies size chunks bound (exception_at l j)
  once : (j k : ℕ) → j < k → k < length l → AreOther (exception_at l j) (exception_at l k)

of_judged : (size : Chunk) (chunks bound slots : ℕ) (l es : List Exception)
    → judged size chunks bound slots l ≡ Ok es
    → IsJudged size chunks bound slots l es
unfolding judged
of_judged size chunks bound slots l es is =
    let good : List Exception = good_of size chunks bound l in
    let ended : Result (List Exception) StoreFault =
    cond (nat_lt (length l) slots) (Ok l) (Err faults.Unended) in
    let unrepeated = ok_unrepeated (repeat_of good)
    (cond (nat_lt (length good) (length l)) (Err (faults.BadChunk (length good))) ended) es is in
    let tested = ok_tested (nat_lt (length good) (length l))
    (faults.BadChunk (length good)) ended es
    unrepeated.1 in
    let whole : length l ≤ length good = ltb-false (length good) (length l) tested.0 in
    let last = ok_ended (nat_lt (length l) slots) faults.Unended l es tested.1 in
    let lie = good_lies size chunks bound l whole in
    let none : repeat_of l ≡ None =
    ap repeat_of (sym (good_all size chunks bound l lie)) ∙ unrepeated.0 in
    record {
      same = last.1;
      room = ltb-true (length l) slots last.0;
      lie = lie;
      once = repeated_none l none;
    }

pub scan_of_ok : {size : Chunk} (map : List ℕ) (bound : ℕ) (image : Image) (es : List Exception)
    → scan_of size map bound image ≡ Ok es
    → IsScan size map bound image es
unfolding scan_of list_of
scan_of_ok {size} map bound image es is =
    let f : ℕ → Exception = slot_at size map image in
    let slots : ℕ = slots_of size map in
    let l : List Exception = listed (firsts f slots) in
    let header : Result Chunk HeaderFault = header_of (take 512 (chunk_bytes map image 0)) in
    let all : Result (List Exception) StoreFault =
    judged size (chunks_of size map) (chunks_for size bound) slots l in
    let enough = ok_tested (nat_lt (length map) 2) faults.Unended
    (after_header size header all) es is in
    let headed = ok_header size header all es enough.1 in
    let judged_so =
    of_judged size (chunks_of size map) (chunks_for size bound) slots l es headed.1 in
    let ends : EndsAt f (length l) slots = ends_at f slots in
    let whole : l ≡ firsts f (length l) = listed_is f (length l) slots ends in
    let of_list : IsScan size map bound image l = record {
      fits = record {
        chunks = pages_enough size (length map) (omega (arith, judged_so.room));
        room = judged_so.room;
        lie = judged_so.lie;
        once = judged_so.once;
      };
      header = headed.0;
      reads = λ t below.
          sym (ap (λ (k : List Exception). exception_at k t) whole
          ∙ get_or-firsts f (length l) t no_exception below);
      stops = ends.here judged_so.room;
    } in
    subst (IsScan size map bound image) judged_so.same of_list

-- where as many lie there as there are
pub good_full : (size : Chunk) (chunks bound : ℕ) (es : List Exception)
    → length es ≤ length (good_of size chunks bound es)
    → good_of size chunks bound es ≡ es
good_full size chunks bound es all =
    good_all size chunks bound es (good_lies size chunks bound es all)
