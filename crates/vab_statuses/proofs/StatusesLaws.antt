-- What callers need of the statuses.
use Rattle.std.proofs.Common.{◌≡◌, ◌≢◌, ℕ, zero, suc, ◌+◌, ◌-◌, ◌<◌, ◌≤◌, Bool, true, false, cond}
use Rattle.std.proofs.Common.{List, [], ◌∷◌, ◌++◌, length, get_or, replicate, Option, Some, None}
use Rattle.std.proofs.Common.{Result, Ok, Err, inl, inr, refl, sym, ap, ◌∙◌, subst, arith}
use Rattle.std.proofs.Common.{append_assoc, append-nil, length-append, eqb, ◌||◌}
use Rattle.std.proofs.Math.ListN.{set}
use Rattle.std.specs.List.{All, AllPairs}
use Rattle.std.specs.Str.{bytes_eq}
use Rattle.std.proofs.lemmas.Bool.{cond-false, cases_Bool, cases_eq, eqb-true, and_parts}
use Rattle.std.proofs.lemmas.Grind.{get_or-set_at}
use Rattle.std.proofs.lemmas.List.{get_or-set_other, length-set}
use Rattle.std.proofs.lemmas.List.Elements.{All-head, All-tail, All-cons}
use Rattle.std.proofs.lemmas.List.Kept.{AllPairs-cons}
use Rattle.vab_disk.specs.Disk.{Image, set_sector}
use Rattle.vab_disk.specs.Written.{set_here, set_there}
use Rattle.vab_marks.specs.declared.sector.MarkFault.{MarkFault}
use Rattle.vab_marks.specs.declared.sector.MarkFault.TheVariants.{BadMagic}
use Rattle.vab_marks.specs.declared.status.PartStatus.{PartStatus}
use Rattle.vab_marks.specs.Sector.{are_zeros}
use Rattle.vab_marks.specs.Status.{status_of}
use Rattle.vab_statuses.specs.Statuses.{IsOfStatuses, status_read, some_status}
use Rattle.vab_statuses.specs.Statuses.{entry_of}
use Rattle.vab_statuses.specs.Statuses.{go_on, statuses_from, statuses_in, statuses_of, no_statuses}
use Rattle.vab_statuses.specs.Statuses.{AreOther, NamesDiffer, written_in, status_named, is_named}
use Rattle.vab_statuses.specs.Statuses.{repeats, free_from, free_in, with_status, IsFirstFree}
use Rattle.vab_marks.proofs.StatusLaws.{zero_is_no_status}
use Rattle.vab_statuses.proofs.ReadLaws.{step_ok, from_end, from_begin, entry_only, others_of}
use Rattle.vab_statuses.proofs.ReadLaws.{read_more, differ_more}
use Rattle.vab_statuses.proofs.ReadLaws.{AreRead, IsListed, statuses_found, statuses_only}

-- ---- other sectors don't matter

from_same : (n : ℕ) (old new : Image) (done : List (Option PartStatus))
    → ((k : ℕ) → k < length done + n → new (2049 + k) ≡ old (2049 + k))
    → statuses_from n new done ≡ statuses_from n old done
unfolding statuses_from
from_same zero old new done same = refl
from_same (suc n) old new done same =
    let at : ℕ = 2049 + length done in
    let here : new at ≡ old at = same (length done) (omega arith) in
    let rest : (s : Option PartStatus)
    → statuses_from n new (done ++ s ∷ []) ≡ statuses_from n old (done ++ s ∷ []) =
    λ s. from_same n old new (done ++ s ∷ [])
    (λ k below. same k (omega (arith, below, length-append done (s ∷ [])))) in
    ap (λ (b : List ℕ). go_on (entry_of at done b) (λ s. statuses_from n new (done ++ s ∷ []))) here
    ∙ (λ i. go_on (entry_of at done (old at)) (λ s. rest s i))

pub statuses_first : (n : ℕ) (old new : Image)
    → ((k : ℕ) → k < n → new (2049 + k) ≡ old (2049 + k))
    → statuses_of n new ≡ statuses_of n old
unfolding statuses_of
statuses_first n old new same =
    from_same n old new [] (λ k below. same k (omega (arith, below)))

pub statuses_same : (old new : Image)
    → ((s : ℕ) → IsOfStatuses s → new s ≡ old s)
    → statuses_in new ≡ statuses_in old
statuses_same old new same =
    statuses_first 64 old new
    (λ k below. same (2049 + k) (record { from = omega arith; below = omega (arith, below) }))

-- ---- no status

read_blank : (bytes : List ℕ) → are_zeros bytes ≡ true → status_read bytes ≡ Ok None
read_blank bytes h = ap (λ (b : Bool). cond b (Ok None) (some_status (status_of bytes))) h

zeros_are : (n : ℕ) → are_zeros (replicate n 0) ≡ true
zeros_are zero = refl
zeros_are (suc n) = zeros_are n

from_blank : (n : ℕ) (image : Image) (done : List (Option PartStatus))
    → length done + n ≤ 64
    → ((s : ℕ) → IsOfStatuses s → image s ≡ replicate 512 0)
    → statuses_from n image done ≡ Ok (done ++ replicate n None)
from_blank zero image done fits blank =
    from_end image done ∙ ap (λ (l : List (Option PartStatus)). Ok l) (sym (append-nil done))
from_blank (suc n) image done fits blank =
    let at : ℕ = 2049 + length done in
    let here : image at ≡ replicate 512 0 =
    blank at (record { from = omega arith; below = omega arith }) in
    let one : List (Option PartStatus) = None ∷ [] in
    let zeros : are_zeros (image at) ≡ true = ap are_zeros here ∙ zeros_are 512 in
    step_ok n image done None
    (entry_only at done (image at) None (read_blank (image at) zeros) refl)
    ∙ from_blank n image (done ++ one) (omega (arith, fits, length-append done one)) blank
    ∙ ap (λ (l : List (Option PartStatus)). Ok l) (append_assoc done (None ∷ []) (replicate n None))

pub statuses_blank : (image : Image)
    → ((s : ℕ) → IsOfStatuses s → image s ≡ replicate 512 0)
    → statuses_in image ≡ Ok no_statuses
unfolding no_statuses
statuses_blank image blank = from_begin 64 image ∙ from_blank 64 image [] (omega arith) blank

-- ---- names

all_other : (s : PartStatus) (l : List (Option PartStatus))
    → All (AreOther (Some s)) l
    → All (λ (t : PartStatus). s.name ≢ t.name) (written_in l)
all_other s [] h = λ k d below. absurd (omega arith)
all_other s (None ∷ rest) h =
    all_other s rest (All-tail (AreOther (Some s)) None rest h)
all_other s (Some t ∷ rest) h =
    All-cons (λ (u : PartStatus). s.name ≢ u.name) t (written_in rest)
    (All-head (AreOther (Some s)) (Some t) rest h)
    (all_other s rest (All-tail (AreOther (Some s)) (Some t) rest h))

pairs_head : (x : Option PartStatus) (l : List (Option PartStatus))
    → NamesDiffer (x ∷ l)
    → All (AreOther x) l
pairs_head x l differ k d below = differ 0 (suc k) d (omega arith) (omega arith)

pairs_tail : (x : Option PartStatus) (l : List (Option PartStatus))
    → NamesDiffer (x ∷ l)
    → NamesDiffer l
pairs_tail x l differ i j d lt below = differ (suc i) (suc j) d (omega arith) (omega arith)

-- so do the names of the statuses that there are
pub names_differ : (l : List (Option PartStatus))
    → NamesDiffer l
    → AllPairs (λ (a b : PartStatus). a.name ≢ b.name) (written_in l)
names_differ [] h = λ i j d lt below. absurd (omega arith)
names_differ (None ∷ rest) h = names_differ rest (pairs_tail None rest h)
names_differ (Some s ∷ rest) h =
    AllPairs-cons (λ (a b : PartStatus). a.name ≢ b.name) s (written_in rest)
    (all_other s rest (pairs_head (Some s) rest h))
    (names_differ rest (pairs_tail (Some s) rest h))

test_none : (b : Bool) (s : PartStatus) (o : Option PartStatus)
    → cond b (Some s) o ≡ None
    → (b ≡ false) × (o ≡ None)
test_none true s o h = absurd cc
test_none false s o h = (refl, h)

-- no status has the name
pub named_none : (name : List ℕ) (l : List (Option PartStatus))
    → status_named name (written_in l) ≡ None
    → is_named name l ≡ false
named_none name [] h = refl
named_none name (None ∷ rest) h = named_none name rest h
named_none name (Some s ∷ rest) h =
    let t = test_none (bytes_eq s.name name) s (status_named name (written_in rest)) h in
    let later : is_named name rest ≡ false = named_none name rest t.1 in
    let first : bytes_eq s.name name ≡ false = t.0 in
    ap (λ (b : Bool). b || is_named name rest) first ∙ later

-- ---- the first free sector

abbrev IsWritten : Option PartStatus → Type 0
IsWritten None = ⊥
IsWritten (Some s) = Unit {0}

found_free : (at : ℕ) (l : List (Option PartStatus)) (k : ℕ)
    → k < length l
    → get_or l k None ≡ None
    → ((j : ℕ) → j < k → IsWritten (get_or l j None))
    → free_from at l ≡ Some (at + k)
found_free at [] k below here before = absurd (omega arith)
found_free at (None ∷ rest) zero below here before = ap (λ (n : ℕ). Some n) (omega arith)
found_free at (None ∷ rest) (suc k) below here before = absurd (before 0 (omega arith))
found_free at (Some s ∷ rest) zero below here before = absurd cc
found_free at (Some s ∷ rest) (suc k) below here before =
    found_free (at + 1) rest k (omega arith) here (λ j lt. before (suc j) (omega arith))
    ∙ ap (λ (n : ℕ). Some n) (omega arith)

found_none : (at : ℕ) (l : List (Option PartStatus))
    → ((j : ℕ) → j < length l → IsWritten (get_or l j None))
    → free_from at l ≡ None
found_none at [] all = refl
found_none at (None ∷ rest) all = absurd (all 0 (omega arith))
found_none at (Some s ∷ rest) all =
    found_none (at + 1) rest (λ j lt. all (suc j) (omega arith))

blank_none : (bytes : List ℕ) (o : Option PartStatus)
    → are_zeros bytes ≡ true
    → status_read bytes ≡ Ok o
    → o ≡ None
blank_none bytes o zeros read =
    let none : status_read bytes ≡ Ok None = read_blank bytes zeros in cc

status_some : (r : Result PartStatus MarkFault) (o : Option PartStatus)
    → some_status r ≡ Ok o
    → IsWritten o
status_some (Ok s) o h =
    let is : Some s ≡ o = cc in subst (λ (x : Option PartStatus). IsWritten x) is tt
status_some (Err fault) o h = absurd cc

written_some : (bytes : List ℕ) (o : Option PartStatus)
    → are_zeros bytes ≡ false
    → status_read bytes ≡ Ok o
    → IsWritten o
written_some bytes o some read =
    let else_read : Result (Option PartStatus) MarkFault = some_status (status_of bytes) in
    status_some (status_of bytes) o
    (sym (cond-false (are_zeros bytes) (Ok None) else_read some) ∙ read)

-- the first sector of zeros is the first without a status
pub first_is_free : (image : Image) (l : List (Option PartStatus)) (o : Option ℕ)
    → statuses_in image ≡ Ok l
    → IsFirstFree image o
    → o ≡ free_in l
first_is_free image l None h none =
    let is = statuses_found 64 image l h in
    sym (found_none 2049 l (λ j lt.
    written_some (image (2049 + j)) (get_or l j None)
    (none (2049 + j) (record { from = omega arith; below = omega (arith, is.all) }))
    (is.read j lt)))
first_is_free image l (Some at) h (there, zeros, before) =
    let is = statuses_found 64 image l h in
    let k : ℕ = at - 2049 in
    let same : 2049 + k ≡ at = omega (arith, there.from) in
    let below : k < length l = omega (arith, is.all, there.below) in
    let here : are_zeros (image (2049 + k)) ≡ true =
    ap (λ (s : ℕ). are_zeros (image s)) same ∙ zeros in
    ap (λ (n : ℕ). Some n) (sym same)
    ∙ sym (found_free 2049 l k below
    (blank_none (image (2049 + k)) (get_or l k None) here (is.read k below))
    (λ j lt.
    written_some (image (2049 + j)) (get_or l j None)
    (before (2049 + j) (record { from = omega arith; below = omega (arith, same) }))
    (is.read j (omega arith))))

pub record IsFreeAt (at : ℕ) (l : List (Option PartStatus)) (found : ℕ) : Type 0 where
  pub place : ℕ
  pub within : place < length l
  pub is : found ≡ at + place
  pub free : get_or l place None ≡ None

-- a free sector has no status
pub free_is : (at : ℕ) (l : List (Option PartStatus)) (found : ℕ)
    → free_from at l ≡ Some found
    → IsFreeAt at l found
free_is at [] found h = absurd cc
free_is at (None ∷ rest) found h =
    let same : at ≡ found = cc in
    record { place = 0; within = omega arith; is = omega arith; free = refl }
free_is at (Some s ∷ rest) found h =
    let later : IsFreeAt (at + 1) rest found = free_is (at + 1) rest found h in
    record { place = suc later.place; within = omega arith; is = omega arith; free = later.free }

-- ---- a status that is put

first_zero : (bytes : List ℕ) → are_zeros bytes ≡ true → get_or bytes 0 0 ≡ 0
first_zero [] h = refl
first_zero (x ∷ xs) h = eqb-true x 0 (and_parts (eqb x 0) (are_zeros xs) h).0

-- a status is not all zeros
spelled_read : (bytes : List ℕ) (s : PartStatus)
    → status_of bytes ≡ Ok s
    → status_read bytes ≡ Ok (Some s)
spelled_read bytes s h = elim (cases_Bool (are_zeros bytes)) [
  | inl zeros ↦
      let none : status_of bytes ≡ Err BadMagic =
      zero_is_no_status bytes (first_zero bytes zeros) in
      absurd cc
  | inr some ↦
      let else_read : Result (Option PartStatus) MarkFault = some_status (status_of bytes) in
      cond-false (are_zeros bytes) (Ok None) else_read some ∙ ap some_status h
]

other_turned : (x : Option PartStatus) (s : PartStatus) → AreOther x (Some s) → AreOther (Some s) x
other_turned None s h = tt
other_turned (Some a) s h = λ same. h (sym same)

put_differ : (l : List (Option PartStatus)) (k : ℕ) (s : PartStatus)
    → k < length l
    → NamesDiffer l
    → ((j : ℕ) (d : Option PartStatus) → j < length l → AreOther (get_or l j d) (Some s))
    → NamesDiffer (set l k (Some s))
put_differ l k s there differ others i j d lt below =
    let long : length (set l k (Some s)) ≡ length l = length-set l k (Some s) in
    let in_l : j < length l = omega (arith, long) in
    elim (cases_eq i k) [
      | inl first ↦
          let other : j ≢ k = omega arith in
          let a : get_or (set l k (Some s)) i d ≡ Some s =
          get_or-set_at l k i (Some s) d first there in
          let b : get_or (set l k (Some s)) j d ≡ get_or l j d =
          get_or-set_other l k j (Some s) d other in
          subst (λ (o : Option PartStatus). AreOther o (get_or (set l k (Some s)) j d)) (sym a)
          (subst (λ (o : Option PartStatus). AreOther (Some s) o) (sym b)
          (other_turned (get_or l j d) s (others j d in_l)))
      | inr not_first ↦
          let a : get_or (set l k (Some s)) i d ≡ get_or l i d =
          get_or-set_other l k i (Some s) d not_first in
          subst (λ (o : Option PartStatus). AreOther o (get_or (set l k (Some s)) j d)) (sym a)
          (elim (cases_eq j k) [
            | inl second ↦
                let b : get_or (set l k (Some s)) j d ≡ Some s =
                get_or-set_at l k j (Some s) d second there in
                subst (λ (o : Option PartStatus). AreOther (get_or l i d) o) (sym b)
                (others i d (omega (arith, in_l)))
            | inr neither ↦
                let b : get_or (set l k (Some s)) j d ≡ get_or l j d =
                get_or-set_other l k j (Some s) d neither in
                subst (λ (o : Option PartStatus). AreOther (get_or l i d) o) (sym b)
                (differ i j d lt in_l)
          ])
    ]

put_read : (image : Image) (bytes : List ℕ) (l : List (Option PartStatus)) (k : ℕ) (s : PartStatus)
    → k < length l
    → AreRead image l
    → status_of bytes ≡ Ok s
    → AreRead (set_sector image (2049 + k) bytes) (set l k (Some s))
put_read image bytes l k s there read h j below =
    let long : length (set l k (Some s)) ≡ length l = length-set l k (Some s) in
    let in_l : j < length l = omega (arith, long) in
    elim (cases_eq j k) [
      | inl here ↦
          let new : set_sector image (2049 + k) bytes (2049 + j) ≡ bytes =
          set_here image (2049 + k) bytes (2049 + j) (omega arith) in
          ap status_read new
          ∙ spelled_read bytes s h
          ∙ ap (λ (o : Option PartStatus). Ok o)
          (sym (get_or-set_at l k j (Some s) None here there))
      | inr other ↦
          let old : set_sector image (2049 + k) bytes (2049 + j) ≡ image (2049 + j) =
          set_there image (2049 + k) bytes (2049 + j) (omega arith) in
          ap status_read old
          ∙ read j in_l
          ∙ ap (λ (o : Option PartStatus). Ok o) (sym (get_or-set_other l k j (Some s) None other))
    ]

-- in the first free sector it joins the others
pub statuses_put : (image : Image) (bytes : List ℕ) (l : List (Option PartStatus)) (at : ℕ)
    (s : PartStatus)
    → statuses_in image ≡ Ok l
    → free_in l ≡ Some at
    → status_named s.name (written_in l) ≡ None
    → status_of bytes ≡ Ok s
    → statuses_in (set_sector image at bytes) ≡ Ok (with_status l at s)
statuses_put image bytes l at s h free new read =
    let is : IsListed 64 image l = statuses_found 64 image l h in
    let place : IsFreeAt 2049 l at = free_is 2049 l at free in
    let k : ℕ = place.place in
    let same : at ≡ 2049 + k = place.is in
    let also : at - 2049 ≡ k = omega (arith, same) in
    let none : repeats (Some s) l ≡ false = named_none s.name l new in
    let put : IsListed 64 (set_sector image (2049 + k) bytes) (set l k (Some s)) = record {
      all = length-set l k (Some s) ∙ is.all;
      read = put_read image bytes l k s place.within is.read read;
      differ = put_differ l k s place.within is.differ (others_of (Some s) l none);
    } in
    ap (λ (a : ℕ). statuses_in (set_sector image a bytes)) same
    ∙ statuses_only 64 (set_sector image (2049 + k) bytes) (set l k (Some s)) put
    ∙ ap (λ (j : ℕ). Ok (set l j (Some s))) (sym also)

-- ---- more sectors are read

-- so many sectors more, all zeros, hold no status
none_more : (n : ℕ) (image : Image) (l : List (Option PartStatus))
    → IsListed (length l) image l
    → ((k : ℕ) → length l ≤ k → k < length l + n → are_zeros (image (2049 + k)) ≡ true)
    → IsListed (length l + n) image (l ++ replicate n None)
none_more zero image l is blank =
    let all : length l ≡ length l + 0 = omega arith in
    subst (λ (t : List (Option PartStatus)). IsListed (length l + 0) image t) (sym (append-nil l))
    (subst (λ (n : ℕ). IsListed n image l) all is)
none_more (suc n) image l is blank =
    let one : List (Option PartStatus) = None ∷ [] in
    let long : length (l ++ one) ≡ suc (length l) = length-append l one ∙ omega arith in
    let here : status_read (image (2049 + length l)) ≡ Ok None =
    read_blank (image (2049 + length l)) (blank (length l) (omega arith) (omega arith)) in
    let more : IsListed (length (l ++ one)) image (l ++ one) = record {
      all = refl;
      read = read_more image l None is.read here;
      differ = differ_more None l refl is.differ;
    } in
    let rest : IsListed (length (l ++ one) + n) image ((l ++ one) ++ replicate n None) =
    none_more n image (l ++ one) more
    (λ k from below. blank k (omega (arith, from, long)) (omega (arith, below, long))) in
    let count : length (l ++ one) + n ≡ length l + suc n = omega (arith, long) in
    subst (λ (t : List (Option PartStatus)). IsListed (length l + suc n) image t)
    (append_assoc l one (replicate n None))
    (subst (λ (m : ℕ). IsListed m image ((l ++ one) ++ replicate n None)) count rest)

-- the statuses of the first 32 sectors, where those behind them are zeros, are all
pub statuses_longer : (old new : Image) (l : List (Option PartStatus))
    → statuses_of 32 old ≡ Ok l
    → ((k : ℕ) → k < 32 → new (2049 + k) ≡ old (2049 + k))
    → ((k : ℕ) → 32 ≤ k → k < 64 → are_zeros (new (2049 + k)) ≡ true)
    → statuses_in new ≡ Ok (l ++ replicate 32 None)
statuses_longer old new l h same blank =
    let is : IsListed 32 old l = statuses_found 32 old l h in
    let long : 32 ≡ length l = sym is.all in
    let now : IsListed 32 new l = record {
      all = is.all;
      read = λ k below.
          ap status_read (same k (omega (arith, below, is.all))) ∙ is.read k below;
      differ = is.differ;
    } in
    let all : IsListed (length l + 32) new (l ++ replicate 32 None) =
    none_more 32 new l (subst (λ (n : ℕ). IsListed n new l) long now)
    (λ k from below. blank k (omega (arith, from, is.all)) (omega (arith, below, is.all))) in
    let count : length l + 32 ≡ 64 = omega (arith, is.all) in
    statuses_only 64 new (l ++ replicate 32 None)
    (subst (λ (n : ℕ). IsListed n new (l ++ replicate 32 None)) count all)

pub written_longer : (l : List (Option PartStatus)) (n : ℕ)
    → written_in (l ++ replicate n None) ≡ written_in l
written_longer [] zero = refl
written_longer [] (suc n) = written_longer [] n
written_longer (None ∷ l) n = written_longer l n
written_longer (Some s ∷ l) n = ap (λ (t : List PartStatus). s ∷ t) (written_longer l n)
