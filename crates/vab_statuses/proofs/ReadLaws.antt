-- One sector after another.
use Rattle.std.proofs.Common.{◌≡◌, ℕ, zero, suc, ◌+◌, ◌-◌, ◌<◌, Bool, true, false, cond}
use Rattle.std.proofs.Common.{List, [], ◌∷◌, ◌++◌, length, get_or, Option, Some, None, Result, Ok}
use Rattle.std.proofs.Common.{Err}
use Rattle.std.proofs.Common.{inl, inr, refl, sym, ap, ◌∙◌, subst, arith, append_assoc, append-nil}
use Rattle.std.proofs.Common.{length-append}
use Rattle.std.proofs.Math.ListN.{get_or-append}
use Rattle.std.proofs.Math.Seq.{get_or-append_seam}
use Rattle.std.specs.Str.{bytes_eq}
use Rattle.std.specs.List.{list_any}
use Rattle.std.proofs.lemmas.Bool.{both_ways, false_from_ne_true, cond-false, cases_lt}
use Rattle.std.proofs.lemmas.List.Folds.{list_any_at, list_any_none}
use Rattle.std.proofs.lemmas.List.Quantifiers.{all_pairs_push}
use Rattle.std.proofs.lemmas.Slice.Eq.{bytes_eq-Decides}
use Rattle.vab_disk.specs.Disk.{Image}
use Rattle.vab_marks.specs.declared.sector.MarkFault.{MarkFault}
use Rattle.vab_marks.specs.declared.status.PartStatus.{PartStatus}
use Rattle.vab_statuses.specs.Statuses.{has_name, repeats, AreOther, NamesDiffer}
use Rattle.vab_statuses.specs.Statuses.{status_read, entry_read, entry_of, go_on}
use Rattle.vab_statuses.specs.Statuses.{statuses_from, statuses_of}
use Rattle.vab_statuses.specs.declared.fault.StatusFault.{StatusFault}
use Rattle.vab_statuses.specs.declared.fault.StatusFault.TheVariants.{Bad, Disk}
use Rattle.vab_statuses.specs.Answers.{TellsBad}

-- ---- names

other_none : (x : Option PartStatus) → AreOther x None
other_none None = tt
other_none (Some a) = tt

other_some : (x : Option PartStatus) (s : PartStatus) → has_name s.name x ≡ false
    → AreOther x (Some s)
other_some None s h = tt
other_some (Some a) s h =
    λ same. both_ways (bytes_eq a.name s.name) h ((bytes_eq-Decides a.name s.name).1 same)

named_not : (x : Option PartStatus) (s : PartStatus) → AreOther x (Some s)
    → has_name s.name x ≡ false
named_not None s h = refl
named_not (Some a) s h =
    false_from_ne_true (bytes_eq a.name s.name) (λ t. h ((bytes_eq-Decides a.name s.name).0 t))

-- a status that repeats none of these is of another partition than each
pub others_of : (e : Option PartStatus) (done : List (Option PartStatus))
    → repeats e done ≡ false
    → (k : ℕ) (d : Option PartStatus)
    → k < length done
    → AreOther (get_or done k d) e
others_of None done h k d below = other_none (get_or done k d)
others_of (Some s) done h k d below =
    other_some (get_or done k d) s
    (false_from_ne_true (has_name s.name (get_or done k d))
    (λ t. both_ways (list_any (has_name s.name) done) h
    (list_any_at (has_name s.name) done k d below t)))

pub repeats_not : (e : Option PartStatus) (done : List (Option PartStatus))
    → ((k : ℕ) (d : Option PartStatus) → k < length done → AreOther (get_or done k d) e)
    → repeats e done ≡ false
repeats_not None done others = refl
repeats_not (Some s) done others =
    list_any_none (has_name s.name) done
    (λ (k : ℕ) (d : Option PartStatus) below. named_not (get_or done k d) s (others k d below))

pub differ_more : (e : Option PartStatus) (done : List (Option PartStatus))
    → repeats e done ≡ false
    → NamesDiffer done
    → NamesDiffer (done ++ e ∷ [])
differ_more e done h differ = all_pairs_push AreOther done e differ (others_of e done h)

-- ---- a sector

picked : (b : Bool) (at : ℕ) (x e : Option PartStatus)
    → cond b (Err at) (Ok x) ≡ Ok e
    → (b ≡ false) × (x ≡ e)
picked true at x e h = absurd cc
picked false at x e h = (refl, cc)

read_found : (at : ℕ) (done : List (Option PartStatus)) (r : Result (Option PartStatus) MarkFault)
    (e : Option PartStatus)
    → entry_read at done r ≡ Ok e
    → (r ≡ Ok e) × (repeats e done ≡ false)
read_found at done (Err fault) e h = absurd cc
read_found at done (Ok x) e h =
    let p = picked (repeats x done) at x e h in (
      ap (λ (o : Option PartStatus). Ok o) p.1,
      subst (λ (o : Option PartStatus). repeats o done ≡ false) p.1 p.0,
    )

pub entry_found : (at : ℕ) (done : List (Option PartStatus)) (bytes : List ℕ)
    (e : Option PartStatus)
    → entry_of at done bytes ≡ Ok e
    → (status_read bytes ≡ Ok e) × (repeats e done ≡ false)
entry_found at done bytes e h = read_found at done (status_read bytes) e h

pub entry_only : (at : ℕ) (done : List (Option PartStatus)) (bytes : List ℕ)
    (e : Option PartStatus)
    → status_read bytes ≡ Ok e
    → repeats e done ≡ false
    → entry_of at done bytes ≡ Ok e
entry_only at done bytes e read other =
    ap (entry_read at done) read ∙ cond-false (repeats e done) (Err at) (Ok e) other

-- ---- the next sector

pub step_ok : (n : ℕ) (image : Image) (done : List (Option PartStatus)) (e : Option PartStatus)
    → entry_of (2049 + length done) done (image (2049 + length done)) ≡ Ok e
    → statuses_from (suc n) image done ≡ statuses_from n image (done ++ e ∷ [])
unfolding statuses_from
step_ok n image done e h =
    ap (λ (r : Result (Option PartStatus) ℕ). go_on r (λ s. statuses_from n image (done ++ s ∷ [])))
    h

pub step_err : (n : ℕ) (image : Image) (done : List (Option PartStatus)) (at : ℕ)
    → entry_of (2049 + length done) done (image (2049 + length done)) ≡ Err at
    → statuses_from (suc n) image done ≡ Err at
unfolding statuses_from
step_err n image done at h =
    ap (λ (r : Result (Option PartStatus) ℕ). go_on r (λ s. statuses_from n image (done ++ s ∷ [])))
    h

went_on : (r : Result (Option PartStatus) ℕ)
    (f : Option PartStatus → Result (List (Option PartStatus)) ℕ) (l : List (Option PartStatus))
    → go_on r f ≡ Ok l
    → (e : Option PartStatus) × (r ≡ Ok e) × (f e ≡ Ok l)
went_on (Ok e) f l h = (e, refl, h)
went_on (Err at) f l h = absurd cc

pub step_found : (n : ℕ) (image : Image) (done l : List (Option PartStatus))
    → statuses_from (suc n) image done ≡ Ok l
    → (e : Option PartStatus)
    × (entry_of (2049 + length done) done (image (2049 + length done)) ≡ Ok e)
    × (statuses_from n image (done ++ e ∷ []) ≡ Ok l)
unfolding statuses_from
step_found n image done l h =
    went_on (entry_of (2049 + length done) done (image (2049 + length done)))
    (λ s. statuses_from n image (done ++ s ∷ [])) l h

-- ---- the sectors from the beginning

pub from_begin : (count : ℕ) (image : Image)
    → statuses_of count image ≡ statuses_from count image []
unfolding statuses_of
from_begin count image = refl

pub from_end : (image : Image) (done : List (Option PartStatus))
    → statuses_from 0 image done ≡ Ok done
unfolding statuses_from
from_end image done = refl

-- each has what its sector says
abbrev pub AreRead : Image → List (Option PartStatus) → Type 0
AreRead image l = (k : ℕ) → k < length l → status_read (image (2049 + k)) ≡ Ok (get_or l k None)

pub read_more : (image : Image) (done : List (Option PartStatus)) (e : Option PartStatus)
    → AreRead image done
    → status_read (image (2049 + length done)) ≡ Ok e
    → AreRead image (done ++ e ∷ [])
read_more image done e read here k below = elim (cases_lt k (length done)) [
  | inl before ↦
      read k before
      ∙ ap (λ (o : Option PartStatus). Ok o) (sym (get_or-append done (e ∷ []) None k before))
  | inr last ↦
      let is : length done ≡ k = omega (arith, last, below, length-append done (e ∷ [])) in
      let there : status_read (image (2049 + length done)) ≡ Ok
      (get_or (done ++ e ∷ []) (length done) None) =
      here ∙ ap (λ (o : Option PartStatus). Ok o) (sym (get_or-append_seam done e [] None)) in
      subst (λ (j : ℕ). status_read (image (2049 + j)) ≡ Ok (get_or (done ++ e ∷ []) j None)) is
      there
]

-- what the sectors hold, said of each
pub record IsListed (n : ℕ) (image : Image) (l : List (Option PartStatus)) : Type 0 where
  pub all : length l ≡ n
  pub read : AreRead image l
  pub differ : NamesDiffer l

ok_same : (a b : List (Option PartStatus)) (r : Result (List (Option PartStatus)) ℕ)
    → r ≡ Ok a
    → r ≡ Ok b
    → a ≡ b
ok_same a b r is also = cc

from_found : (n : ℕ) (image : Image) (done l : List (Option PartStatus))
    → AreRead image done
    → NamesDiffer done
    → statuses_from n image done ≡ Ok l
    → IsListed (length done + n) image l
from_found zero image done l read differ h =
    let same : done ≡ l = ok_same done l (statuses_from 0 image done) (from_end image done) h in
    subst (IsListed (length done + 0) image) same
    (record { all = omega arith; read = read; differ = differ })
from_found (suc n) image done l read differ h =
    let s = step_found n image done l h in
    let e = entry_found (2049 + length done) done (image (2049 + length done)) s.0 s.1 in
    let rest : IsListed (length (done ++ s.0 ∷ []) + n) image l =
    from_found n image (done ++ s.0 ∷ []) l (read_more image done s.0 read e.0)
    (differ_more s.0 done e.1 differ) s.2 in
    let more : length (done ++ s.0 ∷ []) + n ≡ length done + suc n =
    omega (arith, length-append done (s.0 ∷ [])) in
    subst (λ (k : ℕ). IsListed k image l) more rest

pub none_differ : NamesDiffer []
none_differ i j d lt below = absurd (omega arith)

pub statuses_found : (count : ℕ) (image : Image) (l : List (Option PartStatus))
    → statuses_of count image ≡ Ok l
    → IsListed count image l
statuses_found count image l h =
    let all : 0 + count ≡ count = omega arith in
    subst (λ (n : ℕ). IsListed n image l) all
    (from_found count image [] l (λ k below. absurd (omega arith)) none_differ
    (sym (from_begin count image) ∙ h))

from_only : (n : ℕ) (image : Image) (done rest : List (Option PartStatus))
    → length rest ≡ n
    → AreRead image (done ++ rest)
    → NamesDiffer (done ++ rest)
    → statuses_from n image done ≡ Ok (done ++ rest)
from_only zero image done [] all read differ =
    from_end image done ∙ ap (λ (l : List (Option PartStatus)). Ok l) (sym (append-nil done))
from_only zero image done (e ∷ rest) all read differ = absurd (omega (arith, all))
from_only (suc n) image done [] all read differ = absurd (omega (arith, all))
from_only (suc n) image done (e ∷ rest) all read differ =
    let whole : List (Option PartStatus) = done ++ e ∷ rest in
    let long : length whole ≡ length done + suc (length rest) = length-append done (e ∷ rest) in
    let here : status_read (image (2049 + length done)) ≡ Ok e =
    read (length done) (omega (arith, long))
    ∙ ap (λ (o : Option PartStatus). Ok o) (get_or-append_seam done e rest None) in
    let other : repeats e done ≡ false =
    repeats_not e done (λ k d below.
    subst (λ (o : Option PartStatus). AreOther (get_or done k d) o)
    (get_or-append_seam done e rest d)
    (subst (λ (o : Option PartStatus). AreOther o (get_or whole (length done) d))
    (get_or-append done (e ∷ rest) d k below)
    (differ k (length done) d below (omega (arith, long))))) in
    let joined : (done ++ e ∷ []) ++ rest ≡ whole = append_assoc done (e ∷ []) rest in
    step_ok n image done e
    (entry_only (2049 + length done) done (image (2049 + length done)) e here other)
    ∙ from_only n image (done ++ e ∷ []) rest (omega (arith, all))
    (subst (AreRead image) (sym joined) read) (subst NamesDiffer (sym joined) differ)
    ∙ ap (λ (l : List (Option PartStatus)). Ok l) joined

pub statuses_only : (count : ℕ) (image : Image) (l : List (Option PartStatus))
    → IsListed count image l
    → statuses_of count image ≡ Ok l
statuses_only count image l is =
    from_begin count image ∙ from_only count image [] l is.all is.read is.differ

-- ---- a loop over the sectors

pub left_ok : (count i : ℕ) (image : Image) (done : List (Option PartStatus))
    (e : Option PartStatus)
    → i < count
    → length done ≡ i
    → statuses_of count image ≡ statuses_from (count - i) image done
    → entry_of (2049 + i) done (image (2049 + i)) ≡ Ok e
    → statuses_of count image ≡ statuses_from (count - (i + 1)) image (done ++ e ∷ [])
left_ok count i image done e below long so_far h =
    let one : count - i ≡ suc (count - (i + 1)) = omega arith in
    so_far
    ∙ ap (λ (k : ℕ). statuses_from k image done) one
    ∙ step_ok (count - (i + 1)) image done e
    (subst (λ (k : ℕ). entry_of (2049 + k) done (image (2049 + k)) ≡ Ok e) (sym long) h)

pub left_err : (count i : ℕ) (image : Image) (done : List (Option PartStatus)) (at : ℕ)
    → i < count
    → length done ≡ i
    → statuses_of count image ≡ statuses_from (count - i) image done
    → entry_of (2049 + i) done (image (2049 + i)) ≡ Err at
    → statuses_of count image ≡ Err at
left_err count i image done at below long so_far h =
    let one : count - i ≡ suc (count - (i + 1)) = omega arith in
    so_far
    ∙ ap (λ (k : ℕ). statuses_from k image done) one
    ∙ step_err (count - (i + 1)) image done at
    (subst (λ (k : ℕ). entry_of (2049 + k) done (image (2049 + k)) ≡ Err at) (sym long) h)

pub left_bad : (count i : ℕ) (image : Image) (done : List (Option PartStatus)) (f : StatusFault)
    → i < count
    → length done ≡ i
    → statuses_of count image ≡ statuses_from (count - i) image done
    → TellsBad (entry_of (2049 + i) done (image (2049 + i))) f
    → TellsBad (statuses_of count image) f
left_bad count i image done (Bad at) below long so_far h =
    left_err count i image done at below long so_far h
left_bad count i image done (Disk fault) below long so_far h = tt
