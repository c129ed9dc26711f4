-- One status more, and the store that it names among those that are read.
use Rattle.std.proofs.Common.{◌≡◌, ◌∙◌, inl, inr, ℕ, zero, suc, ◌-◌, ◌<◌, List, [], ◌∷◌, ◌++◌}
use Rattle.std.proofs.Common.{length, get_or, set, cond, Result, Ok, Err, refl, sym, ap, subst}
use Rattle.std.proofs.Common.{arith}
use Rattle.std.specs.Prelude.{◌&&◌, Bool, true, false, Option, Some, None, map, All}
use Rattle.std.specs.Str.{bytes_eq}
use Rattle.std.proofs.lemmas.Bool.{cases_Bool}
use Rattle.std.proofs.lemmas.List.Elements.{All-cons}
use Rattle.vab_disk.specs.Disk.{Image}
use Rattle.vab_marks.specs.declared.status.PartStatus.{PartStatus}
use Rattle.vab_marks.specs.declared.status.StatusImage.{StatusImage}
use Rattle.vab_marks.specs.declared.status.StatusImage.TheVariants.{Stored, InPlace}
use Rattle.vab_statuses.specs.Statuses.{written_in, status_named, with_status, free_in}
use Rattle.vab_exceptions.specs.declared.area.Exception.{Exception}
use Rattle.vab_store.specs.declared.fault.StoreFault.{StoreFault}
use Rattle.vab_store.specs.Scan.{scan_of}
use Rattle.vab_names.specs.Names.{store_of}
use Rattle.vab_layout.specs.declared.layout.Part.{Part as PartOfLayout}
use Rattle.vab_layout.specs.declared.layout.Layout.{Layout}
use Rattle.vab_layout.specs.Slots.{own_parts}
use Rattle.vab_device.specs.declared.fault.StartFault.{StartFault}
use Rattle.vab_device.specs.declared.fault.StartFault.TheVariants.{BadStore}
use Rattle.vab_device.specs.Checks.{◌>>=◌}
use Rattle.vab_device.specs.Stores.{Wanted, Scanned, first_named, image_wanted, wanted_of, is_long}
use Rattle.vab_device.specs.Stores.{scan_read, scan_by}
use Rattle.vab_device.specs.Stores.{scan_at, scans_in, scanned_named}
use Rattle.vab_device.proofs.CheckLaws.{bound}
use Rattle.vab_device.proofs.NamedParts.{named_in}
use Rattle.vab_flash.proofs.FewLaws.{IsNamed, named_in_list}
use Rattle.vab_statuses.proofs.StatusesLaws.{IsFreeAt}
use Rattle.vab_statuses.proofs.StatusesLaws.{free_is}
use Rattle.vab_device.proofs.StoreLaws.{clean_taken}
use Rattle.vab_device.specs.Stores.{is_one}

-- ---- the statuses

-- one status more stands somewhere among the others
pub record IsJoined (was is : List PartStatus) (s : PartStatus) : Type 0 where
  pub before : List PartStatus
  pub behind : List PartStatus
  pub others : was ≡ before ++ behind
  pub all : is ≡ before ++ s ∷ behind

set_joins : (l : List (Option PartStatus)) (k : ℕ) (s : PartStatus)
    → k < length l
    → get_or l k None ≡ None
    → IsJoined (written_in l) (written_in (set l k (Some s))) s
set_joins [] k s below free = absurd (omega (arith, below))
set_joins (None ∷ rest) zero s below free =
    record { before = []; behind = written_in rest; others = refl; all = refl }
set_joins (Some x ∷ rest) zero s below free = absurd cc
set_joins (None ∷ rest) (suc k) s below free = set_joins rest k s (omega (arith, below)) free
set_joins (Some x ∷ rest) (suc k) s below free =
    let later : IsJoined (written_in rest) (written_in (set rest k (Some s))) s =
    set_joins rest k s (omega (arith, below)) free in
    record {
      before = x ∷ later.before;
      behind = later.behind;
      others = ap (λ (l : List PartStatus). x ∷ l) later.others;
      all = ap (λ (l : List PartStatus). x ∷ l) later.all;
    }

-- in the first free sector a status joins the others
pub status_joins : (l : List (Option PartStatus)) (at : ℕ) (s : PartStatus)
    → free_in l ≡ Some at
    → IsJoined (written_in l) (written_in (with_status l at s)) s
status_joins l at s free =
    let place : IsFreeAt 2049 l at = free_is 2049 l at free in
    let k : ℕ = place.place in
    let also : k ≡ at - 2049 = omega (arith, place.is) in
    subst (λ (j : ℕ). IsJoined (written_in l) (written_in (set l j (Some s))) s) also
    (set_joins l k s place.within place.free)

-- ---- the stores

-- what is read of two lists of stores
pub record ScansBoth (first second : List (Result Wanted StartFault)) (image : Image)
    (ss : List Scanned) : Type 0 where
  pub before : List Scanned
  pub behind : List Scanned
  pub both : ss ≡ before ++ behind
  pub of_first : scans_in first image ≡ Ok before
  pub of_second : scans_in second image ≡ Ok behind

pub scans_apart : (first second : List (Result Wanted StartFault)) (image : Image)
    (ss : List Scanned)
    → scans_in (first ++ second) image ≡ Ok ss
    → ScansBoth first second image ss
scans_apart [] second image ss is =
    record { before = []; behind = ss; both = refl; of_first = refl; of_second = is }
scans_apart (Err fault ∷ ws) second image ss is =
    absurd (let bad : (let r : Result (List Scanned) StartFault = Err fault in r ≡ Ok ss) = is in
    cc)
scans_apart (Ok w ∷ ws) second image ss is =
    let one = bound (scan_at w image)
    (λ s. scans_in (ws ++ second) image >>= λ rest. Ok (s ∷ rest)) ss is in
    let more = bound (scans_in (ws ++ second) image) (λ rest. Ok (one.0 ∷ rest)) ss one.2 in
    let later : ScansBoth ws second image more.0 = scans_apart ws second image more.0 more.1 in
    let whole : Ok (one.0 ∷ more.0) ≡ Ok ss = more.2 in
    let same : one.0 ∷ more.0 ≡ ss = cc in
    let here : scan_at w image ≡ Ok one.0 = one.1 in
    record {
      before = one.0 ∷ later.before;
      behind = later.behind;
      both = sym same ∙ ap (λ (l : List Scanned). one.0 ∷ l) later.both;
      of_first = (λ i. here i >>= λ s. later.of_first i >>= λ rest. Ok (s ∷ rest));
      of_second = later.of_second;
    }

pub scans_together : (first second : List (Result Wanted StartFault)) (image : Image)
    (before behind : List Scanned)
    → scans_in first image ≡ Ok before
    → scans_in second image ≡ Ok behind
    → scans_in (first ++ second) image ≡ Ok (before ++ behind)
scans_together [] second image before behind one two =
    let none : Ok [] ≡ Ok before = one in
    let same : [] ≡ before = cc in
    two ∙ ap (λ (l : List Scanned). Ok (l ++ behind)) same
scans_together (Err fault ∷ ws) second image before behind one two =
    absurd (let bad : (let r : Result (List Scanned) StartFault = Err fault in r ≡ Ok before) = one
    in cc)
scans_together (Ok w ∷ ws) second image before behind one two =
    let first = bound (scan_at w image)
    (λ s. scans_in ws image >>= λ rest. Ok (s ∷ rest)) before one in
    let more = bound (scans_in ws image) (λ rest. Ok (first.0 ∷ rest)) before first.2 in
    let later : scans_in (ws ++ second) image ≡ Ok (more.0 ++ behind) =
    scans_together ws second image more.0 behind more.1 two in
    let whole : Ok (first.0 ∷ more.0) ≡ Ok before = more.2 in
    let same : first.0 ∷ more.0 ≡ before = cc in
    let here : scan_at w image ≡ Ok first.0 = first.1 in
    (λ i. here i >>= λ s. later i >>= λ rest. Ok (s ∷ rest))
    ∙ ap (λ (l : List Scanned). Ok (l ++ behind)) same

-- ---- the exceptions of a partition

-- that of another name changes nothing
pub others_kept : (name : List ℕ) (before behind : List Scanned) (s : Scanned)
    → bytes_eq s.name name ≡ false
    → scanned_named name (before ++ s ∷ behind) ≡ scanned_named name (before ++ behind)
others_kept name [] behind s other = rw other refl
others_kept name (x ∷ xs) behind s other =
    ap (cond (bytes_eq x.name name) (Some x)) (others_kept name xs behind s other)

test_none : (b : Bool) (s : Scanned) (o : Option Scanned)
    → cond b (Some s) o ≡ None
    → (b ≡ false) × (o ≡ None)
test_none true s o h = absurd cc
test_none false s o h = (refl, h)

-- where none had the name, the one that joins is found
pub new_found : (name : List ℕ) (before behind : List Scanned) (s : Scanned)
    → bytes_eq s.name name ≡ true
    → scanned_named name (before ++ behind) ≡ None
    → scanned_named name (before ++ s ∷ behind) ≡ Some s
new_found name [] behind s is none = rw is refl
new_found name (x ∷ xs) behind s is none =
    let t = test_none (bytes_eq x.name name) x (scanned_named name (xs ++ behind)) none in
    let other : bytes_eq x.name name ≡ false = t.0 in
    rw other (new_found name xs behind s is t.1)

-- ---- the stores that statuses name

taken_name : (w : Wanted) (x : Result (List Exception) StoreFault) (s : Scanned)
    → scan_read w x ≡ Ok s
    → s.name ≡ w.name
taken_name w (Ok es) s is = elim (cases_Bool (is_long w.fewer w.count (length es))) [
  | inl enough ↦
      let same : (let r : Result Scanned StartFault = Ok
      (record { name = w.name; chunk = w.chunk; exceptions = es }) in r ≡ Ok s) =
      rw enough at is in
      let e : (record { name = w.name; chunk = w.chunk; exceptions = es }) ≡ s = cc in
      sym (ap (λ (x : Scanned). x.name) e)
  | inr few ↦
      let bad : (let r : Result Scanned StartFault = Err (BadStore w.name) in r ≡ Ok s) = rw few at
      is in
      absurd cc
]
taken_name w (Err fault) s is =
    absurd (let bad : (let r : Result Scanned StartFault = Err (BadStore w.name) in r ≡ Ok s) = is
    in cc)

by_name : (w : Wanted) (store : Option (List ℕ)) (image : Image) (s : Scanned)
    → scan_by w store image ≡ Ok s
    → s.name ≡ w.name
by_name w None image s is =
    let same : (let r : Result Scanned StartFault = Ok
    (record { name = w.name; chunk = w.chunk; exceptions = [] }) in r ≡ Ok s) = is in
    let e : (record { name = w.name; chunk = w.chunk; exceptions = [] }) ≡ s = cc in
    sym (ap (λ (x : Scanned). x.name) e)
by_name w (Some store) image s is =
    let read = scan_read w (scan_of w.chunk store (length w.base) image) in
    taken_name w (scan_of w.chunk store (length w.base) image) s
    (clean_taken (w.clean && is_one w.chunk) w.name store image read s is)

scan_name : (w : Wanted) (image : Image) (s : Scanned) → scan_at w image ≡ Ok s → s.name ≡ w.name
unfolding scan_at
scan_name w image s is = by_name w w.store image s is

-- a status whose image was read is of one of the slot's partitions
pub record IsWanted (name : List ℕ) (p : Option PartOfLayout) (r : Result Wanted StartFault) :
    Type 0 where
  pub wanted : Wanted
  pub is : r ≡ Ok wanted
  pub named : wanted.name ≡ name
  pub part : PartOfLayout
  pub found : p ≡ Some part

no_reading : (name : List ℕ) (ss : List Scanned)
    → (let r : Result (List Scanned) StartFault = Err (BadStore name) in r ≡ Ok ss)
    → ⊥
no_reading name ss is = cc

wanted_some : (may : Bool) (first : ℕ) (name : List ℕ) (x : StatusImage)
    (p q : Option PartOfLayout) (ws : List (Result Wanted StartFault))
    (image : Image) (ss : List Scanned)
    → scans_in (image_wanted may first name x p q ∷ ws) image ≡ Ok ss
    → IsWanted name p (image_wanted may first name x p q)
wanted_some may first name InPlace None q ws image ss is = absurd (no_reading name ss is)
wanted_some may first name InPlace (Some p) (Some q) ws image ss is =
    absurd (no_reading name ss is)
wanted_some true first name InPlace (Some p) None ws image ss is =
    record { wanted = _; is = refl; named = refl; part = p; found = refl }
wanted_some false first name InPlace (Some p) None ws image ss is =
    absurd (no_reading name ss is)
wanted_some may first name (Stored count k) None q ws image ss is =
    absurd (no_reading name ss is)
wanted_some may first name (Stored count k) (Some p) None ws image ss is =
    absurd (no_reading name ss is)
wanted_some may first name (Stored count k) (Some p) (Some q) ws image ss is =
    record { wanted = _; is = refl; named = refl; part = p; found = refl }

-- the first status of which an image was read, and those behind it
pub record FirstRead (may : Bool) (slot : ℕ) (l : Layout) (st : PartStatus)
    (sts : List PartStatus) (image : Image) (ss : List Scanned) : Type 0 where
  pub part : PartOfLayout
  pub found : first_named st.name (own_parts slot l.parts) ≡ Some part
  pub one : Scanned
  pub named : one.name ≡ st.name
  pub rest : List Scanned
  pub behind : scans_in (map (wanted_of may slot l) sts) image ≡ Ok rest
  pub whole : one ∷ rest ≡ ss

pub first_read : (may : Bool) (slot : ℕ) (l : Layout) (st : PartStatus)
    (sts : List PartStatus) (image : Image) (ss : List Scanned)
    → scans_in (map (wanted_of may slot l) (st ∷ sts)) image ≡ Ok ss
    → FirstRead may slot l st sts image ss
first_read may slot l st sts image ss is =
    let w = wanted_some may l.device.first_logical_sector st.name st.image
    (first_named st.name (own_parts slot l.parts))
    (first_named (store_of st.name) l.parts) (map (wanted_of may slot l) sts) image ss is in
    let made : wanted_of may slot l st ≡ Ok w.wanted = w.is in
    let reading : scans_in (Ok w.wanted ∷ map (wanted_of may slot l) sts) image ≡ Ok ss =
    sym
    (ap (λ (x : Result Wanted StartFault). scans_in (x ∷ map (wanted_of may slot l) sts) image)
    made)
    ∙ is in
    let one = bound (scan_at w.wanted image)
    (λ s. scans_in (map (wanted_of may slot l) sts) image >>= λ rest. Ok (s ∷ rest)) ss reading in
    let more = bound (scans_in (map (wanted_of may slot l) sts) image)
    (λ rest. Ok (one.0 ∷ rest)) ss one.2 in
    let all : Ok (one.0 ∷ more.0) ≡ Ok ss = more.2 in
    record {
      part = w.part;
      found = w.found;
      one = one.0;
      named = scan_name w.wanted image one.0 one.1 ∙ w.named;
      rest = more.0;
      behind = more.1;
      whole = cc;
    }

-- where no image of a name was read, no status has it
pub unread_unnamed : (may : Bool) (name : List ℕ) (slot : ℕ) (l : Layout)
    (sts : List PartStatus) (image : Image) (ss : List Scanned)
    → scans_in (map (wanted_of may slot l) sts) image ≡ Ok ss
    → scanned_named name ss ≡ None
    → status_named name sts ≡ None
unread_unnamed may name slot l [] image ss is none = refl
unread_unnamed may name slot l (st ∷ sts) image ss is none =
    let f = first_read may slot l st sts image ss is in
    let t = test_none (bytes_eq f.one.name name) f.one (scanned_named name f.rest)
    (ap (scanned_named name) f.whole ∙ none) in
    let other : bytes_eq st.name name ≡ false =
    ap (λ (n : List ℕ). bytes_eq n name) (sym f.named) ∙ t.0 in
    rw other (unread_unnamed may name slot l sts image f.rest f.behind t.1)

-- each status is of one of the slot's partitions
pub statuses_own : (may : Bool) (slot : ℕ) (l : Layout) (sts : List PartStatus) (image : Image)
    (ss : List Scanned)
    → scans_in (map (wanted_of may slot l) sts) image ≡ Ok ss
    → All (λ st. IsNamed (own_parts slot l.parts) st.name) sts
statuses_own may slot l [] image ss is = λ k d lt. absurd (omega (arith, lt))
statuses_own may slot l (st ∷ sts) image ss is =
    let f = first_read may slot l st sts image ss is in
    let found = named_in st.name (own_parts slot l.parts) f.part f.found in
    All-cons (λ (x : PartStatus). IsNamed (own_parts slot l.parts) x.name) st sts
    (subst (IsNamed (own_parts slot l.parts)) found.1
    (named_in_list (own_parts slot l.parts) f.part found.0))
    (statuses_own may slot l sts image f.rest f.behind)
