-- What is read of the stores where one of them has fewer exceptions.
use Rattle.std.proofs.Common.{◌≡◌, ◌≢◌, ◌∙◌, inl, inr, ℕ, ◌-◌, true, false, List, [], ◌∷◌, Bool}
use Rattle.std.proofs.Common.{length, take, cond, leb, Result, Ok, Err, refl, sym, ap, subst}
use Rattle.std.proofs.Common.{arith, length-take-le}
use Rattle.std.specs.Prelude.{Option, Some, None, is_some, map, option_map, Contains}
use Rattle.std.specs.Prelude.{if◌then◌else◌}
use Rattle.std.specs.Str.{bytes_eq}
use Rattle.std.proofs.lemmas.Bool.{cases_Bool, leb-true, le-leb}
use Rattle.vab_disk.specs.Disk.{Image}
use Rattle.vab_names.specs.Names.{is_of_slot, store_of}
use Rattle.vab_marks.specs.declared.status.PartStatus.{PartStatus}
use Rattle.vab_marks.specs.declared.status.StatusImage.{StatusImage}
use Rattle.vab_marks.specs.declared.status.StatusImage.TheVariants.{Stored, InPlace}
use Rattle.vab_exceptions.specs.declared.area.Exception.{Exception}
use Rattle.vab_exceptions.specs.declared.header.HeaderFault.{HeaderFault}
use Rattle.vab_space.specs.declared.Chunk.{Chunk}
use Rattle.vab_space.specs.declared.Chunk.TheVariants.{One}
use Rattle.vab_store.specs.declared.fault.StoreFault.{StoreFault}
use Rattle.vab_store.specs.Scan.{scan_of}
use Rattle.vab_store.proofs.ScanLaws.{scan_of_ok}
use Rattle.vab_layout.specs.declared.layout.Part.{Part as PartOfLayout}
use Rattle.vab_layout.specs.declared.layout.Layout.{Layout}
use Rattle.vab_layout.specs.Slots.{own_parts}
use Rattle.vab_partitions.specs.Merging.{IsMerging}
use Rattle.vab_blocks.proofs.Contained.{of_filter}
use Rattle.vab_names.proofs.NameCases.{same_name, eq_name, ne_name, other_name}
use Rattle.vab_device.specs.declared.fault.StartFault.{StartFault}
use Rattle.vab_device.specs.declared.fault.StartFault.TheVariants.{BadStore}
use Rattle.vab_device.specs.Checks.{◌>>=◌}
use Rattle.vab_device.specs.Kept.{sectors_of}
use Rattle.vab_device.specs.Stores.{Wanted, Scanned, first_named, image_wanted, wanted_of, or_fewer}
use Rattle.vab_device.specs.Stores.{is_long, scan_read, scan_by, scan_at, scans_in, scanned_named}
use Rattle.vab_device.proofs.CheckLaws.{bound}
use Rattle.vab_device.proofs.InStores.{scan_stays}
use Rattle.vab_merging.proofs.ApartLaws.{InEither, store_miss}
use Rattle.vab_device.proofs.NamedParts.{named_in}
use Rattle.vab_device.specs.Stores.{clean_by}
use Rattle.vab_device.proofs.StoreLaws.{clean_taken}
use Rattle.vab_device.specs.Stores.{is_one}
use Rattle.std.specs.Prelude.{◌&&◌}

-- ---- fewer exceptions

abbrev pub cut_list : ℕ → List Exception → List Exception
cut_list k es = take (length es - k) es

-- a store without its last exceptions
abbrev pub cut_of : ℕ → Scanned → Scanned
cut_of k s = record s { exceptions = cut_list k s.exceptions }

-- the one of this name
abbrev pub cut_scan : List ℕ → ℕ → Scanned → Scanned
cut_scan name k s = if bytes_eq s.name name then cut_of k s else s

pub scanned_own : (name : List ℕ) (k : ℕ) (ss : List Scanned)
    → scanned_named name (map (cut_scan name k) ss)
    ≡ option_map (cut_of k) (scanned_named name ss)
scanned_own name k [] = refl
scanned_own name k (s ∷ ss) = elim (cases_Bool (bytes_eq s.name name)) [
  | inl here ↦ rw here (rw here refl)
  | inr other ↦ rw other (rw other (scanned_own name k ss))
]

pub scanned_other : (name other : List ℕ) (k : ℕ) (ss : List Scanned)
    → other ≢ name
    → scanned_named other (map (cut_scan name k) ss) ≡ scanned_named other ss
scanned_other name other k [] differs = refl
scanned_other name other k (s ∷ ss) differs =
    let rest = scanned_other name other k ss differs in
    elim (cases_Bool (bytes_eq s.name name)) [
      | inl here ↦
          let no : bytes_eq s.name other ≡ false =
          ne_name s.name other (λ e. differs (sym e ∙ same_name s.name name here)) in
          rw here (rw no rest)
      | inr not_it ↦ rw not_it (ap (cond (bytes_eq s.name other) (Some s)) rest)
    ]

some_map : (k : ℕ) (o : Option Scanned) → is_some (option_map (cut_of k) o) ≡ is_some o
some_map k None = refl
some_map k (Some s) = refl

pub scanned_some : (name other : List ℕ) (k : ℕ) (ss : List Scanned)
    → is_some (scanned_named other (map (cut_scan name k) ss)) ≡ is_some (scanned_named other ss)
scanned_some name other k ss = elim (cases_Bool (bytes_eq other name)) [
  | inl here ↦
      subst
      (λ (n : List ℕ).
      is_some (scanned_named n (map (cut_scan name k) ss)) ≡ is_some (scanned_named n ss))
      (sym (same_name other name here))
      (ap (λ (o : Option Scanned). is_some o) (scanned_own name k ss)
      ∙ some_map k (scanned_named name ss))
  | inr not_it ↦
      ap (λ (o : Option Scanned). is_some o)
      (scanned_other name other k ss (other_name other name not_it))
]

-- ---- a store

-- its scan, which is long enough
pub record IsRead (w : Wanted) (store : List ℕ) (image : Image) (s : Scanned) : Type 0 where
  pub scan : scan_of w.chunk store (length w.base) image ≡ Ok s.exceptions
  pub name : s.name ≡ w.name
  pub chunk : s.chunk ≡ w.chunk
  pub long : is_long w.fewer w.count (length s.exceptions) ≡ true

read_of : (w : Wanted) (x : Result (List Exception) StoreFault) (s : Scanned)
    → scan_read w x ≡ Ok s
    → (x ≡ Ok s.exceptions)
    × (s.name ≡ w.name)
    × (s.chunk ≡ w.chunk)
    × (is_long w.fewer w.count (length s.exceptions) ≡ true)
read_of w (Ok es) s is = elim (cases_Bool (is_long w.fewer w.count (length es))) [
  | inl enough ↦
      let same : (let r : Result Scanned StartFault = Ok
      (record { name = w.name; chunk = w.chunk; exceptions = es }) in r ≡ Ok s) =
      rw enough at is in
      let e : (record { name = w.name; chunk = w.chunk; exceptions = es }) ≡ s = cc in (
        ap (λ (x : Scanned). Ok x.exceptions) e,
        sym (ap (λ (x : Scanned). x.name) e),
        sym (ap (λ (x : Scanned). x.chunk) e),
        subst (λ (x : Scanned). is_long w.fewer w.count (length x.exceptions) ≡ true) e enough,
      )
  | inr few ↦
      let bad : (let r : Result Scanned StartFault = Err (BadStore w.name) in r ≡ Ok s) = rw few at
      is in
      absurd cc
]
read_of w (Err fault) s is =
    absurd (let bad : (let r : Result Scanned StartFault = Err (BadStore w.name) in r ≡ Ok s) = is
    in cc)

is_read : (w : Wanted) (store : List ℕ) (image : Image) (s : Scanned)
    → w.store ≡ Some store
    → scan_at w image ≡ Ok s
    → IsRead w store image s
unfolding scan_at
is_read w store image s there is =
    let scanned : scan_by w (Some store) image ≡ Ok s =
    ap (λ (o : Option (List ℕ)). scan_by w o image) (sym there) ∙ is in
    let x = scan_of w.chunk store (length w.base) image in
    let read =
    clean_taken (w.clean && is_one w.chunk) w.name store image (scan_read w x) s scanned in
    let four = read_of w x s read in
    record { scan = four.0; name = four.1; chunk = four.2; long = four.3 }

scan_made : (w : Wanted) (store : List ℕ) (image : Image) (es : List Exception)
    → w.store ≡ Some store
    → scan_of w.chunk store (length w.base) image ≡ Ok es
    → is_long w.fewer w.count (length es) ≡ true
    → w.clean ≡ false
    → scan_at w image ≡ Ok (record { name = w.name; chunk = w.chunk; exceptions = es })
unfolding scan_at
scan_made w store image es there scan long unasked =
    ap (λ (o : Option (List ℕ)). scan_by w o image) there
    ∙ ap
    (λ (b : Bool). clean_by (b && is_one w.chunk) w.name store image
    (scan_read w (scan_of w.chunk store (length w.base) image)))
    unasked
    ∙ ap (scan_read w) scan ∙ rw long refl

-- an image in place has no exceptions
placed_scan : (w : Wanted) (image : Image)
    → w.store ≡ None
    → scan_at w image ≡ Ok (record { name = w.name; chunk = w.chunk; exceptions = [] })
unfolding scan_at
placed_scan w image none = ap (λ (o : Option (List ℕ)). scan_by w o image) none

placed_named : (w : Wanted) (image : Image) (s : Scanned)
    → w.store ≡ None
    → scan_at w image ≡ Ok s
    → s.name ≡ w.name
placed_named w image s none is =
    let same : Ok (record { name = w.name; chunk = w.chunk; exceptions = [] }) ≡ Ok s =
    sym (placed_scan w image none) ∙ is in
    let e : (record { name = w.name; chunk = w.chunk; exceptions = [] }) ≡ s = cc in
    sym (ap (λ (x : Scanned). x.name) e)

-- a store's header says what size its chunks have
scan_chunk : (j k : Chunk) (store : List ℕ) (bound : ℕ) (image : Image) (es fs : List Exception)
    → scan_of j store bound image ≡ Ok es
    → scan_of k store bound image ≡ Ok fs
    → j ≡ k
scan_chunk j k store bound image es fs one other =
    let same : (let r : Result Chunk HeaderFault = Ok j in r ≡ Ok k) =
    sym (scan_of_ok store bound image es one).header
    ∙ (scan_of_ok store bound image fs other).header in
    cc

-- ---- the store of one partition, and the others

module _ (slot : ℕ) (l : Layout) (part keeps : PartOfLayout)
    (is : IsMerging slot l.parts)
    (in_own : Contains (own_parts slot l.parts) part)
    (own : is_of_slot slot part.name ≡ true)
    (part_is : first_named part.name (own_parts slot l.parts) ≡ Some part)
    (found : first_named (store_of part.name) l.parts ≡ Some keeps) where
  abbrev at : ℕ
  at = l.device.first_logical_sector

  abbrev owns : List PartOfLayout
  owns = own_parts slot l.parts

  abbrev base : List ℕ
  base = sectors_of at part.blocks

  abbrev store : List ℕ
  store = sectors_of at keeps.blocks

  abbrev pub wants : PartStatus → Result Wanted StartFault
  wants st = or_fewer (wanted_of true slot l st)

  abbrev wanted : List ℕ → ℕ → Chunk → PartOfLayout → PartOfLayout → Wanted
  wanted name count size p q = record {
    name = name;
    base = sectors_of at p.blocks;
    store = Some (sectors_of at q.blocks);
    chunk = size;
    count = count;
    fewer = true;
    clean = false;
  }

  abbrev placed : List ℕ → PartOfLayout → Wanted
  placed name p = record {
    name = name;
    base = sectors_of at p.blocks;
    store = None;
    chunk = One;
    count = 0;
    fewer = true;
    clean = false;
  }

  -- a partition without a store isn't that one
  not_here : (name : List ℕ)
      → first_named (store_of name) l.parts ≡ None
      → name ≢ part.name
  not_here name none named =
      let no : (let o : Option PartOfLayout = None in o ≡ Some keeps) =
      sym none ∙ ap (λ (n : List ℕ). first_named (store_of n) l.parts) named ∙ found in
      absurd cc

  -- the status of that name is of that partition and its store
  both_named : (name : List ℕ) (p q : PartOfLayout)
      → first_named name owns ≡ Some p
      → first_named (store_of name) l.parts ≡ Some q
      → name ≡ part.name
      → (p ≡ part) × (q ≡ keeps)
  both_named name p q p_is q_is named =
      let ps : Some p ≡ Some part =
      sym p_is ∙ ap (λ (n : List ℕ). first_named n owns) named ∙ part_is in
      let qs : Some q ≡ Some keeps =
      sym q_is ∙ ap (λ (n : List ℕ). first_named (store_of n) l.parts) named ∙ found in
      (cc, cc)

  -- ---- what was read of it

  named_here : (name : List ℕ) (count : ℕ) (size : Chunk) (p q : PartOfLayout) (image : Image)
      (s : Scanned)
      → first_named name owns ≡ Some p
      → first_named (store_of name) l.parts ≡ Some q
      → scan_at (wanted name count size p q) image ≡ Ok s
      → s.name ≡ part.name
      → scan_of s.chunk store (length base) image ≡ Ok s.exceptions
  named_here name count size p q image s p_is q_is scan named =
      let read = is_read (wanted name count size p q) (sectors_of at q.blocks) image s refl scan in
      let these = both_named name p q p_is q_is (sym read.name ∙ named) in
      (λ i. scan_of (read.chunk i) (sectors_of at (sym these.1 i).blocks)
      (length (sectors_of at (sym these.0 i).blocks)) image)
      ∙ read.scan

  named_step : (image : Image) (s : Scanned) (name : List ℕ) (x : StatusImage)
      (p q : Option PartOfLayout)
      (ws : List (Result Wanted StartFault)) (ss : List Scanned)
      → first_named name owns ≡ p
      → first_named (store_of name) l.parts ≡ q
      → scans_in (or_fewer (image_wanted true at name x p q) ∷ ws) image ≡ Ok ss
      → scanned_named part.name ss ≡ Some s
      → ((us : List Scanned)
      → scans_in ws image ≡ Ok us
      → scanned_named part.name us ≡ Some s
      → scan_of s.chunk store (length base) image ≡ Ok s.exceptions)
      → scan_of s.chunk store (length base) image ≡ Ok s.exceptions
  named_step image s name InPlace None q ws ss p_is q_is is there later =
      absurd (let bad : (let r : Result (List Scanned) StartFault = Err (BadStore name) in r
      ≡ Ok ss) = is in cc)
  named_step image s name InPlace (Some p) (Some q) ws ss p_is q_is is there later =
      absurd (let bad : (let r : Result (List Scanned) StartFault = Err (BadStore name) in r
      ≡ Ok ss) = is in cc)
  named_step image s name InPlace (Some p) None ws ss p_is q_is is there later =
      let one = bound (scan_at (placed name p) image)
      (λ u. scans_in ws image >>= λ rest. Ok (u ∷ rest)) ss is in
      let more = bound (scans_in ws image) (λ rest. Ok (one.0 ∷ rest)) ss one.2 in
      let whole : Ok (one.0 ∷ more.0) ≡ Ok ss = more.2 in
      let same : one.0 ∷ more.0 ≡ ss = cc in
      let here : scanned_named part.name (one.0 ∷ more.0) ≡ Some s =
      ap (scanned_named part.name) same ∙ there in
      let named = placed_named (placed name p) image one.0 refl one.1 in
      let other : bytes_eq one.0.name part.name ≡ false =
      ne_name one.0.name part.name (λ e. not_here name q_is (sym named ∙ e)) in
      later more.0 more.1 (rw other at here)
  named_step image s name (Stored count size) None q ws ss p_is q_is is there later =
      absurd (let bad : (let r : Result (List Scanned) StartFault = Err (BadStore name) in r
      ≡ Ok ss) = is in cc)
  named_step image s name (Stored count size) (Some p) None ws ss p_is q_is is there later =
      absurd (let bad : (let r : Result (List Scanned) StartFault = Err (BadStore name) in r
      ≡ Ok ss) = is in cc)
  named_step image s name (Stored count size) (Some p) (Some q) ws ss p_is q_is is there later =
      let one = bound (scan_at (wanted name count size p q) image)
      (λ u. scans_in ws image >>= λ rest. Ok (u ∷ rest)) ss is in
      let more = bound (scans_in ws image) (λ rest. Ok (one.0 ∷ rest)) ss one.2 in
      let whole : Ok (one.0 ∷ more.0) ≡ Ok ss = more.2 in
      let same : one.0 ∷ more.0 ≡ ss = cc in
      let here : scanned_named part.name (one.0 ∷ more.0) ≡ Some s =
      ap (scanned_named part.name) same ∙ there in
      elim (cases_Bool (bytes_eq one.0.name part.name)) [
        | inl named ↦
            let taken : Some one.0 ≡ Some s = rw named at here in
            let e : one.0 ≡ s = cc in
            subst
            (λ (x : Scanned). scan_of x.chunk store (length base) image ≡ Ok x.exceptions) e
            (named_here name count size p q image one.0 p_is q_is one.1
            (same_name one.0.name part.name named))
        | inr other ↦ later more.0 more.1 (rw other at here)
      ]

  -- the exceptions that were read are those of a scan of the store
  pub scan_named : (image : Image) (s : Scanned) (sts : List PartStatus) (ss : List Scanned)
      → scans_in (map wants sts) image ≡ Ok ss
      → scanned_named part.name ss ≡ Some s
      → scan_of s.chunk store (length base) image ≡ Ok s.exceptions
  scan_named image s [] ss is there =
      let none : (let r : Result (List Scanned) StartFault = Ok [] in r ≡ Ok ss) = is in
      let e : [] ≡ ss = cc in
      absurd (let bad : None ≡ Some s = ap (scanned_named part.name) e ∙ there in cc)
  scan_named image s (st ∷ sts) ss is there =
      named_step image s st.name st.image (first_named st.name owns)
      (first_named (store_of st.name) l.parts)
      (map wants sts) ss refl refl is there (λ us. scan_named image s sts us)

  -- ---- what is read of it then

  module _ (kept : Scanned) (k : ℕ) (old new : Image)
      (scan : scan_of kept.chunk store (length base) old ≡ Ok kept.exceptions)
      (now : scan_of kept.chunk store (length base) new ≡ Ok (cut_list k kept.exceptions))
      (stay : (s : ℕ) → (InEither slot l.parts part keeps is in_own own found at s → ⊥)
      → new s ≡ old s) where
    cut_here : (s : Scanned) → s.name ≡ part.name
        → cut_scan part.name k s ≡ cut_of k s
    cut_here s named =
        let here : bytes_eq s.name part.name ≡ true = eq_name s.name part.name named in
        rw here refl

    cut_there : (s : Scanned) → s.name ≢ part.name → cut_scan part.name k s ≡ s
    cut_there s differs =
        let other : bytes_eq s.name part.name ≡ false = ne_name s.name part.name differs in
        rw other refl

    fewer_long : (count n : ℕ) → leb n count ≡ true → leb (n - k) count ≡ true
    fewer_long count n long = le-leb (n - k) count (omega (arith, leb-true n count long))

    scan_own : (name : List ℕ) (count : ℕ) (size : Chunk) (p q : PartOfLayout) (s : Scanned)
        → first_named name owns ≡ Some p
        → first_named (store_of name) l.parts ≡ Some q
        → IsRead (wanted name count size p q) (sectors_of at q.blocks) old s
        → name ≡ part.name
        → scan_at (wanted name count size p q) new ≡ Ok (cut_scan part.name k s)
    scan_own name count size p q s p_is q_is read named =
        let these = both_named name p q p_is q_is named in
        let here : scan_of size store (length base) old ≡ Ok s.exceptions =
        (λ i. scan_of size (sectors_of at (sym these.1 i).blocks)
        (length (sectors_of at (sym these.0 i).blocks)) old)
        ∙ read.scan in
        let chunk : kept.chunk ≡ size =
        scan_chunk kept.chunk size store (length base) old kept.exceptions s.exceptions scan
        here in
        let was : Ok kept.exceptions ≡ Ok s.exceptions =
        sym scan ∙ ap (λ (j : Chunk). scan_of j store (length base) old) chunk ∙ here in
        let same : kept.exceptions ≡ s.exceptions = cc in
        let found_now : scan_of size (sectors_of at q.blocks) (length (sectors_of at p.blocks))
        new
        ≡ Ok (cut_list k s.exceptions) =
        (λ i. scan_of (sym chunk i) (sectors_of at (these.1 i).blocks)
        (length (sectors_of at (these.0 i).blocks)) new)
        ∙ now
        ∙ ap (λ (x : List Exception). Ok (cut_list k x)) same in
        let long : leb (length (cut_list k s.exceptions)) count ≡ true =
        subst (λ (n : ℕ). leb n count ≡ true)
        (sym (length-take-le (length s.exceptions - k) s.exceptions (omega arith)))
        (fewer_long count (length s.exceptions) read.long) in
        scan_made (wanted name count size p q) (sectors_of at q.blocks) new
        (cut_list k s.exceptions) refl found_now long refl
        ∙ (λ i. Ok (record {
          name = sym read.name i;
          chunk = sym read.chunk i;
          exceptions = cut_list k s.exceptions;
        }))
        ∙ ap Ok (sym (cut_here s (read.name ∙ named)))

    scan_other : (name : List ℕ) (count : ℕ) (size : Chunk) (p q : PartOfLayout) (s : Scanned)
        → first_named name owns ≡ Some p
        → first_named (store_of name) l.parts ≡ Some q
        → IsRead (wanted name count size p q) (sectors_of at q.blocks) old s
        → name ≢ part.name
        → scan_at (wanted name count size p q) new ≡ Ok (cut_scan part.name k s)
    scan_other name count size p q s p_is q_is read differs =
        let there = named_in name owns p p_is in
        let of : is_of_slot slot name ≡ true =
        ap (is_of_slot slot) (sym there.1)
        ∙ (of_filter (λ r. is_of_slot slot r.name) l.parts p there.0).1 in
        let found_now : scan_of size (sectors_of at q.blocks) (length (sectors_of at p.blocks))
        new
        ≡ Ok s.exceptions =
        scan_stays size (sectors_of at q.blocks) old new
        (λ sector in_q.
        stay sector
        (λ either.
        store_miss slot l.parts part keeps is in_own own found at name q sector of q_is differs
        in_q either))
        (length (sectors_of at p.blocks)) s.exceptions read.scan in
        scan_made (wanted name count size p q) (sectors_of at q.blocks) new s.exceptions refl
        found_now read.long refl
        ∙ (λ i. Ok (record {
          name = sym read.name i;
          chunk = sym read.chunk i;
          exceptions = s.exceptions;
        }))
        ∙ ap Ok (sym (cut_there s (λ e. differs (sym read.name ∙ e))))

    scan_then : (name : List ℕ) (count : ℕ) (size : Chunk) (p q : PartOfLayout) (s : Scanned)
        → first_named name owns ≡ Some p
        → first_named (store_of name) l.parts ≡ Some q
        → scan_at (wanted name count size p q) old ≡ Ok s
        → scan_at (wanted name count size p q) new ≡ Ok (cut_scan part.name k s)
    scan_then name count size p q s p_is q_is was =
        let read = is_read (wanted name count size p q) (sectors_of at q.blocks) old s refl was in
        elim (cases_Bool (bytes_eq name part.name)) [
          | inl named ↦
              scan_own name count size p q s p_is q_is read (same_name name part.name named)
          | inr other ↦
              scan_other name count size p q s p_is q_is read (other_name name part.name other)
        ]

    step : (name : List ℕ) (x : StatusImage) (p q : Option PartOfLayout)
        (ws : List (Result Wanted StartFault)) (ss : List Scanned)
        → first_named name owns ≡ p
        → first_named (store_of name) l.parts ≡ q
        → scans_in (or_fewer (image_wanted true at name x p q) ∷ ws) old ≡ Ok ss
        → ((us : List Scanned)
        → scans_in ws old ≡ Ok us
        → scans_in ws new ≡ Ok (map (cut_scan part.name k) us))
        → scans_in (or_fewer (image_wanted true at name x p q) ∷ ws) new
        ≡ Ok (map (cut_scan part.name k) ss)
    step name InPlace None q ws ss p_is q_is was later =
        absurd (let bad : (let r : Result (List Scanned) StartFault = Err (BadStore name) in r
        ≡ Ok ss) = was in cc)
    step name InPlace (Some p) (Some q) ws ss p_is q_is was later =
        absurd (let bad : (let r : Result (List Scanned) StartFault = Err (BadStore name) in r
        ≡ Ok ss) = was in cc)
    step name InPlace (Some p) None ws ss p_is q_is was later =
        let one = bound (scan_at (placed name p) old)
        (λ s. scans_in ws old >>= λ rest. Ok (s ∷ rest)) ss was in
        let more = bound (scans_in ws old) (λ rest. Ok (one.0 ∷ rest)) ss one.2 in
        let whole : Ok (one.0 ∷ more.0) ≡ Ok ss = more.2 in
        let same : one.0 ∷ more.0 ≡ ss = cc in
        let named = placed_named (placed name p) old one.0 refl one.1 in
        let here : scan_at (placed name p) new ≡ Ok (cut_scan part.name k one.0) =
        placed_scan (placed name p) new refl
        ∙ sym (placed_scan (placed name p) old refl)
        ∙ one.1
        ∙ ap Ok (sym (cut_there one.0 (λ e. not_here name q_is (sym named ∙ e)))) in
        let rest = later more.0 more.1 in
        (λ i. here i >>= λ s. rest i >>= λ r. Ok (s ∷ r))
        ∙ ap (λ (x : List Scanned). Ok (map (cut_scan part.name k) x)) same
    step name (Stored count size) None q ws ss p_is q_is was later =
        absurd (let bad : (let r : Result (List Scanned) StartFault = Err (BadStore name) in r
        ≡ Ok ss) = was in cc)
    step name (Stored count size) (Some p) None ws ss p_is q_is was later =
        absurd (let bad : (let r : Result (List Scanned) StartFault = Err (BadStore name) in r
        ≡ Ok ss) = was in cc)
    step name (Stored count size) (Some p) (Some q) ws ss p_is q_is was later =
        let one = bound (scan_at (wanted name count size p q) old)
        (λ s. scans_in ws old >>= λ rest. Ok (s ∷ rest)) ss was in
        let more = bound (scans_in ws old) (λ rest. Ok (one.0 ∷ rest)) ss one.2 in
        let whole : Ok (one.0 ∷ more.0) ≡ Ok ss = more.2 in
        let same : one.0 ∷ more.0 ≡ ss = cc in
        let here = scan_then name count size p q one.0 p_is q_is one.1 in
        let rest = later more.0 more.1 in
        (λ i. here i >>= λ s. rest i >>= λ r. Ok (s ∷ r))
        ∙ ap (λ (x : List Scanned). Ok (map (cut_scan part.name k) x)) same

    -- each store is read the same, but for that one
    pub scans_then : (sts : List PartStatus) (ss : List Scanned)
        → scans_in (map wants sts) old ≡ Ok ss
        → scans_in (map wants sts) new ≡ Ok (map (cut_scan part.name k) ss)
    scans_then [] ss was =
        let none : (let r : Result (List Scanned) StartFault = Ok [] in r ≡ Ok ss) = was in
        let e : [] ≡ ss = cc in
        ap (λ (x : List Scanned). Ok (map (cut_scan part.name k) x)) e
    scans_then (st ∷ sts) ss was =
        step st.name st.image (first_named st.name owns) (first_named (store_of st.name) l.parts)
        (map wants sts) ss refl refl was (λ us. scans_then sts us)
