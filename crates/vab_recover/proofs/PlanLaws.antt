-- What is found by a name, and the steps of the loops over partitions, statuses and scans.
use Rattle.std.proofs.Common.{◌≡◌, ◌∙◌, ℕ, zero, suc, ◌+◌, ◌*◌, ◌≤◌, ◌<◌, Bool, true}
use Rattle.std.proofs.Common.{false}
use Rattle.std.proofs.Common.{List, [], ◌∷◌, ◌++◌, length, get_or, drop, inl, inr}
use Rattle.std.proofs.Common.{Option, Some, None, Result, Ok, Err, refl, sym, ap, subst, arith}
use Rattle.std.specs.Prelude.{map, All, option_map, ◌&&◌, if◌then◌else◌}
use Rattle.std.specs.List.{filter}
use Rattle.std.specs.Str.{bytes_eq}
use Rattle.std.proofs.lemmas.Bool.{cases_Bool}
use Rattle.std.proofs.lemmas.Slice.Eq.{bytes_eq-Decides}
use Rattle.std.proofs.lemmas.List.Elements.{All-head, All-tail, All-map}
use Rattle.vab_disk.specs.Disk.{Image}
use Rattle.vab_names.specs.Names.{store_of}
use Rattle.vab_marks.specs.declared.status.PartStatus.{PartStatus}
use Rattle.vab_marks.specs.declared.status.StatusImage.TheVariants.{Stored, InPlace}
use Rattle.vab_statuses.specs.Statuses.{written_in}
use Rattle.vab_exceptions.specs.declared.area.Exception.{Exception}
use Rattle.vab_space.specs.declared.Chunk.{Chunk}
use Rattle.vab_space.specs.declared.Chunk.TheVariants.{One}
use Rattle.vab_store.specs.Layout.{IsOnDisk}
use Rattle.vab_tables.specs.declared.table.Table.{Table}
use Rattle.vab_tables.specs.Rules.{cap_of, end_of}
use Rattle.vab_layout.specs.declared.layout.Part.{Part as PartOfLayout}
use Rattle.vab_layout.specs.declared.layout.Layout.{Layout}
use Rattle.vab_layout.specs.Layout.{layout_of}
use Rattle.vab_layout.specs.Rules.{IsPart as IsPartOfLayout}
use Rattle.vab_layout.specs.Slots.{own_parts}
use Rattle.vab_layout.proofs.LayoutLaws.{layout_keeps}
use Rattle.vab_store.specs.declared.fault.StoreFault.{StoreFault}
use Rattle.vab_store.specs.Scan.{scan_of}
use Rattle.vab_store.specs.View.{Fits}
use Rattle.vab_device.specs.Stores.{scan_read}
use Rattle.std.specs.Prelude.{IfOk}
use Rattle.std.proofs.lemmas.List.{length-map}
use Rattle.std.proofs.lemmas.List.{map-append}
use Rattle.vab_plan.proofs.PlanLaws.{drop_at, first_all}
use Rattle.vab_device.specs.declared.fault.StartFault.{StartFault}
use Rattle.vab_device.specs.declared.fault.StartFault.TheVariants.{BadStore}
use Rattle.vab_device.specs.Checks.{◌>>=◌}
use Rattle.vab_device.specs.Kept.{sectors_of}
use Rattle.vab_device.specs.Phases.{store_on}
use Rattle.vab_device.specs.Stores.{Wanted, Scanned, first_named, image_wanted, wanted_of, scan_at}
use Rattle.vab_device.specs.Stores.{scans_in, or_fewer}
use Rattle.vab_plan.specs.declared.planning.Scan.{Scan}
use Rattle.vab_plan.specs.Scans.{scanned_of, scans_of, IsTargetTable}
use Rattle.vab_recover.specs.Opened.{wanted_for}
use Rattle.vab_recover.specs.Scans.{wanted_at, AreBlocks, IsScanned, is_placed, status_placed}
use Rattle.vab_recover.specs.Scans.{status_stored}

-- ---- a place of a list

-- ---- the partition of a name

pub first_none : (q : List ℕ → Bool) (name : List ℕ) (ps : List PartOfLayout)
    → q name ≡ false
    → first_named name (filter (λ p. q p.name) ps) ≡ None
first_none q name [] is = refl
first_none q name (p ∷ ps) is =
    let rest = first_none q name ps is in
    elim (cases_Bool (q p.name)) [
      | inl passes ↦ elim (cases_Bool (bytes_eq p.name name)) [
        | inl here ↦
            let same : q p.name ≡ false = ap q ((bytes_eq-Decides p.name name).0 here) ∙ is in
            let no : true ≡ false = sym passes ∙ same in
            absurd (let e : true ≡ false = no in cc)
        | inr other ↦ rw (passes, other) rest
      ]
      | inr fails ↦ rw fails rest
    ]

-- ---- the blocks of a store

-- ---- a store that a status names

by_store : (may : Bool) (first : ℕ) (name : List ℕ) (count : ℕ) (k : Chunk) (part : PartOfLayout)
    (base store : List ℕ) (x y : Option PartOfLayout)
    → x ≡ Some part
    → option_map (λ q. sectors_of first q.blocks) y ≡ Some store
    → base ≡ sectors_of first part.blocks
    → image_wanted may first name (Stored count k) x y
    ≡ Ok (record {
      name = name;
      base = base;
      store = Some store;
      chunk = k;
      count = count;
      fewer = false;
      clean = false;
    })
by_store may first name count k part base store x None named stored is =
    absurd (let no : None ≡ Some store = stored in cc)
by_store may first name count k part base store x (Some q) named stored is =
    let whole : Some (sectors_of first q.blocks) ≡ Some store = stored in
    let same : sectors_of first q.blocks ≡ store = cc in
    rw named (λ i. Ok (record {
      name = name;
      base = sym is i;
      store = Some (same i);
      chunk = k;
      count = count;
      fewer = false;
      clean = false;
    }))

pub wanted_there : (may : Bool) (slot : ℕ) (l : Layout) (name : List ℕ) (count : ℕ) (k : Chunk)
    (base store : List ℕ)
    → AreBlocks slot l name base store
    → wanted_of may slot l (status_stored name count k)
    ≡ Ok (record {
      name = name;
      base = base;
      store = Some store;
      chunk = k;
      count = count;
      fewer = false;
      clean = false;
    })
wanted_there may slot l name count k base store are =
    by_store may l.device.first_logical_sector name count k are.part base store
    (first_named name (own_parts slot l.parts)) (first_named (store_of name) l.parts)
    are.named are.stored are.base_is

-- where a store stands on the disk
sectors_within : (first cap size : ℕ) (blocks : List ℕ)
    → 4096 + first + 8 * cap ≤ size
    → All (λ b. b < cap) blocks
    → All (λ s. s + 8 ≤ size) (sectors_of first blocks)
unfolding sectors_of
sectors_within first cap size blocks on below =
    All-map (λ (s : ℕ). s + 8 ≤ size) (λ b. 4096 + first + 8 * b) blocks
    (λ k d lt. omega (arith, below k d lt, on))

pub on_from : (xs : List ℕ) (size : ℕ) → All (λ s. s + 8 ≤ size) xs → IsOnDisk xs size
on_from [] size all i lt = absurd (omega (arith, lt))
on_from (x ∷ xs) size all zero lt = All-head (λ s. s + 8 ≤ size) x xs all
on_from (x ∷ xs) size all (suc i) lt =
    on_from xs size (All-tail (λ s. s + 8 ≤ size) x xs all) i (omega (arith, lt))

store_within : (first cap size : ℕ) (store : List ℕ) (y : Option PartOfLayout)
    → 4096 + first + 8 * cap ≤ size
    → ((q : PartOfLayout) → y ≡ Some q → All (λ b. b < cap) q.blocks)
    → option_map (λ q. sectors_of first q.blocks) y ≡ Some store
    → IsOnDisk store size
store_within first cap size store None on below stored =
    absurd (let no : None ≡ Some store = stored in cc)
store_within first cap size store (Some q) on below stored =
    let whole : Some (sectors_of first q.blocks) ≡ Some store = stored in
    let same : sectors_of first q.blocks ≡ store = cc in
    subst (λ (l : List ℕ). IsOnDisk l size) same
    (on_from (sectors_of first q.blocks) size
    (sectors_within first cap size q.blocks on (below q refl)))

pub store_on_disk : (slot size : ℕ) (t : Table) (name store : List ℕ)
    → IsTargetTable slot t
    → 4096 + end_of (layout_of t).device ≤ size
    → store_on (layout_of t) name ≡ Some store
    → IsOnDisk store size
store_on_disk slot size t name store target on stored =
    let l = layout_of t in
    let rules = layout_keeps t target.rules in
    store_within l.device.first_logical_sector (cap_of l.device) size store
    (first_named (store_of name) l.parts) (omega (arith, on))
    (λ q is. (first_all (IsPartOfLayout (cap_of l.device) l.groups) (store_of name) l.parts q
    rules.parts is).0.blocks)
    stored

-- ---- one scan after another

by_rest : (done : List Scanned) (x : Scanned) (r : Result (List Scanned) StartFault)
    → ((r >>= λ rest. Ok (x ∷ rest)) >>= λ rest. Ok (done ++ rest))
    ≡ (r >>= λ rest. Ok ((done ++ x ∷ []) ++ rest))
by_rest done x (Ok rest) = ap Ok (middle done x rest)
  where
    middle : (done : List Scanned) (x : Scanned) (rest : List Scanned)
        → done ++ (x ∷ rest) ≡ (done ++ x ∷ []) ++ rest
    middle [] x rest = refl
    middle (y ∷ ys) x rest = ap (λ (l : List Scanned). y ∷ l) (middle ys x rest)
by_rest done x (Err f) = refl

pub scans_ok : (w : Result Wanted StartFault) (ws : List (Result Wanted StartFault)) (image : Image)
    (done : List Scanned) (x : Scanned)
    → wanted_at w image ≡ Ok x
    → (scans_in (w ∷ ws) image >>= λ rest. Ok (done ++ rest))
    ≡ (scans_in ws image >>= λ rest. Ok ((done ++ x ∷ []) ++ rest))
scans_ok (Ok w) ws image done x is = rw is (by_rest done x (scans_in ws image))
scans_ok (Err f) ws image done x is = absurd
    (let no : (let r : Result Scanned StartFault = Err f in r ≡ Ok x) = is in cc)

-- ---- the exceptions of a name

-- ---- a slot's own partitions

-- ---- a scan of the store that a status names

abbrev pub wanted_store : (fewer : Bool)
    → (name : List ℕ)
    → (count : ℕ)
    → Chunk
    → (base store : List ℕ)
    → Wanted
wanted_store fewer name count k base store = record {
  name = name;
  base = base;
  store = Some store;
  chunk = k;
  count = count;
  fewer = fewer;
  clean = false;
}

wanted_found : (fewer may : Bool) (slot : ℕ) (l : Layout) (name : List ℕ) (count : ℕ) (k : Chunk)
    (base store : List ℕ)
    → AreBlocks slot l name base store
    → wanted_for fewer may slot l (status_stored name count k)
    ≡ Ok (wanted_store fewer name count k base store)
wanted_found false may slot l name count k base store are =
    wanted_there may slot l name count k base store are
wanted_found true may slot l name count k base store are =
    ap or_fewer (wanted_there may slot l name count k base store are)

pub wanted_is : (fewer may : Bool) (slot : ℕ) (l : Layout) (name : List ℕ) (count : ℕ) (k : Chunk)
    (base store : List ℕ) (n : ℕ) (image : Image)
    → AreBlocks slot l name base store
    → n ≡ length base
    → wanted_at (wanted_for fewer may slot l (status_stored name count k)) image
    ≡ scan_read (wanted_store fewer name count k base store) (scan_of k store n image)
unfolding scan_at
wanted_is fewer may slot l name count k base store n image are long =
    ap (λ (r : Result Wanted StartFault). wanted_at r image)
    (wanted_found fewer may slot l name count k base store are)
    ∙ ap
    (λ (j : ℕ). scan_read (wanted_store fewer name count k base store) (scan_of k store j image))
    (sym long)

pub is_scanned : (slot : ℕ) (l : Layout) (name base store : List ℕ) (k : Chunk) (n : ℕ)
    (scanned : Result (List Exception) StoreFault) (r : Result Scan StartFault)
    → AreBlocks slot l name base store
    → n ≡ length base
    → IfOk scanned (λ es. Fits k n store es)
    → IfOk r (λ s. s.name ≡ name)
    → IfOk r (λ s. s.chunk ≡ k)
    → IfOk r (λ s. scanned ≡ Ok s.view)
    → IfOk r (λ s. IsScanned slot l (scanned_of s))
unfolding sectors_of
is_scanned slot l name base store k n scanned (Err f) are long fits named sized view = tt
is_scanned slot l name base store k n scanned (Ok s) are long fits named sized view =
    let first = l.device.first_logical_sector in
    let same : n ≡ length are.part.blocks =
    long ∙ ap length are.base_is ∙ count first are.part.blocks in
    let read : Fits k n store s.view =
    subst (λ (x : Result (List Exception) StoreFault). IfOk x (λ es. Fits k n store es)) view
    fits in
    record {
      part = are.part;
      store = Some store;
      named = ap (λ (m : List ℕ). first_named m (own_parts slot l.parts)) named ∙ are.named;
      stored = ap (store_on l) named ∙ are.stored;
      fits =
          subst (λ (j : Chunk). Fits j (length are.part.blocks) store s.view) (sym sized)
          (subst (λ (m : ℕ). Fits k m store s.view) same read);
    }
  where
    count : (first : ℕ) (blocks : List ℕ) → length (sectors_of first blocks) ≡ length blocks
    count first blocks = length-map blocks (λ b. 4096 + first + 8 * b)

-- ---- an image in place

by_place : (fewer may : Bool) (first : ℕ) (name : List ℕ) (a b : Option PartOfLayout)
    (image : Image)
    → may ≡ true
    → is_placed a b ≡ true
    → wanted_at
    (if fewer
    then or_fewer (image_wanted may first name InPlace a b)
    else image_wanted may first name InPlace a b)
    image
    ≡ Ok (record { name = name; chunk = One; exceptions = [] })
unfolding scan_at
by_place fewer may first name None b image is placed = absurd cc
by_place fewer may first name (Some p) (Some q) image is placed = absurd cc
by_place true true first name (Some p) None image is placed = refl
by_place false true first name (Some p) None image is placed = refl
by_place fewer false first name (Some p) None image is placed = absurd cc

as_if : (fewer may : Bool) (slot : ℕ) (l : Layout) (name : List ℕ)
    → wanted_for fewer may slot l (status_placed name)
    ≡ (if fewer
    then or_fewer (image_wanted may l.device.first_logical_sector name InPlace
    (first_named name (own_parts slot l.parts)) (first_named (store_of name) l.parts))
    else image_wanted may l.device.first_logical_sector name InPlace
    (first_named name (own_parts slot l.parts)) (first_named (store_of name) l.parts))
as_if true may slot l name = refl
as_if false may slot l name = refl

-- that of a partition without a store, where one may be so
pub placed_there : (fewer may : Bool) (slot : ℕ) (l : Layout) (name : List ℕ) (image : Image)
    → may ≡ true
    → is_placed (first_named name (own_parts slot l.parts)) (first_named (store_of name) l.parts)
    ≡ true
    → wanted_at (wanted_for fewer may slot l (status_placed name)) image
    ≡ Ok (record { name = name; chunk = One; exceptions = [] })
placed_there fewer may slot l name image is placed =
    ap (λ (w : Result Wanted StartFault). wanted_at w image) (as_if fewer may slot l name)
    ∙ by_place fewer may l.device.first_logical_sector name
    (first_named name (own_parts slot l.parts)) (first_named (store_of name) l.parts) image is
    placed

by_none : (fewer may : Bool) (first : ℕ) (name : List ℕ) (a b : Option PartOfLayout)
    (image : Image)
    → (may && is_placed a b) ≡ false
    → wanted_at
    (if fewer
    then or_fewer (image_wanted may first name InPlace a b)
    else image_wanted may first name InPlace a b)
    image
    ≡ Err (BadStore name)
by_none true may first name None b image none = refl
by_none false may first name None b image none = refl
by_none true may first name (Some p) (Some q) image none = refl
by_none false may first name (Some p) (Some q) image none = refl
by_none fewer true first name (Some p) None image none = absurd cc
by_none true false first name (Some p) None image none = refl
by_none false false first name (Some p) None image none = refl

-- else there is none
pub placed_nowhere : (fewer may : Bool) (slot : ℕ) (l : Layout) (name : List ℕ) (image : Image)
    → (may
    && is_placed (first_named name (own_parts slot l.parts)) (first_named (store_of name) l.parts))
    ≡ false
    → wanted_at (wanted_for fewer may slot l (status_placed name)) image ≡ Err (BadStore name)
placed_nowhere fewer may slot l name image none =
    ap (λ (w : Result Wanted StartFault). wanted_at w image) (as_if fewer may slot l name)
    ∙ by_none fewer may l.device.first_logical_sector name
    (first_named name (own_parts slot l.parts)) (first_named (store_of name) l.parts) image none

pub is_placed_scan : (slot : ℕ) (l : Layout) (name : List ℕ)
    → is_placed (first_named name (own_parts slot l.parts)) (first_named (store_of name) l.parts)
    ≡ true
    → IsScanned slot l (record { name = name; chunk = One; exceptions = [] })
is_placed_scan slot l name placed =
    by_parts (first_named name (own_parts slot l.parts)) (first_named (store_of name) l.parts) refl
    refl placed
  where
    by_parts : (a b : Option PartOfLayout)
        → first_named name (own_parts slot l.parts) ≡ a
        → first_named (store_of name) l.parts ≡ b
        → is_placed a b ≡ true
        → IsScanned slot l (record { name = name; chunk = One; exceptions = [] })
    by_parts None b named stored placed = absurd cc
    by_parts (Some p) (Some q) named stored placed = absurd cc
    by_parts (Some p) None named stored placed = record {
      part = p;
      store = None;
      named = named;
      stored =
          ap
          (option_map
          (λ (q : PartOfLayout). sectors_of l.device.first_logical_sector q.blocks))
          stored;
      fits = refl;
    }

pub scans_step : (W : PartStatus → Result Wanted StartFault) (all : List (Option PartStatus))
    (i : ℕ)
    (s : PartStatus) (image : Image) (done : List Scan) (x : Scan)
    → i < length all
    → Some s ≡ get_or all i (Some s)
    → wanted_at (W s) image ≡ Ok (scanned_of x)
    → (scans_in (map W (written_in (drop i all))) image >>= λ rest. Ok (scans_of done ++ rest))
    ≡ (scans_in (map W (written_in (drop (i + 1) all))) image
    >>= λ rest. Ok (scans_of (done ++ x ∷ []) ++ rest))
scans_step W all i s image done x lt at is =
    ap
    (λ (l : List (Option PartStatus)).
    scans_in (map W (written_in l)) image >>= λ rest. Ok (scans_of done ++ rest))
    (drop_at all i (Some s) lt at)
    ∙ scans_ok (W s) (map W (written_in (drop (i + 1) all))) image (scans_of done) (scanned_of x) is
    ∙ ap
    (λ (l : List Scanned).
    scans_in (map W (written_in (drop (i + 1) all))) image >>= λ rest. Ok (l ++ rest))
    (sym (map-append scanned_of done (x ∷ [])))

pub scans_skip : (W : PartStatus → Result Wanted StartFault) (all : List (Option PartStatus))
    (i : ℕ)
    (image : Image) (done : List Scan)
    → i < length all
    → None ≡ get_or all i None
    → (scans_in (map W (written_in (drop i all))) image >>= λ rest. Ok (scans_of done ++ rest))
    ≡ (scans_in (map W (written_in (drop (i + 1) all))) image >>= λ rest.
    Ok (scans_of done ++ rest))
scans_skip W all i image done lt at =
    ap
    (λ (l : List (Option PartStatus)).
    scans_in (map W (written_in l)) image >>= λ rest. Ok (scans_of done ++ rest))
    (drop_at all i None lt at)
