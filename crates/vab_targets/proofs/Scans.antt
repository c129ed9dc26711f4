-- What is read of the images that statuses name.
use Rattle.std.proofs.Common.{◌≡◌, ◌∙◌, inl, inr, ℕ, Bool, true, false, List, [], ◌∷◌, length}
use Rattle.std.proofs.Common.{map, Option, Some, None, Result, Ok, Err, refl, sym, ap}
use Rattle.std.specs.Prelude.{◌&&◌}
use Rattle.std.specs.Str.{bytes_eq}
use Rattle.std.proofs.lemmas.Bool.{cases_Bool, both_ways}
use Rattle.vab_disk.specs.Disk.{Image}
use Rattle.vab_names.specs.Names.{store_of}
use Rattle.vab_names.proofs.NameCases.{same_name}
use Rattle.vab_marks.specs.declared.status.PartStatus.{PartStatus}
use Rattle.vab_marks.specs.declared.status.StatusImage.{StatusImage}
use Rattle.vab_marks.specs.declared.status.StatusImage.TheVariants.{Stored, InPlace}
use Rattle.vab_layout.specs.declared.layout.Part.{Part as PartOfLayout}
use Rattle.vab_layout.specs.declared.layout.Layout.{Layout}
use Rattle.vab_layout.specs.Slots.{own_parts}
use Rattle.vab_exceptions.specs.declared.area.Exception.{Exception}
use Rattle.vab_space.specs.declared.Chunk.TheVariants.{One}
use Rattle.vab_store.specs.declared.fault.StoreFault.{StoreFault}
use Rattle.vab_store.specs.Scan.{scan_of}
use Rattle.vab_builder.specs.Sizes.{has_part}
use Rattle.vab_device.specs.declared.fault.StartFault.{StartFault}
use Rattle.vab_device.specs.declared.fault.StartFault.TheVariants.{BadStore}
use Rattle.vab_device.specs.Checks.{unless, ◌>>=◌}
use Rattle.vab_device.specs.Kept.{sectors_of}
use Rattle.vab_device.specs.Stores.{Wanted, Scanned, first_named, image_wanted, wanted_of, is_long}
use Rattle.vab_device.specs.Stores.{is_one, scan_read, scan_by, scan_at, scans_in}
use Rattle.vab_device.specs.Stores.{scanned_named}
use Rattle.vab_device.proofs.CheckLaws.{bound}
use Rattle.vab_device.proofs.StoreLaws.{clean_taken}
use Rattle.vab_edit.proofs.NamedLaws.{first_is}

-- the first of the images that were read, and the others
pub record IsScanned (r : Result Wanted StartFault) (ws : List (Result Wanted StartFault))
    (image : Image) (scanned : List Scanned) : Type 0 where
  pub wanted : Wanted
  pub is : r ≡ Ok wanted
  pub scan : Scanned
  pub read : scan_at wanted image ≡ Ok scan
  pub rest : List Scanned
  pub behind : scans_in ws image ≡ Ok rest
  pub whole : scan ∷ rest ≡ scanned

pub scanned_first : (r : Result Wanted StartFault) (ws : List (Result Wanted StartFault))
    (image : Image) (scanned : List Scanned)
    → scans_in (r ∷ ws) image ≡ Ok scanned
    → IsScanned r ws image scanned
scanned_first (Ok w) ws image scanned read =
    let one = bound (scan_at w image) (λ s. scans_in ws image >>= λ rest. Ok (s ∷ rest)) scanned
    read in
    let others = bound (scans_in ws image) (λ rest. Ok (one.0 ∷ rest)) scanned one.2 in
    let all : Ok (one.0 ∷ others.0) ≡ Ok scanned = others.2 in
    record {
      wanted = w;
      is = refl;
      scan = one.0;
      read = one.1;
      rest = others.0;
      behind = others.1;
      whole = cc;
    }
scanned_first (Err fault) ws image scanned read =
    absurd (let no : (let r : Result (List Scanned) StartFault = Err fault in r ≡ Ok scanned) = read
    in cc)

unless_ok : (b : Bool) (fault : StartFault) (x y : Scanned)
    → unless b fault (Ok x) ≡ Ok y
    → x ≡ y
unless_ok true fault x y h = let same : Ok x ≡ Ok y = h in cc
unless_ok false fault x y h =
    absurd (let no : (let r : Result Scanned StartFault = Err fault in r ≡ Ok y) = h in cc)

scan_name : (w : Wanted) (x : Result (List Exception) StoreFault) (s : Scanned)
    → scan_read w x ≡ Ok s
    → w.name ≡ s.name
scan_name w (Ok es) s h =
    ap (λ (y : Scanned). y.name)
    (unless_ok (is_long w.fewer w.count (length es)) (BadStore w.name)
    (record { name = w.name; chunk = w.chunk; exceptions = es }) s h)
scan_name w (Err fault) s h =
    absurd
    (let no : (let r : Result Scanned StartFault = Err (BadStore w.name) in r ≡ Ok s) = h in cc)

scan_by_name : (w : Wanted) (store : Option (List ℕ)) (image : Image) (s : Scanned)
    → scan_by w store image ≡ Ok s
    → w.name ≡ s.name
scan_by_name w None image s h =
    let read : Scanned = record { name = w.name; chunk = w.chunk; exceptions = [] } in
    let whole : (let r : Result Scanned StartFault = Ok read in r ≡ Ok s) = h in
    let same : read ≡ s = cc in
    ap (λ (x : Scanned). x.name) same
scan_by_name w (Some store) image s h =
    let read : Result Scanned StartFault =
    scan_read w (scan_of w.chunk store (length w.base) image) in
    scan_name w (scan_of w.chunk store (length w.base) image) s
    (clean_taken (w.clean && is_one w.chunk) w.name store image read s h)

pub read_name : (w : Wanted) (image : Image) (s : Scanned)
    → scan_at w image ≡ Ok s
    → w.name ≡ s.name
unfolding scan_at
read_name w image s h = scan_by_name w w.store image s h

-- the partition that a status names
pub record IsWanted (named : List ℕ) (x : Option PartOfLayout) (w : Wanted) : Type 0 where
  pub part : PartOfLayout
  pub found : x ≡ Some part
  pub name : named ≡ w.name

no_store : (name : List ℕ) (w : Wanted)
    → (let r : Result Wanted StartFault = Err (BadStore name) in r ≡ Ok w)
    → ⊥
no_store name w h = cc

wanted_same : (p : PartOfLayout) (found w : Wanted)
    → (let r : Result Wanted StartFault = Ok found in r ≡ Ok w)
    → IsWanted found.name (Some p) w
wanted_same p found w h =
    let same : found ≡ w = cc in
    record { part = p; found = refl; name = ap (λ (v : Wanted). v.name) same }

pub wanted_found : (in_place : Bool) (at : ℕ) (name : List ℕ) (i : StatusImage)
    (x y : Option PartOfLayout) (w : Wanted)
    → image_wanted in_place at name i x y ≡ Ok w
    → IsWanted name x w
wanted_found b at name i None y w h = absurd (no_store name w h)
wanted_found b at name InPlace (Some p) (Some q) w h = absurd (no_store name w h)
wanted_found true at name InPlace (Some p) None w h =
    wanted_same p (record {
      name = name;
      base = sectors_of at p.blocks;
      store = None;
      chunk = One;
      count = 0;
      fewer = false;
      clean = false;
    }) w h
wanted_found false at name InPlace (Some p) None w h = absurd (no_store name w h)
wanted_found b at name (Stored count k) (Some p) None w h = absurd (no_store name w h)
wanted_found b at name (Stored count k) (Some p) (Some q) w h =
    wanted_same p (record {
      name = name;
      base = sectors_of at p.blocks;
      store = Some (sectors_of at q.blocks);
      chunk = k;
      count = count;
      fewer = false;
      clean = false;
    }) w h

-- ---- where no image is in place, each has a store

wanted_stored : (at : ℕ) (name : List ℕ) (i : StatusImage) (x y : Option PartOfLayout)
    (w : Wanted)
    → image_wanted false at name i x y ≡ Ok w
    → (q : PartOfLayout) × (y ≡ Some q)
wanted_stored at name i None y w h = absurd (no_store name w h)
wanted_stored at name InPlace (Some p) None w h = absurd (no_store name w h)
wanted_stored at name InPlace (Some p) (Some q) w h = absurd (no_store name w h)
wanted_stored at name (Stored count k) (Some p) None w h = absurd (no_store name w h)
wanted_stored at name (Stored count k) (Some p) (Some q) w h = (q, refl)

pub storeless_unread : (slot : ℕ) (l : Layout) (name : List ℕ) (ss : List PartStatus)
    (image : Image) (scanned : List Scanned)
    → scans_in (map (wanted_of false slot l) ss) image ≡ Ok scanned
    → has_part (store_of name) l.parts ≡ false
    → scanned_named name scanned ≡ None
storeless_unread slot l name [] image scanned read plain =
    let none : List Scanned = [] in
    let whole : (let r : Result (List Scanned) StartFault = Ok none in r ≡ Ok scanned) = read in
    let same : none ≡ scanned = cc in
    ap (scanned_named name) (sym same)
storeless_unread slot l name (s ∷ ss) image scanned read plain =
    let want : PartStatus → Result Wanted StartFault = wanted_of false slot l in
    let one = scanned_first (want s) (map want ss) image scanned read in
    let named : Option PartOfLayout = first_named s.name (own_parts slot l.parts) in
    let store : Option PartOfLayout = first_named (store_of s.name) l.parts in
    let found = wanted_found false l.device.first_logical_sector s.name s.image named store
    one.wanted one.is in
    let stored = wanted_stored l.device.first_logical_sector s.name s.image named store one.wanted
    one.is in
    let is : s.name ≡ one.scan.name = found.name ∙ read_name one.wanted image one.scan one.read in
    elim (cases_Bool (bytes_eq one.scan.name name)) [
      | inl here ↦
          let there = first_is (store_of s.name) l.parts stored.0 stored.1 in
          let same : s.name ≡ name = is ∙ same_name one.scan.name name here in
          absurd (both_ways (has_part (store_of name) l.parts) plain
          (ap (λ (n : List ℕ). has_part (store_of n) l.parts) (sym same) ∙ there.there))
      | inr other ↦
          ap (scanned_named name) (sym one.whole)
          ∙ rw other (storeless_unread slot l name ss image one.rest one.behind plain)
    ]
