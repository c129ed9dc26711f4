-- Stores that have all the exceptions that their statuses say are read also where there may be
-- fewer, and where an image may stand in place.
use Rattle.std.proofs.Common.{◌≡◌, inl, inr, ℕ, true, false, leb, List, [], ◌∷◌, length, ap, ◌∙◌}
use Rattle.std.proofs.Common.{Result, Ok, Err, refl, arith, sym}
use Rattle.std.specs.Prelude.{Bool, map, Option, Some, None}
use Rattle.std.proofs.lemmas.Bool.{cases_Bool, eqb-true, le-leb}
use Rattle.vab_disk.specs.Disk.{Image}
use Rattle.vab_exceptions.specs.declared.area.Exception.{Exception}
use Rattle.vab_names.specs.Names.{store_of}
use Rattle.vab_marks.specs.declared.status.PartStatus.{PartStatus}
use Rattle.vab_marks.specs.declared.status.StatusImage.{StatusImage}
use Rattle.vab_marks.specs.declared.status.StatusImage.TheVariants.{Stored, InPlace}
use Rattle.vab_layout.specs.declared.layout.Part.{Part as PartOfLayout}
use Rattle.vab_layout.specs.declared.layout.Layout.{Layout}
use Rattle.vab_layout.specs.Slots.{own_parts}
use Rattle.vab_store.specs.declared.fault.StoreFault.{StoreFault}
use Rattle.vab_store.specs.Scan.{scan_of}
use Rattle.vab_device.specs.declared.fault.StartFault.{StartFault}
use Rattle.vab_device.specs.declared.fault.StartFault.TheVariants.{BadStore}
use Rattle.vab_device.specs.Checks.{◌>>=◌}
use Rattle.vab_device.specs.Stores.{Wanted, Scanned, first_named, image_wanted, wanted_of, clean_by}
use Rattle.vab_device.specs.Stores.{or_fewer, is_long, scan_read, scan_by, scan_at, scans_in}
use Rattle.vab_device.proofs.CheckLaws.{bound}
use Rattle.vab_device.proofs.StoreLaws.{clean_taken}
use Rattle.vab_device.specs.Stores.{is_one}
use Rattle.std.specs.Prelude.{◌&&◌}

long_enough : (fewer : Bool) (count n : ℕ) → is_long fewer count n ≡ true → leb n count ≡ true
long_enough true count n is = is
long_enough false count n is =
    let same : n ≡ count = eqb-true n count is in
    le-leb n count (omega (arith, same))

read_fewer : (w : Wanted) (x : Result (List Exception) StoreFault) (s : Scanned)
    → scan_read w x ≡ Ok s
    → scan_read (record w { fewer = true }) x ≡ Ok s
read_fewer w (Ok es) s is = elim (cases_Bool (is_long w.fewer w.count (length es))) [
  | inl long ↦
      let taken : (let x : Result Scanned StartFault = Ok (record {
        name = w.name;
        chunk = w.chunk;
        exceptions = es;
      }) in x ≡ Ok s) = rw long at is in
      rw (long_enough w.fewer w.count (length es) long) taken
  | inr short ↦
      let bad : (let x : Result Scanned StartFault = Err (BadStore w.name) in x ≡ Ok s) =
      rw short at is in
      absurd cc
]
read_fewer w (Err fault) s is =
    absurd (let bad : (let x : Result Scanned StartFault = Err (BadStore w.name) in x ≡ Ok s) =
    is in cc)

-- what ends clean does, however its list was read
clean_again : (clean : Bool) (name store : List ℕ) (image : Image)
    (x y : Result Scanned StartFault) (s : Scanned)
    → x ≡ Ok s
    → y ≡ Ok s
    → clean_by clean name store image x ≡ Ok s
    → clean_by clean name store image y ≡ Ok s
clean_again clean name store image x y s one other is =
    ap (clean_by clean name store image) (other ∙ sym one) ∙ is

scan_fewer : (w : Wanted) (image : Image) (s : Scanned)
    → scan_at w image ≡ Ok s
    → scan_at (record w { fewer = true }) image ≡ Ok s
unfolding scan_at
scan_fewer w image s is = by_store w w.store image s is
  where
    by_store : (w : Wanted) (store : Option (List ℕ)) (image : Image) (s : Scanned)
        → scan_by w store image ≡ Ok s
        → scan_by (record w { fewer = true }) store image ≡ Ok s
    by_store w None image s is = is
    by_store w (Some store) image s is =
        let x = scan_of w.chunk store (length w.base) image in
        let clean : Bool = w.clean && is_one w.chunk in
        let read = clean_taken clean w.name store image (scan_read w x) s is in
        clean_again clean w.name store image (scan_read w x)
        (scan_read (record w { fewer = true }) x) s read (read_fewer w x s read) is

-- ---- where an image may stand in place

-- what is wanted is wanted there too
abbrev IsAlso : Result Wanted StartFault → Result Wanted StartFault → Type 0
IsAlso (Ok w) also = also ≡ Ok w
IsAlso (Err fault) also = Unit {0}

wanted_also : (may : Bool) (first : ℕ) (name : List ℕ) (x : StatusImage)
    (p q : Option PartOfLayout)
    → IsAlso (image_wanted may first name x p q) (image_wanted true first name x p q)
wanted_also may first name InPlace None q = tt
wanted_also may first name InPlace (Some p) (Some q) = tt
wanted_also true first name InPlace (Some p) None = refl
wanted_also false first name InPlace (Some p) None = tt
wanted_also may first name (Stored count k) None q = tt
wanted_also may first name (Stored count k) (Some p) None = tt
wanted_also may first name (Stored count k) (Some p) (Some q) = refl

one_fewer : (x also : Result Wanted StartFault) (ws fewer : List (Result Wanted StartFault))
    (image : Image) (ss : List Scanned)
    → IsAlso x also
    → ((rest : List Scanned) → scans_in ws image ≡ Ok rest → scans_in fewer image ≡ Ok rest)
    → scans_in (x ∷ ws) image ≡ Ok ss
    → scans_in (or_fewer also ∷ fewer) image ≡ Ok ss
one_fewer (Err fault) also ws fewer image ss same others is = absurd cc
one_fewer (Ok w) also ws fewer image ss same others is =
    let first = bound (scan_at w image) (λ s. scans_in ws image >>= λ rest. Ok (s ∷ rest)) ss is in
    let rest = bound (scans_in ws image) (λ rest. Ok (first.0 ∷ rest)) ss first.2 in
    rw (same, scan_fewer w image first.0 first.1, others rest.0 rest.1) rest.2

-- each of these stores may have fewer
pub scans_fewer : (may : Bool) (slot : ℕ) (l : Layout) (statuses : List PartStatus)
    (image : Image) (ss : List Scanned)
    → scans_in (map (wanted_of may slot l) statuses) image ≡ Ok ss
    → scans_in (map (λ (s : PartStatus). or_fewer (wanted_of true slot l s)) statuses) image
    ≡ Ok ss
scans_fewer may slot l [] image ss is = is
scans_fewer may slot l (st ∷ sts) image ss is =
    one_fewer (wanted_of may slot l st) (wanted_of true slot l st)
    (map (wanted_of may slot l) sts)
    (map (λ (s : PartStatus). or_fewer (wanted_of true slot l s)) sts) image ss
    (wanted_also may l.device.first_logical_sector st.name st.image
    (first_named st.name (own_parts slot l.parts)) (first_named (store_of st.name) l.parts))
    (λ rest. scans_fewer may slot l sts image rest) is
