-- The images that statuses name are the same after an edit.
use Rattle.std.proofs.Common.{◌≡◌, ◌∙◌, inl, inr, ℕ, List, [], ◌∷◌, Result, Ok, Err}
use Rattle.std.proofs.Common.{true, false}
use Rattle.std.proofs.Common.{refl, sym, ap, subst, length}
use Rattle.std.specs.Prelude.{◌&&◌, Bool, Option, Some, None, map, is_some}
use Rattle.std.specs.Str.{bytes_eq}
use Rattle.std.proofs.lemmas.Bool.{cases_Bool}
use Rattle.vab_disk.specs.Disk.{Image}
use Rattle.vab_names.specs.Names.{store_of}
use Rattle.vab_marks.specs.declared.status.PartStatus.{PartStatus}
use Rattle.vab_marks.specs.declared.status.StatusImage.{StatusImage}
use Rattle.vab_marks.specs.declared.status.StatusImage.TheVariants.{Stored, InPlace}
use Rattle.vab_exceptions.specs.declared.area.Exception.{Exception}
use Rattle.vab_store.specs.declared.fault.StoreFault.{StoreFault}
use Rattle.vab_store.specs.Scan.{scan_of}
use Rattle.vab_layout.specs.declared.layout.Part.{Part}
use Rattle.vab_layout.specs.declared.layout.Layout.{Layout}
use Rattle.vab_layout.specs.Slots.{own_parts}
use Rattle.vab_names.proofs.NameCases.{same_name, eq_name}
use Rattle.vab_device.specs.declared.fault.StartFault.{StartFault}
use Rattle.vab_device.specs.declared.fault.StartFault.TheVariants.{BadStore}
use Rattle.vab_device.specs.Checks.{unless, ◌>>=◌}
use Rattle.vab_device.specs.Kept.{sectors_of}
use Rattle.vab_space.specs.declared.Chunk.TheVariants.{One}
use Rattle.vab_device.specs.Stores.{Wanted, Scanned, first_named, image_wanted, wanted_by}
use Rattle.vab_device.specs.Stores.{wanted_of, is_long}
use Rattle.vab_device.specs.Stores.{scan_read}
use Rattle.vab_device.specs.Stores.{scan_by, scan_at, scans_in, scanned_named}
use Rattle.vab_device.proofs.CheckLaws.{bound}
use Rattle.vab_edit.proofs.NamedLaws.{HasImage, AreAsBefore, LeavesImages, blocks_of_some}
use Rattle.vab_edit.proofs.NamedLaws.{has_still}
use Rattle.vab_device.proofs.StoreLaws.{clean_taken}
use Rattle.vab_device.specs.Stores.{is_one}

-- what is scanned has the name that is wanted
read_name : (w : Wanted) (x : Result (List Exception) StoreFault) (s : Scanned)
    → scan_read w x ≡ Ok s
    → s.name ≡ w.name
read_name w (Err fault) s is =
    absurd (let bad : (let r : Result Scanned StartFault = Err (BadStore w.name) in r
    ≡ Ok s) = is in cc)
read_name w (Ok es) s is = elim (cases_Bool (is_long w.fewer w.count (length es))) [
  | inl t ↦
      let read : Scanned = record { name = w.name; chunk = w.chunk; exceptions = es } in
      let taken : (let r : Result Scanned StartFault = Ok read in r ≡ Ok s) = rw t at is in
      let same : read ≡ s = cc in
      sym (ap (λ (x : Scanned). x.name) same)
  | inr f ↦
      let bad : (let r : Result Scanned StartFault = Err (BadStore w.name) in r
      ≡ Ok s) = rw f at is in
      absurd cc
]

scan_name : (w : Wanted) (image : Image) (s : Scanned) → scan_at w image ≡ Ok s → s.name ≡ w.name
unfolding scan_at
scan_name w image s is = by_store w.store is
  where
    by_store : (store : Option (List ℕ)) → scan_by w store image ≡ Ok s → s.name ≡ w.name
    by_store None is =
        let read : Scanned = record { name = w.name; chunk = w.chunk; exceptions = [] } in
        let taken : (let r : Result Scanned StartFault = Ok read in r ≡ Ok s) = is in
        let same : read ≡ s = cc in
        sym (ap (λ (x : Scanned). x.name) same)
    by_store (Some store) is =
        let read = scan_read w (scan_of w.chunk store (length w.base) image) in
        read_name w (scan_of w.chunk store (length w.base) image) s
        (clean_taken (w.clean && is_one w.chunk) w.name store image read s is)

-- the first image that is scanned, and the others
record ScansFirst (may : Bool) (name : List ℕ) (a b : Option Part)
    (ws : List (Result Wanted StartFault)) (image : Image) (ss : List Scanned) : Type 0 where
  part : Part
  named : a ≡ Some part
  placed : b ≡ None → may ≡ true
  scan : Scanned
  rest : List Scanned
  scan_named : scan.name ≡ name
  others : scans_in ws image ≡ Ok rest
  is : ss ≡ scan ∷ rest

-- of an image that is wanted
scans_one : (may : Bool) (p : Part) (a b : Option Part) (w : Wanted)
    (ws : List (Result Wanted StartFault)) (image : Image) (ss : List Scanned)
    → a ≡ Some p
    → (b ≡ None → may ≡ true)
    → scans_in (Ok w ∷ ws) image ≡ Ok ss
    → ScansFirst may w.name a b ws image ss
scans_one may p a b w ws image ss named placed h =
    let s = bound (scan_at w image) (λ s. scans_in ws image >>= λ rest. Ok (s ∷ rest)) ss h in
    let rest = bound (scans_in ws image) (λ rest. Ok (s.0 ∷ rest)) ss s.2 in
    let whole : (let r : Result (List Scanned) StartFault = Ok (s.0 ∷ rest.0) in r
    ≡ Ok ss) = rest.2 in
    let same : s.0 ∷ rest.0 ≡ ss = cc in
    record {
      part = p;
      named = named;
      placed = placed;
      scan = s.0;
      rest = rest.0;
      scan_named = scan_name w image s.0 s.1;
      others = rest.1;
      is = sym same;
    }

no_scan : (may : Bool) (name : List ℕ) (a b : Option Part) (fault : StartFault)
    (ws : List (Result Wanted StartFault)) (image : Image) (ss : List Scanned)
    → scans_in (Err fault ∷ ws) image ≡ Ok ss
    → ScansFirst may name a b ws image ss
no_scan may name a b fault ws image ss h =
    absurd (let bad : (let r : Result (List Scanned) StartFault = Err fault in r ≡ Ok ss) = h in cc)

scans_first : (may : Bool) (first : ℕ) (name : List ℕ) (x : StatusImage) (a b : Option Part)
    (ws : List (Result Wanted StartFault)) (image : Image) (ss : List Scanned)
    → scans_in (image_wanted may first name x a b ∷ ws) image ≡ Ok ss
    → ScansFirst may name a b ws image ss
scans_first may first name InPlace None b ws image ss h =
    no_scan may name None b (BadStore name) ws image ss h
scans_first may first name InPlace (Some p) (Some q) ws image ss h =
    no_scan may name (Some p) (Some q) (BadStore name) ws image ss h
scans_first false first name InPlace (Some p) None ws image ss h =
    no_scan false name (Some p) None (BadStore name) ws image ss h
scans_first true first name InPlace (Some p) None ws image ss h =
    scans_one true p (Some p) None
    (record {
      name = name;
      base = sectors_of first p.blocks;
      store = None;
      chunk = One;
      count = 0;
      fewer = false;
      clean = false;
    })
    ws image ss refl (λ none. refl) h
scans_first may first name (Stored count k) None b ws image ss h =
    no_scan may name None b (BadStore name) ws image ss h
scans_first may first name (Stored count k) (Some p) None ws image ss h =
    no_scan may name (Some p) None (BadStore name) ws image ss h
scans_first may first name (Stored count k) (Some p) (Some q) ws image ss h =
    scans_one may p (Some p) (Some q)
    (record {
      name = name;
      base = sectors_of first p.blocks;
      store = Some (sectors_of first q.blocks);
      chunk = k;
      count = count;
      fewer = false;
      clean = false;
    })
    ws image ss refl
    (λ none. absurd (let bad : (let x : Option Part = Some q in x ≡ None) = none in cc)) h

-- ---- a partition whose image was scanned is there

-- that of the first
has_first : (may : Bool) (slot : ℕ) (l : Layout) (name : List ℕ)
    (ws : List (Result Wanted StartFault)) (image : Image) (ss : List Scanned)
    → ScansFirst may name (first_named name (own_parts slot l.parts))
    (first_named (store_of name) l.parts) ws image ss
    → HasImage may slot l name
has_first may slot l name ws image ss f = record {
  part = f.part;
  store = first_named (store_of name) l.parts;
  named = f.named;
  stored = refl;
  placed = f.placed;
}

pub scanned_both : (may : Bool) (slot : ℕ) (l : Layout) (sts : List PartStatus) (image : Image)
    (ss : List Scanned) (name : List ℕ)
    → scans_in (map (wanted_of may slot l) sts) image ≡ Ok ss
    → is_some (scanned_named name ss) ≡ true
    → HasImage may slot l name
scanned_both may slot l [] image ss name h found =
    let none : (let r : Result (List Scanned) StartFault = Ok [] in r ≡ Ok ss) = h in
    let same : [] ≡ ss = cc in
    let bad : false ≡ true = ap (λ (xs : List Scanned). is_some (scanned_named name xs)) same
    ∙ found in
    absurd cc
scanned_both may slot l (st ∷ sts) image ss name h found =
    let f = scans_first may l.device.first_logical_sector st.name st.image
    (first_named st.name (own_parts slot l.parts)) (first_named (store_of st.name) l.parts)
    (map (wanted_of may slot l) sts) image ss h in
    let at : is_some (scanned_named name (f.scan ∷ f.rest)) ≡ true =
    sym (ap (λ (xs : List Scanned). is_some (scanned_named name xs)) f.is) ∙ found in
    elim (cases_Bool (bytes_eq f.scan.name name)) [
      | inl t ↦
          subst (HasImage may slot l) (sym f.scan_named ∙ same_name f.scan.name name t)
          (has_first may slot l st.name (map (wanted_of may slot l) sts) image ss f)
      | inr other ↦ scanned_both may slot l sts image f.rest name f.others (rw other at at)
    ]

-- ---- what statuses want after an edit

image_still : (may : Bool) (n o : ℕ) (name : List ℕ) (x : StatusImage) (p r : Part)
    (q s : Option Part)
    → n ≡ o
    → p.blocks ≡ r.blocks
    → blocks_of_some q ≡ blocks_of_some s
    → image_wanted may n name x (Some p) q ≡ image_wanted may o name x (Some r) s
image_still may n o name x p r None (Some s) first part store =
    absurd (let bad : (let y : Option (List ℕ) = None in y ≡ Some s.blocks) = store in cc)
image_still may n o name x p r (Some q) None first part store =
    absurd (let bad : (let y : Option (List ℕ) = Some q.blocks in y ≡ None) = store in cc)
image_still may n o name InPlace p r None None first part store =
    (λ i. unless may (BadStore name) (Ok (record {
      name = name;
      base = sectors_of (first i) (part i);
      store = None;
      chunk = One;
      count = 0;
      fewer = false;
      clean = false;
    })))
image_still may n o name InPlace p r (Some q) (Some s) first part store = refl
image_still may n o name (Stored count k) p r None None first part store = refl
image_still may n o name (Stored count k) p r (Some q) (Some s) first part store =
    let whole : (let y : Option (List ℕ) = Some q.blocks in y ≡ Some s.blocks) = store in
    let same : q.blocks ≡ s.blocks = cc in
    (λ i. Ok (record {
      name = name;
      base = sectors_of (first i) (part i);
      store = Some (sectors_of (first i) (same i));
      chunk = k;
      count = count;
      fewer = false;
      clean = false;
    }))

want_still : (may : Bool) (slot : ℕ) (old new : Layout) (st : PartStatus)
    → new.device ≡ old.device
    → AreAsBefore st.name old new
    → HasImage may slot old st.name
    → wanted_of may slot new st ≡ wanted_of may slot old st
want_still may slot old new st device left b =
    let still = has_still may slot old new st.name left b in
    let n : ℕ = new.device.first_logical_sector in
    let o : ℕ = old.device.first_logical_sector in
    let first : n ≡ o = ap (λ (d : _). d.first_logical_sector) device in
    let right : wanted_by may o st (first_named st.name (own_parts slot old.parts)) (first_named
    (store_of st.name) old.parts)
    ≡ wanted_by may o st (Some b.part) b.store =
    (λ i. wanted_by may o st (b.named i) (b.stored i)) in
    let now : wanted_by may n st (first_named st.name (own_parts slot new.parts)) (first_named
    (store_of st.name) new.parts)
    ≡ wanted_by may n st (Some still.both.part) still.both.store =
    (λ i. wanted_by may n st (still.both.named i) (still.both.stored i)) in
    now
    ∙ image_still may n o st.name st.image still.both.part b.part still.both.store b.store first
    still.part_blocks still.store_blocks
    ∙ sym right

-- the first of those that were scanned is one, and so are the others
scanned_first : (name : List ℕ) (scan : Scanned) (rest : List Scanned)
    → scan.name ≡ name
    → is_some (scanned_named name (scan ∷ rest)) ≡ true
scanned_first name scan rest is =
    let here : bytes_eq scan.name name ≡ true = eq_name scan.name name is in
    rw here refl

scanned_later : (name : List ℕ) (scan : Scanned) (rest : List Scanned)
    → is_some (scanned_named name rest) ≡ true
    → is_some (scanned_named name (scan ∷ rest)) ≡ true
scanned_later name scan rest is = elim (cases_Bool (bytes_eq scan.name name)) [
  | inl here ↦ rw here refl
  | inr other ↦ rw other is
]

pub wanted_still : (may : Bool) (slot : ℕ) (old new : Layout) (sts : List PartStatus)
    (image : Image) (ss : List Scanned)
    → new.device ≡ old.device
    → LeavesImages ss old new
    → scans_in (map (wanted_of may slot old) sts) image ≡ Ok ss
    → map (wanted_of may slot new) sts ≡ map (wanted_of may slot old) sts
wanted_still may slot old new [] image ss device leaves h = refl
wanted_still may slot old new (st ∷ sts) image ss device leaves h =
    let f = scans_first may old.device.first_logical_sector st.name st.image
    (first_named st.name (own_parts slot old.parts)) (first_named (store_of st.name) old.parts)
    (map (wanted_of may slot old) sts) image ss h in
    let leave : LeavesImages (f.scan ∷ f.rest) old new =
    subst (λ (xs : List Scanned). LeavesImages xs old new) f.is leaves in
    let here = want_still may slot old new st device
    (leave st.name (scanned_first st.name f.scan f.rest f.scan_named))
    (has_first may slot old st.name (map (wanted_of may slot old) sts) image ss f) in
    let rest = wanted_still may slot old new sts image f.rest device
    (λ name is. leave name (scanned_later name f.scan f.rest is)) f.others in
    (λ i. here i ∷ rest i)
