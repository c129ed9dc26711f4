-- What is read behind the heads is the same where `super` is.
use Rattle.std.proofs.Common.{◌≡◌, ◌∙◌, inl, inr, ℕ, ◌+◌, ◌≤◌, List, [], ◌∷◌, length, Result, Ok}
use Rattle.std.proofs.Common.{Err, ⊎_elim, refl, sym, ap, subst, arith}
use Rattle.std.specs.Prelude.{Bool, true, false, ◌&&◌, Option, Some, None, map}
use Rattle.std.proofs.lemmas.Bool.{cases_Bool}
use Rattle.vab_disk.specs.Disk.{Image}
use Rattle.vab_gate.proofs.Blocks.{sectors_same}
use Rattle.vab_names.specs.Names.{store_of}
use Rattle.vab_marks.specs.declared.mark.UpdateMark.{UpdateMark}
use Rattle.vab_marks.specs.Mark.{is_idle}
use Rattle.vab_marks.specs.declared.status.PartStatus.{PartStatus}
use Rattle.vab_marks.specs.declared.status.StatusImage.{StatusImage}
use Rattle.vab_marks.specs.declared.status.StatusImage.TheVariants.{Stored, InPlace}
use Rattle.vab_statuses.specs.Statuses.{written_in}
use Rattle.vab_exceptions.specs.declared.area.Exception.{Exception}
use Rattle.vab_space.specs.declared.Chunk.TheVariants.{One}
use Rattle.vab_store.specs.declared.fault.StoreFault.{StoreFault}
use Rattle.vab_store.specs.Scan.{scan_of}
use Rattle.vab_store.specs.Clean.{ends_clean}
use Rattle.vab_geometry.specs.declared.geometry.Geometry.{Geometry}
use Rattle.vab_lpstore.specs.declared.loaded.Loaded.{Loaded}
use Rattle.vab_lpstore.specs.Layout.{copy_sectors, primary_of, backup_of, primary_bytes}
use Rattle.vab_lpstore.specs.Layout.{backup_bytes}
use Rattle.vab_lpstore.specs.Loading.{IsLoaded}
use Rattle.vab_layout.specs.declared.layout.Part.{Part as PartOfLayout}
use Rattle.vab_layout.specs.declared.layout.Layout.{Layout}
use Rattle.vab_layout.specs.Layout.{layout_of}
use Rattle.vab_layout.specs.Slots.{other_slot, own_parts}
use Rattle.vab_layout.specs.Overlay.{Overlaid, overlaid_in}
use Rattle.vab_device.specs.declared.fault.StartFault.{StartFault}
use Rattle.vab_device.specs.declared.fault.StartFault.TheVariants.{BadStore}
use Rattle.vab_device.specs.Checks.{◌>>=◌}
use Rattle.vab_device.specs.Kept.{block_sector, sectors_of}
use Rattle.vab_device.specs.Phases.{phase_at, wanted_over, overlay_wanted}
use Rattle.vab_device.specs.Reading.{tables_in, IsOfTables, IsOfBlocks}
use Rattle.vab_device.specs.Mounted.{blocks_there}
use Rattle.vab_device.specs.Stores.{Wanted, Scanned, first_named, image_wanted, wanted_of, or_fewer}
use Rattle.vab_device.specs.Stores.{is_long, is_one, clean_by, scan_read, scan_by, scan_at}
use Rattle.vab_device.specs.Stores.{scans_in}
use Rattle.vab_device.proofs.SameLaws.{tables_agree}
use Rattle.vab_device.proofs.InStores.{in_stores}
use Rattle.vab_device.proofs.StoreLaws.{stores_kept}
use Rattle.vab_recover.specs.Behind.{SameSuper}
use Rattle.vab_recover.specs.Opened.{AreLoaded, IsHeaded, IsFramed, wanted_for, stores_by}
use Rattle.vab_recover.specs.Opened.{stores_at}
use Rattle.vab_recover.specs.Opened.{is_merging, may_place, tables_of, through_of, through_slot}
use Rattle.vab_recover.specs.Repairs.{IsLoadedAt}
use Rattle.vab_recover.specs.declared.frame.Frame.{Frame}
use Rattle.vab_recover.specs.declared.table.Tables.{Tables}
use Rattle.vab_recover.proofs.FinishLaws.{some_all}
use Rattle.vab_recover.proofs.FrameLaws.{stores_for}

-- ---- tables

tables_behind : (g : Geometry) (slots : List ℕ) (s : ℕ) → IsOfTables g slots s → 4096 ≤ s
unfolding primary_of backup_of
tables_behind g [] s is = absurd is
tables_behind g (slot ∷ slots) s (inl is) = omega (arith, is.from)
tables_behind g (slot ∷ slots) s (inr (inl is)) = omega (arith, is.from)
tables_behind g (slot ∷ slots) s (inr (inr is)) = tables_behind g slots s is

pub tables_as : (size : ℕ) (g : Geometry) (slots : List ℕ) (old new : Image)
    → SameSuper old new
    → tables_in size g slots new ≡ tables_in size g slots old
tables_as size g slots old new same =
    tables_agree size g slots old new (λ s is. same s (tables_behind g slots s is))

primary_as : (g : Geometry) (slot : ℕ) (old new : Image)
    → SameSuper old new
    → primary_bytes g slot new ≡ primary_bytes g slot old
unfolding primary_of
primary_as g slot old new same =
    sectors_same (copy_sectors g) (primary_of g slot) old new
    (λ k below. same (primary_of g slot + k) (omega arith))

backup_as : (g : Geometry) (slot : ℕ) (old new : Image)
    → SameSuper old new
    → backup_bytes g slot new ≡ backup_bytes g slot old
unfolding backup_of
backup_as g slot old new same =
    sectors_same (copy_sectors g) (backup_of g slot) old new
    (λ k below. same (backup_of g slot + k) (omega arith))

one_as : (g : Geometry) (slot : ℕ) (old new : Image) (l : Loaded)
    → SameSuper old new
    → IsLoadedAt g slot old l
    → IsLoadedAt g slot new l
one_as g slot old new l same is =
    subst (λ (p : List ℕ). IsLoaded g.max p (backup_bytes g slot new) l)
    (sym (primary_as g slot old new same))
    (subst (λ (b : List ℕ). IsLoaded g.max (primary_bytes g slot old) b l)
    (sym (backup_as g slot old new same)) is)

pub loaded_as : (g : Geometry) (slot : ℕ) (old new : Image) (t : Tables)
    → SameSuper old new
    → AreLoaded g slot old t
    → AreLoaded g slot new t
loaded_as g slot old new t same are = record {
  source = one_as g slot old new t.source same are.source;
  target =
      some_all (IsLoadedAt g (other_slot slot) old) (IsLoadedAt g (other_slot slot) new) t.target
      (λ l is. one_as g (other_slot slot) old new l same is) are.target;
}

-- ---- stores

-- the blocks of a store that is wanted stand in `super`
abbrev IsBehind : Result Wanted StartFault → Type 0
IsBehind (Ok w) = (s : ℕ) → IsOfBlocks (blocks_there w.store) s → 4096 ≤ s
IsBehind (Err fault) = Unit {0}

blocks_behind : (first : ℕ) (blocks : List ℕ) (s : ℕ)
    → IsOfBlocks (map (block_sector first) blocks) s
    → 4096 ≤ s
blocks_behind first [] s is = absurd is
blocks_behind first (b ∷ bs) s (inl is) = omega (arith, is.from)
blocks_behind first (b ∷ bs) s (inr is) = blocks_behind first bs s is

sectors_behind : (first : ℕ) (blocks : List ℕ) (s : ℕ)
    → IsOfBlocks (sectors_of first blocks) s
    → 4096 ≤ s
unfolding sectors_of
sectors_behind first blocks s is = blocks_behind first blocks s is

by_behind : (may : Bool) (first : ℕ) (name : List ℕ) (x : StatusImage)
    (p q : Option PartOfLayout)
    → IsBehind (image_wanted may first name x p q)
by_behind may first name InPlace None q = tt
by_behind may first name InPlace (Some p) (Some q) = tt
by_behind true first name InPlace (Some p) None = λ s is. absurd is
by_behind false first name InPlace (Some p) None = tt
by_behind may first name (Stored count k) None q = tt
by_behind may first name (Stored count k) (Some p) None = tt
by_behind may first name (Stored count k) (Some p) (Some q) =
    λ s is. sectors_behind first q.blocks s is

fewer_behind : (x : Result Wanted StartFault) → IsBehind x → IsBehind (or_fewer x)
fewer_behind (Ok w) is = is
fewer_behind (Err fault) is = tt

wanted_behind : (fewer may : Bool) (slot : ℕ) (l : Layout) (st : PartStatus)
    → IsBehind (wanted_for fewer may slot l st)
wanted_behind false may slot l st =
    by_behind may l.device.first_logical_sector st.name st.image
    (first_named st.name (own_parts slot l.parts)) (first_named (store_of st.name) l.parts)
wanted_behind true may slot l st =
    fewer_behind (wanted_of may slot l st)
    (by_behind may l.device.first_logical_sector st.name st.image
    (first_named st.name (own_parts slot l.parts)) (first_named (store_of st.name) l.parts))

-- what is wrong with a store is told by its name alone
read_fault : (w : Wanted) (x : Result (List Exception) StoreFault) (f : StartFault)
    → scan_read w x ≡ Err f
    → f ≡ BadStore w.name
read_fault w (Ok es) f is = elim (cases_Bool (is_long w.fewer w.count (length es))) [
  | inl long ↦
      let no : (let r : Result Scanned StartFault =
      Ok (record { name = w.name; chunk = w.chunk; exceptions = es }) in r ≡ Err f) =
      rw long at is in
      absurd cc
  | inr short ↦
      let bad : (let r : Result Scanned StartFault = Err (BadStore w.name) in r ≡ Err f) =
      rw short at is in
      cc
]
read_fault w (Err e) f is = cc

clean_fault : (clean : Bool) (name store : List ℕ) (image : Image) (x : Result Scanned StartFault)
    (f : StartFault)
    → ((h : StartFault) → x ≡ Err h → h ≡ BadStore name)
    → clean_by clean name store image x ≡ Err f
    → f ≡ BadStore name
clean_fault false name store image x f bad is = bad f is
clean_fault true name store image (Err e) f bad is = bad f is
clean_fault true name store image (Ok s) f bad is =
    elim (cases_Bool (ends_clean store (length s.exceptions) image)) [
      | inl clean ↦
          let no : (let r : Result Scanned StartFault = Ok s in r ≡ Err f) = rw clean at is in
          absurd cc
      | inr unclean ↦
          let told : (let r : Result Scanned StartFault = Err (BadStore name) in r ≡ Err f) =
          rw unclean at is in
          cc
    ]

by_fault : (w : Wanted) (store : Option (List ℕ)) (image : Image) (f : StartFault)
    → scan_by w store image ≡ Err f
    → f ≡ BadStore w.name
by_fault w None image f is = absurd cc
by_fault w (Some store) image f is =
    let read = scan_read w (scan_of w.chunk store (length w.base) image) in
    clean_fault (w.clean && is_one w.chunk) w.name store image read f
    (λ h bad. read_fault w (scan_of w.chunk store (length w.base) image) h bad) is

scan_fault : (w : Wanted) (image : Image) (f : StartFault)
    → scan_at w image ≡ Err f
    → f ≡ BadStore w.name
unfolding scan_at
scan_fault w image f is = by_fault w w.store image f is

one_scan : (x : Scanned) (r : Result Scanned StartFault)
    → (r >>= λ s. Ok [] >>= λ rest. Ok (s ∷ rest)) ≡ Ok (x ∷ [])
    → r ≡ Ok x
one_scan x (Ok s) is =
    let one : (let r : Result (List Scanned) StartFault = Ok (s ∷ []) in r ≡ Ok (x ∷ [])) = is in
    let same : s ≡ x = cc in
    ap Ok same
one_scan x (Err f) is =
    absurd (let no : (let r : Result (List Scanned) StartFault = Err f in r ≡ Ok (x ∷ [])) = is in
    cc)

-- a store whose sectors stay says the same, also where it is no list
stays_ok : (w : Wanted) (old new : Image) (x : Scanned)
    → ((s : ℕ) → IsOfBlocks (blocks_there w.store) s → new s ≡ old s)
    → scan_at w old ≡ Ok x
    → scan_at w new ≡ Ok x
stays_ok w old new x same is =
    let one : scans_in (Ok w ∷ []) old ≡ Ok (x ∷ []) =
    ap (λ (r : Result Scanned StartFault). r >>= λ s. Ok [] >>= λ rest. Ok (s ∷ rest)) is in
    one_scan x (scan_at w new)
    (stores_kept (Ok w ∷ []) old new (x ∷ [])
    (λ s there.
    same s (⊎_elim (λ here. here) (λ none. absurd none)
    (in_stores (Ok w ∷ []) (x ∷ []) old s one there)))
    one
    ∙ one)

wanted_as : (w : Wanted) (old new : Image)
    → ((s : ℕ) → IsOfBlocks (blocks_there w.store) s → new s ≡ old s)
    → scan_at w new ≡ scan_at w old
wanted_as w old new same = by_both (scan_at w old) (scan_at w new) refl refl
  where
    by_both : (x y : Result Scanned StartFault)
        → scan_at w old ≡ x
        → scan_at w new ≡ y
        → scan_at w new ≡ scan_at w old
    by_both (Ok x) y was is = stays_ok w old new x same was ∙ sym was
    by_both (Err f) (Ok y) was is =
        let back : scan_at w old ≡ Ok y =
        stays_ok w new old y (λ s there. sym (same s there)) is in
        let no : (let bad : Result Scanned StartFault = Err f in bad ≡ Ok y) = sym was ∙ back in
        absurd cc
    by_both (Err f) (Err h) was is =
        is ∙ ap Err (scan_fault w new h is ∙ sym (scan_fault w old f was)) ∙ sym was

each_as : (x : Result Wanted StartFault) (ws : List (Result Wanted StartFault)) (old new : Image)
    → SameSuper old new
    → IsBehind x
    → scans_in ws new ≡ scans_in ws old
    → scans_in (x ∷ ws) new ≡ scans_in (x ∷ ws) old
each_as (Err fault) ws old new same behind rest = refl
each_as (Ok w) ws old new same behind rest =
    let here = wanted_as w old new (λ s is. same s (behind s is)) in
    (λ i. here i >>= λ s. rest i >>= λ ss. Ok (s ∷ ss))

mapped_as : (fewer may : Bool) (slot : ℕ) (l : Layout) (statuses : List PartStatus)
    (old new : Image)
    → SameSuper old new
    → scans_in (map (wanted_for fewer may slot l) statuses) new
    ≡ scans_in (map (wanted_for fewer may slot l) statuses) old
mapped_as fewer may slot l [] old new same = refl
mapped_as fewer may slot l (st ∷ sts) old new same =
    each_as (wanted_for fewer may slot l st) (map (wanted_for fewer may slot l) sts) old new same
    (wanted_behind fewer may slot l st) (mapped_as fewer may slot l sts old new same)

pub stores_as : (fewer may : Bool) (slot : ℕ) (through : Option Loaded)
    (statuses : List PartStatus) (old new : Image)
    → SameSuper old new
    → scans_in (stores_by fewer may slot through statuses) new
    ≡ scans_in (stores_by fewer may slot through statuses) old
stores_as fewer may slot None statuses old new same = refl
stores_as fewer may slot (Some l) statuses old new same =
    mapped_as fewer may slot (layout_of l.table) statuses old new same

-- the store over the partition that is overlaid stands there too
over_behind : (l : Layout) (o : Option Overlaid) (old new : Image)
    → SameSuper old new
    → scans_in (wanted_over l o) new ≡ scans_in (wanted_over l o) old
over_behind l None old new same = refl
over_behind l (Some o) old new same =
    let first = l.device.first_logical_sector in
    each_as
    (Ok (record {
      name = o.part.name;
      base = sectors_of first o.part.blocks;
      store = Some (sectors_of first o.store.blocks);
      chunk = One;
      count = length o.store.blocks;
      fewer = true;
      clean = true;
    }))
    [] old new same (sectors_behind first o.store.blocks) refl

overlay_as : (overlaid : Bool) (slot : ℕ) (l : Layout) (old new : Image)
    → SameSuper old new
    → scans_in (overlay_wanted overlaid slot l) new ≡ scans_in (overlay_wanted overlaid slot l) old
overlay_as false slot l old new same = refl
overlay_as true slot l old new same = over_behind l (overlaid_in slot l.parts) old new same

at_as : (m : UpdateMark) (s : Loaded) (t : Option Loaded) (statuses : List PartStatus)
    (old new : Image)
    → SameSuper old new
    → scans_in (stores_at m s t statuses) new ≡ scans_in (stores_at m s t statuses) old
at_as m s t statuses old new same = elim (cases_Bool (is_idle m.phase)) [
  | inl is ↦ rw is (overlay_as m.overlaid m.slot (layout_of s.table) old new same)
  | inr not ↦
      rw not
      (stores_as (is_merging m.phase) (may_place m) (through_slot m.phase m.slot)
      (through_of m.phase s t) statuses old new same)
]

-- those of a frame
pub framed_stores : (f : Frame) (old new : Image) (x : Result (List Scanned) StartFault)
    → SameSuper old new
    → scans_in (stores_for f (written_in f.heads.statuses.items)) old ≡ x
    → scans_in (stores_for f (written_in f.heads.statuses.items)) new ≡ x
framed_stores f old new x same is =
    at_as f.heads.mark f.tables.source f.tables.target (written_in f.heads.statuses.items) old new
    same
    ∙ is

-- a frame of which the heads are given
pub framed_of : (size : ℕ) (f : Frame) (old new : Image)
    → SameSuper old new
    → IsHeaded size new f.heads.mark f.heads.version f.heads.statuses.items f.heads.control
    f.heads.tail f.heads.geometry
    → tables_in f.heads.tail.super_end f.heads.geometry (phase_at f.heads.mark).tables old
    ≡ Ok (tables_of f.tables)
    → AreLoaded f.heads.geometry f.heads.mark.slot old f.tables
    → IsFramed size new f
framed_of size f old new same headed tables loaded = record {
  heads = headed;
  tables =
      tables_as f.heads.tail.super_end f.heads.geometry (phase_at f.heads.mark).tables
      old new same
      ∙ tables;
  loaded = loaded_as f.heads.geometry f.heads.mark.slot old new f.tables same loaded;
}
