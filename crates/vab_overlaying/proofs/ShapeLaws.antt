-- What is read of a disk where one of the slot's partitions is overlaid.
use Rattle.std.proofs.Common.{◌≡◌, ◌∙◌, ℕ, List, [], ◌∷◌, length, Result, Ok, Err, refl, sym, ap}
use Rattle.std.proofs.Common.{subst, true, inl, inr}
use Rattle.std.specs.Prelude.{Bool, Option, Some, None, is_some, nat_le, option_map}
use Rattle.std.proofs.lemmas.Bool.{cases_Bool}
use Rattle.vab_disk.specs.Disk.{Image}
use Rattle.vab_names.specs.Names.{base_of}
use Rattle.vab_names.proofs.NameCases.{eq_name}
use Rattle.vab_marks.specs.declared.mark.MarkPhase.TheVariants as marks
use Rattle.vab_marks.specs.declared.mark.UpdateMark.{UpdateMark}
use Rattle.vab_exceptions.specs.declared.area.Exception.{Exception}
use Rattle.vab_space.specs.declared.Chunk.TheVariants.{One}
use Rattle.vab_store.specs.declared.fault.StoreFault.{StoreFault}
use Rattle.vab_store.specs.Clean.{ends_clean}
use Rattle.vab_store.specs.Scan.{scan_of}
use Rattle.vab_store.proofs.CleanLaws.{clean_exactly}
use Rattle.vab_statuses.specs.Statuses.{written_in}
use Rattle.vab_overlay.specs.Overlaid.{IsOverlaid}
use Rattle.vab_tables.specs.declared.table.Table.{Table}
use Rattle.vab_layout.specs.declared.layout.Layout.{Layout}
use Rattle.vab_layout.specs.Layout.{layout_of}
use Rattle.vab_layout.specs.Overlay.{Overlaid, overlaid_in}
use Rattle.vab_device.specs.declared.fault.StartFault.{StartFault}
use Rattle.vab_device.specs.declared.fault.StartFault.TheVariants.{BadStore}
use Rattle.vab_device.specs.declared.device.Part.{Part}
use Rattle.vab_device.specs.declared.device.PartImage.TheVariants.{Written}
use Rattle.vab_device.specs.declared.device.Device.{Device}
use Rattle.vab_device.specs.Checks.{unless, ◌>>=◌}
use Rattle.vab_device.specs.Kept.{IsDevice, sectors_of}
use Rattle.vab_device.specs.Phases.{wanted_over, overlaid_on, overlay_of, idle, image_over}
use Rattle.vab_device.specs.Reading.{Read, tables_in, table_at, stores_of, Represents}
use Rattle.vab_device.specs.Stores.{Wanted, Scanned, is_long, scan_read, clean_by, scan_at}
use Rattle.vab_device.specs.Stores.{scans_in, scanned_named}
use Rattle.vab_device.proofs.CheckLaws.{bound}
use Rattle.vab_device.proofs.OverlayLaws.{overlaid_idle}
use Rattle.vab_device.proofs.ReadingLaws.{idle_at}
use Rattle.vab_device.proofs.StayLaws.{one_of}
use Rattle.vab_device.proofs.StoreLaws.{clean_taken}

-- ---- where the blocks of the partition and of its store stand

abbrev pub first_of : Table → ℕ
first_of t = (layout_of t).device.first_logical_sector

abbrev pub base_of_over : Table → Overlaid → List ℕ
base_of_over t o = sectors_of (first_of t) o.part.blocks

abbrev pub store_of_over : Table → Overlaid → List ℕ
store_of_over t o = sectors_of (first_of t) o.store.blocks

-- what is wanted and what is read of the store, and the partition that is kept
abbrev pub wanted_by : Table → Overlaid → Wanted
wanted_by t o = record {
  name = o.part.name;
  base = base_of_over t o;
  store = Some (store_of_over t o);
  chunk = One;
  count = length o.store.blocks;
  fewer = true;
  clean = true;
}

abbrev pub scanned_by : Overlaid → List Exception → Scanned
scanned_by o es = record { name = o.part.name; chunk = One; exceptions = es }

abbrev pub part_by : Table → Overlaid → List Exception → Part
part_by t o es = record {
  name = base_of o.part.name;
  group = o.part.group;
  map = base_of_over t o;
  store = Some (store_of_over t o);
  image = Written One es;
}

-- ---- one store

-- what was read of it
record IsRead (w : Wanted) (y : Result (List Exception) StoreFault) (x : Scanned) : Type 0 where
  es : List Exception
  read : y ≡ Ok es
  long : is_long w.fewer w.count (length es) ≡ true
  is : x ≡ record { name = w.name; chunk = w.chunk; exceptions = es }

was_read : (w : Wanted) (y : Result (List Exception) StoreFault) (x : Scanned)
    → scan_read w y ≡ Ok x
    → IsRead w y x
was_read w (Err fault) x is =
    absurd (let bad : (let r : Result Scanned StartFault = Err (BadStore w.name) in r ≡ Ok x) =
    is in cc)
was_read w (Ok es) x is = elim (cases_Bool (is_long w.fewer w.count (length es))) [
  | inl long ↦
      let taken : Ok (record { name = w.name; chunk = w.chunk; exceptions = es }) ≡ Ok x =
      (rw long at is) in
      let same : (let r : Scanned =
      record { name = w.name; chunk = w.chunk; exceptions = es } in r ≡ x) = cc in
      record { es = es; read = refl; long = long; is = sym same }
  | inr short ↦
      let none : (let r : Result Scanned StartFault = Err (BadStore w.name) in r ≡ Ok x) =
      (rw short at is) in
      absurd cc
]

was_clean : (name store : List ℕ) (image : Image) (y : Result Scanned StartFault) (x : Scanned)
    → clean_by true name store image y ≡ Ok x
    → ends_clean store (length x.exceptions) image ≡ true
was_clean name store image (Err fault) x is = absurd cc
was_clean name store image (Ok y) x is =
    elim (cases_Bool (ends_clean store (length y.exceptions) image)) [
      | inl clean ↦
          let taken : Ok y ≡ Ok x = (rw clean at is) in
          let same : y ≡ x = cc in
          subst (λ (z : Scanned). ends_clean store (length z.exceptions) image ≡ true) same clean
      | inr not_clean ↦
          let none : (let r : Result Scanned StartFault = Err (BadStore name) in r ≡ Ok x) =
          (rw not_clean at is) in
          absurd cc
    ]

-- it is one that ends clean, and no longer than the store
pub record IsList (t : Table) (o : Overlaid) (es : List Exception) (image : Image) : Type 0 where
  pub over : IsOverlaid (store_of_over t o) (length (base_of_over t o)) es image
  pub few : nat_le (length es) (length o.store.blocks) ≡ true

store_read : (t : Table) (o : Overlaid) (image : Image) (x : Scanned)
    → scan_at (wanted_by t o) image ≡ Ok x
    → (es : List Exception) × (x ≡ scanned_by o es) × IsList t o es image
unfolding scan_at
store_read t o image x is =
    let w = wanted_by t o in
    let store = store_of_over t o in
    let list = scan_of One store (length (base_of_over t o)) image in
    let read = was_read w list x
    (clean_taken true o.part.name store image (scan_read w list) x is) in
    let clean = was_clean o.part.name store image (scan_read w list) x is in (
      read.es,
      read.is,
      record {
        over = record {
          scanned = read.read;
          clean = (clean_exactly store (length read.es) image).0
              (subst (λ (z : Scanned). ends_clean store (length z.exceptions) image ≡ true)
              read.is clean);
        };
        few = read.long;
      },
    )

-- and such a list is read
pub read_store : (t : Table) (o : Overlaid) (es : List Exception) (image : Image)
    → IsList t o es image
    → scan_at (wanted_by t o) image ≡ Ok (scanned_by o es)
unfolding scan_at
read_store t o es image is =
    let w = wanted_by t o in
    let store = store_of_over t o in
    let x : Scanned = scanned_by o es in
    ap (λ y. clean_by true o.part.name store image (scan_read w y)) is.over.scanned
    ∙ ap (λ (b : Bool). clean_by true o.part.name store image
    (unless b (BadStore o.part.name) (Ok x))) is.few
    ∙ ap (λ (b : Bool). unless b (BadStore o.part.name) (Ok x))
    ((clean_exactly store (length es) image).1 is.over.clean)

-- ---- the reading

-- the one that is overlaid
found_part : (f : Overlaid → Part) (o : Option Overlaid) (p : Part)
    → option_map f o ≡ Some p
    → (q : Overlaid) × (o ≡ Some q) × (f q ≡ p)
found_part f None p is = absurd cc
found_part f (Some q) p is = (q, refl, cc)

-- the part that is kept of it
pub part_is : (t : Table) (o : Overlaid) (es : List Exception)
    → overlaid_on (layout_of t) (scanned_by o es ∷ []) o ≡ part_by t o es
part_is t o es =
    let named : scanned_named o.part.name (scanned_by o es ∷ []) ≡ Some (scanned_by o es) =
    rw (eq_name o.part.name o.part.name refl) refl in
    (λ i. record {
      name = base_of o.part.name;
      group = o.part.group;
      map = base_of_over t o;
      store = Some (store_of_over t o);
      image = image_over (named i);
    })

-- A disk on which this partition is overlaid is read so: the table of the slot, the partition of it
-- with its store, and the store's exceptions.
pub record IsOver (d : Device) (size : ℕ) (image : Image) (r : Read) (p : Part) : Type 0 where
  pub phase : r.mark.phase ≡ marks.Idle
  pub overlaid : r.mark.overlaid ≡ true
  pub table : Table
  pub tables : r.tables ≡ table ∷ []
  pub there : table_at r.tail.super_end r.geometry r.mark.slot image ≡ Ok table
  pub over : Overlaid
  pub found : overlaid_in r.mark.slot (layout_of table).parts ≡ Some over
  pub exceptions : List Exception
  pub scanned : r.scanned ≡ scanned_by over exceptions ∷ []
  pub part : p ≡ part_by table over exceptions
  pub list : IsList table over exceptions image

module _ (d : Device) (size : ℕ) (image : Image) (dev : IsDevice d size)
    (is : Represents d size image) (p : Part) (over : d.overlay ≡ Some p) where
  abbrev r : Read
  r = is.read

  flag : d.mark.overlaid ≡ true
  flag = sym dev.overlaid ∙ ap is_some over

  own_mark : r.mark ≡ d.mark
  own_mark = sym (ap (λ (k : Device). k.mark) is.is)

  overlaid : r.mark.overlaid ≡ true
  overlaid = ap (λ (m : UpdateMark). m.overlaid) own_mark ∙ flag

  phase : r.mark.phase ≡ marks.Idle
  phase = ap (λ (m : UpdateMark). m.phase) own_mark ∙ overlaid_idle d.mark dev.flags flag

  one : (t : Table) × (r.tables ≡ t ∷ [])
      × (table_at r.tail.super_end r.geometry r.mark.slot image ≡ Ok t)
  one =
      one_of r.tail.super_end r.geometry r.mark.slot image r.tables
      (subst (λ p. tables_in r.tail.super_end r.geometry p.tables image ≡ Ok r.tables)
      (idle_at r.mark phase)
      is.reads.tables)

  abbrev l : Layout
  l = layout_of one.0

  kept_over : overlay_of true r.mark.slot l r.scanned ≡ Some p
  kept_over =
      ap (λ (b : Bool). overlay_of b r.mark.slot l r.scanned) (sym overlaid)
      ∙ ap (λ (ts : List Table). (idle r.mark).overlay ts r.scanned) (sym one.1)
      ∙ ap (λ p. p.overlay r.tables r.scanned) (sym (idle_at r.mark phase))
      ∙ sym (ap (λ (k : Device). k.overlay) is.is)
      ∙ over

  found : (o : Overlaid) × (overlaid_in r.mark.slot l.parts ≡ Some o)
      × (overlaid_on l r.scanned o ≡ p)
  found =
      found_part (overlaid_on l r.scanned) (overlaid_in r.mark.slot l.parts) p kept_over

  stores : stores_of r ≡ Ok (wanted_by one.0 found.0) ∷ []
  stores =
      ap (λ p. p.stores r.tables (written_in r.statuses)) (idle_at r.mark phase)
      ∙ ap (λ (ts : List Table). (idle r.mark).stores ts (written_in r.statuses)) one.1
      ∙ ap (λ (b : Bool). (idle (record r.mark { overlaid = b })).stores (one.0 ∷ [])
      (written_in r.statuses)) overlaid
      ∙ ap (wanted_over l) found.1

  read : (x : Scanned) × (scan_at (wanted_by one.0 found.0) image ≡ Ok x) × (r.scanned ≡ x ∷ [])
  read =
      let w = wanted_by one.0 found.0 in
      let whole : scans_in (Ok w ∷ []) image ≡ Ok r.scanned =
      ap (λ (ws : List (Result Wanted StartFault)). scans_in ws image) (sym stores)
      ∙ is.reads.stores in
      let x = bound (scan_at w image) (λ x. scans_in [] image >>= λ rest. Ok (x ∷ rest)) r.scanned
      whole in
      let last : Ok (x.0 ∷ []) ≡ Ok r.scanned = x.2 in
      (x.0, x.1, (let same : x.0 ∷ [] ≡ r.scanned = cc in sym same))

  store : (es : List Exception) × (read.0 ≡ scanned_by found.0 es) × IsList one.0 found.0 es image
  store = store_read one.0 found.0 image read.0 read.1

  scanned : r.scanned ≡ scanned_by found.0 store.0 ∷ []
  scanned = read.2 ∙ ap (λ (x : Scanned). x ∷ []) store.1

  pub over_of : IsOver d size image is.read p
  over_of = record {
    phase = phase;
    overlaid = overlaid;
    table = one.0;
    tables = one.1;
    there = one.2;
    over = found.0;
    found = found.1;
    exceptions = store.0;
    scanned = scanned;
    part = sym found.2 ∙ ap (λ (xs : List Scanned). overlaid_on l xs found.0) scanned
        ∙ part_is one.0 found.0 store.0;
    list = store.2;
  }
