-- What is read of a disk while an update is installed.
use Rattle.std.proofs.Common.{◌≡◌, ◌∙◌, ℕ, List, [], ◌∷◌, Result, Ok, refl, sym, ap, subst}
use Rattle.std.specs.Prelude.{Option}
use Rattle.vab_disk.specs.Disk.{Image}
use Rattle.vab_bootctl.specs.declared.slots.Control.{Control}
use Rattle.vab_bootctl.specs.Control.{control_of}
use Rattle.vab_marks.specs.declared.mark.MarkPhase.TheVariants as marks
use Rattle.vab_marks.specs.declared.status.PartStatus.{PartStatus}
use Rattle.vab_tables.specs.declared.table.Table.{Table}
use Rattle.vab_geometry.specs.declared.geometry.Geometry.{Geometry}
use Rattle.vab_layout.specs.Slots.{other_slot}
use Rattle.vab_model.specs.State.{control_seen}
use Rattle.vab_model.proofs.SeenLaws.{seen_again}
use Rattle.vab_physical.specs.declared.tail.Tail.{Tail}
use Rattle.vab_device.specs.declared.fault.StartFault.{StartFault}
use Rattle.vab_device.specs.declared.device.Device.{Device}
use Rattle.vab_device.specs.Checks.{◌>>=◌}
use Rattle.vab_device.specs.Mounted.{control_on, state_on, mounted_on}
use Rattle.vab_device.specs.Phases.{phase_at}
use Rattle.vab_device.specs.Reading.{Read, table_at, tables_in, kept, device, Reads, Represents}
use Rattle.vab_device.specs.Reading.{AgreeCopies}
use Rattle.vab_device.specs.Stores.{Scanned}
use Rattle.vab_device.proofs.CheckLaws.{bound}
use Rattle.vab_device.proofs.ReadingLaws.{device_of, has_images, control_is_seen}
use Rattle.vab_marks.specs.declared.mark.UpdateMark.{UpdateMark}
use Rattle.vab_marks.specs.Mark.{rephased, resloted}
use Rattle.vab_marks.specs.declared.version.MarkVersion.TheVariants.{Two}
use Rattle.vab_device.specs.Reading.{version_at}
use Rattle.vab_device.proofs.MarkLaws.{as_phase}
use Rattle.vab_device.proofs.ReadingLaws.{flags_known}

-- what is read: the source's slot, its table and the target's
abbrev pub read_at : UpdateMark
    → ℕ
    → List (Option PartStatus)
    → Control
    → Tail
    → Geometry
    → Table
    → Table
    → List Scanned
    → Read
read_at base k statuses c tail g s t scanned = record {
  mark = rephased marks.Installing (resloted k base);
  statuses = statuses;
  control = c;
  tail = tail;
  geometry = g;
  tables = s ∷ t ∷ [];
  scanned = scanned;
}

-- the two tables that are read
pub record TwoTables (super_end : ℕ) (g : Geometry) (a b : ℕ) (image : Image) (ts : List Table)
    : Type 0
  where
    pub source : Table
    pub target : Table
    pub source_read : table_at super_end g a image ≡ Ok source
    pub target_read : table_at super_end g b image ≡ Ok target
    pub are : ts ≡ source ∷ target ∷ []

pub two_tables : (super_end : ℕ) (g : Geometry) (a b : ℕ) (image : Image) (ts : List Table)
    → tables_in super_end g (a ∷ b ∷ []) image ≡ Ok ts
    → TwoTables super_end g a b image ts
two_tables super_end g a b image ts is =
    let s = bound (table_at super_end g a image)
    (λ s. tables_in super_end g (b ∷ []) image >>= λ ts. Ok (s ∷ ts)) ts is in
    let rest = bound (tables_in super_end g (b ∷ []) image) (λ ts. Ok (s.0 ∷ ts)) ts s.2 in
    let t = bound (table_at super_end g b image)
    (λ t. tables_in super_end g [] image >>= λ ts. Ok (t ∷ ts)) rest.0 rest.1 in
    let last : (let r : Result (List Table) StartFault = Ok (t.0 ∷ []) in r ≡ Ok rest.0) = t.2 in
    let last_is : t.0 ∷ [] ≡ rest.0 = cc in
    let whole : (let r : Result (List Table) StartFault = Ok (s.0 ∷ rest.0) in r
    ≡ Ok ts) = rest.2 in
    let whole_is : s.0 ∷ rest.0 ≡ ts = cc in
    record {
      source = s.0;
      target = t.0;
      source_read = s.1;
      target_read = t.1;
      are = sym whole_is ∙ ap (λ (l : List Table). s.0 ∷ l) (sym last_is);
    }

-- What a device with an update stands for, with the parts of its reading by name.
pub record StandsInstalling (d : Device) (size : ℕ) (image : Image) : Type 0 where
  pub base : UpdateMark
  pub slot : ℕ
  pub statuses : List (Option PartStatus)
  pub seen : Control
  pub tail : Tail
  pub geometry : Geometry
  pub source : Table
  pub target : Table
  pub scanned : List Scanned
  pub reads : Reads size (read_at base slot statuses seen tail geometry source target scanned)
      image
  pub is : d ≡ record (kept (read_at base slot statuses seen tail geometry source target scanned)) {
    control = d.control;
  }
  pub control : control_of (image 4) ≡ Ok d.control
  pub copies : AgreeCopies geometry (slot ∷ other_slot slot ∷ []) (source ∷ target ∷ []) image
  pub version : version_at image ≡ Two

-- the parts of a reading that is a device's
record StandsFor (d : Device) (size : ℕ) (image : Image) (r : Read) : Type 0 where
  reads : Reads size r image
  is : d ≡ record (kept r) { control = d.control }
  copies : AgreeCopies r.geometry (phase_at r.mark).tables r.tables image

pub stands_installing : (d : Device) (size : ℕ) (image : Image)
    → Represents d size image
    → d.mark.phase ≡ marks.Installing
    → StandsInstalling d size image
stands_installing d size image is installing =
    let r : Read = is.read in
    let phase : r.mark.phase ≡ marks.Installing =
    sym (ap (λ (k : Device). k.mark.phase) is.is) ∙ installing in
    let marked_as : r.mark ≡ rephased marks.Installing r.mark =
    as_phase r.mark marks.Installing (flags_known image r.mark is.reads.mark) refl phase in
    let marked : r ≡ record r { mark = rephased marks.Installing r.mark } =
    (λ i. record r { mark = marked_as i }) in
    let now = subst (StandsFor d size image) marked
    (record { reads = is.reads; is = is.is; copies = is.copies }) in
    let two = two_tables r.tail.super_end r.geometry r.mark.slot (other_slot r.mark.slot) image
    r.tables now.reads.tables in
    let form : record r { mark = rephased marks.Installing r.mark }
    ≡ read_at r.mark r.mark.slot r.statuses r.control r.tail r.geometry two.source two.target
    r.scanned =
    (λ i. record {
      mark = rephased marks.Installing r.mark;
      statuses = r.statuses;
      control = r.control;
      tail = r.tail;
      geometry = r.geometry;
      tables = two.are i;
      scanned = r.scanned;
    }) in
    let formed = subst (StandsFor d size image) form now in
    record {
      base = r.mark;
      slot = r.mark.slot;
      statuses = r.statuses;
      seen = r.control;
      tail = r.tail;
      geometry = r.geometry;
      source = two.source;
      target = two.target;
      scanned = r.scanned;
      reads = formed.reads;
      is = formed.is;
      control = is.control;
      copies = formed.copies;
      version = is.version;
    }

-- ---- what a disk means, whose boot control is kept whole

whole_seen : (r : Read) (c : Control) (image : Image)
    → control_on (record (kept r) { control = c }) ≡ control_on (kept r)
    → mounted_on (record (kept r) { control = c }) image ≡ mounted_on (kept r) image
unfolding state_on
whole_seen r c image same = rw same refl

pub device_reads : (size : ℕ) (r : Read) (c : Control) (image : Image)
    → Reads size r image
    → control_of (image 4) ≡ Ok c
    → device size image ≡ Ok (mounted_on (record (kept r) { control = c }) image)
device_reads size r c image reads control =
    let a = (phase_at r.mark).has_a in
    let b = (phase_at r.mark).has_b in
    let has = has_images size r image reads in
    let seen : r.control ≡ control_seen a b c =
    control_is_seen a b image c r.control reads.control control in
    let left : control_on (record (kept r) { control = c }) ≡ control_seen a b c =
    (λ i. control_seen (has.a i) (has.b i) c) in
    let right : control_on (kept r) ≡ control_seen a b c =
    (λ i. control_seen (has.a i) (has.b i) (seen i)) ∙ seen_again a b c in
    device_of size r image reads
    ∙ ap Ok (sym (whole_seen r c image (left ∙ sym right)))
