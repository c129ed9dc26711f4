-- A device with an update that is installed, by what is read of its disk.
use Rattle.std.proofs.Common.{◌≡◌, ◌∙◌, ℕ, ◌-◌, List, [], ◌∷◌, Result, Ok, Err, refl, sym, ap}
use Rattle.std.proofs.Common.{subst}
use Rattle.std.specs.Prelude.{Bool, true, false, Option, Some, None}
use Rattle.vab_disk.specs.Disk.{Image}
use Rattle.vab_bootctl.specs.declared.slots.Control.{Control}
use Rattle.vab_bootctl.specs.Control.{control_of}
use Rattle.vab_marks.specs.declared.mark.MarkPhase.{MarkPhase}
use Rattle.vab_marks.specs.declared.mark.MarkPhase.TheVariants as marks
use Rattle.vab_marks.specs.declared.status.PartStatus.{PartStatus}
use Rattle.vab_geometry.specs.declared.geometry.Geometry.{Geometry}
use Rattle.vab_physical.specs.declared.tail.Tail.{Tail}
use Rattle.vab_tables.specs.declared.table.Table.{Table}
use Rattle.vab_device.specs.declared.device.Part.{Part}
use Rattle.vab_device.specs.declared.device.Device.{Device}
use Rattle.vab_device.specs.Phases.{phase_in, phase_at}
use Rattle.vab_device.specs.Reading.{Read, kept, parts_for, Reads, AgreeCopies, Represents}
use Rattle.vab_device.specs.Stores.{Scanned}
use Rattle.vab_marks.specs.declared.mark.UpdateMark.{UpdateMark}
use Rattle.vab_marks.specs.Mark.{rephased, resloted}
use Rattle.vab_marks.specs.declared.version.MarkVersion.TheVariants.{Two}
use Rattle.vab_device.specs.declared.fault.StartFault.{StartFault}
use Rattle.vab_device.specs.declared.fault.StartFault.TheVariants.{BadMark}
use Rattle.vab_device.specs.Reading.{version_at, statuses_read, statuses_at}
use Rattle.vab_statuses.specs.Statuses.{statuses_in, statuses_under}
use Rattle.vab_device.proofs.MarkLaws.{not_overlaid}
use Rattle.vab_device.proofs.ReadingLaws.{flags_known}
use Rattle.vab_marks.specs.Mark.{FlagsFit, is_idle}

-- what is read of a disk with an update from this slot, with the tables of source and target
abbrev pub installing_read : UpdateMark
    → ℕ
    → List (Option PartStatus)
    → Control
    → Tail
    → Geometry
    → Table
    → Table
    → List Table
    → List Scanned
    → Read
installing_read base slot statuses control tail geometry s t others scanned = record {
  mark = rephased marks.Installing (resloted slot base);
  statuses = statuses;
  control = control;
  tail = tail;
  geometry = geometry;
  tables = s ∷ t ∷ others;
  scanned = scanned;
}

-- the device is read so
pub record Installs (d : Device) (size : ℕ) (image : Image) : Type 0 where
  pub base : UpdateMark
  pub slot : ℕ
  pub statuses : List (Option PartStatus)
  pub seen : Control
  pub tail : Tail
  pub geometry : Geometry
  pub source : Table
  pub target : Table
  pub others : List Table
  pub scanned : List Scanned
  pub reads : Reads size
      (installing_read base slot statuses seen tail geometry source target others scanned) image
  pub is : d
      ≡ record
      (kept (installing_read base slot statuses seen tail geometry source target others scanned)) {
        control = d.control;
      }
  pub control : control_of (image 4) ≡ Ok d.control
  pub copies : AgreeCopies geometry (slot ∷ (1 - slot) ∷ []) (source ∷ target ∷ others) image
  pub version : version_at image ≡ Two

pub installs_represents : (d : Device) (size : ℕ) (image : Image)
    → Installs d size image
    → Represents d size image
installs_represents d size image i = record {
  read =
      installing_read i.base i.slot i.statuses i.seen i.tail i.geometry i.source i.target
      i.others i.scanned;
  reads = i.reads;
  is = i.is;
  control = i.control;
  copies = i.copies;
  version = i.version;
}

-- partitions that aren't read through stores are the same, whatever those hold
pub parts_same : (k : ℕ) (has : Bool) (t : Option Table) (ss us : List Scanned)
    → parts_for k has false ss t ≡ parts_for k has false us t
parts_same k false t ss us = refl
parts_same k true None ss us = refl
parts_same k true (Some t) ss us = refl

-- the tables of a phase with a plan, and that phase
record Planning (m : MarkPhase) (ts : List Table) : Type 0 where
  installing : m ≡ marks.Installing
  source : Table
  target : Table
  others : List Table
  tables : ts ≡ source ∷ target ∷ others

planning : (p : MarkPhase) (m : UpdateMark) (ts : List Table) (ss : List Scanned)
    (plan : List Part)
    → (phase_in p m).plan ts ss ≡ Some plan
    → Planning p ts
planning marks.Idle m ts ss plan h = absurd cc
planning marks.Installing m [] ss plan h = absurd cc
planning marks.Installing m (s ∷ []) ss plan h = absurd cc
planning marks.Installing m (s ∷ t ∷ ts) ss plan h =
    record { installing = refl; source = s; target = t; others = ts; tables = refl }
planning marks.Staged m ts ss plan h = absurd cc
planning marks.Merging m ts ss plan h = absurd cc
planning marks.Completed m ts ss plan h = absurd cc

-- a mark whose target is written is not overlaid
as_installing : (m : UpdateMark)
    → FlagsFit m
    → m.phase ≡ marks.Installing
    → m ≡ record m { phase = marks.Installing; overlaid = false }
as_installing m fits is =
    (λ i. record m {
      phase = is i;
      overlaid = not_overlaid m fits (ap is_idle is) i;
    })

-- a device with a plan
pub installs_of : (d : Device) (size : ℕ) (image : Image) (plan : List Part)
    → Represents d size image
    → d.plan ≡ Some plan
    → Installs d size image
installs_of d size image plan is planned =
    let r : Read = is.read in
    let p : Planning r.mark.phase r.tables =
    planning r.mark.phase r.mark r.tables r.scanned plan
    (sym (ap (λ (k : Device). k.plan) is.is) ∙ planned) in
    let form : Read =
    installing_read r.mark r.mark.slot r.statuses r.control r.tail r.geometry p.source p.target
    p.others r.scanned in
    let marked = as_installing r.mark (flags_known image r.mark is.reads.mark) p.installing in
    let e : r ≡ form =
    (λ i. record {
      mark = marked i;
      statuses = r.statuses;
      control = r.control;
      tail = r.tail;
      geometry = r.geometry;
      tables = p.tables i;
      scanned = r.scanned;
    }) in
    record {
      base = r.mark;
      slot = r.mark.slot;
      statuses = r.statuses;
      seen = r.control;
      tail = r.tail;
      geometry = r.geometry;
      source = p.source;
      target = p.target;
      others = p.others;
      scanned = r.scanned;
      reads = subst (λ (x : Read). Reads size x image) e is.reads;
      is = subst (λ (x : Read). d ≡ record (kept x) { control = d.control }) e is.is;
      control = is.control;
      copies =
          subst
          (λ (x : Read).
          AgreeCopies x.geometry (phase_at x.mark).tables x.tables image)
          e is.copies;
      version = is.version;
    }

-- the statuses of the disk
pub statuses_were : (d : Device) (size : ℕ) (image : Image) (i : Installs d size image)
    → statuses_in image ≡ Ok i.statuses
unfolding statuses_at
statuses_were d size image i =
    taken (statuses_in image) i.statuses
    (ap (λ v. statuses_read (statuses_under v image)) (sym i.version) ∙ i.reads.statuses)
  where
    taken : (x : Result (List (Option PartStatus)) ℕ) (l : List (Option PartStatus))
        → statuses_read x ≡ Ok l
        → x ≡ Ok l
    taken (Ok m) l h = let same : m ≡ l = cc in ap Ok same
    taken (Err at) l h =
        absurd (let bad : (let r : Result (List (Option PartStatus)) StartFault = Err
        (BadMark at) in r ≡ Ok l) = h in cc)
