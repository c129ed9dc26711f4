-- A device without an update and an overlay, as it is read of its disk.
use Rattle.std.proofs.Common.{◌≡◌, ◌∙◌, ℕ, zero, suc, ◌<◌, List, [], ◌∷◌, Result, Ok, refl, sym, ap}
use Rattle.std.proofs.Common.{subst, arith, false}
use Rattle.std.specs.Prelude.{Option, Some, ◌==◌}
use Rattle.vab_disk.specs.Disk.{Image}
use Rattle.vab_bootctl.specs.declared.slots.Control.{Control}
use Rattle.vab_bootctl.specs.Control.{control_of}
use Rattle.vab_marks.specs.declared.mark.MarkPhase.{MarkPhase}
use Rattle.vab_marks.specs.declared.mark.MarkPhase.TheVariants as marks
use Rattle.vab_marks.specs.declared.mark.UpdateMark.{UpdateMark}
use Rattle.vab_marks.specs.declared.status.PartStatus.{PartStatus}
use Rattle.vab_marks.specs.declared.version.MarkVersion.TheVariants.{Two}
use Rattle.vab_statuses.specs.Statuses.{written_in}
use Rattle.vab_geometry.specs.declared.geometry.Geometry.{Geometry}
use Rattle.vab_tables.specs.declared.table.Table.{Table}
use Rattle.vab_physical.specs.declared.tail.Tail.{Tail}
use Rattle.vab_device.specs.declared.device.Device.{Device}
use Rattle.vab_device.specs.Idle.{idle_read, control_read_of}
use Rattle.vab_device.specs.Kept.{table_of_slot}
use Rattle.vab_device.specs.Phases.{phase_in, phase_at}
use Rattle.vab_device.specs.Reading.{Read, Reads, Represents, AgreeCopies, version_at, statuses_at}
use Rattle.vab_device.specs.Reading.{control_in}
use Rattle.vab_device.specs.Stores.{scans_in}
use Rattle.vab_device.proofs.MarkLaws.{as_idle}
use Rattle.vab_device.proofs.ReadingLaws.{one_table, control_is_seen, flags_known}
use Rattle.vab_device.proofs.UpdateLaws.{kept_with}
use Rattle.vab_marks.specs.Mark.{rephased, resloted}

-- the reading of such a device
abbrev pub read_at : UpdateMark → Control → Tail → Geometry → Table → Read
read_at m c tail g t = idle_read (rephased marks.Idle m) c tail g t

-- The disk is read so, and is the kept device, whose slot has this table.
pub record StandsIdle (d : Device) (size : ℕ) (image : Image) (t : Table) : Type 0 where
  pub reads : Reads size (read_at d.mark d.control d.tail d.geometry t) image
  pub is : d ≡ kept_with (read_at d.mark d.control d.tail d.geometry t) d.control
  pub control : control_of (image 4) ≡ Ok d.control
  pub copies : AgreeCopies d.geometry (d.mark.slot ∷ []) (t ∷ []) image
  pub version : version_at image ≡ Two

no_statuses : (image : Image) (ss : List (Option PartStatus))
    → statuses_at false image ≡ Ok ss
    → ss ≡ []
unfolding statuses_at
no_statuses image ss is =
    let both : Result.Ok [] ≡ Ok ss = is in
    cc

-- the table that is kept of the slot
kept_table : (m : UpdateMark) (slot : ℕ) (c seen : Control) (tail : Tail)
    (g : Geometry) (t : Table)
    → slot < 2
    → table_of_slot (kept_with (read_at (resloted slot m) seen tail g t) c) slot ≡ Some t
kept_table m zero c seen tail g t below = refl
kept_table m (suc zero) c seen tail g t below = refl
kept_table m (suc (suc n)) c seen tail g t below = absurd (omega (arith, below))

module _
    (d : Device) (size : ℕ) (image : Image) (t : Table)
    (below : d.mark.slot < 2)
    (idle : d.mark.phase ≡ marks.Idle)
    (plain : d.mark.overlaid ≡ false)
    (has : table_of_slot d d.mark.slot ≡ Some t)
    (is : Represents d size image) where
  abbrev r : Read
  r = is.read

  marked : d.mark ≡ r.mark
  marked = ap (λ (k : Device). k.mark) is.is

  own : d.mark.slot ≡ r.mark.slot
  own = ap (λ (m : UpdateMark). m.slot) marked

  ends : d.tail ≡ r.tail
  ends = ap (λ (k : Device). k.tail) is.is

  geometry : d.geometry ≡ r.geometry
  geometry = ap (λ (k : Device). k.geometry) is.is

  phase : r.mark.phase ≡ marks.Idle
  phase = sym (ap (λ (k : Device). k.mark.phase) is.is) ∙ idle

  plainly : r.mark.overlaid ≡ false
  plainly = sym (ap (λ (k : Device). k.mark.overlaid) is.is) ∙ plain

  phased : r.mark ≡ rephased marks.Idle r.mark
  phased = as_idle r.mark (flags_known image r.mark is.reads.mark) plainly phase

  one : (u : Table) × (r.tables ≡ u ∷ [])
  one = one_table size r image phase is.reads

  statuses : r.statuses ≡ []
  statuses =
      no_statuses image r.statuses
      (subst
      (λ (p : MarkPhase). statuses_at (phase_in p r.mark).reads_statuses image ≡ Ok r.statuses)
      phase is.reads.statuses)

  scanned : r.scanned ≡ []
  scanned =
      let none : Result.Ok [] ≡ Ok r.scanned =
      subst
      (λ (ts : List Table).
      scans_in ((phase_at (rephased marks.Idle r.mark)).stores ts (written_in r.statuses)) image
      ≡ Ok r.scanned)
      one.1
      (subst
      (λ (m : UpdateMark).
      scans_in ((phase_at m).stores r.tables (written_in r.statuses)) image
      ≡ Ok r.scanned)
      phased is.reads.stores) in
      cc

  seen : r.control ≡ control_read_of r.mark.slot d.control
  seen =
      control_is_seen (r.mark.slot == 0) (r.mark.slot == 1) image d.control r.control
      (subst
      (λ (p : MarkPhase).
      control_in (phase_in p r.mark).has_a (phase_in p r.mark).has_b image
      ≡ Ok r.control)
      phase is.reads.control)
      is.control

  shape : r ≡ read_at r.mark d.control r.tail r.geometry one.0
  shape = (λ i. record {
    mark = phased i;
    statuses = statuses i;
    control = seen i;
    tail = r.tail;
    geometry = r.geometry;
    tables = one.1 i;
    scanned = scanned i;
  })

  same : one.0 ≡ t
  same =
      let there : table_of_slot d d.mark.slot ≡ Some one.0 =
      ap (λ (k : Device). table_of_slot k d.mark.slot)
      (is.is ∙ ap (λ (x : Read). kept_with x d.control) shape)
      ∙ subst
      (λ (n : ℕ).
      table_of_slot
      (kept_with (read_at r.mark d.control r.tail r.geometry one.0) d.control)
      n
      ≡ Some one.0)
      (sym own)
      (kept_table r.mark r.mark.slot d.control d.control r.tail r.geometry one.0
      (subst (λ (n : ℕ). n < 2) own below)) in
      let both : Some one.0 ≡ Some t = sym there ∙ has in
      cc

  whole : r ≡ read_at d.mark d.control d.tail d.geometry t
  whole = shape ∙ (λ i.
      read_at (sym marked i) d.control (sym ends i) (sym geometry i) (same i))

  pub stands_idle : StandsIdle d size image t
  stands_idle = record {
    reads = subst (λ (x : Read). Reads size x image) whole is.reads;
    is = is.is ∙ ap (λ (x : Read). kept_with x d.control) whole;
    control = is.control;
    copies =
        subst
        (λ (x : Read).
        AgreeCopies x.geometry (phase_at x.mark).tables x.tables image)
        whole is.copies;
    version = is.version;
  }
