-- A device whose disk has gone on with version 2.
use Rattle.std.proofs.Common.{◌≡◌, ◌∙◌, ◌⊎◌, ⊎_elim, inl, inr, ℕ, ◌<◌, ◌≤◌, List, sym, ap, arith}
use Rattle.vab_disk.specs.Disk.{Image}
use Rattle.vab_disk.specs.Calls.{SameBut}
use Rattle.vab_bootctl.specs.Control.{control_of}
use Rattle.vab_marks.specs.declared.version.MarkVersion.{MarkVersion}
use Rattle.vab_marks.specs.declared.version.MarkVersion.TheVariants.{Two}
use Rattle.vab_marks.specs.Mark.{mark_of}
use Rattle.vab_marks.specs.Version.{version_in}
use Rattle.vab_device.specs.declared.device.Device.{Device}
use Rattle.vab_device.specs.Phases.{phase_at}
use Rattle.vab_device.specs.Reading.{Represents, RepresentsUnder, SameRead, version_at}
use Rattle.vab_device.proofs.ControlLaws.{copies_kept}
use Rattle.vab_device.proofs.ReadingLaws.{reads_kept}
use Rattle.vab_device.proofs.StayLaws.{copies_from}
use Rattle.vab_tidy.specs.Migration.{IsOfMigration}
use Rattle.vab_recover.specs.Opening.{IsOfMending}

-- sectors other than those of the statuses and the mark
pub migration_keeps : (mid new : Image) (s : ℕ)
    → SameBut (IsOfMigration mid) mid new
    → (s < 2048) ⊎ (2113 ≤ s)
    → new s ≡ mid s
migration_keeps mid new s but (inl low) =
    ⊎_elim (λ same. same)
    (λ w.
    ⊎_elim
    (λ added. absurd (omega (arith, added.from, low)))
    (λ mark. absurd (omega (arith, mark.writes.0, low)))
    w.writes)
    (but s)
migration_keeps mid new s but (inr high) =
    ⊎_elim (λ same. same)
    (λ w.
    ⊎_elim
    (λ added. absurd (omega (arith, added.below, high)))
    (λ mark. absurd (omega (arith, mark.writes.0, high)))
    w.writes)
    (but s)

pub migrated_represents : (v : MarkVersion) (d : Device) (size : ℕ) (mid new : Image)
    → (is : RepresentsUnder v d size mid)
    → SameRead size is.read mid new
    → SameBut (IsOfMigration mid) mid new
    → version_at new ≡ Two
    → Represents d size new
migrated_represents v d size mid new is same but version = record {
  read = is.read;
  reads = reads_kept size is.read mid new is.reads same;
  is = is.is;
  control = ap control_of (migration_keeps mid new 4 but (inl (omega arith))) ∙ is.control;
  copies =
      copies_kept is.read.geometry (phase_at is.read.mark).tables
      is.read.tables mid new
      (λ s there.
      migration_keeps mid new s but
      (inr (omega (
        arith,
        copies_from is.read.geometry
            (phase_at is.read.mark).tables s there,
      ))))
      is.copies;
  version = version;
}

-- what is written then is said of the disk as it was before its repairs
pub migration_before : (size : ℕ) (old mid : Image)
    → mid 2048 ≡ old 2048
    → (s : ℕ) (b : List ℕ)
    → IsOfMigration mid s b
    → IsOfMending size old s b
migration_before size old mid same s b w = inr (record {
  old = ap version_in (sym same) ∙ w.old;
  writes =
      ⊎_elim (λ added. inl added)
      (λ mark. inr (record {
        mark = mark.mark;
        read = ap mark_of (sym same) ∙ mark.read;
        writes = mark.writes;
      }))
      w.writes;
})
