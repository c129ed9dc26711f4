-- Both copies of the tables.
use Rattle.std.specs.Prelude.{ℕ}
use Rattle.vab_disk.specs.Disk.{Image}
use Rattle.vab_device.specs.Phases.{phase_at}
use Rattle.vab_device.specs.Reading.{Read, Reads, AgreeCopies}

-- The disk is a device, and both copies of each table that is read of it hold that table's text.
pub record HasBothCopies (size : ℕ) (image : Image) : Type 0 where
  pub read : Read
  pub reads : Reads size read image
  pub agree : AgreeCopies read.geometry (phase_at read.mark).tables
      read.tables image
