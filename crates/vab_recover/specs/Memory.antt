-- Where memory may be refused while a device is opened.
use Rattle.std.specs.Prelude.{◌⊎◌, ℕ, List, Option}
use Rattle.vab_disk.specs.Disk.{Image}
use Rattle.vab_bootctl.specs.declared.slots.Control.{Control}
use Rattle.vab_marks.specs.declared.mark.UpdateMark.{UpdateMark}
use Rattle.vab_marks.specs.declared.status.PartStatus.{PartStatus}
use Rattle.vab_geometry.specs.declared.geometry.Geometry.{Geometry}
use Rattle.vab_device.specs.declared.fault.StartFault.{StartFault}
use Rattle.vab_device.specs.Faults.{IsOfContents, IsOfDisk}
use Rattle.vab_recover.specs.Opened.{IsHeaded}
use Rattle.vab_marks.specs.declared.version.MarkVersion.{MarkVersion}
use Rattle.vab_physical.specs.declared.tail.Tail.{Tail}

-- a fault of the disk or of what it holds, and not want of memory
abbrev pub IsNamed : StartFault → Type 0
IsNamed f = IsOfContents f ⊎ IsOfDisk f

-- Size, mark, statuses, boot control, the end of `super` and geometry are those of a device.
pub record HasHeads (size : ℕ) (image : Image) : Type 0 where
  pub mark : UpdateMark
  pub version : MarkVersion
  pub statuses : List (Option PartStatus)
  pub control : Control
  pub tail : Tail
  pub geometry : Geometry
  pub headed : IsHeaded size image mark version statuses control tail geometry
