-- What is written where the mark of a disk has version 1, as the device goes on with version 2.
use Rattle.std.specs.Prelude.{◌≡◌, ◌⊎◌, ℕ, ◌+◌, List, Ok}
use Rattle.vab_disk.specs.Disk.{Image, IsAt}
use Rattle.vab_disk.specs.Calls.{IsBetween}
use Rattle.vab_marks.specs.declared.mark.UpdateMark.{UpdateMark}
use Rattle.vab_marks.specs.declared.version.MarkVersion.TheVariants.{One}
use Rattle.vab_marks.specs.Mark.{mark_of, mark_spelling}
use Rattle.vab_marks.specs.Version.{partitions_under}
use Rattle.vab_statuses.specs.Statuses.{first_status, status_sectors}
use Rattle.vab_device.specs.Reading.{version_at}

-- a sector of the statuses that version 2 adds
abbrev pub IsOfAdded : ℕ → Type 0
IsOfAdded s = IsBetween (first_status + partitions_under One) (first_status + status_sectors) s

-- the mark that the disk has, with version 2
pub record IsOfRaised (image : Image) (s : ℕ) (b : List ℕ) : Type 0 where
  pub mark : UpdateMark
  pub read : mark_of (image 2048) ≡ Ok mark
  pub writes : IsAt 2048 (mark_spelling mark) s b

-- of a disk whose mark has version 1: these sectors, and that mark
pub record IsOfMigration (image : Image) (s : ℕ) (b : List ℕ) : Type 0 where
  pub old : version_at image ≡ One
  pub writes : IsOfAdded s ⊎ IsOfRaised image s b
