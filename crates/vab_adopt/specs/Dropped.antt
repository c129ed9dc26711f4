-- The update, or the overlay, that adopting drops.
use Rattle.std.specs.Prelude.{Bool, true, false, ◌||◌, if◌then◌else◌, Option, Some, None}
use Rattle.std.specs.Prelude.{Result, Ok, Err}
use Rattle.vab_disk.specs.Disk.{Image}
use Rattle.vab_marks.specs.declared.mark.MarkPhase.{MarkPhase}
use Rattle.vab_marks.specs.declared.mark.MarkPhase.TheVariants.{Idle, Installing, Staged, Merging}
use Rattle.vab_marks.specs.declared.mark.MarkPhase.TheVariants.{Completed}
use Rattle.vab_marks.specs.declared.mark.UpdateMark.{UpdateMark}
use Rattle.vab_marks.specs.declared.sector.MarkFault.{MarkFault}
use Rattle.vab_marks.specs.Mark.{mark_of}

-- an update is installed, ready or merged; one that is merged to its end is none
abbrev pub is_update : MarkPhase → Bool
is_update Idle = false
is_update Installing = true
is_update Staged = true
is_update Merging = true
is_update Completed = false

-- there is an update, or a partition of the slot is written over
abbrev pub is_dropped : UpdateMark → Bool
is_dropped mark = is_update mark.phase || mark.overlaid

-- the mark that was read, where something is dropped
abbrev pub update_of : Result UpdateMark MarkFault → Option UpdateMark
update_of (Ok mark) = if is_dropped mark then Some mark else None
update_of (Err fault) = None

-- that of a disk: nothing else is asked of the disk
unfoldable pub dropped : Image → Option UpdateMark
dropped image = update_of (mark_of (image 2048))
