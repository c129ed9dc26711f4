-- What opening a device may write, and what it leaves behind a merge that has ended.
use Rattle.std.specs.Prelude.{◌≡◌, ◌⊎◌, ℕ, List, Some, Ok}
use Rattle.vab_disk.specs.Disk.{Image}
use Rattle.vab_marks.specs.declared.mark.MarkPhase.TheVariants as marks
use Rattle.vab_marks.specs.declared.mark.UpdateMark.{UpdateMark}
use Rattle.vab_marks.specs.Mark.{mark_of, rephased}
use Rattle.vab_tables.specs.declared.table.Table.{Table}
use Rattle.vab_geometry.specs.declared.geometry.Geometry.{Geometry}
use Rattle.vab_lpstore.specs.Loading.{slot_table}
use Rattle.vab_device.specs.declared.device.Device.{Device}
use Rattle.vab_device.specs.Kept.{table_of_slot}
use Rattle.vab_device.specs.Reading.{tail_at, geometry_at, version_at}
use Rattle.vab_physical.specs.declared.tail.Tail.{Tail}
use Rattle.vab_marks.specs.declared.version.MarkVersion.TheVariants.{Two}
pub use Rattle.vab_tidy.specs.Migration.{IsOfMigration}
pub use Rattle.vab_tidy.specs.Stays.{LeavesSame}
use Rattle.vab_tidy.specs.Tidied.{HasCompleted, tidy_table}
use Rattle.vab_tidy.specs.Writes.{IsOfTidying}
use Rattle.vab_recover.specs.Repairs.{IsRepair}

-- a repair, and what is written where the mark has version 1
abbrev pub IsOfMending : ℕ → Image → ℕ → List ℕ → Type 0
IsOfMending size image s b = IsRepair size image s b ⊎ IsOfMigration image s b

-- these, and what is written behind a merge that has ended
abbrev pub IsOfOpening : ℕ → Image → ℕ → List ℕ → Type 0
IsOfOpening size image s b = IsOfMending size image s b ⊎ IsOfTidying size image s b

-- the mark has version 2
abbrev pub HasVersion2 : Image → Type 0
HasVersion2 image = version_at image ≡ Two

-- the mark doesn't say that a merge has ended
abbrev pub HasNoneCompleted : Image → Type 0
HasNoneCompleted image = (m : UpdateMark) → HasCompleted m image → ⊥

-- Where a merge of a slot had ended, the table of the slot alone is kept, unless it had no other
-- partitions and groups, or the text is longer than a copy may be.
abbrev pub KeepsTidy : Device → Image → Type 0
KeepsTidy d old = (m : UpdateMark) (t : Table)
    → HasCompleted m old
    → slot_table d.geometry m.slot old ≡ Ok t
    → table_of_slot d m.slot ≡ Some (tidy_table d.geometry.max m.slot t)

-- Then no mark says that a merge has ended; where one said so, it says that there is no update, and
-- what else it said.
pub record IsTidied (d : Device) (old new : Image) : Type 0 where
  pub none : HasNoneCompleted new
  pub mark : (m : UpdateMark)
      → HasCompleted m old
      → mark_of (new 2048) ≡ Ok (rephased marks.Idle m)
  pub table : KeepsTidy d old

-- Where a merge of a slot had ended, the mark says so still, or the table that is to be left stands
-- on the disk. So where power is cut before the mark is written, the next opening goes on.
abbrev pub GoesOn : ℕ → Image → Image → Type 0
GoesOn size old image = (m : UpdateMark) (tail : Tail) (g : Geometry) (t : Table)
    → HasCompleted m old
    → tail_at m.physical size old ≡ Ok tail
    → geometry_at tail.super_end old ≡ Ok g
    → slot_table g m.slot old ≡ Ok t
    → HasCompleted m image ⊎ (slot_table g m.slot image ≡ Ok (tidy_table g.max m.slot t))
