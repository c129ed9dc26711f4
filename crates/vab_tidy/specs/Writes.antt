-- What is written behind a merge that has ended.
use Rattle.std.specs.Prelude.{◌≡◌, ◌⊎◌, ◌≤◌, ℕ, true, List, length, Option, Some, None, Ok}
use Rattle.vab_disk.specs.Disk.{Image, IsAt}
use Rattle.vab_marks.specs.declared.mark.MarkPhase.TheVariants as marks
use Rattle.vab_marks.specs.Mark.{mark_spelling, rephased}
use Rattle.vab_tables.specs.declared.table.Table.{Table}
use Rattle.vab_tables.specs.Spelling.{table_text}
use Rattle.vab_geometry.specs.declared.geometry.Geometry.{Geometry}
use Rattle.vab_lpstore.specs.Loading.{slot_table}
use Rattle.vab_lpstore.specs.Storing.{IsOfTable}
use Rattle.vab_device.specs.declared.device.Device.{Device}
use Rattle.vab_device.specs.Reading.{Read, Reads}
use Rattle.vab_tidy.specs.declared.prepared.Alone.{Alone}
use Rattle.vab_tidy.specs.declared.prepared.Tidying.{Tidying}
use Rattle.vab_tidy.specs.Tidied.{HasCompleted, alone, may_be_alone}

-- ---- of a device that is kept

-- the sectors of both copies of the slot's table, with this text
abbrev pub IsOfAlone : Device → Option Alone → ℕ → List ℕ → Type 0
IsOfAlone d None s b = ⊥
IsOfAlone d (Some x) s b = IsOfTable d.geometry d.mark.slot x.text s b

-- that, and the mark of no update
abbrev pub IsOfTidied : Device → Tidying → ℕ → List ℕ → Type 0
IsOfTidied d x s b =
    IsOfAlone d x.alone s b ⊎ IsAt 2048 (mark_spelling (rephased marks.Idle d.mark)) s b

abbrev pub IsOfTidyings : Device → Option Tidying → ℕ → List ℕ → Type 0
IsOfTidyings d None s b = ⊥
IsOfTidyings d (Some x) s b = IsOfTidied d x s b

-- ---- of a disk

-- The sectors of both copies of the slot's table, with the text of the table of the slot alone,
-- where that has less and its text is no longer than a copy may be.
pub record IsOfTidyTable
    (g : Geometry)
    (slot : ℕ)
    (image : Image)
    (s : ℕ)
    (b : List ℕ) : Type 0 where
  pub table : Table
  pub read : slot_table g slot image ≡ Ok table
  pub may : may_be_alone g.max slot table ≡ true
  pub short : length (table_text (alone slot table)) ≤ g.max
  pub writes : IsOfTable g slot (table_text (alone slot table)) s b

-- What is written of a disk whose mark says that a merge has ended: that table, and the mark of no
-- update.
pub record IsOfTidying (size : ℕ) (image : Image) (s : ℕ) (b : List ℕ) : Type 0 where
  pub read : Read
  pub reads : Reads size read image
  pub completed : HasCompleted read.mark image
  pub writes : IsOfTidyTable read.geometry read.mark.slot image s b
      ⊎ IsAt 2048 (mark_spelling (rephased marks.Idle read.mark)) s b
