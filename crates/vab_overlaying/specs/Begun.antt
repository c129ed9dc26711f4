-- An overlay that begins: the slot's new table, and the partition with the store over it.
use Rattle.std.specs.Prelude.{◌≡◌, ℕ, ◌≤◌, ◌==◌, if◌then◌else◌, true, false, List, [], length}
use Rattle.std.specs.Prelude.{take, Option, Some}
use Rattle.vab_disk.specs.Disk.{Image, IsAt}
use Rattle.vab_marks.specs.declared.mark.MarkPhase.TheVariants as marks
use Rattle.vab_marks.specs.Mark.{mark_spelling, overlaid_by}
use Rattle.vab_space.specs.declared.Chunk.TheVariants.{One}
use Rattle.vab_tables.specs.declared.table.Table.{Table}
use Rattle.vab_layout.specs.Layout.{layout_of}
use Rattle.vab_layout.specs.Overlay.{Overlaid, overlaid_in, IsOverlaidBy}
use Rattle.vab_model.specs.declared.command.Reply.TheVariants as replies
use Rattle.vab_model.specs.Commands.{Overlay}
use Rattle.vab_model.specs.Effects.{does, wanting}
use Rattle.vab_device.specs.declared.device.Part.{Part}
use Rattle.vab_device.specs.declared.device.PartImage.TheVariants.{Written}
use Rattle.vab_device.specs.declared.device.Device.{Device}
use Rattle.vab_device.specs.Kept.{sectors_of, part_on, parts_of, table_of_slot, parts_at}
use Rattle.vab_device.specs.Mounted.{mounted_on, image_on}
use Rattle.vab_device.specs.Reading.{IsOfBlocks}
use Rattle.vab_device.specs.Updates.{effect_on, overlaid_over}

-- ---- what is kept

-- the device with this table of the slot of its mark, and these partitions of the slot
abbrev pub with_slot : Device → Table → List Part → Device
with_slot d t parts =
    if d.mark.slot == 0
    then record d { a = Some parts; table_a = Some t }
    else record d { b = Some parts; table_b = Some t }

-- with the partitions of the table
abbrev pub with_table : Device → Table → Device
with_table d t = with_slot d t (parts_of d.mark.slot (layout_of t))

-- a partition with a store over it to which nothing is written
abbrev pub over_part : Part → List ℕ → Part
over_part p store = record p { store = Some store; image = Written One [] }

-- the device with that one overlaid
abbrev pub over_device : Device → Part → List ℕ → Device
over_device d p store = record d {
  mark = overlaid_by true d.mark;
  overlay = Some (over_part p store);
}

-- ---- what holds before the mark is written

-- There is no update and no overlay, the slot's partitions are those of its table, and the table
-- has one store, of two blocks at least, over this one of them.
pub record IsOver (d : Device) (p : Part) (store : List ℕ) : Type 0 where
  pub idle : d.mark.phase ≡ marks.Idle
  pub plain : d.mark.overlaid ≡ false
  pub table : Table
  pub is : table_of_slot d d.mark.slot ≡ Some table
  pub parts : parts_at d d.mark.slot ≡ Some (parts_of d.mark.slot (layout_of table))
  pub over : Overlaid
  pub one : overlaid_in d.mark.slot (layout_of table).parts ≡ Some over
  pub by : IsOverlaidBy d.mark.slot (layout_of table).parts over.part over.store
  pub part : p ≡ part_on (layout_of table).device.first_logical_sector over.part
  pub stored : store ≡ sectors_of (layout_of table).device.first_logical_sector over.store.blocks
  pub two : 2 ≤ length over.store.blocks

-- ---- what is written then

-- the first two blocks of the store, and the mark of an overlaid slot
pub data IsOfHead (d : Device) (store : List ℕ) (s : ℕ) (b : List ℕ) : Type 0 where
  of_store : IsOfBlocks (take 2 store) s → IsOfHead d store s b
  of_mark : IsAt 2048 (mark_spelling (overlaid_by true d.mark)) s b → IsOfHead d store s b

-- ---- what it is

-- of a disk that is this device, the command begins an overlay over this partition, with a store of
-- so many blocks
abbrev pub Begins : Device
    → Option (List ℕ)
    → List ℕ
    → (size : ℕ)
    → Part
    → (store : ℕ)
    → Image
    → Type 0
Begins d staged name size p store image =
    effect_on (mounted_on d image) staged (Overlay name size)
    ≡ wanting true
    (does replies.Done (overlaid_over (mounted_on d image) (image_on image p) store))
