-- What the commands of an overlay write.
use Rattle.std.specs.Prelude.{◌≡◌, ◌⊎◌, ◌≤◌, ℕ, true, false, List, length, take, Some}
use Rattle.vab_disk.specs.Disk.{IsAt}
use Rattle.vab_marks.specs.declared.mark.MarkPhase.TheVariants as marks
use Rattle.vab_marks.specs.Mark.{mark_spelling, overlaid_by}
use Rattle.vab_tables.specs.declared.table.Table.{Table}
use Rattle.vab_tables.specs.Spelling.{table_text}
use Rattle.vab_lpstore.specs.Storing.{IsOfTable}
use Rattle.vab_layout.specs.Layout.{layout_of, table_of}
use Rattle.vab_builder.specs.Overlay.{with_overlay, overlay_part}
use Rattle.vab_device.specs.declared.device.Device.{Device}
use Rattle.vab_device.specs.declared.device.Part.{Part}
use Rattle.vab_device.specs.Kept.{table_of_slot, sectors_of}
use Rattle.vab_device.specs.Reading.{IsOfBlocks}

-- the text of a slot's table with a store of so many blocks over the partition of this name
abbrev pub overlay_text : (slot : ℕ) → Table → List ℕ → ℕ → List ℕ
overlay_text slot t name n = table_text (table_of (with_overlay slot (layout_of t) name n))

-- the first two blocks of that store, each as its first sector: its header, and its first page
abbrev pub head_blocks : (slot : ℕ) → Table → List ℕ → ℕ → List ℕ
head_blocks slot t name n =
    take 2
    (sectors_of (layout_of t).device.first_logical_sector
    (overlay_part slot (layout_of t) name n).blocks)

-- The begin of an overlay over the slot's partition of this whole name: its table, with its part of
-- the text that has the store; the head of the store; and the mark of an overlaid slot. Only where
-- there is neither an update nor an overlay.
pub record IsOfOverlay (d : Device) (name : List ℕ) (s : ℕ) (b : List ℕ) : Type 0 where
  pub idle : d.mark.phase ≡ marks.Idle
  pub plain : d.mark.overlaid ≡ false
  pub table : Table
  pub is : table_of_slot d d.mark.slot ≡ Some table
  pub store : ℕ
  pub short : length (overlay_text d.mark.slot table name store) ≤ d.geometry.max
  pub writes : IsOfTable d.geometry d.mark.slot (overlay_text d.mark.slot table name store) s b
      ⊎ IsOfBlocks (head_blocks d.mark.slot table name store) s
      ⊎ IsAt 2048 (mark_spelling (overlaid_by true d.mark)) s b

-- A block that is written over the overlaid partition: a sector of its store.
pub record IsOfOverlaid (d : Device) (s : ℕ) : Type 0 where
  pub part : Part
  pub is : d.overlay ≡ Some part
  pub store : List ℕ
  pub stored : part.store ≡ Some store
  pub inside : IsOfBlocks store s

-- The end of an overlay: the mark of a slot that isn't overlaid.
pub record IsOfDiscard (d : Device) (s : ℕ) (b : List ℕ) : Type 0 where
  pub overlaid : d.mark.overlaid ≡ true
  pub mark : IsAt 2048 (mark_spelling (overlaid_by false d.mark)) s b
