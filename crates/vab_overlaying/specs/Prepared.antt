-- What is decided of an overlay before anything is written.
use Rattle.std.specs.Prelude.{◌≡◌, ℕ, ◌+◌, ◌≤◌, ◌<◌, ◌^◌, Bool, true, false, not, ◌&&◌, List}
use Rattle.std.specs.Prelude.{length, sum_by}
use Rattle.std.specs.Prelude.{Option, Some}
use Rattle.vab_disk.specs.Disk.{Image}
use Rattle.vab_names.specs.Names.{is_full, base_of, store_of}
use Rattle.vab_marks.specs.declared.mark.MarkPhase.TheVariants as marks
use Rattle.vab_marks.specs.declared.mark.UpdateMark.{UpdateMark}
use Rattle.vab_marks.specs.Mark.{is_idle}
use Rattle.vab_tables.specs.declared.table.Table.{Table}
use Rattle.vab_tables.specs.Rules.{KeepsRules}
use Rattle.vab_tables.specs.Spelling.{table_size_of, table_text, as_minor_2}
use Rattle.vab_tables.specs.Text.{IsTableText}
use Rattle.vab_layout.specs.declared.layout.Part.{Part as PartOfLayout}
use Rattle.vab_layout.specs.Layout.{layout_of}
use Rattle.vab_layout.specs.Plain.{plain}
use Rattle.vab_layout.specs.Slots.{IsOwn}
use Rattle.vab_builder.specs.Edits.{fitting}
use Rattle.vab_builder.specs.Gives.{IsTableOf}
use Rattle.vab_builder.specs.Overlay.{with_overlay, IsOverlaid}
use Rattle.vab_model.specs.declared.command.Refusal.{Refusal}
use Rattle.vab_model.specs.Commands.{Overlay}
use Rattle.vab_model.specs.Effects.{refuses, wanting, unless_refused}
use Rattle.vab_model.specs.Overlay.{is_store_size, store_of_size}
use Rattle.vab_device.specs.declared.device.Part.{Part}
use Rattle.vab_device.specs.declared.device.Device.{Device}
use Rattle.vab_device.specs.Kept.{IsDevice, part_named, parts_at, parts_of, sectors_of}
use Rattle.vab_device.specs.Kept.{table_of_slot}
use Rattle.vab_device.specs.Mounted.{mounted_on}
use Rattle.vab_device.specs.Reading.{Represents}
use Rattle.vab_device.specs.Stores.{first_named}
use Rattle.vab_device.specs.Updates.{effect_on}
use Rattle.vab_overlaying.specs.declared.prepared.Prepared.{Prepared}

-- ---- why none begins

-- each sector of a disk has 512 bytes
abbrev pub AreWhole : (size : ℕ) → Image → Type 0
AreWhole size image = (s : ℕ) → s < size → length (image s) ≡ 512

-- of each disk that is this device, the command is refused so, or for want of memory where that may
-- come in its place
pub record Refuses (d : Device) (name : List ℕ) (size : ℕ) (r : Refusal) : Type 0 where
  pub refused : Bool
  pub wants : Bool
  pub is : (n : ℕ) (image : Image) (staged : Option (List ℕ))
      → IsDevice d n
      → Represents d n image
      → AreWhole n image
      → unless_refused refused (effect_on (mounted_on d image) staged (Overlay name size))
      ≡ wanting wants (refuses r)

-- ---- what is judged

-- there is no update and no overlay
abbrev pub is_free : UpdateMark → Bool
is_free m = not m.overlaid && is_idle m.phase

-- there is no update and no overlay, and the name and the size are those of an overlay
pub record IsAsked (d : Device) (name : List ℕ) (size : ℕ) : Type 0 where
  pub idle : d.mark.phase ≡ marks.Idle
  pub plain : d.mark.overlaid ≡ false
  pub full : is_full d.mark.slot name ≡ true
  pub sized : is_store_size size ≡ true

-- the slot has the partition, its store is to have so many blocks, and there is room for them
pub record IsMeasured (d : Device) (name : List ℕ) (size n : ℕ) : Type 0 where
  pub asked : IsAsked d name size
  pub parts : List Part
  pub are : parts_at d d.mark.slot ≡ Some parts
  pub part : Part
  pub named : part_named (base_of name) parts ≡ Some part
  pub blocks : n ≡ store_of_size (length part.map) size
  pub room : sum_by (λ p. length p.map) parts + n ≤ d.cap

-- ---- what is made

-- the table of a slot with a store of so many blocks over the partition of this name
pub record IsStored
    (max slot : ℕ)
    (t : Table)
    (name : List ℕ)
    (n : ℕ)
    (u : Table) : Type 0 where
  pub gives : IsTableOf u (fitting max (with_overlay slot (layout_of t) name n))
  pub rules : KeepsRules u
  pub size : table_size_of u ≤ max
  pub layout : layout_of u ≡ with_overlay slot (layout_of t) name n
  pub own : IsOwn slot (layout_of u).parts
  pub devices : u.devices ≡ t.devices
  pub plain : plain slot (layout_of u) ≡ plain slot (layout_of t)
  pub over : IsOverlaid slot (layout_of t) (layout_of u) name n

-- there is such a table, as a text of less than 2^24 bytes
pub record HasStore (slot : ℕ) (name : List ℕ) (u : Table) : Type 0 where
  pub max : ℕ
  pub small : max < 2 ^ 24
  pub table : Table
  pub count : ℕ
  pub stored : IsStored max slot table name count u

-- the text of the table, the slot's partitions, the one of this name, and where its store stands
pub record IsSpelled (slot : ℕ) (name : List ℕ) (u : Table) (x : Prepared) : Type 0 where
  pub table : x.table ≡ u
  pub text : x.text ≡ table_text u
  pub long : length x.text ≡ table_size_of u
  pub stands : (max : ℕ) → table_size_of u ≤ max → IsTableText max x.text (as_minor_2 u)
  pub parts : x.parts ≡ parts_of slot (layout_of u)
  pub part : part_named (base_of name) (parts_of slot (layout_of u)) ≡ Some x.part
  pub over : PartOfLayout
  pub named : first_named (store_of name) (layout_of u).parts ≡ Some over
  pub store : x.store ≡ sectors_of (layout_of u).device.first_logical_sector over.blocks

-- all that an overlay of this name and size is to write and to keep
pub record IsPrepared (d : Device) (name : List ℕ) (size : ℕ) (x : Prepared) : Type 0 where
  pub blocks : ℕ
  pub measured : IsMeasured d name size blocks
  pub table : Table
  pub is : table_of_slot d d.mark.slot ≡ Some table
  pub stored : IsStored d.geometry.max d.mark.slot table name blocks x.table
  pub spelled : IsSpelled d.mark.slot name x.table x
