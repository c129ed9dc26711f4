-- What is decided of a wipe before it writes.
use Rattle.std.specs.Prelude.{◌≡◌, ◌≤◌, Bool, false, if◌then◌else◌, ℕ, List, length}
use Rattle.std.specs.Prelude.{Option, Some, None}
use Rattle.vab_disk.specs.Disk.{Image}
use Rattle.vab_marks.specs.declared.mark.MarkPhase.TheVariants as marks
use Rattle.vab_tables.specs.declared.table.Table.{Table}
use Rattle.vab_tables.specs.Rules.{KeepsRules}
use Rattle.vab_tables.specs.Spelling.{table_size_of, table_text}
use Rattle.vab_tables.specs.Text.{IsTableText}
use Rattle.vab_layout.specs.Layout.{layout_of}
use Rattle.vab_layout.specs.Slots.{IsOwn}
use Rattle.vab_super_image.specs.declared.image.SuperImage.{SuperImage}
use Rattle.vab_super_image.specs.SuperImage.{super_image_of, IsSuperImage, first_filled, wiped}
use Rattle.vab_super_image.specs.SuperImage.{wiped_layout}
use Rattle.vab_model.specs.declared.state.GroupLimit.{GroupLimit}
use Rattle.vab_model.specs.declared.state.Phase.{Phase}
use Rattle.vab_model.specs.declared.command.Refusal.{Refusal}
use Rattle.vab_model.specs.declared.command.Refusal.TheVariants.{NotIdle}
use Rattle.vab_model.specs.Effects.{Effect, refuses, wanting, unless_refused}
use Rattle.vab_model.specs.Staged.{is_sparse}
use Rattle.vab_model.specs.Wipe.{Judge, filled_refusal, wipe_effect}
use Rattle.vab_device.specs.declared.device.Part.{Part}
use Rattle.vab_device.specs.declared.device.Device.{Device}
use Rattle.vab_device.specs.Kept.{limits_of, parts_of}
use Rattle.vab_device.specs.Mounted.{places_on, phase_on}
use Rattle.vab_device.specs.Updates.{other_super, full_super}

-- ---- what is judged

-- why an image is none of the device's `super`
abbrev pub other : Device → Judge
other d = other_super (places_on d) d.mark.slot

-- the text of the table that is left is too long
abbrev pub full : Device → Judge
full d = full_super (places_on d)

-- The row of a wipe of the slot of the mark, where nothing is made of the image that is taken. An
-- overlay refuses it as an update does.
abbrev pub judged : Device → Option (List ℕ) → Phase → Effect SuperImage
judged d staged phase =
    if d.mark.overlaid then refuses NotIdle
    else wipe_effect (other d) (full d) (λ i. i) d.mark.slot staged phase

-- this refusal, or where there is none a later one
abbrev pub or_later : Option Refusal → Option Refusal → Option Refusal
or_later None later = later
or_later (Some refusal) later = Some refusal

-- why an image isn't taken, whatever its table's size is
abbrev pub refused_image : Device → Judge
refused_image d i = or_later (other d i) (filled_refusal (first_filled i.table.partitions))

-- the refusal of that row, or want of memory where that may come in its place
pub record Refuses (d : Device) (staged : Option (List ℕ)) (r : Refusal) : Type 0 where
  pub refused : Bool
  pub wants : Bool
  pub is : (image : Image)
      → unless_refused refused (judged d staged (phase_on d image))
      ≡ wanting wants (refuses r)

-- ---- what is taken

-- there is neither an update nor an overlay, and these bytes are staged, which are no sparse image
pub record AreTaken (d : Device) (staged : Option (List ℕ)) (bytes : List ℕ) : Type 0 where
  pub idle : d.mark.phase ≡ marks.Idle
  pub bare : d.mark.overlaid ≡ false
  pub are_staged : staged ≡ Some bytes
  pub plain : is_sparse bytes ≡ false

-- They are this image, which has no extents, and is one of the device's `super`.
pub record IsTaken (d : Device) (staged : Option (List ℕ)) (i : SuperImage) : Type 0 where
  pub bytes : List ℕ
  pub are : AreTaken d staged bytes
  pub is : super_image_of d.mark.slot bytes ≡ Some i
  pub rules : IsSuperImage d.mark.slot i
  pub free : refused_image d i ≡ None

-- ---- what is left of it

-- the table without extents, whose text is no longer than a copy may be
pub record IsEmptied (max slot : ℕ) (i : SuperImage) (t : Table) : Type 0 where
  pub is : t ≡ wiped i.table
  pub rules : KeepsRules t
  pub own : IsOwn slot (layout_of t).parts
  pub layout : layout_of t ≡ wiped_layout (layout_of i.table)
  pub size : table_size_of t ≤ max

-- the text of a table, the slot's own partitions and its groups
pub record IsSpelled
    (slot : ℕ)
    (t : Table)
    (text : List ℕ)
    (parts : List Part)
    (groups : List GroupLimit) : Type 0 where
  pub text_is : text ≡ table_text t
  pub long : length text ≡ table_size_of t
  pub stands : (max : ℕ) → table_size_of t ≤ max → IsTableText max text t
  pub parts_are : parts ≡ parts_of slot (layout_of t)
  pub groups_are : groups ≡ limits_of slot t.groups

-- what a wipe of a device writes, and what is kept then
pub record IsPrepared
    (d : Device)
    (staged : Option (List ℕ))
    (t : Table)
    (text : List ℕ)
    (parts : List Part)
    (groups : List GroupLimit) : Type 0 where
  pub image : SuperImage
  pub taken : IsTaken d staged image
  pub emptied : IsEmptied d.geometry.max d.mark.slot image t
  pub spelled : IsSpelled d.mark.slot t text parts groups
