-- The device that a disk is, once it has the heads of a device without an update.
use Rattle.std.specs.Prelude.{◌≡◌, ◌≢◌, ℕ, ◌/◌, ◌==◌, if◌then◌else◌, List, [], length, take, sum_by}
use Rattle.std.specs.Prelude.{true, Option, Some, None, Result, Ok, Err}
use Rattle.std.specs.Int.{w32, to_le_bytes}
use Rattle.vab_bytes.specs.Number.{put_at}
use Rattle.vab_bytes.specs.Crc.{crc_of}
use Rattle.vab_disk.specs.Disk.{Image, set_sector}
use Rattle.vab_bootctl.specs.declared.slots.Info.{Info}
use Rattle.vab_bootctl.specs.declared.slots.Control.{Control}
use Rattle.vab_bootctl.specs.Control.{control_of, with_fields, KeepsRest}
use Rattle.vab_marks.specs.declared.version.MarkVersion.TheVariants.{Two}
use Rattle.vab_marks.specs.Mark.{mark_of, idle_mark, mark_spelling}
use Rattle.vab_marks.specs.Version.{version_in}
use Rattle.vab_model.specs.declared.state.Image.{Image as ImageOfSlot}
use Rattle.vab_model.specs.State.{images_at, no_info}
use Rattle.vab_device.specs.declared.fault.StartFault.{StartFault}
use Rattle.vab_device.specs.Mounted.{Mounted}
use Rattle.vab_device.specs.Reading.{device}
use Rattle.vab_make.specs.Steps.{blanked}
use Rattle.vab_adopt.specs.declared.fault.AdoptFault.{AdoptFault}
use Rattle.vab_adopt.specs.declared.fault.AdoptFault.TheVariants.{AlreadyDevice, NoDevice}
use Rattle.vab_adopt.specs.declared.count.Adopted.{Adopted}

-- ---- the heads

-- a slot that works, with the highest priority
abbrev pub good_info : Info
good_info = record { priority = 15; tries = 0; successful = true }

-- this slot is current and good, and nothing is said of the other
abbrev pub adopted_control : ℕ → Control
adopted_control slot = record {
  current = slot;
  a = if slot == 0 then good_info else no_info;
  b = if slot == 0 then no_info else good_info;
}

-- a sector with the fields of this boot control and the sum, and its other bits as they were
unfoldable pub control_sector : Control → List ℕ → List ℕ
control_sector c sector =
    put_at (with_fields c sector) 28 (to_le_bytes w32 (crc_of (take 28 (with_fields c sector))))

-- The disk with the boot control in which this slot alone is good, and with the mark of no update
-- of the device of this slot. Of the boot control's sector all that the sum covers is zeros where
-- no field stands, and what stands behind the sum is kept.
unfoldable pub with_heads : ℕ → Image → Image
with_heads slot image =
    set_sector
    (set_sector image 4 (control_sector (adopted_control slot) (blanked (image 4))))
    2048 (mark_spelling (idle_mark slot))

-- ---- what is adopted

-- what a disk of so many sectors means with these heads
unfoldable pub adopted : ℕ → ℕ → Image → Result Mounted StartFault
adopted size slot image = device size (with_heads slot image)

abbrev pub refusal_by : Result Mounted StartFault → Result Mounted StartFault → Option AdoptFault
refusal_by (Ok m) later = Some AlreadyDevice
refusal_by (Err fault) (Ok m) = None
refusal_by (Err fault) (Err later) = Some (NoDevice later)

-- Why it isn't adopted: it is a device already, or with these heads it would be none.
unfoldable pub adopt_refusal : ℕ → ℕ → Image → Option AdoptFault
adopt_refusal size slot image = refusal_by (device size image) (adopted size slot image)

-- ---- what is told of it

-- the images of a slot, where it has some
abbrev pub images_there : Option (List ImageOfSlot) → List ImageOfSlot
images_there None = []
images_there (Some images) = images

abbrev pub images_of : ℕ → Mounted → List ImageOfSlot
images_of slot m = images_there (images_at m.state slot)

-- the blocks of 4096 bytes that images fill
abbrev pub blocks_in : List ImageOfSlot → ℕ
blocks_in images = sum_by (λ i. length i.bytes / 4096) images

-- how many images a slot has, the blocks that they fill, and how many blocks there are
pub record IsCounted (slot : ℕ) (m : Mounted) (a : Adopted) : Type 0 where
  pub images : a.images ≡ length (images_of slot m)
  pub blocks : a.blocks ≡ blocks_in (images_of slot m)
  pub cap : a.cap ≡ m.state.cap

-- ---- what stands on the disk

-- Bytes of the boot control's sector, where those were there before: this slot alone is good, and
-- what no field has is zeros before the sum, and stays behind it.
pub record IsControlOf (slot : ℕ) (old bytes : List ℕ) : Type 0 where
  pub control : control_of bytes ≡ Ok (adopted_control slot)
  pub rest : KeepsRest (blanked old) bytes

-- a disk that differs from the old one by its heads alone
pub record HasHeadsOf (slot : ℕ) (old new : Image) : Type 0 where
  pub control : IsControlOf slot (old 4) (new 4)
  pub mark : mark_of (new 2048) ≡ Ok (idle_mark slot)
  pub version : version_in (new 2048) ≡ Two
  pub others : (s : ℕ) → s ≢ 4 → s ≢ 2048 → new s ≡ old s
