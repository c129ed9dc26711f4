-- What a wipe writes.
use Rattle.std.specs.Prelude.{◌≡◌, ◌≤◌, false, ℕ, List, length, Option, Some}
use Rattle.vab_marks.specs.declared.mark.MarkPhase.TheVariants as marks
use Rattle.vab_tables.specs.Spelling.{table_text}
use Rattle.vab_lpstore.specs.Storing.{IsOfTable}
use Rattle.vab_super_image.specs.declared.image.SuperImage.{SuperImage}
use Rattle.vab_super_image.specs.SuperImage.{super_image_of, wiped}
use Rattle.vab_device.specs.declared.device.Device.{Device}

-- A sector of the copies of the current slot's table, with its part of the text of the table that
-- is left of the staged image; nothing where there is an update or an overlay.
pub record IsOfWipe (d : Device) (staged : Option (List ℕ)) (s : ℕ) (b : List ℕ) : Type 0 where
  pub idle : d.mark.phase ≡ marks.Idle
  pub bare : d.mark.overlaid ≡ false
  pub bytes : List ℕ
  pub are_staged : staged ≡ Some bytes
  pub image : SuperImage
  pub is : super_image_of d.mark.slot bytes ≡ Some image
  pub short : length (table_text (wiped image.table)) ≤ d.geometry.max
  pub writes : IsOfTable d.geometry d.mark.slot (table_text (wiped image.table)) s b
