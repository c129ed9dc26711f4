-- What is counted of the partitions of a kept device.
use Rattle.std.specs.Prelude.{◌≡◌, ℕ, ◌==◌, if◌then◌else◌, List, [], length, sum_by}
use Rattle.std.specs.Prelude.{Option, Some, None}
use Rattle.vab_device.specs.declared.device.Part.{Part}
use Rattle.vab_device.specs.declared.device.Device.{Device}
use Rattle.vab_adopt.specs.declared.count.Adopted.{Adopted}

abbrev pub parts_there : Option (List Part) → List Part
parts_there None = []
parts_there (Some parts) = parts

abbrev pub blocks_over : List Part → ℕ
blocks_over parts = sum_by (λ p. length p.map) parts

-- so many partitions of a slot, with so many blocks
pub record IsCountOf (d : Device) (slot : ℕ) (a : Adopted) : Type 0 where
  pub images : a.images ≡ length (parts_there (if slot == 0 then d.a else d.b))
  pub blocks : a.blocks ≡ blocks_over (parts_there (if slot == 0 then d.a else d.b))
  pub cap : a.cap ≡ d.cap
