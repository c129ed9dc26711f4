-- What is known before the first write.
use Rattle.std.specs.Prelude.{◌≡◌, ℕ, ◌%◌, ◌^◌, ◌≤◌, List, length}
use Rattle.vab_tables.specs.Rules.{cap_of}
use Rattle.vab_tables.specs.Text.{IsTableText}
use Rattle.vab_set.specs.declared.set.SetImage.{SetImage}
use Rattle.vab_set.specs.Spelling.{IsSet}
use Rattle.vab_layout.specs.Layout.{table_of}
use Rattle.vab_make.specs.Made.{set_blocks, made_device, made_layout}

-- the most bytes of a copy of a table
pub record IsMost (max : ℕ) : Type 0 where
  pub sectors : max % 512 ≡ 0
  pub least : 512 ≤ max
  pub most : max ≤ 65536

-- the images of a set have room on a disk of so many sectors
pub record HasRoom (set : List SetImage) (size : ℕ) : Type 0 where
  pub images : IsSet set
  pub enough : 6152 ≤ size
  pub room : set_blocks set ≤ cap_of (made_device size)

-- the text is that of the device's table
pub record IsPrepared (set : List SetImage) (limit max size : ℕ) (text : List ℕ) : Type 0 where
  pub limited : limit ≤ 2 ^ 44
  pub room : HasRoom set size
  pub most : IsMost max
  pub stands : IsTableText max text (table_of (made_layout set limit size))
  pub short : length text ≤ max
