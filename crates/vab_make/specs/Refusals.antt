-- What a refusal is, and what stands where the sizes refuse nothing.
use Rattle.std.specs.Prelude.{◌≡◌, ℕ, ◌≤◌, false, List, Option, Err}
use Rattle.vab_tables.specs.Rules.{cap_of}
use Rattle.vab_set.specs.declared.set.SetImage.{SetImage}
use Rattle.vab_make.specs.declared.fault.MakeFault.{MakeFault}
use Rattle.vab_make.specs.Made.{set_blocks, made_device, is_over}
use Rattle.vab_make.specs.Making.{Gives, IsOfDisk}

-- it is what is said, or memory was refused; the disk has not failed
pub record Refuses (fault : MakeFault) (said : Option MakeFault) : Type 0 where
  pub gives : Gives {A = Unit {0}} (Err fault) said
  pub not_disk : IsOfDisk fault → ⊥

-- none of the first three refusals holds
pub record PassesSizes (set : List SetImage) (limit size : ℕ) : Type 0 where
  pub enough : 6152 ≤ size
  pub limited : is_over set limit ≡ false
  pub room : set_blocks set ≤ cap_of (made_device size)
