-- What a made device holds that its images don't tell.
use Rattle.std.specs.Prelude.{◌≡◌, ℕ, List, Ok}
use Rattle.vab_disk.specs.Disk.{Image}
use Rattle.vab_bootctl.specs.Control.{control_of, KeepsRest}
use Rattle.vab_make.specs.Made.{made_control}
use Rattle.vab_make.specs.Steps.{HasPlaces, blanked}

-- Both copies of the geometry and of the table are there, and the boot control as a whole, also
-- what it says of slot b. Behind its 32 bytes sector 4 is as it was.
pub record HoldsMade (max : ℕ) (old new : Image) : Type 0 where
  pub text : List ℕ
  pub copies : HasPlaces max text new
  pub control : control_of (new 4) ≡ Ok made_control
  pub rest : KeepsRest (blanked (old 4)) (new 4)
