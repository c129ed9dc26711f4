-- What opening a device leaves.
use Rattle.std.specs.Prelude.{◌≡◌, ℕ}
use Rattle.vab_disk.specs.declared.disk.Disk.{Ghosts}
use Rattle.vab_disk.specs.Disk.{Adds}
use Rattle.vab_disk.specs.Calls.{IsAtRest}
use Rattle.vab_device.specs.Reading.{device}
use Rattle.vab_recover.specs.Opening.{LeavesSame}

-- nothing is heard or told, and the disk means the same in every outcome
pub record Opens {D : Type 0} (g : Ghosts D) (size : ℕ) (old new : D) : Type 0 where
  pub told : g.told new ≡ g.told old
  pub left : g.input_left new ≡ g.input_left old
  pub heard : g.heard new ≡ g.heard old
  pub device : device size (g.seen new) ≡ device size (g.seen old)
  pub settled : IsAtRest g old → IsAtRest g new
  pub time : IsAtRest g old
      → Adds g.moment g.outcomes old new (LeavesSame (g.told old) size (g.seen old))
