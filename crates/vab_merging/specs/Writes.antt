-- What a merge writes.
use Rattle.std.specs.Prelude.{◌≡◌, ◌⊎◌, ◌<◌, ℕ, List}
use Rattle.vab_marks.specs.declared.mark.MarkPhase.TheVariants as marks
use Rattle.vab_device.specs.declared.device.Device.{Device}
use Rattle.vab_merging.specs.GateWrites.{IsOfMergeEnd}
use Rattle.vab_merging.specs.Turns.{left_in}
use Rattle.vab_merging.specs.RunWrites.{IsOfTurns}

-- What so many turns write: for each the block of an exception in its partition, and its entry in
-- the store; and where there are more turns than exceptions, the mark that all stores are merged.
-- Where nothing is merged nothing is written.
pub record IsOfMerge (d : Device) (blocks s : ℕ) (b : List ℕ) : Type 0 where
  pub merging : d.mark.phase ≡ marks.Merging
  pub writes : IsOfTurns blocks d s ⊎ ((left_in d < blocks) × IsOfMergeEnd d s b)
