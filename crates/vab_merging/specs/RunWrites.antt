-- What the turns of a merge write.
use Rattle.std.specs.Prelude.{◌≡◌, ◌⊎◌, ℕ, ◌-◌, ◌<◌, List, length, Some}
use Rattle.vab_space.specs.declared.Chunk.{Chunk}
use Rattle.vab_exceptions.specs.declared.area.Exception.{Exception}
use Rattle.vab_merge.specs.Copied.{InBlocksOf}
use Rattle.vab_store.specs.Sectors.{entry_sector}
use Rattle.vab_device.specs.declared.device.Device.{Device}
use Rattle.vab_device.specs.declared.device.PartImage.TheVariants.{Written}
use Rattle.vab_merging.specs.Turns.{next_of, part_at, turned}

-- A sector of the partition's blocks in the chunk of the last exception of the next store, or that
-- of its entry.
pub record IsOfTurn (d : Device) (s : ℕ) : Type 0 where
  pub place : ℕ
  pub next : next_of d ≡ Some place
  pub store : List ℕ
  pub stored : (part_at d place).store ≡ Some store
  pub chunk : Chunk
  pub exceptions : List Exception
  pub written : (part_at d place).image ≡ Written chunk exceptions
  pub some : 0 < length exceptions
  pub here : InBlocksOf chunk (part_at d place).map exceptions (length exceptions - 1) s
      ⊎ (s ≡ entry_sector chunk store (length exceptions - 1))

-- the same of the first so many turns
pub record IsOfTurns (blocks : ℕ) (d : Device) (s : ℕ) : Type 0 where
  pub before : ℕ
  pub below : before < blocks
  pub turn : IsOfTurn (turned before d) s
