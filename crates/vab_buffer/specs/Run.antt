-- What a run of kept sectors means.
use Rattle.std.specs.Prelude.{◌≡◌, ◌⊎◌, ℕ, ◌+◌, ◌≤◌, ◌<◌, List}
use Rattle.vab_disk.specs.Disk.{Image, IsAt, Writes, set_sector}
use Rattle.vab_gate.specs.Gate.{set_sectors, IsAmong}
use Rattle.vab_buffer.specs.declared.run.Run.{Run}

-- the image with the run's sectors in place of its own
abbrev pub over : Image → Run → Image
over image run = set_sectors run.count image run.first run.bytes.items

-- the sector is one of the run, and these are its bytes
abbrev pub IsKept : Run → ℕ → List ℕ → Type 0
IsKept run = IsAmong run.count run.first run.bytes.items

-- the sector is one of the run
pub record Has (run : Run) (s : ℕ) : Type 0 where
  pub from : run.first ≤ s
  pub below : s < run.first + run.count

-- the sector may be added to the run
abbrev pub Takes : Run → ℕ → Type 0
Takes run at = (run.count ≡ 0) ⊎ ((at ≡ run.first + run.count) × (run.count < 128))

-- one sector more is kept
pub record Gains (at : ℕ) (bytes : List ℕ) (old new : Run) : Type 0 where
  pub kept : Writes (IsAt at bytes) (IsKept old) (IsKept new)
  pub over : (image : Image) → over image new ≡ set_sector (over image old) at bytes
