-- What the laws ask of a disk: whole sectors.
use Rattle.std.specs.Prelude.{ℕ, ◌<◌}
use Rattle.vab_disk.specs.Disk.{Image, IsSector}

-- each sector of a disk of so many is one of 512 bytes
abbrev pub HasWholeSectors : ℕ → Image → Type 0
HasWholeSectors size image = (s : ℕ) → s < size → IsSector (image s)
