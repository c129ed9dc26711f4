-- What stands behind the heads of a disk: mark, statuses and boot control are before it.
use Rattle.std.specs.Prelude.{◌≡◌, ℕ, ◌≤◌}
use Rattle.vab_disk.specs.Disk.{Image}

-- both have the same `super`
abbrev pub SameSuper : Image → Image → Type 0
SameSuper old new = (s : ℕ) → 4096 ≤ s → new s ≡ old s
