-- Why a block isn't written, and the counts of faults.
use Rattle.std.specs.Prelude.{◌≡◌, ℕ, ◌<◌, ◌≤◌, Result, Ok, Err}
use Rattle.vab_disk.specs.Disk.{DiskFailed}
use Rattle.vab_disk.specs.declared.disk.Disk.{Ghosts}
use Rattle.vab_overlay.specs.declared.fault.OverlayFault.{OverlayFault}
use Rattle.vab_overlay.specs.declared.fault.OverlayFault.TheVariants as faults

-- A store is full exactly where it has fewer blocks than are needed.
abbrev pub TellsFull : {X : Type 0} → (needed has : ℕ) → Result X OverlayFault → Type 0
TellsFull needed has (Ok x) = needed ≤ has
TellsFull needed has (Err (faults.Full need have)) =
    (need ≡ needed) × (have ≡ has) × (has < needed)
TellsFull needed has (Err faults.NoMemory) = needed ≤ has
TellsFull needed has (Err faults.DiskFault) = needed ≤ has

-- A fault of the disk comes where one call of the disk failed. Any other answer leaves all counts
-- as they were.
abbrev pub CountsFaults : {D X : Type 0}
    → Ghosts D
    → D
    → D
    → Result X OverlayFault
    → Type 0
CountsFaults g old new (Ok x) = g.faults new ≡ g.faults old
CountsFaults g old new (Err (faults.Full need have)) = g.faults new ≡ g.faults old
CountsFaults g old new (Err faults.NoMemory) = g.faults new ≡ g.faults old
CountsFaults g old new (Err faults.DiskFault) = DiskFailed (g.faults old) (g.faults new)

-- where the store is full or memory was refused, no call of the disk was made
abbrev pub CallsNone : {D X : Type 0} → D → D → Result X OverlayFault → Type 0
CallsNone old new (Ok x) = Unit {0}
CallsNone old new (Err (faults.Full need have)) = new ≡ old
CallsNone old new (Err faults.NoMemory) = new ≡ old
CallsNone old new (Err faults.DiskFault) = Unit {0}
