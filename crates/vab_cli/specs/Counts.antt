-- What a run leaves of the input and of the counts of faults.
use Rattle.std.specs.Prelude.{◌≡◌, ◌≢◌, ◌≤◌, ◌<◌, ◌^◌, ℕ, List, length}
use Rattle.vab_disk.specs.Disk.{Hearing}
use Rattle.vab_disk.specs.declared.disk.Disk.{Ghosts}
use Rattle.vab_cli.specs.declared.status.Status.{Status}
use Rattle.vab_cli.specs.declared.status.Status.TheVariants.{Port, NoMemory}
use Rattle.vab_cli.specs.Runs.{Held}
use Rattle.vab_exchanges.specs.Hearing.{HearsWhere}
use Rattle.vab_input.specs.HearsToEnd.{FindsSome, HearsToEnd}

-- the input is as it was
pub record HearsNothing {D : Type 0} (g : Ghosts D) (old new : D) : Type 0 where
  pub left : g.input_left new ≡ g.input_left old
  pub heard : g.heard new ≡ g.heard old

-- Of at most 2^32 bytes the input is heard to its end, and of more while something is left.
pub record HearsWhole (left : List ℕ) (old new : List Hearing) : Type 0 where
  pub whole : length left ≤ 2 ^ 32 → HearsToEnd old new
  pub over : 2 ^ 32 < length left → HearsWhere FindsSome old new

-- It is heard so, unless the port failed or memory was refused.
abbrev pub HearsUnless : (left : List ℕ) → (old new : List Hearing) → Status → Type 0
HearsUnless left old new status = status ≢ Port → status ≢ NoMemory → HearsWhole left old new

-- No fault is passed over: unless the run ends by one, the counts are as they were.
abbrev pub IsSteady : {D : Type 0} → Ghosts D → (old new : D) → Status → Type 0
IsSteady g old new status = Held status → g.faults new ≡ g.faults old
