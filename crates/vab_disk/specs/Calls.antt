-- What a run of calls does to a disk, said of the bound's members all at once.
use Rattle.std.specs.Prelude.{◌≡◌, ◌⊎◌, ℕ, ◌≤◌, ◌<◌, List, Result, OnOk, OnErr}
use Rattle.vab_disk.specs.declared.disk.Disk.{Ghosts}
use Rattle.vab_disk.specs.Disk.{Image, LeavesWith, IsSettled, Adds, Nothing, NoMoreBut}
use Rattle.vab_disk.specs.Disk.{SameHoldings, Quiet, DiskFailed}

-- sectors from the one up to the other, which isn't among them
pub record IsBetween (first end s : ℕ) : Type 0 where
  pub from : first ≤ s
  pub below : s < end

-- nothing is told or heard, the size stays, and no count of faults falls
abbrev pub IsQuiet : {D : Type 0} → Ghosts D → D → D → Type 0
IsQuiet g old new = Quiet g.is_modelled g.size g.told g.input_left g.heard g.faults old new

-- Reads alone: no value and no outcome is new.
pub record OnlyReads {D : Type 0} (g : Ghosts D) (old new : D) : Type 0 where
  pub quiet : IsQuiet g old new
  pub seen : g.is_modelled → g.seen new ≡ g.seen old
  pub crash : g.is_modelled → SameHoldings (g.may_leave old) (g.may_leave new)
  pub time : g.is_modelled → Adds g.moment g.outcomes old new Nothing

-- A sync: a read gives what it gave, and what a crash may leave now it could leave before.
pub record OnlySyncs {D : Type 0} (g : Ghosts D) (old new : D) : Type 0 where
  pub quiet : IsQuiet g old new
  pub seen : g.is_modelled → g.seen new ≡ g.seen old
  pub crash : g.is_modelled → (s : ℕ) (b : List ℕ) → g.may_leave new s b → g.may_leave old s b
  pub time : g.is_modelled → Adds g.moment g.outcomes old new Nothing

-- any bytes, in these sectors
abbrev pub InSectors : (ℕ → Type 0) → ℕ → List ℕ → Type 0
InSectors W s b = W s

-- each sector reads as before, or as one of these says
abbrev pub SameBut : (W : ℕ → List ℕ → Type 0) (old new : Image) → Type 0
SameBut W old new = (s : ℕ) → (new s ≡ old s) ⊎ W s (new s)

-- Each sector reads and may be left by a crash as before the call, or with such bytes as W has
-- there; the same in each outcome since.
pub record Touches {D : Type 0}
    (g : Ghosts D)
    (W : ℕ → List ℕ → Type 0)
    (old new : D) : Type 0 where
  pub quiet : IsQuiet g old new
  pub seen : g.is_modelled → SameBut W (g.seen old) (g.seen new)
  pub crash : g.is_modelled → NoMoreBut W (g.may_leave old) (g.may_leave new)
  pub time : g.is_modelled
      → Adds g.moment g.outcomes old new (LeavesWith W (g.told old) (g.may_leave old))

-- An error comes where one call of the disk failed, and none was made behind it. Ok leaves all
-- counts as they were.
pub record FailsWithDisk {D A E : Type 0}
    (g : Ghosts D)
    (old new : D)
    (result : Result A E) : Type 0 where
  pub steady : OnOk result (g.faults new ≡ g.faults old)
  pub cause : OnErr result (DiskFailed (g.faults old) (g.faults new))

-- nothing is pending: what a crash leaves is what a read gives
abbrev pub IsAtRest : {D : Type 0} → Ghosts D → D → Type 0
IsAtRest g d = IsSettled (g.seen d) (g.may_leave d)

-- What a run of calls does to the sectors, whatever it hears and tells: each sector reads and may
-- be left by a crash as before, or with such bytes as W has there; the same in each outcome since.
pub record Changes {D : Type 0}
    (g : Ghosts D)
    (W : ℕ → List ℕ → Type 0)
    (old new : D) : Type 0 where
  pub size : g.size new ≡ g.size old
  pub seen : g.is_modelled → SameBut W (g.seen old) (g.seen new)
  pub crash : g.is_modelled → NoMoreBut W (g.may_leave old) (g.may_leave new)
  pub time : g.is_modelled
      → Adds g.moment g.outcomes old new
      (λ o. (s : ℕ) → g.may_leave old s (o.image s) ⊎ W s (o.image s))
