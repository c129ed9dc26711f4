-- A run of calls that only hears, and when it hears.
use Rattle.std.specs.Prelude.{◌≡◌, List, ℕ, ◌++◌}
use Rattle.std.specs.List.{All}
use Rattle.vab_disk.specs.Disk.{SameHoldings, Adds, Nothing, NoFewer, Hearing}
use Rattle.vab_disk.specs.declared.disk.Disk.{Ghosts}

-- the hearings, with others behind them of which P holds
pub record HearsWhere (P : Hearing → Type 0) (old new : List Hearing) : Type 0 where
  pub since : List Hearing
  pub behind : new ≡ old ++ since
  pub each : All P since

-- Where so much of the input is left, what has come of these bytes is not all that is wanted.
pub record Wants (bytes : List ℕ) (TooFew : List ℕ → Type 0) (left : List ℕ) : Type 0 where
  pub came : List ℕ
  pub is : bytes ≡ came ++ left
  pub too_few : TooFew came

-- this is told, and what has come of these bytes is too few
pub record IsHeardFor
    (told bytes : List ℕ)
    (TooFew : List ℕ → Type 0)
    (h : Hearing) : Type 0 where
  pub told_then : h.told ≡ told
  pub wants : Wants bytes TooFew h.input_left

-- The calls only hear: nothing is told, and the disk stays. They hear while what has come of these
-- bytes is too few, and no more.
pub record Listens {D : Type 0}
    (g : Ghosts D)
    (bytes : List ℕ)
    (TooFew : List ℕ → Type 0)
    (old new : D) : Type 0 where
  pub size : g.size new ≡ g.size old
  pub seen : g.is_modelled → g.seen new ≡ g.seen old
  pub crash : g.is_modelled → SameHoldings (g.may_leave old) (g.may_leave new)
  pub told : g.is_modelled → g.told new ≡ g.told old
  pub heard : g.is_modelled
      → HearsWhere (IsHeardFor (g.told old) bytes TooFew) (g.heard old) (g.heard new)
  pub time : g.is_modelled → Adds g.moment g.outcomes old new Nothing
  pub counts : NoFewer (g.faults old) (g.faults new)
