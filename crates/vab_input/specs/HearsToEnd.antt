-- The input is heard to its end, and not beyond it.
use Rattle.std.specs.Prelude.{◌≡◌, ◌≢◌, ◌⊎◌, ◌++◌, [], ◌∷◌, List}
use Rattle.vab_disk.specs.Disk.{Hearing}
use Rattle.vab_exchanges.specs.Hearing.{HearsWhere}

-- at this hearing something was left
abbrev pub FindsSome : Hearing → Type 0
FindsSome h = h.input_left ≢ []

-- the hearings, with others behind them at which something was left, and with one at which nothing
-- was
pub record HearsToEnd (old new : List Hearing) : Type 0 where
  pub before : List Hearing
  pub some : HearsWhere FindsSome old before
  pub last : Hearing
  pub behind : new ≡ before ++ last ∷ []
  pub end : last.input_left ≡ []

-- not beyond its end: all hearings but a last one found something
abbrev pub HearsWithin : (old new : List Hearing) → Type 0
HearsWithin old new = HearsWhere FindsSome old new ⊎ HearsToEnd old new
