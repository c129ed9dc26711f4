-- A list that grows by one.
use Rattle.std.specs.Prelude.{◌≡◌, ℕ, ◌<◌, List, [], ◌∷◌, ◌++◌, length, Option, Some, None}

-- Where there is a list behind it, it is the one before with one more number, and that one had less
-- than so many.
abbrev pub IsPushed : Option (List ℕ) → ℕ → ℕ → Option (List ℕ) → Type 0
IsPushed old n most None = Unit {0}
IsPushed None n most (Some new) = ⊥
IsPushed (Some old) n most (Some new) = (new ≡ old ++ n ∷ []) × (length old < most)
