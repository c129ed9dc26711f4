-- What is read of a copy.
use Rattle.std.specs.Prelude.{◌≡◌, ℕ, ◌≤◌, List, length, take}
use Rattle.vab_tables.specs.Needs.{need_of}

-- these bytes are the copy's first ones, and as many as decide what it says
pub record IsFront (max : ℕ) (copy bytes : List ℕ) : Type 0 where
  pub first : bytes ≡ take (length bytes) copy
  pub header : 256 ≤ length bytes
  pub needed : need_of max copy ≤ length bytes
