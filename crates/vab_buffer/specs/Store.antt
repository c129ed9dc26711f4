-- Runs of sectors.
use Rattle.std.specs.Prelude.{ℕ, ◌/◌, List, length}
use Rattle.vab_disk.specs.declared.disk.Disk.{Ghosts}
use Rattle.vab_disk.specs.Disk.{Leaves, Adds, Writes}
use Rattle.vab_disk.specs.Calls.{IsQuiet, SameBut}

-- how many whole sectors these bytes are
abbrev pub sectors_in : List ℕ → ℕ
sectors_in bytes = length bytes / 512

-- Writes alone: each sector reads and may be left as before, or with such bytes as W has there, and
-- whatever could be left before still can.
pub record OnlyWrites {D : Type 0}
    (g : Ghosts D)
    (W : ℕ → List ℕ → Type 0)
    (old new : D) : Type 0 where
  pub quiet : IsQuiet g old new
  pub seen : g.is_modelled → SameBut W (g.seen old) (g.seen new)
  pub crash : g.is_modelled → Writes W (g.may_leave old) (g.may_leave new)
  pub time : g.is_modelled
      → Adds g.moment g.outcomes old new (Leaves (g.told old) (g.may_leave new))
