-- What the begin of an update writes before its mark.
use Rattle.std.specs.Prelude.{◌⊎◌, ℕ, List}
use Rattle.vab_bootctl.specs.declared.slots.Control.{Control}
use Rattle.vab_geometry.specs.declared.geometry.Geometry.{Geometry}
use Rattle.vab_lpstore.specs.Storing.{IsOfTable}
use Rattle.vab_statuses.specs.Statuses.{IsOfStatuses}
use Rattle.vab_install.specs.Control.{IsControl}

-- boot control's sector with this boot control, and the sectors of the statuses
abbrev pub IsOfClearing : Type 0 → Control → List ℕ → ℕ → List ℕ → Type 0
IsOfClearing told c old s b = IsControl told c old s b ⊎ IsOfStatuses s

-- those, and the copies of the slot's table with this text
abbrev pub IsOfBegin : Type 0 → Geometry → ℕ → Control → List ℕ → List ℕ → ℕ → List ℕ → Type 0
IsOfBegin told g slot c text old s b = IsOfClearing told c old s b ⊎ IsOfTable g slot text s b
