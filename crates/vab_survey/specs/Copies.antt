-- What the copies of both slots' tables say.
use Rattle.std.specs.Prelude.{◌≡◌, ℕ, Result, Ok, Err, nat_le}
use Rattle.vab_disk.specs.Disk.{Image}
use Rattle.vab_geometry.specs.declared.geometry.Geometry.{Geometry}
use Rattle.vab_tables.specs.Rules.{KeepsRules}
use Rattle.vab_lpstore.specs.Loading.{slot_table}
use Rattle.vab_device.specs.declared.fault.StartFault.{StartFault}
use Rattle.vab_device.specs.declared.fault.StartFault.TheVariants.{TooSmall}
use Rattle.vab_device.specs.Checks.{unless}
use Rattle.vab_device.specs.Reading.{geometry_at}
use Rattle.vab_recover.specs.Repairs.{IsLoadedAt}
use Rattle.vab_survey.specs.declared.copies.SlotTable.{SlotTable}
use Rattle.vab_survey.specs.declared.copies.SlotTable.TheVariants.{Read, Bad}
use Rattle.vab_survey.specs.declared.tables.TablesPage.{TablesPage}

-- The table that is read, and which copies hold its text; or the faults of both copies.
abbrev pub IsSlotTable : Geometry → ℕ → Image → SlotTable → Type 0
IsSlotTable g slot image (Read l) =
    (slot_table g slot image ≡ Ok l.table) × IsLoadedAt g slot image l
IsSlotTable g slot image (Bad first second) = slot_table g slot image ≡ Err (first, second)

-- a table that is read keeps its rules
abbrev pub HasRules : SlotTable → Type 0
HasRules (Read l) = KeepsRules l.table
HasRules (Bad first second) = Unit {0}

-- the geometry of a disk that is large enough
abbrev pub geometry_seen : ℕ → Image → Result Geometry StartFault
geometry_seen size image =
    unless (nat_le 4120 size) (TooSmall 4120 size) (geometry_at size image)

-- the tables of both slots
pub record IsTablesPage (size : ℕ) (image : Image) (p : TablesPage) : Type 0 where
  pub geometry : geometry_at size image ≡ Ok p.geometry
  pub a : IsSlotTable p.geometry 0 image p.a
  pub b : IsSlotTable p.geometry 1 image p.b

pub record AreKept (p : TablesPage) : Type 0 where
  pub a : HasRules p.a
  pub b : HasRules p.b
