-- What the two copies of a slot's table say.
use Rattle.std.specs.Prelude.{◌≡◌, ◌≢◌, ◌⊎◌, ◌↔◌, ℕ, List, length, IsTrue, Result, Ok, Err}
use Rattle.vab_disk.specs.Disk.{Image}
use Rattle.vab_geometry.specs.declared.geometry.Geometry.{Geometry}
use Rattle.vab_tables.specs.declared.table.Table.{Table}
use Rattle.vab_tables.specs.declared.fault.TableFault.{TableFault}
use Rattle.vab_tables.specs.declared.fault.TableFault.TheVariants as faults
use Rattle.vab_tables.specs.Text.{IsTableText, text_size_of}
use Rattle.vab_tables.specs.Reading.{table_of}
use Rattle.vab_lpstore.specs.declared.loaded.Loaded.{Loaded}
use Rattle.vab_lpstore.specs.declared.loaded.LoadFault.{LoadFault}
use Rattle.vab_lpstore.specs.declared.loaded.LoadFault.TheVariants.{BothBad, NoMemory, Disk}
use Rattle.vab_lpstore.specs.Layout.{primary_bytes, backup_bytes, Begins}

-- the first, or else the second, or else both faults
abbrev pub first_of : Result Table TableFault
    → Result Table TableFault
    → Result Table (TableFault × TableFault)
first_of (Ok t) backup = Ok t
first_of (Err f) (Ok t) = Ok t
first_of (Err f) (Err h) = Err (f, h)

-- a slot's table is the primary's, or where that is no table's text the backup's
unfoldable pub slot_table : Geometry → ℕ → Image → Result Table (TableFault × TableFault)
slot_table g slot image =
    first_of (table_of g.max (primary_bytes g slot image))
    (table_of g.max (backup_bytes g slot image))

-- it is no table's text
abbrev pub IsNoTable : ℕ → List ℕ → Type 0
IsNoTable max bytes = (f : TableFault) × (table_of max bytes ≡ Err f)

-- What is loaded of two copies: the text of the table, and which copies hold it. It is the
-- primary's, or where that is none the backup's.
pub record IsLoaded (max : ℕ) (primary backup : List ℕ) (l : Loaded) : Type 0 where
  pub text : IsTableText max l.text l.table
  pub whole : length l.text ≡ text_size_of l.text
  pub in_primary : IsTrue l.primary ↔ Begins primary l.text
  pub in_backup : IsTrue l.backup ↔ Begins backup l.text
  pub first : Begins primary l.text ⊎ (Begins backup l.text × IsNoTable max primary)

-- What a function returned is what two copies say, unless the disk has failed or memory was
-- refused.
abbrev pub Gives : Result Loaded LoadFault → Result Table (TableFault × TableFault) → Type 0
Gives (Ok l) said = said ≡ Ok l.table
Gives (Err (BothBad f h)) said = said ≡ Err (f, h)
Gives (Err NoMemory) said = Unit {0}
Gives (Err (Disk e)) said = Unit {0}

-- the faults of the copies are never want of memory
abbrev pub AreFaults : Result Loaded LoadFault → Type 0
AreFaults (Ok l) = Unit {0}
AreFaults (Err (BothBad f h)) = (f ≢ faults.NoMemory) × (h ≢ faults.NoMemory)
AreFaults (Err NoMemory) = Unit {0}
AreFaults (Err (Disk e)) = Unit {0}

-- it says that the disk has failed
abbrev pub IsDiskFault : Result Loaded LoadFault → Type 0
IsDiskFault (Ok l) = ⊥
IsDiskFault (Err (BothBad f h)) = ⊥
IsDiskFault (Err NoMemory) = ⊥
IsDiskFault (Err (Disk e)) = Unit {0}
