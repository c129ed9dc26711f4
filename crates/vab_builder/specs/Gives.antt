-- A table that was given, beside the definition.
use Rattle.std.specs.Prelude.{◌≡◌, Result, Ok, Err}
use Rattle.vab_tables.specs.declared.table.Table.{Table}
use Rattle.vab_layout.specs.declared.layout.Layout.{Layout}
use Rattle.vab_layout.specs.Layout.{table_of}
use Rattle.vab_builder.specs.declared.fault.EditFault.{EditFault}
use Rattle.vab_builder.specs.declared.fault.EditFault.TheVariants.{BadName, BadSize, Unknown}
use Rattle.vab_builder.specs.declared.fault.EditFault.TheVariants.{Exists, HasStore, TooMany}
use Rattle.vab_builder.specs.declared.fault.EditFault.TheVariants.{GroupLimit, NoRoom, TableFull}
use Rattle.vab_builder.specs.declared.fault.EditFault.TheVariants.{NoMemory}

-- a layout was given, and this is its table
abbrev pub IsTableOf : Table → Result Layout EditFault → Type 0
IsTableOf t said = (l : Layout) × (said ≡ Ok l) × (t ≡ table_of l)

-- the table is that of the layout, and the refusal that of the definition; memory may be refused in
-- place of either
abbrev pub GivesTable : Result Table EditFault → Result Layout EditFault → Type 0
GivesTable (Ok t) said = IsTableOf t said
GivesTable (Err NoMemory) said = Unit {0}
GivesTable (Err BadName) said = said ≡ Err BadName
GivesTable (Err BadSize) said = said ≡ Err BadSize
GivesTable (Err Unknown) said = said ≡ Err Unknown
GivesTable (Err Exists) said = said ≡ Err Exists
GivesTable (Err HasStore) said = said ≡ Err HasStore
GivesTable (Err (TooMany n)) said = said ≡ Err (TooMany n)
GivesTable (Err (GroupLimit u l)) said = said ≡ Err (GroupLimit u l)
GivesTable (Err (NoRoom u c)) said = said ≡ Err (NoRoom u c)
GivesTable (Err (TableFull s m)) said = said ≡ Err (TableFull s m)
