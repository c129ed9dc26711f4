-- What the tables of an update keep, and an edit that is judged.
use Rattle.std.specs.Prelude.{◌≡◌, ◌⊎◌, ℕ, Bool, Option, Some, None, Result, Ok, Err}
use Rattle.vab_tables.specs.declared.table.Table.{Table}
use Rattle.vab_tables.specs.Rules.{KeepsRules}
use Rattle.vab_layout.specs.declared.layout.Layout.{Layout}
use Rattle.vab_layout.specs.Layout.{layout_of}
use Rattle.vab_layout.specs.Slots.{twins_by}
use Rattle.vab_builder.specs.declared.fault.EditFault.{EditFault}
use Rattle.vab_builder.specs.Update.{IsUpdateBeside}

-- the tables of a source and of a target that is updated from it, apart from it or not
pub record AreTables (slot : ℕ) (apart : Bool) (source target : Table) : Type 0 where
  pub source_keeps : KeepsRules source
  pub target_keeps : KeepsRules target
  pub update : IsUpdateBeside slot (twins_by apart (layout_of source).parts) (layout_of source)
      (layout_of target)

-- a layout is given
abbrev pub IsGiven : Result Layout EditFault → Type 0
IsGiven said = (l : Layout) × (said ≡ Ok l)

-- the refusal of a definition, or none where it gives a layout
abbrev pub Judges : Option EditFault → Result Layout EditFault → Type 0
Judges None said = IsGiven said
Judges (Some fault) said = said ≡ Err fault

-- the refusal of a definition, or none where it gives a layout, whose table isn't given
abbrev pub IsRefused : Result Layout EditFault → EditFault → Type 0
IsRefused said fault = (said ≡ Err fault) ⊎ IsGiven said
