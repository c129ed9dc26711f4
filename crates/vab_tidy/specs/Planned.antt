-- What is to be done behind a merge that has ended.
use Rattle.std.specs.Prelude.{◌≡◌, ℕ, ◌≤◌, true, false, length, Option, Some, None}
use Rattle.vab_disk.specs.Disk.{Image}
use Rattle.vab_marks.specs.declared.mark.MarkPhase.TheVariants as marks
use Rattle.vab_marks.specs.declared.mark.UpdateMark.{UpdateMark}
use Rattle.vab_tables.specs.declared.table.Table.{Table}
use Rattle.vab_tables.specs.Rules.{KeepsRules}
use Rattle.vab_tables.specs.Spelling.{table_size_of, table_text}
use Rattle.vab_tables.specs.Text.{IsTableText}
use Rattle.vab_layout.specs.Layout.{layout_of}
use Rattle.vab_layout.specs.Plain.{plain}
use Rattle.vab_layout.specs.Slots.{IsOwn}
use Rattle.vab_device.specs.declared.device.Device.{Device}
use Rattle.vab_device.specs.Kept.{table_of_slot}
use Rattle.vab_tidy.specs.declared.prepared.Alone.{Alone}
use Rattle.vab_tidy.specs.declared.prepared.Tidying.{Tidying}
use Rattle.vab_tidy.specs.Tidied.{HasCompleted, alone, may_be_alone}

-- This is the table of the slot alone, with its text, and it has less than this table.
pub record IsAlone (max slot : ℕ) (t : Table) (x : Alone) : Type 0 where
  pub may : may_be_alone max slot t ≡ true
  pub table : x.table ≡ alone slot t
  pub layout : layout_of x.table ≡ plain slot (layout_of t)
  pub rules : KeepsRules x.table
  pub own : IsOwn slot (layout_of x.table).parts
  pub size : table_size_of x.table ≤ max
  pub text : x.text ≡ table_text x.table
  pub fits : length x.text ≤ max
  pub stands : IsTableText max x.text x.table

-- it is to be stored, or no table is
abbrev pub IsAloneIf : (max slot : ℕ) → Table → Option Alone → Type 0
IsAloneIf max slot t None = may_be_alone max slot t ≡ false
IsAloneIf max slot t (Some x) = IsAlone max slot t x

-- this is to be done with this mark and this table of its slot
pub record IsTidying (max : ℕ) (m : UpdateMark) (t : Table) (x : Tidying) : Type 0 where
  pub idle : m.phase ≡ marks.Idle
  pub plain : m.overlaid ≡ false
  pub alone : IsAloneIf max m.slot t x.alone

-- something is to be done exactly where the mark of the disk says that a merge has ended
abbrev pub IsDue : UpdateMark → Image → Option Tidying → Type 0
IsDue m image None = (k : UpdateMark) → HasCompleted k image → ⊥
IsDue m image (Some x) = HasCompleted m image

-- ---- of a device

pub record IsAloneFor (d : Device) (x : Alone) : Type 0 where
  pub idle : d.mark.phase ≡ marks.Idle
  pub plain : d.mark.overlaid ≡ false
  pub table : Table
  pub is : table_of_slot d d.mark.slot ≡ Some table
  pub alone : IsAlone d.geometry.max d.mark.slot table x

pub record IsTidyingFor (d : Device) (x : Tidying) : Type 0 where
  pub table : Table
  pub is : table_of_slot d d.mark.slot ≡ Some table
  pub tidying : IsTidying d.geometry.max d.mark table x
