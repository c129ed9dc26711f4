-- The command that a begin is, and what the begin of an update and its cancelling write.
use Rattle.std.specs.Prelude.{◌≡◌, ◌⊎◌, ◌≤◌, ℕ, Bool, true, false, List, length, Some, Ok}
use Rattle.vab_disk.specs.Disk.{IsAt}
use Rattle.vab_marks.specs.declared.mark.MarkPhase.TheVariants as marks
use Rattle.vab_marks.specs.declared.mark.UpdateMark.{UpdateMark}
use Rattle.vab_marks.specs.Mark.{mark_spelling, rephased, begun}
use Rattle.vab_tables.specs.declared.table.Table.{Table}
use Rattle.vab_tables.specs.Spelling.{table_text}
use Rattle.vab_layout.specs.declared.layout.Layout.{Layout}
use Rattle.vab_layout.specs.Layout.{table_of}
use Rattle.vab_layout.specs.Slots.{other_slot}
use Rattle.vab_install.specs.Begin.{IsOfBegin}
use Rattle.vab_install.specs.Control.{cleared_of}
use Rattle.vab_model.specs.Commands.{Command, Begin, Factory}
use Rattle.vab_device.specs.declared.device.Device.{Device}
use Rattle.vab_device.specs.Kept.{table_of_slot}
use Rattle.vab_begin.specs.Target.{layout_for}

-- the command that begins an installation, whose target stands apart or not
abbrev pub begin_of : (apart : Bool) → Command
begin_of true = Factory
begin_of false = Begin

-- the sector of the update mark, with this mark
abbrev pub IsOfMark : UpdateMark → ℕ → List ℕ → Type 0
IsOfMark m = IsAt 2048 (mark_spelling m)

-- before the mark: boot control's sector without the target, the sectors of the statuses, and the
-- copies of the target's table with this text
abbrev pub IsOfPlaces : Type 0 → Device → List ℕ → List ℕ → ℕ → List ℕ → Type 0
IsOfPlaces told d text old =
    IsOfBegin told d.geometry (other_slot d.mark.slot)
    (cleared_of d.control (other_slot d.mark.slot)) text old

-- What a begin writes, where boot control's sector had these bytes: with the text of the table that
-- is imported of the source's, and then the mark that an update is installed, whose target stands
-- apart or not. Where there is an update, or the text is too long, nothing is written.
pub record IsOfBegun
    (told : Type 0)
    (apart : Bool)
    (d : Device)
    (old : List ℕ)
    (s : ℕ)
    (b : List ℕ) : Type 0 where
  pub idle : d.mark.phase ≡ marks.Idle
  pub source : Table
  pub is : table_of_slot d d.mark.slot ≡ Some source
  pub layout : Layout
  pub fits : layout_for apart d.geometry.max d.mark.slot source ≡ Ok layout
  pub short : length (table_text (table_of layout)) ≤ d.geometry.max
  pub writes : IsOfPlaces told d (table_text (table_of layout)) old s b
      ⊎ IsOfMark (begun apart d.mark) s b

-- An update may be dropped: it is installed, or ready and its target isn't the slot that was booted
-- last.
abbrev pub MayEnd : Device → Type 0
MayEnd d =
    (d.mark.phase ≡ marks.Installing)
    ⊎ ((d.mark.phase ≡ marks.Staged) × (d.control.current ≡ d.mark.slot))

-- What a cancel writes: the mark that there is no update. Where none may be dropped nothing is
-- written.
pub record IsOfCancelled (d : Device) (s : ℕ) (b : List ℕ) : Type 0 where
  pub ends : MayEnd d
  pub mark : IsOfMark (rephased marks.Idle d.mark) s b
