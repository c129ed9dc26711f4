-- The update mark: the spelling of each under a version, and what the bytes of a sector mean.
use Rattle.std.specs.Prelude.{ℕ, zero, suc, ◌<◌, Bool, true, false, not, ◌&&◌, ◌||◌, nat_lt, IsTrue}
use Rattle.std.specs.Prelude.{if◌then◌else◌, List, [], ◌∷◌, ◌++◌}
use Rattle.std.specs.Prelude.{slice_index, Option, Some, None, ok_or, option_map, Result, Err}
use Rattle.std.specs.Prelude.{◌==◌}
use Rattle.vab_bytes.specs.Number.{field}
use Rattle.vab_marks.specs.declared.sector.MarkFault.{MarkFault}
use Rattle.vab_marks.specs.declared.sector.MarkFault.TheVariants.{BadField}
use Rattle.vab_marks.specs.declared.mark.MarkPhase.{MarkPhase}
use Rattle.vab_marks.specs.declared.mark.MarkPhase.TheVariants.{Idle, Installing, Staged, Merging}
use Rattle.vab_marks.specs.declared.mark.MarkPhase.TheVariants.{Completed}
use Rattle.vab_marks.specs.declared.mark.UpdateMark.{UpdateMark}
use Rattle.vab_marks.specs.declared.version.MarkVersion.{MarkVersion}
use Rattle.vab_marks.specs.declared.version.MarkVersion.TheVariants.{Two}
use Rattle.vab_marks.specs.Sector.{zeros, are_zeros, sealed, head_fault, unless}
use Rattle.vab_marks.specs.Version.{version_byte, is_version}

-- there is no update
abbrev pub is_idle : MarkPhase → Bool
is_idle Idle = true
is_idle _ = false

-- the phases in which a target may stand apart
abbrev pub may_stand_apart : MarkPhase → Bool
may_stand_apart Installing = true
may_stand_apart Staged = true
may_stand_apart _ = false

-- Each flag is off in a phase that doesn't have it: a target stands apart in those, and a slot is
-- overlaid where there is no update.
abbrev pub FlagsFit : UpdateMark → Type 0
FlagsFit m =
    IsTrue (may_stand_apart m.phase || not m.apart) × IsTrue (is_idle m.phase || not m.overlaid)

-- what has a spelling
pub record FitsMark (m : UpdateMark) : Type 0 where
  pub slot : m.slot < 2
  pub flags : FlagsFit m

-- the byte of a phase with its flags
abbrev pub phase_byte : MarkPhase → (apart overlaid : Bool) → ℕ
phase_byte Idle apart overlaid = if overlaid then 7 else 0
phase_byte Installing apart overlaid = if apart then 5 else 1
phase_byte Staged apart overlaid = if apart then 6 else 2
phase_byte Merging apart overlaid = 3
phase_byte Completed apart overlaid = 4

-- that of a mark
abbrev pub phase_spelled : UpdateMark → ℕ
phase_spelled m = phase_byte m.phase m.apart m.overlaid

-- VABU
abbrev pub mark_magic : List ℕ
mark_magic = 86 ∷ 65 ∷ 66 ∷ 85 ∷ []

-- the byte of a flag
abbrev pub flag_byte : Bool → ℕ
flag_byte flag = if flag then 1 else 0

-- the magic, the version, the phase, the slot, the flag of physical partitions, and zeros
abbrev pub mark_front : MarkVersion → UpdateMark → List ℕ
mark_front v m =
    mark_magic
    ++ version_byte v ∷ phase_spelled m ∷ m.slot ∷ flag_byte m.physical ∷ zeros 500

-- that, and the sum
unfoldable pub mark_under : MarkVersion → UpdateMark → List ℕ
mark_under v m = sealed (mark_front v m)

-- what is written of a mark: it has version 2
abbrev pub mark_spelling : UpdateMark → List ℕ
mark_spelling m = mark_under Two m

-- the mark of this phase and slot, where there is none yet
abbrev pub mark_at : MarkPhase → ℕ → UpdateMark
mark_at phase slot = record {
  phase = phase;
  slot = slot;
  apart = false;
  overlaid = false;
  physical = false;
}

-- the mark of a slot whose phase has this byte
abbrev pub mark_by : (slot byte : ℕ) → Option UpdateMark
mark_by slot zero = Some (mark_at Idle slot)
mark_by slot (suc zero) = Some (mark_at Installing slot)
mark_by slot (suc (suc zero)) = Some (mark_at Staged slot)
mark_by slot (suc (suc (suc zero))) = Some (mark_at Merging slot)
mark_by slot (suc (suc (suc (suc zero)))) = Some (mark_at Completed slot)
mark_by slot (suc (suc (suc (suc (suc zero))))) =
    Some (record (mark_at Installing slot) { apart = true })
mark_by slot (suc (suc (suc (suc (suc (suc zero)))))) =
    Some (record (mark_at Staged slot) { apart = true })
mark_by slot (suc (suc (suc (suc (suc (suc (suc zero))))))) =
    Some (record (mark_at Idle slot) { overlaid = true })
mark_by slot (suc (suc (suc (suc (suc (suc (suc (suc n)))))))) = None

-- no update of the device of this slot
abbrev pub idle_mark : ℕ → UpdateMark
idle_mark slot = mark_at Idle slot

-- a mark with another phase, where it isn't overlaid, or of another slot: each that is written of a
-- device that is there is the one that is kept, so changed
abbrev pub rephased : MarkPhase → UpdateMark → UpdateMark
rephased phase m = record m {
  phase = phase;
  apart = may_stand_apart phase && m.apart;
  overlaid = false;
}

abbrev pub resloted : ℕ → UpdateMark → UpdateMark
resloted slot m = record m { slot = slot }

-- the same mark of a device with physical partitions, or without
abbrev pub with_physical : (physical : Bool) → UpdateMark → UpdateMark
with_physical physical m = record m { physical = physical }

-- the mark of an installation from this one's slot, whose target stands apart or not
abbrev pub begun : (apart : Bool) → UpdateMark → UpdateMark
begun apart m = record m { phase = Installing; apart = apart; overlaid = false }

-- the mark of the same slot, where there is no update, and an overlay or none
abbrev pub overlaid_by : (overlaid : Bool) → UpdateMark → UpdateMark
overlaid_by overlaid m = record m { phase = Idle; apart = false; overlaid = overlaid }

-- a field is bad where it has a value that is not named, or a byte is not zero where no field
-- stands
abbrev pub mark_fields : List ℕ → Result UpdateMark MarkFault
mark_fields bytes =
    if nat_lt (slice_index bytes 6) 2
    && (nat_lt (slice_index bytes 7) 2 && are_zeros (field bytes 8 500))
    then ok_or
    (option_map (with_physical (slice_index bytes 7 == 1))
    (mark_by (slice_index bytes 6) (slice_index bytes 5)))
    BadField
    else Err BadField

-- the mark in the bytes of a sector, under either version, or the first fault
unfoldable pub mark_of : List ℕ → Result UpdateMark MarkFault
mark_of bytes =
    unless (head_fault mark_magic (is_version (slice_index bytes 4)) bytes) (mark_fields bytes)
