-- What the begin of a merge and its end write.
use Rattle.std.specs.Prelude.{◌≡◌, ℕ, List, true}
use Rattle.vab_disk.specs.Disk.{IsAt}
use Rattle.vab_bootctl.specs.Boot.{info_at}
use Rattle.vab_marks.specs.declared.mark.MarkPhase.TheVariants as marks
use Rattle.vab_marks.specs.declared.mark.UpdateMark.{UpdateMark}
use Rattle.vab_marks.specs.Mark.{mark_spelling, rephased, resloted}
use Rattle.vab_layout.specs.Slots.{other_slot}
use Rattle.vab_device.specs.declared.device.Device.{Device}

-- An update may be merged: it is ready, its target was booted last, and is marked as one that
-- works.
pub record MayMerge (d : Device) : Type 0 where
  pub staged : d.mark.phase ≡ marks.Staged
  pub running : d.control.current ≡ other_slot d.mark.slot
  pub successful : (info_at d.control (other_slot d.mark.slot)).successful ≡ true

-- the mark as the target of the update is merged
abbrev pub merging_mark : UpdateMark → UpdateMark
merging_mark m = resloted (other_slot m.slot) (rephased marks.Merging m)

-- What the begin of a merge writes: the mark of the target's merge. Where none may begin nothing is
-- written.
pub record IsOfMergeBegun (d : Device) (s : ℕ) (b : List ℕ) : Type 0 where
  pub may : MayMerge d
  pub mark : IsAt 2048 (mark_spelling (merging_mark d.mark)) s b

-- what its end writes
abbrev pub IsOfMergeEnd : Device → ℕ → List ℕ → Type 0
IsOfMergeEnd d = IsAt 2048 (mark_spelling (rephased marks.Completed d.mark))
