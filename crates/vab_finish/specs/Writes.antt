-- What the end of an installation writes.
use Rattle.std.specs.Prelude.{◌⊎◌, ℕ, List}
use Rattle.vab_disk.specs.Disk.{IsAt}
use Rattle.vab_marks.specs.declared.mark.MarkPhase.TheVariants as marks
use Rattle.vab_marks.specs.Mark.{mark_spelling, rephased}
use Rattle.vab_layout.specs.Slots.{other_slot}
use Rattle.vab_install.specs.Control.{cleared_of, IsControl}
use Rattle.vab_device.specs.declared.device.Device.{Device}
use Rattle.vab_finish.specs.Ready.{MayFinish}

-- Where boot control's sector had these bytes: boot control with nothing said of the target, and
-- then the mark that it has images. Where the installation may not end, nothing is written.
pub record IsOfFinished (told : Type 0) (d : Device) (old : List ℕ) (s : ℕ) (b : List ℕ) : Type 0
  where
    pub ready : MayFinish d
    pub writes : IsControl told (cleared_of d.control (other_slot d.mark.slot)) old s b
        ⊎ IsAt 2048 (mark_spelling (rephased marks.Staged d.mark)) s b
