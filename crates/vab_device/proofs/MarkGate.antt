-- A command that writes the update mark alone, by a gate.
use Rattle.std.proofs.Common.{◌≡◌, ℕ, List, Ok, Err, subst}
use Rattle.std.specs.Prelude.{Bool, Option}
use Rattle.vab_disk.specs.declared.disk.Disk.{Ghosts}
use Rattle.vab_disk.specs.Disk.{Image, Adds, LeavesEither, IsAt, DiskFailed, set_sector}
use Rattle.vab_disk.specs.Calls.{IsAtRest, SameBut, Touches}
use Rattle.vab_disk.proofs.CallLaws.{touches_none}
use Rattle.vab_gate.specs.declared.gate.DiskFault.{DiskFault}
use Rattle.vab_marks.specs.declared.mark.UpdateMark.{UpdateMark}
use Rattle.vab_marks.specs.Mark.{mark_spelling}
use Rattle.vab_model.specs.declared.command.Reply.{Reply}
use Rattle.vab_model.specs.Commands.{Command}
use Rattle.vab_model.specs.Effects.{does, wanting}
use Rattle.vab_device.specs.declared.device.Device.{Device}
use Rattle.vab_device.specs.Does.{Follows, Does}
use Rattle.vab_device.specs.Kept.{IsDevice}
use Rattle.vab_device.specs.Mounted.{mounted_on}
use Rattle.vab_device.specs.Reading.{device, Represents}
use Rattle.vab_device.specs.Updates.{effect_on}
use Rattle.vab_device.proofs.DoesLaws.{dead_means, fails_gate, does_follow}
use Rattle.vab_device.proofs.SameLaws.{dead_of}

module _ {D : Type 0} (g : Ghosts D)
    (d : Device) (staged : Option (List ℕ)) (command : Command) (W : ℕ → List ℕ → Type 0)
    (old new : D) (next : Device) (reply : Reply) (mark : UpdateMark) {wants : Bool}
    (was : g.is_modelled → Represents d (g.size old) (g.seen old))
    (effect : g.is_modelled
    → effect_on (mounted_on d (g.seen old)) staged command
    ≡ wanting wants
    (does reply (mounted_on next (set_sector (g.seen old) 2048 (mark_spelling mark)))))
    (represents : g.is_modelled
    → Represents next (g.size old) (set_sector (g.seen old) 2048 (mark_spelling mark)))
    (there : (s : ℕ) (b : List ℕ) → IsAt 2048 (mark_spelling mark) s b → W s b) where
  -- what writing a mark says of it
  abbrev pub Gates : UpdateMark → Type 0
  Gates m = g.is_modelled
      → IsAtRest g old
      → Adds g.moment g.outcomes old new
      (LeavesEither (g.told old) (g.seen old)
      (set_sector (g.seen old) 2048 (mark_spelling m)))

  abbrev pub TouchesMark : UpdateMark → Type 0
  TouchesMark m = Touches g (IsAt 2048 (mark_spelling m)) old new

  abbrev pub IsWritten : UpdateMark → Type 0
  IsWritten m =
      g.is_modelled → g.seen new ≡ set_sector (g.seen old) 2048 (mark_spelling m)

  -- nothing is written before it
  abbrev Nothing : ℕ → List ℕ → Type 0
  Nothing s b = ⊥

  dead : g.is_modelled
      → (image : Image)
      → SameBut Nothing (g.seen old) image
      → device (g.size old) image ≡ Ok (mounted_on d (g.seen old))
  dead t =
      dead_means d (g.size old) (g.seen old) Nothing (was t)
      (dead_of (g.size old) _ (g.seen old) (λ s. ⊥) (was t).reads (λ s live w. w))

  module _ (m : UpdateMark) (is : m ≡ mark) (gate : Gates m) (touches : TouchesMark m) where
    pub mark_fails : (fault : DiskFault)
        → DiskFailed (g.faults old) (g.faults new)
        → Does g d staged command W old new (Err fault)
    mark_fails =
        fails_gate g d staged command W old old Nothing dead (touches_none g Nothing old)
        (λ t s b w. absurd w) new next reply 2048 (mark_spelling mark) effect represents
        (subst Gates is gate) (subst TouchesMark is touches) there

    pub mark_does : IsDevice next (g.size old)
        → Follows d command next
        → IsWritten m
        → (g.is_modelled → IsAtRest g new)
        → g.faults new ≡ g.faults old
        → Does g d staged command W old new (Ok (next, reply))
    mark_does kept follows written =
        does_follow g d staged command W old old Nothing dead (touches_none g Nothing old)
        (λ t s b w. absurd w) new next reply 2048 (mark_spelling mark) effect represents
        (subst Gates is gate) (subst TouchesMark is touches) there kept follows
        (subst IsWritten is written)
