use Rattle.std.proofs.Common.{◌≡◌, ℕ, List, refl, sym, subst, Ok, false}
use Rattle.std.specs.Prelude.{Option, Result, option_map}
use Rattle.vab_disk.specs.declared.disk.Disk.{Ghosts}
use Rattle.vab_disk.specs.Calls.{OnlyReads}
use Rattle.vab_disk.proofs.CallLaws.{reads_none, touches_wider}
use Rattle.vab_gate.specs.declared.gate.DiskFault.{DiskFault}
use Rattle.vab_model.specs.declared.command.Command.{Command as CommandOfCode}
use Rattle.vab_model.specs.declared.command.Reply.{Reply}
use Rattle.vab_model.specs.Commands.{Command, command_of, Print, Digest, UpdateSuper, Keep}
use Rattle.vab_model.specs.Effects.{answers}
use Rattle.vab_model.specs.Machine.{machine_effect}
use Rattle.vab_device.specs.declared.device.Device.{Device}
use Rattle.vab_device.specs.Does.{Does}
use Rattle.vab_device.specs.Kept.{IsDevice}
use Rattle.vab_device.specs.Mounted.{mounted_on}
use Rattle.vab_device.specs.Reading.{Represents}
use Rattle.vab_device.specs.Updates.{effect_on}
use Rattle.vab_device.proofs.DoesLaws.{does_nothing, fails_reading}
use Rattle.vab_wipe.specs.Writes.{IsOfWipe}
use Rattle.vab_commands.specs.Writes.{IsOfCommand}
use Rattle.vab_commands.proofs.command.run_one.Goals as goal

module _ {D : Type 0} (g : Ghosts D) (d : Device) (staged : Option (List ℕ)) (old : D)
  where
    -- what is promised of a command of the code
    abbrev Promise : CommandOfCode → D → Result (Device × Reply) DiskFault → Type 0
    Promise command new result =
        Does g d staged (command_of command)
        (IsOfCommand g.is_modelled d (g.seen old 4) (command_of command)) old new result

    -- what is promised of the command that it is
    of : (command is : CommandOfCode) (new : D) (result : Result (Device × Reply) DiskFault)
        → command ≡ is
        → Promise is new result
        → Promise command new result
    of command is new result same does =
        subst (λ (k : CommandOfCode). Promise k new result) (sym same) does

    -- a question, or a refusal
    still : (command : Command) (reply : Reply) (new : D)
        → IsDevice d (g.size old)
        → (g.is_modelled → Represents d (g.size old) (g.seen old))
        → (g.is_modelled → effect_on (mounted_on d (g.seen old)) staged command ≡ answers reply)
        → OnlyReads g old new
        → g.faults new ≡ g.faults old
        → Does g d staged command (IsOfCommand g.is_modelled d (g.seen old 4) command) old new
        (Ok (d, reply))
    still command reply new kept is told reads counts =
        does_nothing g d staged command (IsOfCommand g.is_modelled d (g.seen old 4) command) false
        reply old new kept is told reads counts

    -- a wipe writes what one of some staged bytes does
    wipes : (new : D) (result : Result (Device × Reply) DiskFault)
        → Does g d staged UpdateSuper (IsOfWipe d staged) old new result
        → Does g d staged UpdateSuper (IsOfCommand g.is_modelled d (g.seen old 4) UpdateSuper) old
        new result
    wipes new result does = record {
      refused = does.refused;
      kept = does.kept;
      follows = does.follows;
      represents = does.represents;
      after = does.after;
      reply = does.reply;
      rest = does.rest;
      quiet = does.quiet;
      still = does.still;
      touches = λ t. touches_wider g _ _ _ _ (does.touches t) (λ s b is. (staged, is));
      time = does.time;
      faults = does.faults;
    }

pub returns-in-SetActive : goal.returns-in-SetActive
returns-in-SetActive g c =
    of g.D.Disk c.args.device (option_map (λ s. s.now) c.args.staged) c.args.d.now
    c.args.command.now _ _ _ c.in-SetActive.is
    (c.set_active.ensures (option_map (λ s. s.now) c.args.staged))

pub returns-in-Boot : goal.returns-in-Boot
returns-in-Boot g c =
    of g.D.Disk c.args.device (option_map (λ s. s.now) c.args.staged) c.args.d.now
    c.args.command.now _ _ _ c.in-Boot.is
    (c.boot.ensures (option_map (λ s. s.now) c.args.staged))

pub returns-in-Mark : goal.returns-in-Mark
returns-in-Mark g c =
    of g.D.Disk c.args.device (option_map (λ s. s.now) c.args.staged) c.args.d.now
    c.args.command.now _ _ _ c.in-Mark.is
    (c.mark.ensures (option_map (λ s. s.now) c.args.staged))

pub returns-in-Begin : goal.returns-in-Begin
returns-in-Begin g c =
    of g.D.Disk c.args.device (option_map (λ s. s.now) c.args.staged) c.args.d.now
    c.args.command.now _ _ _ c.in-Begin.is
    (c.begin.ensures.does (option_map (λ s. s.now) c.args.staged))

pub returns-in-Factory : goal.returns-in-Factory
returns-in-Factory g c =
    of g.D.Disk c.args.device (option_map (λ s. s.now) c.args.staged) c.args.d.now
    c.args.command.now _ _ _ c.in-Factory.is
    (c.begin-in-Factory.ensures.does (option_map (λ s. s.now) c.args.staged))

pub returns-in-Create : goal.returns-in-Create
returns-in-Create g c =
    of g.D.Disk c.args.device (option_map (λ s. s.now) c.args.staged) c.args.d.now
    c.args.command.now _ _ _ c.in-Create.is
    (c.edit.ensures (option_map (λ s. s.now) c.args.staged))

pub returns-in-Resize : goal.returns-in-Resize
returns-in-Resize g c =
    of g.D.Disk c.args.device (option_map (λ s. s.now) c.args.staged) c.args.d.now
    c.args.command.now _ _ _ c.in-Resize.is
    (c.edit-in-Resize.ensures (option_map (λ s. s.now) c.args.staged))

pub returns-in-Delete : goal.returns-in-Delete
returns-in-Delete g c =
    of g.D.Disk c.args.device (option_map (λ s. s.now) c.args.staged) c.args.d.now
    c.args.command.now _ _ _ c.in-Delete.is
    (c.edit-in-Delete.ensures (option_map (λ s. s.now) c.args.staged))

pub returns-in-Snapshot : goal.returns-in-Snapshot
returns-in-Snapshot g c =
    of g.D.Disk c.args.device (option_map (λ s. s.now) c.args.staged) c.args.d.now
    c.args.command.now _ _ _ c.in-Snapshot.is
    (c.edit-in-Snapshot.ensures (option_map (λ s. s.now) c.args.staged))

pub returns-in-Flash : goal.returns-in-Flash
returns-in-Flash g c =
    of g.D.Disk c.args.device (option_map (λ s. s.now) c.args.staged) c.args.d.now
    c.args.command.now _ _ _ c.in-Flash.is
    c.flash.ensures.does

pub returns-in-Finish : goal.returns-in-Finish
returns-in-Finish g c =
    of g.D.Disk c.args.device (option_map (λ s. s.now) c.args.staged) c.args.d.now
    c.args.command.now _ _ _ c.in-Finish.is
    (c.finish.ensures (option_map (λ s. s.now) c.args.staged))

pub returns-in-Cancel : goal.returns-in-Cancel
returns-in-Cancel g c =
    of g.D.Disk c.args.device (option_map (λ s. s.now) c.args.staged) c.args.d.now
    c.args.command.now _ _ _ c.in-Cancel.is
    (c.cancel.ensures (option_map (λ s. s.now) c.args.staged))

pub returns-in-Print : goal.returns-in-Print
unfolding machine_effect
returns-in-Print g c =
    of g.D.Disk c.args.device (option_map (λ s. s.now) c.args.staged) c.args.d.now
    c.args.command.now _ _ _ c.in-Print.is
    (still g.D.Disk c.args.device (option_map (λ s. s.now) c.args.staged) c.args.d.now
    (Print c.in-Print.name.now) c.print-reply.result c.args.d.now
    c.requires.kept c.requires.represents
    (λ t. c.print-reply.ensures (g.D.Disk.seen c.args.d.now))
    (reads_none g.D.Disk c.args.d.now) refl)

pub returns-in-Keep : goal.returns-in-Keep
returns-in-Keep g c =
    of g.D.Disk c.args.device (option_map (λ s. s.now) c.args.staged) c.args.d.now
    c.args.command.now _ _ _ c.in-Keep.is
    (still g.D.Disk c.args.device (option_map (λ s. s.now) c.args.staged) c.args.d.now
    (Keep c.in-Keep.name.now) c.keep-reply.result c.args.d.now
    c.requires.kept c.requires.represents
    (λ t. c.keep-reply.ensures (g.D.Disk.seen c.args.d.now) (option_map (λ s. s.now) c.args.staged))
    (reads_none g.D.Disk c.args.d.now) refl)

pub returns-in-BeginMerge : goal.returns-in-BeginMerge
returns-in-BeginMerge g c =
    of g.D.Disk c.args.device (option_map (λ s. s.now) c.args.staged) c.args.d.now
    c.args.command.now _ _ _ c.in-BeginMerge.is
    (c.begin_merge.ensures (option_map (λ s. s.now) c.args.staged))

pub returns-in-UpdateSuper : goal.returns-in-UpdateSuper
returns-in-UpdateSuper g c =
    of g.D.Disk c.args.device (option_map (λ s. s.now) c.args.staged) c.args.d.now
    c.args.command.now _ _ _ c.in-UpdateSuper.is
    (wipes g.D.Disk c.args.device (option_map (λ s. s.now) c.args.staged) c.args.d.now _ _
    c.update_super.ensures)

pub returns-in-Merge : goal.returns-in-Merge
returns-in-Merge g c =
    of g.D.Disk c.args.device (option_map (λ s. s.now) c.args.staged) c.args.d.now
    c.args.command.now _ _ _ c.in-Merge.is
    (c.merge.ensures (option_map (λ s. s.now) c.args.staged))

pub returns-in-Overlay : goal.returns-in-Overlay
returns-in-Overlay g c =
    of g.D.Disk c.args.device (option_map (λ s. s.now) c.args.staged) c.args.d.now
    c.args.command.now _ _ _ c.in-Overlay.is
    (c.overlay.ensures (option_map (λ s. s.now) c.args.staged))

pub returns-in-OverlayWrite : goal.returns-in-OverlayWrite
returns-in-OverlayWrite g c =
    of g.D.Disk c.args.device (option_map (λ s. s.now) c.args.staged) c.args.d.now
    c.args.command.now _ _ _ c.in-OverlayWrite.is
    c.overlay_write.ensures

pub returns-in-OverlayDiscard : goal.returns-in-OverlayDiscard
returns-in-OverlayDiscard g c =
    of g.D.Disk c.args.device (option_map (λ s. s.now) c.args.staged) c.args.d.now
    c.args.command.now _ _ _ c.in-OverlayDiscard.is
    (c.overlay_discard.ensures (option_map (λ s. s.now) c.args.staged))

pub returns-in-Ok : goal.returns-in-Ok
unfolding machine_effect
returns-in-Ok g c =
    of g.D.Disk c.args.device (option_map (λ s. s.now) c.args.staged) c.args.d.now
    c.args.command.now _ _ _ c.in-Digest.is
    (still g.D.Disk c.args.device (option_map (λ s. s.now) c.args.staged) c.args.d.now
    (Digest c.in-Digest.name.now) c.in-Ok.reply c.digest.new.d
    c.requires.kept c.requires.represents
    (λ t. c.in-Ok.ensures.reply t)
    c.in-Ok.ensures.reads c.in-Ok.ensures.faults.steady)

pub returns-in-Err : goal.returns-in-Err
returns-in-Err g c =
    of g.D.Disk c.args.device (option_map (λ s. s.now) c.args.staged) c.args.d.now
    c.args.command.now _ _ _ c.in-Digest.is
    (fails_reading g.D.Disk c.args.device (option_map (λ s. s.now) c.args.staged)
    (Digest c.in-Digest.name.now)
    (IsOfCommand g.D.Disk.is_modelled c.args.device (g.D.Disk.seen c.args.d.now 4)
    (Digest c.in-Digest.name.now))
    c.in-Err.fault c.args.d.now c.digest.new.d c.in-Err.ensures.reads
    c.in-Err.ensures.faults.cause)
