-- What a session does by itself between two packets.
use Rattle.std.specs.Prelude.{◌≡◌, ℕ, IfOk, OnOk, OnErr, Err, Result}
use Rattle.vab_disk.specs.declared.disk.Disk.{Ghosts}
use Rattle.vab_disk.specs.Calls.{IsAtRest, IsQuiet}
use Rattle.vab_model.specs.Commands.{Merge}
use Rattle.vab_device.specs.Kept.{IsDevice}
use Rattle.vab_device.specs.Mounted.{mounted_on}
use Rattle.vab_device.specs.Reading.{IsIn, Represents}
use Rattle.vab_commands.specs.Touched.{ChangesBy, FollowsBy}
use Rattle.vab_exchanges.specs.Items.{passed}
use Rattle.vab_exchanges.specs.Runs.{Passes}
use Rattle.vab_session.specs.Responses.{turns_between, machine}
use Rattle.vab_session.specs.Served.{kept_on, HasCause}
use Rattle.vab_session.specs.Written.{IsOfChange, WritesAs}
use Rattle.vab_session.specs.declared.fault.SessionFault.{SessionFault}
use Rattle.vab_session.specs.declared.fault.SessionFault.TheVariants.{Disk}
use Rattle.vab_session.specs.declared.kept.KeptDevice.{KeptDevice}

-- So many turns of a merge are made, fewer only where it ends, and none where nothing is being
-- merged. Nothing is told or heard, and the staged bytes stay. Each outcome since is a device
-- behind some of them. Where none is asked for, nothing is written. An error comes where the disk
-- has failed.
pub record GoesOn {D : Type 0}
    (g : Ghosts D)
    (kept : KeptDevice)
    (turns : ℕ)
    (old new : D)
    (result : Result KeptDevice SessionFault) : Type 0 where
  pub device : IfOk result (λ k. IsDevice k.device (g.size old))
  pub follows : IfOk result (λ k. FollowsBy kept.device (turns ≡ 0) k.device)
  pub stands : g.is_modelled → IfOk result (λ k. Represents k.device (g.size old) (g.seen new))
  pub after : g.is_modelled → IfOk result
      (λ k. kept_on k (g.seen new) ≡ passed (machine turns) (kept_on kept (g.seen old)))
  pub rest : g.is_modelled → IsAtRest g old → OnOk result (IsAtRest g new)
  pub quiet : IsQuiet g old new
  pub passes : g.is_modelled
      → Passes (IsIn (g.size old)) g
      (turns_between turns (mounted_on kept.device (g.seen old)))
      (mounted_on kept.device (g.seen old)) old new
  pub changes : g.is_modelled → ChangesBy g kept.device (turns ≡ 0) old new
  pub writes : g.is_modelled
      → WritesAs g
      (IsOfChange g.is_modelled kept.device (kept_on kept (g.seen old)) (g.seen old 4)
      (Merge turns))
      old new
  pub fault : OnErr result (result ≡ Err Disk)
  pub cause : HasCause g old new result
