-- What a merge makes of a device.
use Rattle.std.proofs.Common.{◌≡◌, ℕ, ◌+◌, List, refl, ap}
use Rattle.std.specs.Prelude.{Option, Some, None}
use Rattle.vab_disk.specs.Disk.{Image}
use Rattle.vab_marks.specs.declared.mark.MarkPhase.TheVariants as marks
use Rattle.vab_model.specs.declared.command.Refusal.TheVariants as refusals
use Rattle.vab_model.specs.declared.state.Phase.TheVariants.{Merging}
use Rattle.vab_model.specs.Commands.{Merge}
use Rattle.vab_model.specs.Effects.{refuses}
use Rattle.vab_device.specs.declared.device.Part.{Part}
use Rattle.vab_device.specs.declared.device.Device.{Device}
use Rattle.vab_device.specs.Kept.{IsDevice}
use Rattle.vab_device.specs.Mounted.{mounted_on, state_on, count_at}
use Rattle.vab_device.specs.Updates.{effect_on, merge_effect}
use Rattle.vab_merging.specs.Turns.{left_in}
use Rattle.vab_merging.proofs.OwnLaws.{left_both}
use Rattle.vab_device.proofs.PhaseCases.{unplanned_of}

module _ (d : Device) (old : Image) (staged : Option (List ℕ)) (blocks : ℕ) where
  pub refused_idle : d.plan ≡ None
      → d.mark.phase ≡ marks.Idle
      → effect_on (mounted_on d old) staged (Merge blocks) ≡ refuses refusals.NotMerging
  unfolding state_on
  refused_idle plan phase = rw (plan, phase) refl

  pub refused_installing : (plan : List Part)
      → d.plan ≡ Some plan
      → effect_on (mounted_on d old) staged (Merge blocks) ≡ refuses refusals.NotMerging
  unfolding state_on
  refused_installing plan is = rw is refl

  pub refused_staged : d.plan ≡ None
      → d.mark.phase ≡ marks.Staged
      → effect_on (mounted_on d old) staged (Merge blocks) ≡ refuses refusals.NotMerging
  unfolding state_on
  refused_staged plan phase = rw (plan, phase) refl

-- while the stores of a slot are merged, the state says how many exceptions are left
phase_by : (d : Device) (old : Image) (left : ℕ)
    → d.plan ≡ None
    → d.mark.phase ≡ marks.Merging
    → count_at d.a + count_at d.b
    ≡ left
    → (mounted_on d old).state.phase ≡ Merging d.mark.slot left
unfolding state_on
phase_by d old left plan phase both = rw (plan, phase, both) refl

pub phase_is : (d : Device) (size : ℕ) (old : Image)
    → IsDevice d size
    → d.mark.phase ≡ marks.Merging
    → (mounted_on d old).state.phase ≡ Merging d.mark.slot (left_in d)
phase_is d size old dev merging =
    phase_by d old (left_in d) (unplanned_of d size marks.Merging dev refl merging) merging
    (left_both d size dev merging)

pub effect_is : (d : Device) (size : ℕ) (old : Image) (staged : Option (List ℕ)) (blocks : ℕ)
    → IsDevice d size
    → d.mark.phase ≡ marks.Merging
    → effect_on (mounted_on d old) staged (Merge blocks)
    ≡ merge_effect (mounted_on d old) blocks (Merging d.mark.slot (left_in d))
effect_is d size old staged blocks dev merging =
    ap (merge_effect (mounted_on d old) blocks) (phase_is d size old dev merging)
