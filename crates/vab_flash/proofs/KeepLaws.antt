-- What the table of effects says of a keep, by what is kept of the device.
use Rattle.std.proofs.Common.{◌≡◌, ◌∙◌, ℕ, ◌+◌, true, false, List, refl, get_or}
use Rattle.std.specs.Prelude.{Bool, Option, Some, None, map, is_some}
use Rattle.vab_disk.specs.Disk.{Image}
use Rattle.vab_names.specs.Names.{is_full, base_of}
use Rattle.vab_marks.specs.declared.mark.MarkPhase.{MarkPhase}
use Rattle.vab_marks.specs.declared.mark.MarkPhase.TheVariants as marks
use Rattle.vab_layout.specs.Slots.{other_slot}
use Rattle.vab_model.specs.declared.state.PlanEntry.{PlanEntry}
use Rattle.vab_model.specs.declared.command.Refusal.TheVariants as refusals
use Rattle.vab_model.specs.Commands.{Keep}
use Rattle.vab_model.specs.Effects.{Effect, refuses, effect_map}
use Rattle.vab_model.specs.Plans.{entry_named}
use Rattle.vab_model.specs.Machine.{if_installing, keep_row, machine_effect}
use Rattle.vab_device.specs.declared.device.Part.{Part}
use Rattle.vab_device.specs.declared.device.Device.{Device}
use Rattle.vab_device.specs.Mounted.{Mounted, state_on, mounted_on, in_state, entry_on, entries_on}
use Rattle.vab_device.specs.Mounted.{count_at, unplanned, phase_by}
use Rattle.vab_device.specs.Updates.{effect_on}
use Rattle.vab_flash.specs.Place.{place_of, no_planned}
use Rattle.vab_flash.proofs.ChosenLaws.{no_place, place_named}

-- where nothing is planned no update is installed
unplanned_refuses : (m : Mounted) (name : List ℕ) (phase : MarkPhase) (slot left : ℕ)
    → effect_map (in_state m)
    (if_installing (unplanned phase slot left) (keep_row m.state name))
    ≡ refuses refusals.NotInstalling
unplanned_refuses m name marks.Idle slot left = refl
unplanned_refuses m name marks.Installing slot left = refl
unplanned_refuses m name marks.Staged slot left = refl
unplanned_refuses m name marks.Merging slot left = refl
unplanned_refuses m name marks.Completed slot left = refl

pub keep_idle : (d : Device) (image : Image) (staged : Option (List ℕ)) (name : List ℕ)
    → d.plan ≡ None
    → effect_on (mounted_on d image) staged (Keep name) ≡ refuses refusals.NotInstalling
unfolding state_on machine_effect
keep_idle d image staged name none =
    let m : Mounted = mounted_on d image in
    (λ k.
    effect_map (in_state m)
    (if_installing (phase_by d.mark (count_at d.a + count_at d.b) (entries_on image (none k)))
    (keep_row m.state name)))
    ∙ unplanned_refuses m name d.mark.phase d.mark.slot (count_at d.a + count_at d.b)

-- what a device without physical partitions says, where an entry is planned or not
abbrev row : (full : Bool) → Option PlanEntry → Effect Mounted
row full e =
    if_full full (if_known (is_some e))
  where
    if_full : Bool → Effect Mounted → Effect Mounted
    if_full true next = next
    if_full false next = refuses refusals.BadName

    if_known : Bool → Effect Mounted
    if_known true = refuses refusals.NotPhysical
    if_known false = refuses refusals.Unknown

row_is : (d : Device) (image : Image) (staged : Option (List ℕ)) (name : List ℕ)
    (plan : List Part) (full : Bool) (e : Option PlanEntry)
    → d.plan ≡ Some plan
    → is_full (other_slot d.mark.slot) name ≡ full
    → entry_named (base_of name) (map (entry_on image) plan) ≡ e
    → effect_on (mounted_on d image) staged (Keep name) ≡ row full e
unfolding state_on machine_effect
row_is d image staged name plan false e is full entry = rw (is, full) refl
row_is d image staged name plan true None is full entry = rw (is, full, entry) refl
row_is d image staged name plan true (Some x) is full entry = rw (is, full, entry) refl

pub keep_other : (d : Device) (image : Image) (staged : Option (List ℕ)) (name : List ℕ)
    (plan : List Part)
    → d.plan ≡ Some plan
    → is_full (other_slot d.mark.slot) name ≡ false
    → effect_on (mounted_on d image) staged (Keep name) ≡ refuses refusals.BadName
keep_other d image staged name plan is other =
    row_is d image staged name plan false
    (entry_named (base_of name) (map (entry_on image) plan)) is other refl

pub keep_unknown : (d : Device) (image : Image) (staged : Option (List ℕ)) (name : List ℕ)
    (plan : List Part)
    → d.plan ≡ Some plan
    → is_full (other_slot d.mark.slot) name ≡ true
    → place_of (base_of name) plan ≡ None
    → effect_on (mounted_on d image) staged (Keep name) ≡ refuses refusals.Unknown
keep_unknown d image staged name plan is full none =
    row_is d image staged name plan true None is full
    (no_place image (base_of name) plan none)

pub keep_logical : (d : Device) (image : Image) (staged : Option (List ℕ)) (name : List ℕ)
    (plan : List Part) (place : ℕ)
    → d.plan ≡ Some plan
    → is_full (other_slot d.mark.slot) name ≡ true
    → place_of (base_of name) plan ≡ Some place
    → effect_on (mounted_on d image) staged (Keep name) ≡ refuses refusals.NotPhysical
keep_logical d image staged name plan place is full some =
    row_is d image staged name plan true (Some (entry_on image (get_or plan place no_planned)))
    is full
    (place_named image (base_of name) plan place no_planned some)
