-- The wipe of `super`: the staged bytes are an image of an empty `super`, whose partitions become
-- those of the current slot.
use Rattle.std.specs.Prelude.{ℕ, true, if◌then◌else◌, List, [], map, Option, Some, None}
use Rattle.vab_names.specs.Names.{base_of}
use Rattle.vab_layout.specs.declared.layout.Part.{Part}
use Rattle.vab_layout.specs.Layout.{layout_of}
use Rattle.vab_layout.specs.Slots.{own_parts}
use Rattle.vab_tables.specs.declared.table.Table.{Table}
use Rattle.vab_super_image.specs.declared.image.SuperImage.{SuperImage}
use Rattle.vab_super_image.specs.SuperImage.{super_image_of, first_filled}
use Rattle.vab_model.specs.declared.state.Image.{Image}
use Rattle.vab_model.specs.declared.state.Phase.{Phase}
use Rattle.vab_model.specs.declared.state.Phase.TheVariants.{Idle}
use Rattle.vab_model.specs.declared.state.State.{State}
use Rattle.vab_model.specs.declared.command.Refusal.{Refusal}
use Rattle.vab_model.specs.declared.command.Refusal.TheVariants as refusals
use Rattle.vab_model.specs.declared.command.Reply.TheVariants as replies
use Rattle.vab_model.specs.Effects.{Effect, refuses, does, wanting}
use Rattle.vab_model.specs.Groups.{limits_of, group_of}
use Rattle.vab_model.specs.Staged.{is_sparse}
use Rattle.vab_model.specs.State.{with_images}

-- ---- what is left

-- the image of a partition without blocks
abbrev pub empty_image : Part → Image
empty_image p = record { name = base_of p.name; group = group_of p.group; bytes = [] }

-- those of a slot's own partitions
abbrev pub empty_images : (slot : ℕ) → Table → List Image
empty_images slot t = map empty_image (own_parts slot (layout_of t).parts)

-- The slot has the partitions of the image, each empty, and its groups.
abbrev pub wiped : State → (slot : ℕ) → SuperImage → State
wiped s slot i =
    record
    (with_images s slot (empty_images slot i.table))
    { groups = limits_of slot i.table.groups }

-- ---- what is judged of the image

-- Why an image isn't taken, if it isn't.
abbrev pub Judge : Type 0
Judge = SuperImage → Option Refusal

-- a state alone judges no image
abbrev pub no_judge : Judge
no_judge i = None

-- a partition has extents
abbrev pub filled_refusal : Option (List ℕ) → Option Refusal
filled_refusal None = None
filled_refusal (Some name) = Some (refusals.NotEmpty name)

abbrev pub if_passing : {S : Type 0} → Option Refusal → Effect S → Effect S
if_passing None next = next
if_passing (Some refusal) next = refuses refusal

-- Of an image: a disk judges it by its geometry and its block device before its partitions, and by
-- the size of its table behind them.
abbrev pub judged_effect : {S : Type 0}
    → (before behind : Judge)
    → (SuperImage → S)
    → Option SuperImage
    → Effect S
judged_effect before behind next None = refuses refusals.BadSuperImage
judged_effect before behind next (Some i) =
    if_passing (before i)
    (if_passing (filled_refusal (first_filled i.table.partitions))
    (if_passing (behind i) (does replies.Done (next i))))

-- memory may be refused from the reading of the image on
abbrev pub staged_effect : {S : Type 0}
    → (before behind : Judge)
    → (SuperImage → S)
    → (slot : ℕ)
    → Option (List ℕ)
    → Effect S
staged_effect before behind next slot None = refuses refusals.NothingStaged
staged_effect before behind next slot (Some staged) =
    if is_sparse staged
    then refuses refusals.Sparse
    else wanting true (judged_effect before behind next (super_image_of slot staged))

-- The effect of a wipe of this slot, where these bytes are staged: only where there is no update.
abbrev pub wipe_effect : {S : Type 0}
    → (before behind : Judge)
    → (SuperImage → S)
    → (slot : ℕ)
    → Option (List ℕ)
    → Phase
    → Effect S
wipe_effect before behind next slot staged Idle = staged_effect before behind next slot staged
wipe_effect before behind next slot staged _ = refuses refusals.NotIdle
