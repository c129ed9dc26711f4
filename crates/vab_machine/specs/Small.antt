-- How large a state may be so that all that the program beside the machine counts are numbers of 64
-- bits. What follows from a small state is small.
use Rattle.std.specs.Prelude.{ℕ, ◌≤◌, ◌^◌, List, length, Option, Some, None, All}
use Rattle.vab_names.specs.Names.{most_partitions}
use Rattle.vab_model.specs.declared.state.Image.{Image}
use Rattle.vab_model.specs.declared.state.PlanImage.{PlanImage}
use Rattle.vab_model.specs.declared.state.PlanImage.TheVariants.{Kept, Declared, Written}
use Rattle.vab_model.specs.declared.state.PlanEntry.{PlanEntry}
use Rattle.vab_model.specs.declared.state.Phase.{Phase}
use Rattle.vab_model.specs.declared.state.Phase.TheVariants.{Idle, Installing, Staged, Merging}
use Rattle.vab_model.specs.declared.state.Overlay.{Overlay}
use Rattle.vab_model.specs.declared.state.Physical.{Physical}
use Rattle.vab_model.specs.declared.state.State.{State}
use Rattle.vab_model.specs.Plans.{store_blocks}

-- no more images than a slot has partitions, of at most 2^40 bytes
pub record AreSmallImages (images : List Image) : Type 0 where
  pub few : length images ≤ most_partitions
  pub each : All (λ (i : Image). length i.bytes ≤ 2 ^ 40) images

abbrev pub IsSmallSlot : Option (List Image) → Type 0
IsSmallSlot None = Unit {0}
IsSmallSlot (Some images) = AreSmallImages images

-- at most 2^40 bytes, with fewer exceptions than 2^55
pub record IsSmallWritten (bytes : List ℕ) (exceptions : ℕ) : Type 0 where
  pub bytes_small : length bytes ≤ 2 ^ 40
  pub few : exceptions ≤ 2 ^ 55

abbrev pub IsSmallImage : PlanImage → Type 0
IsSmallImage Kept = Unit {0}
IsSmallImage Declared = Unit {0}
IsSmallImage (Written bytes exceptions) = IsSmallWritten bytes exceptions

-- at most 2^28 blocks, and a store of at most 2^55
pub record IsSmallEntry (e : PlanEntry) : Type 0 where
  pub blocks : e.blocks ≤ 2 ^ 28
  pub store : store_blocks e.store ≤ 2 ^ 55
  pub image : IsSmallImage e.image

pub record IsSmallPlan (plan : List PlanEntry) : Type 0 where
  pub few : length plan ≤ most_partitions
  pub each : All IsSmallEntry plan

abbrev pub IsSmallPhase : Phase → Type 0
IsSmallPhase Idle = Unit {0}
IsSmallPhase (Installing source plan) = IsSmallPlan plan.entries
IsSmallPhase (Staged source left) = Unit {0}
IsSmallPhase (Merging target left) = Unit {0}

-- at most 2^55 blocks written, in a store of at most 2^55, over at most 2^40 bytes
pub record IsSmallOver (o : Overlay) : Type 0 where
  pub few : length o.blocks ≤ 2 ^ 55
  pub store : o.store ≤ 2 ^ 55
  pub over : length o.bytes ≤ 2 ^ 40

abbrev pub IsSmallOverlay : Option Overlay → Type 0
IsSmallOverlay None = Unit {0}
IsSmallOverlay (Some o) = IsSmallOver o

-- no more than a slot has partitions, of at most 2^28 blocks
pub record AreSmallPhysical (physical : List Physical) : Type 0 where
  pub few : length physical ≤ most_partitions
  pub each : All (λ (p : Physical). p.blocks ≤ 2 ^ 28) physical

pub record IsSmall (s : State) : Type 0 where
  pub a : IsSmallSlot s.a
  pub b : IsSmallSlot s.b
  pub physical : AreSmallPhysical s.physical
  pub phase : IsSmallPhase s.phase
  pub overlay : IsSmallOverlay s.overlay
