-- The planned partition that an image is for, where the image goes, and the bytes that are staged
-- for it.
use Rattle.std.specs.Prelude.{◌≡◌, ℕ, ◌*◌, ◌≤◌, Bool, true, false, List, [], ◌∷◌, length}
use Rattle.std.specs.Prelude.{slice_set, All}
use Rattle.std.specs.Prelude.{Option, Some, None, if◌then◌else◌, ◌==◌, ◌<◌}
use Rattle.std.specs.List.Sorted.{IsStrictlyIncreasing}
use Rattle.std.specs.Str.{bytes_eq}
use Rattle.vab_disk.specs.Disk.{Image}
use Rattle.vab_space.specs.declared.Chunk.{Chunk}
use Rattle.vab_space.specs.Chunks.{chunks_for, need_at}
use Rattle.vab_install.specs.Differing.{differing_of}
use Rattle.vab_exceptions.specs.declared.area.Exception.{Exception}
use Rattle.vab_model.specs.declared.state.Plan.{Plan}
use Rattle.vab_model.specs.declared.state.PlanEntry.{PlanEntry}
use Rattle.vab_model.specs.Effects.{Effect}
use Rattle.vab_device.specs.declared.device.Part.{Part}
use Rattle.vab_device.specs.declared.device.PartImage.{PartImage}
use Rattle.vab_device.specs.declared.device.PartImage.TheVariants.{Kept, Declared, Written}
use Rattle.vab_device.specs.declared.device.Device.{Device}
use Rattle.vab_device.specs.Mounted.{Mounted, entry_on, blocks_there}
use Rattle.vab_device.specs.Flashed.{entry_effect, in_store, in_place}
use Rattle.vab_flash.specs.declared.chosen.Destination.{Destination}
use Rattle.vab_flash.specs.declared.chosen.Destination.TheVariants.{Store, Blocks}
use Rattle.vab_flash.specs.Place.{HasPlace, plan_or, planned_at}

-- nothing was written to it
abbrev pub IsUnwritten : PartImage → Type 0
IsUnwritten Kept = Unit {0}
IsUnwritten Declared = Unit {0}
IsUnwritten (Written k es) = ⊥

-- where the image of a partition goes: into its store, or, where the target stands apart and it has
-- none, into its own blocks
abbrev pub destination_of : (apart : Bool) → Option (List ℕ) → Option Destination
destination_of apart (Some store) = Some Store
destination_of true None = Some Blocks
destination_of false None = None

-- what an image of these bytes makes of a device there, where the store has so many blocks
abbrev pub effect_into : Destination
    → Mounted
    → (source : ℕ)
    → Plan
    → PlanEntry
    → (store : ℕ)
    → Chunk
    → List ℕ
    → Effect Mounted
effect_into Store m source plan e store k bytes = in_store m source plan e store k bytes
effect_into Blocks m source plan e store k bytes = in_place m source plan e bytes

-- Its image goes there, nothing was written to it, and the staged bytes are at most as long as it
-- is. What is left to ask is whether a store has room.
pub record IsFor (apart : Bool) (p : Part) (to : Destination) (staged : Option (List ℕ))
    (bytes : List ℕ) : Type 0 where
  pub goes : destination_of apart p.store ≡ Some to
  pub unwritten : IsUnwritten p.image
  pub staged_is : staged ≡ Some bytes
  pub small : length bytes ≤ 4096 * length p.map
  pub effect : (m : Mounted) (source : ℕ) (entries : List PlanEntry) (k : Chunk) (image : Image)
      → entry_effect m source (record { apart = apart; entries = entries }) k staged
      (Some (entry_on image p))
      ≡ effect_into to m source (record { apart = apart; entries = entries }) (entry_on image p)
      (length (blocks_there p.store)) k bytes

-- ---- the source's partition

-- the first partition of this base name
abbrev pub part_named : List ℕ → List Part → Option Part
part_named base [] = None
part_named base (p ∷ ps) = if bytes_eq p.name base then Some p else part_named base ps

abbrev pub part_among : List ℕ → Option (List Part) → Option Part
part_among base None = None
part_among base (Some parts) = part_named base parts

-- the partition of a base name in a slot, where that has images
abbrev pub part_at : Device → ℕ → List ℕ → Option Part
part_at d slot base = part_among base (if slot == 0 then d.a else d.b)

-- its blocks, each as its first sector; none where there is no such partition
abbrev pub blocks_or : Option Part → List ℕ
blocks_or None = []
blocks_or (Some p) = p.map

-- ---- the plan with an image that was written

-- with these exceptions, in chunks of this size, for the planned partition at this place
abbrev pub with_written : Device → ℕ → Chunk → List Exception → Device
with_written d place k es = record d {
  plan = Some (slice_set (plan_or d.plan) place (record (planned_at d place)
      { image = Written k es }));
}

-- ---- what is asked of the disk

-- the blocks of the source's partition of the base name of the planned one at this place
abbrev pub base_of_place : Device → ℕ → List ℕ
base_of_place d place = blocks_or (part_at d d.mark.slot (planned_at d place).name)

-- the chunks of an image that differ from it
abbrev pub differing_at : Chunk → Device → ℕ → Image → List ℕ → List ℕ
differing_at k d place image bytes =
    differing_of k (base_of_place d place) image bytes (length (planned_at d place).map)

-- The name is that of the planned partition at this place, and the staged bytes may become its
-- image there, where a store has room.
pub record IsChosen (d : Device) (name : List ℕ) (staged : Option (List ℕ)) (place : ℕ)
    (to : Destination) (bytes : List ℕ) : Type 0 where
  pub has : HasPlace d name place
  pub within : place < length (plan_or d.plan)
  pub fits : IsFor d.mark.apart (planned_at d place) to staged bytes

-- the blocks of its store
abbrev pub store_at : Device → ℕ → List ℕ
store_at d place = blocks_there (planned_at d place).store

-- how many there are
abbrev pub store_long : Device → ℕ → ℕ
store_long d place = length (store_at d place)

-- how many blocks the store needs for an image
abbrev pub needed_at : Chunk → Device → ℕ → Image → List ℕ → ℕ
needed_at k d place image bytes = need_at (length (differing_at k d place image bytes)) k

-- Chunks in which the blocks of the planned partition at this place stand, in ascending order, for
-- which its store has room.
pub record IsListed (k : Chunk) (d : Device) (place : ℕ) (olds : List ℕ) : Type 0 where
  pub ascend : IsStrictlyIncreasing olds
  pub below : All (λ old. old < chunks_for k (length (planned_at d place).map)) olds
  pub room : need_at (length olds) k ≤ store_long d place
