-- A device with its images: the state that it is in, and where its partitions stand.
use Rattle.std.specs.Prelude.{ℕ, ◌+◌, List, [], ◌∷◌, map, length, Bool, if◌then◌else◌, Option}
use Rattle.std.specs.Prelude.{Some, None}
use Rattle.std.specs.Prelude.{is_some}
use Rattle.std.specs.List.{flat_map}
use Rattle.std.specs.Option.{option_map}
use Rattle.vab_disk.specs.Disk.{Image}
use Rattle.vab_gate.specs.Gate.{sectors_at}
use Rattle.vab_bootctl.specs.declared.slots.Control.{Control}
use Rattle.vab_marks.specs.declared.mark.MarkPhase.{MarkPhase}
use Rattle.vab_marks.specs.declared.mark.MarkPhase.TheVariants as marks
use Rattle.vab_marks.specs.declared.mark.UpdateMark.{UpdateMark}
use Rattle.vab_tables.specs.declared.table.Table.{Table}
use Rattle.vab_geometry.specs.declared.geometry.Geometry.{Geometry}
use Rattle.vab_layout.specs.declared.layout.Layout.{Layout}
use Rattle.vab_layout.specs.Layout.{layout_of}
use Rattle.vab_layout.specs.Plain.{plain}
use Rattle.vab_space.specs.declared.Chunk.{Chunk}
use Rattle.vab_exceptions.specs.declared.area.Exception.{Exception}
use Rattle.vab_model.specs.declared.state.Image.{Image as ImageOfSlot}
use Rattle.vab_model.specs.declared.state.PlanImage.{PlanImage}
use Rattle.vab_model.specs.declared.state.PlanImage.TheVariants as planned
use Rattle.vab_model.specs.declared.state.PlanEntry.{PlanEntry}
use Rattle.vab_model.specs.declared.state.Overlay.{Overlay}
use Rattle.vab_model.specs.declared.state.State.{State}
use Rattle.vab_model.specs.declared.state.Phase.{Phase}
use Rattle.vab_model.specs.declared.state.Phase.TheVariants.{Idle, Installing, Staged, Merging}
use Rattle.vab_model.specs.State.{control_seen}
use Rattle.vab_model.specs.Commands.{Command}
use Rattle.vab_model.specs.Effects.{Effect, effect_map}
use Rattle.vab_model.specs.Machine.{machine_effect}
use Rattle.vab_device.specs.declared.device.Part.{Part}
use Rattle.vab_device.specs.declared.device.PartImage.{PartImage}
use Rattle.vab_device.specs.declared.device.PartImage.TheVariants.{Kept, Declared, Written}
use Rattle.vab_device.specs.declared.device.Device.{Device}
use Rattle.vab_device.specs.Kept.{group_of}
use Rattle.vab_device.specs.Stores.{sectors_seen}

-- Where the partitions stand: the geometry, and for each slot the table that is read of it; that of
-- a slot with images without stores.
pub record Places : Type 0 where
  pub geometry : Geometry
  pub a : Option Layout
  pub b : Option Layout

pub record Mounted : Type 0 where
  pub state : State
  pub places : Places

-- ---- images

-- the bytes of blocks, each as its first sector
unfoldable pub bytes_at : Image → List ℕ → List ℕ
bytes_at image blocks = flat_map (λ s. sectors_at 8 image s) blocks

-- where a store stands; nowhere, where there is none
abbrev pub blocks_there : Option (List ℕ) → List ℕ
blocks_there None = []
blocks_there (Some store) = store

-- the exceptions of the store of a partition
abbrev pub exceptions_in : PartImage → List Exception
exceptions_in Kept = []
exceptions_in Declared = []
exceptions_in (Written k es) = es

-- the sectors that a read of a partition takes that is written through its store
abbrev pub written_sectors : Part → Chunk → List Exception → List ℕ
written_sectors p k es = sectors_seen k (blocks_there p.store) es 0 p.map

abbrev pub sectors_by : Part → PartImage → List ℕ
sectors_by p Kept = p.map
sectors_by p Declared = p.map
sectors_by p (Written k es) = written_sectors p k es

-- for each block of a partition, the first of the sectors that a read of it takes
abbrev pub sectors_read : Part → List ℕ
sectors_read p = sectors_by p p.image

abbrev pub image_on : Image → Part → ImageOfSlot
image_on image p = record {
  name = p.name;
  group = group_of p.group;
  bytes = bytes_at image (sectors_read p);
}

abbrev pub images_on : Image → Option (List Part) → Option (List ImageOfSlot)
images_on image None = None
images_on image (Some parts) = Some (map (image_on image) parts)

-- ---- the partitions that are planned

abbrev pub planned_on : Image → Part → PartImage → PlanImage
planned_on image p Kept = planned.Kept
planned_on image p Declared = planned.Declared
planned_on image p (Written k es) =
    planned.Written (bytes_at image (written_sectors p k es)) (length es)

abbrev pub entry_on : Image → Part → PlanEntry
entry_on image p = record {
  name = p.name;
  group = group_of p.group;
  blocks = length p.map;
  store = option_map length p.store;
  image = planned_on image p p.image;
}

abbrev pub entries_on : Image → Option (List Part) → Option (List PlanEntry)
entries_on image None = None
entries_on image (Some plan) = Some (map (entry_on image) plan)

-- ---- an overlay

-- the blocks of a store's exceptions
abbrev pub blocks_over : PartImage → List ℕ
blocks_over Kept = []
blocks_over Declared = []
blocks_over (Written k es) = map (λ e. e.old_chunk) es

abbrev pub overlay_by : Image → Part → Overlay
overlay_by image p = record {
  name = p.name;
  store = length (blocks_there p.store);
  blocks = blocks_over p.image;
  bytes = bytes_at image (sectors_read p);
}

abbrev pub overlay_on : Image → Option Part → Option Overlay
overlay_on image None = None
overlay_on image (Some p) = Some (overlay_by image p)

-- ---- how much is left to merge

-- the exceptions of a partition's store
abbrev pub count_of : PartImage → ℕ
count_of Kept = 0
count_of Declared = 0
count_of (Written k es) = length es

-- those of all stores
abbrev pub count_in : List Part → ℕ
count_in [] = 0
count_in (p ∷ ps) = count_of p.image + count_in ps

abbrev pub count_at : Option (List Part) → ℕ
count_at None = 0
count_at (Some parts) = count_in parts

-- ---- where an update stands

-- where no partitions are planned
abbrev pub unplanned : MarkPhase → (slot left : ℕ) → Phase
unplanned marks.Idle slot left = Idle
unplanned marks.Installing slot left = Idle
unplanned marks.Staged slot left = Staged slot left
unplanned marks.Merging slot left = Merging slot left
unplanned marks.Completed slot left = Idle

-- by the update mark, with these planned partitions, and so many exceptions in the stores of slots
-- with images
abbrev pub phase_by : UpdateMark → (left : ℕ) → Option (List PlanEntry) → Phase
phase_by m left None = unplanned m.phase m.slot left
phase_by m left (Some entries) =
    Installing m.slot (record { apart = m.apart; entries = entries })

abbrev pub phase_on : Device → Image → Phase
phase_on d image = phase_by d.mark (count_at d.a + count_at d.b) (entries_on image d.plan)

-- ---- a kept device, where the disk has this image

-- the boot control that a state has of it
abbrev pub control_on : Device → Control
control_on d = control_seen (is_some d.a) (is_some d.b) d.control

unfoldable pub state_on : Device → Image → State
state_on d image = record {
  cap = d.cap;
  groups = d.groups;
  control = control_on d;
  a = images_on image d.a;
  b = images_on image d.b;
  physical = [];
  phase = phase_on d image;
  overlay = overlay_on image d.overlay;
}

abbrev pub table_placed : ℕ → Bool → Option Table → Option Layout
table_placed slot has_images None = None
table_placed slot has_images (Some t) =
    Some (if has_images then plain slot (layout_of t) else layout_of t)

abbrev pub places_on : Device → Places
places_on d = record {
  geometry = d.geometry;
  a = table_placed 0 (is_some d.a) d.table_a;
  b = table_placed 1 (is_some d.b) d.table_b;
}

abbrev pub mounted_on : Device → Image → Mounted
mounted_on d image = record { state = state_on d image; places = places_on d }

-- the same places, in another state
abbrev pub in_state : Mounted → State → Mounted
in_state m state = record m { state = state }

-- What the machine makes of it by a command, where these bytes are staged: it stays in the same
-- places.
abbrev pub effect_in : Mounted → Option (List ℕ) → Command → Effect Mounted
effect_in m staged command = effect_map (in_state m) (machine_effect m.state staged command)
