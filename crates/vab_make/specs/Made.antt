-- The device that is made of a set of images.
use Rattle.std.specs.Prelude.{ℕ, ◌+◌, ◌-◌, ◌*◌, ◌==◌, ◌&&◌, not, nat_lt, if◌then◌else◌, List, []}
use Rattle.std.specs.Prelude.{◌∷◌, ◌++◌, length, map, replicate, codes, Bool, true, false, Option}
use Rattle.std.specs.Prelude.{Some, None, sum_by}
use Rattle.std.specs.List.{range_with_len}
use Rattle.vab_names.specs.Names.{suffix_of}
use Rattle.vab_space.specs.Space.{blocks_of}
use Rattle.vab_bootctl.specs.declared.slots.Control.{Control}
use Rattle.vab_geometry.specs.declared.geometry.Geometry.{Geometry}
use Rattle.vab_tables.specs.declared.entries.BlockDevice.{BlockDevice}
use Rattle.vab_tables.specs.declared.entries.Group.{Group}
use Rattle.vab_tables.specs.Rules.{cap_of}
use Rattle.vab_tables.specs.Spelling.{table_size_of}
use Rattle.vab_set.specs.declared.set.SetImage.{SetImage}
use Rattle.vab_layout.specs.declared.layout.Part.{Part}
use Rattle.vab_layout.specs.declared.layout.Layout.{Layout}
use Rattle.vab_layout.specs.Layout.{table_of}
use Rattle.vab_layout.specs.Plain.{default_group, plain}
use Rattle.vab_model.specs.declared.state.Image.{Image as ImageOfSlot}
use Rattle.vab_model.specs.declared.state.State.{State}
use Rattle.vab_model.specs.declared.state.Phase.TheVariants.{Idle}
use Rattle.vab_device.specs.Kept.{super_bytes}
use Rattle.vab_device.specs.Mounted.{Places, Mounted}
use Rattle.vab_make.specs.declared.fault.MakeFault.{MakeFault}
use Rattle.vab_make.specs.declared.fault.MakeFault.TheVariants.{TooSmall, GroupLimit, NoRoom}
use Rattle.vab_make.specs.declared.fault.MakeFault.TheVariants.{TableFull}

-- ---- where it stands

-- one group for each slot, with this limit
abbrev pub main_group : ℕ → ℕ → Group
main_group slot limit = record {
  name = codes "main" ++ suffix_of slot;
  flags = 0;
  maximum_size = limit;
}

-- the images one after another, the lowest blocks first
abbrev pub parts_from : ℕ → List SetImage → List Part
parts_from at [] = []
parts_from at (image ∷ images) =
    record {
      name = image.name ++ suffix_of 0;
      attributes = 1;
      group = codes "main" ++ suffix_of 0;
      blocks = range_with_len at (blocks_of image.size);
    }
    ∷ parts_from (at + blocks_of image.size) images

-- all of `super`, with the partitions behind its first megabyte
abbrev pub made_device : ℕ → BlockDevice
made_device size = record {
  first_logical_sector = 2048;
  alignment = 1048576;
  alignment_offset = 0;
  size = super_bytes size;
  partition_name = codes "super";
  flags = 0;
}

unfoldable pub made_layout : List SetImage → ℕ → ℕ → Layout
made_layout set limit size = record {
  parts = parts_from 0 set;
  groups = default_group ∷ main_group 0 limit ∷ main_group 1 limit ∷ [];
  device = made_device size;
  flags = 1;
}

abbrev pub made_geometry : ℕ → Geometry
made_geometry max = record { max = max; slots = 2 }

unfoldable pub made_places : List SetImage → ℕ → ℕ → ℕ → Places
made_places set limit max size = record {
  geometry = made_geometry max;
  a = Some (plain 0 (made_layout set limit size));
  b = None;
}

-- ---- what it is

abbrev pub made_control : Control
made_control = record {
  current = 0;
  a = record { priority = 15; tries = 0; successful = true };
  b = record { priority = 0; tries = 0; successful = false };
}

-- an image, filled with zeros to whole blocks
abbrev pub filled : SetImage → List ℕ
filled image = image.bytes ++ replicate (4096 * blocks_of image.size - length image.bytes) 0

abbrev pub made_image : SetImage → ImageOfSlot
made_image image = record { name = image.name; group = Some (codes "main"); bytes = filled image }

unfoldable pub made_state : List SetImage → ℕ → ℕ → State
made_state set limit size = record {
  cap = cap_of (made_device size);
  groups = record { name = codes "main"; limit = limit } ∷ [];
  control = made_control;
  a = Some (map made_image set);
  b = None;
  physical = [];
  phase = Idle;
  overlay = None;
}

-- the device that is made
abbrev pub made_device_of : List SetImage → ℕ → ℕ → ℕ → Mounted
made_device_of set limit max size = record {
  state = made_state set limit size;
  places = made_places set limit max size;
}

-- ---- why it is refused

-- the blocks of all images
abbrev pub set_blocks : List SetImage → ℕ
set_blocks set = sum_by (λ image. blocks_of image.size) set

abbrev pub set_text_size : List SetImage → ℕ → ℕ → ℕ
set_text_size set limit size = table_size_of (table_of (made_layout set limit size))

-- the images are more than the group's limit
abbrev pub is_over : List SetImage → ℕ → Bool
is_over set limit = not (limit == 0) && nat_lt limit (4096 * set_blocks set)

-- the first refusal
unfoldable pub refusal_of : List SetImage → ℕ → ℕ → ℕ → Option MakeFault
refusal_of set limit max size =
    let used = set_blocks set in
    let cap = cap_of (made_device size) in
    let text = set_text_size set limit size in
    if nat_lt size 6152 then Some (TooSmall 6152 size)
    else (if is_over set limit then Some (GroupLimit (4096 * used) limit)
    else (if nat_lt cap used then Some (NoRoom used cap)
    else (if nat_lt max text then Some (TableFull text max)
    else None)))
