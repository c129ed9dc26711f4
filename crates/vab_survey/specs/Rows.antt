-- The stores of a device: what its partitions hold that an update or an overlay has written.
use Rattle.std.specs.Prelude.{ℕ, List, [], ◌∷◌, ◌++◌, length, nat_lt, if◌then◌else◌}
use Rattle.std.specs.Prelude.{Option, Some, None}
use Rattle.std.specs.List.{flat_map}
use Rattle.vab_space.specs.declared.Chunk.{Chunk}
use Rattle.vab_space.specs.Chunks.{need_at}
use Rattle.vab_layout.specs.Slots.{other_slot}
use Rattle.vab_device.specs.declared.device.Device.{Device}
use Rattle.vab_device.specs.declared.device.Part.{Part}
use Rattle.vab_device.specs.declared.device.PartImage.{PartImage}
use Rattle.vab_device.specs.declared.device.PartImage.TheVariants.{Kept, Declared, Written}
use Rattle.vab_survey.specs.declared.stores.StoreRow.{StoreRow}

-- of a store of so many blocks, those that so many exceptions use in chunks of this size
abbrev pub used_of : ℕ → ℕ → Chunk → ℕ
used_of blocks count k = if nat_lt count blocks then need_at count k else blocks

abbrev pub row_by : ℕ → Part → Option (List ℕ) → PartImage → List StoreRow
row_by slot p None image = []
row_by slot p (Some store) Kept = []
row_by slot p (Some store) Declared = []
row_by slot p (Some store) (Written k es) =
    record {
      slot = slot;
      name = p.name;
      exceptions = length es;
      blocks = length store;
      used = used_of (length store) (length es) k;
    }
    ∷ []

-- what there is, as a list
abbrev pub listed : Option StoreRow → List StoreRow
listed None = []
listed (Some row) = row ∷ []

-- the row of a partition with a store and a status
abbrev pub row_of : ℕ → Part → List StoreRow
row_of slot p = row_by slot p p.store p.image

abbrev pub rows_at : ℕ → Option (List Part) → List StoreRow
rows_at slot None = []
rows_at slot (Some parts) = flat_map (row_of slot) parts

-- the row of a partition that is written over
abbrev pub row_over : ℕ → Option Part → List StoreRow
row_over slot None = []
row_over slot (Some p) = row_of slot p

-- those of both slots, of the target that is planned, and of an overlay
abbrev pub rows_of : Device → List StoreRow
rows_of d =
    rows_at 0 d.a
    ++ rows_at 1 d.b
    ++ rows_at (other_slot d.mark.slot) d.plan
    ++ row_over d.mark.slot d.overlay
