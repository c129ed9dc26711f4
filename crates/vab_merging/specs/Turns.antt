-- The turns of a merge, as they change what is kept of a device: each takes the last exception of
-- the first store, in the order of the table, that has one.
use Rattle.std.specs.Prelude.{ℕ, zero, suc, ◌-◌, ◌==◌, Bool, ◌&&◌, nat_lt}
use Rattle.std.specs.Prelude.{if◌then◌else◌, List, [], ◌∷◌, ◌++◌, length, map, position, slice_set}
use Rattle.std.specs.Prelude.{slice_index_or, take, Option, Some, None}
use Rattle.std.specs.Str.{bytes_eq}
use Rattle.vab_names.specs.Names.{suffix_of, store_suffix}
use Rattle.vab_tables.specs.declared.table.Table.{Table}
use Rattle.vab_layout.specs.Layout.{layout_of}
use Rattle.vab_layout.specs.Slots.{store_parts}
use Rattle.vab_device.specs.declared.device.Part.{Part}
use Rattle.vab_device.specs.declared.device.PartImage.{PartImage}
use Rattle.vab_device.specs.declared.device.PartImage.TheVariants.{Kept, Declared, Written}
use Rattle.vab_device.specs.declared.device.Device.{Device}
use Rattle.vab_device.specs.Kept.{parts_at, table_of_slot}
use Rattle.vab_device.specs.Mounted.{count_of}

-- ---- the order of the stores

-- the stores of a slot, by their names in the order of the table
abbrev pub stores_in : ℕ → Option Table → List (List ℕ)
stores_in slot None = []
stores_in slot (Some t) = map (λ s. s.name) (store_parts slot (layout_of t).parts)

-- the store of this name is the partition's
abbrev pub has_store : ℕ → List ℕ → Part → Bool
has_store slot store p = bytes_eq (p.name ++ suffix_of slot ++ store_suffix) store

-- its store has exceptions
abbrev pub has_exceptions : Part → Bool
has_exceptions p = nat_lt 0 (count_of p.image)

-- the place of the partition of a store that has exceptions
abbrev pub place_of : ℕ → List Part → List ℕ → Option ℕ
place_of slot parts store = position (λ p. has_store slot store p && has_exceptions p) parts

abbrev pub or_place : Option ℕ → Option ℕ → Option ℕ
or_place None later = later
or_place (Some place) later = Some place

-- that of the first of these stores
abbrev pub first_place : ℕ → List Part → List (List ℕ) → Option ℕ
first_place slot parts [] = None
first_place slot parts (store ∷ stores) =
    or_place (place_of slot parts store) (first_place slot parts stores)

-- the partitions of the slot of the mark
abbrev pub parts_or : Option (List Part) → List Part
parts_or None = []
parts_or (Some parts) = parts

abbrev pub own_of : Device → List Part
own_of d = parts_or (parts_at d d.mark.slot)

-- the place of the partition whose store the next turn takes
abbrev pub next_of : Device → Option ℕ
next_of d = first_place d.mark.slot (own_of d) (stores_in d.mark.slot (table_of_slot d d.mark.slot))

-- ---- turns

abbrev pub no_part : Part
no_part = record { name = []; group = []; map = []; store = None; image = Kept }

abbrev pub part_at : Device → ℕ → Part
part_at d place = slice_index_or (own_of d) place no_part

-- without the last n exceptions of its store
abbrev pub cut_image : ℕ → PartImage → PartImage
cut_image n Kept = Kept
cut_image n Declared = Declared
cut_image n (Written k es) = Written k (take (length es - n) es)

abbrev pub cut_part : ℕ → Part → Part
cut_part n p = record p { image = cut_image n p.image }

-- with these partitions of the slot of the mark
abbrev pub with_own : Device → List Part → Device
with_own d parts = record d {
  a = if d.mark.slot == 0 then Some parts else d.a;
  b = if d.mark.slot == 0 then d.b else Some parts;
}

-- with the last n exceptions taken from the store of the partition at this place
abbrev pub cut_at : ℕ → ℕ → Device → Device
cut_at place n d = with_own d (slice_set (own_of d) place (cut_part n (part_at d place)))

abbrev pub turn_at : Device → Option ℕ → Device
turn_at d None = d
turn_at d (Some place) = cut_at place 1 d

-- after so many turns
unfoldable pub turned : ℕ → Device → Device
turned zero d = d
turned (suc n) d = turned n (turn_at d (next_of d))

-- how many exceptions are left
abbrev pub left_in : Device → ℕ
left_in d = Rattle.vab_device.specs.Mounted.count_in (own_of d)
