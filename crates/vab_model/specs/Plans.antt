-- The plan of an update: what is counted of it, and what the edits make of it. A plan is the
-- target's partitions by base name, each with its group, its blocks of 4096 bytes and those of its
-- store; where any of them stands is said nowhere. In a factory install the target stands apart: it
-- has no block of the source, and no store.
use Rattle.std.specs.Prelude.{ℕ, ◌-◌, ◌/◌, ◌==◌, nat_le, Bool, true, false, not, ◌||◌}
use Rattle.std.specs.Prelude.{if◌then◌else◌, List, [], ◌∷◌, length, map, Option, Some, None}
use Rattle.std.specs.Prelude.{is_some}
use Rattle.std.specs.List.{filter}
use Rattle.std.specs.Str.{bytes_eq}
use Rattle.vab_space.specs.declared.Want.{Want}
use Rattle.vab_space.specs.Space.{need_of, blocks_of, used_of, group_sum_of}
use Rattle.vab_model.specs.declared.state.GroupLimit.{GroupLimit}
use Rattle.vab_model.specs.declared.state.Image.{Image}
use Rattle.vab_model.specs.declared.state.PlanImage.TheVariants.{Kept, Declared, Written}
use Rattle.vab_model.specs.declared.state.PlanEntry.{PlanEntry}
use Rattle.vab_model.specs.declared.state.Plan.{Plan}
use Rattle.vab_model.specs.declared.state.State.{State}
use Rattle.vab_model.specs.State.{images_at, image_named}

-- the slot that isn't this one
abbrev pub other_slot : ℕ → ℕ
other_slot slot = 1 - slot

-- ---- the source of an update

abbrev pub listed : Option (List Image) → List Image
listed None = []
listed (Some images) = images

-- the images of a slot; none where it has none
abbrev pub images_of : State → (slot : ℕ) → List Image
images_of s slot = listed (images_at s slot)

abbrev pub bytes_or_none : Option Image → List ℕ
bytes_or_none None = []
bytes_or_none (Some image) = image.bytes

-- the bytes of the image of this base name; none where there is no such image
abbrev pub bytes_named : List ℕ → List Image → List ℕ
bytes_named name images = bytes_or_none (image_named name images)

-- The images of the source whose blocks the target's entries of the same names begin with: all of
-- them, or none where it stands apart.
abbrev pub twins_of : (apart : Bool) → (source : List Image) → List Image
twins_of apart source = if apart then [] else source

-- ---- what is counted

-- whole blocks of so many bytes of an image
abbrev pub blocks_in : List ℕ → ℕ
blocks_in bytes = length bytes / 4096

abbrev pub store_blocks : Option ℕ → ℕ
store_blocks None = 0
store_blocks (Some blocks) = blocks

-- what an entry wants: the blocks of its twin, the source's image of its name, its own, and its
-- store's
abbrev pub want_of : (twins : List Image) → PlanEntry → Want
want_of twins e = record {
  before = blocks_in (bytes_named e.name twins);
  blocks = e.blocks;
  store = store_blocks e.store;
}

-- the blocks in use: those of the source's images, those that entries have more than their twins,
-- and those of stores
abbrev pub in_use : (source : List Image) → Plan → ℕ
in_use source plan =
    used_of
    (map (λ (i : Image). blocks_in i.bytes) source)
    (map (want_of (twins_of plan.apart source)) plan.entries)

-- two groups are the same; `None` is that of no slot
abbrev pub same_group : Option (List ℕ) → Option (List ℕ) → Bool
same_group None None = true
same_group None (Some name) = false
same_group (Some name) None = false
same_group (Some a) (Some b) = bytes_eq a b

-- the bytes of all entries in a group
abbrev pub group_bytes : Option (List ℕ) → List PlanEntry → ℕ
group_bytes group plan =
    group_sum_of
    (map {A = PlanEntry} (λ e. e.blocks)
    (filter {X = PlanEntry} (λ e. same_group e.group group) plan))

abbrev pub limit_named : List ℕ → List GroupLimit → ℕ
limit_named name [] = 0
limit_named name (g ∷ gs) = if bytes_eq g.name name then g.limit else limit_named name gs

-- the limit of a group in bytes; 0 is none, and the group of no slot has none
abbrev pub limit_of : List GroupLimit → Option (List ℕ) → ℕ
limit_of groups None = 0
limit_of groups (Some name) = limit_named name groups

abbrev pub is_within : (sum limit : ℕ) → Bool
is_within sum limit = limit == 0 || nat_le sum limit

-- ---- entries

-- the entry of this base name
abbrev pub entry_named : List ℕ → List PlanEntry → Option PlanEntry
entry_named name [] = None
entry_named name (e ∷ es) = if bytes_eq e.name name then Some e else entry_named name es

-- there is one
abbrev pub is_planned : List ℕ → List PlanEntry → Bool
is_planned name plan = is_some (entry_named name plan)

-- the entry of this base name is changed
abbrev pub at_entry : List ℕ → (PlanEntry → PlanEntry) → List PlanEntry → List PlanEntry
at_entry name change plan =
    map {A = PlanEntry} (λ e. if bytes_eq e.name name then change e else e) plan

-- these entries in place of a plan's
abbrev pub with_entries : Plan → List PlanEntry → Plan
with_entries plan entries = record plan { entries = entries }

-- a begin keeps each image of the source
abbrev pub kept_entry : Image → PlanEntry
kept_entry i = record {
  name = i.name;
  group = i.group;
  blocks = blocks_in i.bytes;
  store = None;
  image = Kept;
}

-- the first of the groups, or that of no slot
abbrev pub first_group : List GroupLimit → Option (List ℕ)
first_group [] = None
first_group (g ∷ gs) = Some g.name

-- a create declares an entry of so many bytes in the first group
abbrev pub created_entry : List GroupLimit → List ℕ → (size : ℕ) → PlanEntry
created_entry groups name size = record {
  name = name;
  group = first_group groups;
  blocks = blocks_of size;
  store = None;
  image = Declared;
}

-- a resize declares it anew with so many blocks; the same number changes nothing
abbrev pub resized_entry : (blocks : ℕ) → PlanEntry → PlanEntry
resized_entry blocks e =
    if e.blocks == blocks then e else record e { blocks = blocks; image = Declared }

-- a snapshot declares it anew with a store of so many bytes; 0 is as many as its blocks may need
abbrev pub stored_entry : (size : ℕ) → PlanEntry → PlanEntry
stored_entry size e = record e {
  store = Some (if size == 0 then need_of e.blocks else blocks_of size);
  image = Declared;
}

-- The plan as an installation begins: a target that stands apart has no partition yet.
abbrev pub begun_plan : (apart : Bool) → (source : List Image) → Plan
begun_plan apart source = record {
  apart = apart;
  entries = map kept_entry (twins_of apart source);
}

-- a flash gives it these bytes, and its store so many exceptions; none where it has no store
abbrev pub written_entry : (bytes : List ℕ) → (exceptions : ℕ) → PlanEntry → PlanEntry
written_entry bytes exceptions e = record e { image = Written bytes exceptions }

-- a delete takes it out
abbrev pub without_entry : List ℕ → List PlanEntry → List PlanEntry
without_entry name plan = filter {X = PlanEntry} (λ e. not (bytes_eq e.name name)) plan
