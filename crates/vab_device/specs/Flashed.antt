-- A flash by the blocks of its partition, as a program carries it out. It is the machine's row.
use Rattle.std.specs.Prelude.{ℕ, ◌*◌, ◌/◌, Bool, true, not, ◌&&◌, nat_lt, nat_le, List, length, map}
use Rattle.std.specs.Prelude.{Option, Some, None, if◌then◌else◌}
use Rattle.std.specs.List.{flat_map, range_with_len}
use Rattle.std.specs.Str.{bytes_eq}
use Rattle.vab_bytes.specs.Number.{field}
use Rattle.vab_names.specs.Names.{is_full, base_of}
use Rattle.vab_space.specs.declared.Chunk.{Chunk}
use Rattle.vab_space.specs.Chunks.{need_at}
use Rattle.vab_space.specs.Differing.{differing_chunks}
use Rattle.vab_store.specs.Writing.{block_of}
use Rattle.vab_layout.specs.Slots.{other_slot}
use Rattle.vab_model.specs.declared.state.PlanImage.{PlanImage}
use Rattle.vab_model.specs.declared.state.PlanImage.TheVariants.{Kept, Declared, Written}
use Rattle.vab_model.specs.declared.state.PlanEntry.{PlanEntry}
use Rattle.vab_model.specs.declared.state.Plan.{Plan}
use Rattle.vab_model.specs.declared.state.Phase.{Phase}
use Rattle.vab_model.specs.declared.state.Phase.TheVariants.{Installing}
use Rattle.vab_model.specs.declared.state.Physical.{Physical}
use Rattle.vab_model.specs.declared.state.State.{State}
use Rattle.vab_model.specs.declared.command.Refusal.TheVariants as refusals
use Rattle.vab_model.specs.declared.command.Reply.TheVariants as replies
use Rattle.vab_model.specs.Effects.{Effect, refuses, does, wanting, effect_map}
use Rattle.vab_model.specs.Machine.{flash_physical}
use Rattle.vab_model.specs.Physical.{is_physical, physical_named}
use Rattle.vab_model.specs.Plans.{entry_named, bytes_named, images_of, with_entries}
use Rattle.vab_model.specs.Staged.{is_sparse}
use Rattle.vab_device.specs.Mounted.{Mounted, in_state}

-- the bytes of a source's image of this base name; none where there is no such image
abbrev pub source_bytes : State → (source : ℕ) → List ℕ → List ℕ
source_bytes s source name = bytes_named name (images_of s source)

-- block i of an image, with zeros behind its end, isn't the source's, or the source has none
abbrev pub is_other : List ℕ → List ℕ → ℕ → Bool
is_other source staged i =
    not (nat_lt i (length source / 4096)
    && bytes_eq (field source (4096 * i) 4096) (block_of staged i))

-- how many chunks of so many blocks differ
abbrev pub differences : Chunk → List ℕ → List ℕ → ℕ → ℕ
differences k source staged blocks =
    length (differing_chunks k (is_other source staged) blocks)

-- the staged bytes, with zeros behind their end
abbrev pub filled : List ℕ → ℕ → List ℕ
filled staged blocks = flat_map (block_of staged) (range_with_len 0 blocks)

-- the entries with this image under a base name
abbrev pub with_image : List ℕ → PlanImage → List PlanEntry → List PlanEntry
with_image name image plan =
    map {A = PlanEntry}
    (λ e. if bytes_eq e.name name then record e { image = image } else e) plan

-- the image of an entry, and how many exceptions its store has
abbrev pub flashed : Mounted → (source : ℕ) → Plan → PlanEntry → List ℕ → ℕ → Effect Mounted
flashed m source plan e staged n = does replies.Done (record m {
  state = record m.state {
    phase =
        Installing source
        (with_entries plan
        (with_image e.name (Written (filled staged e.blocks) n) plan.entries));
  };
})

-- a store of so many blocks takes that many exceptions, in chunks of this size, or is full
abbrev pub if_room : Mounted → (source : ℕ) → Plan → PlanEntry → (store : ℕ) → Chunk → List ℕ
    → ℕ
    → Effect Mounted
if_room m source plan e store k staged n =
    if nat_le (need_at n k) store
    then wanting true (flashed m source plan e staged n)
    else refuses (refusals.StoreFull (need_at n k) store)

-- the staged bytes in a store, of whose chunks those are written that differ from the source's
abbrev pub in_store : Mounted → (source : ℕ) → Plan → PlanEntry → (store : ℕ) → Chunk → List ℕ
    → Effect Mounted
in_store m source plan e store k staged =
    if_room m source plan e store k staged
    (differences k (source_bytes m.state source e.name) staged e.blocks)

-- the staged bytes in the entry's own blocks
abbrev pub in_place : Mounted → (source : ℕ) → Plan → PlanEntry → List ℕ → Effect Mounted
in_place m source plan e staged = flashed m source plan e staged 0

abbrev pub staged_effect : PlanEntry → (List ℕ → Effect Mounted) → Option (List ℕ)
    → Effect Mounted
staged_effect e place None = refuses refusals.NothingStaged
staged_effect e place (Some staged) =
    if is_sparse staged then refuses refusals.Sparse
    else if nat_lt (4096 * e.blocks) (length staged)
    then refuses (refusals.TooLarge (length staged) (4096 * e.blocks))
    else place staged

-- nothing was written to the entry
abbrev pub unwritten_effect : PlanImage → Effect Mounted → Effect Mounted
unwritten_effect Kept next = next
unwritten_effect Declared next = next
unwritten_effect (Written bytes count) next = refuses refusals.Written

abbrev pub placed_effect : Mounted → (source : ℕ) → Plan → PlanEntry → Chunk → Option (List ℕ)
    → Option ℕ
    → Effect Mounted
placed_effect m source plan e k staged None =
    if plan.apart
    then unwritten_effect e.image (staged_effect e (in_place m source plan e) staged)
    else refuses refusals.NoStore
placed_effect m source plan e k staged (Some store) =
    unwritten_effect e.image (staged_effect e (in_store m source plan e store k) staged)

abbrev pub entry_effect : Mounted → (source : ℕ) → Plan → Chunk → Option (List ℕ)
    → Option PlanEntry
    → Effect Mounted
entry_effect m source plan k staged None = refuses refusals.Unknown
entry_effect m source plan k staged (Some e) = placed_effect m source plan e k staged e.store

-- the staged bytes become what a physical partition of the target holds
abbrev pub physical_effect : Mounted → (target : ℕ) → Option (List ℕ) → Option Physical
    → Effect Mounted
physical_effect m target staged p =
    effect_map (in_state m) (flash_physical m.state staged target p)

-- of the target's partition of this base name, a physical one or one of the plan
abbrev pub named_effect : Mounted → (source : ℕ) → Plan → Chunk → Option (List ℕ) → List ℕ
    → Effect Mounted
named_effect m source plan k staged base =
    if is_physical base m.state.physical
    then physical_effect m (other_slot source) staged (physical_named base m.state.physical)
    else entry_effect m source plan k staged (entry_named base plan.entries)

-- the staged bytes become the image of a partition, in a store whose chunks have this size, or,
-- where the target stands apart, in place
abbrev pub flash_effect : Mounted → Option (List ℕ) → List ℕ → Chunk → Phase → Effect Mounted
flash_effect m staged name k (Installing source plan) =
    if is_full (other_slot source) name
    then named_effect m source plan k staged (base_of name)
    else refuses refusals.BadName
flash_effect m staged name k _ = refuses refusals.NotInstalling
