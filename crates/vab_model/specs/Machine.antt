-- The machine: of each command the reply, the states that follow one another, none for a refusal or
-- a question, and whether memory may be refused in place of that. Refusals are tried in the order
-- in which a row has them. It leaves out what a disk alone decides: that a table is full, which is
-- the last, and that the geometry or the block device of a wipe's image is another.
use Rattle.std.specs.Prelude.{ℕ, zero, suc, ◌+◌, ◌-◌, ◌*◌, ◌^◌, ◌==◌, nat_lt, nat_le, Bool}
use Rattle.std.specs.Prelude.{true, false, not, ◌&&◌, ◌||◌, if◌then◌else◌, List, [], ◌∷◌, ◌++◌}
use Rattle.std.specs.Prelude.{length, map, Option, Some, None, is_some}
use Rattle.std.specs.Ordering.{is_lt, nat_cmp}
use Rattle.std.specs.Cmp.Lexicographic.{slice_cmp}
use Rattle.vab_bootctl.specs.Boot.{info_at, activated_of, booted_of, marked_of}
use Rattle.vab_names.specs.Names.{is_full, base_of, most_partitions}
use Rattle.vab_space.specs.declared.Chunk.{Chunk}
use Rattle.vab_space.specs.Space.{blocks_of}
use Rattle.vab_space.specs.Chunks.{need_at}
use Rattle.vab_model.specs.declared.state.Image.{Image}
use Rattle.vab_model.specs.declared.state.PlanImage.{PlanImage}
use Rattle.vab_model.specs.declared.state.PlanImage.TheVariants.{Kept, Declared, Written}
use Rattle.vab_model.specs.declared.state.PlanEntry.{PlanEntry}
use Rattle.vab_model.specs.declared.state.Plan.{Plan}
use Rattle.vab_model.specs.declared.state.Phase.{Phase}
use Rattle.vab_model.specs.declared.state.Phase.TheVariants.{Idle, Installing, Staged, Merging}
use Rattle.vab_model.specs.declared.state.Physical.{Physical}
use Rattle.vab_model.specs.declared.state.State.{State}
use Rattle.vab_model.specs.declared.command.Refusal.{Refusal}
use Rattle.vab_model.specs.declared.command.Refusal.TheVariants as refusals
use Rattle.vab_model.specs.declared.command.Reply.{Reply}
use Rattle.vab_model.specs.declared.command.Reply.TheVariants as replies
use Rattle.vab_model.specs.Commands.{Command, SetActive, Boot, Mark, Print, Digest, Begin, Create}
use Rattle.vab_model.specs.Commands.{Resize, Delete, Snapshot, Flash, Finish, Cancel, BeginMerge}
use Rattle.vab_model.specs.Commands.{Merge, Factory, UpdateSuper, Overlay, OverlayWrite}
use Rattle.vab_model.specs.Commands.{OverlayDiscard, Keep}
use Rattle.vab_model.specs.Effects.{Effect, refuses, does, wanting, active_effect, found_of}
use Rattle.vab_model.specs.Effects.{if_plain}
use Rattle.vab_model.specs.Effects.{print_effect, digest_effect}
use Rattle.vab_model.specs.State.{images_at, has_images, with_control, control_seen}
pub use Rattle.vab_model.specs.State.{with_images}
use Rattle.vab_model.specs.Plans.{other_slot, images_of, bytes_named, in_use, group_bytes}
use Rattle.vab_model.specs.Plans.{limit_of, is_within, entry_named, is_planned, at_entry}
use Rattle.vab_model.specs.Plans.{begun_plan, with_entries, first_group, created_entry}
use Rattle.vab_model.specs.Plans.{resized_entry, stored_entry, written_entry, without_entry}
use Rattle.vab_model.specs.Physical.{held_by, physical_named, is_physical, with_held, all_blank}
use Rattle.vab_model.specs.Staged.{is_sparse, filled, differences}
use Rattle.vab_model.specs.Wipe.{wipe_effect, no_judge, wiped}
use Rattle.vab_model.specs.Overlay.{overlay_row, write_row, discard_row}

-- ---- refusals, each in its place

-- this refusal, unless a test holds
abbrev pub unless : Bool → Refusal → Effect State → Effect State
unless true refusal next = next
unless false refusal next = refuses refusal

-- an update is installed
abbrev pub if_installing : Phase → ((source : ℕ) → Plan → Effect State) → Effect State
if_installing (Installing source plan) row = row source plan
if_installing _ row = refuses refusals.NotInstalling

-- the entry is planned
abbrev pub if_planned : Option PlanEntry → (PlanEntry → Effect State) → Effect State
if_planned None row = refuses refusals.Unknown
if_planned (Some e) row = row e

-- an update from this source has this plan
abbrev pub planned : State → (source : ℕ) → Plan → Effect State
planned s source plan =
    wanting true (does replies.Done (record s { phase = Installing source plan }))

-- the same, where there is room for it
abbrev pub if_room : State → (source : ℕ) → Plan → Effect State
if_room s source plan =
    unless (nat_le (in_use (images_of s source) plan) s.cap)
    (refusals.NoRoom (in_use (images_of s source) plan) s.cap)
    (planned s source plan)

-- the same, where the limit of this group isn't passed either
abbrev pub if_within : State → (source : ℕ) → Option (List ℕ) → Plan → Effect State
if_within s source group plan =
    unless (is_within (group_bytes group plan.entries) (limit_of s.groups group))
    (refusals.GroupLimit (group_bytes group plan.entries) (limit_of s.groups group))
    (if_room s source plan)

-- ---- begin

abbrev pub begun : State → (apart : Bool) → Option (List Image) → Effect State
begun s apart None = refuses refusals.NoImages
begun s apart (Some images) = planned s s.control.current (begun_plan apart images)

-- from the current slot, which has images
abbrev pub begin_row : State → (apart : Bool) → Phase → Effect State
begin_row s apart Idle = begun s apart (images_at s s.control.current)
begin_row s apart _ = refuses refusals.NotIdle

-- ---- edits

-- an entry was flashed
abbrev pub is_written : PlanImage → Bool
is_written (Written bytes exceptions) = true
is_written _ = false

-- in a factory install it is written in place, and its blocks stay
abbrev pub is_settled : Plan → PlanEntry → Bool
is_settled plan e = plan.apart && is_written e.image

-- the target has a partition of this base name
abbrev pub has_name : State → List ℕ → Plan → Bool
has_name s base plan = is_physical base s.physical || is_planned base plan.entries

-- what an edit makes of a logical partition of the target, of this base name
abbrev pub if_logical : State → List ℕ → Plan → (PlanEntry → Effect State) → Effect State
if_logical s base plan row =
    unless (not (is_physical base s.physical)) refusals.Physical
    (if_planned (entry_named base plan.entries) row)

abbrev pub create_row : State → List ℕ → (size source : ℕ) → Plan → Effect State
create_row s name size source plan =
    unless (is_full (other_slot source) name) refusals.BadName
    (unless (nat_le size (2 ^ 40)) refusals.BadSize
    (unless (not (has_name s (base_of name) plan)) refusals.Exists
    (unless (nat_lt (length s.physical + length plan.entries) most_partitions) refusals.TooMany
    (if_within s source (first_group s.groups)
    (with_entries plan (plan.entries ++ created_entry s.groups (base_of name) size ∷ []))))))

abbrev pub resize_row : State → List ℕ → (size source : ℕ) → Plan → Effect State
resize_row s name size source plan =
    unless (is_full (other_slot source) name) refusals.BadName
    (unless (nat_le size (2 ^ 40)) refusals.BadSize
    (if_logical s (base_of name) plan (λ e.
    unless (not (is_some e.store)) refusals.HasStore
    (unless (not (is_settled plan e)) refusals.Written
    (if_within s source e.group
    (with_entries plan
    (at_entry (base_of name) (resized_entry (blocks_of size)) plan.entries)))))))

abbrev pub delete_row : State → List ℕ → (source : ℕ) → Plan → Effect State
delete_row s name source plan =
    unless (is_full (other_slot source) name) refusals.BadName
    (if_logical s (base_of name) plan (λ e.
    unless (not (is_some e.store)) refusals.HasStore
    (unless (not (is_settled plan e)) refusals.Written
    (planned s source (with_entries plan (without_entry (base_of name) plan.entries))))))

-- a store of 0 bytes is of the size that it may need; another has two blocks at least
abbrev pub snapshot_row : State → List ℕ → (size source : ℕ) → Plan → Effect State
snapshot_row s name size source plan =
    unless (not plan.apart) refusals.InPlace
    (unless (is_full (other_slot source) name) refusals.BadName
    (unless (nat_le size (2 ^ 40) && (size == 0 || nat_lt 1 (blocks_of size))) refusals.BadSize
    (if_logical s (base_of name) plan (λ e.
    unless (not (is_some e.store)) refusals.HasStore
    (if_room s source
    (with_entries plan (at_entry (base_of name) (stored_entry size) plan.entries)))))))

-- ---- flash

-- the plan with this image of an entry, whose store has so many exceptions
abbrev pub with_image : Plan → PlanEntry → List ℕ → ℕ → Plan
with_image plan e image n =
    with_entries plan (at_entry e.name (written_entry image n) plan.entries)

-- this image, of which so many chunks differ, where the store has room for them
abbrev pub if_stored : State → (source : ℕ) → Plan → PlanEntry → Chunk → (store : ℕ) → List ℕ
    → ℕ → Effect State
if_stored s source plan e k store image n =
    unless (nat_le (need_at n k) store) (refusals.StoreFull (need_at n k) store)
    (planned s source (with_image plan e image n))

-- an image in a store whose chunks have this size
abbrev pub in_store : State → (source : ℕ) → Plan → PlanEntry → Chunk → (store : ℕ) → List ℕ
    → Effect State
in_store s source plan e k store image =
    if_stored s source plan e k store image
    (differences k (bytes_named e.name (images_of s source)) image e.blocks)

-- an image in the entry's own blocks, for which no memory is taken
abbrev pub in_place : State → (source : ℕ) → Plan → PlanEntry → List ℕ → Effect State
in_place s source plan e image = wanting false (planned s source (with_image plan e image 0))

-- the staged bytes as the entry's image, where nothing was written to it yet
abbrev pub flash_staged : PlanEntry → (List ℕ → Effect State) → Option (List ℕ) → Effect State
flash_staged e place None = refuses refusals.NothingStaged
flash_staged e place (Some staged) =
    unless (not (is_sparse staged)) refusals.Sparse
    (unless (nat_le (length staged) (4096 * e.blocks))
    (refusals.TooLarge (length staged) (4096 * e.blocks))
    (place (filled staged e.blocks)))

abbrev pub flash_unwritten : PlanEntry → (List ℕ → Effect State) → Option (List ℕ)
    → Effect State
flash_unwritten e place staged =
    unless (not (is_written e.image)) refusals.Written (flash_staged e place staged)

abbrev pub flash_entry : State → (source : ℕ) → Plan → Option (List ℕ) → PlanEntry → Chunk
    → Option ℕ → Effect State
flash_entry s source plan staged e k None =
    unless plan.apart refusals.NoStore (flash_unwritten e (in_place s source plan e) staged)
flash_entry s source plan staged e k (Some store) =
    flash_unwritten e (in_store s source plan e k store) staged

-- a physical partition as an entry, which is written or not
abbrev pub physical_entry : Physical → Option (List ℕ) → PlanEntry
physical_entry p held = record {
  name = p.name;
  group = None;
  blocks = p.blocks;
  store = None;
  image = if is_some held then Written [] 0 else Declared;
}

-- the staged bytes as what the target's physical partition holds, for which no memory is taken
abbrev pub flash_physical : State → Option (List ℕ) → (target : ℕ) → Option Physical
    → Effect State
flash_physical s staged target None = refuses refusals.Unknown
flash_physical s staged target (Some p) =
    flash_unwritten (physical_entry p (held_by target p))
    (λ image. does replies.Done (with_held s target p.name image))
    staged

-- in its store, or in a factory install in its own blocks; or of a physical partition
abbrev pub flash_row : State → Option (List ℕ) → List ℕ → Chunk → (source : ℕ) → Plan
    → Effect State
flash_row s staged name k source plan =
    unless (is_full (other_slot source) name) refusals.BadName
    (if is_physical (base_of name) s.physical
    then flash_physical s staged (other_slot source) (physical_named (base_of name) s.physical)
    else if_planned (entry_named (base_of name) plan.entries) (λ e.
    flash_entry s source plan staged e k e.store))

-- ---- keep

-- what the source's physical partition holds, as what the target's does
abbrev pub keep_held : State → (target : ℕ) → Physical → Option (List ℕ) → Effect State
keep_held s target p None = refuses refusals.NoImages
keep_held s target p (Some bytes) = does replies.Done (with_held s target p.name bytes)

-- of a physical partition, or of one of the plan or none
abbrev pub keep_physical : State → (source : ℕ) → (planned : Bool) → Option Physical
    → Effect State
keep_physical s source planned None =
    unless planned refusals.Unknown (refuses refusals.NotPhysical)
keep_physical s source planned (Some p) =
    unless (not (is_some (held_by (other_slot source) p))) refusals.Written
    (keep_held s (other_slot source) p (held_by source p))

-- it takes no memory
abbrev pub keep_row : State → List ℕ → (source : ℕ) → Plan → Effect State
keep_row s name source plan =
    unless (is_full (other_slot source) name) refusals.BadName
    (keep_physical s source (is_planned (base_of name) plan.entries)
    (physical_named (base_of name) s.physical))

-- ---- finish

-- the lesser of two names, byte by byte
abbrev pub lesser : Option (List ℕ) → List ℕ → Option (List ℕ)
lesser None name = Some name
lesser (Some least) name = if is_lt (slice_cmp nat_cmp name least) then Some name else Some least

abbrev pub declared_name : Option (List ℕ) → List ℕ → PlanImage → Option (List ℕ)
declared_name least name Declared = lesser least name
declared_name least name _ = least

-- the least name of an entry that is declared and not written, and this one
abbrev pub least_declared : Option (List ℕ) → List PlanEntry → Option (List ℕ)
least_declared least [] = least
least_declared least (e ∷ es) = least_declared (declared_name least e.name e.image) es

-- the least name of a physical partition of this slot that holds nothing that counts, and this one
abbrev pub least_blank : (slot : ℕ) → Option (List ℕ) → List Physical → Option (List ℕ)
least_blank slot least [] = least
least_blank slot least (p ∷ ps) =
    least_blank slot (if is_some (held_by slot p) then least else lesser least p.name) ps

-- the least name of a partition of the target that isn't written
abbrev pub least_missing : State → (source : ℕ) → Plan → Option (List ℕ)
least_missing s source plan =
    least_declared (least_blank (other_slot source) None s.physical) plan.entries

-- the exceptions of all stores
abbrev pub exceptions_of : PlanImage → ℕ
exceptions_of (Written bytes exceptions) = exceptions
exceptions_of _ = 0

abbrev pub exceptions_in : List PlanEntry → ℕ
exceptions_in [] = 0
exceptions_in (e ∷ es) = exceptions_of e.image + exceptions_in es

-- a kept image is the source's
abbrev pub final_bytes : (source : List Image) → List ℕ → PlanImage → List ℕ
final_bytes source name Kept = bytes_named name source
final_bytes source name Declared = []
final_bytes source name (Written bytes exceptions) = bytes

abbrev pub final_image : (source : List Image) → PlanEntry → Image
final_image source e = record {
  name = e.name;
  group = e.group;
  bytes = final_bytes source e.name e.image;
}

-- The target has the plan's images. What boot control says of it stays: zeros, as of each slot that
-- had none.
abbrev pub finished : State → (source : ℕ) → Plan → State
finished s source plan =
    record
    (with_images s (other_slot source) (map (final_image (images_of s source)) plan.entries))
    { phase = Staged source (exceptions_in plan.entries) }

abbrev pub if_complete : Option (List ℕ) → Effect State → Effect State
if_complete None next = next
if_complete (Some name) next = refuses (refusals.Incomplete name)

abbrev pub finish_row : State → (source : ℕ) → Plan → Effect State
finish_row s source plan =
    if_complete (least_missing s source plan) (does replies.Done (finished s source plan))

-- ---- cancel, begin-merge, merge

-- a slot has no images any more, and boot control says zeros of it
abbrev pub dropped : State → Option (List Image) → Option (List Image) → State
dropped s a b = record s {
  a = a;
  b = b;
  control = control_seen (is_some a) (is_some b) s.control;
}

abbrev pub without_images : State → (slot : ℕ) → State
without_images s slot =
    record
    (dropped s (if slot == 0 then None else s.a) (if slot == 0 then s.b else None))
    { physical = all_blank slot s.physical }

abbrev pub cancelled : State → (source : ℕ) → State
cancelled s source = record (without_images s (other_slot source)) { phase = Idle }

abbrev pub cancel_row : State → Phase → Effect State
cancel_row s Idle = refuses refusals.NothingToCancel
cancel_row s (Installing source plan) = does replies.Done (cancelled s source)
cancel_row s (Staged source left) =
    unless (s.control.current == source) refusals.RunningTarget
    (does replies.Done (cancelled s source))
cancel_row s (Merging target left) = refuses refusals.Merging

abbrev pub merging_from : State → (source left : ℕ) → State
merging_from s source left =
    record (without_images s source) { phase = Merging (other_slot source) left }

abbrev pub begin_merge_row : State → Phase → Effect State
begin_merge_row s (Staged source left) =
    unless (not (s.control.current == source)) refusals.NotRunningTarget
    (unless (info_at s.control (other_slot source)).successful refusals.NotSuccessful
    (does replies.Done (merging_from s source left)))
begin_merge_row s _ = refuses refusals.NotStaged

-- the states after each of so many turns: an exception less each, and Idle behind the last
unfoldable pub turns : (count : ℕ) → State → (target left : ℕ) → List State
turns zero s target left = []
turns (suc n) s target zero = record s { phase = Idle } ∷ []
turns (suc n) s target (suc left) =
    record s { phase = Merging target left } ∷ turns n s target left

-- how many are left after so many turns, or that the update is merged
abbrev pub merge_reply : (count left : ℕ) → Reply
merge_reply count left =
    if nat_le count left then replies.Left (left - count) else replies.Merged

abbrev pub merge_row : State → (count : ℕ) → Phase → Effect State
merge_row s count (Merging target left) = record {
  reply = merge_reply count left;
  later = turns count s target left;
  wants = false;
}
merge_row s count _ = refuses refusals.NotMerging

-- ---- the table

-- where these bytes are staged
unfoldable pub machine_effect : State → Option (List ℕ) → Command → Effect State
machine_effect s staged (SetActive slot) =
    active_effect (is_some (images_at s slot)) s (activated_of s.control slot)
machine_effect s staged Boot =
    let c = booted_of s.control (has_images s) in
    does (replies.Booted c.current) (with_control c s)
machine_effect s staged Mark = does replies.Done (with_control (marked_of s.control) s)
machine_effect s staged (Print name) = print_effect name (found_of s name)
machine_effect s staged (Digest name) = digest_effect (found_of s name)
machine_effect s staged Begin = if_plain s.overlay (begin_row s false s.phase)
machine_effect s staged Factory = if_plain s.overlay (begin_row s true s.phase)
machine_effect s staged (Create name size) = if_installing s.phase (create_row s name size)
machine_effect s staged (Resize name size) = if_installing s.phase (resize_row s name size)
machine_effect s staged (Delete name) = if_installing s.phase (delete_row s name)
machine_effect s staged (Snapshot name size) = if_installing s.phase (snapshot_row s name size)
machine_effect s staged (Flash name chunk) =
    if_installing s.phase (flash_row s staged name chunk)
machine_effect s staged (Keep name) = if_installing s.phase (keep_row s name)
machine_effect s staged Finish = if_installing s.phase (finish_row s)
machine_effect s staged Cancel = cancel_row s s.phase
machine_effect s staged BeginMerge = begin_merge_row s s.phase
machine_effect s staged (Merge count) = merge_row s count s.phase
machine_effect s staged UpdateSuper =
    if_plain s.overlay
    (wipe_effect no_judge no_judge (wiped s s.control.current) s.control.current staged s.phase)
machine_effect s staged (Overlay name size) = overlay_row s name size
machine_effect s staged (OverlayWrite block) = write_row s staged block s.overlay
machine_effect s staged OverlayDiscard = discard_row s s.overlay
