-- What commands make of a device: the begin of an update, the edits of its target's table, the end
-- of its installation, its cancelling, its merge, and the wipe of `super`.
use Rattle.std.specs.Prelude.{ℕ, ◌==◌, Bool, true, false, not, ◌&&◌, nat_le}
use Rattle.std.specs.Prelude.{if◌then◌else◌, List, [], length, map, Option, Some, None, ◌^◌}
use Rattle.std.specs.Prelude.{is_some}
use Rattle.std.specs.Prelude.{option_map, Result, Ok, Err}
use Rattle.vab_names.specs.Names.{is_full, base_of, store_of}
use Rattle.vab_geometry.specs.declared.geometry.Geometry.{Geometry}
use Rattle.vab_tables.specs.Spelling.{table_size_of}
use Rattle.vab_layout.specs.declared.layout.Part.{Part as PartOfLayout}
use Rattle.vab_layout.specs.declared.layout.Layout.{Layout}
use Rattle.vab_layout.specs.Layout.{layout_of}
use Rattle.vab_layout.specs.Plain.{plain}
use Rattle.vab_layout.specs.Slots.{other_slot, own_parts, is_updated, twins_by}
use Rattle.vab_partitions.specs.Twins.{is_device}
use Rattle.vab_super_image.specs.declared.image.SuperImage.{SuperImage}
use Rattle.vab_super_image.specs.SuperImage.{wiped as wiped_table, wiped_layout}
use Rattle.vab_builder.specs.declared.fault.EditFault.{EditFault}
use Rattle.vab_builder.specs.declared.fault.EditFault.TheVariants as faults
use Rattle.vab_builder.specs.Import.{imported_by}
use Rattle.vab_builder.specs.Edits.{created, resized, deleted, stored, fitting, if_fitting}
use Rattle.vab_builder.specs.Overlay.{with_overlay as table_over}
use Rattle.vab_model.specs.declared.state.Image.{Image as ImageOfSlot}
use Rattle.vab_model.specs.declared.state.PlanImage.{PlanImage}
use Rattle.vab_model.specs.declared.state.PlanImage.TheVariants.{Kept, Declared, Written}
use Rattle.vab_model.specs.declared.state.PlanEntry.{PlanEntry}
use Rattle.vab_model.specs.declared.state.Plan.{Plan}
use Rattle.vab_model.specs.declared.state.Phase.{Phase}
use Rattle.vab_model.specs.declared.state.Phase.TheVariants.{Idle, Installing, Staged, Merging}
use Rattle.vab_model.specs.declared.state.State.{State}
use Rattle.vab_model.specs.declared.command.Refusal.{Refusal}
use Rattle.vab_model.specs.declared.command.Refusal.TheVariants as refusals
use Rattle.vab_model.specs.declared.command.Reply.TheVariants as replies
use Rattle.vab_model.specs.Commands.{Command, SetActive, Boot, Mark, Print, Digest, Begin, Create}
use Rattle.vab_model.specs.Commands.{Resize, Delete, Snapshot, Flash, Finish, Cancel, BeginMerge}
use Rattle.vab_model.specs.Commands.{Merge, Factory, UpdateSuper, Overlay, OverlayWrite}
use Rattle.vab_model.specs.Commands.{OverlayDiscard, Keep}
use Rattle.vab_model.specs.Effects.{Effect, refuses, does, wanting, effect_map, if_plain}
use Rattle.vab_model.specs.Plans.{entry_named, images_of, with_entries}
use Rattle.vab_model.specs.Machine.{is_settled, least_missing, if_complete}
use Rattle.vab_model.specs.Machine.{final_image as image_of}
use Rattle.vab_model.specs.Machine.{finished as finished_state, cancelled as cancelled_state}
use Rattle.vab_model.specs.Machine.{merging_from as merging_state}
use Rattle.vab_model.specs.Machine.{cancel_row, begin_merge_row, merge_row, turns as turns_of}
use Rattle.vab_model.specs.Wipe.{Judge, wipe_effect, wiped as wiped_state}
use Rattle.vab_model.specs.Over.{blank_overlay}
use Rattle.vab_model.specs.Overlay.{overlay_effect, with_overlay}
use Rattle.vab_device.specs.Kept.{group_of}
use Rattle.vab_device.specs.Mounted.{Mounted, Places, in_state, effect_in}
use Rattle.vab_device.specs.Stores.{first_named}

-- ---- the plan of a target's table

-- the image of a partition, by whether it is updated, and what was written to it
abbrev pub image_or : Bool → Option PlanImage → PlanImage
image_or false written = Kept
image_or true None = Declared
image_or true (Some image) = image

-- what was written to a partition, where something was
abbrev pub if_written : PlanImage → Option PlanImage
if_written (Written bytes count) = Some (Written bytes count)
if_written _ = None

abbrev pub written_of : Option PlanEntry → Option PlanImage
written_of None = None
written_of (Some e) = if_written e.image

-- the entry of a partition of the table, with what this plan has written to it
abbrev pub entry_by : Layout → List PlanEntry → PartOfLayout → PlanEntry
entry_by l plan p = record {
  name = base_of p.name;
  group = group_of p.group;
  blocks = length p.blocks;
  store = option_map (λ store. length store.blocks) (first_named (store_of p.name) l.parts);
  image = image_or (is_updated p) (written_of (entry_named (base_of p.name) plan));
}

-- the plan that the target's table has, with what this plan has written
abbrev pub plan_by : ℕ → Layout → List PlanEntry → List PlanEntry
plan_by target l plan = map (entry_by l plan) (own_parts target l.parts)

-- ---- situations

-- a state, and where its partitions stand
abbrev pub in_places : Places → State → Mounted
in_places places state = record { state = state; places = places }

-- the table of a slot, where one is read
abbrev pub layout_at : Places → ℕ → Option Layout
layout_at p slot = if slot == 0 then p.a else p.b

-- this table for a slot
abbrev pub with_layout : Places → ℕ → Option Layout → Places
with_layout p slot l = if slot == 0 then record p { a = l } else record p { b = l }

-- the plan that the target's new table has
abbrev pub replanned : (source : ℕ) → Plan → Layout → Plan
replanned source plan l = with_entries plan (plan_by (other_slot source) l plan.entries)

-- an update is installed, with this table of the target
abbrev pub installing_with : Mounted → (source : ℕ) → Plan → Layout → Mounted
installing_with m source plan l =
    in_places (with_layout m.places (other_slot source) (Some l))
    (record m.state { phase = Installing source (replanned source plan l) })

-- ---- refusals

abbrev pub refusal_of : EditFault → Refusal
refusal_of faults.BadName = refusals.BadName
refusal_of faults.BadSize = refusals.BadSize
refusal_of faults.Unknown = refusals.Unknown
refusal_of faults.Exists = refusals.Exists
refusal_of faults.HasStore = refusals.HasStore
refusal_of (faults.TooMany count) = refusals.TooMany
refusal_of (faults.GroupLimit used limit) = refusals.GroupLimit used limit
refusal_of (faults.NoRoom used cap) = refusals.NoRoom used cap
refusal_of (faults.TableFull size most) = refusals.TableFull size most
refusal_of faults.NoMemory = refusals.NoMemory

-- the text of a table is too long
abbrev pub is_full_table : EditFault → Bool
is_full_table (faults.TableFull size most) = true
is_full_table _ = false

-- In place of a new table, or of one that is full, memory may be refused.
abbrev pub wants_for : Result Layout EditFault → Bool
wants_for (Ok l) = true
wants_for (Err fault) = is_full_table fault

-- the target's new table, or why there is none
abbrev pub table_effect : Mounted
    → (source : ℕ)
    → Plan
    → Result Layout EditFault
    → Effect Mounted
table_effect m source plan (Ok l) =
    wanting true (does replies.Done (installing_with m source plan l))
table_effect m source plan (Err fault) =
    wanting (is_full_table fault) (refuses (refusal_of fault))

-- ---- the begin of an update

-- nothing is written to a target yet
abbrev pub no_entries : (apart : Bool) → Plan
no_entries apart = record { apart = apart; entries = [] }

-- from the current slot, whose table this is; the target stands apart or not
abbrev pub begun_effect : Mounted → (apart : Bool) → (source : ℕ) → Option Layout
    → Effect Mounted
begun_effect m apart source None = refuses refusals.NoImages
begun_effect m apart source (Some l) =
    table_effect m source (no_entries apart)
    (fitting m.places.geometry.max (imported_by apart source l))

abbrev pub begin_effect : Mounted → (apart : Bool) → Phase → Effect Mounted
begin_effect m apart Idle =
    begun_effect m apart m.state.control.current
    (layout_at m.places m.state.control.current)
begin_effect m apart _ = refuses refusals.NotIdle

-- ---- edits

-- what an edit of the target's table gives, where the target stands apart or not: the slot of the
-- target, the source's table and the target's
abbrev pub EditOf : Type 0
EditOf = (apart : Bool) → ℕ → Layout → Layout → Result Layout EditFault

abbrev pub edited_effect : Mounted
    → (source : ℕ)
    → Plan
    → EditOf
    → Option Layout
    → Option Layout
    → Effect Mounted
edited_effect m source plan edit None t = refuses refusals.NotInstalling
edited_effect m source plan edit (Some s) None = refuses refusals.NotInstalling
edited_effect m source plan edit (Some s) (Some t) =
    table_effect m source plan
    (if_fitting m.places.geometry.max (edit plan.apart (other_slot source) s t))

-- what keeps an edit from the plan of an update from this source
abbrev pub Guard : Type 0
Guard = (source : ℕ) → Plan → Option Refusal

abbrev pub unless_kept : Option Refusal → Effect Mounted → Effect Mounted
unless_kept None next = next
unless_kept (Some refusal) next = refuses refusal

abbrev pub edit_effect : Mounted → Guard → EditOf → Phase → Effect Mounted
edit_effect m guard edit (Installing source plan) =
    unless_kept (guard source plan)
    (edited_effect m source plan edit
    (layout_at m.places source)
    (layout_at m.places (other_slot source)))
edit_effect m guard edit _ = refuses refusals.NotInstalling

-- the edits
abbrev pub create_edit : List ℕ → ℕ → EditOf
create_edit name size apart target s t =
    created target (twins_by apart s.parts) s t name size

abbrev pub resize_edit : List ℕ → ℕ → EditOf
resize_edit name size apart target s t =
    resized target (twins_by apart s.parts) s t name size

abbrev pub delete_edit : List ℕ → EditOf
delete_edit name apart target s t = deleted target t name

abbrev pub snapshot_edit : List ℕ → ℕ → EditOf
snapshot_edit name size apart target s t =
    stored target (twins_by apart s.parts) s t name size

-- ---- what keeps them from a plan

-- nothing does
abbrev pub no_guard : Guard
no_guard source plan = None

-- the entry has no store, and is written in place
abbrev pub is_settled_in : Plan → Option PlanEntry → Bool
is_settled_in plan None = false
is_settled_in plan (Some e) = not (is_some e.store) && is_settled plan e

-- an edit of a partition of this whole name, which passes so far: its image was written in place
abbrev pub settled_guard : (passes : Bool) → List ℕ → Guard
settled_guard passes name source plan =
    if is_full (other_slot source) name && passes
    && is_settled_in plan (entry_named (base_of name) plan.entries)
    then Some refusals.Written
    else None

-- a target that stands apart has no stores
abbrev pub store_guard : Guard
store_guard source plan = if plan.apart then Some refusals.InPlace else None

-- ---- an update that is dropped

-- no update any more from this source
abbrev pub cancelled : Mounted → (source : ℕ) → Mounted
cancelled m source =
    in_places (with_layout m.places (other_slot source) None) (cancelled_state m.state source)

-- its target's table isn't read any more
abbrev pub cancelled_places : Places → Phase → Places
cancelled_places p (Installing source plan) = with_layout p (other_slot source) None
cancelled_places p (Staged source left) = with_layout p (other_slot source) None
cancelled_places p _ = p

abbrev pub cancel_effect : Mounted → Phase → Effect Mounted
cancel_effect m phase =
    effect_map (in_places (cancelled_places m.places phase)) (cancel_row m.state phase)

-- ---- an update that is ready

-- the image that a partition has in the end: the source's, or what was written
abbrev pub final_image : State → (source : ℕ) → PlanEntry → ImageOfSlot
final_image s source e = image_of (images_of s source) e

-- the target's table is that of a slot with images
abbrev pub with_target : Mounted → (source : ℕ) → Places
with_target m source =
    with_layout m.places (other_slot source)
    (option_map (plain (other_slot source)) (layout_at m.places (other_slot source)))

-- The target has the images of its plan, and may be set active.
abbrev pub finished : Mounted → (source : ℕ) → Plan → Mounted
finished m source plan = in_places (with_target m source) (finished_state m.state source plan)

abbrev pub complete_effect : Mounted
    → (source : ℕ)
    → Plan
    → Option (List ℕ)
    → Effect Mounted
complete_effect m source plan least =
    effect_map (in_places (with_target m source))
    (if_complete least (does replies.Done (finished_state m.state source plan)))

abbrev pub finish_effect : Mounted → Phase → Effect Mounted
finish_effect m (Installing source plan) =
    complete_effect m source plan (least_missing m.state source plan)
finish_effect m _ = refuses refusals.NotInstalling

-- ---- a merge that begins

-- The images of the source are given up, and so many exceptions of the target's stores are left to
-- merge.
abbrev pub merging_from : Mounted → (source left : ℕ) → Mounted
merging_from m source left =
    in_places (with_layout m.places source None) (merging_state m.state source left)

-- the source's table isn't read any more
abbrev pub merging_places : Places → Phase → Places
merging_places p (Staged source left) = with_layout p source None
merging_places p _ = p

abbrev pub begin_merge_effect : Mounted → Phase → Effect Mounted
begin_merge_effect m phase =
    effect_map (in_places (merging_places m.places phase)) (begin_merge_row m.state phase)

-- ---- its turns

-- an exception less is left
abbrev pub merged_to : Mounted → (target left : ℕ) → Mounted
merged_to m target left = in_state m (record m.state { phase = Merging target left })

-- none was left: there is no update any more
abbrev pub merge_ended : Mounted → Mounted
merge_ended m = in_state m (record m.state { phase = Idle })

-- The devices after each of so many turns, where so many exceptions are left: fewer only where
-- there is no update any more.
abbrev pub turns : (count : ℕ) → Mounted → (target left : ℕ) → List Mounted
turns count m target left = map (in_state m) (turns_of count m.state target left)

abbrev pub merge_effect : Mounted → (count : ℕ) → Phase → Effect Mounted
merge_effect m count phase = effect_map (in_state m) (merge_row m.state count phase)

-- ---- the wipe of `super`

-- its geometry is the device's
abbrev pub is_geometry : Geometry → Geometry → Bool
is_geometry g h = g.max == h.max && g.slots == h.slots

-- its block device is that of the slot's table
abbrev pub has_device : Option Layout → SuperImage → Bool
has_device None i = false
has_device (Some l) i = is_device l.device (layout_of i.table).device

-- why an image is none of this device's `super`
abbrev pub other_super : Places → (slot : ℕ) → Judge
other_super p slot i =
    if not (is_geometry p.geometry i.geometry) then Some refusals.OtherGeometry
    else (if not (has_device (layout_at p slot) i) then Some refusals.OtherDevice else None)

-- the text of the table that is left is too long
abbrev pub full_super : Places → Judge
full_super p i =
    if nat_le (table_size_of (wiped_table i.table)) p.geometry.max then None
    else Some (refusals.TableFull (table_size_of (wiped_table i.table)) p.geometry.max)

-- The slot has the partitions of the image, each empty, and the table that is left.
abbrev pub wiped : Mounted → (slot : ℕ) → SuperImage → Mounted
wiped m slot i =
    in_places
    (with_layout m.places slot (Some (plain slot (wiped_layout (layout_of i.table)))))
    (wiped_state m.state slot i)

abbrev pub update_super : Mounted → (slot : ℕ) → Option (List ℕ) → Phase → Effect Mounted
update_super m slot staged phase =
    wipe_effect (other_super m.places slot) (full_super m.places) (wiped m slot) slot staged phase

-- ---- an overlay

-- nothing is written yet to a store of so many blocks over an image, and the tables are read as
-- before
abbrev pub overlaid_over : Mounted → ImageOfSlot → (store : ℕ) → Mounted
overlaid_over m image store =
    in_state m (with_overlay m.state (Some (blank_overlay image store)))

-- the slot's table with the store, or why there is none
abbrev pub over_effect : Mounted
    → ImageOfSlot
    → (store : ℕ)
    → Result Layout EditFault
    → Effect Mounted
over_effect m image store (Ok l) = wanting true (does replies.Done (overlaid_over m image store))
over_effect m image store (Err fault) =
    wanting (is_full_table fault) (refuses (refusal_of fault))

abbrev pub over_table : Mounted
    → List ℕ
    → (slot : ℕ)
    → Option Layout
    → ImageOfSlot
    → (store : ℕ)
    → Effect Mounted
over_table m name slot None image store = refuses refusals.NoImages
over_table m name slot (Some l) image store =
    over_effect m image store (fitting m.places.geometry.max (table_over slot l name store))

-- of the current slot's partition of this whole name, with a store of so many bytes
abbrev pub overlay_begun : Mounted → List ℕ → (size : ℕ) → Phase → Effect Mounted
overlay_begun m name size phase =
    overlay_effect m.state
    (over_table m name m.state.control.current
    (layout_at m.places m.state.control.current))
    name size phase

-- ---- the table of effects

-- What a command makes of a device, where these bytes are staged: each command on an update has a
-- row of its own, and the others that of the machine.
abbrev pub effect_on : Mounted → Option (List ℕ) → Command → Effect Mounted
effect_on m staged Begin = if_plain m.state.overlay (begin_effect m false m.state.phase)
effect_on m staged Factory = if_plain m.state.overlay (begin_effect m true m.state.phase)
effect_on m staged (Create name size) =
    edit_effect m no_guard (create_edit name size) m.state.phase
effect_on m staged (Resize name size) =
    edit_effect m (settled_guard (nat_le size (2 ^ 40)) name) (resize_edit name size)
    m.state.phase
effect_on m staged (Delete name) =
    edit_effect m (settled_guard true name) (delete_edit name) m.state.phase
effect_on m staged (Snapshot name size) =
    edit_effect m store_guard (snapshot_edit name size) m.state.phase
effect_on m staged Cancel = cancel_effect m m.state.phase
effect_on m staged (Flash name k) = effect_in m staged (Flash name k)
effect_on m staged (Keep name) = effect_in m staged (Keep name)
effect_on m staged (SetActive slot) = effect_in m staged (SetActive slot)
effect_on m staged Boot = effect_in m staged Boot
effect_on m staged Mark = effect_in m staged Mark
effect_on m staged (Print name) = effect_in m staged (Print name)
effect_on m staged (Digest name) = effect_in m staged (Digest name)
effect_on m staged Finish = finish_effect m m.state.phase
effect_on m staged BeginMerge = begin_merge_effect m m.state.phase
effect_on m staged (Merge blocks) = merge_effect m blocks m.state.phase
effect_on m staged UpdateSuper =
    if_plain m.state.overlay (update_super m m.state.control.current staged m.state.phase)
effect_on m staged (Overlay name size) =
    if_plain m.state.overlay (overlay_begun m name size m.state.phase)
effect_on m staged (OverlayWrite block) = effect_in m staged (OverlayWrite block)
effect_on m staged OverlayDiscard = effect_in m staged OverlayDiscard
