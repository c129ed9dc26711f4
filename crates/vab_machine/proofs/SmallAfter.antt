-- The state after a command on a small state is small.
use Rattle.std.proofs.Common.{◌≡◌, ℕ, zero, suc, ◌+◌, ◌-◌, ◌*◌, ◌^◌, ◌≤◌, ◌<◌, Bool, true}
use Rattle.std.proofs.Common.{false}
use Rattle.std.proofs.Common.{List, [], ◌∷◌, ◌++◌, length, Option, Some, None, eqb, inl, inr, refl}
use Rattle.std.proofs.Common.{arith, length-append, cond}
use Rattle.std.specs.Prelude.{All, map, replicate, nat_le, nat_lt, not, is_some, ◌&&◌, ◌||◌, ◌==◌}
use Rattle.std.specs.List.{list_any}
use Rattle.std.specs.Str.{bytes_eq}
use Rattle.std.proofs.lemmas.Bool.{cases_Bool, eqb-true, leb-true, ltb-true, and_parts}
use Rattle.std.proofs.lemmas.List.{length-map, length-replicate}
use Rattle.std.proofs.lemmas.List.Elements.{All-map, All-weaker, All-head}
use Rattle.std.proofs.lemmas.List.Elements.{All-tail}
use Rattle.vab_bytes.proofs.NumberLaws.{length-put_at}
use Rattle.vab_bootctl.specs.declared.slots.Control.{Control}
use Rattle.vab_bootctl.specs.Boot.{info_at, activated_of, booted_of, marked_of}
use Rattle.vab_names.specs.Names.{is_full, base_of, most_partitions}
use Rattle.vab_space.specs.declared.Chunk.{Chunk}
use Rattle.vab_space.specs.Space.{blocks_of, need_of}
use Rattle.vab_space.specs.Chunks.{need_at}
use Rattle.vab_space.proofs.DifferingLaws.{differing_most}
use Rattle.vab_tables.specs.declared.table.Table.{Table}
use Rattle.vab_layout.specs.declared.layout.Part.{Part}
use Rattle.vab_layout.specs.Layout.{layout_of}
use Rattle.vab_layout.specs.Slots.{own_parts, IsOwnPart, IsOwn}
use Rattle.vab_super_image.specs.declared.image.SuperImage.{SuperImage}
use Rattle.vab_super_image.specs.SuperImage.{super_image_of, first_filled}
use Rattle.vab_model.specs.declared.state.Image.{Image}
use Rattle.vab_model.specs.declared.state.PlanImage.{PlanImage}
use Rattle.vab_model.specs.declared.state.PlanImage.TheVariants.{Kept, Declared, Written}
use Rattle.vab_model.specs.declared.state.PlanEntry.{PlanEntry}
use Rattle.vab_model.specs.declared.state.Plan.{Plan}
use Rattle.vab_model.specs.declared.state.Phase.{Phase}
use Rattle.vab_model.specs.declared.state.Phase.TheVariants.{Idle, Installing, Staged, Merging}
use Rattle.vab_model.specs.declared.state.Overlay.{Overlay as OverlayOf}
use Rattle.vab_model.specs.declared.state.Physical.{Physical}
use Rattle.vab_model.specs.declared.state.State.{State}
use Rattle.vab_model.specs.declared.command.Refusal.{Refusal}
use Rattle.vab_model.specs.declared.command.Refusal.TheVariants as refusals
use Rattle.vab_model.specs.declared.command.Reply.TheVariants as replies
use Rattle.vab_model.specs.Commands.{Command, SetActive, Boot, Mark, Print, Digest, Begin, Create}
use Rattle.vab_model.specs.Commands.{Resize, Delete, Snapshot, Flash, Finish, Cancel, BeginMerge}
use Rattle.vab_model.specs.Commands.{Merge, Factory, UpdateSuper, Overlay, OverlayWrite}
use Rattle.vab_model.specs.Commands.{OverlayDiscard, Keep}
use Rattle.vab_model.specs.Effects.{Effect, after_of, last_of, active_effect, found_of, Found}
use Rattle.vab_model.specs.Effects.{Image_is, Refused_by, print_effect, digest_effect, does}
use Rattle.vab_model.specs.Effects.{wanting, if_plain, refuses}
use Rattle.vab_model.specs.State.{images_at, has_images, with_control, image_named}
use Rattle.vab_model.specs.Over.{with_block, put_block, written_over, blank_overlay}
use Rattle.vab_model.specs.Overlay.{store_of_size, is_store_size, used_over, overlay_image}
use Rattle.vab_model.specs.Overlay.{overlay_effect, with_overlay, if_room as if_room_over}
use Rattle.vab_model.specs.Overlay.{write_staged, write_row, discard_row, unless as unless_over}
use Rattle.vab_model.specs.Plans.{other_slot, images_of, bytes_named, entry_named}
use Rattle.vab_model.specs.Physical.{held_by, holding, physical_named, is_physical, with_held}
use Rattle.vab_model.specs.Physical.{at_physical, all_blank}
use Rattle.vab_model.specs.Plans.{first_group, created_entry, at_entry, begun_plan}
use Rattle.vab_model.specs.Plans.{resized_entry, stored_entry, in_use, group_bytes, limit_of}
use Rattle.vab_model.specs.Plans.{is_within, without_entry, with_entries, blocks_in}
use Rattle.vab_model.specs.Plans.{bytes_or_none, is_planned}
use Rattle.vab_model.specs.Staged.{is_sparse, filled, differs, differences}
use Rattle.vab_model.specs.Machine.{unless, if_installing, if_planned, planned, if_room}
use Rattle.vab_model.specs.Machine.{if_within}
use Rattle.vab_model.specs.Machine.{begun, begin_row, create_row, resize_row, delete_row}
use Rattle.vab_model.specs.Machine.{snapshot_row, with_image, in_store, in_place, flash_staged}
use Rattle.vab_model.specs.Machine.{flash_unwritten, is_written, is_settled}
use Rattle.vab_model.specs.Machine.{flash_entry}
use Rattle.vab_model.specs.Machine.{flash_row, final_bytes, final_image, finished, if_complete}
use Rattle.vab_model.specs.Machine.{has_name, if_logical, physical_entry, flash_physical}
use Rattle.vab_model.specs.Machine.{keep_held, keep_physical, keep_row}
use Rattle.vab_model.specs.Machine.{least_missing, finish_row, without_images, cancel_row}
use Rattle.vab_model.specs.Machine.{begin_merge_row, turns, merge_row, machine_effect}
use Rattle.vab_model.specs.Wipe.{empty_image, empty_images, wiped, no_judge, filled_refusal}
use Rattle.vab_model.specs.Wipe.{if_passing, judged_effect, staged_effect, wipe_effect}
use Rattle.vab_machine.specs.Small.{AreSmallImages, IsSmallSlot, IsSmallImage, IsSmallEntry}
use Rattle.vab_machine.specs.Small.{IsSmallPlan, IsSmallPhase, IsSmallOver, IsSmallOverlay}
use Rattle.vab_machine.specs.Small.{AreSmallPhysical, IsSmall}
use Rattle.vab_machine.specs.Begun.{begun_over}
use Rattle.vab_machine.proofs.Bounds.{images_small, store_fits}
use Rattle.vab_machine.proofs.SmallLaws.{entry_small, resize_small, store_plan_small, create_small}
use Rattle.vab_machine.proofs.SmallLaws.{delete_small, write_small, begin_small, blank_small}
use Rattle.vab_machine.proofs.SmallLaws.{held_small}
use Rattle.vab_super_image.proofs.OwnLaws.{image_own}

-- the state after an effect is small
abbrev Keeps : State → Effect State → Type 0
Keeps s e = IsSmall (after_of s e)

-- ---- tests

keeps_unless : (s : State) (b : Bool) (refusal : Refusal) (e : Effect State)
    → IsSmall s
    → (b ≡ true → Keeps s e)
    → Keeps s (unless b refusal e)
keeps_unless s true refusal e small next = next refl
keeps_unless s false refusal e small next = small

keeps_either : (s : State) (b : Bool) (e f : Effect State)
    → Keeps s e
    → Keeps s f
    → Keeps s (cond b e f)
keeps_either s true e f first other = first
keeps_either s false e f first other = other

keeps_installing : (s : State) (phase : Phase) (row : ℕ → Plan → Effect State)
    → IsSmall s
    → IsSmallPhase phase
    → ((source : ℕ) (plan : Plan) → IsSmallPlan plan.entries → Keeps s (row source plan))
    → Keeps s (if_installing phase row)
keeps_installing s Idle row small phase next = small
keeps_installing s (Installing source plan) row small phase next = next source plan phase
keeps_installing s (Staged source left) row small phase next = small
keeps_installing s (Merging target left) row small phase next = small

keeps_planned : (s : State) (o : Option PlanEntry) (row : PlanEntry → Effect State)
    → IsSmall s
    → ((e : PlanEntry) → o ≡ Some e → Keeps s (row e))
    → Keeps s (if_planned o row)
keeps_planned s None row small next = small
keeps_planned s (Some e) row small next = next e refl

keeps_logical : (s : State) (base : List ℕ) (plan : Plan) (row : PlanEntry → Effect State)
    → IsSmall s
    → ((e : PlanEntry) → entry_named base plan.entries ≡ Some e → Keeps s (row e))
    → Keeps s (if_logical s base plan row)
keeps_logical s base plan row small next =
    keeps_unless s (not (is_physical base s.physical)) refusals.Physical
    (if_planned (entry_named base plan.entries) row) small (λ _.
    keeps_planned s (entry_named base plan.entries) row small next)

-- ---- another plan

phase_small : (s : State) (phase : Phase)
    → IsSmall s
    → IsSmallPhase phase
    → IsSmall (record s { phase = phase })
phase_small s phase small next = record {
  a = small.a;
  b = small.b;
  physical = small.physical;
  phase = next;
  overlay = small.overlay;
}

plan_kept : (s : State) (source : ℕ) (plan : Plan)
    → IsSmall s
    → IsSmallPlan plan.entries
    → Keeps s (planned s source plan)
plan_kept s source plan small next = phase_small s (Installing source plan) small next

room_kept : (s : State) (source : ℕ) (plan : Plan)
    → IsSmall s
    → IsSmallPlan plan.entries
    → Keeps s (if_room s source plan)
room_kept s source plan small next =
    keeps_unless s (nat_le (in_use (images_of s source) plan) s.cap)
    (refusals.NoRoom (in_use (images_of s source) plan) s.cap)
    (planned s source plan) small (λ _. plan_kept s source plan small next)

within_kept : (s : State) (source : ℕ) (group : Option (List ℕ)) (plan : Plan)
    → IsSmall s
    → IsSmallPlan plan.entries
    → Keeps s (if_within s source group plan)
within_kept s source group plan small next =
    keeps_unless s (is_within (group_bytes group plan.entries) (limit_of s.groups group))
    (refusals.GroupLimit (group_bytes group plan.entries) (limit_of s.groups group))
    (if_room s source plan) small (λ _. room_kept s source plan small next)

-- ---- rows

begun_kept : (s : State) (apart : Bool) (images : Option (List Image))
    → IsSmall s
    → IsSmallSlot images
    → Keeps s (begun s apart images)
begun_kept s apart None small slot = small
begun_kept s apart (Some images) small slot =
    plan_kept s s.control.current (begun_plan apart images) small (begin_small apart images slot)

slot_small : (s : State) (slot : ℕ) → IsSmall s → IsSmallSlot (images_at s slot)
slot_small s slot small = elim (cases_Bool (eqb slot 0)) [
  | inl t ↦ rw t small.a
  | inr f ↦ rw f small.b
]

begin_kept : (s : State) (apart : Bool) (phase : Phase)
    → IsSmall s
    → Keeps s (begin_row s apart phase)
begin_kept s apart Idle small =
    begun_kept s apart (images_at s s.control.current) small
    (slot_small s s.control.current small)
begin_kept s apart (Installing source plan) small = small
begin_kept s apart (Staged source left) small = small
begin_kept s apart (Merging target left) small = small

create_kept : (s : State) (name : List ℕ) (size source : ℕ) (plan : Plan)
    → IsSmall s
    → IsSmallPlan plan.entries
    → Keeps s (create_row s name size source plan)
create_kept s name size source plan small next =
    let es : List PlanEntry = plan.entries in
    let made : Plan =
    with_entries plan (es ++ created_entry s.groups (base_of name) size ∷ []) in
    let within : Effect State = if_within s source (first_group s.groups) made in
    let many : ℕ = length s.physical + length es in
    let few : Effect State = unless (nat_lt many most_partitions) refusals.TooMany within in
    let absent : Effect State =
    unless (not (has_name s (base_of name) plan)) refusals.Exists few in
    let sized : Effect State = unless (nat_le size (2 ^ 40)) refusals.BadSize absent in
    keeps_unless s (is_full (other_slot source) name) refusals.BadName sized small (λ _.
    keeps_unless s (nat_le size (2 ^ 40)) refusals.BadSize absent small (λ le.
    keeps_unless s (not (has_name s (base_of name) plan)) refusals.Exists few small (λ _.
    keeps_unless s (nat_lt many most_partitions) refusals.TooMany within small (λ lt.
    within_kept s source (first_group s.groups) made small
    (create_small s.groups (base_of name) size es next (leb-true size (2 ^ 40) le)
    (omega (arith, ltb-true many most_partitions lt)))))))

resize_kept : (s : State) (name : List ℕ) (size source : ℕ) (plan : Plan)
    → IsSmall s
    → IsSmallPlan plan.entries
    → Keeps s (resize_row s name size source plan)
resize_kept s name size source plan small next =
    let es : List PlanEntry = plan.entries in
    let made : Plan =
    with_entries plan (at_entry (base_of name) (resized_entry (blocks_of size)) es) in
    let within : PlanEntry → Effect State = λ e. if_within s source e.group made in
    let loose : PlanEntry → Effect State =
    λ e. unless (not (is_settled plan e)) refusals.Written (within e) in
    let plain : PlanEntry → Effect State =
    λ e. unless (not (is_some e.store)) refusals.HasStore (loose e) in
    let found : Effect State = if_logical s (base_of name) plan plain in
    let sized : Effect State = unless (nat_le size (2 ^ 40)) refusals.BadSize found in
    keeps_unless s (is_full (other_slot source) name) refusals.BadName sized small (λ _.
    keeps_unless s (nat_le size (2 ^ 40)) refusals.BadSize found small (λ le.
    keeps_logical s (base_of name) plan plain small (λ e _.
    keeps_unless s (not (is_some e.store)) refusals.HasStore (loose e) small (λ _.
    keeps_unless s (not (is_settled plan e)) refusals.Written (within e) small (λ _.
    within_kept s source e.group made small
    (resize_small (base_of name) size es next (leb-true size (2 ^ 40) le)))))))

delete_kept : (s : State) (name : List ℕ) (source : ℕ) (plan : Plan)
    → IsSmall s
    → IsSmallPlan plan.entries
    → Keeps s (delete_row s name source plan)
delete_kept s name source plan small next =
    let es : List PlanEntry = plan.entries in
    let made : Plan = with_entries plan (without_entry (base_of name) es) in
    let loose : PlanEntry → Effect State =
    λ e. unless (not (is_settled plan e)) refusals.Written (planned s source made) in
    let plain : PlanEntry → Effect State =
    λ e. unless (not (is_some e.store)) refusals.HasStore (loose e) in
    keeps_unless s (is_full (other_slot source) name) refusals.BadName
    (if_logical s (base_of name) plan plain) small (λ _.
    keeps_logical s (base_of name) plan plain small (λ e _.
    keeps_unless s (not (is_some e.store)) refusals.HasStore (loose e) small (λ _.
    keeps_unless s (not (is_settled plan e)) refusals.Written (planned s source made) small (λ _.
    plan_kept s source made small (delete_small (base_of name) es next)))))

snapshot_kept : (s : State) (name : List ℕ) (size source : ℕ) (plan : Plan)
    → IsSmall s
    → IsSmallPlan plan.entries
    → Keeps s (snapshot_row s name size source plan)
snapshot_kept s name size source plan small next =
    let es : List PlanEntry = plan.entries in
    let made : Plan = with_entries plan (at_entry (base_of name) (stored_entry size) es) in
    let plain : PlanEntry → Effect State =
    λ e. unless (not (is_some e.store)) refusals.HasStore (if_room s source made) in
    let found : Effect State = if_logical s (base_of name) plan plain in
    let some : Bool = size == 0 || nat_lt 1 (blocks_of size) in
    let sized : Effect State = unless (nat_le size (2 ^ 40) && some) refusals.BadSize found in
    let named : Effect State = unless (is_full (other_slot source) name) refusals.BadName sized in
    keeps_unless s (not plan.apart) refusals.InPlace named small (λ _.
    keeps_unless s (is_full (other_slot source) name) refusals.BadName sized small (λ _.
    keeps_unless s (nat_le size (2 ^ 40) && some) refusals.BadSize found small (λ within.
    keeps_logical s (base_of name) plan plain small (λ e _.
    keeps_unless s (not (is_some e.store)) refusals.HasStore (if_room s source made) small (λ _.
    room_kept s source made small
    (store_plan_small (base_of name) size es next
    (leb-true size (2 ^ 40) (and_parts (nat_le size (2 ^ 40)) some within).0)))))))

-- ---- flash

filled_long : (staged : List ℕ) (blocks : ℕ)
    → length staged ≤ 4096 * blocks
    → length (filled staged blocks) ≡ 4096 * blocks
filled_long staged blocks le =
    let zero_byte : ℕ = 0 in
    omega (
      arith,
      length-append staged (replicate (4096 * blocks - length staged) zero_byte),
      length-replicate (4096 * blocks - length staged) zero_byte,
      le,
    )

-- an image as long as the entry may be written so
abbrev KeepsPlaced : State → PlanEntry → (List ℕ → Effect State) → Type 0
KeepsPlaced s e place =
    (image : List ℕ) → length image ≤ 4096 * e.blocks → Keeps s (place image)

in_store_kept : (s : State) (source : ℕ) (plan : Plan) (e : PlanEntry) (k : Chunk) (store : ℕ)
    → IsSmall s
    → IsSmallPlan plan.entries
    → IsSmallEntry e
    → KeepsPlaced s e (in_store s source plan e k store)
in_store_kept s source plan e k store small next entry image long =
    let before : List ℕ = bytes_named e.name (images_of s source) in
    let n : ℕ = differences k before image e.blocks in
    let most = differing_most k (differs before image) e.blocks in
    keeps_unless s (nat_le (need_at n k) store) (refusals.StoreFull (need_at n k) store)
    (planned s source (with_image plan e image n)) small (λ _.
    plan_kept s source (with_image plan e image n) small
    (write_small e.name image n plan.entries next (omega (arith, long, entry.blocks))
    (omega (arith, most, entry.blocks))))

in_place_kept : (s : State) (source : ℕ) (plan : Plan) (e : PlanEntry)
    → IsSmall s
    → IsSmallPlan plan.entries
    → IsSmallEntry e
    → KeepsPlaced s e (in_place s source plan e)
in_place_kept s source plan e small next entry image long =
    plan_kept s source (with_image plan e image 0) small
    (write_small e.name image 0 plan.entries next (omega (arith, long, entry.blocks))
    (omega arith))

staged_kept : (s : State) (e : PlanEntry) (place : List ℕ → Effect State)
    (staged : Option (List ℕ))
    → IsSmall s
    → KeepsPlaced s e place
    → Keeps s (flash_staged e place staged)
staged_kept s e place None small next = small
staged_kept s e place (Some staged) small next =
    let image : List ℕ = filled staged e.blocks in
    let fits : Bool = nat_le (length staged) (4096 * e.blocks) in
    let large : Refusal = refusals.TooLarge (length staged) (4096 * e.blocks) in
    keeps_unless s (not (is_sparse staged)) refusals.Sparse (unless fits large (place image)) small
    (λ _.
    keeps_unless s fits large (place image) small (λ le.
    let long = filled_long staged e.blocks (leb-true (length staged) (4096 * e.blocks) le) in
    next image (omega (arith, long))))

unwritten_kept : (s : State) (e : PlanEntry) (place : List ℕ → Effect State)
    (staged : Option (List ℕ))
    → IsSmall s
    → KeepsPlaced s e place
    → Keeps s (flash_unwritten e place staged)
unwritten_kept s e place staged small next =
    keeps_unless s (not (is_written e.image)) refusals.Written (flash_staged e place staged) small
    (λ _. staged_kept s e place staged small next)

flash_entry_kept : (s : State) (source : ℕ) (plan : Plan) (staged : Option (List ℕ))
    (e : PlanEntry) (k : Chunk) (store : Option ℕ)
    → IsSmall s
    → IsSmallPlan plan.entries
    → IsSmallEntry e
    → Keeps s (flash_entry s source plan staged e k store)
flash_entry_kept s source plan staged e k None small next entry =
    keeps_unless s plan.apart refusals.NoStore
    (flash_unwritten e (in_place s source plan e) staged) small (λ _.
    unwritten_kept s e (in_place s source plan e) staged small
    (in_place_kept s source plan e small next entry))
flash_entry_kept s source plan staged e k (Some store) small next entry =
    unwritten_kept s e (in_store s source plan e k store) staged small
    (in_store_kept s source plan e k store small next entry)

physical_small : (s : State) (physical : List Physical)
    → IsSmall s
    → AreSmallPhysical physical
    → IsSmall (record s { physical = physical })
physical_small s physical small next = record {
  a = small.a;
  b = small.b;
  physical = next;
  phase = small.phase;
  overlay = small.overlay;
}

held_kept : (s : State) (target : ℕ) (name bytes : List ℕ)
    → IsSmall s
    → IsSmall (with_held s target name bytes)
held_kept s target name bytes small =
    physical_small s (at_physical name (holding target (Some bytes)) s.physical) small
    (held_small target name bytes s.physical small.physical)

flash_physical_kept : (s : State) (staged : Option (List ℕ)) (target : ℕ) (o : Option Physical)
    → IsSmall s
    → Keeps s (flash_physical s staged target o)
flash_physical_kept s staged target None small = small
flash_physical_kept s staged target (Some p) small =
    let place : List ℕ → Effect State =
    λ image. does replies.Done (with_held s target p.name image) in
    unwritten_kept s (physical_entry p (held_by target p)) place staged small (λ image _.
    held_kept s target p.name image small)

flash_kept : (s : State) (staged : Option (List ℕ)) (name : List ℕ) (k : Chunk) (source : ℕ)
    (plan : Plan)
    → IsSmall s
    → IsSmallPlan plan.entries
    → Keeps s (flash_row s staged name k source plan)
flash_kept s staged name k source plan small next =
    let es : List PlanEntry = plan.entries in
    let row : PlanEntry → Effect State = λ e. flash_entry s source plan staged e k e.store in
    let logical : Effect State = if_planned (entry_named (base_of name) es) row in
    let found : Option Physical = physical_named (base_of name) s.physical in
    let physical : Effect State = flash_physical s staged (other_slot source) found in
    let is_behind : Bool = is_physical (base_of name) s.physical in
    let keeps : Keeps s logical =
    keeps_planned s (entry_named (base_of name) es) row small (λ e is.
    flash_entry_kept s source plan staged e k e.store small next
    (entry_small (base_of name) es e next.each is)) in
    keeps_unless s (is_full (other_slot source) name) refusals.BadName
    (cond is_behind physical logical) small (λ _.
    keeps_either s is_behind physical logical
    (flash_physical_kept s staged (other_slot source) found small) keeps)

-- ---- keep

keep_held_kept : (s : State) (target : ℕ) (p : Physical) (held : Option (List ℕ))
    → IsSmall s
    → Keeps s (keep_held s target p held)
keep_held_kept s target p None small = small
keep_held_kept s target p (Some bytes) small = held_kept s target p.name bytes small

keep_physical_kept : (s : State) (source : ℕ) (planned : Bool) (o : Option Physical)
    → IsSmall s
    → Keeps s (keep_physical s source planned o)
keep_physical_kept s source planned None small =
    keeps_unless s planned refusals.Unknown (refuses refusals.NotPhysical) small (λ _. small)
keep_physical_kept s source planned (Some p) small =
    let target : ℕ = other_slot source in
    let held : Effect State = keep_held s target p (held_by source p) in
    keeps_unless s (not (is_some (held_by target p))) refusals.Written held small (λ _.
    keep_held_kept s target p (held_by source p) small)

keep_kept : (s : State) (name : List ℕ) (source : ℕ) (plan : Plan)
    → IsSmall s
    → Keeps s (keep_row s name source plan)
keep_kept s name source plan small =
    let planned : Bool = is_planned (base_of name) plan.entries in
    let found : Option Physical = physical_named (base_of name) s.physical in
    keeps_unless s (is_full (other_slot source) name) refusals.BadName
    (keep_physical s source planned found) small (λ _.
    keep_physical_kept s source planned found small)

-- ---- finish

bytes_short : (name : List ℕ) (images : List Image)
    → All (λ (i : Image). length i.bytes ≤ 2 ^ 40) images
    → length (bytes_named name images) ≤ 2 ^ 40
bytes_short name [] each = omega arith
bytes_short name (i ∷ is) each = elim (cases_Bool (bytes_eq i.name name)) [
  | inl t ↦ rw t (All-head (λ (i : Image). length i.bytes ≤ 2 ^ 40) i is each)
  | inr f ↦ rw f (bytes_short name is (All-tail (λ (i : Image). length i.bytes ≤ 2 ^ 40) i is each))
]

final_short : (source : List Image) (name : List ℕ) (image : PlanImage)
    → AreSmallImages source
    → IsSmallImage image
    → length (final_bytes source name image) ≤ 2 ^ 40
final_short source name Kept images small = bytes_short name source images.each
final_short source name Declared images small = omega arith
final_short source name (Written bytes n) images small = small.bytes_small

final_small : (source : List Image) (plan : List PlanEntry)
    → AreSmallImages source
    → IsSmallPlan plan
    → AreSmallImages (map (final_image source) plan)
final_small source plan images small = record {
  few = omega (arith, length-map plan (final_image source), small.few);
  each =
      All-map (λ (i : Image). length i.bytes ≤ 2 ^ 40) (final_image source) plan
      (All-weaker IsSmallEntry (λ e. length (final_image source e).bytes ≤ 2 ^ 40)
      (λ e s. final_short source e.name e.image images s.image) plan small.each);
}

finished_small : (s : State) (source : ℕ) (plan : Plan)
    → IsSmall s
    → IsSmallPlan plan.entries
    → IsSmall (finished s source plan)
finished_small s source plan small next =
    let images =
    final_small (images_of s source) plan.entries (images_small s source small) next in
    elim (cases_Bool (eqb (other_slot source) 0)) [
      | inl t ↦ rw t (record {
        a = images;
        b = small.b;
        physical = small.physical;
        phase = tt;
        overlay = small.overlay;
      })
      | inr f ↦ rw f (record {
        a = small.a;
        b = images;
        physical = small.physical;
        phase = tt;
        overlay = small.overlay;
      })
    ]

complete_kept : (s : State) (least : Option (List ℕ)) (e : Effect State)
    → IsSmall s
    → Keeps s e
    → Keeps s (if_complete least e)
complete_kept s None e small next = next
complete_kept s (Some name) e small next = small

-- ---- fewer images

none_small : (s : State) (slot : ℕ) (phase : Phase)
    → IsSmall s
    → IsSmallPhase phase
    → IsSmall (record (without_images s slot) { phase = phase })
none_small s slot phase small next =
    let physical : AreSmallPhysical (all_blank slot s.physical) =
    blank_small slot s.physical small.physical in
    elim (cases_Bool (eqb slot 0)) [
      | inl t ↦ rw t (record {
        a = tt;
        b = small.b;
        physical = physical;
        phase = next;
        overlay = small.overlay;
      })
      | inr f ↦ rw f (record {
        a = small.a;
        b = tt;
        physical = physical;
        phase = next;
        overlay = small.overlay;
      })
    ]

cancel_kept : (s : State) (phase : Phase) → IsSmall s → Keeps s (cancel_row s phase)
cancel_kept s Idle small = small
cancel_kept s (Installing source plan) small = none_small s (other_slot source) Idle small tt
cancel_kept s (Staged source left) small = elim (cases_Bool (eqb s.control.current source)) [
  | inl t ↦ rw t (none_small s (other_slot source) Idle small tt)
  | inr f ↦ rw f small
]
cancel_kept s (Merging target left) small = small

begin_merge_kept : (s : State) (phase : Phase) → IsSmall s → Keeps s (begin_merge_row s phase)
begin_merge_kept s Idle small = small
begin_merge_kept s (Installing source plan) small = small
begin_merge_kept s (Staged source left) small =
    elim (cases_Bool (eqb s.control.current source)) [
      | inl t ↦ rw t small
      | inr f ↦ elim (cases_Bool (info_at s.control (other_slot source)).successful) [
        | inl t ↦
            rw (f, t) (none_small s source (Merging (other_slot source) left) small tt)
        | inr n ↦ rw (f, n) small
      ]
    ]
begin_merge_kept s (Merging target left) small = small

turns_kept : (s x : State) (n target left : ℕ)
    → IsSmall s
    → IsSmall x
    → IsSmall (last_of x (turns n s target left))
unfolding turns
turns_kept s x zero target left small last = last
turns_kept s x (suc n) target zero small last = phase_small s Idle small tt
turns_kept s x (suc n) target (suc left) small last =
    turns_kept s (record s { phase = Merging target left }) n target left small
    (phase_small s (Merging target left) small tt)

merge_kept : (s : State) (n : ℕ) (phase : Phase) → IsSmall s → Keeps s (merge_row s n phase)
merge_kept s n Idle small = small
merge_kept s n (Installing source plan) small = small
merge_kept s n (Staged source left) small = small
merge_kept s n (Merging target left) small = turns_kept s s n target left small small

-- ---- a wipe

empty_small : (slot : ℕ) (t : Table)
    → IsOwn slot (layout_of t).parts
    → AreSmallImages (empty_images slot t)
empty_small slot t own =
    let parts : List Part = own_parts slot (layout_of t).parts in
    record {
      few = omega (arith, length-map parts empty_image, own.few);
      each =
          All-map (λ (i : Image). length i.bytes ≤ 2 ^ 40) empty_image parts
          (All-weaker (IsOwnPart slot) (λ p. length (empty_image p).bytes ≤ 2 ^ 40)
          (λ p is. omega arith) parts own.each);
    }

wiped_small : (s : State) (slot : ℕ) (i : SuperImage)
    → IsSmall s
    → IsOwn slot (layout_of i.table).parts
    → IsSmall (wiped s slot i)
wiped_small s slot i small own =
    let images = empty_small slot i.table own in
    elim (cases_Bool (eqb slot 0)) [
      | inl t ↦ rw t (record {
        a = images;
        b = small.b;
        physical = small.physical;
        phase = small.phase;
        overlay = small.overlay;
      })
      | inr f ↦ rw f (record {
        a = small.a;
        b = images;
        physical = small.physical;
        phase = small.phase;
        overlay = small.overlay;
      })
    ]

passing_kept : (s : State) (refusal : Option Refusal) (e : Effect State)
    → IsSmall s
    → Keeps s e
    → Keeps s (if_passing refusal e)
passing_kept s None e small next = next
passing_kept s (Some refusal) e small next = small

judged_kept : (s : State) (slot : ℕ) (image : Option SuperImage)
    → IsSmall s
    → ((i : SuperImage) → image ≡ Some i → IsOwn slot (layout_of i.table).parts)
    → Keeps s (judged_effect no_judge no_judge (wiped s slot) image)
judged_kept s slot None small own = small
judged_kept s slot (Some i) small own =
    passing_kept s (filled_refusal (first_filled i.table.partitions))
    (does replies.Done (wiped s slot i)) small (wiped_small s slot i small (own i refl))

image_kept : (s : State) (slot : ℕ) (staged : Option (List ℕ))
    → IsSmall s
    → Keeps s (staged_effect no_judge no_judge (wiped s slot) slot staged)
image_kept s slot None small = small
image_kept s slot (Some bytes) small = elim (cases_Bool (is_sparse bytes)) [
  | inl t ↦ rw t small
  | inr f ↦
      rw f
      (judged_kept s slot (super_image_of slot bytes) small (λ i is. image_own slot bytes i is))
]

wipe_kept : (s : State) (slot : ℕ) (staged : Option (List ℕ)) (phase : Phase)
    → IsSmall s
    → Keeps s (wipe_effect no_judge no_judge (wiped s slot) slot staged phase)
wipe_kept s slot staged Idle small = image_kept s slot staged small
wipe_kept s slot staged (Installing source plan) small = small
wipe_kept s slot staged (Staged source left) small = small
wipe_kept s slot staged (Merging target left) small = small

-- ---- an overlay

keeps_over : (s : State) (b : Bool) (refusal : Refusal) (e : Effect State)
    → IsSmall s
    → (b ≡ true → Keeps s e)
    → Keeps s (unless_over b refusal e)
keeps_over s true refusal e small next = next refl
keeps_over s false refusal e small next = small

plain_kept : (s : State) (o : Option OverlayOf) (e : Effect State)
    → IsSmall s
    → Keeps s e
    → Keeps s (if_plain o e)
plain_kept s None e small next = next
plain_kept s (Some o) e small next = small

over_small : (s : State) (o : Option OverlayOf)
    → IsSmall s
    → IsSmallOverlay o
    → IsSmall (with_overlay s o)
over_small s o small next = record {
  a = small.a;
  b = small.b;
  physical = small.physical;
  phase = small.phase;
  overlay = next;
}

begun_small : (s : State) (image : Image) (store : ℕ)
    → IsSmall s
    → length image.bytes ≤ 2 ^ 40
    → store ≤ 2 ^ 55
    → Keeps s (begun_over s image store)
begun_small s image store small short le =
    over_small s (Some (blank_overlay image store)) small
    (record { few = omega arith; store = le; over = short })

overlay_image_kept : (s : State) (images : List Image) (size : ℕ) (image : Option Image)
    → IsSmall s
    → size ≤ 2 ^ 40
    → length (bytes_or_none image) ≤ 2 ^ 40
    → Keeps s (overlay_image s.cap images size (begun_over s) image)
overlay_image_kept s images size None small le short = small
overlay_image_kept s images size (Some i) small le short =
    let store : ℕ = store_of_size (blocks_in i.bytes) size in
    keeps_over s (nat_le (used_over images store) s.cap)
    (refusals.NoRoom (used_over images store) s.cap) (begun_over s i store) small (λ _.
    begun_small s i store small short
    (store_fits (blocks_in i.bytes) size (omega (arith, short)) (omega (arith, le))))

overlay_kept : (s : State) (name : List ℕ) (size : ℕ) (phase : Phase)
    → IsSmall s
    → Keeps s (overlay_effect s (begun_over s) name size phase)
overlay_kept s name size Idle small =
    let slot : ℕ = s.control.current in
    let images : List Image = images_of s slot in
    let found : Effect State =
    overlay_image s.cap images size (begun_over s) (image_named (base_of name) images) in
    let is_behind : Bool = is_physical (base_of name) s.physical in
    let logical : Effect State = unless_over (not is_behind) refusals.Physical found in
    let sized : Effect State = unless_over (is_store_size size) refusals.BadSize logical in
    let some : Bool = size == 0 || nat_lt 1 (blocks_of size) in
    keeps_over s (is_full slot name) refusals.BadName sized small (λ _.
    keeps_over s (is_store_size size) refusals.BadSize logical small (λ within.
    keeps_over s (not is_behind) refusals.Physical found small (λ _.
    overlay_image_kept s images size (image_named (base_of name) images) small
    (leb-true size (2 ^ 40) (and_parts (nat_le size (2 ^ 40)) some within).0)
    (bytes_short (base_of name) images (images_small s slot small).each))))
overlay_kept s name size (Installing source plan) small = small
overlay_kept s name size (Staged source left) small = small
overlay_kept s name size (Merging target left) small = small

with_block_most : (block : ℕ) (blocks : List ℕ)
    → length (with_block block blocks) ≤ length blocks + 1
with_block_most block blocks = elim (cases_Bool (list_any (λ b. b == block) blocks)) [
  | inl t ↦ rw t (omega arith)
  | inr f ↦ rw f (omega (arith, length-append blocks (block ∷ [])))
]

put_length : (bytes : List ℕ) (block : ℕ) (from : List ℕ)
    → length from ≡ 4096
    → block < blocks_in bytes
    → length (put_block bytes block from) ≡ length bytes
put_length bytes block from one low =
    length-put_at bytes (4096 * block) from (omega (arith, one, low))

room_over_kept : (s : State) (o : OverlayOf) (block : ℕ) (bytes : List ℕ)
    → IsSmall s
    → IsSmallOver o
    → length bytes ≡ 4096
    → block < blocks_in o.bytes
    → Keeps s (if_room_over s o block bytes)
room_over_kept s o block bytes small over one low =
    let need : ℕ = need_of (length o.blocks + 1) in
    let next : OverlayOf = written_over block bytes o in
    keeps_over s (nat_le need o.store) (refusals.StoreFull need o.store)
    (wanting true (does replies.Done (with_overlay s (Some next)))) small (λ fits.
    let le : need ≤ o.store = leb-true need o.store fits in
    over_small s (Some next) small (record {
      few = omega (arith, with_block_most block o.blocks, le, over.store);
      store = over.store;
      over = omega (arith, put_length o.bytes block bytes one low, over.over);
    }))

staged_write_kept : (s : State) (o : OverlayOf) (block : ℕ) (staged : Option (List ℕ))
    → IsSmall s
    → IsSmallOver o
    → Keeps s (write_staged s o block staged)
staged_write_kept s o block None small over = small
staged_write_kept s o block (Some bytes) small over =
    let blocks : ℕ = blocks_in o.bytes in
    let written : Effect State = if_room_over s o block bytes in
    let below : Effect State =
    unless_over (nat_lt block blocks) (refusals.BadBlock block blocks) written in
    keeps_over s (length bytes == 4096) (refusals.BadLength (length bytes)) below small (λ one.
    keeps_over s (nat_lt block blocks) (refusals.BadBlock block blocks) written small (λ low.
    room_over_kept s o block bytes small over (eqb-true (length bytes) 4096 one)
    (ltb-true block blocks low)))

write_kept : (s : State) (staged : Option (List ℕ)) (block : ℕ) (o : Option OverlayOf)
    → IsSmall s
    → IsSmallOverlay o
    → Keeps s (write_row s staged block o)
write_kept s staged block None small next = small
write_kept s staged block (Some o) small next = staged_write_kept s o block staged small next

discard_kept : (s : State) (o : Option OverlayOf) → IsSmall s → Keeps s (discard_row s o)
discard_kept s None small = small
discard_kept s (Some o) small = over_small s None small tt

-- ---- the table

control_small : (s : State) (c : Control) → IsSmall s → IsSmall (with_control c s)
control_small s c small = record {
  a = small.a;
  b = small.b;
  physical = small.physical;
  phase = small.phase;
  overlay = small.overlay;
}

active_kept : (s : State) (has : Bool) (c : Control)
    → IsSmall s
    → Keeps s (active_effect has s c)
active_kept s true c small = control_small s c small
active_kept s false c small = small

print_kept : (s : State) (name : List ℕ) (f : Found) → IsSmall s → Keeps s (print_effect name f)
print_kept s name (Image_is image) small = small
print_kept s name (Refused_by refusal) small = small

digest_kept : (s : State) (f : Found) → IsSmall s → Keeps s (digest_effect f)
digest_kept s (Image_is image) small = small
digest_kept s (Refused_by refusal) small = small

pub small_after : (s : State) (staged : Option (List ℕ)) (c : Command)
    → IsSmall s
    → IsSmall (after_of s (machine_effect s staged c))
unfolding machine_effect
small_after s staged (SetActive slot) small =
    active_kept s (is_some (images_at s slot)) (activated_of s.control slot) small
small_after s staged Boot small = control_small s (booted_of s.control (has_images s)) small
small_after s staged Mark small = control_small s (marked_of s.control) small
small_after s staged (Print name) small = print_kept s name (found_of s name) small
small_after s staged (Digest name) small = digest_kept s (found_of s name) small
small_after s staged Begin small =
    plain_kept s s.overlay (begin_row s false s.phase) small (begin_kept s false s.phase small)
small_after s staged Factory small =
    plain_kept s s.overlay (begin_row s true s.phase) small (begin_kept s true s.phase small)
small_after s staged (Create name size) small =
    keeps_installing s s.phase (create_row s name size) small small.phase
    (λ source plan next. create_kept s name size source plan small next)
small_after s staged (Resize name size) small =
    keeps_installing s s.phase (resize_row s name size) small small.phase
    (λ source plan next. resize_kept s name size source plan small next)
small_after s staged (Delete name) small =
    keeps_installing s s.phase (delete_row s name) small small.phase
    (λ source plan next. delete_kept s name source plan small next)
small_after s staged (Snapshot name size) small =
    keeps_installing s s.phase (snapshot_row s name size) small small.phase
    (λ source plan next. snapshot_kept s name size source plan small next)
small_after s staged (Flash name chunk) small =
    keeps_installing s s.phase (flash_row s staged name chunk) small small.phase
    (λ source plan next. flash_kept s staged name chunk source plan small next)
small_after s staged (Keep name) small =
    keeps_installing s s.phase (keep_row s name) small small.phase
    (λ source plan _. keep_kept s name source plan small)
small_after s staged Finish small =
    keeps_installing s s.phase (finish_row s) small small.phase
    (λ source plan next.
    complete_kept s (least_missing s source plan) _ small
    (finished_small s source plan small next))
small_after s staged Cancel small = cancel_kept s s.phase small
small_after s staged BeginMerge small = begin_merge_kept s s.phase small
small_after s staged (Merge count) small = merge_kept s count s.phase small
small_after s staged UpdateSuper small =
    plain_kept s s.overlay
    (wipe_effect no_judge no_judge (wiped s s.control.current) s.control.current staged s.phase)
    small (wipe_kept s s.control.current staged s.phase small)
small_after s staged (Overlay name size) small =
    plain_kept s s.overlay (overlay_effect s (begun_over s) name size s.phase) small
    (overlay_kept s name size s.phase small)
small_after s staged (OverlayWrite block) small =
    write_kept s staged block s.overlay small small.overlay
small_after s staged OverlayDiscard small = discard_kept s s.overlay small
