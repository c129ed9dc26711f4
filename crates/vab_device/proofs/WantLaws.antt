-- Memory may be refused in place of an edit's, a begin's or a flash's effect, where its reply is
-- that it is done or that the table is full. No command of a verb takes memory. Of a wipe this says
-- nothing.
use Rattle.std.proofs.Common.{◌≡◌, ◌≢◌, ◌∙◌, ℕ, ◌+◌, ◌*◌, ◌^◌, Bool, true, false, cond, List}
use Rattle.std.proofs.Common.{length, sym, Option, Result, Ok, Err, Some, None, refl, subst}
use Rattle.std.specs.Prelude.{◌==◌, not, nat_lt, nat_le, is_some}
use Rattle.vab_bootctl.specs.Boot.{info_at}
use Rattle.vab_names.specs.Names.{is_full, base_of}
use Rattle.vab_space.specs.declared.Chunk.{Chunk}
use Rattle.vab_space.specs.Chunks.{need_at}
use Rattle.vab_layout.specs.declared.layout.Layout.{Layout}
use Rattle.vab_layout.specs.Slots.{other_slot}
use Rattle.vab_builder.specs.declared.fault.EditFault.{EditFault}
use Rattle.vab_builder.specs.declared.fault.EditFault.TheVariants as faults
use Rattle.vab_model.specs.declared.state.PlanImage.{PlanImage}
use Rattle.vab_model.specs.declared.state.PlanImage.TheVariants.{Kept, Declared, Written}
use Rattle.vab_model.specs.declared.state.PlanEntry.{PlanEntry}
use Rattle.vab_model.specs.declared.state.Plan.{Plan}
use Rattle.vab_model.specs.declared.state.Phase.{Phase}
use Rattle.vab_model.specs.declared.state.Phase.TheVariants.{Idle, Installing, Staged, Merging}
use Rattle.vab_model.specs.declared.command.Refusal.{Refusal}
use Rattle.vab_model.specs.declared.command.Refusal.TheVariants as refusals
use Rattle.vab_model.specs.declared.command.Reply.{Reply}
use Rattle.vab_model.specs.declared.command.Reply.TheVariants as replies
use Rattle.vab_model.specs.Commands.{Command, SetActive, Boot, Mark, Print, Digest, Begin, Create}
use Rattle.vab_model.specs.Commands.{Resize, Delete, Snapshot, Flash, Finish, Cancel, BeginMerge}
use Rattle.vab_model.specs.Commands.{Merge, Factory, UpdateSuper, Overlay as OverlayOf}
use Rattle.vab_model.specs.Commands.{OverlayWrite, OverlayDiscard, Keep}
use Rattle.vab_model.specs.Effects.{Effect, refuses, does, active_effect, print_effect}
use Rattle.vab_model.specs.Effects.{digest_effect, Found, Image_is, Refused_by, found_of}
use Rattle.vab_model.specs.Effects.{effect_map, wanting, if_plain}
use Rattle.vab_model.specs.Overlay as over
use Rattle.vab_model.specs.Overlay.{overlay_image, store_of_size, used_over, is_store_size}
use Rattle.vab_model.specs.Overlay.{write_staged, write_row, discard_row, with_overlay}
use Rattle.vab_model.specs.Over.{written_over}
use Rattle.vab_model.specs.Plans.{blocks_in, images_of}
use Rattle.vab_model.specs.State.{image_named}
use Rattle.vab_model.specs.declared.state.Image.{Image}
use Rattle.vab_model.specs.declared.state.Overlay.{Overlay}
use Rattle.vab_space.specs.Space.{need_of}
use Rattle.vab_model.specs.Machine.{machine_effect, unless, cancelled as cancelled_state}
use Rattle.vab_model.specs.Machine.{merging_from as merging_state}
use Rattle.vab_model.specs.Kinds.{IsVerb}
use Rattle.vab_model.specs.declared.state.State.{State}
use Rattle.vab_model.specs.State.{images_at}
use Rattle.vab_bootctl.specs.declared.slots.Control.{Control}
use Rattle.vab_bootctl.specs.Boot.{activated_of}
use Rattle.vab_model.specs.Plans.{entry_named}
use Rattle.vab_model.specs.Staged.{is_sparse}
use Rattle.vab_model.specs.Machine.{least_missing}
use Rattle.vab_model.specs.Physical.{is_physical, physical_named}
use Rattle.vab_device.proofs.HeldLaws.{physical_makes, keep_makes}
use Rattle.vab_model.specs.declared.state.Physical.{Physical}
use Rattle.vab_device.specs.Mounted.{Mounted, in_state}
use Rattle.vab_device.specs.Flashed.{staged_effect, unwritten_effect, placed_effect, entry_effect}
use Rattle.vab_device.specs.Flashed.{flash_effect, in_store, in_place, if_room, flashed}
use Rattle.vab_device.specs.Flashed.{differences, source_bytes, named_effect, physical_effect}
use Rattle.vab_device.specs.Updates.{table_effect, begun_effect, begin_effect, layout_at}
use Rattle.vab_device.specs.Updates.{no_entries, EditOf, edited_effect, Guard, unless_kept}
use Rattle.vab_device.specs.Updates.{edit_effect, no_guard, settled_guard, store_guard}
use Rattle.vab_device.specs.Updates.{create_edit, resize_edit, delete_edit, snapshot_edit}
use Rattle.vab_device.specs.Updates.{cancel_effect, finish_effect, complete_effect}
use Rattle.vab_device.specs.Updates.{begin_merge_effect, merge_effect, effect_on}
use Rattle.vab_device.specs.Updates.{over_effect, over_table, overlay_begun}
use Rattle.vab_device.proofs.FlashedLaws.{flash_by_blocks}

-- a reply in whose place memory may be refused
abbrev pub is_wanted : Reply → Bool
is_wanted replies.Done = true
is_wanted (replies.Refused refusal) = is_full refusal
  where
    is_full : Refusal → Bool
    is_full (refusals.TableFull size most) = true
    is_full _ = false
is_wanted _ = false

-- where memory may be refused, the reply is one of those
abbrev pub TellsWanted : Effect Mounted → Type 0
TellsWanted e = e.wants ≡ true → is_wanted e.reply ≡ true

-- memory isn't refused in its place
abbrev pub WantsNothing : Effect Mounted → Type 0
WantsNothing e = e.wants ≡ false

nothing_told : (e : Effect Mounted) → WantsNothing e → TellsWanted e
nothing_told e none wants = absurd (let no : false ≡ true = sym none ∙ wants in cc)

module _ (m : Mounted) where
  either : (b : Bool) (e f : Effect Mounted)
      → TellsWanted e
      → TellsWanted f
      → TellsWanted (cond b e f)
  either true e f one other = one
  either false e f one other = other

  refused : (r : Refusal) → TellsWanted (refuses r)
  refused r wants = absurd cc

  -- ---- the target's table

  tabled : (source : ℕ) (plan : Plan) (r : Result Layout EditFault)
      → TellsWanted (table_effect m source plan r)
  tabled source plan (Ok l) wants = refl
  tabled source plan (Err (faults.TableFull size most)) wants = refl
  tabled source plan (Err _) wants = absurd cc

  begun : (apart : Bool) (source : ℕ) (l : Option Layout)
      → TellsWanted (begun_effect m apart source l)
  begun apart source None = refused refusals.NoImages
  begun apart source (Some l) = tabled source (no_entries apart) _

  begins : (apart : Bool) (phase : Phase) → TellsWanted (begin_effect m apart phase)
  begins apart Idle =
      begun apart m.state.control.current (layout_at m.places m.state.control.current)
  begins apart _ = refused refusals.NotIdle

  edited : (source : ℕ) (plan : Plan) (edit : EditOf) (s t : Option Layout)
      → TellsWanted (edited_effect m source plan edit s t)
  edited source plan edit None t = refused refusals.NotInstalling
  edited source plan edit (Some s) None = refused refusals.NotInstalling
  edited source plan edit (Some s) (Some t) = tabled source plan _

  unless_kept_told : (kept : Option Refusal) (next : Effect Mounted)
      → TellsWanted next
      → TellsWanted (unless_kept kept next)
  unless_kept_told None next told = told
  unless_kept_told (Some refusal) next told = refused refusal

  edits : (guard : Guard) (edit : EditOf) (phase : Phase)
      → TellsWanted (edit_effect m guard edit phase)
  edits guard edit (Installing source plan) =
      let next : Effect Mounted = edited_effect m source plan edit
      (layout_at m.places source)
      (layout_at m.places (other_slot source)) in
      unless_kept_told (guard source plan) next
      (edited source plan edit
      (layout_at m.places source)
      (layout_at m.places (other_slot source)))
  edits guard edit _ = refused refusals.NotInstalling

  -- ---- an overlay

  plain_told : (o : Option Overlay) (next : Effect Mounted)
      → TellsWanted next
      → TellsWanted (if_plain o next)
  plain_told None next told = told
  plain_told (Some o) next told = refused refusals.NotIdle

  unless_told : (b : Bool) (r : Refusal) (next : Effect Mounted)
      → TellsWanted next
      → TellsWanted (over.unless b r next)
  unless_told true r next told = told
  unless_told false r next told = refused r

  over_told : (image : Image) (store : ℕ) (r : Result Layout EditFault)
      → TellsWanted (over_effect m image store r)
  over_told image store (Ok l) wants = refl
  over_told image store (Err (faults.TableFull size most)) wants = refl
  over_told image store (Err _) wants = absurd cc

  over_table_told : (name : List ℕ) (slot : ℕ) (l : Option Layout) (image : Image) (store : ℕ)
      → TellsWanted (over_table m name slot l image store)
  over_table_told name slot None image store = refused refusals.NoImages
  over_table_told name slot (Some l) image store = over_told image store _

  over_image_told : (images : List Image) (size : ℕ) (next : Image → ℕ → Effect Mounted)
      → ((image : Image) (store : ℕ) → TellsWanted (next image store))
      → (i : Option Image)
      → TellsWanted (overlay_image m.state.cap images size next i)
  over_image_told images size next told None = refused refusals.Unknown
  over_image_told images size next told (Some i) =
      let store : ℕ = store_of_size (blocks_in i.bytes) size in
      unless_told (nat_le (used_over images store) m.state.cap)
      (refusals.NoRoom (used_over images store) m.state.cap)
      (next i store) (told i store)

  over_begins : (name : List ℕ) (size : ℕ) (phase : Phase)
      → TellsWanted (overlay_begun m name size phase)
  over_begins name size Idle =
      let current : ℕ = m.state.control.current in
      let next : Image → ℕ → Effect Mounted =
      over_table m name current (layout_at m.places current) in
      let image : Option Image = image_named (base_of name) (images_of m.state current) in
      let found : Effect Mounted =
      overlay_image m.state.cap (images_of m.state current) size next image in
      let logical : Bool = not (is_physical (base_of name) m.state.physical) in
      let named : Effect Mounted = over.unless logical refusals.Physical found in
      unless_told (is_full current name) refusals.BadName
      (over.unless (is_store_size size) refusals.BadSize named)
      (unless_told (is_store_size size) refusals.BadSize named
      (unless_told logical refusals.Physical found
      (over_image_told (images_of m.state current) size next
      (over_table_told name current (layout_at m.places current)) image)))
  over_begins name size _ = refused refusals.NotIdle

  -- ---- an image

  roomed : (source : ℕ) (plan : Plan) (e : PlanEntry) (store : ℕ) (k : Chunk)
      (staged : List ℕ) (n : ℕ)
      → TellsWanted (if_room m source plan e store k staged n)
  roomed source plan e store k staged n =
      either (nat_le (need_at n k) store)
      (wanting true (flashed m source plan e staged n))
      (refuses (refusals.StoreFull (need_at n k) store))
      (λ wants. refl)
      (refused (refusals.StoreFull (need_at n k) store))

  staged_told : (e : PlanEntry) (place : List ℕ → Effect Mounted)
      → ((staged : List ℕ) → TellsWanted (place staged))
      → (staged : Option (List ℕ))
      → TellsWanted (staged_effect e place staged)
  staged_told e place told None = refused refusals.NothingStaged
  staged_told e place told (Some staged) =
      let large : Refusal = refusals.TooLarge (length staged) (4096 * e.blocks) in
      let is_large : Bool = nat_lt (4096 * e.blocks) (length staged) in
      either (is_sparse staged) (refuses refusals.Sparse)
      (cond is_large (refuses large) (place staged))
      (refused refusals.Sparse)
      (either is_large (refuses large) (place staged) (refused large) (told staged))

  unwritten_told : (image : PlanImage) (next : Effect Mounted)
      → TellsWanted next
      → TellsWanted (unwritten_effect image next)
  unwritten_told Kept next told = told
  unwritten_told Declared next told = told
  unwritten_told (Written bytes count) next told = refused refusals.Written

  -- an image in place wants nothing
  placed_told : (source : ℕ) (plan : Plan) (e : PlanEntry) (staged : List ℕ)
      → TellsWanted (in_place m source plan e staged)
  placed_told source plan e staged wants = absurd cc

  placed : (source : ℕ) (plan : Plan) (e : PlanEntry) (k : Chunk) (staged : Option (List ℕ))
      (store : Option ℕ)
      → TellsWanted (placed_effect m source plan e k staged store)
  placed source plan e k staged None =
      let next : Effect Mounted = unwritten_effect e.image
      (staged_effect e (in_place m source plan e) staged) in
      either plan.apart next (refuses refusals.NoStore)
      (unwritten_told e.image (staged_effect e (in_place m source plan e) staged)
      (staged_told e (in_place m source plan e) (placed_told source plan e) staged))
      (refused refusals.NoStore)
  placed source plan e k staged (Some store) =
      unwritten_told e.image (staged_effect e (in_store m source plan e store k) staged)
      (staged_told e (in_store m source plan e store k)
      (λ bytes. roomed source plan e store k bytes
      (differences k (source_bytes m.state source e.name) bytes e.blocks))
      staged)

  found : (source : ℕ) (plan : Plan) (k : Chunk) (staged : Option (List ℕ))
      (e : Option PlanEntry)
      → TellsWanted (entry_effect m source plan k staged e)
  found source plan k staged None = refused refusals.Unknown
  found source plan k staged (Some e) = placed source plan e k staged e.store

  -- nor does a physical partition
  physical : (target : ℕ) (staged : Option (List ℕ)) (p : Option Physical)
      → TellsWanted (physical_effect m target staged p)
  physical = physical_makes m TellsWanted refused (λ ps wants. absurd cc)

  flashes : (staged : Option (List ℕ)) (name : List ℕ) (k : Chunk) (phase : Phase)
      → TellsWanted (flash_effect m staged name k phase)
  flashes staged name k (Installing source plan) =
      let base : List ℕ = base_of name in
      let target : ℕ = other_slot source in
      let p : Option Physical = physical_named base m.state.physical in
      let e : Option PlanEntry = entry_named base plan.entries in
      either (is_full target name)
      (named_effect m source plan k staged base)
      (refuses refusals.BadName)
      (either (is_physical base m.state.physical)
      (physical_effect m target staged p)
      (entry_effect m source plan k staged e)
      (physical target staged p)
      (found source plan k staged e))
      (refused refusals.BadName)
  flashes staged name k _ = refused refusals.NotInstalling

  -- ---- a block, and the end of an overlay

  mapped_unless : (b : Bool) (r : Refusal) (next : Effect State)
      → TellsWanted (effect_map (in_state m) next)
      → TellsWanted (effect_map (in_state m) (over.unless b r next))
  mapped_unless true r next told = told
  mapped_unless false r next told = refused r

  blocks : (o : Overlay) (block : ℕ) (staged : Option (List ℕ))
      → TellsWanted (effect_map (in_state m) (write_staged m.state o block staged))
  blocks o block None = refused refusals.NothingStaged
  blocks o block (Some bytes) =
      let count : ℕ = blocks_in o.bytes in
      let need : ℕ = need_of (length o.blocks + 1) in
      let done : Effect State = wanting true
      (does replies.Done (with_overlay m.state (Some (written_over block bytes o)))) in
      let room : Effect State =
      over.unless (nat_le need o.store) (refusals.StoreFull need o.store) done in
      let inside : Effect State =
      over.unless (nat_lt block count) (refusals.BadBlock block count) room in
      mapped_unless (length bytes == 4096) (refusals.BadLength (length bytes)) inside
      (mapped_unless (nat_lt block count) (refusals.BadBlock block count) room
      (mapped_unless (nat_le need o.store) (refusals.StoreFull need o.store) done (λ wants. refl)))

  writes : (staged : Option (List ℕ)) (block : ℕ) (o : Option Overlay)
      → TellsWanted (effect_map (in_state m) (write_row m.state staged block o))
  writes staged block None = refused refusals.NotOverlaid
  writes staged block (Some o) = blocks o block staged

  discards : (o : Option Overlay)
      → TellsWanted (effect_map (in_state m) (discard_row m.state o))
  discards None wants = absurd cc
  discards (Some o) wants = absurd cc

  -- ---- commands that want nothing

  neither : (b : Bool) (e f : Effect Mounted)
      → WantsNothing e
      → WantsNothing f
      → WantsNothing (cond b e f)
  neither true e f one other = one
  neither false e f one other = other

  activates : (has : Bool) (c : Control)
      → WantsNothing (effect_map (in_state m) (active_effect has m.state c))
  activates true c = refl
  activates false c = refl

  prints : (name : List ℕ) (f : Found)
      → WantsNothing (effect_map (in_state m) (print_effect name f))
  prints name (Image_is image) = refl
  prints name (Refused_by refusal) = refl

  digests : (f : Found) → WantsNothing (effect_map (in_state m) (digest_effect f))
  digests (Image_is image) = refl
  digests (Refused_by refusal) = refl

  unless_none : (b : Bool) (refusal : Refusal) (e : Effect State)
      → e.wants ≡ false
      → (unless b refusal e).wants ≡ false
  unless_none true refusal e none = none
  unless_none false refusal e none = refl

  cancels : (phase : Phase) → WantsNothing (cancel_effect m phase)
  cancels Idle = refl
  cancels (Installing source plan) = refl
  cancels (Staged source left) =
      unless_none (m.state.control.current == source) refusals.RunningTarget
      (does replies.Done (cancelled_state m.state source)) refl
  cancels (Merging target left) = refl

  completes : (source : ℕ) (plan : Plan) (least : Option (List ℕ))
      → WantsNothing (complete_effect m source plan least)
  completes source plan None = refl
  completes source plan (Some name) = refl

  finishes : (phase : Phase) → WantsNothing (finish_effect m phase)
  finishes (Installing source plan) = completes source plan (least_missing m.state source plan)
  finishes _ = refl

  merge_begins : (phase : Phase) → WantsNothing (begin_merge_effect m phase)
  merge_begins (Staged source left) =
      let marked : Bool = (info_at m.state.control (other_slot source)).successful in
      let begun : Effect State = does replies.Done (merging_state m.state source left) in
      unless_none (not (m.state.control.current == source)) refusals.NotRunningTarget
      (unless marked refusals.NotSuccessful begun)
      (unless_none marked refusals.NotSuccessful begun refl)
  merge_begins _ = refl

  merges : (blocks : ℕ) (phase : Phase) → WantsNothing (merge_effect m blocks phase)
  merges blocks (Merging target left) = refl
  merges blocks _ = refl

  -- ---- each command

  -- a command of a verb takes no memory
  pub verb_wants : (staged : Option (List ℕ)) (c : Command)
      → IsVerb c
      → WantsNothing (effect_on m staged c)
  unfolding machine_effect
  verb_wants staged (SetActive n) verb =
      activates (is_some (images_at m.state n)) (activated_of m.state.control n)
  verb_wants staged Boot verb = refl
  verb_wants staged Mark verb = refl
  verb_wants staged (Print name) verb = prints name (found_of m.state name)
  verb_wants staged (Digest name) verb = digests (found_of m.state name)
  verb_wants staged Cancel verb = cancels m.state.phase
  verb_wants staged BeginMerge verb = merge_begins m.state.phase
  verb_wants staged (Merge blocks) verb = merges blocks m.state.phase
  verb_wants staged _ verb = absurd cc

  verb_told : (staged : Option (List ℕ)) (c : Command)
      → IsVerb c
      → TellsWanted (effect_on m staged c)
  verb_told staged c verb = nothing_told (effect_on m staged c) (verb_wants staged c verb)

  -- where memory may be refused, the reply is that it is done, or that the table is full
  pub wants_told : (staged : Option (List ℕ)) (c : Command)
      → c ≢ UpdateSuper
      → TellsWanted (effect_on m staged c)
  unfolding machine_effect
  wants_told staged Begin other =
      plain_told m.state.overlay (begin_effect m false m.state.phase) (begins false m.state.phase)
  wants_told staged Factory other =
      plain_told m.state.overlay (begin_effect m true m.state.phase) (begins true m.state.phase)
  wants_told staged (Create name size) other =
      edits no_guard (create_edit name size) m.state.phase
  wants_told staged (Resize name size) other =
      edits (settled_guard (nat_le size (2 ^ 40)) name) (resize_edit name size) m.state.phase
  wants_told staged (Delete name) other =
      edits (settled_guard true name) (delete_edit name) m.state.phase
  wants_told staged (Snapshot name size) other =
      edits store_guard (snapshot_edit name size) m.state.phase
  wants_told staged (Flash name k) other =
      subst TellsWanted (sym (flash_by_blocks m staged name k))
      (flashes staged name k m.state.phase)
  wants_told staged (Keep name) other =
      keep_makes m TellsWanted refused (λ ps wants. absurd cc) staged name
  wants_told staged Finish other =
      nothing_told (finish_effect m m.state.phase) (finishes m.state.phase)
  wants_told staged (SetActive n) other = verb_told staged (SetActive n) refl
  wants_told staged Boot other = verb_told staged Boot refl
  wants_told staged Mark other = verb_told staged Mark refl
  wants_told staged (Print name) other = verb_told staged (Print name) refl
  wants_told staged (Digest name) other = verb_told staged (Digest name) refl
  wants_told staged Cancel other = verb_told staged Cancel refl
  wants_told staged BeginMerge other = verb_told staged BeginMerge refl
  wants_told staged (Merge blocks) other = verb_told staged (Merge blocks) refl
  wants_told staged UpdateSuper other = absurd (other refl)
  wants_told staged (OverlayOf name size) other =
      plain_told m.state.overlay (overlay_begun m name size m.state.phase)
      (over_begins name size m.state.phase)
  wants_told staged (OverlayWrite block) other = writes staged block m.state.overlay
  wants_told staged OverlayDiscard other = discards m.state.overlay
