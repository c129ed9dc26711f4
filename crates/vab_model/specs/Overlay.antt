-- The commands of an overlay: what is written over a partition of the current slot, and read in its
-- place, where there is no update.
use Rattle.std.specs.Prelude.{ℕ, ◌+◌, ◌^◌, ◌==◌, nat_le, nat_lt, Bool, true, false, not, ◌&&◌, ◌||◌}
use Rattle.std.specs.Prelude.{if◌then◌else◌, List, [], length, map, Option, Some, None}
use Rattle.vab_names.specs.Names.{is_full, base_of}
use Rattle.vab_space.specs.Space.{blocks_of, need_of, used_of}
use Rattle.vab_model.specs.declared.state.Image.{Image}
use Rattle.vab_model.specs.declared.state.Overlay.{Overlay}
use Rattle.vab_model.specs.declared.state.Phase.{Phase}
use Rattle.vab_model.specs.declared.state.Phase.TheVariants.{Idle}
use Rattle.vab_model.specs.declared.state.State.{State}
use Rattle.vab_model.specs.declared.command.Refusal.{Refusal}
use Rattle.vab_model.specs.declared.command.Refusal.TheVariants as refusals
use Rattle.vab_model.specs.declared.command.Reply.TheVariants as replies
use Rattle.vab_model.specs.Effects.{Effect, refuses, does, wanting, if_plain}
use Rattle.vab_model.specs.Over.{written_over, blank_overlay}
use Rattle.vab_model.specs.Plans.{blocks_in, images_of}
use Rattle.vab_model.specs.Physical.{is_physical}
use Rattle.vab_model.specs.State.{image_named}

-- a store of so many bytes over a partition of so many blocks, in blocks; 0 bytes are as many as
-- all of the partition's blocks may need
abbrev pub store_of_size : (blocks size : ℕ) → ℕ
store_of_size blocks size = if size == 0 then need_of blocks else blocks_of size

-- that many bytes are those of a store, at most 2^40, and two blocks at least
abbrev pub is_store_size : (size : ℕ) → Bool
is_store_size size = nat_le size (2 ^ 40) && (size == 0 || nat_lt 1 (blocks_of size))

-- the blocks of the images of a slot, and those of a store over one of them
abbrev pub used_over : List Image → (store : ℕ) → ℕ
used_over images store = used_of (map (λ (i : Image). blocks_in i.bytes) images) [] + store

-- this refusal, unless a test holds
abbrev pub unless : {S : Type 0} → Bool → Refusal → Effect S → Effect S
unless true refusal next = next
unless false refusal next = refuses refusal

-- An overlay of an image begins: nothing is written yet. What follows is made of the image and the
-- blocks of the store.
abbrev pub overlay_image : {S : Type 0}
    → (cap : ℕ)
    → List Image
    → (size : ℕ)
    → (Image → ℕ → Effect S)
    → Option Image
    → Effect S
overlay_image cap images size next None = refuses refusals.Unknown
overlay_image cap images size next (Some i) =
    let store = store_of_size (blocks_in i.bytes) size in
    unless (nat_le (used_over images store) cap) (refusals.NoRoom (used_over images store) cap)
    (next i store)

-- of the current slot's image of a whole name, where there is no update and no overlay
abbrev pub overlay_effect : {S : Type 0}
    → State
    → (Image → ℕ → Effect S)
    → List ℕ
    → (size : ℕ)
    → Phase
    → Effect S
overlay_effect s next name size Idle =
    unless (is_full s.control.current name) refusals.BadName
    (unless (is_store_size size) refusals.BadSize
    (unless (not (is_physical (base_of name) s.physical)) refusals.Physical
    (overlay_image s.cap (images_of s s.control.current) size next
    (image_named (base_of name) (images_of s s.control.current)))))
overlay_effect s next name size _ = refuses refusals.NotIdle

-- the state with this overlay
abbrev pub with_overlay : State → Option Overlay → State
with_overlay s overlay = record s { overlay = overlay }

abbrev pub overlay_row : State → List ℕ → (size : ℕ) → Effect State
overlay_row s name size =
    if_plain s.overlay
    (overlay_effect s
    (λ image store. wanting true
    (does replies.Done (with_overlay s (Some (blank_overlay image store)))))
    name size s.phase)

-- a block of 4096 bytes is written over the image, where the store has room for one exception more
abbrev pub if_room : State → Overlay → (block : ℕ) → List ℕ → Effect State
if_room s o block bytes =
    let need = need_of (length o.blocks + 1) in
    unless (nat_le need o.store) (refusals.StoreFull need o.store)
    (wanting true (does replies.Done (with_overlay s (Some (written_over block bytes o)))))

-- the staged bytes are a block of the overlaid image's
abbrev pub write_staged : State → Overlay → (block : ℕ) → Option (List ℕ) → Effect State
write_staged s o block None = refuses refusals.NothingStaged
write_staged s o block (Some bytes) =
    unless (length bytes == 4096) (refusals.BadLength (length bytes))
    (unless (nat_lt block (blocks_in o.bytes)) (refusals.BadBlock block (blocks_in o.bytes))
    (if_room s o block bytes))

abbrev pub write_row : State → Option (List ℕ) → (block : ℕ) → Option Overlay → Effect State
write_row s staged block None = refuses refusals.NotOverlaid
write_row s staged block (Some o) = write_staged s o block staged

abbrev pub discard_row : State → Option Overlay → Effect State
discard_row s None = refuses refusals.NotOverlaid
discard_row s (Some o) = does replies.Done (with_overlay s None)
