-- What the commands of an overlay make of a device: nothing, or it with another overlay.
use Rattle.std.proofs.Common.{ℕ, Bool, true, false, List, [], ◌∷◌, length, Option, Some, None}
use Rattle.std.proofs.Common.{Result, Ok, Err}
use Rattle.std.specs.Prelude.{◌+◌, ◌==◌, nat_le, nat_lt, not}
use Rattle.vab_model.specs.Physical.{is_physical}
use Rattle.vab_names.specs.Names.{is_full, base_of}
use Rattle.vab_space.specs.Space.{need_of}
use Rattle.vab_layout.specs.declared.layout.Layout.{Layout}
use Rattle.vab_builder.specs.declared.fault.EditFault.{EditFault}
use Rattle.vab_model.specs.declared.state.Image.{Image as ImageOfSlot}
use Rattle.vab_model.specs.declared.state.Overlay.{Overlay as OverlayOf}
use Rattle.vab_model.specs.declared.state.Phase.{Phase}
use Rattle.vab_model.specs.declared.state.Phase.TheVariants.{Idle, Installing, Staged, Merging}
use Rattle.vab_model.specs.declared.state.State.{State}
use Rattle.vab_model.specs.declared.command.Refusal.{Refusal}
use Rattle.vab_model.specs.declared.command.Refusal.TheVariants as refusals
use Rattle.vab_model.specs.Commands.{Overlay, OverlayWrite, OverlayDiscard}
use Rattle.vab_model.specs.Effects.{Effect, refuses, if_plain, effect_map}
use Rattle.vab_model.specs.Machine.{machine_effect}
use Rattle.vab_model.specs.Over.{written_over, blank_overlay}
use Rattle.vab_model.specs.Overlay.{unless, with_overlay, write_row, write_staged, discard_row}
use Rattle.vab_model.specs.Overlay.{if_room, overlay_image, store_of_size}
use Rattle.vab_model.specs.Overlay.{used_over, is_store_size}
use Rattle.vab_model.specs.Plans.{blocks_in, images_of}
use Rattle.vab_model.specs.State.{image_named}
use Rattle.vab_device.specs.Mounted.{Mounted, in_state}
use Rattle.vab_device.specs.Updates.{effect_on, over_effect, over_table, overlay_begun, layout_at}

-- what holds of a refusal and of a row holds of the row behind the test of an overlay
pub if_either : {S : Type 0} (P : Effect S → Type 0) (o : Option OverlayOf) (next : Effect S)
    → P (refuses refusals.NotIdle)
    → P next
    → P (if_plain o next)
if_either P None next refused is = is
if_either P (Some o) next refused is = refused

-- the device with this overlay
abbrev pub over : Mounted → Option OverlayOf → Mounted
over m o = in_state m (with_overlay m.state o)

module _ (m : Mounted) (P : List Mounted → Type 0) (nothing : P [])
    (one : (o : Option OverlayOf) → P (over m o ∷ [])) where
  abbrev Makes : Effect Mounted → Type 0
  Makes e = P e.later

  abbrev MakesState : Effect State → Type 0
  MakesState e = P (effect_map (in_state m) e).later

  unless_makes : (b : Bool) (r : Refusal) (next : Effect Mounted)
      → Makes next
      → Makes (unless b r next)
  unless_makes true r next is = is
  unless_makes false r next is = nothing

  unless_state : (b : Bool) (r : Refusal) (next : Effect State)
      → MakesState next
      → MakesState (unless b r next)
  unless_state true r next is = is
  unless_state false r next is = nothing

  -- ---- it begins

  by_text : (image : ImageOfSlot) (store : ℕ) (r : Result Layout EditFault)
      → Makes (over_effect m image store r)
  by_text image store (Ok l) = one (Some (blank_overlay image store))
  by_text image store (Err fault) = nothing

  by_table : (name : List ℕ) (slot : ℕ) (l : Option Layout) (image : ImageOfSlot) (store : ℕ)
      → Makes (over_table m name slot l image store)
  by_table name slot None image store = nothing
  by_table name slot (Some l) image store = by_text image store _

  by_image : (images : List ImageOfSlot) (size : ℕ) (next : ImageOfSlot → ℕ → Effect Mounted)
      → ((image : ImageOfSlot) (store : ℕ) → Makes (next image store))
      → (i : Option ImageOfSlot)
      → Makes (overlay_image m.state.cap images size next i)
  by_image images size next is None = nothing
  by_image images size next is (Some i) =
      let store : ℕ = store_of_size (blocks_in i.bytes) size in
      unless_makes (nat_le (used_over images store) m.state.cap)
      (refusals.NoRoom (used_over images store) m.state.cap)
      (next i store) (is i store)

  by_phase : (name : List ℕ) (size : ℕ) (phase : Phase)
      → Makes (overlay_begun m name size phase)
  by_phase name size Idle =
      let current : ℕ = m.state.control.current in
      let next : ImageOfSlot → ℕ → Effect Mounted =
      over_table m name current (layout_at m.places current) in
      let image : Option ImageOfSlot = image_named (base_of name) (images_of m.state current) in
      let found : Effect Mounted =
      overlay_image m.state.cap (images_of m.state current) size next image in
      let logical : Bool = not (is_physical (base_of name) m.state.physical) in
      let named : Effect Mounted = unless logical refusals.Physical found in
      unless_makes (is_full current name) refusals.BadName
      (unless (is_store_size size) refusals.BadSize named)
      (unless_makes (is_store_size size) refusals.BadSize named
      (unless_makes logical refusals.Physical found
      (by_image (images_of m.state current) size next
      (by_table name current (layout_at m.places current)) image)))
  by_phase name size (Installing source plan) = nothing
  by_phase name size (Staged source left) = nothing
  by_phase name size (Merging target left) = nothing

  pub overlay_makes : (staged : Option (List ℕ)) (name : List ℕ) (size : ℕ)
      → P (effect_on m staged (Overlay name size)).later
  overlay_makes staged name size =
      if_either Makes m.state.overlay (overlay_begun m name size m.state.phase) nothing
      (by_phase name size m.state.phase)

  -- ---- a block is written, and it ends

  by_staged : (block : ℕ) (o : OverlayOf) (staged : Option (List ℕ))
      → MakesState (write_staged m.state o block staged)
  by_staged block o None = nothing
  by_staged block o (Some bytes) =
      let need = need_of (length o.blocks + 1) in
      unless_state (length bytes == 4096) (refusals.BadLength (length bytes))
      (unless (nat_lt block (blocks_in o.bytes)) (refusals.BadBlock block (blocks_in o.bytes))
      (if_room m.state o block bytes))
      (unless_state (nat_lt block (blocks_in o.bytes))
      (refusals.BadBlock block (blocks_in o.bytes))
      (if_room m.state o block bytes)
      (unless_state (nat_le need o.store) (refusals.StoreFull need o.store) _
      (one (Some (written_over block bytes o)))))

  by_overlay : (staged : Option (List ℕ)) (block : ℕ) (o : Option OverlayOf)
      → MakesState (write_row m.state staged block o)
  by_overlay staged block None = nothing
  by_overlay staged block (Some o) = by_staged block o staged

  by_end : (o : Option OverlayOf) → MakesState (discard_row m.state o)
  by_end None = nothing
  by_end (Some o) = one None

  pub write_makes : (staged : Option (List ℕ)) (block : ℕ)
      → P (effect_on m staged (OverlayWrite block)).later
  unfolding machine_effect
  write_makes staged block = by_overlay staged block m.state.overlay

  pub discard_makes : (staged : Option (List ℕ)) → P (effect_on m staged OverlayDiscard).later
  unfolding machine_effect
  discard_makes staged = by_end m.state.overlay
