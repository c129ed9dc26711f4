-- The row of an overlay: the machine doesn't know of the text of the slot's table with the store.
use Rattle.std.proofs.Common.{◌≡◌, ℕ, Bool, true, false, List, inl, inr, refl, sym, subst}
use Rattle.std.specs.Prelude.{nat_le, not, Option, Some, None}
use Rattle.vab_model.specs.Physical.{is_physical}
use Rattle.std.proofs.lemmas.Bool.{cases_Bool, leb-false}
use Rattle.vab_disk.specs.Disk.{Image}
use Rattle.vab_names.specs.Names.{is_full, base_of}
use Rattle.vab_tables.specs.Spelling.{table_size_of}
use Rattle.vab_layout.specs.declared.layout.Layout.{Layout}
use Rattle.vab_layout.specs.Layout.{table_of}
use Rattle.vab_layout.specs.Plain.{plain}
use Rattle.vab_builder.specs.Edits.{fitting}
use Rattle.vab_builder.specs.Overlay.{with_overlay as table_over}
use Rattle.vab_model.specs.declared.state.Image.{Image as ImageOfSlot}
use Rattle.vab_model.specs.declared.state.Overlay.{Overlay as OverlayOf}
use Rattle.vab_model.specs.declared.state.Phase.{Phase}
use Rattle.vab_model.specs.declared.state.Phase.TheVariants.{Idle, Installing, Staged, Merging}
use Rattle.vab_model.specs.declared.state.State.{State}
use Rattle.vab_model.specs.declared.command.Refusal.{Refusal}
use Rattle.vab_model.specs.declared.command.Refusal.TheVariants as refusals
use Rattle.vab_model.specs.declared.command.Reply.TheVariants as replies
use Rattle.vab_model.specs.Commands.{Overlay}
use Rattle.vab_model.specs.Effects.{Effect, does, wanting, if_plain}
use Rattle.vab_model.specs.Machine.{machine_effect}
use Rattle.vab_model.specs.Over.{blank_overlay}
use Rattle.vab_model.specs.Overlay.{unless, used_over, store_of_size, is_store_size}
use Rattle.vab_model.specs.Overlay.{overlay_image, overlay_effect, with_overlay}
use Rattle.vab_model.specs.Plans.{blocks_in, images_of}
use Rattle.vab_model.specs.State.{image_named}
use Rattle.vab_device.specs.Mounted.{Mounted}
use Rattle.vab_device.specs.Reading.{IsIn}
use Rattle.vab_device.specs.Updates.{over_effect, over_table, overlay_begun, layout_at}
use Rattle.vab_targets.specs.Sectors.{HasWholeSectors}
use Rattle.vab_machine_laws.specs.Edits.{IsMachinesOrFull, IsTheMachinesOrFull}
use Rattle.vab_machine_laws.proofs.Sources.{has_idle}

module _
    (size : ℕ) (image : Image) (m : Mounted)
    (whole : HasWholeSectors size image)
    (is : IsIn size m image)
    (name : List ℕ) (bytes : ℕ) where
  abbrev slot : ℕ
  slot = m.state.control.current

  -- what the machine says of an image and of a store
  abbrev begun : ImageOfSlot → ℕ → Effect State
  begun i store =
      wanting true (does replies.Done (with_overlay m.state (Some (blank_overlay i store))))

  -- what the device says, by the table of the slot
  abbrev told : Option Layout → ImageOfSlot → ℕ → Effect Mounted
  told o = over_table m name slot o

  abbrev Are : Effect Mounted → Effect State → Type 0
  Are e f = IsMachinesOrFull m.places.geometry.max e f

  unless_are : (b : Bool) (refusal : Refusal) (e : Effect Mounted) (f : Effect State)
      → Are e f
      → Are (unless b refusal e) (unless b refusal f)
  unless_are true refusal e f are = are
  unless_are false refusal e f are = inl refl

  -- the table with the store
  fits_are : (i : ImageOfSlot) (store : ℕ) (l : Layout)
      → Are (over_effect m i store (fitting m.places.geometry.max l)) (begun i store)
  fits_are i store l =
      let most : ℕ = m.places.geometry.max in
      let long : ℕ = table_size_of (table_of l) in
      elim (cases_Bool (nat_le long most)) [
        | inl fits ↦ rw fits (inl refl)
        | inr over ↦ rw over (inr (record {
          size = long;
          longer = leb-false long most over;
          full = refl;
          done = refl;
        }))
      ]

  -- the slot has a table
  tables_are : (i : ImageOfSlot) (store : ℕ)
      → m.state.phase ≡ Idle
      → m.state.overlay ≡ None
      → Are (told (layout_at m.places slot) i store) (begun i store)
  tables_are i store phase none =
      let h = has_idle size image m whole is phase none in
      subst (λ (o : Option Layout). Are (told o i store) (begun i store)) (sym h.from)
      (fits_are i store (table_over slot (plain slot h.l) name store))

  image_are : (found : Option ImageOfSlot)
      → m.state.phase ≡ Idle
      → m.state.overlay ≡ None
      → Are
      (overlay_image m.state.cap (images_of m.state slot) bytes (told (layout_at m.places slot))
      found)
      (overlay_image m.state.cap (images_of m.state slot) bytes begun found)
  image_are None phase none = inl refl
  image_are (Some i) phase none =
      let store : ℕ = store_of_size (blocks_in i.bytes) bytes in
      let used : ℕ = used_over (images_of m.state slot) store in
      unless_are (nat_le used m.state.cap) (refusals.NoRoom used m.state.cap)
      (told (layout_at m.places slot) i store) (begun i store)
      (tables_are i store phase none)

  row_are : (phase : Phase)
      → m.state.phase ≡ phase
      → m.state.overlay ≡ None
      → Are (overlay_begun m name bytes phase) (overlay_effect m.state begun name bytes phase)
  row_are Idle phase none =
      let images : List ImageOfSlot = images_of m.state slot in
      let found : Option ImageOfSlot = image_named (base_of name) images in
      let e : Effect Mounted =
      overlay_image m.state.cap images bytes (told (layout_at m.places slot)) found in
      let f : Effect State = overlay_image m.state.cap images bytes begun found in
      let logical : Bool = not (is_physical (base_of name) m.state.physical) in
      let named_e : Effect Mounted = unless logical refusals.Physical e in
      let named_f : Effect State = unless logical refusals.Physical f in
      unless_are (is_full slot name) refusals.BadName
      (unless (is_store_size bytes) refusals.BadSize named_e)
      (unless (is_store_size bytes) refusals.BadSize named_f)
      (unless_are (is_store_size bytes) refusals.BadSize named_e named_f
      (unless_are logical refusals.Physical e f (image_are found phase none)))
  row_are (Installing source plan) phase none = inl refl
  row_are (Staged source left) phase none = inl refl
  row_are (Merging target left) phase none = inl refl

  pub overlay_are : (o : Option OverlayOf)
      → m.state.overlay ≡ o
      → Are (if_plain o (overlay_begun m name bytes m.state.phase))
      (if_plain o (overlay_effect m.state begun name bytes m.state.phase))
  overlay_are None over = row_are m.state.phase refl over
  overlay_are (Some o) over = inl refl

pub overlay_is : (name : List ℕ) (bytes : ℕ) → IsTheMachinesOrFull (Overlay name bytes)
unfolding machine_effect
overlay_is name bytes size image m staged whole is =
    overlay_are size image m whole is name bytes m.state.overlay refl
