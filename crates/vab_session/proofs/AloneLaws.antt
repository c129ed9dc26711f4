-- Where one slot alone has images and no update is ready, it stays so until an installation is
-- finished, or the slot is wiped.
use Rattle.std.proofs.Common.{◌≡◌, ◌∙◌, ℕ, zero, suc, ◌<◌, inl, inr, Bool, true, false, cond}
use Rattle.std.proofs.Common.{List, [], ◌∷◌, length, codes, Option, Some, None, Result}
use Rattle.std.proofs.Common.{Ok, Err, refl, sym, ap, subst, arith}
use Rattle.std.proofs.lemmas.Bool.{and_parts, cases_eq}
use Rattle.std.specs.Prelude.{◌+◌, ◌*◌, ◌^◌, is_some, ◌&&◌, nat_lt, nat_le, ◌||◌, slice_index_or}
use Rattle.vab_disk.specs.Disk.{Image}
use Rattle.vab_bootctl.specs.declared.slots.Control.{Control}
use Rattle.vab_bootctl.specs.Boot.{info_at, IsBootable, chosen_of, booted_of}
use Rattle.vab_bootctl.specs.Boot.{activated_of}
use Rattle.vab_bootctl.proofs.BootLaws.{chosen_is, booted_current, booted_none}
use Rattle.vab_names.specs.Names.{is_full, base_of}
use Rattle.vab_space.specs.declared.Chunk.{Chunk}
use Rattle.vab_space.specs.Chunks.{need_at}
use Rattle.vab_layout.specs.declared.layout.Layout.{Layout}
use Rattle.vab_layout.specs.Slots.{other_slot}
use Rattle.vab_builder.specs.declared.fault.EditFault.{EditFault}
use Rattle.vab_model.specs.declared.state.Image.{Image as ImageOfSlot}
use Rattle.vab_model.specs.declared.state.PlanImage.{PlanImage}
use Rattle.vab_model.specs.declared.state.PlanImage.TheVariants.{Kept as IsKept, Declared, Written}
use Rattle.vab_model.specs.declared.state.PlanEntry.{PlanEntry}
use Rattle.vab_model.specs.declared.state.Plan.{Plan}
use Rattle.vab_model.specs.declared.state.Phase.{Phase}
use Rattle.vab_model.specs.declared.state.Phase.TheVariants.{Idle, Installing, Staged, Merging}
use Rattle.vab_model.specs.declared.state.State.{State}
use Rattle.vab_model.specs.declared.command.Refusal.{Refusal}
use Rattle.vab_model.specs.declared.command.Refusal.TheVariants as refusals
use Rattle.vab_model.specs.declared.command.Reply.TheVariants as replies
use Rattle.vab_model.specs.Commands.{Command, SetActive, Boot, Mark, Print, Digest, Begin, Create}
use Rattle.vab_model.specs.Commands.{Resize, Delete, Snapshot, Flash, Finish, Cancel, BeginMerge}
use Rattle.vab_model.specs.Commands.{Merge, Factory, UpdateSuper, Overlay, OverlayWrite}
use Rattle.vab_model.specs.Commands.{OverlayDiscard}
use Rattle.vab_model.specs.declared.state.Overlay.{Overlay as OverlayOf}
use Rattle.vab_model.specs.State.{images_at, has_images, with_control}
use Rattle.vab_model.specs.Effects.{Effect, Found, Image_is, Refused_by, found_of, print_effect}
use Rattle.vab_model.specs.Effects.{digest_effect, active_effect, effect_map, IsOneOf}
use Rattle.vab_model.specs.Machine.{machine_effect}
use Rattle.vab_model.specs.Effects.{last_of, refuses, wanting}
use Rattle.vab_model.specs.Plans.{entry_named, with_entries}
use Rattle.vab_model.specs.Machine.{without_images}
use Rattle.vab_model.specs.Staged.{is_sparse}
use Rattle.vab_model.specs.Machine.{turns as turns_of}
use Rattle.vab_device.specs.Mounted.{Mounted, Places, in_state}
use Rattle.vab_device.specs.Flashed.{staged_effect, unwritten_effect, in_store, in_place}
use Rattle.vab_device.specs.Flashed.{placed_effect, entry_effect, flash_effect, if_room, flashed}
use Rattle.vab_device.specs.Flashed.{with_image, filled, differences, source_bytes}
use Rattle.vab_device.specs.Updates.{effect_on, table_effect, begun_effect, begin_effect, layout_at}
use Rattle.vab_device.specs.Updates.{no_entries, EditOf, edited_effect, Guard, unless_kept}
use Rattle.vab_device.specs.Updates.{edit_effect, no_guard, settled_guard, store_guard, create_edit}
use Rattle.vab_device.specs.Updates.{resize_edit, delete_edit, snapshot_edit}
use Rattle.vab_device.specs.Updates.{cancelled, cancel_effect, begin_merge_effect, merge_effect}
use Rattle.vab_device.specs.Updates.{turns}
use Rattle.vab_fbproto.specs.Requests.{Asked, Getvar, Download, Do, MergeAll, BootAndEnd}
use Rattle.vab_fbproto.specs.Requests.{request_of}
use Rattle.vab_fbproto.specs.declared.request.BadCommand.{BadCommand}
use Rattle.vab_exchanges.specs.Session.{Exchange, packet, most_data}
use Rattle.vab_exchanges.specs.Items.{Response, Kept, Item, item_by, item_still, item_asked}
use Rattle.vab_exchanges.specs.Items.{item_download, item_of, item_open}
use Rattle.vab_exchanges.specs.Items.{unless_refused, item_done, item_staged, no_memory}
use Rattle.vab_device.specs.Reading.{IsIn}
use Rattle.vab_device.proofs.FlashedLaws.{flash_by_blocks}
use Rattle.vab_model.specs.Kinds.{ends_alone}
use Rattle.vab_session.specs.Alone.{IsUnready, IsAlone, BootsTo, StandsAlone}
use Rattle.vab_session.specs.Responses.{response, left_of}
use Rattle.vab_session.proofs.OverlayLaws.{if_either, over, overlay_makes, write_makes}
use Rattle.vab_session.proofs.OverlayLaws.{discard_makes}
use Rattle.vab_bootctl.proofs.BootLaws.{activated_current, marked_current}
use Rattle.vab_device.proofs.HeldLaws.{held_in, physical_makes, keep_makes}
use Rattle.vab_device.specs.Flashed.{named_effect, physical_effect}
use Rattle.vab_model.specs.Physical.{is_physical, physical_named}
use Rattle.vab_model.specs.declared.state.Physical.{Physical}
use Rattle.vab_model.specs.Commands.{Keep}

-- a packet that ends an installation, or wipes the slot
abbrev pub asks_end : Result Asked BadCommand → Bool
asks_end (Ok (Do command)) = ends_alone command
asks_end _ = false

-- ---- a boot

-- Where the current slot alone has images, a boot stays there.
module _ (s : State) (slot : ℕ)
    (below : slot < 2)
    (current : s.control.current ≡ slot)
    (other : images_at s (other_slot slot) ≡ None) where
  has_at : (n : ℕ) → n < 2 → slice_index_or (has_images s) n false ≡ is_some (images_at s n)
  has_at zero lt = refl
  has_at (suc zero) lt = refl
  has_at (suc (suc n)) lt = absurd (omega (arith, lt))

  -- the other slot has no images
  other_none : (n : ℕ) → n ≡ other_slot slot → is_some (images_at s n) ≡ false
  other_none n at = ap (λ (k : ℕ). is_some (images_at s k)) at ∙ ap is_some other

  -- a bootable slot has images
  only_bootable : (n : ℕ) → IsBootable s.control (has_images s) n → n ≡ slot
  only_bootable n bootable = elim (cases_eq n slot) [
    | inl same ↦ same
    | inr apart ↦
        let there = (and_parts
        (slice_index_or (has_images s) n false && nat_lt 0 (info_at s.control n).priority)
        ((info_at s.control n).successful || nat_lt 0 (info_at s.control n).tries)
        bootable.1).0 in
        let has = (and_parts
        (slice_index_or (has_images s) n false)
        (nat_lt 0 (info_at s.control n).priority)
        there).0 in
        let at : n ≡ other_slot slot = omega (arith, apart, below, bootable.0) in
        let none = other_none n at in
        let is : is_some (images_at s n) ≡ true = sym (has_at n bootable.0) ∙ has in
        absurd cc
  ]

  boots_at : (o : Option ℕ)
      → chosen_of s.control (has_images s) ≡ o
      → (booted_of s.control (has_images s)).current ≡ slot
  boots_at None none =
      ap (λ (c : Control). c.current) (booted_none s.control (has_images s) none) ∙ current
  boots_at (Some n) is =
      booted_current s.control (has_images s) n is
      ∙ only_bootable n (chosen_is s.control (has_images s) n is).bootable

-- A boot goes to it.
pub alone_boots : (slot : ℕ) (images : List ImageOfSlot) (m : Mounted)
    → IsAlone slot images m
    → BootsTo slot m
unfolding machine_effect
alone_boots slot images m is =
    ap (λ (n : ℕ). replies.Booted n)
    (boots_at m.state slot is.below is.current is.other
    (chosen_of m.state.control (has_images m.state)) refl)

-- ---- the current slot

-- ---- commands

module _ (slot : ℕ) (images : List ImageOfSlot) where
  -- each of these
  abbrev pub AreAlone : List Mounted → Type 0
  AreAlone ms = (x : Mounted) → IsOneOf ms x → IsAlone slot images x

  none : AreAlone []
  none x is = absurd is

  pub one : (m : Mounted) → IsAlone slot images m → AreAlone (m ∷ [])
  one m is x (inl same) = subst (IsAlone slot images) (sym same) is
  one m is x (inr later) = absurd later

  pub more : (m : Mounted) (ms : List Mounted)
      → IsAlone slot images m
      → AreAlone ms
      → AreAlone (m ∷ ms)
  more m ms is are x (inl same) = subst (IsAlone slot images) (sym same) is
  more m ms is are x (inr later) = are x later

  either : (b : Bool) (e f : Effect Mounted)
      → AreAlone e.later
      → AreAlone f.later
      → AreAlone (cond b e f).later
  either true e f is other = is
  either false e f is other = other

  -- ---- what changes

  with_boot : (m : Mounted) (c : Control)
      → c.current ≡ m.state.control.current
      → IsAlone slot images m
      → IsAlone slot images (in_state m (with_control c m.state))
  with_boot m c same is = record {
    below = is.below;
    current = same ∙ is.current;
    has = is.has;
    other = is.other;
    unready = is.unready;
  }

  with_phase : (m : Mounted) (phase : Phase) (places : Places)
      → IsUnready slot phase
      → IsAlone slot images m
      → IsAlone slot images
      (record { state = record m.state { phase = phase }; places = places })
  with_phase m phase places unready is = record {
    below = is.below;
    current = is.current;
    has = is.has;
    other = is.other;
    unready = unready;
  }

  tabled : (m : Mounted) (source : ℕ) (plan : Plan) (r : Result Layout EditFault)
      → source ≡ slot
      → IsAlone slot images m
      → AreAlone (table_effect m source plan r).later
  tabled m source plan (Ok l) at is = one _ (with_phase m _ _ at is)
  tabled m source plan (Err fault) at is = none

  -- ---- the begin and the edits

  begun : (m : Mounted) (apart : Bool) (source : ℕ) (l : Option Layout)
      → source ≡ slot
      → IsAlone slot images m
      → AreAlone (begun_effect m apart source l).later
  begun m apart source None at is = none
  begun m apart source (Some l) at is = tabled m source (no_entries apart) _ at is

  begins : (m : Mounted) (apart : Bool) (phase : Phase)
      → IsAlone slot images m
      → AreAlone (begin_effect m apart phase).later
  begins m apart Idle is =
      begun m apart m.state.control.current
      (layout_at m.places m.state.control.current) is.current is
  begins m apart (Installing source plan) is = none
  begins m apart (Staged source left) is = none
  begins m apart (Merging target left) is = none

  edited : (m : Mounted) (source : ℕ) (plan : Plan) (edit : EditOf)
      (s t : Option Layout)
      → source ≡ slot
      → IsAlone slot images m
      → AreAlone (edited_effect m source plan edit s t).later
  edited m source plan edit None t at is = none
  edited m source plan edit (Some s) None at is = none
  edited m source plan edit (Some s) (Some t) at is = tabled m source plan _ at is

  kept_off_alone : (kept : Option Refusal) (next : Effect Mounted)
      → AreAlone next.later
      → AreAlone (unless_kept kept next).later
  kept_off_alone None next are = are
  kept_off_alone (Some refusal) next are = none

  edits : (m : Mounted) (guard : Guard) (edit : EditOf) (phase : Phase)
      → IsUnready slot phase
      → IsAlone slot images m
      → AreAlone (edit_effect m guard edit phase).later
  edits m guard edit Idle unready is = none
  edits m guard edit (Installing source plan) unready is =
      kept_off_alone (guard source plan)
      (edited_effect m source plan edit
      (layout_at m.places source)
      (layout_at m.places (other_slot source)))
      (edited m source plan edit
      (layout_at m.places source)
      (layout_at m.places (other_slot source))
      unready is)
  edits m guard edit (Staged source left) unready is = none
  edits m guard edit (Merging target left) unready is = none

  -- ---- an image

  flashed_alone : (m : Mounted) (source : ℕ) (plan : Plan) (e : PlanEntry) (staged : List ℕ)
      (n : ℕ)
      → source ≡ slot
      → IsAlone slot images m
      → AreAlone (flashed m source plan e staged n).later
  flashed_alone m source plan e staged n at is =
      one _
      (with_phase m
      (Installing source
      (with_entries plan
      (with_image e.name (Written (filled staged e.blocks) n) plan.entries)))
      m.places at is)

  roomed : (m : Mounted) (source : ℕ) (plan : Plan) (e : PlanEntry) (store : ℕ) (k : Chunk)
      (staged : List ℕ) (n : ℕ)
      → source ≡ slot
      → IsAlone slot images m
      → AreAlone (if_room m source plan e store k staged n).later
  roomed m source plan e store k staged n at is =
      either (nat_le (need_at n k) store)
      (wanting true (flashed m source plan e staged n))
      (refuses (refusals.StoreFull (need_at n k) store))
      (flashed_alone m source plan e staged n at is)
      none

  written : (e : PlanEntry) (place : List ℕ → Effect Mounted)
      → ((staged : List ℕ) → AreAlone (place staged).later)
      → (staged : Option (List ℕ))
      → AreAlone (staged_effect e place staged).later
  written e place are None = none
  written e place are (Some staged) =
      let large : Refusal = refusals.TooLarge (length staged) (4096 * e.blocks) in
      let is_large : Bool = nat_lt (4096 * e.blocks) (length staged) in
      either (is_sparse staged) (refuses refusals.Sparse)
      (cond is_large (refuses large) (place staged)) none
      (either is_large (refuses large) (place staged) none (are staged))

  unwritten : (image : PlanImage) (next : Effect Mounted)
      → AreAlone next.later
      → AreAlone (unwritten_effect image next).later
  unwritten IsKept next are = are
  unwritten Declared next are = are
  unwritten (Written bytes count) next are = none

  placed : (m : Mounted) (source : ℕ) (plan : Plan) (e : PlanEntry) (k : Chunk)
      (staged : Option (List ℕ)) (store : Option ℕ)
      → source ≡ slot
      → IsAlone slot images m
      → AreAlone (placed_effect m source plan e k staged store).later
  placed m source plan e k staged None at is =
      let next : Effect Mounted = staged_effect e (in_place m source plan e) staged in
      either plan.apart (unwritten_effect e.image next) (refuses refusals.NoStore)
      (unwritten e.image next
      (written e (in_place m source plan e)
      (λ bytes. flashed_alone m source plan e bytes 0 at is) staged))
      none
  placed m source plan e k staged (Some store) at is =
      unwritten e.image (staged_effect e (in_store m source plan e store k) staged)
      (written e (in_store m source plan e store k)
      (λ bytes. roomed m source plan e store k bytes
      (differences k (source_bytes m.state source e.name) bytes e.blocks) at is) staged)

  found : (m : Mounted) (source : ℕ) (plan : Plan) (k : Chunk)
      (staged : Option (List ℕ)) (e : Option PlanEntry)
      → source ≡ slot
      → IsAlone slot images m
      → AreAlone (entry_effect m source plan k staged e).later
  found m source plan k staged None at is = none
  found m source plan k staged (Some e) at is = placed m source plan e k staged e.store at is

  with_held : (m : Mounted) (ps : List Physical)
      → IsAlone slot images m
      → IsAlone slot images (held_in m ps)
  with_held m ps is = record {
    below = is.below;
    current = is.current;
    has = is.has;
    other = is.other;
    unready = is.unready;
  }

  flashes : (m : Mounted) (staged : Option (List ℕ)) (name : List ℕ) (k : Chunk) (phase : Phase)
      → IsUnready slot phase
      → IsAlone slot images m
      → AreAlone (flash_effect m staged name k phase).later
  flashes m staged name k Idle unready is = none
  flashes m staged name k (Installing source plan) unready is =
      let base : List ℕ = base_of name in
      let p : Option Physical = physical_named base m.state.physical in
      let e : Option PlanEntry = entry_named base plan.entries in
      either (is_full (other_slot source) name)
      (named_effect m source plan k staged base)
      (refuses refusals.BadName)
      (either (is_physical base m.state.physical)
      (physical_effect m (other_slot source) staged p)
      (entry_effect m source plan k staged e)
      (physical_makes m (λ x. AreAlone x.later) (λ r. none) (λ ps. one _ (with_held m ps is))
      (other_slot source) staged p)
      (found m source plan k staged e unready is))
      none
  flashes m staged name k (Staged source left) unready is = none
  flashes m staged name k (Merging target left) unready is = none

  -- ---- an update that is dropped

  -- the other slot has no images that could be dropped
  still_has : (s : State) (own : ℕ)
      → own < 2
      → images_at (without_images s (other_slot own)) own ≡ images_at s own
  still_has s zero below = refl
  still_has s (suc zero) below = refl
  still_has s (suc (suc n)) below = absurd (omega (arith, below))

  still_none : (s : State) (own : ℕ)
      → own < 2
      → images_at (without_images s (other_slot own)) (other_slot own) ≡ None
  still_none s zero below = refl
  still_none s (suc zero) below = refl
  still_none s (suc (suc n)) below = absurd (omega (arith, below))

  dropped : (m : Mounted) (source : ℕ)
      → source ≡ slot
      → IsAlone slot images m
      → IsAlone slot images (cancelled m source)
  dropped m source at is =
      subst (λ (n : ℕ). IsAlone slot images (cancelled m n)) (sym at) (record {
        below = is.below;
        current = is.current;
        has = still_has m.state slot is.below ∙ is.has;
        other = still_none m.state slot is.below;
        unready = tt;
      })

  cancels : (m : Mounted) (phase : Phase)
      → IsUnready slot phase
      → IsAlone slot images m
      → AreAlone (cancel_effect m phase).later
  cancels m Idle unready is = none
  cancels m (Installing source plan) unready is = one _ (dropped m source unready is)
  cancels m (Staged source left) unready is = absurd unready
  cancels m (Merging target left) unready is = none

  -- ---- a merge

  merge_begins : (m : Mounted) (phase : Phase)
      → IsUnready slot phase
      → AreAlone (begin_merge_effect m phase).later
  merge_begins m Idle unready = none
  merge_begins m (Installing source plan) unready = none
  merge_begins m (Staged source left) unready = absurd unready
  merge_begins m (Merging target left) unready = none

  turned : (blocks : ℕ) (m : Mounted) (target left : ℕ)
      → target ≡ slot
      → IsAlone slot images m
      → AreAlone (turns blocks m target left)
  unfolding turns_of
  turned zero m target left at is = none
  turned (suc n) m target zero at is = one _ (with_phase m _ _ tt is)
  turned (suc n) m target (suc left) at is =
      more _ _ (with_phase m _ _ at is) (turned n m target left at is)

  merges : (m : Mounted) (blocks : ℕ) (phase : Phase)
      → IsUnready slot phase
      → IsAlone slot images m
      → AreAlone (merge_effect m blocks phase).later
  merges m blocks Idle unready is = none
  merges m blocks (Installing source plan) unready is = none
  merges m blocks (Staged source left) unready is = none
  merges m blocks (Merging target left) unready is = turned blocks m target left unready is

  -- ---- boot control and questions

  activates : (m : Mounted) (has : Bool) (n : ℕ)
      → IsAlone slot images m
      → AreAlone
      (effect_map (in_state m) (active_effect has m.state (activated_of m.state.control n))).later
  activates m true n is =
      one _ (with_boot m _ (activated_current m.state.control n) is)
  activates m false n is = none

  prints : (m : Mounted) (name : List ℕ) (f : Found)
      → AreAlone (effect_map (in_state m) (print_effect name f)).later
  prints m name (Image_is image) = none
  prints m name (Refused_by refusal) = none

  digests : (m : Mounted) (f : Found)
      → AreAlone (effect_map (in_state m) (digest_effect f)).later
  digests m (Image_is image) = none
  digests m (Refused_by refusal) = none

  boots : (m : Mounted)
      → IsAlone slot images m
      → IsAlone slot images
      (in_state m (with_control (booted_of m.state.control (has_images m.state)) m.state))
  boots m is =
      with_boot m _
      (boots_at m.state slot is.below is.current is.other
      (chosen_of m.state.control (has_images m.state)) refl ∙ sym is.current)
      is

  -- ---- an overlay

  with_over : (m : Mounted) (o : Option OverlayOf)
      → IsAlone slot images m
      → IsAlone slot images (over m o)
  with_over m o is = record {
    below = is.below;
    current = is.current;
    has = is.has;
    other = is.other;
    unready = is.unready;
  }

  -- What each command but the end of an installation and a wipe makes of it.
  pub alone_effect : (m : Mounted) (staged : Option (List ℕ)) (c : Command)
      → ends_alone c ≡ false
      → IsAlone slot images m
      → (x : Mounted)
      → IsOneOf (effect_on m staged c).later x
      → IsAlone slot images x
  unfolding machine_effect
  alone_effect m staged (SetActive n) other is = activates m (is_some (images_at m.state n)) n is
  alone_effect m staged Boot other is = one _ (boots m is)
  alone_effect m staged Mark other is = one _ (with_boot m _ (marked_current m.state.control) is)
  alone_effect m staged (Print name) other is = prints m name (found_of m.state name)
  alone_effect m staged (Digest name) other is = digests m (found_of m.state name)
  alone_effect m staged Begin other is =
      if_either (λ e. AreAlone e.later) m.state.overlay (begin_effect m false m.state.phase) none
      (begins m false m.state.phase is)
  alone_effect m staged Factory other is =
      if_either (λ e. AreAlone e.later) m.state.overlay (begin_effect m true m.state.phase) none
      (begins m true m.state.phase is)
  alone_effect m staged (Create name size) other is =
      edits m no_guard (create_edit name size) m.state.phase is.unready is
  alone_effect m staged (Resize name size) other is =
      edits m (settled_guard (nat_le size (2 ^ 40)) name) (resize_edit name size) m.state.phase
      is.unready is
  alone_effect m staged (Delete name) other is =
      edits m (settled_guard true name) (delete_edit name) m.state.phase is.unready is
  alone_effect m staged (Snapshot name size) other is =
      edits m store_guard (snapshot_edit name size) m.state.phase is.unready is
  alone_effect m staged (Flash name chunk) other is =
      subst (λ (e : Effect Mounted). AreAlone e.later)
      (sym (flash_by_blocks m staged name chunk))
      (flashes m staged name chunk m.state.phase is.unready is)
  alone_effect m staged (Keep name) other is =
      keep_makes m (λ x. AreAlone x.later) (λ r. none) (λ ps. one _ (with_held m ps is)) staged
      name
  alone_effect m staged Finish other is = absurd cc
  alone_effect m staged Cancel other is = cancels m m.state.phase is.unready is
  alone_effect m staged BeginMerge other is = merge_begins m m.state.phase is.unready
  alone_effect m staged (Merge blocks) other is = merges m blocks m.state.phase is.unready is
  alone_effect m staged UpdateSuper other is = absurd cc
  alone_effect m staged (Overlay name size) other is =
      overlay_makes m AreAlone none (λ o. one _ (with_over m o is)) staged name size
  alone_effect m staged (OverlayWrite block) other is =
      write_makes m AreAlone none (λ o. one _ (with_over m o is)) staged block
  alone_effect m staged OverlayDiscard other is =
      discard_makes m AreAlone none (λ o. one _ (with_over m o is)) staged

  -- ---- packets

  pub alone_response : (m : Mounted) (staged : Option (List ℕ)) (asked : Result Asked BadCommand)
      → asks_end asked ≡ false
      → IsAlone slot images m
      → (x : Mounted)
      → IsOneOf (response m staged asked).later x
      → IsAlone slot images x
  alone_response m staged (Ok (Getvar variable)) other is = none
  alone_response m staged (Ok (Download size)) other is = none
  alone_response m staged (Ok (Do c)) other is = alone_effect m staged c other is
  alone_response m staged (Ok MergeAll) other is =
      alone_effect m staged (Merge (left_of m.state.phase + 1)) refl is
  alone_response m staged (Ok BootAndEnd) other is = alone_effect m staged Boot refl is
  alone_response m staged (Err bad) other is = none

  -- memory may be refused to it
  pub unless_alone : (refused : Bool) (e : Response Mounted)
      → AreAlone e.later
      → AreAlone (unless_refused refused e).later
  unless_alone false e are = are
  unless_alone true e are = by_want e.may_want
    where
      by_want : (b : Bool) → AreAlone (cond b no_memory e).later
      by_want true = none
      by_want false = are

  -- ---- items

  -- each step of an item, and what is kept then
  pub record IsAloneIn (item : Item Mounted) : Type 0 where
    pub steps : AreAlone item.steps
    pub last : IsAlone slot images item.last.now

  -- the last of them
  pub last_alone : (m : Mounted) (ms : List Mounted)
      → IsAlone slot images m
      → AreAlone ms
      → IsAlone slot images (last_of m ms)
  last_alone m [] is are = is
  last_alone m (x ∷ xs) is are = last_alone x xs (are x (inl refl)) (λ y later. are y (inr later))

  by_alone : (k : Kept Mounted) (e : Response Mounted)
      → IsAlone slot images k.now
      → AreAlone e.later
      → IsAloneIn (item_by k e)
  by_alone k e is are = record {
    steps = more k.now e.later is are;
    last = last_alone k.now e.later is are;
  }

  still_alone : (k : Kept Mounted) (told : List ℕ)
      → IsAlone slot images k.now
      → IsAloneIn (item_still k told)
  still_alone k told is = record { steps = one k.now is; last = is }

  either_item : (b : Bool) (i j : Item Mounted) → IsAloneIn i → IsAloneIn j → IsAloneIn (cond b i j)
  either_item true i j is other = is
  either_item false i j is other = other

  downloaded : (k : Kept Mounted) (size : ℕ) (refused : Bool) (parts : List (List ℕ))
      → IsAlone slot images k.now
      → IsAloneIn (item_download k size refused parts)
  downloaded k size refused parts is =
      let large : List ℕ = packet (codes "FAILtoo large") in
      let wanting : List ℕ = packet (codes "FAILout of memory") in
      let is_refused : Bool = refused && nat_lt 0 size in
      let whole : Item Mounted = item_staged k size parts in
      either_item (nat_lt most_data size)
      (item_still k large)
      (cond is_refused (item_still k wanting) whole)
      (still_alone k large is)
      (either_item is_refused (item_still k wanting) whole
      (still_alone k wanting is)
      (record { steps = one k.now is; last = is }))

  done_alone : (k : Kept Mounted) (refused : Bool) (asked : Result Asked BadCommand)
      → asks_end asked ≡ false
      → IsAlone slot images k.now
      → IsAloneIn (item_done response k refused asked)
  done_alone k refused asked other is =
      by_alone k (unless_refused refused (response k.now k.staged asked)) is
      (unless_alone refused (response k.now k.staged asked)
      (alone_response k.now k.staged asked other is))

  asked_alone : (k : Kept Mounted) (refused : Bool) (parts : List (List ℕ))
      (asked : Result Asked BadCommand)
      → asks_end asked ≡ false
      → IsAlone slot images k.now
      → IsAloneIn (item_asked response k refused parts asked)
  asked_alone k refused parts (Ok (Download size)) other is = downloaded k size refused parts is
  asked_alone k refused parts (Ok BootAndEnd) other is =
      done_alone k refused (Ok BootAndEnd) other is
  asked_alone k refused parts (Ok MergeAll) other is = done_alone k refused (Ok MergeAll) other is
  asked_alone k refused parts (Ok (Getvar variable)) other is =
      done_alone k refused (Ok (Getvar variable)) other is
  asked_alone k refused parts (Ok (Do command)) other is =
      done_alone k refused (Ok (Do command)) other is
  asked_alone k refused parts (Err bad) other is = done_alone k refused (Err bad) other is

  pub item_alone : (k : Kept Mounted) (s : Exchange)
      → asks_end (request_of s.command) ≡ false
      → IsAlone slot images k.now
      → IsAloneIn (item_of response k s)
  unfolding item_of
  item_alone k s other is = asked_alone k s.refused s.parts (request_of s.command) other is

  pub open_alone : (k : Kept Mounted) (command : List ℕ)
      → IsAlone slot images k.now
      → IsAloneIn (item_open response k command)
  unfolding item_open
  open_alone k command is = still_alone k _ is

  -- ---- a cut of power

  pub stands_alone : (size : ℕ) (image : Image) (m : Mounted)
      → IsIn size m image
      → IsAlone slot images m
      → StandsAlone size slot images image
  stands_alone size image m is alone = record {
    mounted = m;
    is = is;
    alone = alone;
    boots = alone_boots slot images m alone;
  }
