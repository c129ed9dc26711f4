-- Of a state, the begin of an update, its edits and its images change the plan alone.
use Rattle.std.proofs.Common.{◌≡◌, ◌≢◌, ℕ, ◌*◌, ◌<◌, inl, inr, Bool, true, false, cond, List, []}
use Rattle.std.proofs.Common.{arith, ◌∷◌}
use Rattle.std.proofs.Common.{length, Option, Some, None, Result, Ok, Err, refl, sym, ap, subst}
use Rattle.std.specs.Prelude.{is_some, map, nat_lt, nat_le, not}
use Rattle.vab_names.specs.Names.{is_full, base_of}
use Rattle.vab_space.specs.declared.Chunk.{Chunk}
use Rattle.vab_space.specs.Chunks.{need_at}
use Rattle.vab_layout.specs.declared.layout.Layout.{Layout}
use Rattle.vab_layout.specs.Slots.{other_slot}
use Rattle.vab_builder.specs.declared.fault.EditFault.{EditFault}
use Rattle.vab_model.specs.declared.state.PlanImage.{PlanImage}
use Rattle.vab_model.specs.declared.state.PlanImage.TheVariants.{Kept, Declared, Written}
use Rattle.vab_model.specs.declared.state.PlanEntry.{PlanEntry}
use Rattle.vab_model.specs.declared.state.Plan.{Plan}
use Rattle.vab_model.specs.declared.state.Phase.{Phase}
use Rattle.vab_model.specs.declared.state.Phase.TheVariants.{Idle, Installing, Staged, Merging}
use Rattle.vab_model.specs.declared.state.Physical.{Physical}
use Rattle.vab_model.specs.declared.command.Refusal.{Refusal}
use Rattle.vab_model.specs.declared.command.Refusal.TheVariants as refusals
use Rattle.vab_model.specs.declared.state.State.{State}
use Rattle.vab_model.specs.declared.command.Reply.TheVariants as replies
use Rattle.vab_model.specs.Commands.{Flash}
use Rattle.vab_model.specs.Effects.{Effect, IsOneOf, does, effect_map, refuses, wanting}
use Rattle.vab_model.specs.Physical.{held_by, is_physical, physical_named, with_held}
use Rattle.vab_model.specs.Machine.{flash_staged, if_installing, is_written, keep_held, keep_row}
use Rattle.vab_model.specs.Machine.{keep_physical, physical_entry, unless}
use Rattle.vab_model.specs.Plans.{entry_named, is_planned, with_entries}
use Rattle.vab_model.specs.Staged.{is_sparse, filled as filled_out}
use Rattle.vab_device.specs.Mounted.{Mounted, in_state}
use Rattle.vab_device.specs.Flashed.{staged_effect, unwritten_effect, in_store, in_place}
use Rattle.vab_device.specs.Flashed.{placed_effect, entry_effect, flash_effect, if_room, flashed}
use Rattle.vab_device.specs.Flashed.{with_image, filled, differences, source_bytes}
use Rattle.vab_device.specs.Flashed.{named_effect, physical_effect}
use Rattle.vab_device.specs.Updates.{table_effect, replanned, no_entries, begun_effect}
use Rattle.vab_device.specs.Updates.{begin_effect, layout_at, EditOf, edited_effect, Guard}
use Rattle.vab_device.specs.Updates.{unless_kept, edit_effect, effect_on}
use Rattle.vab_device.proofs.FlashedLaws.{flash_by_blocks}
use Rattle.vab_boots.proofs.Beside.{held_beside}
use Rattle.vab_boots.specs.Boots.{worked_of}

-- An update from this slot is installed, with this plan, and the physical partitions hold this,
-- where those of another slot than the target hold what they held. Nothing else of the state has
-- changed.
pub record IsPlanned (source : ℕ) (m next : Mounted) : Type 0 where
  pub plan : Plan
  pub physical : List Physical
  pub held : (slot : ℕ)
      → slot < 2
      → slot ≢ other_slot source
      → map (held_by slot) physical ≡ map (held_by slot) m.state.physical
  pub state : next.state
      ≡ record m.state { phase = Installing source plan; physical = physical }

module _ (m : Mounted) where
  -- each of these
  abbrev pub ArePlanned : (source : ℕ) → List Mounted → Type 0
  ArePlanned source ms = (x : Mounted) → IsOneOf ms x → IsPlanned source m x

  none : (source : ℕ) → ArePlanned source []
  none source x is = absurd is

  one : (source : ℕ) (y : Mounted) → IsPlanned source m y → ArePlanned source (y ∷ [])
  one source y planned x (inl is) = subst (IsPlanned source m) (sym is) planned
  one source y planned x (inr later) = absurd later

  either : (source : ℕ) (b : Bool) (e f : Effect Mounted)
      → ArePlanned source e.later
      → ArePlanned source f.later
      → ArePlanned source (cond b e f).later
  either source true e f planned other = planned
  either source false e f planned other = other

  -- ---- the target's table

  tabled : (source : ℕ) (plan : Plan) (r : Result Layout EditFault)
      → ArePlanned source (table_effect m source plan r).later
  tabled source plan (Ok l) =
      one source _
      (record {
        plan = replanned source plan l;
        physical = m.state.physical;
        held = λ slot below other. refl;
        state = refl;
      })
  tabled source plan (Err fault) = none source

  begun : (apart : Bool) (source : ℕ) (l : Option Layout)
      → ArePlanned source (begun_effect m apart source l).later
  begun apart source None = none source
  begun apart source (Some l) = tabled source (no_entries apart) _

  pub begin_planned : (apart : Bool) (phase : Phase)
      → ArePlanned (worked_of phase m.state.control.current) (begin_effect m apart phase).later
  begin_planned apart Idle =
      begun apart m.state.control.current (layout_at m.places m.state.control.current)
  begin_planned apart (Installing source plan) = none source
  begin_planned apart (Staged source left) = none source
  begin_planned apart (Merging target left) = none target

  edited : (source : ℕ) (plan : Plan) (edit : EditOf) (s t : Option Layout)
      → ArePlanned source (edited_effect m source plan edit s t).later
  edited source plan edit None t = none source
  edited source plan edit (Some s) None = none source
  edited source plan edit (Some s) (Some t) = tabled source plan _

  unless_planned : (source : ℕ) (kept : Option Refusal) (next : Effect Mounted)
      → ArePlanned source next.later
      → ArePlanned source (unless_kept kept next).later
  unless_planned source None next are = are
  unless_planned source (Some refusal) next are = none source

  pub edit_planned : (guard : Guard) (edit : EditOf) (phase : Phase)
      → ArePlanned (worked_of phase m.state.control.current)
      (edit_effect m guard edit phase).later
  edit_planned guard edit Idle = none m.state.control.current
  edit_planned guard edit (Installing source plan) =
      unless_planned source (guard source plan)
      (edited_effect m source plan edit
      (layout_at m.places source)
      (layout_at m.places (other_slot source)))
      (edited source plan edit
      (layout_at m.places source)
      (layout_at m.places (other_slot source)))
  edit_planned guard edit (Staged source left) = none source
  edit_planned guard edit (Merging target left) = none target

  -- ---- an image

  flashed_planned : (source : ℕ) (plan : Plan) (e : PlanEntry) (staged : List ℕ) (n : ℕ)
      → ArePlanned source (flashed m source plan e staged n).later
  flashed_planned source plan e staged n =
      one source _ (record {
        plan = with_entries plan
            (with_image e.name (Written (filled staged e.blocks) n) plan.entries);
        physical = m.state.physical;
        held = λ slot below other. refl;
        state = refl;
      })

  roomed : (source : ℕ) (plan : Plan) (e : PlanEntry) (store : ℕ) (k : Chunk)
      (staged : List ℕ) (n : ℕ)
      → ArePlanned source (if_room m source plan e store k staged n).later
  roomed source plan e store k staged n =
      either source (nat_le (need_at n k) store)
      (wanting true (flashed m source plan e staged n))
      (refuses (refusals.StoreFull (need_at n k) store))
      (flashed_planned source plan e staged n)
      (none source)

  written : (source : ℕ) (e : PlanEntry) (place : List ℕ → Effect Mounted)
      → ((staged : List ℕ) → ArePlanned source (place staged).later)
      → (staged : Option (List ℕ))
      → ArePlanned source (staged_effect e place staged).later
  written source e place are None = none source
  written source e place are (Some staged) =
      let large : Refusal = refusals.TooLarge (length staged) (4096 * e.blocks) in
      let is_large : Bool = nat_lt (4096 * e.blocks) (length staged) in
      either source (is_sparse staged) (refuses refusals.Sparse)
      (cond is_large (refuses large) (place staged))
      (none source)
      (either source is_large (refuses large) (place staged) (none source) (are staged))

  unwritten : (source : ℕ) (image : PlanImage) (next : Effect Mounted)
      → ArePlanned source next.later
      → ArePlanned source (unwritten_effect image next).later
  unwritten source Kept next are = are
  unwritten source Declared next are = are
  unwritten source (Written bytes count) next are = none source

  placed : (source : ℕ) (plan : Plan) (e : PlanEntry) (k : Chunk) (staged : Option (List ℕ))
      (store : Option ℕ)
      → ArePlanned source (placed_effect m source plan e k staged store).later
  placed source plan e k staged None =
      let next : Effect Mounted = staged_effect e (in_place m source plan e) staged in
      either source plan.apart (unwritten_effect e.image next) (refuses refusals.NoStore)
      (unwritten source e.image next
      (written source e (in_place m source plan e)
      (λ bytes. flashed_planned source plan e bytes 0) staged))
      (none source)
  placed source plan e k staged (Some store) =
      unwritten source e.image (staged_effect e (in_store m source plan e store k) staged)
      (written source e (in_store m source plan e store k)
      (λ bytes. roomed source plan e store k bytes
      (differences k (source_bytes m.state source e.name) bytes e.blocks)) staged)

  found : (source : ℕ) (plan : Plan) (k : Chunk) (staged : Option (List ℕ))
      (e : Option PlanEntry)
      → ArePlanned source (entry_effect m source plan k staged e).later
  found source plan k staged None = none source
  found source plan k staged (Some e) = placed source plan e k staged e.store

  -- ---- a physical partition of the target

  held : (source : ℕ) (plan : Plan) (name bytes : List ℕ)
      → m.state.phase ≡ Installing source plan
      → ArePlanned source (in_state m (with_held m.state (other_slot source) name bytes) ∷ [])
  held source plan name bytes is =
      let target : ℕ = other_slot source in
      let ps : List Physical = (with_held m.state target name bytes).physical in
      one source _ (record {
        plan = plan;
        physical = ps;
        held = λ slot below other.
            held_beside slot target name bytes below (omega arith) other m.state.physical;
        state = ap (λ (p : Phase). record m.state { phase = p; physical = ps }) is;
      })

  -- of a machine's row
  unless_mapped : (source : ℕ) (b : Bool) (refusal : Refusal) (row : Effect State)
      → ArePlanned source (effect_map (in_state m) row).later
      → ArePlanned source (effect_map (in_state m) (unless b refusal row)).later
  unless_mapped source true refusal row are = are
  unless_mapped source false refusal row are = none source

  stages : (source : ℕ) (plan : Plan) (e : PlanEntry) (name : List ℕ) (staged : Option (List ℕ))
      → m.state.phase ≡ Installing source plan
      → ArePlanned source
      (effect_map (in_state m)
      (flash_staged e
      (λ bytes. does replies.Done (with_held m.state (other_slot source) name bytes)) staged)).later
  stages source plan e name None is = none source
  stages source plan e name (Some staged) is =
      let large : Refusal = refusals.TooLarge (length staged) (4096 * e.blocks) in
      let small : Bool = nat_le (length staged) (4096 * e.blocks) in
      let bytes : List ℕ = filled_out staged e.blocks in
      let done : Effect State =
      does replies.Done (with_held m.state (other_slot source) name bytes) in
      unless_mapped source (not (is_sparse staged)) refusals.Sparse (unless small large done)
      (unless_mapped source small large done (held source plan name bytes is))

  writes : (source : ℕ) (plan : Plan) (staged : Option (List ℕ)) (p : Option Physical)
      → m.state.phase ≡ Installing source plan
      → ArePlanned source (physical_effect m (other_slot source) staged p).later
  writes source plan staged None is = none source
  writes source plan staged (Some p) is =
      let target : ℕ = other_slot source in
      let e : PlanEntry = physical_entry p (held_by target p) in
      unless_mapped source (not (is_written e.image)) refusals.Written
      (flash_staged e (λ b. does replies.Done (with_held m.state target p.name b)) staged)
      (stages source plan e p.name staged is)

  pub flashes : (staged : Option (List ℕ)) (name : List ℕ) (k : Chunk) (phase : Phase)
      → m.state.phase ≡ phase
      → ArePlanned (worked_of phase m.state.control.current)
      (flash_effect m staged name k phase).later
  flashes staged name k Idle is = none m.state.control.current
  flashes staged name k (Installing source plan) is =
      let base : List ℕ = base_of name in
      let target : ℕ = other_slot source in
      let p : Option Physical = physical_named base m.state.physical in
      let e : Option PlanEntry = entry_named base plan.entries in
      either source (is_full target name)
      (named_effect m source plan k staged base)
      (refuses refusals.BadName)
      (either source (is_physical base m.state.physical)
      (physical_effect m target staged p)
      (entry_effect m source plan k staged e)
      (writes source plan staged p is)
      (found source plan k staged e))
      (none source)
  flashes staged name k (Staged source left) is = none source
  flashes staged name k (Merging target left) is = none target

  pub flash_planned : (staged : Option (List ℕ)) (name : List ℕ) (k : Chunk)
      → ArePlanned (worked_of m.state.phase m.state.control.current)
      (effect_on m staged (Flash name k)).later
  flash_planned staged name k =
      subst
      (λ (e : Effect Mounted).
      ArePlanned (worked_of m.state.phase m.state.control.current) e.later)
      (sym (flash_by_blocks m staged name k))
      (flashes staged name k m.state.phase refl)

  -- ---- a keep

  keeps : (source : ℕ) (plan : Plan) (p : Physical) (bytes : Option (List ℕ))
      → m.state.phase ≡ Installing source plan
      → ArePlanned source
      (effect_map (in_state m) (keep_held m.state (other_slot source) p bytes)).later
  keeps source plan p None is = none source
  keeps source plan p (Some bytes) is = held source plan p.name bytes is

  kept : (source : ℕ) (plan : Plan) (known : Bool) (p : Option Physical)
      → m.state.phase ≡ Installing source plan
      → ArePlanned source (effect_map (in_state m) (keep_physical m.state source known p)).later
  kept source plan known None is =
      unless_mapped source known refusals.Unknown (refuses refusals.NotPhysical) (none source)
  kept source plan known (Some p) is =
      let target : ℕ = other_slot source in
      unless_mapped source (not (is_some (held_by target p))) refusals.Written
      (keep_held m.state target p (held_by source p))
      (keeps source plan p (held_by source p) is)

  pub keeps_by : (name : List ℕ) (phase : Phase)
      → m.state.phase ≡ phase
      → ArePlanned (worked_of phase m.state.control.current)
      (effect_map (in_state m) (if_installing phase (keep_row m.state name))).later
  keeps_by name Idle is = none m.state.control.current
  keeps_by name (Installing source plan) is =
      let base : List ℕ = base_of name in
      let p : Option Physical = physical_named base m.state.physical in
      unless_mapped source (is_full (other_slot source) name) refusals.BadName
      (keep_physical m.state source (is_planned base plan.entries) p)
      (kept source plan (is_planned base plan.entries) p is)
  keeps_by name (Staged source left) is = none source
  keeps_by name (Merging target left) is = none target
