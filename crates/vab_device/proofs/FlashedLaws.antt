-- A flash by blocks is the machine's row.
use Rattle.std.proofs.Common.{◌≡◌, ◌∙◌, ℕ, ◌*◌, ◌≤◌, Bool, true, false, List}
use Rattle.std.proofs.Common.{length, Option, Some, None, inl, inr, refl, sym, ap, cond}
use Rattle.std.specs.Prelude.{nat_le, not, if◌then◌else◌}
use Rattle.std.proofs.lemmas.Bool.{cases_Bool, cases_lt, lt-ltb, le-ltb, le-leb, lt-leb}
use Rattle.vab_names.specs.Names.{is_full, base_of}
use Rattle.vab_space.specs.declared.Chunk.{Chunk}
use Rattle.vab_space.specs.Chunks.{need_at}
use Rattle.vab_model.specs.declared.state.PlanImage.{PlanImage}
use Rattle.vab_model.specs.declared.state.PlanImage.TheVariants.{Kept, Declared, Written}
use Rattle.vab_model.specs.declared.state.PlanEntry.{PlanEntry}
use Rattle.vab_model.specs.declared.state.Plan.{Plan}
use Rattle.vab_model.specs.declared.state.Phase.{Phase}
use Rattle.vab_model.specs.declared.state.Phase.TheVariants.{Idle, Installing, Staged, Merging}
use Rattle.vab_model.specs.declared.state.State.{State}
use Rattle.vab_model.specs.declared.command.Refusal.TheVariants as refusals
use Rattle.vab_model.specs.Commands.{Flash}
use Rattle.vab_model.specs.Effects.{Effect, refuses, wanting, effect_map}
use Rattle.vab_model.specs.Plans.{other_slot, bytes_named, images_of, entry_named}
use Rattle.vab_model.specs.Staged.{is_sparse, filled, differences}
use Rattle.vab_model.specs.Machine.{unless, if_installing, if_planned, is_written, with_image}
use Rattle.vab_model.specs.Machine.{if_stored, in_store, in_place, flash_staged, flash_unwritten}
use Rattle.vab_model.specs.Machine.{flash_entry, flash_row, machine_effect, planned}
use Rattle.vab_model.specs.Machine.{flash_physical}
use Rattle.vab_model.specs.Physical.{is_physical, physical_named}
use Rattle.vab_device.specs.Mounted.{Mounted, in_state}
use Rattle.vab_device.specs.Flashed.{flash_effect, entry_effect, placed_effect, unwritten_effect}
use Rattle.vab_device.specs.Flashed.{named_effect}
use Rattle.vab_device.specs.Flashed.{staged_effect, if_room, flashed, source_bytes}
use Rattle.vab_device.specs.Flashed.{differences as differences_of}
use Rattle.vab_device.specs.Flashed.{in_store as in_store_of, in_place as in_place_of}
use Rattle.vab_device.specs.Updates.{effect_on}
use Rattle.vab_device.proofs.FilledBytes.{filled_same, differences_same}

module _ (m : Mounted) where
  abbrev there : Effect State → Effect Mounted
  there row = effect_map (in_state m) row

  -- the image of an entry, written
  written_same : (source : ℕ) (plan : Plan) (e : PlanEntry) (staged : List ℕ) (n : ℕ)
      → length staged ≤ 4096 * e.blocks
      → there
      (wanting false (planned m.state source (with_image plan e (filled staged e.blocks) n)))
      ≡ flashed m source plan e staged n
  written_same source plan e staged n le =
      ap (λ (b : List ℕ). there (wanting false (planned m.state source (with_image plan e b n))))
      (sym (filled_same staged e.blocks le))

  room_same : (source : ℕ) (plan : Plan) (e : PlanEntry) (store : ℕ) (k : Chunk)
      (staged : List ℕ) (n : ℕ)
      → length staged ≤ 4096 * e.blocks
      → there (if_stored m.state source plan e k store (filled staged e.blocks) n)
      ≡ if_room m source plan e store k staged n
  room_same source plan e store k staged n le = elim (cases_Bool (nat_le (need_at n k) store)) [
    | inl t ↦
        rw t (ap (λ (b : List ℕ). there (planned m.state source (with_image plan e b n)))
        (sym (filled_same staged e.blocks le)))
    | inr f ↦ rw f refl
  ]

  -- where an image goes, and the row of that
  abbrev SamePlace : PlanEntry → (List ℕ → Effect Mounted) → (List ℕ → Effect State) → Type 0
  SamePlace e place row =
      (staged : List ℕ)
      → length staged ≤ 4096 * e.blocks
      → there (row (filled staged e.blocks)) ≡ place staged

  store_same : (source : ℕ) (plan : Plan) (e : PlanEntry) (store : ℕ) (k : Chunk)
      → SamePlace e (in_store_of m source plan e store k) (in_store m.state source plan e k store)
  store_same source plan e store k staged le =
      let before : List ℕ = bytes_named e.name (images_of m.state source) in
      let image : List ℕ = filled staged e.blocks in
      let count : differences_of k (source_bytes m.state source e.name) staged e.blocks
      ≡ differences k before image e.blocks =
      differences_same staged e.blocks le k before in
      room_same source plan e store k staged (differences k before image e.blocks) le
      ∙ ap (λ (n : ℕ). if_room m source plan e store k staged n) (sym count)

  place_same : (source : ℕ) (plan : Plan) (e : PlanEntry)
      → SamePlace e (in_place_of m source plan e) (in_place m.state source plan e)
  place_same source plan e staged le = written_same source plan e staged 0 le

  staged_same : (e : PlanEntry) (place : List ℕ → Effect Mounted) (row : List ℕ → Effect State)
      (staged : Option (List ℕ))
      → SamePlace e place row
      → there (flash_staged e row staged) ≡ staged_effect e place staged
  staged_same e place row None same = refl
  staged_same e place row (Some staged) same = elim (cases_Bool (is_sparse staged)) [
    | inl t ↦ rw t refl
    | inr f ↦ elim (cases_lt (4096 * e.blocks) (length staged)) [
      | inl lt ↦
          let large = lt-ltb (4096 * e.blocks) (length staged) lt in
          let out = lt-leb (length staged) (4096 * e.blocks) lt in
          rw (f, large, out) refl
      | inr le ↦
          let within = le-ltb (4096 * e.blocks) (length staged) le in
          let fits = le-leb (length staged) (4096 * e.blocks) le in
          rw (f, within, fits) (same staged le)
    ]
  ]

  unwritten_same : (image : PlanImage) (next : Effect Mounted) (row : Effect State)
      → there row ≡ next
      → there (unless (not (is_written image)) refusals.Written row)
      ≡ unwritten_effect image next
  unwritten_same Kept next row same = same
  unwritten_same Declared next row same = same
  unwritten_same (Written bytes n) next row same = refl

  apart_same : (apart : Bool) (next : Effect Mounted) (row : Effect State)
      → there row ≡ next
      → there (unless apart refusals.NoStore row)
      ≡ (if apart then next else refuses refusals.NoStore)
  apart_same true next row same = same
  apart_same false next row same = refl

  placed_same : (source : ℕ) (plan : Plan) (e : PlanEntry) (k : Chunk) (staged : Option (List ℕ))
      (store : Option ℕ)
      → there (flash_entry m.state source plan staged e k store)
      ≡ placed_effect m source plan e k staged store
  placed_same source plan e k staged None =
      let place : List ℕ → Effect Mounted = in_place_of m source plan e in
      let row : List ℕ → Effect State = in_place m.state source plan e in
      apart_same plan.apart (unwritten_effect e.image (staged_effect e place staged))
      (flash_unwritten e row staged)
      (unwritten_same e.image (staged_effect e place staged) (flash_staged e row staged)
      (staged_same e place row staged (place_same source plan e)))
  placed_same source plan e k staged (Some store) =
      let place : List ℕ → Effect Mounted = in_store_of m source plan e store k in
      let row : List ℕ → Effect State = in_store m.state source plan e k store in
      unwritten_same e.image (staged_effect e place staged) (flash_staged e row staged)
      (staged_same e place row staged (store_same source plan e store k))

  entry_same : (source : ℕ) (plan : Plan) (k : Chunk) (staged : Option (List ℕ))
      (o : Option PlanEntry)
      → there (if_planned o (λ e. flash_entry m.state source plan staged e k e.store))
      ≡ entry_effect m source plan k staged o
  entry_same source plan k staged None = refl
  entry_same source plan k staged (Some e) = placed_same source plan e k staged e.store

  named_same : (source : ℕ) (plan : Plan) (k : Chunk) (staged : Option (List ℕ)) (base : List ℕ)
      → there
      (cond (is_physical base m.state.physical)
      (flash_physical m.state staged (other_slot source)
      (physical_named base m.state.physical))
      (if_planned (entry_named base plan.entries)
      (λ e. flash_entry m.state source plan staged e k e.store)))
      ≡ named_effect m source plan k staged base
  named_same source plan k staged base =
      elim (cases_Bool (is_physical base m.state.physical)) [
        | inl t ↦ rw t refl
        | inr f ↦ rw f (entry_same source plan k staged (entry_named base plan.entries))
      ]

  flash_same : (staged : Option (List ℕ)) (name : List ℕ) (k : Chunk) (phase : Phase)
      → there (if_installing phase (flash_row m.state staged name k))
      ≡ flash_effect m staged name k phase
  flash_same staged name k Idle = refl
  flash_same staged name k (Installing source plan) =
      elim (cases_Bool (is_full (other_slot source) name)) [
        | inl t ↦
            rw t (named_same source plan k staged (base_of name))
        | inr f ↦ rw f refl
      ]
  flash_same staged name k (Staged source left) = refl
  flash_same staged name k (Merging target left) = refl

  pub flash_by_blocks : (staged : Option (List ℕ)) (name : List ℕ) (k : Chunk)
      → effect_on m staged (Flash name k) ≡ flash_effect m staged name k m.state.phase
  unfolding machine_effect
  flash_by_blocks staged name k = flash_same staged name k m.state.phase
