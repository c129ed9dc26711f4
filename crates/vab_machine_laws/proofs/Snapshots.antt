-- The row of a store.
use Rattle.std.proofs.Common.{◌≡◌, ◌∙◌, ℕ, Bool, true, false, cond, List, inl}
use Rattle.std.proofs.Common.{inr}
use Rattle.std.proofs.Common.{refl, sym, ap, subst, length, eqb}
use Rattle.std.specs.Prelude.{Result, nat_le, not, is_some, Contains, map}
use Rattle.std.proofs.lemmas.Bool.{cases_Bool, leb-true, leb-false}
use Rattle.vab_disk.specs.Disk.{Image}
use Rattle.vab_names.specs.Names.{is_full, is_of_slot, base_of, store_of}
use Rattle.vab_names.proofs.NameCases.{full_slot}
use Rattle.vab_space.specs.Space.{need_of, blocks_of}
use Rattle.vab_tables.specs.Rules.{cap_of}
use Rattle.vab_blocks.proofs.Contained.{of_filter}
use Rattle.vab_layout.specs.declared.layout.Part.{Part}
use Rattle.vab_layout.specs.declared.layout.Layout.{Layout}
use Rattle.vab_layout.specs.Slots.{other_slot, own_parts, twins_by}
use Rattle.vab_builder.specs.declared.fault.EditFault.{EditFault}
use Rattle.vab_builder.specs.Sizes.{has_part, want_of, wants_stored}
use Rattle.vab_builder.specs.Edits.{stored, store_blocks}
use Rattle.vab_builder.specs.Passes.{store_size, stored_in_use}
use Rattle.vab_builder.proofs.PartLaws.{named_is}
use Rattle.vab_builder.proofs.StoreVerdicts.{stored-bad_name, stored-bad_size, stored-unknown}
use Rattle.vab_builder.proofs.StoreVerdicts.{stored-has_store, stored-no_room, stored-ok}
use Rattle.vab_model.specs.declared.state.Image.{Image as ImageOfSlot}
use Rattle.vab_model.specs.declared.state.PlanEntry.{PlanEntry}
use Rattle.vab_model.specs.declared.state.Plan.{Plan}
use Rattle.vab_model.specs.declared.state.State.{State}
use Rattle.vab_model.specs.declared.command.Refusal.TheVariants as refusals
use Rattle.vab_model.specs.Commands.{Snapshot}
use Rattle.vab_model.specs.Effects.{Effect, refuses}
use Rattle.vab_model.specs.Plans.{at_entry, stored_entry, images_of, twins_of}
use Rattle.vab_model.specs.Plans.{with_entries}
use Rattle.vab_model.specs.Plans.{want_of as want_entry}
use Rattle.vab_model.specs.Machine.{unless, if_logical, snapshot_row, machine_effect, if_room}
use Rattle.vab_device.specs.Mounted.{Mounted}
use Rattle.vab_device.specs.Updates.{store_guard, entry_by}
use Rattle.vab_targets.specs.Sectors.{HasWholeSectors}
use Rattle.vab_targets.proofs.Plans.{EditsFollowSizes}
use Rattle.vab_machine_laws.specs.Edits.{IsTheMachinesOrFull}
use Rattle.vab_targets.proofs.Installed.{IsInstalled, is_installed}
use Rattle.vab_targets.proofs.Updates.{by_edit}
use Rattle.vab_machine_laws.proofs.Sources.{HasSource, has_source}
use Rattle.vab_targets.proofs.Named.{entry_absent, entry_there, store_there}
use Rattle.vab_machine_laws.proofs.Given.{IsGiven, IsGivenBy, edit_is}
use Rattle.vab_machine_laws.proofs.Settled.{given_by}
use Rattle.vab_machine_laws.proofs.Rooms.{before_same, changed_wants, room_is}
use Rattle.vab_machine_laws.proofs.Values.{store_edit_of}

module _
    (size : ℕ) (image : Image) (m : Mounted) (source : ℕ) (plan : Plan)
    (whole : HasWholeSectors size image)
    (i : IsInstalled m source plan)
    (h : HasSource size image m source)
    (name : List ℕ) (bytes : ℕ) where
  abbrev o : ℕ
  o = other_slot source

  abbrev n : ℕ
  n = store_blocks i.t name bytes

  abbrev twins : List Part
  twins = twins_by plan.apart i.s.parts

  abbrev pictured : List ImageOfSlot
  pictured = twins_of plan.apart (images_of m.state source)

  abbrev entries : List PlanEntry
  entries = at_entry (base_of name) (stored_entry bytes) plan.entries

  abbrev next : Plan
  next = with_entries plan entries

  abbrev used : ℕ
  used = stored_in_use o twins i.s i.t name n

  -- the partition's entry wants a store of that size
  stored_want : (p : Part)
      → Contains (own_parts o i.t.parts) p
      → p.name ≡ name
      → want_entry pictured (stored_entry bytes (entry_by i.t plan.entries p))
      ≡ record (want_of o twins i.t.parts p) { store = n }
  stored_want p c e =
      let before = before_same size image m source plan whole i h p.name in
      let among = (of_filter (λ (x : Part). is_of_slot o x.name) i.t.parts p c).0 in
      let blocks = named_is name i.t.parts p i.update.target_rules.part_names among e in
      let store : cond (eqb bytes 0) (need_of (length p.blocks)) (blocks_of bytes) ≡ n =
      ap (λ (b : List ℕ). cond (eqb bytes 0) (need_of (length b)) (blocks_of bytes)) (sym blocks) in
      (λ j. record { before = before j; blocks = length p.blocks; store = store j })

  wants : is_of_slot o name ≡ true
      → map (want_entry pictured) entries
      ≡ wants_stored o twins i.t.parts name n
  wants of =
      changed_wants size image m source plan whole i h name (stored_entry bytes)
      (λ p. record (want_of o twins i.t.parts p) { store = n }) of stored_want

  abbrev row : Effect State
  row = snapshot_row m.state name bytes source plan

  abbrev Given : Result Layout EditFault → Type 0
  Given r = IsGiven m source next r row

  -- where the target doesn't stand apart
  abbrev beside_row : Effect State
  beside_row =
      unless (is_full o name) refusals.BadName
      (unless (store_size bytes) refusals.BadSize
      (if_logical m.state (base_of name) plan (λ e.
      unless (not (is_some e.store)) refusals.HasStore (if_room m.state source next))))

  abbrev made : Result Layout EditFault
  made = by_edit (store_edit_of name bytes) plan.apart o i.s i.t

  abbrev Beside : Result Layout EditFault → Type 0
  Beside r = IsGiven m source next r beside_row

  beside_given : Beside made
  beside_given = elim (cases_Bool (is_full o name)) [
    | inr bad ↦ subst Beside (sym (stored-bad_name o twins i.s i.t name bytes bad))
        (rw bad refl, refl)
    | inl full ↦
        let of = full_slot o name full in
        elim (cases_Bool (store_size bytes)) [
          | inr bad ↦
              subst Beside (sym (stored-bad_size o twins i.s i.t name bytes full bad))
              (rw (full, bad) refl, refl)
          | inl sized ↦ elim (cases_Bool (has_part name i.t.parts)) [
            | inr absent ↦
                let none = entry_absent o i.t plan.entries i.again name of absent in
                subst Beside (sym (stored-unknown o twins i.s i.t name bytes full sized absent))
                (rw (i.bare, full, sized, none) refl, refl)
            | inl there ↦
                let e = entry_there o i.t plan.entries i.again name of there in
                let has = store_there o i.t plan.entries i.again name e.0.part e.0.named in
                let is = e.1 in
                elim (cases_Bool (has_part (store_of name) i.t.parts)) [
                  | inl stored ↦
                      let some = has ∙ stored in
                      subst Beside
                      (sym (stored-has_store o twins i.s i.t name bytes full sized there
                      stored))
                      (rw (i.bare, full, sized, is, some) refl, refl)
                  | inr plain ↦
                      let none = has ∙ plain in
                      let room : beside_row ≡ if_room m.state source next =
                      rw (i.bare, full, sized, is, none) refl in
                      let asked = room_is size image m source plan whole i h entries
                      (wants_stored o twins i.t.parts name n) (wants of) in
                      elim (cases_Bool (nat_le used (cap_of i.t.device))) [
                        | inr over ↦
                            subst Beside (sym (stored-no_room o twins i.s i.t name bytes used
                            (cap_of i.t.device) full sized there plain refl refl
                            (leb-false used (cap_of i.t.device) over)))
                            (room ∙ asked ∙ rw over refl, refl)
                        | inl fits ↦
                            subst Beside (sym (stored-ok o twins i.s i.t name bytes (record {
                              full = full;
                              size = sized;
                              known = there;
                              plain = plain;
                              room = leb-true used (cap_of i.t.device) fits;
                            })))
                            (room ∙ asked ∙ rw fits refl)
                      ]
                ]
          ]
        ]
  ]

  kept_given : plan.apart ≡ true → row ≡ refuses refusals.InPlace
  kept_given apart = ap (λ (b : Bool). unless (not b) refusals.InPlace beside_row) apart

  free_given : plan.apart ≡ false → Given made
  free_given beside =
      let is_beside : row ≡ beside_row =
      ap (λ (b : Bool). unless (not b) refusals.InPlace beside_row) beside in
      subst (λ (r : Effect State). IsGiven m source next made r) (sym is_beside) beside_given

  pub snapshot_given : IsGivenBy m source next (store_guard source plan) made row
  snapshot_given =
      given_by m source next plan.apart refusals.InPlace made row kept_given free_given

pub snapshot_is : EditsFollowSizes → (name : List ℕ) (bytes : ℕ)
    → IsTheMachinesOrFull (Snapshot name bytes)
unfolding machine_effect
snapshot_is law name bytes size image m staged whole is =
    edit_is law size image m staged whole is (Snapshot name bytes) refl store_guard
    (store_edit_of name bytes) refl (snapshot_row m.state name bytes) (λ source plan phase.
    let i = is_installed size image m source plan whole is phase in
    let h = has_source size image m source plan whole is phase in
    (i, snapshot_given size image m source plan whole i h name bytes))
