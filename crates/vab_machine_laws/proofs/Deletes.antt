-- The row of a partition less.
use Rattle.std.proofs.Common.{◌≡◌, ◌∙◌, ℕ, true, false, List, inl, inr, refl, sym}
use Rattle.std.proofs.Common.{subst}
use Rattle.std.specs.Prelude.{Result}
use Rattle.std.proofs.lemmas.Bool.{cases_Bool}
use Rattle.vab_names.specs.Names.{is_full, base_of, store_of}
use Rattle.vab_names.proofs.NameCases.{full_slot}
use Rattle.vab_layout.specs.declared.layout.Layout.{Layout}
use Rattle.vab_layout.specs.Slots.{other_slot}
use Rattle.vab_builder.specs.declared.fault.EditFault.{EditFault}
use Rattle.vab_builder.specs.Sizes.{has_part}
use Rattle.vab_builder.proofs.DeleteVerdicts.{deleted-bad_name, deleted-unknown, deleted-has_store}
use Rattle.vab_builder.proofs.DeleteVerdicts.{deleted-ok}
use Rattle.vab_model.specs.declared.state.Plan.{Plan}
use Rattle.vab_model.specs.declared.state.State.{State}
use Rattle.vab_model.specs.declared.command.Refusal.TheVariants as refusals
use Rattle.vab_model.specs.Commands.{Delete}
use Rattle.vab_model.specs.Effects.{Effect, refuses}
use Rattle.vab_model.specs.Plans.{without_entry, with_entries}
use Rattle.vab_model.specs.Machine.{delete_row, machine_effect}
use Rattle.vab_device.specs.Mounted.{Mounted}
use Rattle.vab_device.specs.Updates.{settled_guard, entry_by}
use Rattle.vab_targets.proofs.Plans.{EditsFollowSizes}
use Rattle.vab_targets.proofs.Installed.{IsInstalled, is_installed}
use Rattle.vab_targets.proofs.Updates.{by_edit, is_kept, free_entry}
use Rattle.vab_machine_laws.specs.Edits.{IsTheMachinesOrFull}
use Rattle.vab_targets.proofs.Named.{entry_absent, entry_there, store_there}
use Rattle.vab_machine_laws.proofs.Given.{IsGiven, IsGivenBy, edit_is}
use Rattle.vab_machine_laws.proofs.Settled.{settled_of, given_by}
use Rattle.vab_machine_laws.proofs.Values.{delete_of}

module _ (m : Mounted) (source : ℕ) (plan : Plan) (i : IsInstalled m source plan)
    (name : List ℕ) where
  abbrev o : ℕ
  o = other_slot source

  abbrev next : Plan
  next = with_entries plan (without_entry (base_of name) plan.entries)

  abbrev row : Effect State
  row = delete_row m.state name source plan

  abbrev made : Result Layout EditFault
  made = by_edit (delete_of name) plan.apart o i.s i.t

  abbrev Given : Result Layout EditFault → Type 0
  Given r = IsGiven m source next r row

  -- of a partition that is written in place
  kept_given : is_kept true o name plan ≡ true → row ≡ refuses refusals.Written
  kept_given is_so =
      let k = settled_of true o name plan is_so in
      let full = k.full in
      let is = k.is in
      let plain = k.plain in
      let settled = k.settled in
      rw (i.bare, full, is, plain, settled) refl

  free_given : is_kept true o name plan ≡ false → Given made
  free_given free = elim (cases_Bool (is_full o name)) [
    | inr bad ↦ subst Given (sym (deleted-bad_name o i.t name bad)) (rw bad refl, refl)
    | inl full ↦
        let of = full_slot o name full in
        elim (cases_Bool (has_part name i.t.parts)) [
          | inr absent ↦
              let none = entry_absent o i.t plan.entries i.again name of absent in
              subst Given (sym (deleted-unknown o i.t name full absent))
              (rw (i.bare, full, none) refl, refl)
          | inl there ↦
              let e = entry_there o i.t plan.entries i.again name of there in
              let has = store_there o i.t plan.entries i.again name e.0.part e.0.named in
              let is = e.1 in
              elim (cases_Bool (has_part (store_of name) i.t.parts)) [
                | inl stored ↦
                    let some = has ∙ stored in
                    subst Given (sym (deleted-has_store o i.t name full there stored))
                    (rw (i.bare, full, is, some) refl, refl)
                | inr plain ↦
                    let none = has ∙ plain in
                    let loose = free_entry true o name plan (entry_by i.t plan.entries e.0.part)
                    full refl is none free in
                    let done = deleted-ok o i.t name
                    (record { full = full; known = there; plain = plain }) in
                    subst Given (sym done) (rw (i.bare, full, is, none, loose) refl)
              ]
        ]
  ]

  pub delete_given : IsGivenBy m source next (settled_guard true name source plan) made row
  delete_given =
      given_by m source next (is_kept true o name plan) refusals.Written made row kept_given
      free_given

pub delete_is : EditsFollowSizes → (name : List ℕ) → IsTheMachinesOrFull (Delete name)
unfolding machine_effect
delete_is law name size image m staged whole is =
    edit_is law size image m staged whole is (Delete name) refl (settled_guard true name)
    (delete_of name) refl (delete_row m.state name) (λ source plan phase.
    let i = is_installed size image m source plan whole is phase in
    (i, delete_given m source plan i name))
