-- The row of another size.
use Rattle.std.proofs.Common.{◌≡◌, ◌∙◌, ℕ, ◌^◌, Bool, true, false, cond, List}
use Rattle.std.proofs.Common.{inl, inr}
use Rattle.std.proofs.Common.{refl, sym, ap, subst, length, eqb}
use Rattle.std.specs.Prelude.{Option, Result, nat_le, Contains, map}
use Rattle.std.specs.Str.{bytes_eq}
use Rattle.std.proofs.lemmas.Bool.{cases_Bool, leb-true, leb-false, eqb-true}
use Rattle.vab_disk.specs.Disk.{Image}
use Rattle.vab_names.specs.Names.{is_full, is_of_slot, base_of, store_of, default_name}
use Rattle.vab_names.proofs.NameCases.{full_slot}
use Rattle.vab_space.specs.Space.{blocks_of, group_sum_of}
use Rattle.vab_tables.specs.Rules.{cap_of}
use Rattle.vab_blocks.proofs.Contained.{of_filter}
use Rattle.vab_layout.specs.declared.layout.Part.{Part}
use Rattle.vab_layout.specs.declared.layout.Layout.{Layout}
use Rattle.vab_layout.specs.Slots.{other_slot, own_parts, twins_by}
use Rattle.vab_builder.specs.declared.fault.EditFault.{EditFault}
use Rattle.vab_builder.specs.Sizes.{has_part, want_of, wants_resized, is_within, limit_of}
use Rattle.vab_builder.specs.Sizes.{sizes_in}
use Rattle.vab_builder.specs.Passes.{resized_group_sum, resized_group_limit, resized_in_use}
use Rattle.vab_builder.proofs.ResizeVerdicts.{resized-bad_name, resized-bad_size, resized-unknown}
use Rattle.vab_builder.proofs.ResizeVerdicts.{resized-has_store, resized-group_limit}
use Rattle.vab_builder.proofs.ResizeVerdicts.{resized-no_room, resized-ok}
use Rattle.vab_model.specs.declared.state.Image.{Image as ImageOfSlot}
use Rattle.vab_model.specs.declared.state.PlanEntry.{PlanEntry}
use Rattle.vab_model.specs.declared.state.Plan.{Plan}
use Rattle.vab_model.specs.declared.state.State.{State}
use Rattle.vab_model.specs.declared.command.Refusal.TheVariants as refusals
use Rattle.vab_model.specs.Commands.{Resize}
use Rattle.vab_model.specs.Effects.{Effect, refuses}
use Rattle.vab_model.specs.Plans.{at_entry, resized_entry, images_of, twins_of, group_bytes}
use Rattle.vab_model.specs.Plans.{with_entries}
use Rattle.vab_model.specs.Plans.{want_of as want_entry, limit_of as limit_by, same_group}
use Rattle.vab_model.specs.Machine.{unless, resize_row, machine_effect, if_room}
use Rattle.vab_model.specs.Machine.{if_within}
use Rattle.vab_device.specs.Kept.{group_of}
use Rattle.vab_device.specs.Mounted.{Mounted}
use Rattle.vab_device.specs.Updates.{settled_guard, entry_by}
use Rattle.vab_edit.proofs.NamedLaws.{base_eq}
use Rattle.vab_edit.proofs.PlanLaws.{map_map}
use Rattle.vab_targets.specs.Sectors.{HasWholeSectors}
use Rattle.vab_targets.proofs.Plans.{EditsFollowSizes}
use Rattle.vab_builder.proofs.LimitLaws.{default_unlimited}
use Rattle.vab_machine_laws.specs.Edits.{IsTheMachinesOrFull}
use Rattle.vab_targets.proofs.Installed.{IsInstalled, is_installed}
use Rattle.vab_targets.proofs.Updates.{by_edit, is_kept, free_entry}
use Rattle.vab_machine_laws.proofs.Sources.{HasSource, has_source}
use Rattle.vab_targets.proofs.Named.{IsFound, entry_absent, entry_there, store_there}
use Rattle.vab_machine_laws.proofs.Given.{IsGiven, IsGivenBy, edit_is}
use Rattle.vab_machine_laws.proofs.Settled.{settled_of, given_by}
use Rattle.vab_machine_laws.proofs.Groups.{IsOfSlot, group_same, limit_same}
use Rattle.vab_machine_laws.proofs.Groups.{sizes_same, in_slot_group, group_first, group_own}
use Rattle.vab_machine_laws.proofs.Rooms.{store_same, before_same, changed_wants, room_is}
use Rattle.vab_machine_laws.proofs.Values.{resize_of}

-- ---- an entry of another size

resized_group : (n : ℕ) (e : PlanEntry) → (resized_entry n e).group ≡ e.group
resized_group n e = elim (cases_Bool (eqb e.blocks n)) [ inl t ↦ rw t refl | inr f ↦ rw f refl ]

resized_blocks : (n : ℕ) (e : PlanEntry) → (resized_entry n e).blocks ≡ n
resized_blocks n e = elim (cases_Bool (eqb e.blocks n)) [
  | inl t ↦ rw t (eqb-true e.blocks n t)
  | inr f ↦ rw f refl
]

module _
    (size : ℕ) (image : Image) (m : Mounted) (source : ℕ) (plan : Plan)
    (whole : HasWholeSectors size image)
    (i : IsInstalled m source plan)
    (h : HasSource size image m source)
    (none : limit_of i.t.groups default_name ≡ 0)
    (name : List ℕ) (bytes : ℕ) where
  abbrev o : ℕ
  o = other_slot source

  abbrev n : ℕ
  n = blocks_of bytes

  abbrev own : List Part
  own = own_parts o i.t.parts

  abbrev twins : List Part
  twins = twins_by plan.apart i.s.parts

  abbrev pictured : List ImageOfSlot
  pictured = twins_of plan.apart (images_of m.state source)

  abbrev entry : Part → PlanEntry
  entry = entry_by i.t plan.entries

  abbrev entries : List PlanEntry
  entries = at_entry (base_of name) (resized_entry n) plan.entries

  abbrev next : Plan
  next = with_entries plan entries

  abbrev used : ℕ
  used = resized_in_use o twins i.s i.t name n

  abbrev sum : ℕ
  sum = resized_group_sum o i.t name n

  abbrev limit : ℕ
  limit = resized_group_limit i.t name

  -- what the entry wants
  want_by : (p : Part) (b : Bool)
      → eqb (length p.blocks) n ≡ b
      → want_entry pictured (resized_entry n (entry p))
      ≡ record (want_of o twins i.t.parts p) { blocks = n }
  want_by p true is =
      let before = before_same size image m source plan whole i h p.name in
      let store = store_same (store_of p.name) i.t.parts in
      let blocks = eqb-true (length p.blocks) n is in
      rw is (λ j. record { before = before j; blocks = blocks j; store = store j })
  want_by p false is =
      let before = before_same size image m source plan whole i h p.name in
      let store = store_same (store_of p.name) i.t.parts in
      rw is (λ j. record { before = before j; blocks = n; store = store j })

  wants : is_of_slot o name ≡ true
      → map (want_entry pictured) entries
      ≡ wants_resized o twins i.t.parts name n
  wants of =
      changed_wants size image m source plan whole i h name (resized_entry n)
      (λ p. record (want_of o twins i.t.parts p) { blocks = n }) of
      (λ p c e. want_by p (eqb (length p.blocks) n) refl)

  -- ---- the group

  own_each : (p : Part) → Contains own p → is_of_slot o p.name ≡ true
  own_each p c = (of_filter (λ (x : Part). is_of_slot o x.name) i.t.parts p c).1

  in_group : (p : Part) → Contains own p → IsOfSlot o p.group
  in_group p c = in_slot_group o i.t.parts p i.update.parts.own.each c

  abbrev changed : Part → PlanEntry
  changed p =
      cond (bytes_eq (base_of p.name) (base_of name)) (resized_entry n (entry p)) (entry p)

  entries_are : entries ≡ map changed own
  entries_are =
      ap (at_entry (base_of name) (resized_entry n)) i.again
      ∙ map_map entry
      (λ (e : PlanEntry). cond (bytes_eq e.name (base_of name)) (resized_entry n e) e) own

  changed_group : (p : Part) → (changed p).group ≡ group_of p.group
  changed_group p = elim (cases_Bool (bytes_eq (base_of p.name) (base_of name))) [
    | inl t ↦ rw t (resized_group n (entry p))
    | inr f ↦ rw f refl
  ]

  changed_blocks : (p : Part)
      → Contains own p
      → is_of_slot o name ≡ true
      → (changed p).blocks ≡ cond (bytes_eq p.name name) n (length p.blocks)
  changed_blocks p c of =
      let same = base_eq o p.name name (own_each p c) of in
      elim (cases_Bool (bytes_eq p.name name)) [
        | inl t ↦ rw (same, t) (resized_blocks n (entry p))
        | inr f ↦ rw (same, f) refl
      ]

  sum_is : (f : IsFound name own)
      → is_of_slot o name ≡ true
      → group_bytes (group_of f.part.group) entries ≡ sum
  sum_is f of =
      let group : List ℕ = f.part.group in
      let mine = in_group f.part f.among in
      let sizes = sizes_same group name n changed own (λ p c. (
        ap (λ (g : Option (List ℕ)). same_group g (group_of group)) (changed_group p)
            ∙ group_same o p.group group (in_group p c) mine,
        changed_blocks p c of,
      )) in
      let named = sym (sym (group_own o name i.t.parts of)
      ∙ group_first name own f.part f.first_is) in
      ap (group_bytes (group_of group)) entries_are
      ∙ ap group_sum_of sizes
      ∙ ap (λ (g : List ℕ). group_sum_of (sizes_in g name n own)) named

  limit_is : (f : IsFound name own)
      → is_of_slot o name ≡ true
      → limit_by m.state.groups (group_of f.part.group) ≡ limit
  limit_is f of =
      limit_same source o m.state.groups i.s.groups i.t.groups f.part.group i.limits i.groups none
      (in_group f.part f.among)
      ∙ ap (limit_of i.t.groups)
      (sym (sym (group_own o name i.t.parts of) ∙ group_first name own f.part f.first_is))

  within_is : (f : IsFound name own)
      → is_of_slot o name ≡ true
      → if_within m.state source (group_of f.part.group) next
      ≡ unless (is_within sum limit) (refusals.GroupLimit sum limit)
      (if_room m.state source next)
  within_is f of =
      let s = sum_is f of in
      let l = limit_is f of in
      (λ j.
      unless (is_within (s j) (l j)) (refusals.GroupLimit (s j) (l j))
      (if_room m.state source next))

  -- ---- the row

  abbrev row : Effect State
  row = resize_row m.state name bytes source plan

  abbrev Given : Result Layout EditFault → Type 0
  Given r = IsGiven m source next r row

  abbrev made : Result Layout EditFault
  made = by_edit (resize_of name bytes) plan.apart o i.s i.t

  abbrev sized_test : Bool
  sized_test = nat_le bytes (2 ^ 40)

  -- of a partition that is written in place
  kept_given : is_kept sized_test o name plan ≡ true → row ≡ refuses refusals.Written
  kept_given is_so =
      let k = settled_of sized_test o name plan is_so in
      let full = k.full in
      let sized = k.passed in
      let is = k.is in
      let plain = k.plain in
      let settled = k.settled in
      rw (i.bare, full, sized, is, plain, settled) refl

  free_given : is_kept sized_test o name plan ≡ false → Given made
  free_given free = elim (cases_Bool (is_full o name)) [
    | inr bad ↦ subst Given (sym (resized-bad_name o twins i.s i.t name bytes bad))
        (rw bad refl, refl)
    | inl full ↦
        let of = full_slot o name full in
        elim (cases_Bool (nat_le bytes (2 ^ 40))) [
          | inr bad ↦
              subst Given
              (sym (resized-bad_size o twins i.s i.t name bytes full
              (leb-false bytes (2 ^ 40) bad)))
              (rw (full, bad) refl, refl)
          | inl sized ↦
              let short = leb-true bytes (2 ^ 40) sized in
              elim (cases_Bool (has_part name i.t.parts)) [
                | inr absent ↦
                    let no = entry_absent o i.t plan.entries i.again name of absent in
                    subst Given
                    (sym (resized-unknown o twins i.s i.t name bytes full short absent))
                    (rw (i.bare, full, sized, no) refl, refl)
                | inl there ↦
                    let e = entry_there o i.t plan.entries i.again name of there in
                    let has = store_there o i.t plan.entries i.again name e.0.part e.0.named in
                    let is = e.1 in
                    elim (cases_Bool (has_part (store_of name) i.t.parts)) [
                      | inl stored ↦
                          let some = has ∙ stored in
                          subst Given
                          (sym (resized-has_store o twins i.s i.t name bytes full short there
                          stored))
                          (rw (i.bare, full, sized, is, some) refl, refl)
                      | inr plain ↦
                          let no = has ∙ plain in
                          let loose = free_entry sized_test o name plan (entry e.0.part) full sized
                          is no free in
                          let judged : row ≡ if_within m.state source (group_of e.0.part.group) next
                          = rw (i.bare, full, sized, is, no, loose) refl in
                          let asked = judged ∙ within_is e.0 of in
                          let roomed = room_is size image m source plan whole i h entries
                          (wants_resized o twins i.t.parts name n) (wants of) in
                          elim (cases_Bool (is_within sum limit)) [
                            | inr beyond ↦
                                subst Given (sym
                                (resized-group_limit o twins i.s i.t name bytes sum limit
                                full short there plain refl refl beyond))
                                (asked ∙ rw beyond refl, refl)
                            | inl within ↦
                                let room : row ≡ if_room m.state source next =
                                asked ∙ rw within refl in
                                elim (cases_Bool (nat_le used (cap_of i.t.device))) [
                                  | inr over ↦
                                      subst Given
                                      (sym (resized-no_room o twins i.s i.t name bytes used
                                      (cap_of i.t.device) full short there plain within refl refl
                                      (leb-false used (cap_of i.t.device) over)))
                                      (room ∙ roomed ∙ rw over refl, refl)
                                  | inl fits ↦
                                      subst Given
                                      (sym (resized-ok o twins i.s i.t name bytes (record {
                                        full = full;
                                        size = short;
                                        known = there;
                                        plain = plain;
                                        within = within;
                                        room = leb-true used (cap_of i.t.device) fits;
                                      })))
                                      (room ∙ roomed ∙ rw fits refl)
                                ]
                          ]
                    ]
              ]
        ]
  ]

  pub resize_given : IsGivenBy m source next (settled_guard sized_test name source plan) made row
  resize_given =
      given_by m source next (is_kept sized_test o name plan) refusals.Written made row kept_given
      free_given

pub resize_is : EditsFollowSizes → (name : List ℕ) (bytes : ℕ)
    → IsTheMachinesOrFull (Resize name bytes)
unfolding machine_effect
resize_is law name bytes size image m staged whole is =
    edit_is law size image m staged whole is (Resize name bytes) refl
    (settled_guard (nat_le bytes (2 ^ 40)) name) (resize_of name bytes)
    refl (resize_row m.state name bytes) (λ source plan phase.
    let i = is_installed size image m source plan whole is phase in
    let h = has_source size image m source plan whole is phase in
    let none = default_unlimited i.t.groups i.update.target_rules.groups in
    (i, resize_given size image m source plan whole i h none name bytes))
