-- The row of a partition more.
use Rattle.std.proofs.Common.{◌≡◌, ◌+◌, ◌∙◌, ℕ, ◌^◌, ◌<◌, false, List, [], ◌∷◌}
use Rattle.std.proofs.Common.{◌++◌}
use Rattle.std.proofs.Common.{inl, inr, refl, sym, ap, subst, length, arith}
use Rattle.std.specs.Prelude.{Option, Result, nat_le, nat_lt, Contains, map}
use Rattle.std.specs.List.{filter}
use Rattle.std.specs.Str.{bytes_eq}
use Rattle.std.proofs.lemmas.Bool.{cases_Bool, leb-true, leb-false, ltb-true, ltb-false}
use Rattle.std.proofs.lemmas.List.{length-map}
use Rattle.vab_disk.specs.Disk.{Image}
use Rattle.vab_names.specs.Names.{is_full, is_of_slot, base_of, default_name, most_partitions}
use Rattle.vab_names.proofs.NameCases.{full_slot, ne_name}
use Rattle.vab_space.specs.declared.Want.{Want}
use Rattle.vab_space.specs.Space.{blocks_of, group_sum_of}
use Rattle.vab_tables.specs.Rules.{cap_of}
use Rattle.vab_blocks.proofs.Contained.{of_filter}
use Rattle.vab_layout.specs.declared.layout.Part.{Part}
use Rattle.vab_layout.specs.declared.layout.Layout.{Layout}
use Rattle.vab_layout.specs.Slots.{other_slot, own_parts, twins_by, before_of}
use Rattle.vab_builder.specs.declared.fault.EditFault.{EditFault}
use Rattle.vab_builder.specs.Sizes.{has_part, want_of, wants_of, is_within, limit_of}
use Rattle.vab_builder.specs.Passes.{created_group, created_group_sum, created_group_limit}
use Rattle.vab_builder.specs.Passes.{created_in_use}
use Rattle.vab_builder.proofs.PartLaws.{part_absent}
use Rattle.vab_builder.proofs.Verdicts.{created-bad_name, created-bad_size, created-exists}
use Rattle.vab_builder.proofs.Verdicts.{created-too_many, created-group_limit, created-no_room}
use Rattle.vab_builder.proofs.Verdicts.{created-ok}
use Rattle.vab_model.specs.declared.state.Image.{Image as ImageOfSlot}
use Rattle.vab_model.specs.declared.state.PlanEntry.{PlanEntry}
use Rattle.vab_model.specs.declared.state.Plan.{Plan}
use Rattle.vab_model.specs.declared.state.State.{State}
use Rattle.vab_model.specs.declared.command.Refusal.TheVariants as refusals
use Rattle.vab_model.specs.Commands.{Create}
use Rattle.vab_model.specs.Effects.{Effect}
use Rattle.vab_model.specs.Plans.{created_entry, first_group, images_of, twins_of, group_bytes}
use Rattle.vab_model.specs.Plans.{with_entries}
use Rattle.vab_model.specs.Plans.{want_of as want_entry, limit_of as limit_by, same_group}
use Rattle.vab_model.specs.Machine.{unless, create_row, machine_effect, if_room}
use Rattle.vab_model.specs.Machine.{if_within}
use Rattle.vab_device.specs.Kept.{group_of}
use Rattle.vab_device.specs.Mounted.{Mounted}
use Rattle.vab_device.specs.Updates.{no_guard, entry_by}
use Rattle.vab_edit.proofs.PlanLaws.{map_map, map_among}
use Rattle.vab_targets.specs.Sectors.{HasWholeSectors}
use Rattle.vab_targets.proofs.Plans.{EditsFollowSizes}
use Rattle.vab_builder.proofs.LimitLaws.{default_unlimited}
use Rattle.vab_machine_laws.specs.Edits.{IsTheMachinesOrFull}
use Rattle.vab_targets.proofs.Installed.{IsInstalled, is_installed}
use Rattle.vab_targets.proofs.Updates.{by_edit}
use Rattle.vab_machine_laws.proofs.Sources.{HasSource, has_source}
use Rattle.vab_targets.proofs.Named.{entry_absent, entry_there}
use Rattle.vab_machine_laws.proofs.Given.{IsGiven, edit_is}
use Rattle.vab_machine_laws.proofs.Groups.{IsOfSlot, group_same, limit_same, sizes_same, pushed}
use Rattle.vab_machine_laws.proofs.Groups.{in_slot_group, first_is, first_in_slot}
use Rattle.vab_machine_laws.proofs.Rooms.{before_same, want_same, room_is}
use Rattle.vab_machine_laws.proofs.Values.{create_of}

map_more : {X Y : Type 0} (f : X → Y) (xs : List X) (x : X)
    → map f (xs ++ x ∷ []) ≡ map f xs ++ f x ∷ []
map_more f [] x = refl
map_more f (y ∷ ys) x = let rest = map_more f ys x in (λ i. f y ∷ rest i)

module _
    (size : ℕ) (image : Image) (m : Mounted) (source : ℕ) (plan : Plan)
    (whole : HasWholeSectors size image)
    (i : IsInstalled m source plan)
    (h : HasSource size image m source)
    (none : limit_of i.t.groups default_name ≡ 0)
    (name : List ℕ) (bytes : ℕ) where
  abbrev o : ℕ
  o = other_slot source

  abbrev n : ℕ
  n = blocks_of bytes

  abbrev own : List Part
  own = own_parts o i.t.parts

  abbrev more : PlanEntry
  more = created_entry m.state.groups (base_of name) bytes

  abbrev twins : List Part
  twins = twins_by plan.apart i.s.parts

  abbrev pictured : List ImageOfSlot
  pictured = twins_of plan.apart (images_of m.state source)

  abbrev entries : List PlanEntry
  entries = plan.entries ++ more ∷ []

  abbrev next : Plan
  next = with_entries plan entries

  abbrev used : ℕ
  used = created_in_use o twins i.s i.t name n

  abbrev sum : ℕ
  sum = created_group_sum o i.t name n

  abbrev limit : ℕ
  limit = created_group_limit o i.t

  abbrev wanted : List Want
  wanted =
      wants_of o twins i.t.parts
      ++ record { before = length (before_of o twins name); blocks = n; store = 0 } ∷ []

  wants : map (want_entry pictured) entries ≡ wanted
  wants =
      let before = before_same size image m source plan whole i h name in
      let entry : Part → PlanEntry = entry_by i.t plan.entries in
      let there : map (want_entry pictured) plan.entries ≡ wants_of o twins i.t.parts =
      ap (map (want_entry pictured)) i.again
      ∙ map_map entry (want_entry pictured) own
      ∙ map_among (λ p. want_entry pictured (entry p)) (want_of o twins i.t.parts) own
      (λ p c. want_same size image m source plan whole i h p) in
      map_more (want_entry pictured) plan.entries more
      ∙ (λ j. there j ++ record { before = before j; blocks = n; store = 0 } ∷ [])

  -- ---- the group

  group : group_of (created_group o i.t) ≡ first_group m.state.groups
  group = first_is source o m.state.groups i.s.groups i.t.groups i.limits i.groups

  in_group : (p : Part) → Contains own p → IsOfSlot o p.group
  in_group p c = in_slot_group o i.t.parts p i.update.parts.own.each c

  sum_is : has_part name i.t.parts ≡ false
      → group_bytes (first_group m.state.groups) entries ≡ sum
  sum_is absent =
      let g : List ℕ = created_group o i.t in
      let mine = first_in_slot o i.t.groups in
      let sizes = sizes_same g name n (entry_by i.t plan.entries) own (λ p c.
      let among = (of_filter (λ (x : Part). is_of_slot o x.name) i.t.parts p c).0 in
      let other : bytes_eq p.name name ≡ false =
      ne_name p.name name (part_absent name i.t.parts p absent among) in (
        group_same o p.group g (in_group p c) mine,
        rw other refl,
      )) in
      ap (λ (x : Option (List ℕ)). group_bytes x entries) (sym group)
      ∙ ap group_sum_of (pushed (group_of g) more plan.entries (sym group)
      ∙ ap (λ (x : List PlanEntry).
      map {A = PlanEntry} (λ e. e.blocks)
      (filter {X = PlanEntry} (λ e. same_group e.group (group_of g)) x) ++ n ∷ []) i.again
      ∙ ap (λ (x : List ℕ). x ++ n ∷ []) sizes)

  limit_is : limit_by m.state.groups (first_group m.state.groups) ≡ limit
  limit_is =
      ap (limit_by m.state.groups) (sym group)
      ∙ limit_same source o m.state.groups i.s.groups i.t.groups (created_group o i.t) i.limits
      i.groups none (first_in_slot o i.t.groups)

  within_is : has_part name i.t.parts ≡ false
      → if_within m.state source (first_group m.state.groups) next
      ≡ unless (is_within sum limit) (refusals.GroupLimit sum limit)
      (if_room m.state source next)
  within_is absent =
      let s = sum_is absent in
      let l = limit_is in
      (λ j.
      unless (is_within (s j) (l j)) (refusals.GroupLimit (s j) (l j))
      (if_room m.state source next))

  long : length plan.entries ≡ length own
  long = ap length i.again ∙ length-map own (entry_by i.t plan.entries)

  -- the partitions that are counted: there are no physical ones
  abbrev counted : ℕ
  counted = length m.state.physical + length plan.entries

  counted_is : counted ≡ length plan.entries
  counted_is = rw i.bare (omega arith)

  -- ---- the row

  abbrev row : Effect State
  row = create_row m.state name bytes source plan

  abbrev Given : Result Layout EditFault → Type 0
  Given r = IsGiven m source next r row

  pub create_given : Given (by_edit (create_of name bytes) plan.apart o i.s i.t)
  create_given = elim (cases_Bool (is_full o name)) [
    | inr bad ↦ subst Given (sym (created-bad_name o twins i.s i.t name bytes bad))
        (rw bad refl, refl)
    | inl full ↦
        let of = full_slot o name full in
        elim (cases_Bool (nat_le bytes (2 ^ 40))) [
          | inr bad ↦
              subst Given
              (sym (created-bad_size o twins i.s i.t name bytes full
              (leb-false bytes (2 ^ 40) bad)))
              (rw (full, bad) refl, refl)
          | inl sized ↦
              let short = leb-true bytes (2 ^ 40) sized in
              elim (cases_Bool (has_part name i.t.parts)) [
                | inl there ↦
                    let e = entry_there o i.t plan.entries i.again name of there in
                    let is = e.1 in
                    subst Given
                    (sym (created-exists o twins i.s i.t name bytes full short there))
                    (rw (i.bare, full, sized, is) refl, refl)
                | inr absent ↦
                    let is = entry_absent o i.t plan.entries i.again name of absent in
                    elim (cases_Bool (nat_lt counted most_partitions)) [
                      | inr many ↦
                          let most = ltb-false counted most_partitions many in
                          subst Given
                          (sym (created-too_many o twins i.s i.t name bytes full short absent
                          (omega (arith, most, long, counted_is))))
                          (rw (full, sized, many, i.bare, is) refl, refl)
                      | inl few ↦
                          let under = ltb-true counted most_partitions few in
                          let small : length own < most_partitions =
                          omega (arith, under, long, counted_is) in
                          let judged : row
                          ≡ if_within m.state source (first_group m.state.groups) next =
                          rw (full, sized, few, i.bare, is) refl in
                          let asked = judged ∙ within_is absent in
                          let roomed = room_is size image m source plan whole i h entries wanted
                          wants in
                          elim (cases_Bool (is_within sum limit)) [
                            | inr beyond ↦
                                subst Given (sym
                                (created-group_limit o twins i.s i.t name bytes sum limit
                                full short absent small refl refl beyond))
                                (asked ∙ rw beyond refl, refl)
                            | inl within ↦
                                let room : row ≡ if_room m.state source next =
                                asked ∙ rw within refl in
                                elim (cases_Bool (nat_le used (cap_of i.t.device))) [
                                  | inr over ↦
                                      subst Given
                                      (sym (created-no_room o twins i.s i.t name bytes used
                                      (cap_of i.t.device) full short absent small within refl refl
                                      (leb-false used (cap_of i.t.device) over)))
                                      (room ∙ roomed ∙ rw over refl, refl)
                                  | inl fits ↦
                                      subst Given
                                      (sym (created-ok o twins i.s i.t name bytes (record {
                                        full = full;
                                        size = short;
                                        absent = absent;
                                        few = small;
                                        within = within;
                                        room = leb-true used (cap_of i.t.device) fits;
                                      })))
                                      (room ∙ roomed ∙ rw fits refl)
                                ]
                          ]
                    ]
              ]
        ]
  ]

pub create_is : EditsFollowSizes → (name : List ℕ) (bytes : ℕ)
    → IsTheMachinesOrFull (Create name bytes)
unfolding machine_effect
create_is law name bytes size image m staged whole is =
    edit_is law size image m staged whole is (Create name bytes) refl no_guard
    (create_of name bytes) refl (create_row m.state name bytes) (λ source plan phase.
    let i = is_installed size image m source plan whole is phase in
    let h = has_source size image m source plan whole is phase in
    let none = default_unlimited i.t.groups i.update.target_rules.groups in
    (i, create_given size image m source plan whole i h none name bytes))
