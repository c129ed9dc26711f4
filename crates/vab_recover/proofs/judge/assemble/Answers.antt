use Rattle.std.proofs.Common.{◌≡◌, ◌==◌, ℕ, List, get_or, refl, Option, Some, None, ap, sym, ◌∙◌}
use Rattle.std.proofs.Common.{inl, inr, true, false}
use Rattle.std.proofs.lemmas.Bool.{cases_Bool}
use Rattle.vab_marks.specs.declared.mark.MarkPhase.{MarkPhase}
use Rattle.vab_marks.specs.declared.mark.MarkPhase.TheVariants as marks
use Rattle.vab_marks.specs.declared.mark.UpdateMark.{UpdateMark}
use Rattle.std.specs.Prelude.{if◌then◌else◌}
use Rattle.vab_tables.specs.declared.entries.BlockDevice.{BlockDevice}
use Rattle.vab_tables.specs.declared.table.Table.{Table}
use Rattle.vab_tables.specs.Rules.{cap_of, KeepsRules}
use Rattle.vab_layout.specs.Layout.{layout_of, first_device}
use Rattle.vab_device.specs.declared.device.Part.{Part}
use Rattle.vab_device.specs.Kept.{has_both, parts_of}
use Rattle.vab_recover.specs.Opened.{is_merging, slot_parts}
use Rattle.vab_recover.proofs.judge.assemble.Goals as goal

first_of : (t : Table) (keeps : KeepsRules t) (ds : List BlockDevice) (d : BlockDevice)
    → ds ≡ t.devices
    → d ≡ get_or ds 0 d
    → d ≡ (layout_of t).device
unfolding layout_of
first_of t keeps ds d same at =
    at
    ∙ ap (λ (l : List BlockDevice). get_or l 0 d) (same ∙ keeps.one_device)
    ∙ sym (ap first_device keeps.one_device)

-- the partitions of a slot, as they were divided
slot_is : (m : UpdateMark) (k : ℕ) (s : Table) (through own other : Option (List Part))
    → own ≡ (if is_merging m.phase then through else Some (parts_of m.slot (layout_of s)))
    → other
    ≡ (if is_merging m.phase then None else (if has_both m.phase then through else None))
    → (if m.slot == k then own else other) ≡ slot_parts m k s through
slot_is m k s through own other own_is other_is = elim (cases_Bool (is_merging m.phase)) [
  | inl is ↦
      let both = not_both m.phase is in
      let one : own ≡ through = rw is at own_is in
      let none : other ≡ None = rw is at other_is in
      rw (is, both, one, none) refl
  | inr not ↦
      let one : own ≡ Some (parts_of m.slot (layout_of s)) = rw not at own_is in
      let rest : other ≡ (if has_both m.phase then through else None) = rw not at other_is in
      rw (not, one, rest) refl
]
  where
    not_both : (phase : MarkPhase) → is_merging phase ≡ true → has_both phase ≡ false
    not_both marks.Idle is = refl
    not_both marks.Installing is = refl
    not_both marks.Staged is = absurd cc
    not_both marks.Merging is = refl
    not_both marks.Completed is = refl

pub returns-clause-is : goal.returns-clause-is
returns-clause-is c =
    let m : UpdateMark = c.args.mark in
    let own : Option (List Part) = c.in_ok-divided.divided.own in
    let other : Option (List Part) = c.in_ok-divided.divided.other in
    let t : Table = c.args.table.now in
    record {
      mark = refl;
      control = refl;
      ends = refl;
      geometry = refl;
      cap = c.cap-cap.ensures
          ∙ ap cap_of
          (first_of c.args.table.now c.requires.keeps c.as_slice.result.now
          c.index-as_slice-0.result
          c.as_slice.ensures c.index-as_slice-0.is);
      groups = c.in_ok-groups.ensures.limits;
      a = c.by_slot-a.ensures.a
          ∙ slot_is m 0 t c.args.stored.through own other c.in_ok-divided.ensures.own
          c.in_ok-divided.ensures.other;
      b = c.by_slot-a.ensures.b
          ∙ slot_is m 1 t c.args.stored.through own other c.in_ok-divided.ensures.own
          c.in_ok-divided.ensures.other;
      plan = c.in_ok-divided.ensures.plan;
      overlay = refl;
    }
