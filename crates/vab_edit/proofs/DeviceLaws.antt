-- A kept device with another table and plan of the target is one.
use Rattle.std.proofs.Common.{◌≡◌, ◌∙◌, inl, inr, ℕ, true, List, [], sym}
use Rattle.std.proofs.Common.{ap, subst, arith}
use Rattle.std.specs.Prelude.{map, is_some, Option, Some, None, if◌then◌else◌, ◌==◌}
use Rattle.vab_marks.specs.declared.mark.MarkPhase.TheVariants as marks
use Rattle.vab_tables.specs.declared.table.Table.{Table}
use Rattle.vab_layout.specs.Layout.{layout_of}
use Rattle.vab_layout.specs.Slots.{other_slot, twins_by}
use Rattle.vab_layout.proofs.LayoutLaws.{layout_keeps}
use Rattle.vab_builder.specs.declared.edit.Edit.{Edit}
use Rattle.vab_device.specs.declared.device.Part.{Part}
use Rattle.vab_device.specs.declared.device.Device.{Device}
use Rattle.vab_device.specs.Kept.{lies_in, table_of_slot, is_installing, reads_both, IsTableOf}
use Rattle.vab_device.specs.Kept.{ArePresent, AreParts, AreOfUpdate, IsUpdate}
use Rattle.vab_device.specs.Kept.{IsDevice}
use Rattle.vab_device.specs.Phases.{plan_of}
use Rattle.vab_device.proofs.PhaseCases.{cases_slot}
use Rattle.vab_device.proofs.SlotTable.{kept_table_at}
use Rattle.vab_edit.specs.Carried.{carried}
use Rattle.vab_edit.specs.Guards.{kept_off}
use Rattle.vab_edit.specs.Prepared.{IsEdited, with_target}
use Rattle.vab_edit.specs.Tables.{HasTables}
use Rattle.vab_edit.proofs.GateLaws.{device_of_layout}
use Rattle.vab_edit.proofs.KeptLaws.{fresh_planned, all_carried}
use Rattle.vab_edit.proofs.NoStoresLaws.{edited_no_stores}
use Rattle.vab_edit.proofs.StandsLaws.{planned_phase}

-- what holds of the two tables of an update
pub kept_update : (d : Device) (size : ℕ) (s t : Table)
    → IsDevice d size
    → HasTables d s t
    → AreOfUpdate d.mark.apart d.mark.slot s t
kept_update d size s t kept has =
    subst (λ (x : Option Table). IsUpdate d.mark.apart d.mark.slot (Some s) x) has.target
    (subst
    (λ (x : Option Table).
    IsUpdate d.mark.apart d.mark.slot x (table_of_slot d (other_slot d.mark.slot)))
    has.source kept.update)

module _
    (d : Device) (size : ℕ) (edit : Edit) (s t u : Table)
    (kept : IsDevice d size)
    (has : HasTables d s t)
    (edited : IsEdited d.mark.apart d.geometry.max d.mark.slot edit s t u)
    (free : kept_off d.mark.apart (other_slot d.mark.slot) d.plan edit ≡ None) where
  o : ℕ
  o = other_slot d.mark.slot

  pub new_lies : lies_in d.tail.super_end d.geometry (layout_of u).device ≡ true
  new_lies =
      ap (lies_in d.tail.super_end d.geometry) (device_of_layout t u edited.device)
      ∙ (kept_table_at d size (other_slot d.mark.slot) t kept (omega arith) has.target).lies

  new_table : IsTableOf d.tail.super_end d.geometry (other_slot d.mark.slot) u
  new_table = record {
    rules = edited.rules;
    small = omega (arith, edited.size, kept.geometry.most);
    own = edited.target.own;
    lies = new_lies;
  }

  new_plan : AreParts d.tail.super_end
      (map (carried has.old_plan) (plan_of (other_slot d.mark.slot) (layout_of u) []))
  new_plan =
      all_carried d.tail.super_end has.old_plan (plan_of (other_slot d.mark.slot) (layout_of u) [])
      (subst (ArePresent d.tail.super_end) has.is_planned kept.plan)
      (fresh_planned d.tail.super_end (other_slot d.mark.slot) d.geometry (layout_of u)
      (twins_by d.mark.apart (layout_of s).parts) (layout_of s).parts
      kept.enough (layout_keeps u edited.rules) edited.target new_lies)

  phase_is : d.mark.phase ≡ marks.Installing
  phase_is = planned_phase d size has.old_plan kept has.is_planned

  installing : is_installing d.mark.phase ≡ true
  installing = ap is_installing phase_is

  both_read : reads_both d.mark.phase ≡ true
  both_read = ap reads_both phase_is

  are : AreOfUpdate d.mark.apart d.mark.slot s u
  are = record {
    target = edited.target;
    device = (kept_update d size s t kept has).device ∙ sym edited.device;
    groups = (kept_update d size s t kept has).groups ∙ sym edited.groups;
    no_stores =
        edited_no_stores d.mark.apart (other_slot d.mark.slot)
        (twins_by d.mark.apart (layout_of s).parts) (layout_of s) (layout_of t) (layout_of u)
        has.old_plan edit (omega arith) edited.layout
        (subst
        (λ (x : Option (List Part)). kept_off d.mark.apart (other_slot d.mark.slot) x edit ≡ None)
        has.is_planned free)
        (kept_update d size s t kept has).no_stores;
  }

  beside_a : (plan : List Part)
      → AreParts d.tail.super_end plan
      → d.mark.slot ≡ 0
      → IsDevice (record d { table_b = Some u; plan = Some plan }) size
  beside_a plan is e =
      let ta : d.table_a ≡ Some s = ap (table_of_slot d) (sym e) ∙ has.source in
      record {
        enough = kept.enough;
        ends = kept.ends;
        geometry = kept.geometry;
        control = kept.control;
        phase = kept.phase;
        slot = kept.slot;
        flags = kept.flags;
        current = kept.current;
        has_a = kept.has_a;
        has_b = kept.has_b;
        copies_on = kept.copies_on;
        parts_a = kept.parts_a;
        parts_b = kept.parts_b;
        table_a = kept.table_a;
        table_b =
            subst (λ (n : ℕ). IsTableOf d.tail.super_end d.geometry (other_slot n) u) e new_table;
        source =
            ap (λ (n : ℕ). is_some (if n == 0 then d.table_a else Some u)) e ∙ ap is_some ta;
        target =
            ap (λ (n : ℕ). is_some (if other_slot n == 0 then d.table_a else Some u)) e
            ∙ sym both_read;
        planned = sym installing;
        plan = is;
        update =
            subst
            (λ (x : Option Table).
            IsUpdate d.mark.apart d.mark.slot x
            (if other_slot d.mark.slot == 0 then d.table_a else Some u))
            (sym (ap (λ (n : ℕ). if n == 0 then d.table_a else Some u) e ∙ ta))
            (subst (λ (x : Option Table). IsUpdate d.mark.apart d.mark.slot (Some s) x)
            (sym (ap (λ (n : ℕ). if other_slot n == 0 then d.table_a else Some u) e))
            are);
        overlaid = kept.overlaid;
        overlay = kept.overlay;
      }

  beside_b : (plan : List Part)
      → AreParts d.tail.super_end plan
      → d.mark.slot ≡ 1
      → IsDevice (record d { table_a = Some u; plan = Some plan }) size
  beside_b plan is e =
      let tb : d.table_b ≡ Some s = ap (table_of_slot d) (sym e) ∙ has.source in
      record {
        enough = kept.enough;
        ends = kept.ends;
        geometry = kept.geometry;
        control = kept.control;
        phase = kept.phase;
        slot = kept.slot;
        flags = kept.flags;
        current = kept.current;
        has_a = kept.has_a;
        has_b = kept.has_b;
        copies_on = kept.copies_on;
        parts_a = kept.parts_a;
        parts_b = kept.parts_b;
        table_a =
            subst (λ (n : ℕ). IsTableOf d.tail.super_end d.geometry (other_slot n) u) e new_table;
        table_b = kept.table_b;
        source =
            ap (λ (n : ℕ). is_some (if n == 0 then Some u else d.table_b)) e ∙ ap is_some tb;
        target =
            ap (λ (n : ℕ). is_some (if other_slot n == 0 then Some u else d.table_b)) e
            ∙ sym both_read;
        planned = sym installing;
        plan = is;
        update =
            subst
            (λ (x : Option Table).
            IsUpdate d.mark.apart d.mark.slot x
            (if other_slot d.mark.slot == 0 then Some u else d.table_b))
            (sym (ap (λ (n : ℕ). if n == 0 then Some u else d.table_b) e ∙ tb))
            (subst (λ (x : Option Table). IsUpdate d.mark.apart d.mark.slot (Some s) x)
            (sym (ap (λ (n : ℕ). if other_slot n == 0 then Some u else d.table_b) e))
            are);
        overlaid = kept.overlaid;
        overlay = kept.overlay;
      }

  pub next_kept : (plan : List Part)
      → plan ≡ map (carried has.old_plan) (plan_of (other_slot d.mark.slot) (layout_of u) [])
      → IsDevice (with_target d (other_slot d.mark.slot) u plan) size
  next_kept plan is =
      let planned : AreParts d.tail.super_end plan =
      subst (AreParts d.tail.super_end) (sym is) new_plan in
      elim (cases_slot d.mark.slot kept.slot) [
        | inl e ↦
            subst (λ (x : Device). IsDevice x size)
            (sym (ap (λ (n : ℕ). with_target d (other_slot n) u plan) e))
            (beside_a plan planned e)
        | inr e ↦
            subst (λ (x : Device). IsDevice x size)
            (sym (ap (λ (n : ℕ). with_target d (other_slot n) u plan) e))
            (beside_b plan planned e)
      ]
