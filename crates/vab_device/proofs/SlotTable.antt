-- The tables that are kept of a device's slots, and another table of the slot of its mark.
use Rattle.std.proofs.Common.{◌≡◌, ◌∙◌, ℕ, zero, suc, ◌<◌, true, false, List, refl, sym, ap, subst}
use Rattle.std.proofs.Common.{arith}
use Rattle.std.specs.Prelude.{◌==◌, if◌then◌else◌, Bool, Option, Some, None, is_some}
use Rattle.vab_marks.specs.declared.mark.MarkPhase.{MarkPhase}
use Rattle.vab_marks.specs.declared.mark.MarkPhase.TheVariants as marks
use Rattle.vab_model.specs.declared.state.GroupLimit.{GroupLimit}
use Rattle.vab_tables.specs.declared.table.Table.{Table}
use Rattle.vab_layout.specs.Layout.{layout_of}
use Rattle.vab_layout.specs.Slots.{other_slot}
use Rattle.vab_layout.proofs.LayoutLaws.{layout_keeps}
use Rattle.vab_device.specs.declared.device.Part.{Part}
use Rattle.vab_device.specs.declared.device.Device.{Device}
use Rattle.vab_device.specs.Kept.{IsDevice, IsTableOf, IsKeptTable, IsUpdate, AreParts, IsOverlay}
use Rattle.vab_device.specs.Kept.{table_of_slot, parts_of, has_slot, reads_both}
use Rattle.vab_device.proofs.OverlayLaws.{plain_none}
use Rattle.vab_device.proofs.OwnParts.{parts_kept}

-- ---- the tables that are kept

-- what holds of the table of a slot
pub kept_table_at : (d : Device) (size slot : ℕ) (t : Table)
    → IsDevice d size
    → slot < 2
    → table_of_slot d slot ≡ Some t
    → IsTableOf d.tail.super_end d.geometry slot t
kept_table_at d size zero t kept below is =
    subst (IsKeptTable d.tail.super_end d.geometry 0) is kept.table_a
kept_table_at d size (suc zero) t kept below is =
    subst (IsKeptTable d.tail.super_end d.geometry 1) is kept.table_b
kept_table_at d size (suc (suc n)) t kept below is = absurd (omega (arith, below))

-- and of that of the slot of the mark
pub kept_table : (d : Device) (size : ℕ) (t : Table)
    → IsDevice d size
    → table_of_slot d d.mark.slot ≡ Some t
    → IsTableOf d.tail.super_end d.geometry d.mark.slot t
kept_table d size t kept is = kept_table_at d size d.mark.slot t kept kept.slot is

some_at : (x : Option Table) → is_some x ≡ true → (t : Table) × (x ≡ Some t)
some_at None is = absurd (let no : false ≡ true = is in cc)
some_at (Some t) is = (t, refl)

-- there is one of that slot
pub has_table : (d : Device) (size : ℕ)
    → IsDevice d size
    → (t : Table) × (table_of_slot d d.mark.slot ≡ Some t)
has_table d size kept = some_at (table_of_slot d d.mark.slot) kept.source

-- there is no update where the other slot has none
pub no_update : (apart : Bool) (source : ℕ) (s t : Option Table)
    → is_some t ≡ false
    → IsUpdate apart source s t
no_update apart source None t none = tt
no_update apart source (Some s) None none = tt
no_update apart source (Some s) (Some t) none = absurd (let no : true ≡ false = none in cc)

-- ---- another table, with its partitions and these groups

module _
    (d : Device) (size : ℕ) (u : Table) (groups : List GroupLimit)
    (kept : IsDevice d size)
    (idle : d.mark.phase ≡ marks.Idle)
    (plain : d.mark.overlaid ≡ false)
    (new_table : IsTableOf d.tail.super_end d.geometry d.mark.slot u) where
  new_parts : AreParts d.tail.super_end (parts_of d.mark.slot (layout_of u))
  new_parts =
      parts_kept d.tail.super_end d.mark.slot d.geometry (layout_of u) kept.enough
      (layout_keeps u new_table.rules) new_table.own new_table.lies

  -- the other slot has no table
  no_other : is_some (table_of_slot d (other_slot d.mark.slot)) ≡ false
  no_other = kept.target ∙ ap reads_both idle

  slot_has : (slot : ℕ) → has_slot d.mark.phase d.mark.slot slot ≡ (d.mark.slot == slot)
  slot_has slot = ap (λ (p : MarkPhase). has_slot p d.mark.slot slot) idle

  bare : (parts : Option (List Part)) → IsOverlay d.tail.super_end parts d.overlay
  bare parts =
      subst (λ (o : Option Part). IsOverlay d.tail.super_end parts o)
      (sym (plain_none d size kept plain)) tt

  pub retabled_a : d.mark.slot ≡ 0
      → IsDevice
      (record d {
        groups = groups;
        a = Some (parts_of d.mark.slot (layout_of u));
        table_a = Some u;
      })
      size
  retabled_a e =
      let none : is_some d.table_b ≡ false =
      ap (λ (n : ℕ). is_some (table_of_slot d (other_slot n))) (sym e) ∙ no_other in
      record {
        enough = kept.enough;
        ends = kept.ends;
        geometry = kept.geometry;
        control = kept.control;
        phase = kept.phase;
        slot = kept.slot;
        flags = kept.flags;
        current = kept.current;
        has_a = sym (slot_has 0 ∙ ap (λ (n : ℕ). n == 0) e);
        has_b = kept.has_b;
        copies_on = kept.copies_on;
        parts_a = new_parts;
        parts_b = kept.parts_b;
        table_a = subst (λ (n : ℕ). IsTableOf d.tail.super_end d.geometry n u) e new_table;
        table_b = kept.table_b;
        source = ap (λ (n : ℕ). is_some (if n == 0 then Some u else d.table_b)) e;
        target =
            ap (λ (n : ℕ). is_some (if other_slot n == 0 then Some u else d.table_b)) e
            ∙ none
            ∙ sym (ap reads_both idle);
        planned = kept.planned;
        plan = kept.plan;
        update =
            no_update d.mark.apart d.mark.slot
            (if d.mark.slot == 0 then Some u else d.table_b)
            (if other_slot d.mark.slot == 0 then Some u else d.table_b)
            (ap (λ (n : ℕ). is_some (if other_slot n == 0 then Some u else d.table_b)) e
            ∙ none);
        overlaid = kept.overlaid;
        overlay = bare _;
      }

  pub retabled_b : d.mark.slot ≡ 1
      → IsDevice
      (record d {
        groups = groups;
        b = Some (parts_of d.mark.slot (layout_of u));
        table_b = Some u;
      })
      size
  retabled_b e =
      let none : is_some d.table_a ≡ false =
      ap (λ (n : ℕ). is_some (table_of_slot d (other_slot n))) (sym e) ∙ no_other in
      record {
        enough = kept.enough;
        ends = kept.ends;
        geometry = kept.geometry;
        control = kept.control;
        phase = kept.phase;
        slot = kept.slot;
        flags = kept.flags;
        current = kept.current;
        has_a = kept.has_a;
        has_b = sym (slot_has 1 ∙ ap (λ (n : ℕ). n == 1) e);
        copies_on = kept.copies_on;
        parts_a = kept.parts_a;
        parts_b = new_parts;
        table_a = kept.table_a;
        table_b = subst (λ (n : ℕ). IsTableOf d.tail.super_end d.geometry n u) e new_table;
        source = ap (λ (n : ℕ). is_some (if n == 0 then d.table_a else Some u)) e;
        target =
            ap (λ (n : ℕ). is_some (if other_slot n == 0 then d.table_a else Some u)) e
            ∙ none
            ∙ sym (ap reads_both idle);
        planned = kept.planned;
        plan = kept.plan;
        update =
            no_update d.mark.apart d.mark.slot
            (if d.mark.slot == 0 then d.table_a else Some u)
            (if other_slot d.mark.slot == 0 then d.table_a else Some u)
            (ap (λ (n : ℕ). is_some (if other_slot n == 0 then d.table_a else Some u)) e
            ∙ none);
        overlaid = kept.overlaid;
        overlay = bare _;
      }
