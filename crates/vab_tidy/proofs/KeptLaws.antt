-- What is kept of a device with the table of its slot alone.
use Rattle.std.proofs.Common.{◌≡◌, ◌∙◌, ℕ, zero, suc, ◌<◌, refl, ap, arith}
use Rattle.std.specs.Prelude.{◌==◌, if◌then◌else◌, Option, Some, is_some}
use Rattle.vab_geometry.specs.declared.geometry.Geometry.{Geometry}
use Rattle.vab_geometry.specs.Geometry.{IsGeometry}
use Rattle.vab_tables.specs.declared.table.Table.{Table}
use Rattle.vab_marks.specs.declared.mark.MarkPhase.TheVariants as marks
use Rattle.vab_layout.specs.Slots.{other_slot}
use Rattle.vab_device.specs.declared.device.Device.{Device}
use Rattle.vab_device.specs.Kept.{IsDevice, IsTableOf, IsKeptTable, table_of_slot}
use Rattle.vab_device.specs.Kept.{lies_in, reads_both}
use Rattle.vab_tidy.specs.declared.prepared.Alone.{Alone}
use Rattle.vab_tidy.specs.Kept.{with_table}
use Rattle.vab_tidy.specs.Planned.{IsAlone}
use Rattle.vab_device.proofs.AlikeLaws.{device_is}
use Rattle.vab_device.proofs.SlotTable.{no_update}
use Rattle.vab_tidy.proofs.AloneLaws.{place_is}

-- the table of the slot alone keeps the rules of a kept table
pub alone_of : (super_end slot : ℕ) (g : Geometry) (t : Table) (x : Alone)
    → IsGeometry g
    → IsTableOf super_end g slot t
    → IsAlone g.max slot t x
    → IsTableOf super_end g slot x.table
alone_of super_end slot g t x geometry of is = record {
  rules = is.rules;
  small = omega (arith, is.size, geometry.most);
  own = is.own;
  lies =
      ap (lies_in super_end g) (device_is slot t x.table (place_is slot t x.table is.layout))
      ∙ of.lies;
}

-- ---- the device with it

with_a : (super_end : ℕ) (g : Geometry) (n : ℕ) (x : Option Table) (u : Table)
    → n < 2
    → IsTableOf super_end g n u
    → IsKeptTable super_end g 0 x
    → IsKeptTable super_end g 0 (if n == 0 then Some u else x)
with_a super_end g zero x u below of was = of
with_a super_end g (suc zero) x u below of was = was
with_a super_end g (suc (suc n)) x u below of was = absurd (omega (arith, below))

with_b : (super_end : ℕ) (g : Geometry) (n : ℕ) (x : Option Table) (u : Table)
    → n < 2
    → IsTableOf super_end g n u
    → IsKeptTable super_end g 1 x
    → IsKeptTable super_end g 1 (if n == 0 then x else Some u)
with_b super_end g zero x u below of was = was
with_b super_end g (suc zero) x u below of was = of
with_b super_end g (suc (suc n)) x u below of was = absurd (omega (arith, below))

own_at : (n : ℕ) (a b : Option Table) (u : Table)
    → n < 2
    → (if n == 0 then (if n == 0 then Some u else a) else (if n == 0 then b else Some u)) ≡ Some u
own_at zero a b u below = refl
own_at (suc zero) a b u below = refl
own_at (suc (suc n)) a b u below = absurd (omega (arith, below))

other_at : (n : ℕ) (a b : Option Table) (u : Table)
    → n < 2
    → (if other_slot n == 0
    then (if n == 0 then Some u else a)
    else (if n == 0 then b else Some u))
    ≡ (if other_slot n == 0 then a else b)
other_at zero a b u below = refl
other_at (suc zero) a b u below = refl
other_at (suc (suc n)) a b u below = absurd (omega (arith, below))

-- the table that is kept of the slot
pub table_now : (d : Device) (u : Table)
    → d.mark.slot < 2
    → table_of_slot (with_table u d) d.mark.slot ≡ Some u
table_now d u below = own_at d.mark.slot d.table_a d.table_b u below

pub table_kept : (d : Device) (size : ℕ) (u : Table)
    → IsDevice d size
    → d.mark.phase ≡ marks.Idle
    → IsTableOf d.tail.super_end d.geometry d.mark.slot u
    → IsDevice (with_table u d) size
table_kept d size u dev idle of =
    let other : table_of_slot (with_table u d) (other_slot d.mark.slot)
    ≡ table_of_slot d (other_slot d.mark.slot) =
    other_at d.mark.slot d.table_a d.table_b u dev.slot in
    record {
      enough = dev.enough;
      ends = dev.ends;
      geometry = dev.geometry;
      control = dev.control;
      phase = dev.phase;
      slot = dev.slot;
      flags = dev.flags;
      current = dev.current;
      has_a = dev.has_a;
      has_b = dev.has_b;
      copies_on = dev.copies_on;
      parts_a = dev.parts_a;
      parts_b = dev.parts_b;
      table_a = with_a d.tail.super_end d.geometry d.mark.slot d.table_a u dev.slot of dev.table_a;
      table_b = with_b d.tail.super_end d.geometry d.mark.slot d.table_b u dev.slot of dev.table_b;
      source = ap is_some (table_now d u dev.slot);
      target = ap is_some other ∙ dev.target;
      planned = dev.planned;
      plan = dev.plan;
      update =
          no_update d.mark.apart d.mark.slot
          (table_of_slot (with_table u d) d.mark.slot)
          (table_of_slot (with_table u d) (other_slot d.mark.slot))
          (ap is_some other ∙ dev.target ∙ ap reads_both idle);
      overlaid = dev.overlaid;
      overlay = dev.overlay;
    }
