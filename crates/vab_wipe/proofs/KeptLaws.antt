-- What is kept of a device behind a wipe of its slot.
use Rattle.std.proofs.Common.{◌≡◌, ◌∙◌, inl, inr, ℕ, true, false}
use Rattle.std.proofs.Common.{List, [], ◌∷◌, refl, sym, ap, arith}
use Rattle.std.specs.Prelude.{◌==◌, if◌then◌else◌, Bool, not, Option, Some, None, is_some}
use Rattle.std.proofs.Math.Bool.{and-true}
use Rattle.std.proofs.lemmas.Bool.{cases_Bool}
use Rattle.vab_tables.specs.declared.entries.BlockDevice.{BlockDevice}
use Rattle.vab_tables.specs.declared.table.Table.{Table}
use Rattle.vab_tables.specs.Rules.{KeepsRules}
use Rattle.vab_layout.specs.declared.layout.Layout.{Layout}
use Rattle.vab_layout.specs.Layout.{layout_of, first_device}
use Rattle.vab_partitions.specs.Twins.{is_device, are_devices}
use Rattle.vab_partitions.proofs.TwinLaws.{devices_are}
use Rattle.vab_super_image.specs.declared.image.SuperImage.{SuperImage}
use Rattle.vab_super_image.specs.SuperImage.{first_filled, IsSuperImage}
use Rattle.vab_builder.proofs.TableLaws.{plain_device}
use Rattle.vab_model.specs.declared.command.Refusal.{Refusal}
use Rattle.vab_model.specs.declared.command.Refusal.TheVariants as refusals
use Rattle.vab_model.specs.Wipe.{filled_refusal}
use Rattle.vab_device.specs.declared.device.Device.{Device}
use Rattle.vab_device.specs.Kept.{IsDevice, IsTableOf, table_of_slot, lies_in}
use Rattle.vab_device.specs.Kept.{limits_of}
use Rattle.vab_device.specs.Mounted.{table_placed, places_on}
use Rattle.vab_device.specs.Updates.{layout_at, is_geometry, has_device}
use Rattle.vab_device.proofs.PhaseCases.{cases_slot}
use Rattle.vab_device.proofs.SlotTable.{kept_table, retabled_a, retabled_b}
use Rattle.vab_wipe.specs.Kept.{with_wiped}
use Rattle.vab_wipe.specs.Prepared.{other, or_later, refused_image, IsTaken, IsEmptied}

-- ---- the block device of the slot's table

abbrev device_in : Option Table → SuperImage → Bool
device_in None i = false
device_in (Some t) i = is_device (layout_of t).device (layout_of i.table).device

placed_device : (slot : ℕ) (has : Bool) (x : Option Table) (i : SuperImage)
    → has_device (table_placed slot has x) i ≡ device_in x i
placed_device slot has None i = refl
placed_device slot true (Some t) i =
    ap (λ (b : BlockDevice). is_device b (layout_of i.table).device)
    (plain_device slot (layout_of t))
placed_device slot false (Some t) i = refl

-- what is asked of the block device is asked of the table that is kept
placed_slot : (d : Device) (slot : ℕ) (i : SuperImage)
    → has_device (layout_at (places_on d) slot) i ≡ device_in (table_of_slot d slot) i
placed_slot d slot i = elim (cases_Bool (slot == 0)) [
  | inl a ↦ rw a (placed_device 0 (is_some d.a) d.table_a i)
  | inr b ↦ rw b (placed_device 1 (is_some d.b) d.table_b i)
]

first_free : (x y : Option Refusal) → or_later x y ≡ None → x ≡ None
first_free None y is = refl
first_free (Some r) y is =
    absurd (let bad : (let o : Option Refusal = Some r in o ≡ None) = is in cc)

has_own : (a b : Bool)
    → (if not a then Some refusals.OtherGeometry
    else (if not b then Some refusals.OtherDevice else None))
    ≡ None
    → b ≡ true
has_own true true is = refl
has_own true false is =
    absurd (let bad : (let o : Option Refusal = Some refusals.OtherDevice in o ≡ None) = is in cc)
has_own false b is =
    absurd (let bad : (let o : Option Refusal = Some refusals.OtherGeometry in o ≡ None) = is in cc)

one_of : (a b : BlockDevice) → are_devices (a ∷ []) (b ∷ []) ≡ is_device a b
unfolding are_devices
one_of a b = and-true (is_device a b)

-- each table has one block device
devices_first : (t u : Table)
    → KeepsRules t
    → KeepsRules u
    → are_devices t.devices u.devices ≡ is_device (layout_of t).device (layout_of u).device
unfolding layout_of
devices_first t u of_t of_u =
    (λ k. are_devices (of_t.one_device k) (of_u.one_device k))
    ∙ one_of of_t.device of_u.device
    ∙ sym (λ k. is_device (first_device (of_t.one_device k)) (first_device (of_u.one_device k)))

-- what is asked of the block device is asked of the lists of both tables
pub own_device : (d : Device) (size : ℕ) (t : Table) (i : SuperImage)
    → IsDevice d size
    → IsSuperImage d.mark.slot i
    → table_of_slot d d.mark.slot ≡ Some t
    → has_device (layout_at (places_on d) d.mark.slot) i ≡ are_devices t.devices i.table.devices
own_device d size t i kept rules own =
    placed_slot d d.mark.slot i
    ∙ ap (λ (x : Option Table). device_in x i) own
    ∙ sym (devices_first t i.table (kept_table d size t kept own).rules rules.rules)

first_same : (t u : Table) → t.devices ≡ u.devices → (layout_of t).device ≡ (layout_of u).device
unfolding layout_of
first_same t u same = ap first_device same

-- the block device of an image that is taken is that of the slot's table
device_same : (d : Device) (size : ℕ) (t : Table) (i : SuperImage)
    → IsDevice d size
    → IsSuperImage d.mark.slot i
    → table_of_slot d d.mark.slot ≡ Some t
    → refused_image d i ≡ None
    → (layout_of i.table).device ≡ (layout_of t).device
device_same d size t i kept rules own free =
    let first = first_free (other d i) (filled_refusal (first_filled i.table.partitions)) free in
    let has = has_own (is_geometry d.geometry i.geometry)
    (has_device (layout_at (places_on d) d.mark.slot) i) first in
    let same : are_devices t.devices i.table.devices ≡ true =
    sym (own_device d size t i kept rules own) ∙ has in
    sym (first_same t i.table ((devices_are t.devices i.table.devices).0 same))

-- ---- the table that is left

module _
    (d : Device) (size : ℕ) (staged : Option (List ℕ)) (t u : Table) (i : SuperImage)
    (kept : IsDevice d size)
    (own : table_of_slot d d.mark.slot ≡ Some t)
    (taken : IsTaken d staged i)
    (emptied : IsEmptied d.geometry.max d.mark.slot i u) where
  -- it has the block device of the table before it
  pub device_stays : (layout_of u).device ≡ (layout_of t).device
  device_stays =
      ap (λ (l : Layout). l.device) emptied.layout
      ∙ device_same d size t i kept taken.rules own taken.free

  pub new_lies : lies_in d.tail.super_end d.geometry (layout_of u).device ≡ true
  new_lies =
      ap (lies_in d.tail.super_end d.geometry) device_stays ∙ (kept_table d size t kept own).lies

  new_table : IsTableOf d.tail.super_end d.geometry d.mark.slot u
  new_table = record {
    rules = emptied.rules;
    small = omega (arith, emptied.size, kept.geometry.most);
    own = emptied.own;
    lies = new_lies;
  }

  pub wiped_kept : IsDevice (with_wiped d u) size
  wiped_kept = elim (cases_slot d.mark.slot kept.slot) [
    | inl e ↦
        rw (ap (λ (n : ℕ). n == 0) e)
        (retabled_a d size u (limits_of d.mark.slot u.groups) kept taken.are.idle taken.are.bare
        new_table e)
    | inr e ↦
        rw (ap (λ (n : ℕ). n == 0) e)
        (retabled_b d size u (limits_of d.mark.slot u.groups) kept taken.are.idle taken.are.bare
        new_table e)
  ]

-- its boot control is the same
pub control_stays : (d : Device) (u : Table) → (with_wiped d u).control ≡ d.control
control_stays d u = elim (cases_Bool (d.mark.slot == 0)) [
  | inl a ↦ rw a refl
  | inr b ↦ rw b refl
]

-- it stands where it stood
pub geometry_stays : (d : Device) (u : Table) → (with_wiped d u).geometry ≡ d.geometry
geometry_stays d u = elim (cases_Bool (d.mark.slot == 0)) [
  | inl a ↦ rw a refl
  | inr b ↦ rw b refl
]
