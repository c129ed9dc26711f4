-- What the tests of groups and of block devices tell, and the steps of a loop over groups.
use Rattle.std.proofs.Common.{◌≡◌, ℕ, ◌+◌, ◌≤◌, ◌<◌, Bool, true, false, not, eqb, List, []}
use Rattle.std.proofs.Common.{◌∷◌}
use Rattle.std.proofs.Common.{length, get_or, drop, refl, sym, ◌∙◌, ap, drop-cons, add-one}
use Rattle.std.proofs.Common.{Option, Some, None}
use Rattle.std.specs.Bool.{Decides}
use Rattle.std.specs.Option.{is_some, IfNone, IfSome}
use Rattle.std.specs.Str.{bytes_eq}
use Rattle.std.specs.Cmp.Lexicographic.{pointwise}
use Rattle.std.proofs.lemmas.Bool.{and_parts, and_from, eqb-true, eq-eqb}
use Rattle.std.proofs.lemmas.List.{drop_all}
use Rattle.std.proofs.lemmas.Slice.Eq.{slice_eq-Decides, bytes_eq-Decides}
use Rattle.vab_names.specs.Names.{is_of_slot, base_of}
use Rattle.vab_tables.specs.declared.entries.Group.{Group}
use Rattle.vab_tables.specs.declared.entries.BlockDevice.{BlockDevice}
use Rattle.vab_layout.specs.Plain.{default_group}
use Rattle.vab_layout.specs.Slots.{other_slot, groups_of_slot}
use Rattle.vab_partitions.specs.Twins.{is_twin, are_twins, is_device, are_devices}

-- ---- groups

pair_is : (a b : List ℕ × ℕ) → a.0 ≡ b.0 → a.1 ≡ b.1 → a ≡ b
pair_is a b e f = ap (λ (x : List ℕ). let p : List ℕ × ℕ = (x, a.1) in p) e
    ∙ ap (λ (y : ℕ). let p : List ℕ × ℕ = (b.0, y) in p) f

twin_decides : (a b : List ℕ × ℕ) → Decides (is_twin a b) (a ≡ b)
twin_decides a b = (
  λ t.
      let both = and_parts (bytes_eq a.0 b.0) (eqb a.1 b.1) t in
      pair_is a b ((bytes_eq-Decides a.0 b.0).0 both.0) (eqb-true a.1 b.1 both.1),
  λ e. and_from _ _ ((bytes_eq-Decides a.0 b.0).1 (ap (λ (p : List ℕ × ℕ). p.0) e))
      (eq-eqb a.1 b.1 (ap (λ (p : List ℕ × ℕ). p.1) e)),
)

-- the groups are twins exactly where they are the same list
pub twins_are : (slot : ℕ) (source target : List Group)
    → Decides (are_twins slot source target)
    (groups_of_slot (other_slot slot) source ≡ groups_of_slot slot target)
unfolding are_twins
twins_are slot source target =
    slice_eq-Decides twin_decides (groups_of_slot (other_slot slot) source)
    (groups_of_slot slot target) (are_twins slot source target) refl

pub own_next : (slot : ℕ) (groups : List Group) (i : ℕ) (d : Group)
    → i < length groups
    → is_of_slot slot (get_or groups i d).name ≡ true
    → groups_of_slot slot (drop i groups)
    ≡ (base_of (get_or groups i d).name, (get_or groups i d).maximum_size)
    ∷ groups_of_slot slot (drop (i + 1) groups)
own_next slot groups i d lt own = rw (add-one, drop-cons groups i d) (rw own refl)

pub other_next : (slot : ℕ) (groups : List Group) (i : ℕ) (d : Group)
    → i < length groups
    → is_of_slot slot (get_or groups i d).name ≡ false
    → groups_of_slot slot (drop i groups) ≡ groups_of_slot slot (drop (i + 1) groups)
other_next slot groups i d lt other = rw (add-one, drop-cons groups i d) (rw other refl)

-- ---- block devices

device_is : (a b : BlockDevice)
    → a.first_logical_sector ≡ b.first_logical_sector
    → a.alignment ≡ b.alignment
    → a.alignment_offset ≡ b.alignment_offset
    → a.size ≡ b.size
    → a.partition_name ≡ b.partition_name
    → a.flags ≡ b.flags
    → a ≡ b
device_is a b e0 e1 e2 e3 e4 e5 = λ i. record {
  first_logical_sector = e0 i;
  alignment = e1 i;
  alignment_offset = e2 i;
  size = e3 i;
  partition_name = e4 i;
  flags = e5 i;
}

device_decides : (a b : BlockDevice) → Decides (is_device a b) (a ≡ b)
device_decides a b = (
  λ t.
      let one = and_parts _ _ t in
      let two = and_parts _ _ one.1 in
      let three = and_parts _ _ two.1 in
      let four = and_parts _ _ three.1 in
      let five = and_parts _ _ four.1 in
      device_is a b (eqb-true _ _ one.0) (eqb-true _ _ two.0) (eqb-true _ _ three.0)
      (eqb-true _ _ four.0) ((bytes_eq-Decides a.partition_name b.partition_name).0 five.0)
      (eqb-true _ _ five.1),
  λ e. and_from _ _
      (eq-eqb _ _ (ap (λ (d : BlockDevice). d.first_logical_sector) e))
      (and_from _ _ (eq-eqb _ _ (ap (λ (d : BlockDevice). d.alignment) e))
      (and_from _ _ (eq-eqb _ _ (ap (λ (d : BlockDevice). d.alignment_offset) e))
      (and_from _ _ (eq-eqb _ _ (ap (λ (d : BlockDevice). d.size) e))
      (and_from _ _
      ((bytes_eq-Decides a.partition_name b.partition_name).1
      (ap (λ (d : BlockDevice). d.partition_name) e))
      (eq-eqb _ _ (ap (λ (d : BlockDevice). d.flags) e)))))),
)

-- the block devices are the same exactly where they are one list
pub devices_are : (a b : List BlockDevice) → Decides (are_devices a b) (a ≡ b)
unfolding are_devices
devices_are a b = slice_eq-Decides device_decides a b (are_devices a b) refl

-- ---- the end of the loop over groups

not_not : (b : Bool) → b ≡ not (not b)
not_not true = refl
not_not false = refl

pub twins_end : (slot : ℕ) (source target : List Group) (from j : ℕ) (next : Option ℕ)
    (last : Bool)
    → length target ≤ j
    → is_some next ≡ not last
    → IfNone next (groups_of_slot (other_slot slot) (drop from source) ≡ [])
    → IfSome next (λ i. (d : Group)
    → groups_of_slot (other_slot slot) (drop from source)
    ≡ (base_of (get_or source i d).name, (get_or source i d).maximum_size)
    ∷ groups_of_slot (other_slot slot) (drop (i + 1) source))
    → last
    ≡ pointwise is_twin (groups_of_slot (other_slot slot) (drop from source))
    (groups_of_slot slot (drop j target))
twins_end slot source target from j None last done is none some =
    rw (none, drop_all j target done) (not_not last ∙ ap not (sym is))
twins_end slot source target from j (Some i) last done is none some =
    rw (some default_group, drop_all j target done) (not_not last ∙ ap not (sym is))
