-- Where the blocks of a slot's own partitions stand.
use Rattle.std.proofs.Common.{◌≡◌, ℕ, zero, suc, ◌+◌, ◌-◌, ◌*◌, ◌/◌, ◌^◌, ◌<◌}
use Rattle.std.proofs.Common.{true, false, List, [], ◌∷◌, ◌++◌, length, get_or, take, drop}
use Rattle.std.proofs.Common.{refl, sym, ◌∙◌, ap, arith, append-nil}
use Rattle.std.specs.Prelude.{map, All, sum_by}
use Rattle.std.specs.List.{flat_map, range_with_len}
use Rattle.std.proofs.lemmas.List.{map-append, length-append, take_more}
use Rattle.std.proofs.lemmas.List.FromFn.{length-range_with_len}
use Rattle.std.proofs.lemmas.List.Elements.{All-head, All-tail, All-take, All-drop, All-map}
use Rattle.std.proofs.lemmas.List.Elements.{All-weaker, filter-append}
use Rattle.std.proofs.lemmas.List.Sums.{sum_by-cons}
use Rattle.vab_names.specs.Names.{is_of_slot, base_of}
use Rattle.vab_tables.specs.declared.entries.Extent.{Extent}
use Rattle.vab_tables.specs.declared.entries.BlockDevice.{BlockDevice}
use Rattle.vab_tables.specs.declared.entries.Partition.{Partition}
use Rattle.vab_tables.specs.declared.table.Table.{Table}
use Rattle.vab_tables.specs.declared.entries.Group.{Group}
use Rattle.vab_tables.specs.Rules.{IsDevice, IsExtent, KeepsRules}
use Rattle.vab_blocks.specs.Blocks.{blocks_of_extent, extents_of, first_sector_of}
use Rattle.vab_blocks.specs.Blocks.{first_sector_of_devices}
use Rattle.vab_linear.specs.Map.{run_of, blocks_of}
use Rattle.vab_linear.proofs.MapLaws.{blocks_of-nil, blocks_of-cons}
use Rattle.vab_layout.specs.Layout.{layout_of, first_device, blocks_of_partition}
use Rattle.vab_layout.specs.Plain.{own_groups}
use Rattle.vab_device.specs.Kept.{limits_of, sectors_of}
use Rattle.vab_model.specs.declared.state.GroupLimit.{GroupLimit}

-- ---- blocks as sectors

-- a run of sectors is that of its blocks
run_is : (first a n : ℕ)
    → run_of (4096 + first + 8 * a) n ≡ map (λ b. 4096 + first + 8 * b) (range_with_len a n)
unfolding run_of
run_is first a zero = refl
run_is first a (suc n) =
    let next : 4096 + first + 8 * a + 8 ≡ 4096 + first + 8 * (a + 1) = omega arith in
    ap (λ (k : ℕ). (4096 + first + 8 * a) ∷ run_of k n) next
    ∙ ap (λ (l : List ℕ). (4096 + first + 8 * a) ∷ l) (run_is first (a + 1) n)

-- an extent as a run on the disk
abbrev pub run_on : Extent → ℕ × ℕ
run_on e = (4096 + e.first_sector, e.sectors)

extent_is : (d : BlockDevice) (e : Extent)
    → IsDevice d
    → IsExtent d e
    → run_of (run_on e).0 ((run_on e).1 / 8) ≡ map (λ b. 4096 + d.first_logical_sector + 8 * b)
    (blocks_of_extent d.first_logical_sector e)
extent_is d e device is =
    let first = d.first_logical_sector in
    let at : 4096 + e.first_sector ≡ 4096 + first + 8 * ((e.first_sector - first) / 8) =
    omega (arith, device.aligned, is.aligned, is.above) in
    ap (λ (k : ℕ). run_of k (e.sectors / 8)) at ∙ run_is first ((e.first_sector - first) / 8)
    (e.sectors / 8)

pub runs_are : (d : BlockDevice) (es : List Extent)
    → IsDevice d
    → All (IsExtent d) es
    → blocks_of (map run_on es) ≡ sectors_of d.first_logical_sector
    (flat_map (blocks_of_extent d.first_logical_sector) es)
unfolding sectors_of
runs_are d [] device is = blocks_of-nil
runs_are d (e ∷ es) device is =
    let first = d.first_logical_sector in
    let g : ℕ → ℕ = λ b. 4096 + first + 8 * b in
    let here = extent_is d e device (All-head (IsExtent d) e es is) in
    let rest = runs_are d es device (All-tail (IsExtent d) e es is) in
    blocks_of-cons (run_on e) (map run_on es)
    ∙ ap (λ (l : List ℕ). l ++ blocks_of (map run_on es)) here
    ∙ ap (λ (l : List ℕ). map g (blocks_of_extent first e) ++ l) rest
    ∙ sym (map-append g (blocks_of_extent first e) (flat_map (blocks_of_extent first) es))

-- ---- bounds

end_is : (d : BlockDevice) (e : Extent)
    → IsDevice d
    → IsExtent d e
    → (run_on e).0 + (run_on e).1 < 2 ^ 63
end_is d e device is = omega (arith, device.fits.size, is.below, device.within)

pub runs_end : (d : BlockDevice) (es : List Extent)
    → IsDevice d
    → All (IsExtent d) es
    → All (λ r. r.0 + r.1 < 2 ^ 63) (map run_on es)
runs_end d es device is = All-map (λ (r : ℕ × ℕ). r.0 + r.1 < 2 ^ 63) run_on es
    (All-weaker (IsExtent d) (λ e. (run_on e).0 + (run_on e).1 < 2 ^ 63)
    (λ e k. end_is d e device k) es is)

pub runs_sum : (d : BlockDevice) (es : List Extent)
    → All (IsExtent d) es
    → sum_by (λ r. r.1) (map run_on es) ≡ 8 * length
    (flat_map (blocks_of_extent d.first_logical_sector) es)
runs_sum d [] is = refl
runs_sum d (e ∷ es) is =
    let first = d.first_logical_sector in
    let here = All-head (IsExtent d) e es is in
    omega (
      arith,
      sum_by-cons (λ (r : ℕ × ℕ). r.1) (run_on e) (map run_on es),
      runs_sum d es
          (All-tail (IsExtent d) e es is),
      length-append (blocks_of_extent first e)
          (flat_map (blocks_of_extent first) es),
      length-range_with_len ((e.first_sector - first) / 8)
          (e.sectors / 8),
      here.whole,
    )

-- ---- a partition of a table

extents_rules : (t : Table) (keeps : KeepsRules t) (p : Partition)
    → All (IsExtent keeps.device) (extents_of t p)
extents_rules t keeps p = All-take (IsExtent keeps.device) p.extent_count
    (drop p.first_extent t.extents) (All-drop (IsExtent keeps.device) p.first_extent t.extents
    keeps.extents)

first_is : (t : Table) (keeps : KeepsRules t)
    → first_sector_of t ≡ keeps.device.first_logical_sector
first_is t keeps = ap first_sector_of_devices keeps.one_device

pub partition_runs : (t : Table) (keeps : KeepsRules t) (p : Partition)
    → blocks_of (map run_on (extents_of t p))
    ≡ sectors_of (first_sector_of t) (blocks_of_partition t p)
unfolding blocks_of_partition
partition_runs t keeps p =
    runs_are keeps.device (extents_of t p) keeps.device_rule (extents_rules t keeps p)
    ∙ ap (λ (n : ℕ). sectors_of n (flat_map (blocks_of_extent n) (extents_of t p)))
    (sym (first_is t keeps))

pub partition_ends : (t : Table) (keeps : KeepsRules t) (p : Partition)
    → All (λ r. r.0 + r.1 < 2 ^ 63) (map run_on (extents_of t p))
partition_ends t keeps p = runs_end keeps.device (extents_of t p) keeps.device_rule
    (extents_rules t keeps p)

pub partition_sum : (t : Table) (keeps : KeepsRules t) (p : Partition)
    → sum_by (λ r. r.1) (map run_on (extents_of t p)) ≡ 8 * length (blocks_of_partition t p)
unfolding blocks_of_partition
partition_sum t keeps p =
    runs_sum keeps.device (extents_of t p) (extents_rules t keeps p)
    ∙ ap (λ (n : ℕ). 8 * length (flat_map (blocks_of_extent n) (extents_of t p)))
    (sym (first_is t keeps))

devices_first : (ds : List BlockDevice)
    → (first_device ds).first_logical_sector ≡ first_sector_of_devices ds
devices_first [] = refl
devices_first (d ∷ ds) = refl

pub layout_first : (t : Table) → (layout_of t).device.first_logical_sector ≡ first_sector_of t
unfolding layout_of
layout_first t = devices_first t.devices

-- ---- groups

abbrev pub limit_of : Group → GroupLimit
limit_of g = record { name = base_of g.name; limit = g.maximum_size }

pub limits_skip : (slot : ℕ) (groups : List Group) (i : ℕ) (d : Group)
    → i < length groups
    → is_of_slot slot (get_or groups i d).name ≡ false
    → limits_of slot (take (i + 1) groups) ≡ limits_of slot (take i groups)
limits_skip slot groups i d lt other =
    let none : own_groups slot (get_or groups i d ∷ []) ≡ [] = rw other refl in
    ap (map limit_of) (ap (own_groups slot) (take_more groups i d lt)
    ∙ filter-append (λ (g : Group). is_of_slot slot g.name) (take i groups)
    (get_or groups i d ∷ []) ∙ ap (λ (l : List Group). own_groups slot (take i groups) ++ l)
    none ∙ append-nil (own_groups slot (take i groups)))

pub limits_take : (slot : ℕ) (groups : List Group) (i : ℕ) (d : Group)
    → i < length groups
    → is_of_slot slot (get_or groups i d).name ≡ true
    → limits_of slot (take (i + 1) groups) ≡ limits_of slot (take i groups)
    ++ limit_of (get_or groups i d) ∷ []
limits_take slot groups i d lt own =
    let one : own_groups slot (get_or groups i d ∷ []) ≡ get_or groups i d ∷ [] = rw own refl in
    ap (map limit_of) (ap (own_groups slot) (take_more groups i d lt)
    ∙ filter-append (λ (g : Group). is_of_slot slot g.name) (take i groups)
    (get_or groups i d ∷ []) ∙ ap (λ (l : List Group). own_groups slot (take i groups) ++ l)
    one)
    ∙ map-append limit_of (own_groups slot (take i groups)) (get_or groups i d ∷ [])
