-- Laws of layouts and of their tables.
use Rattle.std.proofs.Common.{◌≡◌, ℕ, zero, suc, ◌+◌, ◌-◌, ◌*◌, ◌/◌, ◌%◌, ◌^◌, ◌<◌, ◌≤◌, Bool, true}
use Rattle.std.proofs.Common.{cond, List, [], ◌∷◌, ◌++◌, length, get_or, take, drop, Some, None}
use Rattle.std.proofs.Common.{refl, sym, ap, subst, ◌∙◌, inl, inr, append_assoc, add-zero, arith}
use Rattle.std.specs.Prelude.{map, sum_by, unwrap_or, All, Contains}
use Rattle.std.specs.List.{flat_map, range_with_len, position_or_len}
use Rattle.std.specs.Str.{bytes_eq}
use Rattle.std.proofs.lemmas.Bool.{cases_lt, lt-ltb, le-ltb, both_ways}
use Rattle.std.proofs.lemmas.List.{length-append, length-map, length-take, get_or-map, take_more}
use Rattle.std.proofs.lemmas.List.{take_at, drop_at}
use Rattle.std.proofs.lemmas.List.Elements.{All-nil, All-cons, All-head, All-tail, All-append}
use Rattle.std.proofs.lemmas.List.Elements.{All-map, All-weaker, All-take, All-drop}
use Rattle.std.proofs.lemmas.List.Folds.{flat_map-map}
use Rattle.std.proofs.lemmas.List.FromFn.{length-range_with_len, get_or-range_with_len}
use Rattle.std.proofs.lemmas.List.Sums.{sum_by-cons, sum_by-le, fails_before_first, passes_at_first}
use Rattle.std.proofs.lemmas.Slice.Eq.{bytes_eq-Decides}
use Rattle.vab_tables.specs.declared.entries.Partition.{Partition}
use Rattle.vab_tables.specs.declared.entries.Extent.{Extent}
use Rattle.vab_tables.specs.declared.entries.Group.{Group}
use Rattle.vab_tables.specs.declared.entries.BlockDevice.{BlockDevice}
use Rattle.vab_tables.specs.declared.table.Table.{Table}
use Rattle.vab_tables.specs.Rules.{cap_of, IsDevice, IsExtent, IsPartition, KeepsRules}
use Rattle.vab_tables.specs.Spelling.{table_size_of}
use Rattle.vab_tables.proofs.SpellingLaws.{keeps_as_minor_2}
use Rattle.vab_blocks.specs.Blocks.{first_sector_of_devices, first_sector_of, extents_of}
use Rattle.vab_blocks.specs.Blocks.{blocks_of_extent}
use Rattle.vab_layout.specs.declared.layout.Part.{Part}
use Rattle.vab_layout.specs.declared.layout.Layout.{Layout}
use Rattle.vab_blocks.specs.Runs.{runs_of}
use Rattle.vab_blocks.proofs.RunLaws.{runs_again, runs_some, runs_within, runs_append_few}
use Rattle.vab_blocks.proofs.RunLaws.{runs_at_most, runs_of_range}
use Rattle.vab_layout.specs.Layout.{blocks_of_partition, group_at, part_of, first_device, layout_of}
use Rattle.vab_layout.specs.Layout.{extent_of_run, extents_of_part, index_of, partitions_from}
use Rattle.vab_layout.specs.Layout.{runs_in, table_of, RunsFit}
use Rattle.vab_layout.specs.Rules.{names_of_groups, IsPart, IsLayout}

-- ---- lists of lists

all_flat : {X A : Type 0} (P : A → Type 0) (f : X → List A) (xs : List X)
    → All (λ x. All P (f x)) xs → All P (flat_map f xs)
all_flat P f [] all = All-nil P
all_flat {X} P f (x ∷ xs) all =
    let Q : X → Type 0 = λ y. All P (f y) in
    All-append P (f x) (flat_map f xs) (All-head Q x xs all) (all_flat P f xs (All-tail Q x xs all))

flat_agree : {X A : Type 0} (f g : X → List A) (xs : List X) → ((x : X) → f x ≡ g x)
    → flat_map f xs ≡ flat_map g xs
flat_agree f g [] same = refl
flat_agree {X} {A} f g (x ∷ xs) same = ap (λ (l : List A). l ++ flat_map f xs) (same x)
    ∙ ap (λ (l : List A). g x ++ l) (flat_agree f g xs same)

-- ---- groups and their names

group_named : (groups : List Group) (i : ℕ) → i < length groups
    → Contains (names_of_groups groups) (group_at groups i)
group_named [] i lt = absurd (omega (arith, lt))
group_named (g ∷ gs) zero lt = (0, omega arith, refl)
group_named (g ∷ gs) (suc i) lt =
    let c = group_named gs i (omega (arith, lt)) in
    (suc c.0, omega (arith, c.1), c.2)

-- the name at an index is that of the group there
pub group_at_is : (groups : List Group) (i : ℕ) (d : Group) → i < length groups
    → group_at groups i ≡ (get_or groups i d).name
group_at_is [] i d lt = absurd (omega (arith, lt))
group_at_is (g ∷ gs) zero d lt = refl
group_at_is (g ∷ gs) (suc i) d lt = group_at_is gs i d (omega (arith, lt))

index_first : (groups : List Group) (name : List ℕ) (d : Group) (k : ℕ) → k < length groups
    → (get_or groups k d).name ≡ name
    → (index_of groups name < length groups) × (group_at groups (index_of groups name) ≡ name)
index_first groups name d k lt e =
    let test : Group → Bool = λ g. bytes_eq g.name name in
    let n : ℕ = position_or_len test groups in
    let passes : test (get_or groups k d) ≡ true =
    (bytes_eq-Decides (get_or groups k d).name name).1 e in
    let inside : n < length groups = elim (cases_lt k n) [
      | inl before ↦
          absurd (both_ways (test (get_or groups k d)) (fails_before_first test groups k d before)
          passes)
      | inr after ↦ omega (arith, after, lt)
    ] in
    let is : index_of groups name ≡ n =
    ap (λ (b : Bool). unwrap_or (cond b (Some n) None) 0) (lt-ltb n (length groups) inside) in
    let named : (get_or groups n d).name ≡ name =
    (bytes_eq-Decides (get_or groups n d).name name).0 (passes_at_first test groups d inside) in (
      subst (λ (i : ℕ). i < length groups) (sym is) inside,
      ap (group_at groups) is
          ∙ group_at_is groups n d inside ∙ named,
    )

-- a name that a group has is found at its index
pub index_exists : (groups : List Group) (name : List ℕ) → Contains (names_of_groups groups) name
    → (index_of groups name < length groups) × (group_at groups (index_of groups name) ≡ name)
index_exists [] name c = absurd (omega (arith, c.1))
index_exists (g ∷ gs) name c =
    let lt : c.0 < length (g ∷ gs) = omega (arith, c.1, length-map gs (λ (h : Group). h.name)) in
    index_first (g ∷ gs) name g c.0 lt
    (sym (get_or-map (λ (h : Group). h.name) (g ∷ gs) c.0 g name lt) ∙ c.2)

-- an index is never past the groups
pub index_within : (groups : List Group) (name : List ℕ) → index_of groups name ≤ length groups
index_within groups name =
    let n : ℕ = position_or_len (λ g. bytes_eq g.name name) groups in
    let pick : Bool → ℕ = λ b. unwrap_or (cond b (Some n) None) 0 in
    elim (cases_lt n (length groups)) [
      | inl lt ↦ let is : index_of groups name ≡ n = ap pick (lt-ltb n (length groups) lt) in
          omega (arith, is, lt)
      | inr le ↦ let is : index_of groups name ≡ 0 = ap pick (le-ltb n (length groups) le) in
          omega (arith, is)
    ]

-- ---- the layout of a table

below_cap : (first at sectors cap k : ℕ) → first % 8 ≡ 0 → at % 8 ≡ 0 → sectors % 8 ≡ 0 → first ≤ at
    → at + sectors ≤ first + 8 * cap → k < sectors / 8 → (at - first) / 8 + k < cap
below_cap first at sectors cap k a b c low high lt = omega arith

extent_below : (d : BlockDevice) (e : Extent) → IsDevice d → IsExtent d e
    → All (λ b. b < cap_of d) (blocks_of_extent d.first_logical_sector e)
extent_below d e device r = λ (k : ℕ) (b : ℕ) lt.
    let from : ℕ = (e.first_sector - d.first_logical_sector) / 8 in
    let inside : k < e.sectors / 8 =
    omega (arith, lt, length-range_with_len from (e.sectors / 8)) in
    let below : from + k < cap_of d =
    below_cap d.first_logical_sector e.first_sector e.sectors (cap_of d) k device.aligned
    r.aligned r.whole r.above r.below inside in
    subst (λ (x : ℕ). x < cap_of d) (sym (get_or-range_with_len from (e.sectors / 8) k b inside))
    below

blocks_below : (d : BlockDevice) (es : List Extent) → IsDevice d → All (IsExtent d) es
    → All (λ b. b < cap_of d) (flat_map (blocks_of_extent d.first_logical_sector) es)
blocks_below d es device rules =
    let P : ℕ → Type 0 = λ b. b < cap_of d in
    let f : Extent → List ℕ = blocks_of_extent d.first_logical_sector in
    all_flat P f es
    (All-weaker (IsExtent d) (λ e. All P (f e)) (λ e r. extent_below d e device r) es rules)

partition_below : (t : Table) (r : KeepsRules t) (p : Partition)
    → All (λ b. b < cap_of r.device) (blocks_of_partition t p)
unfolding blocks_of_partition
partition_below t r p =
    let at : first_sector_of t ≡ r.device.first_logical_sector =
    ap first_sector_of_devices r.one_device in
    let es : List Extent = extents_of t p in
    let rules : All (IsExtent r.device) es =
    All-take (IsExtent r.device) p.extent_count (drop p.first_extent t.extents)
    (All-drop (IsExtent r.device) p.first_extent t.extents r.extents) in
    subst (λ (s : ℕ). All (λ b. b < cap_of r.device) (flat_map (blocks_of_extent s) es)) (sym at)
    (blocks_below r.device es r.device_rule rules)

part_keeps : (t : Table) (r : KeepsRules t) (p : Partition)
    → IsPartition 2 (length t.extents) (length t.groups) p
    → IsPart (cap_of r.device) t.groups (part_of t p)
part_keeps t r p k = record {
  name = k.fits.name;
  attributes = k.attributes;
  small = k.fits.attributes;
  group = group_named t.groups p.group k.group_exists;
  blocks = partition_below t r p;
}

-- the layout of a table that keeps the rules keeps those of layouts
pub layout_keeps : (t : Table) → KeepsRules t → IsLayout (layout_of t)
unfolding layout_of
layout_keeps t r =
    let ps : List Partition = t.partitions in
    let e : ℕ = length t.extents in
    let g : ℕ = length t.groups in
    let cap : ℕ = cap_of r.device in
    let second = keeps_as_minor_2 t r in
    let rules : All (IsPartition 2 e g) ps = second.partitions in
    let kept : All (λ p. IsPart cap t.groups (part_of t p)) ps =
    All-weaker (IsPartition 2 e g) (λ p. IsPart cap t.groups (part_of t p))
    (λ p k. part_keeps t r p k) ps rules in
    let parts : All (IsPart cap t.groups) (map (part_of t) ps) =
    All-map (IsPart cap t.groups) (part_of t) ps kept in
    record {
      device =
          subst (λ (ds : List BlockDevice). IsDevice (first_device ds)) (sym r.one_device)
          r.device_rule;
      flags = r.flags;
      groups = r.groups;
      group_names = r.group_names;
      parts =
          subst (λ (ds : List BlockDevice). All (IsPart (cap_of (first_device ds)) t.groups)
          (map (part_of t) ps)) (sym r.one_device) parts;
      part_names = λ (i j : ℕ) (d : Part) low lt.
          let long = length-map ps (part_of t) in
          let none : Partition =
          record {
            name = d.name;
            attributes = 0;
            first_extent = 0;
            extent_count = 0;
            group =
                0;
          } in
          let at1 =
          ap (λ (p : Part). p.name)
          (get_or-map (part_of t) ps i none d (omega (arith, long, low, lt))) in
          let at2 =
          ap (λ (p : Part). p.name)
          (get_or-map (part_of t) ps j none d (omega (arith, long, lt))) in
          λ h. r.partition_names i j none low (omega (arith, long, lt)) (sym at1 ∙ h ∙ at2);
    }

-- ---- how many runs

extents_few : (first : ℕ) (es : List Extent)
    → length (runs_of (flat_map (blocks_of_extent first) es)) ≤ length es
extents_few first [] = runs_at_most []
extents_few first (e ∷ es) =
    let from : ℕ = (e.first_sector - first) / 8 in
    omega (
      arith,
      runs_append_few (range_with_len from (e.sectors / 8))
          (flat_map (blocks_of_extent first) es),
      runs_of_range from (e.sectors / 8),
      extents_few
          first es,
    )

-- a partition has no more runs than extents
pub runs_few : (t : Table) (p : Partition)
    → length (runs_of (blocks_of_partition t p)) ≤ p.extent_count
unfolding blocks_of_partition
runs_few t p =
    omega (
      arith,
      extents_few (first_sector_of t) (extents_of t p),
      length-take p.extent_count
          (drop p.first_extent t.extents),
    )

parts_few : (t : Table) (ps : List Partition)
    → sum_by (λ p. length (runs_of p.blocks)) (map (part_of t) ps) ≤ sum_by (λ p. p.extent_count) ps
parts_few t [] = omega arith
parts_few t (p ∷ ps) =
    omega (
      arith,
      sum_by-cons (λ (q : Part). length (runs_of q.blocks)) (part_of t p)
          (map (part_of t) ps),
      sum_by-cons (λ (q : Partition). q.extent_count) p ps,
      runs_few t p,
      parts_few t ps,
    )

-- a table's layout has no more runs than its partitions have extents
pub layout_runs : (t : Table)
    → sum_by (λ p. length (runs_of p.blocks)) (layout_of t).parts
    ≤ sum_by (λ p. p.extent_count) t.partitions
unfolding layout_of
layout_runs t = parts_few t t.partitions

-- few partitions have few runs
pub layout_runs_small : (t : Table) → KeepsRules t → length t.partitions ≤ 2 ^ 25
    → sum_by (λ p. length (runs_of p.blocks)) (layout_of t).parts < 2 ^ 58
layout_runs_small t r few =
    let fit : All (λ p. p.extent_count ≤ 2 ^ 32) t.partitions =
    All-weaker (IsPartition t.minor (length t.extents) (length t.groups))
    (λ p. p.extent_count ≤ 2 ^ 32) (λ p k. omega (arith, k.fits.extent_count)) t.partitions
    r.partitions in
    omega (
      arith,
      few,
      layout_runs t,
      sum_by-le (λ (p : Partition). p.extent_count) (2 ^ 32)
          t.partitions fit,
    )

-- ---- the table of a layout

length_extents : (first : ℕ) (parts : List Part)
    → length (flat_map (extents_of_part first) parts) ≡ runs_in parts
length_extents first [] = refl
length_extents first (p ∷ ps) =
    omega (
      arith,
      length-append (extents_of_part first p) (flat_map (extents_of_part first) ps),
      length-map (runs_of p.blocks) (extent_of_run first),
      length_extents first ps,
      sum_by-cons
          (λ (q : Part). length (runs_of q.blocks)) p ps,
    )

length_partitions : (index : ℕ) (groups : List Group) (parts : List Part)
    → length (partitions_from index groups parts) ≡ length parts
length_partitions index groups [] = refl
length_partitions index groups (p ∷ ps) =
    ap suc (length_partitions (index + length (runs_of p.blocks)) groups ps)

-- the bytes of its text
pub table_size_is : (l : Layout)
    → table_size_of (table_of l)
    ≡ 256 + 52 * length l.parts + 24 * sum_by (λ p. length (runs_of p.blocks)) l.parts + 48 * length
    l.groups + 64
unfolding table_of
table_size_is l =
    omega (
      arith,
      length_partitions 0 l.groups l.parts,
      length_extents l.device.first_logical_sector
          l.parts,
    )

-- one more partition
pub partitions_push : (index : ℕ) (groups : List Group) (parts : List Part) (p : Part)
    → partitions_from index groups (parts ++ p ∷ []) ≡ partitions_from index groups parts
    ++ partitions_from (index + runs_in parts) groups (p ∷ [])
partitions_push index groups [] p =
    ap (λ (k : ℕ). partitions_from k groups (p ∷ [])) (sym (add-zero index))
partitions_push index groups (q ∷ qs) p =
    let next : ℕ = index + length (runs_of q.blocks) in
    let same : next + runs_in qs ≡ index + runs_in (q ∷ qs) =
    omega (arith, sum_by-cons (λ (x : Part). length (runs_of x.blocks)) q qs) in
    let here : Partition =
    record {
      name = q.name;
      attributes = q.attributes;
      first_extent = index;
      extent_count =
          length (runs_of q.blocks);
      group = index_of groups q.group;
    } in
    ap (λ (l : List Partition). here ∷ l) (partitions_push next groups qs p
    ∙ ap (λ (k : ℕ). partitions_from next groups qs ++ partitions_from k groups (p ∷ [])) same)

-- a loop's step over them
pub partitions_more : (groups : List Group) (parts : List Part) (i : ℕ) (p : Part) (q : Partition)
    → i < length parts → p ≡ get_or parts i p
    → q ∷ [] ≡ partitions_from (runs_in (take i parts)) groups (p ∷ [])
    → partitions_from 0 groups (take (i + 1) parts) ≡ partitions_from 0 groups (take i parts)
    ++ q ∷ []
partitions_more groups parts i p q lt at is =
    let front : List Part = take i parts in
    let more : take (i + 1) parts ≡ front ++ p ∷ [] = take_more parts i p lt
    ∙ ap (λ (x : Part). front ++ x ∷ []) (sym at) in
    let zeros : 0 + runs_in front ≡ runs_in front = omega arith in
    ap (partitions_from 0 groups) more ∙ partitions_push 0 groups front p
    ∙ ap (λ (k : ℕ). partitions_from 0 groups front ++ partitions_from k groups (p ∷ [])) zeros
    ∙ ap (λ (l : List Partition). partitions_from 0 groups front ++ l) (sym is)

-- the last whole block ends within the device
pub cap_fits : (d : BlockDevice) → IsDevice d → d.first_logical_sector + 8 * cap_of d < 2 ^ 55
cap_fits d device = omega (arith, device.within, device.fits.size)

part_fits : (d : BlockDevice) (groups : List Group) (p : Part) → IsDevice d
    → IsPart (cap_of d) groups p → RunsFit d.first_logical_sector p.blocks
part_fits d groups p device r =
    let fits = cap_fits d device in
    All-weaker (λ (run : ℕ × ℕ). run.0 + run.1 ≤ cap_of d)
    (λ run. d.first_logical_sector + 8 * (run.0 + run.1) < 2 ^ 64)
    (λ run within. omega (arith, fits, within)) (runs_of p.blocks)
    (runs_within (cap_of d) p.blocks r.blocks)

pub layout_fits : (l : Layout) → IsLayout l
    → All (λ p. RunsFit l.device.first_logical_sector p.blocks) l.parts
layout_fits l r =
    All-weaker (IsPart (cap_of l.device) l.groups)
    (λ p. RunsFit l.device.first_logical_sector p.blocks)
    (λ p k. part_fits l.device l.groups p r.device k) l.parts r.parts

run_keeps : (d : BlockDevice) (run : ℕ × ℕ) → IsDevice d → 0 < run.1 → run.0 + run.1 ≤ cap_of d
    → IsExtent d (extent_of_run d.first_logical_sector run)
run_keeps d run device some within =
    let fits = cap_fits d device in
    record {
      fits = record {
        sectors = omega (arith, fits, within);
        target_type =
            omega arith;
        first_sector = omega (arith, fits, within);
        target_source = omega arith;
      };
      target_type = refl;
      target_source = refl;
      some = omega (arith, some);
      whole = omega arith;
      aligned = omega (arith, device.aligned);
      above = omega arith;
      below = omega (arith, within);
    }

part_extents : (d : BlockDevice) (groups : List Group) (p : Part) → IsDevice d
    → IsPart (cap_of d) groups p → All (IsExtent d) (extents_of_part d.first_logical_sector p)
part_extents d groups p device r =
    let some = runs_some p.blocks in
    let within = runs_within (cap_of d) p.blocks r.blocks in
    All-map (IsExtent d) (extent_of_run d.first_logical_sector) (runs_of p.blocks)
    (λ (k : ℕ) (run : ℕ × ℕ) lt. run_keeps d (get_or (runs_of p.blocks) k run) device
    (some k run lt) (within k run lt))

partitions_keep : (cap total index : ℕ) (groups : List Group) (parts : List Part) → total < 2 ^ 32
    → length groups < 2 ^ 32 → index + runs_in parts ≤ total → All (IsPart cap groups) parts
    → All (IsPartition 2 total (length groups)) (partitions_from index groups parts)
partitions_keep cap total index groups [] few names le rules =
    All-nil (IsPartition 2 total (length groups))
partitions_keep cap total index groups (p ∷ ps) few names le rules =
    let r : IsPart cap groups p = All-head (IsPart cap groups) p ps rules in
    let runs : ℕ = length (runs_of p.blocks) in
    let sum = sum_by-cons (λ (x : Part). length (runs_of x.blocks)) p ps in
    let found = index_exists groups p.group r.group in
    let first : Partition =
    record {
      name = p.name;
      attributes = p.attributes;
      first_extent = index;
      extent_count =
          runs;
      group = index_of groups p.group;
    } in
    let here : IsPartition 2 total (length groups) first = record {
      fits = record {
        name = r.name;
        attributes = r.small;
        first_extent =
            omega (arith, le, few, sum);
        extent_count = omega (arith, le, few, sum);
        group =
            omega (arith, found.0, names);
      };
      attributes = r.attributes;
      extents_exist = omega (arith, le, sum);
      group_exists = found.0;
    } in
    All-cons (IsPartition 2 total (length groups)) first (partitions_from (index + runs) groups ps)
    here (partitions_keep cap total (index + runs) groups ps few names (omega (arith, le, sum))
    (All-tail (IsPart cap groups) p ps rules))

names_from : (index : ℕ) (groups : List Group) (parts : List Part) (i : ℕ) (d : Partition)
    (e : Part) → i < length parts
    → (get_or (partitions_from index groups parts) i d).name ≡ (get_or parts i e).name
names_from index groups [] i d e lt = absurd (omega (arith, lt))
names_from index groups (p ∷ ps) zero d e lt = refl
names_from index groups (p ∷ ps) (suc i) d e lt =
    names_from (index + length (runs_of p.blocks)) groups ps i d e (omega (arith, lt))

-- the table of a layout keeps the rules of tables
pub table_keeps : (l : Layout) → IsLayout l → table_size_of (table_of l) < 2 ^ 32
    → KeepsRules (table_of l)
unfolding table_of
table_keeps l r small =
    let d : BlockDevice = l.device in
    let first : ℕ = d.first_logical_sector in
    let size = table_size_is l in
    let long = length_extents first l.parts in
    let extents : All (λ p. All (IsExtent d) (extents_of_part first p)) l.parts =
    All-weaker (IsPart (cap_of d) l.groups) (λ p. All (IsExtent d) (extents_of_part first p))
    (λ p k. part_extents d l.groups p r.device k) l.parts r.parts in
    let total : ℕ = length (flat_map (extents_of_part first) l.parts) in
    record {
      minor = omega arith;
      flags = r.flags;
      device = d;
      one_device = refl;
      device_rule = r.device;
      groups = r.groups;
      group_names = r.group_names;
      extents = all_flat (IsExtent d) (extents_of_part first) l.parts extents;
      partitions =
          partitions_keep (cap_of d) total 0 l.groups l.parts (omega (arith, small, size, long))
          (omega (arith, small, size)) (omega (arith, long)) r.parts;
      partition_names = λ (i j : ℕ) (e : Partition) low lt.
          let many = length_partitions 0 l.groups l.parts in
          let none : Part = record { name = e.name; attributes = 0; group = []; blocks = [] } in
          let at1 = names_from 0 l.groups l.parts i e none (omega (arith, many, low, lt)) in
          let at2 = names_from 0 l.groups l.parts j e none (omega (arith, many, lt)) in
          λ h. r.part_names i j none low (omega (arith, many, lt)) (sym at1 ∙ h ∙ at2);
    }

-- ---- the layout again

run_blocks : (first : ℕ) (run : ℕ × ℕ)
    → blocks_of_extent first (extent_of_run first run) ≡ range_with_len run.0 run.1
run_blocks first run =
    let from : (first + 8 * run.0 - first) / 8 ≡ run.0 = omega arith in
    let many : 8 * run.1 / 8 ≡ run.1 = omega arith in
    ap (λ (a : ℕ). range_with_len a (8 * run.1 / 8)) from ∙ ap (range_with_len run.0) many

part_blocks : (first : ℕ) (p : Part)
    → flat_map (blocks_of_extent first) (extents_of_part first p) ≡ p.blocks
part_blocks first p =
    flat_map-map (blocks_of_extent first) (extent_of_run first) (runs_of p.blocks)
    ∙ flat_agree (λ run. blocks_of_extent first (extent_of_run first run))
    (λ run. range_with_len run.0 run.1) (runs_of p.blocks) (run_blocks first)
    ∙ runs_again p.blocks

blocks_again : (t : Table) (before rest : List Extent) (p : Part) (q : Partition)
    → q.first_extent ≡ length before → q.extent_count ≡ length (runs_of p.blocks)
    → t.extents ≡ before ++ (extents_of_part (first_sector_of t) p ++ rest)
    → blocks_of_partition t q ≡ p.blocks
unfolding blocks_of_partition
blocks_again t before rest p q at many e =
    let first : ℕ = first_sector_of t in
    let es : List Extent = extents_of_part first p in
    let behind : drop q.first_extent t.extents ≡ es ++ rest = ap (drop q.first_extent) e
    ∙ drop_at before (es ++ rest) q.first_extent (sym at) in
    let long : length es ≡ q.extent_count = length-map (runs_of p.blocks) (extent_of_run first)
    ∙ sym many in
    let own : extents_of t q ≡ es = ap (take q.extent_count) behind
    ∙ take_at es rest q.extent_count long in
    ap (flat_map (blocks_of_extent first)) own ∙ part_blocks first p

parts_again : (t : Table) (cap index : ℕ) (before : List Extent) (parts : List Part)
    → index ≡ length before
    → t.extents ≡ before ++ flat_map (extents_of_part (first_sector_of t)) parts
    → All (IsPart cap t.groups) parts
    → map (part_of t) (partitions_from index t.groups parts) ≡ parts
parts_again t cap index before [] at e rules = refl
parts_again t cap index before (p ∷ ps) at e rules =
    let first : ℕ = first_sector_of t in
    let runs : ℕ = length (runs_of p.blocks) in
    let es : List Extent = extents_of_part first p in
    let rest : List Extent = flat_map (extents_of_part first) ps in
    let q : Partition =
    record {
      name = p.name;
      attributes = p.attributes;
      first_extent = index;
      extent_count =
          runs;
      group = index_of t.groups p.group;
    } in
    let r : IsPart cap t.groups p = All-head (IsPart cap t.groups) p ps rules in
    let make : List ℕ → List ℕ
    → Part =
    λ group blocks. record {
      name = p.name;
      attributes = p.attributes;
      group = group;
      blocks =
          blocks;
    } in
    let group : group_at t.groups (index_of t.groups p.group) ≡ p.group =
    (index_exists t.groups p.group r.group).1 in
    let blocks : blocks_of_partition t q ≡ p.blocks = blocks_again t before rest p q at refl e in
    let head : part_of t q ≡ p = ap (λ (g : List ℕ). make g (blocks_of_partition t q)) group
    ∙ ap (make p.group) blocks in
    let next : index + runs ≡ length (before ++ es) =
    omega (
      arith,
      at,
      length-append before es,
      length-map (runs_of p.blocks)
          (extent_of_run first),
    ) in
    let tail =
    parts_again t cap (index + runs) (before ++ es) ps next (e
    ∙ sym (append_assoc before es rest)) (All-tail (IsPart cap t.groups) p ps rules) in
    ap (λ (x : Part). x ∷ map (part_of t) (partitions_from (index + runs) t.groups ps)) head
    ∙ ap (λ (xs : List Part). p ∷ xs) tail

-- the table of a layout says the layout again
pub layout_again : (l : Layout) → IsLayout l → layout_of (table_of l) ≡ l
unfolding layout_of table_of
layout_again l r =
    let make : List Part
    → Layout =
    λ parts. record { parts = parts; groups = l.groups; device = l.device; flags = l.flags } in
    ap make (parts_again (table_of l) (cap_of l.device) 0 [] l.parts refl refl r.parts)
