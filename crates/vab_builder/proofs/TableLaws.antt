-- What callers need of the tables that are given.
use Rattle.std.proofs.Common.{Bool, false, map, ◌≡◌, ℕ, inl, inr, ◌+◌, ◌*◌, ◌^◌, ◌≤◌, ◌<◌}
use Rattle.std.proofs.Common.{List, [], ◌∷◌, length, Result, Ok, Err, refl, sym, ◌∙◌, ap, arith}
use Rattle.std.specs.Prelude.{sum_by, All, IfOk}
use Rattle.std.specs.List.{filter}
use Rattle.std.proofs.lemmas.Bool.{cases_Bool, cases_lt}
use Rattle.std.proofs.lemmas.List.Elements.{All-filter, All-weaker, All-map}
use Rattle.std.proofs.Math.Nat.{mul-le-mul_right}
use Rattle.std.proofs.lemmas.List.Sums.{sum_by-le}
use Rattle.vab_tables.specs.declared.entries.Partition.{Partition}
use Rattle.vab_tables.specs.declared.entries.Group.{Group}
use Rattle.vab_tables.specs.declared.entries.BlockDevice.{BlockDevice}
use Rattle.vab_tables.specs.declared.table.Table.{Table}
use Rattle.vab_tables.specs.Rules.{KeepsRules, IsPartition}
use Rattle.vab_tables.specs.Spelling.{table_size_of}
use Rattle.vab_names.specs.Names.{base_of, default_name, is_of_slot, most_partitions}
use Rattle.vab_layout.specs.declared.layout.Part.{Part}
use Rattle.vab_layout.specs.declared.layout.Layout.{Layout}
use Rattle.vab_blocks.specs.Runs.{runs_of}
use Rattle.vab_layout.specs.Layout.{part_of, layout_of, table_of, first_device}
use Rattle.vab_layout.proofs.LayoutLaws.{runs_few, layout_runs, table_size_is}
use Rattle.vab_layout.specs.Slots.{groups_of_slot, own_parts, IsOwn}
use Rattle.vab_layout.specs.Plain.{plain}
use Rattle.vab_builder.specs.Import.{imported_by}
use Rattle.vab_builder.proofs.SlotLaws.{default_of_no_slot}
use Rattle.vab_builder.proofs.ImportLaws.{plain_parts, plain_groups_count}

-- two facts of what is given make a third
pub both_ok : {A E : Type 0} (r : Result A E) (P Q R : A → Type 0) → ((x : A) → P x → Q x → R x)
    → IfOk r P → IfOk r Q → IfOk r R
both_ok (Ok x) P Q R f p q = f x p q
both_ok (Err e) P Q R f p q = tt

-- ---- devices and groups

pub layout_groups : (t : Table) → (layout_of t).groups ≡ t.groups
unfolding layout_of
layout_groups t = refl

pub layout_device : (t : Table) → (layout_of t).device ≡ first_device t.devices
unfolding layout_of
layout_device t = refl

devices_are : (t : Table) → KeepsRules t → t.devices ≡ (layout_of t).device ∷ []
devices_are t keeps =
    let is : first_device t.devices ≡ keeps.device = ap first_device keeps.one_device in
    keeps.one_device ∙ ap (λ (d : BlockDevice). d ∷ []) (sym is ∙ sym (layout_device t))

-- tables whose layouts have one device have one list of devices
pub devices_same : (t u : Table) → KeepsRules t → KeepsRules u
    → (layout_of t).device ≡ (layout_of u).device → t.devices ≡ u.devices
devices_same t u kt ku same = devices_are t kt ∙ ap (λ (d : BlockDevice). d ∷ []) same
    ∙ sym (devices_are u ku)

pub imported_device : (apart : Bool) (source : ℕ) (l : Layout)
    → (imported_by apart source l).device ≡ l.device
unfolding imported_by
imported_device apart source l = refl

pub plain_device : (slot : ℕ) (l : Layout) → (plain slot l).device ≡ l.device
unfolding plain
plain_device slot l = refl

-- ---- sizes

-- a table whose text is short has few entries
pub entries_few : (t : Table) → table_size_of t < 2 ^ 24
    → (length t.partitions < 2 ^ 19) × (length t.extents < 2 ^ 20) × (length t.groups < 2 ^ 19)
entries_few t small = (omega (arith, small), omega (arith, small), omega (arith, small))

-- and few runs
pub runs_small : (t : Table) → KeepsRules t → table_size_of t < 2 ^ 24
    → sum_by (λ p. length (runs_of p.blocks)) (layout_of t).parts < 2 ^ 52
runs_small t keeps small =
    let fit : All (λ p. p.extent_count ≤ 2 ^ 32) t.partitions =
    All-weaker (IsPartition t.minor (length t.extents) (length t.groups))
    (λ p. p.extent_count ≤ 2 ^ 32) (λ p k. omega (arith, k.fits.extent_count)) t.partitions
    keeps.partitions in
    omega (
      arith,
      small,
      layout_runs t,
      sum_by-le (λ (p : Partition). p.extent_count) (2 ^ 32)
          t.partitions fit,
    )

part_runs : (t : Table) (p : Partition) → IsPartition t.minor (length t.extents) (length t.groups) p
    → length (runs_of (part_of t p).blocks) ≤ length t.extents
part_runs t p is = elim (cases_lt 0 p.extent_count) [
  | inl some ↦ omega (arith, runs_few t p, is.extents_exist)
  | inr none ↦ omega (arith, runs_few t p, none)
]

-- each partition has no more runs than the table has extents
parts_runs : (t : Table) → KeepsRules t
    → All (λ p. length (runs_of p.blocks) ≤ length t.extents) (layout_of t).parts
unfolding layout_of
parts_runs t keeps =
    All-map (λ p. length (runs_of p.blocks) ≤ length t.extents) (part_of t) t.partitions
    (All-weaker (IsPartition t.minor (length t.extents) (length t.groups))
    (λ p. length (runs_of (part_of t p).blocks) ≤ length t.extents) (λ p is. part_runs t p is)
    t.partitions keeps.partitions)

-- the table of a slot alone has a short text
pub plain_small : (slot : ℕ) (t : Table) → KeepsRules t → table_size_of t < 2 ^ 24
    → IsOwn slot (layout_of t).parts → table_size_of (table_of (plain slot (layout_of t))) < 2 ^ 32
plain_small slot t keeps small own =
    let l : Layout = layout_of t in
    let mine : List Part = own_parts slot l.parts in
    let few : All (λ p. length (runs_of p.blocks) ≤ length t.extents) mine =
    All-filter (λ (p : Part). is_of_slot slot p.name)
    (λ p. length (runs_of p.blocks) ≤ length t.extents) l.parts (parts_runs t keeps) in
    let runs : sum_by (λ p. length (runs_of p.blocks)) mine ≤ length mine * length t.extents =
    sum_by-le (λ (p : Part). length (runs_of p.blocks)) (length t.extents) mine few in
    let most : length mine * length t.extents ≤ most_partitions * length t.extents =
    mul-le-mul_right (length t.extents) own.few in
    let is : sum_by (λ p. length (runs_of p.blocks)) (plain slot l).parts
    ≡ sum_by (λ p. length (runs_of p.blocks)) mine =
    ap (λ (ps : List Part). sum_by (λ p. length (runs_of p.blocks)) ps) (plain_parts slot l) in
    let count : length (plain slot l).parts ≡ length mine = ap length (plain_parts slot l) in
    let groups : length (plain slot l).groups ≤ length t.groups + 1 =
    omega (arith, plain_groups_count slot l, ap length (layout_groups t)) in
    let size = table_size_is (plain slot l) in
    omega (arith, size, small, runs, most, is, count, groups, own.few)

-- ---- the groups of a slot alone

filter_again : (p : Group → Bool) (xs : List Group) → filter p (filter p xs) ≡ filter p xs
filter_again p [] = refl
filter_again p (x ∷ xs) = elim (cases_Bool (p x)) [
  | inl t ↦ rw (t, t) (ap (λ (l : List Group). x ∷ l) (filter_again p xs))
  | inr f ↦ rw f (filter_again p xs)
]

pub plain_groups_same : (slot : ℕ) (l : Layout)
    → groups_of_slot slot (plain slot l).groups ≡ groups_of_slot slot l.groups
unfolding plain
plain_groups_same slot l =
    let p : Group → Bool = λ g. is_of_slot slot g.name in
    let shared : is_of_slot slot default_name ≡ false = default_of_no_slot slot in
    let of = λ (gs : List Group). map (λ (g : Group). (base_of g.name, g.maximum_size)) gs in
    rw shared (ap of (filter_again p l.groups))
