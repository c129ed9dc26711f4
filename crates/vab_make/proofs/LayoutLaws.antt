-- The layout of the device keeps the rules of layouts, and its partitions those of a slot's own.
use Rattle.std.proofs.Common.{◌≡◌, ◌≢◌, inl, inr, ℕ, zero, suc, ◌+◌, ◌<◌, ◌≤◌, ◌^◌, true, ltb, leb}
use Rattle.std.proofs.Common.{List, [], ◌∷◌, ◌++◌, length, get_or, codes, None, refl, sym, ap}
use Rattle.std.proofs.Common.{subst, ◌∙◌, arith, length-append}
use Rattle.std.specs.Prelude.{All, AllPairs, Contains, IsTrue, sum_by}
use Rattle.std.specs.List.{range_with_len}
use Rattle.std.proofs.lemmas.Bool.{and_parts, and_from, le-leb, lt-ltb}
use Rattle.std.proofs.lemmas.List.{append-nil}
use Rattle.std.proofs.lemmas.List.Elements.{All-nil, All-cons, All-head, All-tail}
use Rattle.std.proofs.lemmas.List.Elements.{Contains-append_cases}
use Rattle.std.proofs.lemmas.List.Sums.{sum_by-cons}
use Rattle.std.proofs.lemmas.List.FromFn.{length-range_with_len, get_or-range_with_len}
use Rattle.vab_bytes.specs.Name.{is_name, IsName}
use Rattle.vab_bytes.proofs.NameLaws.{name_bytes}
use Rattle.vab_names.specs.Names.{is_base, is_short, suffix_of, is_of_slot, base_of}
use Rattle.vab_names.specs.Names.{most_partitions}
use Rattle.vab_names.proofs.NameLaws.{full_is_name, is_slot, base_of-append}
use Rattle.vab_space.specs.Space.{blocks_of}
use Rattle.vab_tables.specs.declared.entries.Group.{Group}
use Rattle.vab_tables.specs.Rules.{cap_of, is_shared, has_slot, IsDevice, IsGroup}
use Rattle.vab_tables.specs.Spelling.{as_minor_2}
use Rattle.vab_set.specs.declared.set.SetImage.{SetImage}
use Rattle.vab_set.specs.Spelling.{IsImage, IsSet}
use Rattle.vab_set.proofs.SetLaws.{base_short}
use Rattle.vab_layout.specs.declared.layout.Part.{Part}
use Rattle.vab_layout.specs.declared.layout.Layout.{Layout}
use Rattle.vab_layout.specs.Layout.{table_of, blocks_of_parts}
use Rattle.vab_layout.specs.Plain.{default_group}
use Rattle.vab_layout.specs.Rules.{IsPart, IsLayout}
use Rattle.vab_blocks.specs.Runs.{runs_of}
use Rattle.vab_blocks.proofs.RunLaws.{runs_of_range}
use Rattle.vab_layout.specs.Slots.{own_parts}
use Rattle.vab_partitions.specs.Rules.{is_distinct, part_passes, bad_part}
use Rattle.vab_blocks.proofs.Distinct.{distinct_append, distinct_range}
use Rattle.vab_blocks.proofs.BlockLaws.{in_range}
use Rattle.vab_partitions.proofs.OwnLaws.{blocks_append, bad_next, bad_none}
use Rattle.vab_make.specs.Made.{main_group, parts_from, made_device, made_layout, set_blocks}
use Rattle.vab_make.specs.Prepared.{HasRoom}

-- the partition of an image, from this block on
abbrev pub part_at : ℕ → SetImage → Part
part_at at image = record {
  name = image.name ++ suffix_of 0;
  attributes = 1;
  group = codes "main" ++ suffix_of 0;
  blocks = range_with_len at (blocks_of image.size);
}

abbrev pub made_groups : ℕ → List Group
made_groups limit = default_group ∷ main_group 0 limit ∷ main_group 1 limit ∷ []

-- ---- one partition

base_is_name : (name : List ℕ) → IsTrue (is_base name) → is_name name ≡ true
unfolding is_base
base_is_name name base = (and_parts (is_name name) (is_short name) base).0

pub part_name : (image : SetImage) → IsImage image → IsName (image.name ++ suffix_of 0)
part_name image is =
    full_is_name 0 image.name
    (name_bytes image.name (base_is_name image.name is.name))
    (omega (arith, base_short image.name is.name))

blocks_below : (at n cap : ℕ) → at + n ≤ cap → All (λ b. b < cap) (range_with_len at n)
blocks_below at n cap le = λ (k d : ℕ) lt.
    let long = length-range_with_len at n in
    let is = get_or-range_with_len at n k d (omega (arith, long, lt)) in
    omega (arith, long, lt, is, le)

part_keeps : (cap at limit : ℕ) (image : SetImage)
    → IsImage image
    → at + blocks_of image.size ≤ cap
    → IsPart cap (made_groups limit) (part_at at image)
part_keeps cap at limit image is le = record {
  name = part_name image is;
  attributes = refl;
  small = omega arith;
  group = (1, omega arith, refl);
  blocks = blocks_below at (blocks_of image.size) cap le;
}

-- ---- all of them

pub parts_keep : (cap at limit : ℕ) (set : List SetImage)
    → All IsImage set
    → at + set_blocks set ≤ cap
    → All (IsPart cap (made_groups limit)) (parts_from at set)
parts_keep cap at limit [] all le = All-nil (IsPart cap (made_groups limit))
parts_keep cap at limit (x ∷ xs) all le =
    let sum = sum_by-cons (λ (image : SetImage). blocks_of image.size) x xs in
    All-cons (IsPart cap (made_groups limit)) (part_at at x) (parts_from (at + blocks_of x.size) xs)
    (part_keeps cap at limit x (All-head IsImage x xs all) (omega (arith, sum, le)))
    (parts_keep cap (at + blocks_of x.size) limit xs (All-tail IsImage x xs all)
    (omega (arith, sum, le)))

pub length-parts_from : (at : ℕ) (set : List SetImage) → length (parts_from at set) ≡ length set
length-parts_from at [] = refl
length-parts_from at (x ∷ xs) = ap suc (length-parts_from (at + blocks_of x.size) xs)

name_at : (at : ℕ) (set : List SetImage) (i : ℕ) (d : Part) (e : SetImage)
    → i < length set
    → (get_or (parts_from at set) i d).name ≡ (get_or set i e).name ++ suffix_of 0
name_at at [] i d e lt = absurd (omega (arith, lt))
name_at at (x ∷ xs) zero d e lt = refl
name_at at (x ∷ xs) (suc i) d e lt = name_at (at + blocks_of x.size) xs i d e (omega (arith, lt))

names_differ : (at : ℕ) (set : List SetImage)
    → AllPairs (λ a b. a.name ≢ b.name) set
    → AllPairs (λ (a b : Part). a.name ≢ b.name) (parts_from at set)
names_differ at set differ = λ (i j : ℕ) (d : Part) low lt.
    let long = length-parts_from at set in
    let none : SetImage = record { name = []; size = 0; store = 0; bytes = [] } in
    let here = name_at at set i d none (omega (arith, long, low, lt)) in
    let there = name_at at set j d none (omega (arith, long, lt)) in
    λ same. differ i j none low (omega (arith, long, lt))
    (sym (base_of-append 0 (get_or set i none).name)
    ∙ ap base_of (sym here ∙ same ∙ there)
    ∙ base_of-append 0 (get_or set j none).name)

-- each is one run of blocks at most
pub runs_few : (at : ℕ) (set : List SetImage)
    → sum_by (λ p. length (runs_of p.blocks)) (parts_from at set) ≤ length set
runs_few at [] = omega arith
runs_few at (x ∷ xs) =
    let next : ℕ = at + blocks_of x.size in
    let runs : Part → ℕ = λ (p : Part). length (runs_of p.blocks) in
    omega (
      arith,
      sum_by-cons runs (part_at at x) (parts_from next xs),
      runs_of_range at (blocks_of x.size),
      runs_few next xs,
    )

-- ---- the groups and the device

groups_keep : (limit : ℕ) → limit ≤ 2 ^ 44 → All IsGroup (made_groups limit)
unfolding is_shared has_slot is_name
groups_keep limit le =
    All-cons IsGroup default_group (main_group 0 limit ∷ main_group 1 limit ∷ [])
    (record {
      fits = record { name = refl; flags = omega arith; maximum_size = omega arith };
      named = refl;
      flags = refl;
      unlimited = λ _. refl;
    })
    (All-cons IsGroup (main_group 0 limit) (main_group 1 limit ∷ [])
    (record {
      fits = record { name = refl; flags = omega arith; maximum_size = omega (arith, le) };
      named = refl;
      flags = refl;
      unlimited = λ h. absurd cc;
    })
    (All-cons IsGroup (main_group 1 limit) []
    (record {
      fits = record { name = refl; flags = omega arith; maximum_size = omega (arith, le) };
      named = refl;
      flags = refl;
      unlimited = λ h. absurd cc;
    })
    (All-nil IsGroup)))

pub device_keeps : (size : ℕ) → 6152 ≤ size → size < 2 ^ 55 → IsDevice (made_device size)
unfolding is_name
device_keeps size enough small = record {
  fits = record {
    first_logical_sector = omega arith;
    alignment = omega arith;
    alignment_offset = omega arith;
    size = omega (arith, small);
    partition_name = refl;
    flags = omega arith;
  };
  flags = refl;
  aligned = refl;
  within = omega (arith, enough);
}

group_names : (limit : ℕ) → AllPairs (λ (a b : Group). a.name ≢ b.name) (made_groups limit)
group_names limit zero zero d low lt = absurd (omega (arith, low))
group_names limit zero (suc zero) d low lt = λ same. omega (arith, ap length same)
group_names limit zero (suc (suc zero)) d low lt = λ same. omega (arith, ap length same)
group_names limit zero (suc (suc (suc k))) d low lt = absurd (omega (arith, lt))
group_names limit (suc zero) zero d low lt = absurd (omega (arith, low))
group_names limit (suc zero) (suc zero) d low lt = absurd (omega (arith, low))
group_names limit (suc zero) (suc (suc zero)) d low lt =
    λ same. omega (arith, ap (λ (l : List ℕ). get_or l 5 0) same)
group_names limit (suc zero) (suc (suc (suc k))) d low lt = absurd (omega (arith, lt))
group_names limit (suc (suc i)) j d low lt = absurd (omega (arith, low, lt))

-- ---- the layout

pub layout_keeps : (set : List SetImage) (limit size : ℕ)
    → HasRoom set size
    → limit ≤ 2 ^ 44
    → size < 2 ^ 55
    → IsLayout (made_layout set limit size)
unfolding made_layout
layout_keeps set limit size room le small = record {
  device = device_keeps size room.enough small;
  flags = omega arith;
  groups = groups_keep limit le;
  group_names = group_names limit;
  parts =
      parts_keep (cap_of (made_device size)) 0 limit set room.images.each
      (omega (arith, room.room));
  part_names = names_differ 0 set room.images.names;
}

-- ---- the rules of a slot's own partitions

pub own_all : (at : ℕ) (set : List SetImage) → own_parts 0 (parts_from at set) ≡ parts_from at set
own_all at [] = refl
own_all at (x ∷ xs) =
    rw (is_slot 0 x.name)
    (ap (λ (ps : List Part). part_at at x ∷ ps) (own_all (at + blocks_of x.size) xs))

abbrev AreBelow : List Part → ℕ → Type 0
AreBelow parts at = (b : ℕ) → Contains (blocks_of_parts parts) b → b < at

one_blocks : (p : Part) → blocks_of_parts (p ∷ []) ≡ p.blocks
one_blocks p = append-nil p.blocks

passes : (earlier : List Part) (at : ℕ) (image : SetImage)
    → IsImage image
    → length earlier < most_partitions
    → is_distinct (blocks_of_parts earlier) ≡ true
    → AreBelow earlier at
    → part_passes most_partitions 0 earlier (part_at at image) ≡ true
unfolding is_of_slot
passes earlier at image is few once below =
    let n : ℕ = blocks_of image.size in
    let blocks : List ℕ = blocks_of_parts earlier in
    let base : is_base (base_of (image.name ++ suffix_of 0)) ≡ true =
    ap is_base (base_of-append 0 image.name) ∙ is.name in
    let long : leb (length (range_with_len at n)) (2 ^ 28) ≡ true =
    le-leb _ _ (omega (arith, length-range_with_len at n, is.size)) in
    let count : ltb (length earlier) most_partitions ≡ true = lt-ltb _ _ few in
    let apart : is_distinct (blocks ++ range_with_len at n) ≡ true =
    distinct_append blocks (range_with_len at n) once (distinct_range at n)
    (λ b l r. absurd (omega (arith, below b l, in_range at n b r))) in
    and_from _ _ (and_from _ _ (and_from _ _ (and_from _ _ base long) refl) count) apart

none_bad : (earlier : List Part) (at : ℕ) (set : List SetImage)
    → All IsImage set
    → length earlier + length set ≤ most_partitions
    → is_distinct (blocks_of_parts earlier) ≡ true
    → AreBelow earlier at
    → bad_part most_partitions 0 earlier (parts_from at set) ≡ None
none_bad earlier at [] all few once below = bad_none most_partitions 0 earlier
none_bad earlier at (x ∷ xs) all few once below =
    let n : ℕ = blocks_of x.size in
    let p : Part = part_at at x in
    let next : List Part = earlier ++ p ∷ [] in
    let blocks : List ℕ = blocks_of_parts earlier in
    let both : blocks_of_parts next ≡ blocks ++ range_with_len at n =
    blocks_append earlier (p ∷ []) ∙ ap (λ (l : List ℕ). blocks ++ l) (one_blocks p) in
    let once_more : is_distinct (blocks_of_parts next) ≡ true =
    ap is_distinct both
    ∙ distinct_append blocks (range_with_len at n) once (distinct_range at n)
    (λ b l r. absurd (omega (arith, below b l, in_range at n b r))) in
    let more : AreBelow next (at + n) = λ b c.
    let among = subst (λ (l : List ℕ). Contains l b) both c in
    elim (Contains-append_cases blocks (range_with_len at n) b among) [
      | inl l ↦ omega (arith, below b l)
      | inr r ↦ omega (arith, in_range at n b r)
    ] in
    bad_next most_partitions 0 earlier p (parts_from (at + n) xs)
    (passes earlier at x (All-head IsImage x xs all) (omega (arith, few)) once below)
    ∙ none_bad next (at + n) xs (All-tail IsImage x xs all)
    (omega (arith, few, length-append earlier (p ∷ []))) once_more more

-- no partition of the device breaks a rule
pub parts_pass : (set : List SetImage)
    → IsSet set
    → bad_part most_partitions 0 [] (own_parts 0 (parts_from 0 set)) ≡ None
parts_pass set is =
    ap (bad_part most_partitions 0 []) (own_all 0 set)
    ∙ none_bad [] 0 set is.each (omega (arith, is.count)) refl (λ b c. absurd (omega (arith, c.1)))

-- the table of a layout is of minor version 2
pub minor_2 : (l : Layout) → as_minor_2 (table_of l) ≡ table_of l
unfolding table_of
minor_2 l = refl
