-- What is found by a name, and the steps of the loops over partitions, statuses and scans.
use Rattle.std.proofs.Common.{◌≡◌, ◌≢◌, ◌∙◌, ℕ, zero, suc, ◌+◌, ◌≤◌, ◌<◌, ◌^◌, Bool, true, false}
use Rattle.std.proofs.Common.{List, [], ◌∷◌, ◌++◌, length, get_or, take, drop, inl, inr}
use Rattle.std.proofs.Common.{Some, None, refl, sym, ap, subst, arith}
use Rattle.std.proofs.Common.{drop-cons, append-nil}
use Rattle.std.specs.Prelude.{map, All, option_map}
use Rattle.std.specs.List.{filter}
use Rattle.std.specs.Str.{bytes_eq}
use Rattle.std.proofs.lemmas.Bool.{cases_Bool}
use Rattle.std.proofs.lemmas.Slice.Eq.{bytes_eq-Decides}
use Rattle.std.proofs.lemmas.List.Elements.{All-head, All-tail, All-contains}
use Rattle.std.proofs.lemmas.List.Elements.{Contains-append_right}
use Rattle.vab_blocks.proofs.Contained.{in_filter}
use Rattle.vab_device.proofs.NamedParts.{named_in}
use Rattle.vab_device.proofs.OwnParts.{each_distinct}
use Rattle.vab_names.specs.Names.{is_of_slot, is_store, store_of}
use Rattle.vab_tables.specs.declared.entries.Partition.{Partition}
use Rattle.vab_tables.specs.declared.table.Table.{Table}
use Rattle.vab_tables.specs.Rules.{cap_of}
use Rattle.vab_layout.specs.declared.layout.Part.{Part as PartOfLayout}
use Rattle.vab_layout.specs.declared.layout.Layout.{Layout}
use Rattle.vab_layout.specs.Layout.{layout_of, part_of, blocks_of_partition}
use Rattle.vab_layout.specs.Rules.{IsPart as IsPartOfLayout}
use Rattle.vab_layout.specs.Slots.{own_parts, store_parts, IsDistinct}
use Rattle.vab_layout.proofs.LayoutLaws.{layout_keeps}
use Rattle.vab_layout.specs.Slots.{IsOwnPart}
use Rattle.vab_partitions.specs.Own.{own_before}
use Rattle.vab_names.specs.Names.{is_base, base_of}
use Rattle.vab_names.proofs.NameLaws.{length-base_of}
use Rattle.vab_blocks.specs.Blocks.{first_sector_of}
use Rattle.std.specs.Prelude.{IsTrue}
use Rattle.std.proofs.lemmas.Bool.{leb-true, and_parts}
use Rattle.std.proofs.lemmas.List.{map-append, take_more}
use Rattle.std.proofs.lemmas.List.Elements.{filter-append}
use Rattle.vab_device.specs.Phases.{planned_on}
use Rattle.vab_layout.proofs.OwnNames.{own_at}
use Rattle.vab_plan.proofs.PartLaws.{layout_first}
use Rattle.vab_builder.proofs.Counting.{few_below}
use Rattle.vab_names.proofs.NameCases.{store_is_store}
use Rattle.vab_device.specs.Kept.{sectors_of}
use Rattle.vab_device.specs.Phases.{store_on}
use Rattle.vab_device.specs.Stores.{Scanned, first_named}
use Rattle.vab_device.specs.Stores.{scanned_named}
use Rattle.vab_plan.specs.declared.planning.Scan.{Scan}
use Rattle.vab_plan.specs.Scans.{scanned_of, scans_of, IsTargetTable}

-- ---- a place of a list

pub drop_at : {X : Type 0} (xs : List X) (i : ℕ) (x : X)
    → i < length xs
    → x ≡ get_or xs i x
    → drop i xs ≡ x ∷ drop (i + 1) xs
drop_at xs i x lt at =
    drop-cons xs i x lt
    ∙ ap (λ y. y ∷ drop (suc i) xs) (sym at)
    ∙ ap (λ (k : ℕ). x ∷ drop k xs) (let e : suc i ≡ i + 1 = omega arith in e)

pub at_any : {X : Type 0} (xs : List X) (i : ℕ) (x d : X)
    → i < length xs
    → x ≡ get_or xs i x
    → x ≡ get_or xs i d
at_any [] i x d lt at = absurd (omega (arith, lt))
at_any (y ∷ ys) zero x d lt at = at
at_any (y ∷ ys) (suc i) x d lt at = at_any ys i x d (omega (arith, lt)) at

-- ---- the partition of a name

pub named_here : (name : List ℕ) (t : Table) (i : ℕ) (p : Partition)
    → i < length t.partitions
    → p ≡ get_or t.partitions i p
    → bytes_eq p.name name ≡ true
    → first_named name (map (part_of t) (drop i t.partitions)) ≡ Some (part_of t p)
named_here name t i p lt at here =
    ap (λ (l : List Partition). first_named name (map (part_of t) l))
    (drop_at t.partitions i p lt at)
    ∙ rw here refl

pub named_skip : (name : List ℕ) (t : Table) (i : ℕ) (p : Partition)
    → i < length t.partitions
    → p ≡ get_or t.partitions i p
    → bytes_eq p.name name ≡ false
    → first_named name (map (part_of t) (drop i t.partitions))
    ≡ first_named name (map (part_of t) (drop (i + 1) t.partitions))
named_skip name t i p lt at other =
    ap (λ (l : List Partition). first_named name (map (part_of t) l))
    (drop_at t.partitions i p lt at)
    ∙ rw other refl

-- of those whose names pass a test
pub first_filter : (q : List ℕ → Bool) (name : List ℕ) (ps : List PartOfLayout)
    → q name ≡ true
    → first_named name (filter (λ p. q p.name) ps) ≡ first_named name ps
first_filter q name [] is = refl
first_filter q name (p ∷ ps) is =
    let rest = first_filter q name ps is in
    elim (cases_Bool (q p.name)) [
      | inl passes ↦ elim (cases_Bool (bytes_eq p.name name)) [
        | inl here ↦ rw (passes, here) refl
        | inr other ↦ rw (passes, other) rest
      ]
      | inr fails ↦ elim (cases_Bool (bytes_eq p.name name)) [
        | inl here ↦
            let same : q p.name ≡ true = ap q ((bytes_eq-Decides p.name name).0 here) ∙ is in
            let no : false ≡ true = sym fails ∙ same in
            absurd (let e : false ≡ true = no in cc)
        | inr other ↦ rw (fails, other) rest
      ]
    ]

pub first_all : (P : PartOfLayout → Type 0) (name : List ℕ) (ps : List PartOfLayout)
    (p : PartOfLayout)
    → All P ps
    → first_named name ps ≡ Some p
    → P p × (p.name ≡ name)
first_all P name [] p all is = absurd (let no : None ≡ Some p = is in cc)
first_all P name (x ∷ xs) p all is = elim (cases_Bool (bytes_eq x.name name)) [
  | inl here ↦
      let found : Some x ≡ Some p = rw here at is in
      let same : x ≡ p = cc in (
        subst P same (All-head P x xs all),
        ap (λ (y : PartOfLayout). y.name) (sym same) ∙ (bytes_eq-Decides x.name name).0 here,
      )
  | inr other ↦
      let found : first_named name xs ≡ Some p = rw other at is in
      first_all P name xs p (All-tail P x xs all) found
]

-- ---- the blocks of a store

pub store_cap : (slot : ℕ) (t : Table) (name : List ℕ) (q : PartOfLayout)
    → IsTargetTable slot t
    → is_of_slot slot name ≡ true
    → first_named (store_of name) (layout_of t).parts ≡ Some q
    → length q.blocks ≤ cap_of (layout_of t).device
store_cap slot t name q target own is =
    let l = layout_of t in
    let rules = layout_keeps t target.rules in
    let found = named_in (store_of name) l.parts q is in
    let stored : is_store slot q.name ≡ true =
    ap (is_store slot) found.1 ∙ store_is_store slot name own in
    let once =
    All-contains (λ (p : PartOfLayout). IsDistinct p.blocks)
    (own_parts slot l.parts ++ store_parts slot l.parts) q
    (each_distinct (own_parts slot l.parts ++ store_parts slot l.parts) target.once)
    (Contains-append_right (own_parts slot l.parts) (store_parts slot l.parts) q
    (in_filter (λ (p : PartOfLayout). is_store slot p.name) l.parts q found.0 stored)) in
    let part = (first_all (IsPartOfLayout (cap_of l.device) l.groups) (store_of name) l.parts q
    rules.parts is).0 in
    few_below (cap_of l.device) q.blocks once part.blocks

pub store_small : (slot : ℕ) (t : Table) (name : List ℕ) (p : Partition)
    → IsTargetTable slot t
    → is_of_slot slot name ≡ true
    → first_named (store_of name) (layout_of t).parts ≡ Some (part_of t p)
    → length (blocks_of_partition t p) < 2 ^ 60
store_small slot t name p target own is =
    let rules = layout_keeps t target.rules in
    omega (arith, store_cap slot t name (part_of t p) target own is, rules.device.fits.size)

-- ---- the exceptions of a name

pub exceptions_here : (name : List ℕ) (scans : List Scan) (i : ℕ) (s : Scan)
    → i < length scans
    → s ≡ get_or scans i s
    → bytes_eq s.name name ≡ true
    → scanned_named name (scans_of (drop i scans)) ≡ Some (scanned_of s)
exceptions_here name scans i s lt at here =
    ap (λ (l : List Scan). scanned_named name (scans_of l)) (drop_at scans i s lt at) ∙ rw here refl

pub exceptions_skip : (name : List ℕ) (scans : List Scan) (i : ℕ) (s : Scan)
    → i < length scans
    → s ≡ get_or scans i s
    → bytes_eq s.name name ≡ false
    → scanned_named name (scans_of (drop i scans))
    ≡ scanned_named name (scans_of (drop (i + 1) scans))
exceptions_skip name scans i s lt at other =
    ap (λ (l : List Scan). scanned_named name (scans_of l)) (drop_at scans i s lt at)
    ∙ rw other refl

not_name : (a b : List ℕ) → a ≢ b → bytes_eq a b ≡ false
not_name a b differ = elim (cases_Bool (bytes_eq a b)) [
  | inl same ↦ absurd (differ ((bytes_eq-Decides a b).0 same))
  | inr other ↦ other
]

-- without one of another name they are the same
pub exceptions_without : (name : List ℕ) (scans : List Scan) (i : ℕ) (d : Scan)
    → i < length scans
    → (get_or scans i d).name ≢ name
    → scanned_named name (scans_of (take i scans ++ drop (suc i) scans))
    ≡ scanned_named name (scans_of scans)
exceptions_without name [] i d lt differ = absurd (omega (arith, lt))
exceptions_without name (s ∷ ss) zero d lt differ =
    let other = not_name s.name name differ in rw other refl
exceptions_without name (s ∷ ss) (suc i) d lt differ =
    let rest = exceptions_without name ss i d (omega (arith, lt)) differ in
    elim (cases_Bool (bytes_eq s.name name)) [
      | inl here ↦ rw here refl
      | inr other ↦ rw other rest
    ]

-- ---- a slot's own partitions

pub own_part : (slot : ℕ) (t : Table) (name : List ℕ) (p : Partition)
    → IsTargetTable slot t
    → is_of_slot slot name ≡ true
    → first_named name (layout_of t).parts ≡ Some (part_of t p)
    → IsOwnPart slot (part_of t p) × (p.name ≡ name)
own_part slot t name p target own is =
    first_all (IsOwnPart slot) name (own_parts slot (layout_of t).parts) (part_of t p)
    target.own.each (first_filter (is_of_slot slot) name (layout_of t).parts own ∙ is)

short_base : (text : List ℕ) → IsTrue (is_base text) → length text ≤ 30
unfolding is_base
short_base text is = leb-true (length text) 30 (and_parts _ _ (and_parts _ _ is).1).0

pub short_name : (slot : ℕ) (name : List ℕ) → IsTrue (is_base (base_of name)) → length name ≤ 32
short_name slot name is = omega (arith, short_base (base_of name) is, length-base_of name)

pub store_is : (t : Table) (name store : List ℕ) (p : Partition)
    → first_named (store_of name) (layout_of t).parts ≡ Some (part_of t p)
    → store ≡ sectors_of (first_sector_of t) (blocks_of_partition t p)
    → Some store ≡ store_on (layout_of t) name
store_is t name store p is same =
    let first = (layout_of t).device.first_logical_sector in
    ap Some (same ∙ ap (λ (n : ℕ). sectors_of n (blocks_of_partition t p)) (sym (layout_first t)))
    ∙ sym (ap (option_map (λ (q : PartOfLayout). sectors_of first q.blocks)) is)

pub own_rules : (slot : ℕ) (t : Table) (i : ℕ) (p : Partition)
    → IsTargetTable slot t
    → i < length t.partitions
    → p ≡ get_or t.partitions i p
    → is_of_slot slot p.name ≡ true
    → IsOwnPart slot (part_of t p)
own_rules slot t i p target lt at own =
    let there : is_of_slot slot (get_or t.partitions i p).name ≡ true =
    subst (λ (q : Partition). is_of_slot slot q.name ≡ true) at own in
    subst (λ (q : Partition). IsOwnPart slot (part_of t q)) (sym at)
    (own_at slot t i p target.own lt there)

more_before : (slot : ℕ) (t : Table) (i : ℕ) (p : Partition)
    → i < length t.partitions
    → p ≡ get_or t.partitions i p
    → own_before slot t (i + 1) ≡ own_before slot t i ++ own_parts slot (part_of t p ∷ [])
more_before slot t i p lt at =
    ap (λ (l : List Partition). own_parts slot (map (part_of t) l)) (take_more t.partitions i p lt)
    ∙ ap (λ (q : Partition). own_parts slot (map (part_of t) (take i t.partitions ++ q ∷ [])))
    (sym at)
    ∙ ap (own_parts slot) (map-append (part_of t) (take i t.partitions) (p ∷ []))
    ∙ filter-append (λ (q : PartOfLayout). is_of_slot slot q.name)
    (map (part_of t) (take i t.partitions)) (part_of t p ∷ [])

pub plan_skip : {X : Type 0} (f : PartOfLayout → X) (slot : ℕ) (t : Table) (i : ℕ) (p : Partition)
    → i < length t.partitions
    → p ≡ get_or t.partitions i p
    → is_of_slot slot p.name ≡ false
    → map f (own_before slot t i) ≡ map f (own_before slot t (i + 1))
plan_skip f slot t i p lt at other =
    let none : own_parts slot (part_of t p ∷ []) ≡ [] = rw other refl in
    ap (map f)
    (sym (more_before slot t i p lt at ∙ ap (λ (l : List PartOfLayout). own_before slot t i ++ l)
    none
    ∙ append-nil (own_before slot t i)))

pub plan_more : {X : Type 0} (f : PartOfLayout → X) (slot : ℕ) (t : Table) (i : ℕ) (p : Partition)
    → i < length t.partitions
    → p ≡ get_or t.partitions i p
    → is_of_slot slot p.name ≡ true
    → map f (own_before slot t i) ++ f (part_of t p) ∷ [] ≡ map f (own_before slot t (i + 1))
plan_more f slot t i p lt at own =
    let one : own_parts slot (part_of t p ∷ []) ≡ part_of t p ∷ [] = rw own refl in
    sym (map-append f (own_before slot t i) (part_of t p ∷ []))
    ∙ ap (map f)
    (sym (more_before slot t i p lt at
    ∙ ap (λ (l : List PartOfLayout). own_before slot t i ++ l) one))

pub planned_same : (l : Layout) (xs ys : List Scanned) (p : PartOfLayout)
    → scanned_named p.name xs ≡ scanned_named p.name ys
    → planned_on l xs p ≡ planned_on l ys p
planned_same l xs ys p same = rw same refl
