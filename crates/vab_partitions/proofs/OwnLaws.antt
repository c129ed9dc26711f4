-- The steps of a loop over the own partitions.
use Rattle.std.proofs.Common.{◌≡◌, ℕ, suc, ◌+◌, ◌≤◌, ◌<◌, Bool, true, false, ◌&&◌, ◌||◌, ltb, leb}
use Rattle.std.proofs.Common.{List, [], ◌∷◌, ◌++◌, length, get_or, take, drop, ◌^◌, Some, None}
use Rattle.std.proofs.Common.{refl, sym, ◌∙◌, ap, subst, arith}
use Rattle.std.specs.Prelude.{map}
use Rattle.std.specs.Str.{bytes_eq}
use Rattle.std.proofs.Math.Seq.{drop-cons}
use Rattle.std.proofs.lemmas.List.{append-nil, take-append-drop, take_all, take_more, append_assoc}
use Rattle.std.proofs.lemmas.List.{length-append, length-drop, nil_from_length}
use Rattle.std.proofs.lemmas.List.Elements.{filter-append}
use Rattle.vab_names.specs.Names.{is_base, is_of_slot, base_of, default_name}
use Rattle.vab_tables.specs.declared.entries.Partition.{Partition}
use Rattle.vab_tables.specs.declared.table.Table.{Table}
use Rattle.vab_blocks.specs.Blocks.{first_sector_of, extents_of}
use Rattle.vab_layout.specs.declared.layout.Part.{Part}
use Rattle.vab_layout.specs.Layout.{part_of, group_at, blocks_of_partition, blocks_of_parts}
use Rattle.vab_layout.specs.Layout.{layout_of}
use Rattle.vab_layout.specs.Slots.{own_parts}
use Rattle.vab_partitions.specs.Rules.{is_distinct, part_passes, bad_part}
use Rattle.vab_blocks.specs.Blocks.{blocks_of_extent}
use Rattle.std.specs.List.{flat_map}
use Rattle.vab_blocks.proofs.Distinct.{distinct_left}
use Rattle.vab_partitions.specs.Own.{own_before, own_from}

map-append : (f : Partition → Part) (xs ys : List Partition)
    → map f (xs ++ ys) ≡ map f xs ++ map f ys
map-append f [] ys = refl
map-append f (x ∷ xs) ys = ap (λ (l : List Part). f x ∷ l) (map-append f xs ys)

before_split : (slot : ℕ) (t : Table) (i : ℕ) (d : Partition) → i < length t.partitions
    → own_before slot t (i + 1) ≡ own_before slot t i
    ++ own_parts slot (part_of t (get_or t.partitions i d) ∷ [])
before_split slot t i d lt =
    ap (λ (l : List Partition). own_parts slot (map (part_of t) l)) (take_more t.partitions i d lt)
    ∙ ap (own_parts slot)
    (map-append (part_of t) (take i t.partitions) (get_or t.partitions i d ∷ []))
    ∙ filter-append (λ (p : Part). is_of_slot slot p.name) (map (part_of t) (take i t.partitions))
    (part_of t (get_or t.partitions i d) ∷ [])

from_split : (slot : ℕ) (t : Table) (i : ℕ) (d : Partition) → i < length t.partitions
    → own_from slot t i
    ≡ own_parts slot
    (part_of t (get_or t.partitions i d) ∷ map (part_of t) (drop (i + 1) t.partitions))
from_split slot t i d lt =
    let s : suc i ≡ i + 1 = omega arith in
    ap (λ (l : List Partition). own_parts slot (map (part_of t) l)) (drop-cons t.partitions i d lt
    ∙ ap (λ (k : ℕ). get_or t.partitions i d ∷ drop k t.partitions) s)

-- a partition of the other slot is passed over
pub skip_before : (slot : ℕ) (t : Table) (i : ℕ) (d : Partition) → i < length t.partitions
    → is_of_slot slot (get_or t.partitions i d).name ≡ false
    → own_before slot t (i + 1) ≡ own_before slot t i
skip_before slot t i d lt other =
    let none : own_parts slot (part_of t (get_or t.partitions i d) ∷ []) ≡ [] = rw other refl in
    before_split slot t i d lt ∙ ap (λ (l : List Part). own_before slot t i ++ l) none
    ∙ append-nil (own_before slot t i)

pub skip_from : (slot : ℕ) (t : Table) (i : ℕ) (d : Partition) → i < length t.partitions
    → is_of_slot slot (get_or t.partitions i d).name ≡ false
    → own_from slot t i ≡ own_from slot t (i + 1)
skip_from slot t i d lt other = from_split slot t i d lt ∙ rw other refl

-- one of the slot is the next
pub take_before : (slot : ℕ) (t : Table) (i : ℕ) (d : Partition) → i < length t.partitions
    → is_of_slot slot (get_or t.partitions i d).name ≡ true
    → own_before slot t (i + 1) ≡ own_before slot t i ++ part_of t (get_or t.partitions i d) ∷ []
take_before slot t i d lt own =
    let one : own_parts slot (part_of t (get_or t.partitions i d) ∷ [])
    ≡ part_of t (get_or t.partitions i d) ∷ [] = rw own refl in
    before_split slot t i d lt ∙ ap (λ (l : List Part). own_before slot t i ++ l) one

pub take_from : (slot : ℕ) (t : Table) (i : ℕ) (d : Partition) → i < length t.partitions
    → is_of_slot slot (get_or t.partitions i d).name ≡ true
    → own_from slot t i ≡ part_of t (get_or t.partitions i d) ∷ own_from slot t (i + 1)
take_from slot t i d lt own = from_split slot t i d lt ∙ rw own refl

pub blocks_append : (xs ys : List Part)
    → blocks_of_parts (xs ++ ys) ≡ blocks_of_parts xs ++ blocks_of_parts ys
blocks_append [] ys = refl
blocks_append (x ∷ xs) ys = ap (λ (l : List ℕ). x.blocks ++ l) (blocks_append xs ys)
    ∙ sym (append_assoc x.blocks (blocks_of_parts xs) (blocks_of_parts ys))

-- the blocks of a partition are those of its extents
pub partition_blocks : (t : Table) (p : Partition)
    → blocks_of_partition t p ≡ flat_map (blocks_of_extent (first_sector_of t)) (extents_of t p)
unfolding blocks_of_partition
partition_blocks t p = refl

-- ---- the test of one partition

tests : (base small group few apart : Bool)
    → base && small && group && few && apart ≡ (base && group && few) && small && apart
tests false small group few apart = refl
tests true true false few apart = refl
tests true true true false apart = refl
tests true true true true apart = refl
tests true false false few apart = refl
tests true false true false apart = refl
tests true false true true apart = refl

pub first_fails : (a s d : Bool) → a ≡ false → false ≡ a && s && d
first_fails a s d h = rw h refl

pub second_fails : (a s d : Bool) → s ≡ false → false ≡ a && s && d
second_fails false s d h = refl
second_fails true s d h = rw h refl

pub both_pass : (a s d ok : Bool) → a ≡ true → s ≡ true → ok ≡ d → ok ≡ a && s && d
both_pass a s d ok ha hs h = rw (ha, hs) h

-- the test, as the code makes it
pub part_passes_is : (most slot : ℕ) (t : Table) (earlier : List Part) (p : Partition)
    → part_passes most slot earlier (part_of t p)
    ≡ (is_base (base_of p.name)
    && (bytes_eq (group_at t.groups p.group) default_name
    || is_of_slot slot (group_at t.groups p.group)) && ltb (length earlier) most)
    && leb (length (blocks_of_partition t p)) (2 ^ 28)
    && is_distinct (blocks_of_parts earlier ++ blocks_of_partition t p)
part_passes_is most slot t earlier p =
    tests (is_base (base_of p.name)) (leb (length (blocks_of_partition t p)) (2 ^ 28))
    (bytes_eq (group_at t.groups p.group) default_name
    || is_of_slot slot (group_at t.groups p.group)) (ltb (length earlier) most)
    (is_distinct (blocks_of_parts earlier ++ blocks_of_partition t p))

-- ---- the first bad one

pub bad_next : (most slot : ℕ) (earlier : List Part) (p : Part) (rest : List Part)
    → part_passes most slot earlier p ≡ true
    → bad_part most slot earlier (p ∷ rest) ≡ bad_part most slot (earlier ++ p ∷ []) rest
unfolding bad_part
bad_next most slot earlier p rest h = rw h refl

pub bad_here : (most slot : ℕ) (earlier : List Part) (p : Part) (rest : List Part)
    → part_passes most slot earlier p ≡ false → bad_part most slot earlier (p ∷ rest) ≡ Some p.name
unfolding bad_part
bad_here most slot earlier p rest h = rw h refl

pub bad_none : (most slot : ℕ) (earlier : List Part) → bad_part most slot earlier [] ≡ None
unfolding bad_part
bad_none most slot earlier = refl

pub own_all : (slot : ℕ) (t : Table) → own_parts slot (layout_of t).parts ≡ own_from slot t 0
unfolding layout_of
own_all slot t = refl

-- ---- the loop

-- the test of a partition behind those that were seen
abbrev pub joins_them : (most slot : ℕ) → Table → List ℕ → ℕ → Partition → Bool
joins_them most slot t seen count p =
    (is_base (base_of p.name)
    && (bytes_eq (group_at t.groups p.group) default_name
    || is_of_slot slot (group_at t.groups p.group))
    && ltb count most)
    && leb (length (blocks_of_partition t p)) (2 ^ 28)
    && is_distinct (seen ++ blocks_of_partition t p)

-- The blocks that were seen are those of the own partitions in front of a place, and all of these
-- pass.
pub record Stands (most slot : ℕ) (t : Table) (i : ℕ) (seen : List ℕ) (count : ℕ) : Type 0 where
  pub blocks : seen ≡ blocks_of_parts (own_before slot t i)
  pub counted : count ≡ length (own_before slot t i)
  pub bad : bad_part most slot (own_before slot t i) (own_from slot t i)
      ≡ bad_part most slot [] (own_parts slot (layout_of t).parts)

pub stands_first : (most slot : ℕ) (t : Table) (seen : List ℕ)
    → seen ≡ []
    → Stands most slot t 0 seen 0
stands_first most slot t seen none = record {
  blocks = none;
  counted = refl;
  bad = ap (bad_part most slot []) (sym (own_all slot t));
}

pub stands_skip : (most slot : ℕ) (t : Table) (i : ℕ) (seen : List ℕ) (count : ℕ) (p : Partition)
    → Stands most slot t i seen count
    → i < length t.partitions
    → p ≡ get_or t.partitions i p
    → is_of_slot slot p.name ≡ false
    → Stands most slot t (i + 1) seen count
stands_skip most slot t i seen count p s lt at other =
    let own : Partition → Type 0 = λ q. is_of_slot slot q.name ≡ false in
    let at-place : own (get_or t.partitions i p) = subst own at other in
    let before = skip_before slot t i p lt at-place in
    let from = skip_from slot t i p lt at-place in
    record {
      blocks = s.blocks ∙ ap blocks_of_parts (sym before);
      counted = s.counted ∙ ap length (sym before);
      bad = ap (λ (l : List Part). bad_part most slot l (own_from slot t (i + 1))) before
          ∙ ap (bad_part most slot (own_before slot t i)) (sym from) ∙ s.bad;
    }

-- what was judged is the test of the definition
judged_is : (most slot : ℕ) (t : Table) (i : ℕ) (seen : List ℕ) (count : ℕ) (p : Partition)
    → Stands most slot t i seen count
    → part_passes most slot (own_before slot t i) (part_of t p)
    ≡ joins_them most slot t seen count p
judged_is most slot t i seen count p s =
    let group : List ℕ = group_at t.groups p.group in
    let a : Bool = is_base (base_of p.name) in
    let g : Bool = bytes_eq group default_name || is_of_slot slot group in
    let own : List ℕ = blocks_of_partition t p in
    let small : Bool = leb (length own) (2 ^ 28) in
    let test : ℕ → List ℕ → Bool =
    λ n l. (a && g && ltb n most) && small && is_distinct (l ++ own) in
    let before : List Part = own_before slot t i in
    part_passes_is most slot t before p
    ∙ ap (λ (n : ℕ). test n (blocks_of_parts before)) (sym s.counted)
    ∙ ap (λ (l : List ℕ). test count l) (sym s.blocks)

pub stands_bad : (most slot : ℕ) (t : Table) (i : ℕ) (seen : List ℕ) (count : ℕ) (p : Partition)
    → Stands most slot t i seen count
    → i < length t.partitions
    → p ≡ get_or t.partitions i p
    → is_of_slot slot p.name ≡ true
    → joins_them most slot t seen count p ≡ false
    → bad_part most slot [] (own_parts slot (layout_of t).parts) ≡ Some p.name
stands_bad most slot t i seen count p s lt at own fails =
    let Own : Partition → Type 0 = λ q. is_of_slot slot q.name ≡ true in
    let at-place : Own (get_or t.partitions i p) = subst Own at own in
    let rest : List Part = own_from slot t (i + 1) in
    let before : List Part = own_before slot t i in
    let from : own_from slot t i ≡ part_of t p ∷ rest =
    take_from slot t i p lt at-place
    ∙ ap (λ (q : Partition). part_of t q ∷ rest) (sym at) in
    sym s.bad ∙ ap (bad_part most slot before) from
    ∙ bad_here most slot before (part_of t p) rest (judged_is most slot t i seen count p s ∙ fails)

-- the blocks of the own partitions in front of the next place
pub next_blocks : (slot : ℕ) (t : Table) (i : ℕ) (seen : List ℕ) (p : Partition)
    → seen ≡ blocks_of_parts (own_before slot t i)
    → i < length t.partitions
    → p ≡ get_or t.partitions i p
    → is_of_slot slot p.name ≡ true
    → seen ++ blocks_of_partition t p ≡ blocks_of_parts (own_before slot t (i + 1))
next_blocks slot t i seen p blocks lt at own =
    let Own : Partition → Type 0 = λ q. is_of_slot slot q.name ≡ true in
    let at-place : Own (get_or t.partitions i p) = subst Own at own in
    let before : List Part = own_before slot t i in
    let one : List ℕ = blocks_of_partition t p in
    let after : own_before slot t (i + 1) ≡ before ++ part_of t p ∷ [] =
    take_before slot t i p lt at-place
    ∙ ap (λ (q : Partition). before ++ part_of t q ∷ []) (sym at) in
    ap (λ (l : List ℕ). l ++ one) blocks
    ∙ ap (λ (l : List ℕ). blocks_of_parts before ++ l) (sym (append-nil one))
    ∙ sym (blocks_append before (part_of t p ∷ []))
    ∙ ap blocks_of_parts (sym after)

pub stands_take : (most slot : ℕ) (t : Table) (i : ℕ) (seen more : List ℕ) (count : ℕ)
    (p : Partition)
    → Stands most slot t i seen count
    → i < length t.partitions
    → p ≡ get_or t.partitions i p
    → is_of_slot slot p.name ≡ true
    → joins_them most slot t seen count p ≡ true
    → more ≡ seen ++ blocks_of_partition t p
    → Stands most slot t (i + 1) more (count + 1)
stands_take most slot t i seen more count p s lt at own passes is =
    let Own : Partition → Type 0 = λ q. is_of_slot slot q.name ≡ true in
    let at-place : Own (get_or t.partitions i p) = subst Own at own in
    let before : List Part = own_before slot t i in
    let rest : List Part = own_from slot t (i + 1) in
    let part-is : part_of t (get_or t.partitions i p) ≡ part_of t p = ap (part_of t) (sym at) in
    let from : own_from slot t i ≡ part_of t p ∷ rest =
    take_from slot t i p lt at-place ∙ ap (λ (q : Part). q ∷ rest) part-is in
    let after : own_before slot t (i + 1) ≡ before ++ part_of t p ∷ [] =
    take_before slot t i p lt at-place ∙ ap (λ (q : Part). before ++ q ∷ []) part-is in
    let next =
    bad_next most slot before (part_of t p) rest
    (judged_is most slot t i seen count p s ∙ passes) in
    let len = length-append before (part_of t p ∷ []) in
    record {
      blocks = is ∙ next_blocks slot t i seen p s.blocks lt at own;
      counted = omega (arith, s.counted, ap length after, len);
      bad = ap (λ (l : List Part). bad_part most slot l rest) after ∙ sym next
          ∙ ap (bad_part most slot before) (sym from) ∙ s.bad;
    }

pub stands_last : (most slot : ℕ) (t : Table) (i : ℕ) (seen : List ℕ) (count : ℕ)
    → Stands most slot t i seen count
    → length t.partitions ≤ i
    → bad_part most slot [] (own_parts slot (layout_of t).parts) ≡ None
stands_last most slot t i seen count s le =
    let back =
    nil_from_length (drop i t.partitions) (omega (arith, length-drop i t.partitions, le)) in
    let none : own_from slot t i ≡ [] =
    ap (λ (l : List Partition). own_parts slot (map (part_of t) l)) back in
    sym s.bad ∙ ap (bad_part most slot (own_before slot t i)) none
    ∙ bad_none most slot (own_before slot t i)

-- ---- all own partitions

own_split : (slot : ℕ) (t : Table) (i : ℕ)
    → own_before slot t i ++ own_from slot t i ≡ own_parts slot (layout_of t).parts
own_split slot t i =
    let f : Part → Bool = λ p. is_of_slot slot p.name in
    let front : List Partition = take i t.partitions in
    let back : List Partition = drop i t.partitions in
    sym (filter-append f (map (part_of t) front) (map (part_of t) back))
    ∙ ap (own_parts slot) (sym (map-append (part_of t) front back))
    ∙ ap (λ (l : List Partition). own_parts slot (map (part_of t) l))
    (take-append-drop i t.partitions)
    ∙ sym (own_all slot t)

-- where no block stands twice in all of them, none does in a front of them
pub front_distinct : (slot : ℕ) (t : Table) (i : ℕ)
    → is_distinct (blocks_of_parts (own_parts slot (layout_of t).parts)) ≡ true
    → is_distinct (blocks_of_parts (own_before slot t i)) ≡ true
front_distinct slot t i h =
    let front : List ℕ = blocks_of_parts (own_before slot t i) in
    let back : List ℕ = blocks_of_parts (own_from slot t i) in
    let whole = ap blocks_of_parts (sym (own_split slot t i)) in
    let split = blocks_append (own_before slot t i) (own_from slot t i) in
    distinct_left front back (sym (ap is_distinct (whole ∙ split)) ∙ h)

-- the blocks of all of them
pub all_blocks : (slot : ℕ) (t : Table) (i : ℕ) (blocks : List ℕ)
    → blocks ≡ blocks_of_parts (own_before slot t i)
    → length t.partitions ≤ i
    → blocks ≡ blocks_of_parts (own_parts slot (layout_of t).parts)
all_blocks slot t i blocks is le =
    is ∙ ap (λ (l : List Partition). blocks_of_parts (own_parts slot (map (part_of t) l)))
    (take_all i t.partitions le)
    ∙ ap blocks_of_parts (sym (own_all slot t))

-- all of the slot's own stand before the end
pub all_before : (slot : ℕ) (t : Table) (i : ℕ)
    → length t.partitions ≤ i
    → own_before slot t i ≡ own_parts slot (layout_of t).parts
unfolding layout_of
all_before slot t i done =
    ap (λ (l : List Partition). own_parts slot (map (part_of t) l)) (take_all i t.partitions done)
