-- The store over one of a slot's own partitions: the steps of the loops that look for it, and what
-- it is to be one.
use Rattle.std.proofs.Common.{◌≡◌, ℕ, suc, ◌-◌, ◌+◌, ◌<◌, ◌≤◌, nat_eq, Bool, true, false, ◌&&◌}
use Rattle.std.proofs.Common.{List, [], ◌∷◌, ◌++◌, length, get_or, map, take, drop, Option, Some}
use Rattle.std.proofs.Common.{None, Bor, refl, sym, ap, subst, ◌∙◌, inl, inr, arith, add-one}
use Rattle.std.proofs.Common.{drop-cons, length-append}
use Rattle.std.specs.Prelude.{Contains, IfNone, IfSome, MatchOption}
use Rattle.std.specs.Cmp.Lexicographic.{pointwise}
use Rattle.std.specs.Str.{bytes_eq}
use Rattle.std.proofs.lemmas.Bool.{cases_Bool}
use Rattle.std.proofs.lemmas.List.{drop_all, drop_at, take-append-drop}
use Rattle.vab_names.specs.Names.{is_of_slot, store_of, store_suffix, store_group_name}
use Rattle.vab_names.proofs.NameCases.{same_name, eq_name, ne_name, store_of_same}
use Rattle.vab_tables.specs.declared.entries.Partition.{Partition}
use Rattle.vab_tables.specs.declared.table.Table.{Table}
use Rattle.vab_blocks.proofs.Contained.{first, later}
use Rattle.vab_blocks.proofs.Distinct.{distinct_pairs}
use Rattle.vab_layout.specs.declared.layout.Part.{Part}
use Rattle.vab_layout.specs.Layout.{part_of, layout_of, blocks_of_parts}
use Rattle.vab_layout.specs.Slots.{own_parts}
use Rattle.vab_layout.specs.Overlay.{Overlaid, part_of_store, overlaid_by, paired, overlays_of}
use Rattle.vab_layout.specs.Overlay.{only_one, overlaid_in, is_apart, IsOverlaidBy}
use Rattle.vab_partitions.specs.Own.{own_from}
use Rattle.vab_partitions.specs.Overlay.{own_of, pair_of, overlays_from}
use Rattle.vab_partitions.proofs.OwnLaws.{skip_from, take_from}

-- ---- the name of a store

abbrev EndsAsStore : List ℕ → Bool → Type 0
EndsAsStore text ends = pointwise nat_eq (drop (length text - 4) text) store_suffix ≡ ends

-- what stands in front of a store's suffix, where there is one
abbrev pub IsStripped : List ℕ → Option (Bor (List ℕ)) → Type 0
IsStripped text front =
    MatchOption front (EndsAsStore text false)
    (λ x. EndsAsStore text true × (x.now ≡ take (length text - 4) text)
    × (length x.now + 4 ≡ length text))

pub front_none : (text name : List ℕ) (front : Option (Bor (List ℕ))) → text ≡ name
    → IsStripped text front
    → IfNone front ((before : List ℕ) → name ≡ store_of before → ⊥)
unfolding store_of
front_none text name (Some x) same is = tt
front_none text name None same is = λ before e.
    let whole : text ≡ before ++ store_suffix = same ∙ e in
    let count : length before ≡ length text - 4 =
    omega (arith, ap length whole, length-append before store_suffix) in
    let tail : drop (length text - 4) text ≡ store_suffix =
    ap (drop (length text - 4)) whole ∙ drop_at before store_suffix (length text - 4) count in
    cc (is, eq_name (drop (length text - 4) text) store_suffix tail)

pub front_some : (text name : List ℕ) (front : Option (Bor (List ℕ))) → text ≡ name
    → IsStripped text front
    → IfSome front (λ before. name ≡ store_of before.now)
unfolding store_of
front_some text name None same is = tt
front_some text name (Some x) same is =
    let n : ℕ = length text - 4 in
    sym same ∙ sym (take-append-drop n text)
    ∙ ap (λ (l : List ℕ). take n text ++ l) (same_name (drop n text) store_suffix is.0)
    ∙ ap (λ (l : List ℕ). l ++ store_suffix) (sym is.1)

-- ---- the partition of a store

-- a name that is no store's
pub of_no_store : (own : List Part) (s : Part)
    → ((front : List ℕ) → s.name ≡ store_of front → ⊥)
    → part_of_store own s ≡ None
of_no_store [] s none = refl
of_no_store (p ∷ ps) s none =
    rw (ne_name s.name (store_of p.name) (none p.name)) (of_no_store ps s none)

-- a partition is passed over that isn't the slot's of this name
pub other_part : (slot : ℕ) (t : Table) (i : ℕ) (p : Partition) (s : Part) (front : List ℕ)
    → i < length t.partitions
    → p ≡ get_or t.partitions i p
    → s.name ≡ store_of front
    → is_of_slot slot p.name && bytes_eq p.name front ≡ false
    → part_of_store (own_from slot t i) s ≡ part_of_store (own_from slot t (i + 1)) s
other_part slot t i p s front lt at is fails = elim (cases_Bool (is_of_slot slot p.name)) [
  | inl own ↦
      let there : is_of_slot slot (get_or t.partitions i p).name ≡ true =
      subst (λ (q : Partition). is_of_slot slot q.name ≡ true) at own in
      let differ : bytes_eq p.name front ≡ false = rw own at fails in
      let ne : s.name ≡ store_of p.name → ⊥ = λ e.
      let same = store_of_same front p.name (sym is ∙ e) in
      cc (differ, eq_name p.name front (sym same)) in
      let head : own_from slot t i ≡ part_of t p ∷ own_from slot t (i + 1) =
      take_from slot t i p lt there
      ∙ ap (λ (q : Partition). part_of t q ∷ own_from slot t (i + 1)) (sym at) in
      ap (λ (ps : List Part). part_of_store ps s) head
      ∙ rw (ne_name s.name (store_of p.name) ne) refl
  | inr other ↦
      let there : is_of_slot slot (get_or t.partitions i p).name ≡ false =
      subst (λ (q : Partition). is_of_slot slot q.name ≡ false) at other in
      ap (λ (ps : List Part). part_of_store ps s) (skip_from slot t i p lt there)
]

and_both : (a b : Bool) → a && b ≡ true → (a ≡ true) × (b ≡ true)
and_both true true h = (refl, refl)
and_both true false h = cc h
and_both false b h = cc h

-- the slot's partition of this name is the one
pub this_part : (slot : ℕ) (t : Table) (i : ℕ) (p : Partition) (s : Part) (front : List ℕ)
    → i < length t.partitions
    → p ≡ get_or t.partitions i p
    → s.name ≡ store_of front
    → is_of_slot slot p.name && bytes_eq p.name front ≡ true
    → part_of_store (own_from slot t i) s ≡ Some (part_of t p)
this_part slot t i p s front lt at is passes =
    let both = and_both (is_of_slot slot p.name) (bytes_eq p.name front) passes in
    let there : is_of_slot slot (get_or t.partitions i p).name ≡ true =
    subst (λ (q : Partition). is_of_slot slot q.name ≡ true) at both.0 in
    let head : own_from slot t i ≡ part_of t p ∷ own_from slot t (i + 1) =
    take_from slot t i p lt there
    ∙ ap (λ (q : Partition). part_of t q ∷ own_from slot t (i + 1)) (sym at) in
    let named : s.name ≡ store_of p.name =
    is ∙ ap store_of (sym (same_name p.name front both.1)) in
    ap (λ (ps : List Part). part_of_store ps s) head
    ∙ rw (eq_name s.name (store_of p.name) named) refl

pub last_part : (slot : ℕ) (t : Table) (i : ℕ) (s : Part)
    → length t.partitions ≤ i
    → part_of_store (own_from slot t i) s ≡ None
last_part slot t i s done = rw (drop_all i t.partitions done) refl

pub first_part : (slot : ℕ) (t : Table) (s : Part)
    → part_of_store (own_of slot t) s ≡ part_of_store (own_from slot t 0) s
unfolding layout_of
first_part slot t s = refl

-- ---- the stores over partitions

-- the stores from one on: it, where it is one over a partition, and those behind it
from_here : (slot : ℕ) (t : Table) (i : ℕ) (s : Partition)
    → i < length t.partitions
    → s ≡ get_or t.partitions i s
    → overlays_from slot t i
    ≡ paired (overlaid_by (own_of slot t) (part_of t s)) (part_of t s)
    (overlays_from slot t (i + 1))
from_here slot t i s lt at =
    let rest : List Partition = drop (suc i) t.partitions in
    let head : drop i t.partitions ≡ s ∷ drop (i + 1) t.partitions =
    rw (add-one, drop-cons t.partitions i s) (ap (λ (q : Partition). q ∷ rest) (sym at)) in
    ap (λ (ps : List Partition). overlays_of (own_of slot t) (map (part_of t) ps)) head

pub other_overlay : (slot : ℕ) (t : Table) (i : ℕ) (s : Partition)
    → i < length t.partitions
    → s ≡ get_or t.partitions i s
    → overlaid_by (own_of slot t) (part_of t s) ≡ None
    → overlays_from slot t i ≡ overlays_from slot t (i + 1)
other_overlay slot t i s lt at none =
    from_here slot t i s lt at
    ∙ ap (λ (o : Option Part). paired o (part_of t s) (overlays_from slot t (i + 1))) none

pub next_pair : (slot : ℕ) (t : Table) (i : ℕ) (p s : Partition)
    → i < length t.partitions
    → s ≡ get_or t.partitions i s
    → overlaid_by (own_of slot t) (part_of t s) ≡ Some (part_of t p)
    → overlays_from slot t i ≡ pair_of t p s ∷ overlays_from slot t (i + 1)
next_pair slot t i p s lt at found =
    from_here slot t i s lt at
    ∙ ap (λ (o : Option Part). paired o (part_of t s) (overlays_from slot t (i + 1))) found

pub no_more : (slot : ℕ) (t : Table) (i : ℕ)
    → length t.partitions ≤ i
    → overlays_from slot t i ≡ []
no_more slot t i done = rw (drop_all i t.partitions done) refl

pub all_overlays : (slot : ℕ) (t : Table)
    → overlaid_in slot (layout_of t).parts ≡ only_one (overlays_from slot t 0)
unfolding overlaid_in layout_of
all_overlays slot t = refl

-- ---- what it is to be the store over a partition

only_listed : (os : List Overlaid) (o : Overlaid) → only_one os ≡ Some o → os ≡ o ∷ []
only_listed [] o is = cc is
only_listed (x ∷ []) o is = let e : x ≡ o = cc is in ap (λ (y : Overlaid). y ∷ []) e
only_listed (x ∷ y ∷ zs) o is = cc is

found_part : (own : List Part) (s p : Part) → part_of_store own s ≡ Some p
    → Contains own p × (s.name ≡ store_of p.name)
found_part [] s p is = cc is
found_part (q ∷ qs) s p is = elim (cases_Bool (bytes_eq s.name (store_of q.name))) [
  | inl e ↦
      let found : Some q ≡ Some p = rw e at is in
      let same : q ≡ p = cc found in
      let named : s.name ≡ store_of q.name = same_name s.name (store_of q.name) e in (
        subst (Contains (q ∷ qs)) same (first q qs),
        subst (λ (r : Part). s.name ≡ store_of r.name) same named,
      )
  | inr f ↦
      let rest : part_of_store qs s ≡ Some p = rw f at is in
      let r = found_part qs s p rest in (later q qs p r.0, r.1)
]

-- a store of the list, in the stores' group, with the partition that it is of
record IsPair (own parts : List Part) (o : Overlaid) : Type 0 where
  among : Contains own o.part
  listed : Contains parts o.store
  name : o.store.name ≡ store_of o.part.name
  group : o.store.group ≡ store_group_name

found_by : (own : List Part) (s p : Part) → overlaid_by own s ≡ Some p
    → (s.group ≡ store_group_name) × Contains own p × (s.name ≡ store_of p.name)
found_by own s p is = elim (cases_Bool (bytes_eq s.group store_group_name)) [
  | inl e ↦
      let found : part_of_store own s ≡ Some p = rw e at is in
      let r = found_part own s p found in (same_name s.group store_group_name e, r.0, r.1)
  | inr f ↦ let none : None ≡ Some p = rw f at is in cc none
]

pair_here : (own : List Part) (s : Part) (ss : List Part) (o : Overlaid) (by : Option Part)
    → overlaid_by own s ≡ by
    → paired by s (overlays_of own ss) ≡ o ∷ []
    → (overlays_of own ss ≡ o ∷ [] → IsPair own ss o)
    → IsPair own (s ∷ ss) o
pair_here own s ss o None by is rest =
    let r = rest is in record {
      among = r.among;
      listed = later s ss o.store r.listed;
      name = r.name;
      group = r.group;
    }
pair_here own s ss o (Some p) by is rest =
    let one : Overlaid = record { part = p; store = s } in
    let same : one ≡ o = cc is in
    let r = found_by own s p by in
    let pair : IsPair own (s ∷ ss) one = record {
      among = r.1;
      listed = first s ss;
      name = r.2;
      group = r.0;
    } in
    subst (IsPair own (s ∷ ss)) same pair

pair_listed : (own parts : List Part) (o : Overlaid) → overlays_of own parts ≡ o ∷ []
    → IsPair own parts o
pair_listed own [] o is = cc is
pair_listed own (s ∷ ss) o is =
    pair_here own s ss o (overlaid_by own s) refl is (pair_listed own ss o)

-- the one store over a partition of the slot, where no block stands twice in it and in these
pub is_overlaid : (slot : ℕ) (parts : List Part) (o : Overlaid)
    → overlaid_in slot parts ≡ Some o
    → is_apart slot parts o.store ≡ true
    → IsOverlaidBy slot parts o.part o.store
unfolding overlaid_in
is_overlaid slot parts o one apart =
    let own : List Part = own_parts slot parts in
    let r =
    pair_listed own parts o (only_listed (overlays_of own parts) o one) in
    record {
      own = r.among;
      listed = r.listed;
      name = r.name;
      group = r.group;
      apart = distinct_pairs (blocks_of_parts own ++ o.store.blocks) apart;
    }
