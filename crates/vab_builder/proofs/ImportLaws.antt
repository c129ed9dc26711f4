-- The layouts that begin an update and end it keep the rules of layouts, of a slot's own partitions
-- and of a target.
use Rattle.std.proofs.Common.{◌≡◌, ℕ, ◌+◌, ◌-◌, ◌*◌, ◌<◌, ◌≤◌, ◌≢◌, Bool, true, false, ◌&&◌, ◌||◌}
use Rattle.std.proofs.Common.{eqb, leb, List, [], ◌∷◌, ◌++◌, length, map, take, drop, get_or, refl}
use Rattle.std.proofs.Common.{sym, ap, subst, ◌∙◌, ◌⊎◌, inl, inr, arith}
use Rattle.std.specs.Prelude.{All, Any, Contains}
use Rattle.std.specs.List.{filter, sum_by}
use Rattle.std.specs.Str.{bytes_eq}
use Rattle.std.proofs.lemmas.Bool.{and_parts, or_cases, or_left, or_right, leb-true, cases_Bool}
use Rattle.std.proofs.lemmas.Bool.{both_ways, false_from_ne_true}
use Rattle.std.proofs.lemmas.List.{append-nil, length-append, length-map, drop_all}
use Rattle.std.proofs.lemmas.List.Elements.{All-nil, All-cons, All-append, All-map, All-filter}
use Rattle.std.proofs.lemmas.List.Elements.{All-contains, All-contains_itself, filter_passes}
use Rattle.std.proofs.lemmas.List.Elements.{filter-append, Contains-append_left}
use Rattle.std.proofs.lemmas.List.Elements.{Contains-append_right}
use Rattle.std.proofs.lemmas.List.Kept.{AllPairs-cons, AllPairs-filter}
use Rattle.std.proofs.lemmas.List.Sums.{sum_by-append}
use Rattle.std.proofs.lemmas.Nat.{and_assoc, and_le_l, or_lt}
use Rattle.std.proofs.lemmas.Slice.Eq.{bytes_eq-Decides}
use Rattle.vab_bytes.specs.Name.{is_name}
use Rattle.vab_names.specs.Names.{is_of_slot, base_of, in_slot, is_store, store_of, default_name}
use Rattle.vab_names.specs.Names.{store_group_name, most_partitions}
use Rattle.vab_names.proofs.NameLaws.{of_slot_long, length-base_of, in_slot_is_name}
use Rattle.vab_tables.specs.declared.entries.Group.{Group}
use Rattle.vab_tables.specs.Rules.{cap_of, is_shared, has_slot, IsGroup, NamesDiffer}
use Rattle.vab_tables.proofs.RuleLaws.{has_slot-suffix}
use Rattle.vab_layout.specs.declared.layout.Part.{Part}
use Rattle.vab_layout.specs.declared.layout.Layout.{Layout}
use Rattle.vab_blocks.specs.Runs.{runs_of}
use Rattle.vab_layout.specs.Layout.{blocks_of_parts}
use Rattle.vab_layout.specs.Rules.{names_of_groups, IsPart, IsLayout}
use Rattle.vab_layout.specs.Slots.{other_slot, own_parts, store_parts, IsDistinct, IsOwnPart, IsOwn}
use Rattle.vab_layout.specs.Slots.{blocks_named, before_of, IsTargetPart, IsStorePart, IsTarget}
use Rattle.vab_layout.specs.Slots.{twins_by, IsTargetPartBeside, IsTargetBeside, groups_of_slot}
use Rattle.vab_layout.specs.Plain.{default_group, own_groups, plain}
use Rattle.vab_builder.specs.Import.{stores_group, twin_group_name, twin_group, twin_part}
use Rattle.vab_builder.specs.Import.{parts_by, imported_by}
use Rattle.vab_builder.proofs.ListLaws.{filter_all, filter_none, length-filter-le, sum_by-filter-le}
use Rattle.vab_builder.proofs.ListLaws.{map_keeps, flat_map-map, sum_by-map, pairs_head, pairs_tail}
use Rattle.vab_builder.proofs.ListLaws.{pairs_append, pairs_map, pairs_weaker, cons_cases}
use Rattle.vab_builder.proofs.ListLaws.{contains_later, contains_filter, contains_map, mapped_from}
use Rattle.vab_builder.proofs.SlotLaws.{letter_of, other_slot_again, suffix_letter, of_other_slot}
use Rattle.vab_builder.proofs.SlotLaws.{default_of_no_slot, store_group_of_no_slot}
use Rattle.vab_builder.proofs.SlotLaws.{store_of_no_slot}
use Rattle.vab_builder.proofs.SlotLaws.{of_slot_no_store, in_slot_of_slot, base_of-in_slot}
use Rattle.vab_builder.proofs.SlotLaws.{in_slot_again, in_slot_one, slots_apart, of_slot_not}

-- ---- groups

-- a group of the slot in a table
pub record IsSlotGroup (slot : ℕ) (g : Group) : Type 0 where
  pub rule : IsGroup g
  pub named : is_of_slot slot g.name ≡ true

pub slot_groups : (slot : ℕ) (groups : List Group) → All IsGroup groups
    → All (IsSlotGroup slot) (own_groups slot groups)
slot_groups slot groups rules = λ (k : ℕ) (d : Group) lt. record {
  rule = All-filter (λ g. is_of_slot slot g.name) IsGroup groups rules k d lt;
  named = filter_passes (λ (g : Group). is_of_slot slot g.name) groups k d lt;
}

-- the names of a slot's groups are long enough for a suffix
pub slot_groups_long : (slot : ℕ) (groups : List Group)
    → All (λ g. 2 ≤ length g.name) (own_groups slot groups)
slot_groups_long slot groups =
    λ (k : ℕ) (d : Group) lt. of_slot_long slot _
    (filter_passes (λ (g : Group). is_of_slot slot g.name) groups k d lt)

of_slot_not_shared : (slot : ℕ) (name : List ℕ) → is_of_slot slot name ≡ true
    → is_shared name ≡ false
unfolding is_shared
of_slot_not_shared slot name h =
    false_from_ne_true _
    (λ s. elim (or_cases (bytes_eq name default_name) (bytes_eq name store_group_name) s) [
      | inl d ↦
          of_slot_not slot name default_name h (default_of_no_slot slot)
          ((bytes_eq-Decides name default_name).0 d)
      | inr c ↦
          of_slot_not slot name store_group_name h (store_group_of_no_slot slot)
          ((bytes_eq-Decides name store_group_name).0 c)
    ])

has_slot_long : (name : List ℕ) → has_slot name ≡ true → 3 ≤ length name
unfolding has_slot
has_slot_long name h =
    let line : Bool = eqb (get_or name (length name - 2) 0) 95 in
    let letter : Bool = eqb (get_or name (length name - 1) 0) 97
    || eqb (get_or name (length name - 1) 0) 98 in
    let a = and_parts (leb 3 (length name) && line) letter h in
    leb-true _ _ (and_parts (leb 3 (length name)) line a.0).0

pub default_rule : IsGroup default_group
unfolding is_name is_shared
default_rule =
    record {
      fits = record { name = refl; flags = omega arith; maximum_size = omega arith };
      named =
          refl;
      flags = refl;
      unlimited = λ _. refl;
    }

pub stores_rule : IsGroup stores_group
unfolding is_name is_shared
stores_rule =
    record {
      fits = record { name = refl; flags = omega arith; maximum_size = omega arith };
      named =
          refl;
      flags = refl;
      unlimited = λ _. refl;
    }

has_slot-in_slot : (slot : ℕ) (name : List ℕ) → 3 ≤ length name
    → has_slot (in_slot slot name) ≡ true
unfolding in_slot
has_slot-in_slot slot name long =
    let letter : (letter_of slot ≡ 97) ⊎ (letter_of slot ≡ 98) =
    elim (cases_Bool (eqb slot 0)) [ inl e ↦ rw e (inl refl) | inr e ↦ rw e (inr refl) ] in
    ap (λ (s : List ℕ). has_slot (base_of name ++ s)) (suffix_letter slot)
    ∙ has_slot-suffix (base_of name) (letter_of slot) (omega (arith, length-base_of name, long))
    letter

twin_rule : (slot other : ℕ) (g : Group) → IsSlotGroup slot g → IsGroup (twin_group other g)
twin_rule slot other g h =
    let long : 3 ≤ length g.name =
    elim (or_cases (is_shared g.name) (has_slot g.name) h.rule.named) [
      | inl s ↦ absurd (both_ways _ (of_slot_not_shared slot g.name h.named) s)
      | inr n ↦ has_slot_long g.name n
    ] in record {
      fits = record {
        name =
            in_slot_is_name other g.name h.rule.fits.name (omega (arith, long));
        flags =
            h.rule.fits.flags;
        maximum_size = h.rule.fits.maximum_size;
      };
      named =
          or_right (is_shared (in_slot other g.name)) (has_slot (in_slot other g.name))
          (has_slot-in_slot other g.name long);
      flags = h.rule.flags;
      unlimited =
          λ s. absurd
          (both_ways _
          (of_slot_not_shared other (in_slot other g.name) (in_slot_of_slot other g.name)) s);
    }

-- no group of the slots has the name of one of no slot
apart_from : (slot : ℕ) (name : List ℕ) (groups : List Group) → is_of_slot slot name ≡ false
    → All (λ g. is_of_slot slot g.name ≡ true) groups → All (λ g. name ≢ g.name) groups
apart_from slot name groups none all =
    λ (k : ℕ) (d : Group) lt e. of_slot_not slot _ name (all k d lt) none (sym e)

-- ---- groups of the target

-- the twins of a slot's groups are groups of the other
twin_groups_named : (slot other : ℕ) (groups : List Group)
    → All (λ g. is_of_slot other g.name ≡ true) (map (twin_group other) (own_groups slot groups))
twin_groups_named slot other groups =
    All-map (λ (g : Group). is_of_slot other g.name ≡ true) (twin_group other)
    (own_groups slot groups) (λ (k : ℕ) (d : Group) lt. in_slot_of_slot other _)

pub own_groups_named : (slot : ℕ) (groups : List Group)
    → All (λ g. is_of_slot slot g.name ≡ true) (own_groups slot groups)
own_groups_named slot groups = filter_passes (λ (g : Group). is_of_slot slot g.name) groups

abbrev NamesApart : Group → Group → Type 0
NamesApart a b = a.name ≢ b.name

own_groups_apart : (slot : ℕ) (groups : List Group) → NamesDiffer (λ (g : Group). g.name) groups
    → NamesDiffer (λ (g : Group). g.name) (own_groups slot groups)
own_groups_apart slot groups h = AllPairs-filter NamesApart (λ g. is_of_slot slot g.name) groups h

twin_groups_apart : (slot other : ℕ) (groups : List Group)
    → NamesDiffer (λ (g : Group). g.name) groups
    → NamesDiffer (λ (g : Group). g.name) (map (twin_group other) (own_groups slot groups))
twin_groups_apart slot other groups h =
    let named : Group → Type 0 = λ g. is_of_slot slot g.name ≡ true in
    let twins_apart : Group → Group → Type 0 = λ a b. in_slot other a.name ≢ in_slot other b.name in
    pairs_map NamesApart (twin_group other) (own_groups slot groups)
    (pairs_weaker named NamesApart twins_apart
    (λ a b ha hb apart e. apart (in_slot_one slot other a.name b.name ha hb e))
    (own_groups slot groups) (own_groups_named slot groups) (own_groups_apart slot groups h))

-- the twins and the group of stores
abbrev behind_own : ℕ → List Group → List Group
behind_own source groups =
    map (twin_group (other_slot source)) (own_groups source groups) ++ stores_group ∷ []

behind_own_apart : (source : ℕ) (groups : List Group) → NamesDiffer (λ (g : Group). g.name) groups
    → NamesDiffer (λ (g : Group). g.name) (behind_own source groups)
behind_own_apart source groups h =
    let other : ℕ = other_slot source in
    let twins : List Group = map (twin_group other) (own_groups source groups) in
    let last : All (λ x. All (NamesApart x) (stores_group ∷ [])) twins =
    λ (k : ℕ) (d : Group) lt. All-cons (NamesApart (get_or twins k d)) stores_group []
    (of_slot_not other _ store_group_name (twin_groups_named source other groups k d lt)
    (store_group_of_no_slot other)) (All-nil (NamesApart (get_or twins k d))) in
    pairs_append NamesApart twins (stores_group ∷ []) (twin_groups_apart source other groups h)
    (AllPairs-cons NamesApart stores_group [] (All-nil (NamesApart stores_group))
    (λ i j d lt le. absurd (omega (arith, le)))) last

imported_groups_apart : (source : ℕ) (groups : List Group) → source < 2
    → NamesDiffer (λ (g : Group). g.name) groups
    → NamesDiffer (λ (g : Group). g.name)
    (default_group ∷ (own_groups source groups ++ behind_own source groups))
imported_groups_apart source groups lt h =
    let other : ℕ = other_slot source in
    let own : List Group = own_groups source groups in
    let twins : List Group = map (twin_group other) own in
    let from_own : All (λ x. All (NamesApart x) (behind_own source groups)) own =
    λ (k : ℕ) (d : Group) le.
    let named : is_of_slot source (get_or own k d).name ≡ true =
    own_groups_named source groups k d le in
    All-append (NamesApart (get_or own k d)) twins (stores_group ∷ [])
    (λ (j : ℕ) (e : Group) lj. slots_apart source _ _ lt named
    (twin_groups_named source other groups j e lj))
    (All-cons (NamesApart (get_or own k d)) stores_group []
    (of_slot_not source _ store_group_name named (store_group_of_no_slot source))
    (All-nil (NamesApart (get_or own k d)))) in
    let from_default : All (NamesApart default_group) (own ++ behind_own source groups) =
    All-append (NamesApart default_group) own (behind_own source groups)
    (apart_from source default_name own (default_of_no_slot source)
    (own_groups_named source groups))
    (All-append (NamesApart default_group) twins (stores_group ∷ [])
    (apart_from other default_name twins (default_of_no_slot other)
    (twin_groups_named source other groups))
    (All-cons (NamesApart default_group) stores_group [] (λ e. cc e)
    (All-nil (NamesApart default_group)))) in
    AllPairs-cons NamesApart default_group (own ++ behind_own source groups) from_default
    (pairs_append NamesApart own (behind_own source groups) (own_groups_apart source groups h)
    (behind_own_apart source groups h) from_own)

imported_groups_rule : (source : ℕ) (groups : List Group) → All IsGroup groups
    → All IsGroup (default_group ∷ (own_groups source groups ++ behind_own source groups))
imported_groups_rule source groups h =
    let other : ℕ = other_slot source in
    let own : List Group = own_groups source groups in
    let both = slot_groups source groups h in
    let twins : All IsGroup (map (twin_group other) own) =
    All-map IsGroup (twin_group other) own
    (λ (k : ℕ) (d : Group) lt. twin_rule source other _ (both k d lt)) in
    All-cons IsGroup default_group (own ++ behind_own source groups) default_rule
    (All-append IsGroup own (behind_own source groups)
    (λ (k : ℕ) (d : Group) lt. (both k d lt).rule)
    (All-append IsGroup (map (twin_group other) own) (stores_group ∷ []) twins
    (All-cons IsGroup stores_group [] stores_rule (All-nil IsGroup))))

-- ---- the group of a partition

-- a slot's group of this name is among the slot's groups
slot_group_named : (slot : ℕ) (groups : List Group) (name : List ℕ) → is_of_slot slot name ≡ true
    → Contains (names_of_groups groups) name → Any (λ g. g.name ≡ name) (own_groups slot groups)
slot_group_named slot groups name h c =
    let a = mapped_from (λ (g : Group). g.name) groups name c in
    let g : Group = a.1 in
    let in_own =
    contains_filter (λ (x : Group). is_of_slot slot x.name) groups g (a.0, a.2, a.3)
    (ap (is_of_slot slot) a.4 ∙ h) in
    (in_own.0, g, in_own.1, in_own.2, a.4)

-- a group that the slot's partitions may have stays, where the slot's groups do
group_stays : (slot : ℕ) (groups all : List Group) (p : Part) → IsOwnPart slot p
    → Contains (names_of_groups groups) p.group
    → ((g : Group) → Contains (own_groups slot groups) g → Contains all g)
    → Contains (names_of_groups (default_group ∷ all)) p.group
group_stays slot groups all p own c stays =
    elim (or_cases (bytes_eq p.group default_name) (is_of_slot slot p.group) own.group) [
      | inl d ↦ (0, omega arith, sym ((bytes_eq-Decides p.group default_name).0 d))
      | inr s ↦
          let a = slot_group_named slot groups p.group s c in
          let named =
          contains_map (λ (g : Group). g.name) (default_group ∷ all) a.1
          (contains_later default_group all a.1 (stays a.1 (a.0, a.2, a.3))) in
          subst (λ (n : List ℕ). Contains (names_of_groups (default_group ∷ all)) n) a.4 named
    ]

-- and its twin's is there, where the twins of the slot's groups are
twin_group_stays : (slot other : ℕ) (groups all : List Group) (p : Part) → IsOwnPart slot p
    → Contains (names_of_groups groups) p.group
    → ((g : Group) → Contains (own_groups slot groups) g → Contains all (twin_group other g))
    → Contains (names_of_groups (default_group ∷ all)) (twin_group_name other p.group)
twin_group_stays slot other groups all p own c stays =
    elim (cases_Bool (bytes_eq p.group default_name)) [
      | inl d ↦ rw d (0, omega arith, sym ((bytes_eq-Decides p.group default_name).0 d))
      | inr n ↦
          rw n
          (elim (or_cases (bytes_eq p.group default_name) (is_of_slot slot p.group) own.group) [
            | inl d ↦ absurd (both_ways _ n d)
            | inr s ↦
                let a = slot_group_named slot groups p.group s c in
                let named =
                contains_map (λ (g : Group). g.name) (default_group ∷ all) (twin_group other a.1)
                (contains_later default_group all (twin_group other a.1)
                (stays a.1 (a.0, a.2, a.3))) in
                subst (λ (n : List ℕ). Contains (names_of_groups (default_group ∷ all)) n)
                (ap (in_slot other) a.4) named
          ])
    ]

-- ---- the source's own partitions

-- a partition of the slot in a layout that keeps the rules
pub record IsSlotPart (cap : ℕ) (groups : List Group) (slot : ℕ) (p : Part) : Type 0 where
  pub rule : IsPart cap groups p
  pub named : is_of_slot slot p.name ≡ true
  pub own : IsOwnPart slot p

pub slot_parts : (slot : ℕ) (l : Layout) → IsLayout l → IsOwn slot l.parts
    → All (IsSlotPart (cap_of l.device) l.groups slot) (own_parts slot l.parts)
slot_parts slot l rules own = λ (k : ℕ) (d : Part) lt. record {
  rule = All-filter (λ p. is_of_slot slot p.name) (IsPart (cap_of l.device) l.groups) l.parts
      rules.parts k d lt;
  named = filter_passes (λ (p : Part). is_of_slot slot p.name) l.parts k d lt;
  own = own.each k d lt;
}

pub own_parts_named : (slot : ℕ) (parts : List Part)
    → All (λ p. is_of_slot slot p.name ≡ true) (own_parts slot parts)
own_parts_named slot parts = filter_passes (λ (p : Part). is_of_slot slot p.name) parts

-- the names of a slot's partitions are long enough for a suffix
pub own_parts_long : (slot : ℕ) (parts : List Part)
    → All (λ p. 2 ≤ length p.name) (own_parts slot parts)
own_parts_long slot parts =
    λ (k : ℕ) (d : Part) lt. of_slot_long slot _ (own_parts_named slot parts k d lt)

own_group_long : (slot : ℕ) (p : Part) → IsOwnPart slot p → 2 ≤ length p.group
own_group_long slot p own =
    elim (or_cases (bytes_eq p.group default_name) (is_of_slot slot p.group) own.group) [
      | inl d ↦ let e = ap length ((bytes_eq-Decides p.group default_name).0 d) in omega (arith, e)
      | inr s ↦ of_slot_long slot p.group s
    ]

-- and so are those of their groups
pub own_parts_groups_long : (slot : ℕ) (parts : List Part) → IsOwn slot parts
    → All (λ p. 2 ≤ length p.group) (own_parts slot parts)
own_parts_groups_long slot parts own =
    λ (k : ℕ) (d : Part) lt. own_group_long slot _ (own.each k d lt)

-- ---- partitions of the target

abbrev PartsApart : Part → Part → Type 0
PartsApart a b = a.name ≢ b.name

twin_parts_named : (slot other : ℕ) (parts : List Part)
    → All (λ p. is_of_slot other p.name ≡ true) (map (twin_part other) (own_parts slot parts))
twin_parts_named slot other parts =
    All-map (λ (p : Part). is_of_slot other p.name ≡ true) (twin_part other) (own_parts slot parts)
    (λ (k : ℕ) (d : Part) lt. in_slot_of_slot other _)

pub own_parts_apart : (slot : ℕ) (parts : List Part) → NamesDiffer (λ (p : Part). p.name) parts
    → NamesDiffer (λ (p : Part). p.name) (own_parts slot parts)
own_parts_apart slot parts h = AllPairs-filter PartsApart (λ p. is_of_slot slot p.name) parts h

twin_parts_apart : (slot other : ℕ) (parts : List Part) → NamesDiffer (λ (p : Part). p.name) parts
    → NamesDiffer (λ (p : Part). p.name) (map (twin_part other) (own_parts slot parts))
twin_parts_apart slot other parts h =
    let named : Part → Type 0 = λ p. is_of_slot slot p.name ≡ true in
    let twins_apart : Part → Part → Type 0 = λ a b. in_slot other a.name ≢ in_slot other b.name in
    pairs_map PartsApart (twin_part other) (own_parts slot parts)
    (pairs_weaker named PartsApart twins_apart
    (λ a b ha hb apart e. apart (in_slot_one slot other a.name b.name ha hb e))
    (own_parts slot parts) (own_parts_named slot parts) (own_parts_apart slot parts h))

imported_parts_apart : (source : ℕ) (parts : List Part) → source < 2
    → NamesDiffer (λ (p : Part). p.name) parts
    → NamesDiffer (λ (p : Part). p.name)
    (own_parts source parts ++ map (twin_part (other_slot source)) (own_parts source parts))
imported_parts_apart source parts lt h =
    let other : ℕ = other_slot source in
    let own : List Part = own_parts source parts in
    let twins : List Part = map (twin_part other) own in
    let cross : All (λ x. All (PartsApart x) twins) own =
    λ (k : ℕ) (d : Part) le (j : ℕ) (e : Part) lj. slots_apart source _ _ lt
    (own_parts_named source parts k d le) (twin_parts_named source other parts j e lj) in
    pairs_append PartsApart own twins (own_parts_apart source parts h)
    (twin_parts_apart source other parts h) cross

-- a partition of the slot among groups of which its own are one
pub part_stays : (cap slot : ℕ) (groups all : List Group) (p : Part) → IsSlotPart cap groups slot p
    → ((g : Group) → Contains (own_groups slot groups) g → Contains all g)
    → IsPart cap (default_group ∷ all) p
part_stays cap slot groups all p h stays = record {
  name = h.rule.name;
  attributes = h.rule.attributes;
  small = h.rule.small;
  group = group_stays slot groups all p h.own h.rule.group stays;
  blocks = h.rule.blocks;
}

twin_part_rule : (cap slot other : ℕ) (groups all : List Group) (p : Part)
    → IsSlotPart cap groups slot p
    → ((g : Group) → Contains (own_groups slot groups) g → Contains all (twin_group other g))
    → IsPart cap (default_group ∷ all) (twin_part other p)
twin_part_rule cap slot other groups all p h stays = record {
  name = in_slot_is_name other p.name h.rule.name (of_slot_long slot p.name h.named);
  attributes = and_assoc 13 p.attributes 9;
  small = omega (arith, and_le_l p.attributes 9, h.rule.small);
  group = twin_group_stays slot other groups all p h.own h.rule.group stays;
  blocks = h.rule.blocks;
}

-- ---- rules of layouts

-- the parts of an import, with the twins or without them
imported_each : (apart : Bool) (source cap : ℕ) (groups : List Group) (parts : List Part)
    → All (IsPart cap groups) (own_parts source parts)
    → All (λ p. IsPart cap groups (twin_part (other_slot source) p)) (own_parts source parts)
    → All (IsPart cap groups) (parts_by apart source parts)
imported_each true source cap groups parts one two = one
imported_each false source cap groups parts one two =
    let other : ℕ = other_slot source in
    All-append (IsPart cap groups) (own_parts source parts)
    (map (twin_part other) (own_parts source parts)) one
    (All-map (IsPart cap groups) (twin_part other) (own_parts source parts) two)

imported_names : (apart : Bool) (source : ℕ) (parts : List Part)
    → source < 2
    → NamesDiffer (λ (q : Part). q.name) parts
    → NamesDiffer (λ (q : Part). q.name) (parts_by apart source parts)
imported_names true source parts lt differ = own_parts_apart source parts differ
imported_names false source parts lt differ = imported_parts_apart source parts lt differ

pub imported_is_layout : (apart : Bool) (source : ℕ) (l : Layout)
    → source < 2
    → IsLayout l
    → IsOwn source l.parts
    → IsLayout (imported_by apart source l)
unfolding imported_by
imported_is_layout apart source l lt rules own =
    let other : ℕ = other_slot source in
    let cap : ℕ = cap_of l.device in
    let mine : List Group = own_groups source l.groups in
    let all : List Group = mine ++ behind_own source l.groups in
    let each = slot_parts source l rules own in
    let one : All (IsPart cap (default_group ∷ all)) (own_parts source l.parts) =
    λ (k : ℕ) (d : Part) le. part_stays cap source l.groups all _ (each k d le)
    (λ g c. Contains-append_left mine (behind_own source l.groups) g c) in
    let two : All (λ p. IsPart cap (default_group ∷ all) (twin_part other p))
    (own_parts source l.parts) =
    λ (k : ℕ) (d : Part) le.
    twin_part_rule cap source other l.groups all _ (each k d le)
    (λ g c. Contains-append_right mine (behind_own source l.groups) (twin_group other g)
    (Contains-append_left (map (twin_group other) mine) (stores_group ∷ []) (twin_group other g)
    (contains_map (twin_group other) mine g c))) in
    record {
      device = rules.device;
      flags = or_lt 32 l.flags 1 rules.flags (omega arith);
      groups = imported_groups_rule source l.groups rules.groups;
      group_names = imported_groups_apart source l.groups lt rules.group_names;
      parts = imported_each apart source cap (default_group ∷ all) l.parts one two;
      part_names = imported_names apart source l.parts lt rules.part_names;
    }

pub plain_is_layout : (slot : ℕ) (l : Layout) → IsLayout l → IsOwn slot l.parts
    → IsLayout (plain slot l)
unfolding plain
plain_is_layout slot l rules own =
    let cap : ℕ = cap_of l.device in
    let mine : List Group = own_groups slot l.groups in
    let each = slot_parts slot l rules own in
    let both = slot_groups slot l.groups rules.groups in
    record {
      device = rules.device;
      flags = rules.flags;
      groups =
          All-cons IsGroup default_group mine default_rule
          (λ (k : ℕ) (d : Group) le. (both k d le).rule);
      group_names =
          AllPairs-cons NamesApart default_group mine
          (apart_from slot default_name mine (default_of_no_slot slot)
          (own_groups_named slot l.groups)) (own_groups_apart slot l.groups rules.group_names);
      parts = λ (k : ℕ) (d : Part) le. part_stays cap slot l.groups mine _ (each k d le) (λ g c. c);
      part_names = own_parts_apart slot l.parts rules.part_names;
    }

-- ---- the target

abbrev imported_parts : ℕ → List Part → List Part
imported_parts source parts =
    own_parts source parts ++ map (twin_part (other_slot source)) (own_parts source parts)

-- the target's own partitions are the twins
own_of_target : (source : ℕ) (parts : List Part) → source < 2
    → own_parts (other_slot source) (imported_parts source parts)
    ≡ map (twin_part (other_slot source)) (own_parts source parts)
own_of_target source parts lt =
    let other : ℕ = other_slot source in
    let own : List Part = own_parts source parts in
    let twins : List Part = map (twin_part other) own in
    let test : Part → Bool = λ p. is_of_slot other p.name in
    let none : filter test own ≡ [] =
    filter_none test own
    (λ (k : ℕ) (d : Part) le. of_other_slot source _ lt (own_parts_named source parts k d le))
    in
    let all : filter test twins ≡ twins =
    filter_all test twins (twin_parts_named source other parts) in
    filter-append test own twins ∙ ap (λ (l : List Part). l ++ filter test twins) none ∙ all

-- and it has no stores
no_store_of_target : (source : ℕ) (parts : List Part)
    → store_parts (other_slot source) (imported_parts source parts) ≡ []
no_store_of_target source parts =
    let other : ℕ = other_slot source in
    let own : List Part = own_parts source parts in
    let twins : List Part = map (twin_part other) own in
    let test : Part → Bool = λ p. is_store other p.name in
    let Fails : Part → Type 0 = λ p. test p ≡ false in
    filter_none test (own ++ twins)
    (All-append Fails own twins
    (λ (k : ℕ) (d : Part) le. of_slot_no_store source other _
    (own_parts_named source parts k d le))
    (λ (k : ℕ) (d : Part) le. of_slot_no_store other other _
    (twin_parts_named source other parts k d le)))

-- no partition of a slot has a store's name
pub not_a_store : (slot : ℕ) (parts : List Part) (name : List ℕ)
    → All (λ p. is_of_slot slot p.name ≡ true) parts → All (λ s. s.name ≢ store_of name) parts
not_a_store slot parts name all =
    λ (k : ℕ) (d : Part) le. of_slot_not slot _ (store_of name) (all k d le)
    (store_of_no_slot slot name)

-- the blocks of the partition of this name are its own
blocks_named_at : (parts : List Part) (p : Part) → NamesDiffer (λ (q : Part). q.name) parts
    → Contains parts p → blocks_named p.name parts ≡ p.blocks
blocks_named_at [] p apart c = absurd (omega (arith, c.1))
blocks_named_at (q ∷ qs) p apart c = elim (cons_cases q qs p c) [
  | inl e ↦
      rw ((bytes_eq-Decides q.name p.name).1 (ap (λ (x : Part). x.name) e))
      (ap (λ (x : Part). x.blocks) e)
  | inr d ↦
      let differ : q.name ≢ p.name =
      All-contains (λ x. q.name ≢ x.name) qs p (pairs_head PartsApart q qs apart) d in
      rw (false_from_ne_true (bytes_eq q.name p.name)
      (λ t. differ ((bytes_eq-Decides q.name p.name).0 t)))
      (blocks_named_at qs p (pairs_tail PartsApart q qs apart) d)
]

-- a twin begins with the blocks of its source
before_twin : (source : ℕ) (parts : List Part) (p : Part) → source < 2
    → NamesDiffer (λ (q : Part). q.name) parts → Contains parts p → is_of_slot source p.name ≡ true
    → before_of (other_slot source) parts (in_slot (other_slot source) p.name) ≡ p.blocks
before_twin source parts p lt apart c named =
    let other : ℕ = other_slot source in
    let again : in_slot (other_slot other) (in_slot other p.name) ≡ p.name =
    ap (λ (s : ℕ). in_slot s (in_slot other p.name)) (other_slot_again source lt)
    ∙ in_slot_again source other p.name named in
    ap (λ (n : List ℕ). blocks_named n parts) again ∙ blocks_named_at parts p apart c

twin_is_own : (source : ℕ) (p : Part) → IsOwnPart source p
    → IsOwnPart (other_slot source) (twin_part (other_slot source) p)
twin_is_own source p own =
    let other : ℕ = other_slot source in
    record {
      base = rw (base_of-in_slot other p.name) own.base;
      size = own.size;
      group = elim (cases_Bool (bytes_eq p.group default_name)) [
        | inl d ↦ rw d (or_left (bytes_eq p.group default_name) (is_of_slot other p.group) d)
        | inr n ↦
            rw n (or_right (bytes_eq (in_slot other p.group) default_name)
            (is_of_slot other (in_slot other p.group)) (in_slot_of_slot other p.group))
      ];
    }

twin_is_target : (source : ℕ) (parts : List Part) (p : Part) → source < 2
    → NamesDiffer (λ (q : Part). q.name) parts → Contains parts p → is_of_slot source p.name ≡ true
    → IsTargetPart (other_slot source) parts (imported_parts source parts)
    (twin_part (other_slot source) p)
twin_is_target source parts p lt apart c named =
    let other : ℕ = other_slot source in
    let twin : Part = twin_part other p in
    let before : before_of other parts twin.name ≡ p.blocks =
    before_twin source parts p lt apart c named in
    let again : p.name ≡ in_slot (other_slot other) twin.name =
    sym (ap (λ (s : ℕ). in_slot s (in_slot other p.name)) (other_slot_again source lt)
    ∙ in_slot_again source other p.name named) in
    let Fresh : ℕ → Type 0 = λ b. Contains (blocks_of_parts (own_parts (other_slot other) parts)) b
    → ⊥ in
    let behind : drop (length (before_of other parts twin.name)) p.blocks ≡ [] =
    drop_all (length (before_of other parts twin.name)) p.blocks
    (omega (arith, ap length before)) in
    let own : List Part = own_parts source parts in
    record {
      begins =
          subst (λ (b : List ℕ). take (length b) p.blocks ≡ take (length p.blocks) b) (sym before)
          refl;
      fresh = subst (λ (b : List ℕ). All Fresh b) (sym behind) (All-nil Fresh);
      kept = inr (
        (c.0, p, c.1, c.2, again),
        sym before,
        All-append (λ s. s.name ≢ store_of twin.name) own (map (twin_part other) own)
            (not_a_store source own twin.name (own_parts_named source parts))
            (not_a_store other (map (twin_part other) own) twin.name
            (twin_parts_named source other parts)),
      );
    }

with_twins_is_target : (source : ℕ) (l : Layout) → source < 2 → IsLayout l → IsOwn source l.parts
    → IsTarget (other_slot source) l.parts (imported_parts source l.parts)
with_twins_is_target source l lt rules own =
    let other : ℕ = other_slot source in
    let mine : List Part = own_parts source l.parts in
    let twins : List Part = map (twin_part other) mine in
    let all : List Part = imported_parts source l.parts in
    let is : own_parts other all ≡ twins = own_of_target source l.parts lt in
    let none : store_parts other all ≡ [] = no_store_of_target source l.parts in
    let blocks : blocks_of_parts twins ≡ blocks_of_parts mine =
    flat_map-map (twin_part other) (λ p. p.blocks) mine in
    let listed : All (Contains l.parts) mine =
    All-filter (λ p. is_of_slot source p.name) (Contains l.parts) l.parts
    (All-contains_itself l.parts) in
    let Target : Part → Type 0 = IsTargetPart other l.parts all in
    let few : length twins ≤ most_partitions =
    omega (arith, length-map mine (twin_part other), own.few) in
    let both : own_parts other all ++ store_parts other all ≡ twins =
    ap (λ (s : List Part). own_parts other all ++ s) none ∙ append-nil (own_parts other all)
    ∙ is in
    let once : IsDistinct (blocks_of_parts twins) = subst IsDistinct (sym blocks) own.once in
    record {
      own = record {
        each = subst (λ (ps : List Part). All (IsOwnPart other) ps) (sym is)
            (All-map (IsOwnPart other) (twin_part other) mine
            (λ (k : ℕ) (d : Part) le. twin_is_own source _ (own.each k d le)));
        few = subst (λ (ps : List Part). length ps ≤ most_partitions) (sym is) few;
        once = subst (λ (ps : List Part). IsDistinct (blocks_of_parts ps)) (sym is) once;
      };
      each = subst (λ (ps : List Part). All Target ps) (sym is)
          (All-map Target (twin_part other) mine
          (λ (k : ℕ) (d : Part) le. twin_is_target source l.parts _ lt rules.part_names
          (listed k d le) (own_parts_named source l.parts k d le)));
      stores =
          subst (λ (ps : List Part). All (IsStorePart other l.parts all) ps) (sym none)
          (All-nil (IsStorePart other l.parts all));
      once = subst (λ (ps : List Part). IsDistinct (blocks_of_parts ps)) (sym both) once;
    }

-- the source's own partitions are a target without partitions
alone_is_target : (source : ℕ) (parts : List Part)
    → source < 2
    → IsTargetBeside (other_slot source) [] parts (own_parts source parts)
alone_is_target source parts lt =
    let other : ℕ = other_slot source in
    let own : List Part = own_parts source parts in
    let none : own_parts other own ≡ [] =
    filter_none (λ p. is_of_slot other p.name) own
    (λ (k : ℕ) (d : Part) le. of_other_slot source _ lt (own_parts_named source parts k d le))
    in
    let stores : store_parts other own ≡ [] =
    filter_none (λ p. is_store other p.name) own
    (λ (k : ℕ) (d : Part) le. of_slot_no_store source other _
    (own_parts_named source parts k d le)) in
    let once : IsDistinct [] = λ i j d ij lj. absurd (omega arith) in
    record {
      own = record {
        each = rw none (All-nil (IsOwnPart other));
        few = rw none (omega arith);
        once = rw none once;
      };
      each = rw none (All-nil (IsTargetPartBeside other [] parts own));
      stores = rw stores (All-nil (IsStorePart other parts own));
      once = rw (none, stores) once;
    }

pub imported_is_target : (apart : Bool) (source : ℕ) (l : Layout)
    → source < 2
    → IsLayout l
    → IsOwn source l.parts
    → IsTargetBeside (other_slot source) (twins_by apart l.parts) l.parts
    (imported_by apart source l).parts
unfolding imported_by
imported_is_target true source l lt rules own = alone_is_target source l.parts lt
imported_is_target false source l lt rules own = with_twins_is_target source l lt rules own

pub imported_groups_of_slot : (apart : Bool) (source : ℕ) (l : Layout)
    → source < 2
    → groups_of_slot (other_slot source) (imported_by apart source l).groups
    ≡ groups_of_slot source l.groups
unfolding imported_by
imported_groups_of_slot apart source l lt =
    let other : ℕ = other_slot source in
    let own : List Group = own_groups source l.groups in
    let twins : List Group = map (twin_group other) own in
    let test : Group → Bool = λ g. is_of_slot other g.name in
    let limit : Group → List ℕ × ℕ = λ g. (base_of g.name, g.maximum_size) in
    let none : filter test own ≡ [] =
    filter_none test own
    (λ (k : ℕ) (d : Group) le. of_other_slot source _ lt
    (own_groups_named source l.groups k d le)) in
    let all : filter test twins ≡ twins =
    filter_all test twins (twin_groups_named source other l.groups) in
    let last : filter test (stores_group ∷ []) ≡ [] = rw (store_group_of_no_slot other) refl in
    let behind : filter test (twins ++ stores_group ∷ []) ≡ twins =
    filter-append test twins (stores_group ∷ [])
    ∙ ap (λ (s : List Group). filter test twins ++ s) last ∙ append-nil (filter test twins)
    ∙ all in
    let rest : filter test (own ++ (twins ++ stores_group ∷ [])) ≡ twins =
    filter-append test own (twins ++ stores_group ∷ [])
    ∙ ap (λ (s : List Group). s ++ filter test (twins ++ stores_group ∷ [])) none ∙ behind in
    let whole : filter test (default_group ∷ (own ++ (twins ++ stores_group ∷ []))) ≡ twins =
    rw (default_of_no_slot other) rest in
    ap (map limit) whole
    ∙ map_keeps (twin_group other) limit limit
    (λ g. ap (λ (b : List ℕ). (b, g.maximum_size)) (base_of-in_slot other g.name)) own

-- ---- a slot alone

pub own_parts_again : (slot : ℕ) (parts : List Part)
    → own_parts slot (own_parts slot parts) ≡ own_parts slot parts
own_parts_again slot parts =
    filter_all (λ p. is_of_slot slot p.name) (own_parts slot parts) (own_parts_named slot parts)

pub plain_is_own : (slot : ℕ) (l : Layout) → IsOwn slot l.parts → IsOwn slot (plain slot l).parts
unfolding plain
plain_is_own slot l own =
    let is = own_parts_again slot l.parts in record {
      each = subst (λ (ps : List Part). All (IsOwnPart slot) ps) (sym is) own.each;
      few = subst (λ (ps : List Part). length ps ≤ most_partitions) (sym is) own.few;
      once = subst (λ (ps : List Part). IsDistinct (blocks_of_parts ps)) (sym is) own.once;
    }

-- ---- how long the lists are

-- at most twice as many runs
pub imported_runs : (apart : Bool) (source : ℕ) (l : Layout)
    → sum_by (λ p. length (runs_of p.blocks)) (imported_by apart source l).parts
    ≤ 2 * sum_by (λ p. length (runs_of p.blocks)) l.parts
unfolding imported_by
imported_runs true source l =
    let runs : Part → ℕ = λ p. length (runs_of p.blocks) in
    omega (arith, sum_by-filter-le (λ p. is_of_slot source p.name) runs l.parts)
imported_runs false source l =
    let own : List Part = own_parts source l.parts in
    let other : ℕ = other_slot source in
    let runs : Part → ℕ = λ p. length (runs_of p.blocks) in
    omega (
      arith,
      sum_by-append runs own (map (twin_part other) own),
      sum_by-map (twin_part other) runs own,
      sum_by-filter-le (λ p. is_of_slot source p.name) runs l.parts,
    )

-- at most twice as many groups and those of no slot
pub imported_groups_count : (apart : Bool) (source : ℕ) (l : Layout)
    → length (imported_by apart source l).groups ≤ 2 * length l.groups + 2
unfolding imported_by
imported_groups_count apart source l =
    let own : List Group = own_groups source l.groups in
    let twins : List Group = map (twin_group (other_slot source)) own in
    omega (
      arith,
      length-append own (twins ++ stores_group ∷ []),
      length-append twins (stores_group ∷ []),
      length-map own (twin_group (other_slot source)),
      length-filter-le (λ g. is_of_slot source g.name) l.groups,
    )

-- the slot's own partitions
pub plain_parts : (slot : ℕ) (l : Layout) → (plain slot l).parts ≡ own_parts slot l.parts
unfolding plain
plain_parts slot l = refl

pub plain_groups_count : (slot : ℕ) (l : Layout)
    → length (plain slot l).groups ≤ length l.groups + 1
unfolding plain
plain_groups_count slot l = omega (arith, length-filter-le (λ g. is_of_slot slot g.name) l.groups)
