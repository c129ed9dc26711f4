-- Laws that the edits share: runs, groups, and blocks that a target may take.
use Rattle.std.proofs.Common.{◌≡◌, ◌≢◌, ℕ, ◌+◌, ◌<◌, ◌≤◌, Bool, true, false, cond, eqb, List, []}
use Rattle.std.proofs.Common.{◌∷◌, ◌++◌, length, map, drop, refl, sym, ap, subst, ◌∙◌, inl, inr}
use Rattle.std.proofs.Common.{arith, length-append}
use Rattle.std.specs.Prelude.{All, Any, Contains, IsTrue}
use Rattle.std.specs.Str.{bytes_eq}
use Rattle.std.specs.List.{filter, list_any}
use Rattle.std.proofs.lemmas.Bool.{cases_Bool, both_ways}
use Rattle.std.proofs.lemmas.List.{append-nil}
use Rattle.std.proofs.lemmas.List.Concat.{flat_map-append}
use Rattle.std.proofs.lemmas.List.Elements.{All-contains, All-push, filter-append}
use Rattle.std.proofs.lemmas.List.Elements.{Contains-append_left, Contains-append_right}
use Rattle.std.proofs.lemmas.List.Folds.{list_any_at, Any-from_list_any}
use Rattle.std.proofs.lemmas.List.Quantifiers.{all_pairs_push}
use Rattle.vab_names.specs.Names.{is_of_slot, base_of, in_slot, store_of, most_partitions}
use Rattle.vab_blocks.proofs.BlockLaws.{is_free, free_ascends}
use Rattle.vab_tables.specs.declared.entries.Group.{Group}
use Rattle.vab_tables.specs.Rules.{cap_of, IsGroup, NamesDiffer}
use Rattle.vab_layout.specs.declared.layout.Part.{Part}
use Rattle.vab_layout.specs.declared.layout.Layout.{Layout}
use Rattle.vab_blocks.specs.Runs.{in_front, runs_of}
use Rattle.vab_layout.specs.Layout.{blocks_of_parts}
use Rattle.vab_layout.specs.Rules.{names_of_groups, IsPart}
use Rattle.vab_layout.specs.Slots.{other_slot, own_parts, store_parts, before_of, groups_of_slot}
use Rattle.vab_layout.specs.Slots.{is_updated, IsDistinct, IsOwn, IsOwnPart, IsTargetBeside}
use Rattle.vab_layout.specs.Slots.{IsTargetPartBeside}
use Rattle.vab_layout.specs.Slots.{IsStorePart}
use Rattle.vab_builder.specs.Edits.{free_of, with_group}
use Rattle.vab_blocks.proofs.Contained.{first, in_map, of_map, in_piece, none_in_nil, of_filter}
use Rattle.vab_builder.proofs.Counting.{pairs_left, pieces_once, once_ascending}
use Rattle.vab_names.proofs.NameCases.{same_name, eq_name, in_slot_is, in_slot_same}
use Rattle.vab_builder.proofs.PartLaws.{named_cases, named_own, names_apart}
use Rattle.vab_builder.proofs.RoomLaws.{before_listed, begun_or_fresh}
use Rattle.vab_builder.specs.Update.{IsUpdateBeside}
use Rattle.vab_builder.proofs.TwinLaws.{twins_in, twins_own}

-- ---- runs

joined_few : (same : Bool) (b first count : ℕ) (runs : List (ℕ × ℕ))
    → length (cond same ((b, count + 1) ∷ runs) ((b, 1) ∷ (first, count) ∷ runs)) ≤ length runs + 2
joined_few true b first count runs = omega arith
joined_few false b first count runs = omega arith

front_few : (b : ℕ) (runs : List (ℕ × ℕ)) → length (in_front b runs) ≤ length runs + 1
front_few b [] = omega arith
front_few b ((first, count) ∷ runs) =
    omega (arith, joined_few (eqb first (b + 1)) b first count runs)

pub runs_few : (blocks : List ℕ) → length (runs_of blocks) ≤ length blocks
unfolding runs_of
runs_few [] = omega arith
runs_few (b ∷ blocks) = omega (arith, runs_few blocks, front_few b (runs_of blocks))

-- ---- groups

pub record KeepsGroups (slot : ℕ) (groups after : List Group) : Type 0 where
  pub kept : (name : List ℕ) → Contains (names_of_groups groups) name
      → Contains (names_of_groups after) name
  pub each : All IsGroup after
  pub differ : NamesDiffer (λ g. g.name) after
  pub of_slot : groups_of_slot slot after ≡ groups_of_slot slot groups
  pub few : length after ≤ length groups + 1

pub same_groups : (slot : ℕ) (groups : List Group) → All IsGroup groups
    → NamesDiffer (λ g. g.name) groups → KeepsGroups slot groups groups
same_groups slot groups each differ =
    record { kept = λ name c. c; each = each; differ = differ; of_slot = refl; few = omega arith }

pub more_groups : (slot : ℕ) (groups : List Group) (g : Group) → All IsGroup groups
    → NamesDiffer (λ h. h.name) groups → IsGroup g → is_of_slot slot g.name ≡ false
    → KeepsGroups slot groups (with_group g groups)
more_groups slot groups g each differ is other =
    elim (cases_Bool (list_any (λ h. bytes_eq h.name g.name) groups)) [
      | inl there ↦ rw there (same_groups slot groups each differ)
      | inr absent ↦
          let none : List Group = [] in
          let out : filter (λ h. is_of_slot slot h.name) (g ∷ none) ≡ none = rw other refl in
          let own = filter-append (λ h. is_of_slot slot h.name) groups (g ∷ none)
          ∙ ap (λ (l : List Group). filter (λ h. is_of_slot slot h.name) groups ++ l) out
          ∙ append-nil (filter (λ h. is_of_slot slot h.name) groups) in
          rw absent (record {
            kept = λ name c. let r = of_map (λ h. h.name) groups name c in
                subst (Contains (names_of_groups (groups ++ g ∷ []))) r.2
                (in_map (λ h. h.name) (groups ++ g ∷ []) r.0
                (Contains-append_left groups (g ∷ []) r.0 r.1));
            each = All-push IsGroup groups g each is;
            differ =
                all_pairs_push (λ a b. a.name ≢ b.name) groups g differ
                (λ k d lt same. both_ways (list_any (λ h. bytes_eq h.name g.name) groups) absent
                (list_any_at (λ h. bytes_eq h.name g.name) groups k d lt (eq_name _ _ same)));
            of_slot = ap (λ (l : List Group). map (λ h. (base_of h.name, h.maximum_size)) l) own;
            few = omega (arith, length-append groups (g ∷ []));
          })
    ]

pub group_there : (g : Group) (groups : List Group)
    → Contains (names_of_groups (with_group g groups)) g.name
group_there g groups = elim (cases_Bool (list_any (λ h. bytes_eq h.name g.name) groups)) [
  | inl there ↦
      let a = Any-from_list_any (λ h. bytes_eq h.name g.name) groups there in
      rw there
      (subst (Contains (names_of_groups groups)) (same_name a.1.name g.name a.4)
      (in_map (λ h. h.name) groups a.1 (a.0, a.2, a.3)))
  | inr absent ↦
      rw absent
      (in_map (λ h. h.name) (groups ++ g ∷ []) g
      (Contains-append_right groups (g ∷ []) g (first g [])))
]

pub part_in : (slot cap : ℕ) (groups after : List Group) (p : Part) → KeepsGroups slot groups after
    → IsPart cap groups p → IsPart cap after p
part_in slot cap groups after p keeps is =
    record {
      name = is.name;
      attributes = is.attributes;
      small = is.small;
      group =
          keeps.kept p.group is.group;
      blocks = is.blocks;
    }

-- ---- blocks that a partition of the target may take

-- the blocks of the source's partition of a base name stand once
pub before_once : (slot : ℕ) (twins : List Part) (name : List ℕ) → IsOwn (other_slot slot) twins
    → IsDistinct (before_of slot twins name)
before_once slot twins name own =
    let twin : List ℕ = in_slot (other_slot slot) name in
    let mine : List Part = own_parts (other_slot slot) twins in
    subst IsDistinct (named_own (other_slot slot) twin twins (in_slot_is (other_slot slot) name))
    (elim (named_cases twin mine) [
      | inl none ↦ rw none (λ i j d ij lj. absurd (omega arith))
      | inr r ↦
          rw r.3 (All-contains (λ q. IsDistinct q.blocks) mine r.0
          (pieces_once (λ q. q.blocks) mine own.once) r.1)
    ])

-- and lie on the device
pub before_below : (slot : ℕ) (twins : List Part) (source target : Layout) (name : List ℕ) (b : ℕ)
    → IsUpdateBeside slot twins source target → Contains (before_of slot twins name) b
    → b < cap_of target.device
before_below slot twins source target name b update c =
    elim (named_cases (in_slot (other_slot slot) name) twins) [
      | inl none ↦ absurd (none_in_nil b (subst (λ (l : List ℕ). Contains l b) none c))
      | inr r ↦
          let is =
          All-contains (IsPart (cap_of source.device) source.groups) source.parts r.0
          update.source_rules.parts
          (twins_in twins source.parts r.0 update.twins_are r.1) in
          let lt : b < cap_of source.device =
          All-contains (λ x. x < cap_of source.device) r.0.blocks b is.blocks
          (subst (λ (l : List ℕ). Contains l b) r.3 c) in
          subst (λ (d : _). b < cap_of d) update.device lt
    ]

pub free_below_cap : (slot : ℕ) (source target : Layout) (b : ℕ)
    → Contains (free_of slot source target) b → b < cap_of target.device
free_below_cap slot source target b c =
    ((is_free (cap_of target.device)
    (blocks_of_parts (own_parts (other_slot slot) source.parts)
    ++ blocks_of_parts (own_parts slot target.parts ++ store_parts slot target.parts)) b).0 c).0

free_not_taken : (slot : ℕ) (source target : Layout) (b : ℕ)
    → Contains (free_of slot source target) b
    → Contains
    (blocks_of_parts (own_parts (other_slot slot) source.parts)
    ++ blocks_of_parts (own_parts slot target.parts ++ store_parts slot target.parts)) b → ⊥
free_not_taken slot source target b c =
    ((is_free (cap_of target.device)
    (blocks_of_parts (own_parts (other_slot slot) source.parts)
    ++ blocks_of_parts (own_parts slot target.parts ++ store_parts slot target.parts)) b).0 c).1

pub free_not_source : (slot : ℕ) (source target : Layout) (b : ℕ)
    → Contains (free_of slot source target) b
    → Contains (blocks_of_parts (own_parts (other_slot slot) source.parts)) b → ⊥
free_not_source slot source target b c d =
    free_not_taken slot source target b c
    (Contains-append_left (blocks_of_parts (own_parts (other_slot slot) source.parts))
    (blocks_of_parts (own_parts slot target.parts ++ store_parts slot target.parts)) b d)

pub free_not_target : (slot : ℕ) (source target : Layout) (q : Part) (b : ℕ)
    → Contains (own_parts slot target.parts ++ store_parts slot target.parts) q
    → Contains (free_of slot source target) b → Contains q.blocks b → ⊥
free_not_target slot source target q b inside c d =
    free_not_taken slot source target b c
    (Contains-append_right (blocks_of_parts (own_parts (other_slot slot) source.parts))
    (blocks_of_parts (own_parts slot target.parts ++ store_parts slot target.parts)) b
    (in_piece (λ p. p.blocks) (own_parts slot target.parts ++ store_parts slot target.parts) q b
    inside d))

pub free_once : (slot : ℕ) (source target : Layout) → IsDistinct (free_of slot source target)
free_once slot source target =
    once_ascending (free_of slot source target)
    (free_ascends (cap_of target.device)
    (blocks_of_parts (own_parts (other_slot slot) source.parts)
    ++ blocks_of_parts (own_parts slot target.parts ++ store_parts slot target.parts)))

-- the source's blocks of one base name are in no target's partition of another
pub before_not_own : (slot : ℕ) (twins : List Part) (source target : Layout) (name : List ℕ)
    (q : Part) (b : ℕ)
    → IsUpdateBeside slot twins source target → is_of_slot slot name ≡ true
    → Contains (own_parts slot target.parts) q → (q.name ≡ name → ⊥)
    → Contains (before_of slot twins name) b → Contains q.blocks b → ⊥
before_not_own slot twins source target name q b update of inside ne c d =
    let other : ℕ = other_slot slot in
    let mine : List Part = own_parts other source.parts in
    let own = twins_own other twins source.parts update.twins_are update.own in
    let is =
    All-contains (IsTargetPartBeside slot twins source.parts target.parts)
    (own_parts slot target.parts) q
    update.parts.each inside in
    let of-q = (of_filter (λ p. is_of_slot slot p.name) target.parts q inside).1 in
    elim (begun_or_fresh slot twins source.parts target.parts q b is d) [
      | inl begun ↦
          let differ : in_slot other q.name ≡ in_slot other name
          → ⊥ = λ e. ne (in_slot_same slot other q.name name of-q of e) in
          let apart =
          names_apart (in_slot other q.name) (in_slot other name) (own_parts other twins) differ
          own.once in
          apart b
          (subst (λ (l : List ℕ). Contains l b)
          (sym (named_own other (in_slot other q.name) twins (in_slot_is other q.name)))
          begun)
          (subst (λ (l : List ℕ). Contains l b)
          (sym (named_own other (in_slot other name) twins (in_slot_is other name))) c)
      | inr fresh ↦
          All-contains (λ x. Contains (blocks_of_parts mine) x
          → ⊥) (drop (length (before_of slot twins q.name)) q.blocks) b is.fresh fresh
          (before_listed slot twins source.parts name b update.twins_are c)
    ]

-- nor in a store
pub before_not_store : (slot : ℕ) (twins : List Part) (source target : Layout) (name : List ℕ)
    (s : Part) (b : ℕ)
    → IsUpdateBeside slot twins source target → Contains (store_parts slot target.parts) s
    → Contains (before_of slot twins name) b → Contains s.blocks b → ⊥
before_not_store slot twins source target name s b update inside c d =
    let is =
    All-contains (IsStorePart slot source.parts target.parts) (store_parts slot target.parts) s
    update.parts.stores inside in
    All-contains (λ x. Contains (blocks_of_parts (own_parts (other_slot slot) source.parts)) x
    → ⊥) s.blocks b is.apart d (before_listed slot twins source.parts name b update.twins_are c)

-- ---- a target

pub target_made : (slot : ℕ) (twins source parts : List Part)
    → All (IsOwnPart slot) (own_parts slot parts) → length (own_parts slot parts) ≤ most_partitions
    → All (IsTargetPartBeside slot twins source parts) (own_parts slot parts)
    → All (IsStorePart slot source parts) (store_parts slot parts)
    → IsDistinct (blocks_of_parts (own_parts slot parts ++ store_parts slot parts))
    → IsTargetBeside slot twins source parts
target_made slot twins source parts own few each stores once =
    let split =
    subst IsDistinct
    (flat_map-append (λ p. p.blocks) (own_parts slot parts) (store_parts slot parts)) once in
    record {
      own = record {
        each = own;
        few = few;
        once =
            pairs_left (λ a b. a ≢ b) (blocks_of_parts (own_parts slot parts))
            (blocks_of_parts (store_parts slot parts)) split;
      };
      each = each;
      stores = stores;
      once = once;
    }

pub target_part_among : (slot : ℕ) (twins source parts after : List Part) (p : Part)
    → IsTargetPartBeside slot twins source parts p
    → (All (λ s. s.name ≢ store_of p.name) parts → All (λ s. s.name ≢ store_of p.name) after)
    → IsTargetPartBeside slot twins source after p
target_part_among slot twins source parts after p is still = record {
  begins = is.begins;
  fresh = is.fresh;
  kept = elim is.kept [
    | inl updated ↦ inl updated
    | inr k ↦ inr (k.0, k.1, still k.2)
  ];
}

pub store_part_among : (slot : ℕ) (source parts after : List Part) (s : Part)
    → IsStorePart slot source parts s
    → (Any (λ p. (s.name ≡ store_of p.name) × IsTrue (is_updated p)) (own_parts slot parts)
    → Any (λ p. (s.name ≡ store_of p.name) × IsTrue (is_updated p)) (own_parts slot after))
    → IsStorePart slot source after s
store_part_among slot source parts after s is still =
    record { group = is.group; of_part = still is.of_part; apart = is.apart }
