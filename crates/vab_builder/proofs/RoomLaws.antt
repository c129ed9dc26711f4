-- Where what is in use is within the device, there are enough free blocks.
use Rattle.std.proofs.Common.{◌≡◌, ◌≢◌, ℕ, ◌+◌, ◌-◌, ◌≤◌, Bool, true, false, cond, min, List, []}
use Rattle.std.proofs.Common.{◌∷◌, ◌++◌, length, map, take, drop, sum_by, refl, sym, ap, subst, ◌∙◌}
use Rattle.std.proofs.Common.{◌⊎◌, inl, inr, arith, length-append}
use Rattle.std.specs.Prelude.{Contains}
use Rattle.std.specs.Str.{bytes_eq}
use Rattle.std.specs.List.{flat_map}
use Rattle.std.proofs.lemmas.List.{take-append-drop, length-take, length-drop}
use Rattle.std.proofs.lemmas.List.Concat.{length-flat_map}
use Rattle.std.proofs.lemmas.List.Elements.{All-contains, Contains-append_left}
use Rattle.std.proofs.lemmas.List.Elements.{Contains-append_right, Contains-append_cases}
use Rattle.std.proofs.lemmas.List.Folds.{fold-map}
use Rattle.std.proofs.lemmas.List.Kept.{AllPairs-filter}
use Rattle.std.proofs.lemmas.List.Sums.{sum-map, sum_by-cons, sum_by_push}
use Rattle.vab_names.specs.Names.{is_of_slot, is_store, store_of, in_slot}
use Rattle.vab_space.specs.declared.Want.{Want}
use Rattle.vab_space.specs.Space.{growth_of}
use Rattle.vab_tables.specs.Rules.{cap_of, NamesDiffer}
use Rattle.vab_layout.specs.declared.layout.Part.{Part}
use Rattle.vab_layout.specs.declared.layout.Layout.{Layout}
use Rattle.vab_layout.specs.Layout.{blocks_of_parts}
use Rattle.vab_layout.specs.Slots.{other_slot, own_parts, store_parts, blocks_named, before_of}
use Rattle.vab_layout.specs.Slots.{IsTargetPartBeside, IsStorePart}
use Rattle.vab_builder.specs.Sizes.{has_part, want_of, wants_of, wants_resized, wants_stored}
use Rattle.vab_builder.specs.Sizes.{used_by}
use Rattle.vab_builder.specs.Edits.{created_blocks, free_of, kept_blocks, resized_blocks}
use Rattle.vab_blocks.proofs.Contained.{cons_cases, first, later, none_in_nil, of_take, of_drop}
use Rattle.vab_builder.proofs.Counting.{pairs_head}
use Rattle.vab_blocks.proofs.Contained.{of_filter, in_filter, in_piece, some_piece}
use Rattle.vab_builder.proofs.Counting.{pairs_tail, enough_free, free_same}
use Rattle.vab_names.proofs.NameCases.{eq_name, ne_name, store_is_store, in_slot_is}
use Rattle.vab_builder.proofs.PartLaws.{named_cases, named_is, named_own, named_none, named_listed}
use Rattle.vab_builder.specs.Update.{AreTwins, IsUpdateBeside}

-- ---- the same blocks, counted once

abbrev pub source_blocks : ℕ → Layout → List ℕ
source_blocks slot source = blocks_of_parts (own_parts (other_slot slot) source.parts)

abbrev target_blocks : ℕ → Layout → List ℕ
target_blocks slot target =
    blocks_of_parts (own_parts slot target.parts ++ store_parts slot target.parts)

-- the blocks of a partition that are none of the source's
abbrev fresh_of : ℕ → List Part → Part → List ℕ
fresh_of slot twins p = drop (length (before_of slot twins p.name)) p.blocks

abbrev stored_of : List Part → Part → List ℕ
stored_of target p = blocks_named (store_of p.name) target

abbrev counted : ℕ → List Part → Layout → Layout → List ℕ
counted slot twins source target =
    source_blocks slot source
    ++ (flat_map (fresh_of slot twins) (own_parts slot target.parts)
    ++ flat_map (stored_of target.parts) (own_parts slot target.parts))

-- the blocks of one name are blocks of these partitions
listed : (slot : ℕ) (twins : List Part) (name : List ℕ) (b : ℕ)
    → Contains (before_of slot twins name) b
    → Contains (blocks_of_parts (own_parts (other_slot slot) twins)) b
listed slot twins name b c =
    let twin : List ℕ = in_slot (other_slot slot) name in
    named_listed twin (own_parts (other_slot slot) twins) b
    (subst (λ (l : List ℕ). Contains l b)
    (sym (named_own (other_slot slot) twin twins (in_slot_is (other_slot slot) name))) c)

-- blocks of a twin are blocks of the source
pub before_listed : (slot : ℕ) (twins source : List Part) (name : List ℕ) (b : ℕ)
    → AreTwins twins source
    → Contains (before_of slot twins name) b
    → Contains (blocks_of_parts (own_parts (other_slot slot) source)) b
before_listed slot twins source name b are c = elim are [
  | inl all ↦ subst (λ (l : List Part). Contains (blocks_of_parts (own_parts (other_slot slot) l))
      b)
      all (listed slot twins name b c)
  | inr none ↦ absurd (none_in_nil b
      (subst (λ (l : List Part). Contains (before_of slot l name) b) none c))
]

-- a block of a target's partition is one of the source's or a fresh one
pub begun_or_fresh : (slot : ℕ) (twins source target : List Part) (p : Part) (b : ℕ)
    → IsTargetPartBeside slot twins source target p → Contains p.blocks b
    → (Contains (before_of slot twins p.name) b) ⊎ (Contains (fresh_of slot twins p) b)
begun_or_fresh slot twins source target p b is c =
    let k : ℕ = length (before_of slot twins p.name) in
    let both : Contains (take k p.blocks ++ drop k p.blocks) b =
    rw (take-append-drop k p.blocks) c in
    elim (Contains-append_cases (take k p.blocks) (drop k p.blocks) b both) [
      | inl t ↦
          inl (of_take (length p.blocks) (before_of slot twins p.name) b
          (subst (λ (l : List ℕ). Contains l b) is.begins t))
      | inr d ↦ inr d
    ]

counted_listed : (slot : ℕ) (twins : List Part) (source target : Layout) (b : ℕ)
    → IsUpdateBeside slot twins source target
    → Contains (source_blocks slot source ++ target_blocks slot target) b
    → Contains (counted slot twins source target) b
counted_listed slot twins source target b update c =
    let own : List Part = own_parts slot target.parts in
    let stores : List Part = store_parts slot target.parts in
    let old : List ℕ = source_blocks slot source in
    let fresh : List ℕ = flat_map (fresh_of slot twins) own in
    let kept : List ℕ = flat_map (stored_of target.parts) own in
    let from-source : Contains old b
    → Contains (counted slot twins source target) b =
    λ d. Contains-append_left old (fresh ++ kept) b d in
    elim (Contains-append_cases old (target_blocks slot target) b c) [
      | inl d ↦ from-source d
      | inr d ↦
          let r = some_piece (λ p. p.blocks) (own ++ stores) b d in
          elim (Contains-append_cases own stores r.0 r.1) [
            | inl mine ↦
                elim (begun_or_fresh slot twins source.parts target.parts r.0 b
                (All-contains (IsTargetPartBeside slot twins source.parts target.parts) own r.0
                update.parts.each mine) r.2) [
                  | inl begun ↦ from-source (before_listed slot twins source.parts r.0.name b
                      update.twins_are begun)
                  | inr new ↦
                      Contains-append_right old (fresh ++ kept) b
                      (Contains-append_left fresh kept b
                      (in_piece (fresh_of slot twins) own r.0 b mine new))
                ]
            | inr store ↦
                let is =
                All-contains (IsStorePart slot source.parts target.parts) stores r.0
                update.parts.stores store in
                let p : Part = is.of_part.1 in
                let in-own : Contains own p = (is.of_part.0, is.of_part.2, is.of_part.3) in
                let there = (of_filter (λ q. is_store slot q.name) target.parts r.0 store).0 in
                let blocks =
                named_is (store_of p.name) target.parts r.0 update.target_rules.part_names there
                is.of_part.4.0 in
                Contains-append_right old (fresh ++ kept) b
                (Contains-append_right fresh kept b
                (in_piece (stored_of target.parts) own p b in-own
                (subst (λ (l : List ℕ). Contains l b) (sym blocks) r.2)))
          ]
    ]

listed_counted : (slot : ℕ) (twins : List Part) (source target : Layout) (b : ℕ)
    → Contains (counted slot twins source target) b
    → Contains (source_blocks slot source ++ target_blocks slot target) b
listed_counted slot twins source target b c =
    let own : List Part = own_parts slot target.parts in
    let stores : List Part = store_parts slot target.parts in
    let old : List ℕ = source_blocks slot source in
    let fresh : List ℕ = flat_map (fresh_of slot twins) own in
    let kept : List ℕ = flat_map (stored_of target.parts) own in
    let all : List ℕ = target_blocks slot target in
    elim (Contains-append_cases old (fresh ++ kept) b c) [
      | inl d ↦ Contains-append_left old all b d
      | inr d ↦ elim (Contains-append_cases fresh kept b d) [
        | inl new ↦
            let r = some_piece (fresh_of slot twins) own b new in
            Contains-append_right old all b
            (in_piece (λ p. p.blocks) (own ++ stores) r.0 b
            (Contains-append_left own stores r.0 r.1)
            (of_drop (length (before_of slot twins r.0.name)) r.0.blocks b r.2))
        | inr store ↦
            let r = some_piece (stored_of target.parts) own b store in
            elim (named_cases (store_of r.0.name) target.parts) [
              | inl none ↦ absurd (none_in_nil b (subst (λ (l : List ℕ). Contains l b) none r.2))
              | inr s ↦
                  let of = (of_filter (λ q. is_of_slot slot q.name) target.parts r.0 r.1).1 in
                  let in-stores : Contains stores s.0 =
                  in_filter (λ q. is_store slot q.name) target.parts s.0 s.1
                  (ap (is_store slot) s.2 ∙ store_is_store slot r.0.name of) in
                  Contains-append_right old all b
                  (in_piece (λ p. p.blocks) (own ++ stores) s.0 b
                  (Contains-append_right own stores s.0 in-stores)
                  (subst (λ (l : List ℕ). Contains l b) s.3 r.2))
            ]
      ]
    ]

sum_by_same : {X : Type 0} (f g : X → ℕ) (xs : List X) → ((x : X) → f x ≡ g x)
    → sum_by f xs ≡ sum_by g xs
sum_by_same f g [] h = refl
sum_by_same f g (x ∷ xs) h =
    omega (arith, sum_by-cons f x xs, sum_by-cons g x xs, h x, sum_by_same f g xs h)

sum_by-map : {X Y : Type 0} (f : Y → ℕ) (g : X → Y) (xs : List X)
    → sum_by f (map g xs) ≡ sum_by (λ x. f (g x)) xs
sum_by-map f g xs = fold-map (λ a x. a + f x) g 0 xs

counted_long : (slot : ℕ) (twins : List Part) (source target : Layout)
    → length (counted slot twins source target)
    ≡ used_by slot source.parts (wants_of slot twins target.parts)
counted_long slot twins source target =
    let own : List Part = own_parts slot target.parts in
    let w : Part → Want = want_of slot twins target.parts in
    let old : List ℕ = source_blocks slot source in
    let fresh : List ℕ = flat_map (fresh_of slot twins) own in
    let kept : List ℕ = flat_map (stored_of target.parts) own in
    let a = length-flat_map (λ p. p.blocks) (own_parts (other_slot slot) source.parts) in
    let b = sum-map (λ p. length p.blocks) (own_parts (other_slot slot) source.parts) in
    let c = length-flat_map (fresh_of slot twins) own in
    let d =
    sum_by_same (λ p. length (fresh_of slot twins p)) (λ p. growth_of (w p)) own
    (λ p. length-drop (length (before_of slot twins p.name)) p.blocks) in
    let e = sum_by-map growth_of w own in
    let f = length-flat_map (stored_of target.parts) own in
    let g = sum_by-map (λ v. v.store) w own in
    omega (arith, a, b, c, d, e, f, g, length-append old (fresh ++ kept), length-append fresh kept)

-- the free blocks and those in use are the device's
pub room : (slot : ℕ) (twins : List Part) (source target : Layout)
    → IsUpdateBeside slot twins source target
    → cap_of target.device
    ≤ length (free_of slot source target) + used_by slot source.parts
    (wants_of slot twins target.parts)
room slot twins source target update =
    let enough = enough_free (cap_of target.device) (counted slot twins source target) in
    let same =
    free_same (cap_of target.device) (source_blocks slot source ++ target_blocks slot target)
    (counted slot twins source target)
    (λ b. (
      counted_listed slot twins source target b update,
      listed_counted slot twins source target
          b,
    )) in
    omega (arith, enough, ap length same, counted_long slot twins source target)

-- ---- of a new partition

pub create_room : (slot : ℕ) (twins : List Part) (source target : Layout) (before n : ℕ)
    → IsUpdateBeside slot twins source target
    → used_by slot source.parts
    (wants_of slot twins target.parts
    ++ record { before = before; blocks = n; store = 0 } ∷ []) ≤ cap_of target.device
    → n - before ≤ length (free_of slot source target)
create_room slot twins source target before n update used =
    let wants : List Want = wants_of slot twins target.parts in
    let new : Want = record { before = before; blocks = n; store = 0 } in
    omega (
      arith,
      used,
      room slot twins source target update,
      sum_by_push growth_of wants new,
      sum_by_push
          (λ v. v.store) wants new,
    )

-- ---- of one that is changed

sum_none : (f g : Part → ℕ) (name : List ℕ) (parts : List Part)
    → ((q : Part) → Contains parts q → q.name ≡ name → ⊥)
    → sum_by (λ q. cond (bytes_eq q.name name) (g q) (f q)) parts ≡ sum_by f parts
sum_none f g name [] none = refl
sum_none f g name (q ∷ ps) none =
    let h : Part → ℕ = λ p. cond (bytes_eq p.name name) (g p) (f p) in
    let no : bytes_eq q.name name ≡ false = ne_name q.name name (none q (first q ps)) in
    let here : h q ≡ f q = rw no refl in
    omega (
      arith,
      sum_by-cons h q ps,
      sum_by-cons f q ps,
      here,
      sum_none f g name ps
          (λ p c e. none p (later q ps p c) e),
    )

sum_one : (f g : Part → ℕ) (name : List ℕ) (parts : List Part) (p : Part)
    → NamesDiffer (λ q. q.name) parts → Contains parts p → p.name ≡ name
    → sum_by (λ q. cond (bytes_eq q.name name) (g q) (f q)) parts + f p ≡ sum_by f parts + g p
sum_one f g name [] p differ c e = absurd (none_in_nil p c)
sum_one f g name (q ∷ ps) p differ c e =
    let h : Part → ℕ = λ x. cond (bytes_eq x.name name) (g x) (f x) in
    let head = pairs_head (λ a b. a.name ≢ b.name) q ps differ in
    let tail = pairs_tail (λ a b. a.name ≢ b.name) q ps differ in
    elim (cons_cases q ps p c) [
      | inl qp ↦
          let yes : bytes_eq q.name name ≡ true =
          eq_name q.name name (ap (λ (x : Part). x.name) qp ∙ e) in
          let here : h q ≡ g q = rw yes refl in
          let rest =
          sum_none f g name ps
          (λ r d rn. All-contains (λ b. q.name ≢ b.name) ps r head d
          (ap (λ (x : Part). x.name) qp ∙ e ∙ sym rn)) in
          omega (arith, sum_by-cons h q ps, sum_by-cons f q ps, here, rest, ap f qp, ap g qp)
      | inr d ↦
          let no : bytes_eq q.name name ≡ false =
          ne_name q.name name
          (λ qn. All-contains (λ b. q.name ≢ b.name) ps p head d (qn ∙ sym e)) in
          let here : h q ≡ f q = rw no refl in
          omega (
            arith,
            sum_by-cons h q ps,
            sum_by-cons f q ps,
            here,
            sum_one f g name ps p tail d
                e,
          )
    ]

own_differ : (slot : ℕ) (target : Layout) → NamesDiffer (λ q. q.name) target.parts
    → NamesDiffer (λ q. q.name) (own_parts slot target.parts)
own_differ slot target differ =
    AllPairs-filter (λ a b. a.name ≢ b.name) (λ q. is_of_slot slot q.name) target.parts differ

resized_growth : (b : Bool) (w : Want) (n : ℕ)
    → growth_of (cond b (record w { blocks = n }) w) ≡ cond b (n - w.before) (growth_of w)
resized_growth true w n = refl
resized_growth false w n = refl

resized_store : (b : Bool) (w : Want) (n : ℕ) → (cond b (record w { blocks = n }) w).store ≡ w.store
resized_store true w n = refl
resized_store false w n = refl

stored_growth : (b : Bool) (w : Want) (n : ℕ)
    → growth_of (cond b (record w { store = n }) w) ≡ growth_of w
stored_growth true w n = refl
stored_growth false w n = refl

stored_store : (b : Bool) (w : Want) (n : ℕ)
    → (cond b (record w { store = n }) w).store ≡ cond b n w.store
stored_store true w n = refl
stored_store false w n = refl

-- what another size adds to what is in use
pub resized_more : (slot : ℕ) (twins : List Part) (source target : Layout) (name : List ℕ) (n : ℕ)
    (p : Part)
    → IsUpdateBeside slot twins source target → Contains (own_parts slot target.parts) p
    → p.name ≡ name
    → used_by slot source.parts
    (wants_resized slot twins target.parts name n)
    + (length p.blocks - length (before_of slot twins p.name))
    ≡ used_by slot source.parts
    (wants_of slot twins target.parts) + (n - length (before_of slot twins p.name))
resized_more slot twins source target name n p update c e =
    let own : List Part = own_parts slot target.parts in
    let w : Part → Want = want_of slot twins target.parts in
    let v : Part → Want = λ q. cond (bytes_eq q.name name) (record (w q) { blocks = n }) (w q) in
    let a = sum_by-map growth_of v own in
    let b =
    sum_by_same (λ q. growth_of (v q))
    (λ q. cond (bytes_eq q.name name) (n - (w q).before) (growth_of (w q))) own
    (λ q. resized_growth (bytes_eq q.name name) (w q) n) in
    let d =
    sum_one (λ q. growth_of (w q)) (λ q. n - (w q).before) name own p
    (own_differ slot target update.target_rules.part_names) c e in
    let f = sum_by-map growth_of w own in
    let g = sum_by-map (λ u. u.store) v own in
    let h =
    sum_by_same (λ q. (v q).store) (λ q. (w q).store) own
    (λ q. resized_store (bytes_eq q.name name) (w q) n) in
    let i = sum_by-map (λ u. u.store) w own in
    omega (arith, a, b, d, f, g, h, i)

pub length-kept_blocks : (before blocks : List ℕ) (n : ℕ)
    → length (kept_blocks before blocks n)
    ≡ min n (length before) + min (n - length before) (length blocks - length before)
length-kept_blocks before blocks n =
    omega (
      arith,
      length-append (take n before)
          (take (n - length before) (drop (length before) blocks)),
      length-take n before,
      length-take
          (n - length before) (drop (length before) blocks),
      length-drop (length before) blocks,
    )

pub resize_room : (slot : ℕ) (twins : List Part) (source target : Layout) (name : List ℕ) (n : ℕ)
    (p : Part)
    → IsUpdateBeside slot twins source target → Contains (own_parts slot target.parts) p
    → p.name ≡ name
    → used_by slot source.parts (wants_resized slot twins target.parts name n)
    ≤ cap_of target.device
    → n - length (kept_blocks (before_of slot twins p.name) p.blocks n)
    ≤ length (free_of slot source target)
resize_room slot twins source target name n p update c e used =
    omega (
      arith,
      used,
      room slot twins source target update,
      resized_more slot twins source target name n p
          update c e,
      length-kept_blocks (before_of slot twins p.name) p.blocks n,
    )

-- what a store of so many blocks adds
pub stored_more : (slot : ℕ) (twins : List Part) (source target : Layout) (name : List ℕ) (n : ℕ)
    (p : Part)
    → IsUpdateBeside slot twins source target → Contains (own_parts slot target.parts) p
    → p.name ≡ name
    → has_part (store_of name) target.parts ≡ false
    → used_by slot source.parts (wants_stored slot twins target.parts name n)
    ≡ used_by slot source.parts (wants_of slot twins target.parts) + n
stored_more slot twins source target name n p update c e plain =
    let own : List Part = own_parts slot target.parts in
    let w : Part → Want = want_of slot twins target.parts in
    let v : Part → Want = λ q. cond (bytes_eq q.name name) (record (w q) { store = n }) (w q) in
    let a = sum_by-map growth_of v own in
    let b =
    sum_by_same (λ q. growth_of (v q)) (λ q. growth_of (w q)) own
    (λ q. stored_growth (bytes_eq q.name name) (w q) n) in
    let d = sum_by-map growth_of w own in
    let f = sum_by-map (λ u. u.store) v own in
    let g =
    sum_by_same (λ q. (v q).store) (λ q. cond (bytes_eq q.name name) n (w q).store) own
    (λ q. stored_store (bytes_eq q.name name) (w q) n) in
    let h =
    sum_one (λ q. (w q).store) (λ q. n) name own p
    (own_differ slot target update.target_rules.part_names) c e in
    let i = sum_by-map (λ u. u.store) w own in
    let none : (w p).store ≡ 0 =
    ap (λ (m : List ℕ). length (blocks_named (store_of m) target.parts)) e
    ∙ ap length (named_none (store_of name) target.parts plain) in
    omega (arith, a, b, d, f, g, h, i, none)

pub store_room : (slot : ℕ) (twins : List Part) (source target : Layout) (name : List ℕ) (n : ℕ)
    (p : Part)
    → IsUpdateBeside slot twins source target → Contains (own_parts slot target.parts) p
    → p.name ≡ name
    → has_part (store_of name) target.parts ≡ false
    → used_by slot source.parts (wants_stored slot twins target.parts name n)
    ≤ cap_of target.device → n ≤ length (free_of slot source target)
store_room slot twins source target name n p update c e plain used =
    omega (
      arith,
      used,
      room slot twins source target update,
      stored_more slot twins source target name n p
          update c e plain,
    )

-- ---- so each partition and each store has as many blocks as it was asked to have

pub created_size : (slot : ℕ) (twins : List Part) (source target : Layout) (name : List ℕ) (n : ℕ)
    → IsUpdateBeside slot twins source target
    → used_by slot source.parts
    (wants_of slot twins target.parts
    ++ record { before = length (before_of slot twins name); blocks = n; store = 0 } ∷ [])
    ≤ cap_of target.device → length (created_blocks slot twins source target name n) ≡ n
created_size slot twins source target name n update used =
    let before : List ℕ = before_of slot twins name in
    let free : List ℕ = free_of slot source target in
    let enough = create_room slot twins source target (length before) n update used in
    omega (
      arith,
      enough,
      length-append (take n before) (take (n - length before) free),
      length-take
          n before,
      length-take (n - length before) free,
    )

pub resized_size : (slot : ℕ) (twins : List Part) (source target : Layout) (name : List ℕ) (n : ℕ)
    (p : Part)
    → IsUpdateBeside slot twins source target → Contains (own_parts slot target.parts) p
    → p.name ≡ name
    → used_by slot source.parts (wants_resized slot twins target.parts name n)
    ≤ cap_of target.device → length (resized_blocks slot twins source target p n) ≡ n
resized_size slot twins source target name n p update c e used =
    let kept : List ℕ = kept_blocks (before_of slot twins p.name) p.blocks n in
    let free : List ℕ = free_of slot source target in
    let enough = resize_room slot twins source target name n p update c e used in
    omega (
      arith,
      enough,
      length-append kept (take (n - length kept) free),
      length-take
          (n - length kept) free,
      length-kept_blocks (before_of slot twins p.name) p.blocks n,
    )

pub stored_size : (slot : ℕ) (twins : List Part) (source target : Layout) (name : List ℕ) (n : ℕ)
    (p : Part)
    → IsUpdateBeside slot twins source target → Contains (own_parts slot target.parts) p
    → p.name ≡ name
    → has_part (store_of name) target.parts ≡ false
    → used_by slot source.parts (wants_stored slot twins target.parts name n)
    ≤ cap_of target.device → length (take n (free_of slot source target)) ≡ n
stored_size slot twins source target name n p update c e plain used =
    omega (
      arith,
      store_room slot twins source target name n p update c e plain used,
      length-take n
          (free_of slot source target),
    )
