-- The target with a partition more keeps the rules.
use Rattle.std.proofs.Common.{◌≡◌, ◌≢◌, ℕ, ◌-◌, ◌^◌, ◌<◌, ◌≤◌, true, false, ◌||◌, cond, List, []}
use Rattle.std.proofs.Common.{◌∷◌, ◌++◌, length, get_or, take, drop, refl, sym, ap, subst, ◌∙◌, ◌⊎◌}
use Rattle.std.proofs.Common.{inl, inr, arith, length-append}
use Rattle.std.specs.Prelude.{All, AllPairs, Any, Contains, IsTrue}
use Rattle.std.specs.Str.{bytes_eq}
use Rattle.std.proofs.lemmas.Bool.{cases_Bool, cases_lt, or_right, cond_both, false_from_ne_true}
use Rattle.std.proofs.lemmas.List.{append-nil, length-take, take_all, drop_all, take_at, drop_at}
use Rattle.std.proofs.lemmas.List.Elements.{All-contains, All-weaker, All-nil, All-push}
use Rattle.std.proofs.lemmas.List.Elements.{filter-append, Contains-get_or, Contains-append_left}
use Rattle.std.proofs.lemmas.List.Elements.{Contains-append_right, Contains-append_cases}
use Rattle.std.proofs.lemmas.List.Quantifiers.{all_pairs_push}
use Rattle.std.proofs.lemmas.List.Sums.{sum_by_push}
use Rattle.vab_names.specs.Names.{is_of_slot, is_store, store_of, default_name, most_partitions}
use Rattle.vab_space.specs.Space.{blocks_of}
use Rattle.vab_tables.specs.declared.entries.Group.{Group}
use Rattle.vab_tables.specs.Rules.{cap_of, IsGroup, is_shared, has_slot}
use Rattle.vab_bytes.specs.Name.{is_name}
use Rattle.vab_layout.specs.declared.layout.Part.{Part}
use Rattle.vab_layout.specs.declared.layout.Layout.{Layout}
use Rattle.vab_blocks.specs.Runs.{runs_of}
use Rattle.vab_layout.specs.Layout.{blocks_of_parts}
use Rattle.vab_layout.specs.Rules.{names_of_groups, IsPart}
use Rattle.vab_layout.specs.Slots.{other_slot, own_parts, store_parts, before_of, is_updated}
use Rattle.vab_layout.specs.Slots.{IsDistinct, IsOwnPart, IsTargetBeside, IsTargetPartBeside}
use Rattle.vab_layout.specs.Slots.{IsStorePart}
use Rattle.vab_layout.specs.Plain.{default_group, own_groups}
use Rattle.vab_builder.specs.Sizes.{has_part}
use Rattle.vab_builder.specs.Edits.{free_of, created_blocks, created_part, first_group}
use Rattle.vab_builder.specs.Edits.{with_created, with_group}
use Rattle.vab_blocks.proofs.Contained.{all_from, first, cons_cases, none_in_nil, of_take}
use Rattle.vab_blocks.proofs.Contained.{of_filter}
use Rattle.vab_builder.proofs.Counting.{pairs_append, pairs_left, pairs_right, pairs_across}
use Rattle.vab_blocks.proofs.Contained.{in_map}
use Rattle.vab_builder.proofs.Counting.{Apart, once_append, once_take, once_pieces, pieces_once}
use Rattle.vab_builder.proofs.Counting.{pieces_apart}
use Rattle.vab_names.proofs.NameCases.{same_name, full_slot, full_base, full_named, own_or_store}
use Rattle.vab_names.proofs.NameCases.{store_not_own, default_not_own}
use Rattle.vab_builder.proofs.PartLaws.{part_absent}
use Rattle.vab_builder.proofs.RoomLaws.{before_listed}
use Rattle.vab_builder.proofs.KeepLaws.{runs_few, KeepsGroups, same_groups, more_groups}
use Rattle.vab_builder.proofs.KeepLaws.{group_there}
use Rattle.vab_builder.proofs.KeepLaws.{part_in, before_once, before_below, before_not_own}
use Rattle.vab_builder.proofs.KeepLaws.{before_not_store, free_below_cap, free_not_source}
use Rattle.vab_builder.proofs.KeepLaws.{free_not_target, free_once, target_made, target_part_among}
use Rattle.vab_builder.proofs.KeepLaws.{store_part_among}
use Rattle.vab_builder.proofs.Keeps.{Keeps}
use Rattle.vab_builder.specs.Update.{IsUpdateBeside}
use Rattle.vab_builder.proofs.TwinLaws.{twins_own}
use Rattle.vab_builder.specs.Passes.{IsCreated}

-- ---- its blocks

created_cases : (slot : ℕ) (twins : List Part) (source target : Layout) (name : List ℕ) (n b : ℕ)
    → Contains (created_blocks slot twins source target name n) b
    → (Contains (before_of slot twins name) b) ⊎ (Contains (free_of slot source target) b)
created_cases slot twins source target name n b c =
    let before : List ℕ = before_of slot twins name in
    let free : List ℕ = free_of slot source target in
    elim (Contains-append_cases (take n before) (take (n - length before) free) b c) [
      | inl d ↦ inl (of_take n before b d)
      | inr d ↦ inr (of_take (n - length before) free b d)
    ]

created_few : (slot : ℕ) (twins : List Part) (source target : Layout) (name : List ℕ) (n : ℕ)
    → length (created_blocks slot twins source target name n) ≤ n
created_few slot twins source target name n =
    let before : List ℕ = before_of slot twins name in
    let free : List ℕ = free_of slot source target in
    omega (
      arith,
      length-append (take n before) (take (n - length before) free),
      length-take n
          before,
      length-take (n - length before) free,
    )

created_once : (slot : ℕ) (twins : List Part) (source target : Layout) (name : List ℕ) (n : ℕ)
    → IsUpdateBeside slot twins source target
    → IsDistinct (created_blocks slot twins source target name n)
created_once slot twins source target name n update =
    let before : List ℕ = before_of slot twins name in
    let free : List ℕ = free_of slot source target in
    once_append (take n before) (take (n - length before) free)
    (once_take n before (before_once slot twins name
    (twins_own (other_slot slot) twins source.parts update.twins_are update.own)))
    (once_take (n - length before) free (free_once slot source target))
    (λ b c d. free_not_source slot source target b (of_take (n - length before) free b d)
    (before_listed slot twins source.parts name b update.twins_are (of_take n before b c)))

pub le_cases : (m n : ℕ) → (m ≤ n) ⊎ (n < m)
le_cases m n = elim (cases_lt n m) [ inl lt ↦ inr lt | inr le ↦ inl le ]

-- blocks that begin so: those of a list, as many as there are, and then others
pub begins_so : (before rest : List ℕ) (n : ℕ) → (n ≤ length before → rest ≡ [])
    → take (length before) (take n before ++ rest) ≡ take (length (take n before ++ rest)) before
begins_so before rest n short = elim (le_cases n (length before)) [
  | inl le ↦
      let none = short le in
      let whole : take n before ++ rest ≡ take n before =
      ap (λ (l : List ℕ). take n before ++ l) none ∙ append-nil (take n before) in
      let long : length (take n before) ≡ n = omega (arith, length-take n before, le) in
      let left : take (length before) (take n before) ≡ take n before =
      take_all (length before) (take n before) (omega (arith, long, le)) in
      rw whole (left ∙ ap (λ (k : ℕ). take k before) (sym long))
  | inr more ↦
      let all : take n before ≡ before = take_all n before (omega (arith, more)) in
      let long = length-append before rest in
      rw all (take_at before rest (length before) refl
      ∙ sym (take_all (length (before ++ rest)) before (omega (arith, long))))
]

pub behind_so : (before rest : List ℕ) (n : ℕ) → (n ≤ length before → rest ≡ []) → (P : ℕ → Type 0)
    → All P rest → All P (drop (length before) (take n before ++ rest))
behind_so before rest n short P all = elim (le_cases n (length before)) [
  | inl le ↦
      let none = short le in
      let whole : take n before ++ rest ≡ take n before =
      ap (λ (l : List ℕ). take n before ++ l) none ∙ append-nil (take n before) in
      let left : drop (length before) (take n before) ≡ [] =
      drop_all (length before) (take n before) (omega (arith, length-take n before)) in
      rw (whole, left) (All-nil P)
  | inr more ↦
      let front : take n before ≡ before = take_all n before (omega (arith, more)) in
      rw (front, drop_at before rest (length before) refl) all
]

none_taken : (n k : ℕ) (xs : List ℕ) → n ≤ k → take (n - k) xs ≡ []
none_taken n k xs le = let z : n - k ≡ 0 = omega (arith, le) in rw z refl

-- ---- its group

first_fits : (slot : ℕ) (own : List Group)
    → ((g : Group) → Contains own g → is_of_slot slot g.name ≡ true)
    → IsTrue (bytes_eq (first_group own) default_name || is_of_slot slot (first_group own))
first_fits slot [] of = refl
first_fits slot (g ∷ gs) of =
    or_right (bytes_eq g.name default_name) (is_of_slot slot g.name) (of g (first g gs))

group_fits : (slot : ℕ) (groups : List Group)
    → IsTrue (bytes_eq (first_group (own_groups slot groups)) default_name
    || is_of_slot slot (first_group (own_groups slot groups)))
group_fits slot groups =
    first_fits slot (own_groups slot groups)
    (λ g c. (of_filter (λ h. is_of_slot slot h.name) groups g c).1)

abbrev created_groups : ℕ → Layout → List Group
created_groups slot target =
    cond (bytes_eq (first_group (own_groups slot target.groups)) default_name)
    (with_group default_group target.groups) target.groups

default_is_group : IsGroup default_group
unfolding is_name is_shared has_slot
default_is_group =
    record {
      fits = record { name = refl; flags = omega arith; maximum_size = omega arith };
      named =
          refl;
      flags = refl;
      unlimited = λ t. refl;
    }

groups_keep : (slot : ℕ) (twins : List Part) (source target : Layout)
    → IsUpdateBeside slot twins source target
    → KeepsGroups slot target.groups (created_groups slot target)
groups_keep slot twins source target update =
    cond_both (bytes_eq (first_group (own_groups slot target.groups)) default_name)
    (with_group default_group target.groups) target.groups (KeepsGroups slot target.groups)
    (λ e. more_groups slot target.groups default_group update.target_rules.groups
    update.target_rules.group_names default_is_group (default_not_own slot))
    (λ e. same_groups slot target.groups update.target_rules.groups update.target_rules.group_names)

stands : (slot : ℕ) (groups own : List Group) → ((g : Group) → Contains own g → Contains groups g)
    → Contains
    (names_of_groups
    (cond (bytes_eq (first_group own) default_name) (with_group default_group groups) groups))
    (first_group own)
stands slot groups [] there = group_there default_group groups
stands slot groups (g ∷ gs) there = elim (cases_Bool (bytes_eq g.name default_name)) [
  | inl e ↦
      rw e (subst (Contains (names_of_groups (with_group default_group groups)))
      (sym (same_name g.name default_name e)) (group_there default_group groups))
  | inr ne ↦ rw ne (in_map (λ h. h.name) groups g (there g (first g gs)))
]

group_stands : (slot : ℕ) (target : Layout)
    → Contains (names_of_groups (created_groups slot target))
    (first_group (own_groups slot target.groups))
group_stands slot target =
    stands slot target.groups (own_groups slot target.groups)
    (λ g c. (of_filter (λ h. is_of_slot slot h.name) target.groups g c).0)

-- ---- the target

created_own : (slot : ℕ) (parts : List Part) (c : Part) → is_of_slot slot c.name ≡ true
    → own_parts slot (parts ++ c ∷ []) ≡ own_parts slot parts ++ c ∷ []
created_own slot parts c of =
    let none : List Part = [] in
    let here : own_parts slot (c ∷ none) ≡ c ∷ none = rw of refl in
    filter-append (λ p. is_of_slot slot p.name) parts (c ∷ none)
    ∙ ap (λ (l : List Part). own_parts slot parts ++ l) here

created_stores : (slot : ℕ) (parts : List Part) (c : Part) → is_store slot c.name ≡ false
    → store_parts slot (parts ++ c ∷ []) ≡ store_parts slot parts
created_stores slot parts c other =
    let none : List Part = [] in
    let here : store_parts slot (c ∷ none) ≡ none = rw other refl in
    filter-append (λ p. is_store slot p.name) parts (c ∷ none)
    ∙ ap (λ (l : List Part). store_parts slot parts ++ l) here
    ∙ append-nil (store_parts slot parts)

any_left : (P : Part → Type 0) (xs ys : List Part) → Any P xs → Any P (xs ++ ys)
any_left P xs ys a = let c = Contains-append_left xs ys a.1 (a.0, a.2, a.3) in
    (c.0, a.1, c.1, c.2, a.4)

pieces_pushed : (own stores : List Part) (c : Part) → IsDistinct (blocks_of_parts (own ++ stores))
    → IsDistinct c.blocks → ((q : Part) → Contains (own ++ stores) q → Apart q.blocks c.blocks)
    → IsDistinct (blocks_of_parts ((own ++ c ∷ []) ++ stores))
pieces_pushed own stores c once own-once apart =
    let f : Part → List ℕ = λ p. p.blocks in
    let R : Part → Part → Type 0 = λ x y. Apart x.blocks y.blocks in
    let all = pieces_once f (own ++ stores) once in
    let pairs = pieces_apart f (own ++ stores) once in
    let each : All (λ p. IsDistinct p.blocks) ((own ++ c ∷ []) ++ stores) =
    all_from (λ p. IsDistinct p.blocks) ((own ++ c ∷ []) ++ stores)
    (λ p h. elim (Contains-append_cases (own ++ c ∷ []) stores p h) [
      | inl front ↦ elim (Contains-append_cases own (c ∷ []) p front) [
        | inl mine ↦
            All-contains (λ q. IsDistinct q.blocks) (own ++ stores) p all
            (Contains-append_left own stores p mine)
        | inr new ↦
            elim (cons_cases c [] p new) [
              | inl e ↦
                  subst (λ (q : Part). IsDistinct q.blocks) e own-once
              | inr none ↦
                  absurd (none_in_nil p none)
            ]
      ]
      | inr store ↦
          All-contains (λ q. IsDistinct q.blocks) (own ++ stores) p all
          (Contains-append_right own stores p store)
    ]) in
    let single : AllPairs R (c ∷ []) = λ i j d ij lj. absurd (omega arith) in
    let front : AllPairs R (own ++ c ∷ []) =
    pairs_append R own (c ∷ []) (pairs_left R own stores pairs) single
    (λ x y hx hy. elim (cons_cases c [] y hy) [
      | inl e ↦
          subst (λ (q : Part). Apart x.blocks q.blocks) e
          (apart x (Contains-append_left own stores x hx))
      | inr none ↦ absurd (none_in_nil y none)
    ]) in
    once_pieces f ((own ++ c ∷ []) ++ stores) each
    (pairs_append R (own ++ c ∷ []) stores front (pairs_right R own stores pairs)
    (λ x y hx hy. elim (Contains-append_cases own (c ∷ []) x hx) [
      | inl mine ↦ pairs_across R own stores x y pairs mine hy
      | inr new ↦ elim (cons_cases c [] x new) [
        | inl e ↦
            subst (λ (q : Part). Apart q.blocks y.blocks) e
            (λ b hc hb. apart y (Contains-append_right own stores y hy) b hb hc)
        | inr none ↦ absurd (none_in_nil x none)
      ]
    ]))

-- a target with a partition of the slot more
target_pushed : (slot : ℕ) (twins source parts : List Part) (c : Part)
    → is_of_slot slot c.name ≡ true
    → IsTargetBeside slot twins source parts → IsOwnPart slot c
    → length (own_parts slot parts) < most_partitions
    → IsTargetPartBeside slot twins source (parts ++ c ∷ []) c → IsDistinct c.blocks
    → ((q : Part) → Contains (own_parts slot parts ++ store_parts slot parts) q
    → Apart q.blocks c.blocks) → IsTargetBeside slot twins source (parts ++ c ∷ [])
target_pushed slot twins source parts c of is own few target once apart =
    let mine : List Part = own_parts slot parts in
    let stores : List Part = store_parts slot parts in
    let after : List Part = parts ++ c ∷ [] in
    let no-store : is_store slot c.name ≡ false =
    false_from_ne_true (is_store slot c.name) (λ t. own_or_store slot slot c.name of t) in
    let own-is = created_own slot parts c of in
    let stores-are = created_stores slot parts c no-store in
    target_made slot twins source after
    (rw own-is (All-push (IsOwnPart slot) mine c is.own.each own))
    (rw own-is (omega (arith, length-append mine (c ∷ []), few)))
    (rw own-is
    (All-push (IsTargetPartBeside slot twins source after) mine c
    (all_from (IsTargetPartBeside slot twins source after) mine
    (λ p h. target_part_among slot twins source parts after p
    (All-contains (IsTargetPartBeside slot twins source parts) mine p is.each h)
    (λ none. All-push (λ s. s.name ≢ store_of p.name) parts c none
    (λ same. store_not_own slot p.name (ap (is_of_slot slot) (sym same) ∙ of))))) target))
    (rw stores-are
    (all_from (IsStorePart slot source after) stores
    (λ s h. store_part_among slot source parts after s
    (All-contains (IsStorePart slot source parts) stores s is.stores h)
    (λ any. rw own-is
    (any_left (λ p. (s.name ≡ store_of p.name) × IsTrue (is_updated p)) mine (c ∷ []) any)))))
    (rw (own-is, stores-are) (pieces_pushed mine stores c is.once once apart))

created_apart : (slot : ℕ) (twins : List Part) (source target : Layout) (name : List ℕ) (n : ℕ)
    (q : Part)
    → IsUpdateBeside slot twins source target → is_of_slot slot name ≡ true
    → has_part name target.parts ≡ false
    → Contains (own_parts slot target.parts ++ store_parts slot target.parts) q
    → Apart q.blocks (created_blocks slot twins source target name n)
created_apart slot twins source target name n q update of absent inside =
    λ b hq hc. elim (created_cases slot twins source target name n b hc) [
      | inl before ↦
          elim (Contains-append_cases (own_parts slot target.parts) (store_parts slot target.parts)
          q
          inside) [
            | inl mine ↦
                let there = (of_filter (λ p. is_of_slot slot p.name) target.parts q mine).0 in
                before_not_own slot twins source target name q b update of mine
                (part_absent name target.parts q absent there) before hq
            | inr store ↦ before_not_store slot twins source target name q b update store before hq
          ]
      | inr free ↦ free_not_target slot source target q b inside free hq
    ]

created_part_is : (slot : ℕ) (twins : List Part) (source target : Layout) (after : List Part)
    (name : List ℕ) (n : ℕ)
    → IsTargetPartBeside slot twins source.parts after
    (created_part slot twins source target name n)
created_part_is slot twins source target after name n =
    let before : List ℕ = before_of slot twins name in
    let free : List ℕ = free_of slot source target in
    let rest : List ℕ = take (n - length before) free in record {
      begins = begins_so before rest n (none_taken n (length before) free);
      fresh =
          behind_so before rest n (none_taken n (length before) free)
          (λ b. Contains (blocks_of_parts (own_parts (other_slot slot) source.parts)) b → ⊥)
          (all_from (λ b. Contains (blocks_of_parts (own_parts (other_slot slot) source.parts)) b
          → ⊥) rest
          (λ b h. free_not_source slot source target b (of_take (n - length before) free b h)));
      kept = inl refl;
    }

pub created_keeps : (slot : ℕ) (twins : List Part) (source target : Layout) (name : List ℕ)
    (bytes : ℕ)
    → IsUpdateBeside slot twins source target → IsCreated slot twins source target name bytes
    → Keeps slot twins source target (with_created slot twins source target name (blocks_of bytes))
created_keeps slot twins source target name bytes update is =
    let n : ℕ = blocks_of bytes in
    let parts : List Part = target.parts in
    let c : Part = created_part slot twins source target name n in
    let cap : ℕ = cap_of target.device in
    let of = full_slot slot name is.full in
    let keeps = groups_keep slot twins source target update in
    let few = created_few slot twins source target name n in
    let size : length c.blocks ≤ 2 ^ 28 = omega (arith, few, is.size) in
    let part : IsPart cap (created_groups slot target) c = record {
      name = full_named slot name is.full;
      attributes = refl;
      small = omega arith;
      group = group_stands slot target;
      blocks =
          all_from (λ b. b < cap) c.blocks
          (λ b h. elim (created_cases slot twins source target name n b h) [
            | inl before ↦ before_below slot twins source target name b update before
            | inr free ↦ free_below_cap slot source target b free
          ]);
    } in record {
      rules = record {
        device = update.target_rules.device;
        flags = update.target_rules.flags;
        groups = keeps.each;
        group_names = keeps.differ;
        parts =
            All-push (IsPart cap (created_groups slot target)) parts c
            (All-weaker (IsPart cap target.groups) (IsPart cap (created_groups slot target))
            (λ p h. part_in slot cap target.groups (created_groups slot target) p keeps h) parts
            update.target_rules.parts) part;
        part_names =
            all_pairs_push (λ a b. a.name ≢ b.name) parts c update.target_rules.part_names
            (λ k d lt same. part_absent name parts (get_or parts k d) is.absent
            (Contains-get_or parts k d lt) same);
      };
      parts =
          target_pushed slot twins source.parts parts c of update.parts
          (record {
            base = full_base slot name is.full;
            size = size;
            group =
                group_fits slot target.groups;
          })
          is.few
          (created_part_is slot twins source target (parts ++ c ∷ []) name n)
          (created_once slot twins source target name n update)
          (λ q h. created_apart slot twins source target name n q update of is.absent h);
      device = refl;
      groups = keeps.of_slot;
      few_parts = omega (arith, length-append parts (c ∷ []));
      few_groups = keeps.few;
      few_runs =
          omega (
            arith,
            sum_by_push (λ p. length (runs_of p.blocks)) parts c,
            runs_few c.blocks,
            size,
          );
    }
