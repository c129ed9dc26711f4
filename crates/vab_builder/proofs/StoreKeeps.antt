-- The target with an exception store more keeps the rules.
use Rattle.std.proofs.Common.{◌≡◌, ◌≢◌, ℕ, ◌<◌, true, false, cond, List, [], ◌∷◌, ◌++◌, length, map}
use Rattle.std.proofs.Common.{take, sum_by, refl, sym, ap, subst, ◌∙◌, ◌⊎◌, inl, inr, arith}
use Rattle.std.proofs.Common.{length-append, append_assoc}
use Rattle.std.specs.Prelude.{All, AllPairs, Contains, IsTrue}
use Rattle.std.specs.Str.{bytes_eq}
use Rattle.std.proofs.lemmas.Bool.{cases_Bool, false_from_ne_true}
use Rattle.std.proofs.lemmas.List.{append-nil, length-map, length-take}
use Rattle.std.proofs.lemmas.List.Elements.{All-contains, All-push, filter-append}
use Rattle.std.proofs.lemmas.List.Elements.{Contains-append_left, Contains-append_right}
use Rattle.std.proofs.lemmas.List.Elements.{Contains-append_cases}
use Rattle.std.proofs.lemmas.List.Quantifiers.{all_pairs_push}
use Rattle.std.proofs.lemmas.List.Sums.{sum_by_push, sum_by-cons}
use Rattle.vab_bytes.specs.Name.{is_name}
use Rattle.vab_names.specs.Names.{is_of_slot, is_store, store_of}
use Rattle.vab_names.proofs.NameLaws.{store_is_name}
use Rattle.vab_tables.specs.declared.entries.Group.{Group}
use Rattle.vab_tables.specs.Rules.{cap_of, IsGroup, is_shared, has_slot}
use Rattle.vab_layout.specs.declared.layout.Part.{Part}
use Rattle.vab_layout.specs.declared.layout.Layout.{Layout}
use Rattle.vab_blocks.specs.Runs.{runs_of}
use Rattle.vab_layout.specs.Layout.{blocks_of_parts}
use Rattle.vab_layout.specs.Rules.{IsPart}
use Rattle.vab_layout.specs.Slots.{other_slot, own_parts, store_parts, is_updated, IsDistinct}
use Rattle.vab_layout.specs.Slots.{IsOwnPart, IsTargetBeside, IsTargetPartBeside, IsStorePart}
use Rattle.vab_builder.specs.Import.{stores_group}
use Rattle.vab_builder.specs.Edits.{free_of, changed, updated, store_part, store_blocks, with_group}
use Rattle.vab_builder.specs.Edits.{with_store}
use Rattle.vab_blocks.proofs.Contained.{all_from, cons_cases, none_in_nil, of_take, in_map, of_map}
use Rattle.vab_builder.proofs.Counting.{pairs_append, Apart, once_take, once_pieces, pieces_once}
use Rattle.vab_builder.proofs.Counting.{pieces_apart}
use Rattle.vab_names.proofs.NameCases.{full_slot, full_named, full_few, store_not_own}
use Rattle.vab_names.proofs.NameCases.{store_is_store, store_of_same, cow_not_own, eq_name}
use Rattle.vab_builder.proofs.PartLaws.{part_absent}
use Rattle.vab_builder.proofs.EditLaws.{own_there, store_few}
use Rattle.vab_builder.proofs.KeepLaws.{runs_few, more_groups, group_there, part_in, free_below_cap}
use Rattle.vab_builder.proofs.KeepLaws.{free_not_source, free_not_target, free_once, target_made}
use Rattle.vab_builder.proofs.KeepLaws.{target_part_among, store_part_among}
use Rattle.vab_builder.proofs.ResizeKeeps.{updated_attributes, updated_small, updated_is}
use Rattle.vab_builder.proofs.ChangedTarget.{target_changed, changed_own, changed_stores}
use Rattle.vab_builder.proofs.ChangedTarget.{changed_all, changed_differ, changed_no_name}
use Rattle.vab_builder.proofs.ChangedTarget.{apart_pair, either_by}
use Rattle.vab_builder.proofs.Keeps.{Keeps}
use Rattle.vab_builder.specs.Update.{IsUpdateBeside}
use Rattle.vab_builder.specs.Passes.{IsStored}

-- ---- the partition is marked as updated

updated_target : (slot : ℕ) (twins : List Part) (source target : Layout) (name : List ℕ)
    → IsUpdateBeside slot twins source target
    → is_of_slot slot name ≡ true
    → IsTargetBeside slot twins source.parts (changed name updated target.parts)
updated_target slot twins source target name update of =
    let parts : List Part = target.parts in
    let own : List Part = own_parts slot parts in
    let stores : List Part = store_parts slot parts in
    target_changed slot twins source.parts parts name updated (λ p. refl)
    (λ p h. updated_is p.attributes)
    of update.target_rules.part_names update.parts (λ p c e.
    let own-is = All-contains (IsOwnPart slot) own p update.parts.own.each c in
    let is =
    All-contains (IsTargetPartBeside slot twins source.parts parts) own p update.parts.each c in
    record {
      own = record { base = own-is.base; size = own-is.size; group = own-is.group };
      part = record { begins = is.begins; fresh = is.fresh; kept = inl (updated_is p.attributes) };
      once = All-contains (λ q. IsDistinct q.blocks) (own ++ stores) p
          (pieces_once (λ q. q.blocks) (own ++ stores) update.parts.once)
          (Contains-append_left own stores p c);
      apart =
          λ q h ne. apart_pair (own ++ stores) q p update.parts.once h
          (Contains-append_left own stores p c) (λ same. ne (same ∙ e));
    })

-- ---- the store stands behind

pub stored_own : (slot : ℕ) (parts : List Part) (s : Part) → is_of_slot slot s.name ≡ false
    → own_parts slot (parts ++ s ∷ []) ≡ own_parts slot parts
stored_own slot parts s other =
    let none : List Part = [] in
    let here : own_parts slot (s ∷ none) ≡ none = rw other refl in
    filter-append (λ p. is_of_slot slot p.name) parts (s ∷ none)
    ∙ ap (λ (l : List Part). own_parts slot parts ++ l) here ∙ append-nil (own_parts slot parts)

stored_stores : (slot : ℕ) (parts : List Part) (s : Part) → is_store slot s.name ≡ true
    → store_parts slot (parts ++ s ∷ []) ≡ store_parts slot parts ++ s ∷ []
stored_stores slot parts s of =
    let none : List Part = [] in
    let here : store_parts slot (s ∷ none) ≡ s ∷ none = rw of refl in
    filter-append (λ p. is_store slot p.name) parts (s ∷ none)
    ∙ ap (λ (l : List Part). store_parts slot parts ++ l) here

pieces_stored : (own stores : List Part) (s : Part) → IsDistinct (blocks_of_parts (own ++ stores))
    → IsDistinct s.blocks → ((q : Part) → Contains (own ++ stores) q → Apart q.blocks s.blocks)
    → IsDistinct (blocks_of_parts (own ++ (stores ++ s ∷ [])))
pieces_stored own stores s once own-once apart =
    let f : Part → List ℕ = λ p. p.blocks in
    let R : Part → Part → Type 0 = λ x y. Apart x.blocks y.blocks in
    let all : List Part = own ++ stores in
    let each = All-push (λ p. IsDistinct p.blocks) all s (pieces_once f all once) own-once in
    let single : AllPairs R (s ∷ []) = λ i j d ij lj. absurd (omega arith) in
    let pairs =
    pairs_append R all (s ∷ []) (pieces_apart f all once) single
    (λ x y hx hy. elim (cons_cases s [] y hy) [
      | inl e ↦ subst (λ (q : Part). Apart x.blocks q.blocks) e (apart x hx)
      | inr none ↦ absurd (none_in_nil y none)
    ]) in
    subst (λ (l : List Part). IsDistinct (blocks_of_parts l)) (append_assoc own stores (s ∷ []))
    (once_pieces f (all ++ s ∷ []) each pairs)

target_stored : (slot : ℕ) (twins source parts : List Part) (s : Part)
    → is_of_slot slot s.name ≡ false
    → is_store slot s.name ≡ true → IsTargetBeside slot twins source parts
    → IsStorePart slot source (parts ++ s ∷ []) s → IsDistinct s.blocks
    → ((q : Part) → Contains (own_parts slot parts ++ store_parts slot parts) q
    → Apart q.blocks s.blocks)
    → ((p : Part) → Contains (own_parts slot parts) p
    → (IsTrue (is_updated p)) ⊎ (s.name ≡ store_of p.name → ⊥))
    → IsTargetBeside slot twins source (parts ++ s ∷ [])
target_stored slot twins source parts s other of is store once apart marked =
    let own : List Part = own_parts slot parts in
    let stores : List Part = store_parts slot parts in
    let after : List Part = parts ++ s ∷ [] in
    let own-is = stored_own slot parts s other in
    let stores-are = stored_stores slot parts s of in
    target_made slot twins source after
    (rw own-is is.own.each)
    (rw own-is is.own.few)
    (rw own-is (all_from (IsTargetPartBeside slot twins source after) own (λ p h.
    let rule = All-contains (IsTargetPartBeside slot twins source parts) own p is.each h in
    elim (marked p h) [
      | inl marks ↦ record { begins = rule.begins; fresh = rule.fresh; kept = inl marks }
      | inr ne ↦
          target_part_among slot twins source parts after p rule
          (λ none. All-push (λ q. q.name ≢ store_of p.name) parts s none ne)
    ])))
    (rw stores-are
    (All-push (IsStorePart slot source after) stores s
    (all_from (IsStorePart slot source after) stores
    (λ t h. store_part_among slot source parts after t
    (All-contains (IsStorePart slot source parts) stores t is.stores h) (λ any. rw own-is any)))
    store))
    (rw (own-is, stores-are) (pieces_stored own stores s is.once once apart))

cow_is_group : IsGroup stores_group
unfolding is_name is_shared has_slot
cow_is_group =
    record {
      fits = record { name = refl; flags = omega arith; maximum_size = omega arith };
      named =
          refl;
      flags = refl;
      unlimited = λ t. refl;
    }

store_apart : (slot : ℕ) (source target : Layout) (name : List ℕ) (n : ℕ) (q : Part)
    → is_of_slot slot name ≡ true
    → Contains
    (own_parts slot (changed name updated target.parts)
    ++ store_parts slot (changed name updated target.parts)) q
    → Apart q.blocks (take n (free_of slot source target))
store_apart slot source target name n q of inside =
    let parts : List Part = target.parts in
    let own : List Part = own_parts slot parts in
    let stores : List Part = store_parts slot parts in
    let free : List ℕ = free_of slot source target in
    let Q : Part → Type 0 = λ x. Apart x.blocks (take n free) in
    let old : (p : Part) → Contains (own ++ stores) p
    → Q p = λ p h b hp hb. free_not_target slot source target p b h (of_take n free b hb) hp in
    elim (Contains-append_cases (own_parts slot (changed name updated parts))
    (store_parts slot (changed name updated parts)) q inside) [
      | inl mine ↦
          let was =
          subst (λ (l : List Part). Contains l q)
          (changed_own slot name updated parts (λ p. refl)) mine in
          All-contains Q (changed name updated own) q
          (changed_all name updated Q own (λ p c e. old p (Contains-append_left own stores p c))
          (λ p c. old p (Contains-append_left own stores p c))) was
      | inr store ↦
          old q (Contains-append_right own stores q
          (subst (λ (l : List Part). Contains l q)
          (changed_stores slot name updated parts (λ p. refl) of) store))
    ]

-- the partition stands in the changed list, marked
there_changed : (name : List ℕ) (own : List Part) (p : Part) → Contains own p → p.name ≡ name
    → Contains (changed name updated own) (updated p)
there_changed name own p c e =
    let named : bytes_eq p.name name ≡ true = eq_name p.name name e in
    let at : cond (bytes_eq p.name name) (updated p) p ≡ updated p = rw named refl in
    subst (Contains (changed name updated own)) at
    (in_map (λ q. cond (bytes_eq q.name name) (updated q) q) own p c)

-- each partition is marked, or has another store's name
marks_all : (name : List ℕ) (own : List Part)
    → All (λ q. (IsTrue (is_updated q)) ⊎ (store_of name ≡ store_of q.name → ⊥))
    (changed name updated own)
marks_all name own =
    all_from (λ q. (IsTrue (is_updated q)) ⊎ (store_of name ≡ store_of q.name → ⊥))
    (changed name updated own) (λ x c.
    let r = of_map (λ q. cond (bytes_eq q.name name) (updated q) q) own x c in
    subst (λ (q : Part). (IsTrue (is_updated q)) ⊎ (store_of name ≡ store_of q.name → ⊥)) r.2
    (either_by name updated (λ q. (IsTrue (is_updated q)) ⊎ (store_of name ≡ store_of q.name → ⊥))
    r.0 (λ e. inl (updated_is r.0.attributes))
    (λ ne. inr (λ same. ne (sym (store_of_same name r.0.name same))))))

updated_runs : (name : List ℕ) (parts : List Part)
    → sum_by (λ p. length (runs_of p.blocks)) (changed name updated parts)
    ≡ sum_by (λ p. length (runs_of p.blocks)) parts
updated_runs name [] = refl
updated_runs name (p ∷ ps) =
    let size : Part → ℕ = λ q. length (runs_of q.blocks) in
    let g : Part → Part = λ q. cond (bytes_eq q.name name) (updated q) q in
    let same : size (g p) ≡ size p =
    elim (cases_Bool (bytes_eq p.name name)) [ inl e ↦ rw e refl | inr ne ↦ rw ne refl ] in
    omega (
      arith,
      sum_by-cons size (g p) (map g ps),
      sum_by-cons size p ps,
      same,
      updated_runs name
          ps,
    )

pub stored_keeps : (slot : ℕ) (twins : List Part) (source target : Layout) (name : List ℕ)
    (bytes : ℕ)
    → IsUpdateBeside slot twins source target → IsStored slot twins source target name bytes
    → Keeps slot twins source target (with_store slot source target name
    (store_blocks target name bytes))
stored_keeps slot twins source target name bytes update is =
    let n : ℕ = store_blocks target name bytes in
    let parts : List Part = target.parts in
    let marked : List Part = changed name updated parts in
    let s : Part = store_part slot source target name n in
    let after : List Part = marked ++ s ∷ [] in
    let cap : ℕ = cap_of target.device in
    let free : List ℕ = free_of slot source target in
    let groups : List Group = with_group stores_group target.groups in
    let of = full_slot slot name is.full in
    let few = store_few slot target name bytes update.parts.own of is.size in
    let long = length-take n free in
    let keeps =
    more_groups slot target.groups stores_group update.target_rules.groups
    update.target_rules.group_names cow_is_group (cow_not_own slot) in
    let each : All (IsPart cap groups) marked = changed_all name updated (IsPart cap groups) parts
    (λ p c e.
    let rule =
    part_in slot cap target.groups groups p keeps
    (All-contains (IsPart cap target.groups) parts p update.target_rules.parts c) in
    record {
      name = rule.name;
      attributes = updated_attributes p.attributes rule.attributes;
      small =
          updated_small p.attributes rule.small;
      group = rule.group;
      blocks = rule.blocks;
    })
    (λ p c. part_in slot cap target.groups groups p keeps
    (All-contains (IsPart cap target.groups) parts p update.target_rules.parts c)) in
    let part : IsPart cap groups s = record {
      name = store_is_name name (full_named slot name is.full) (full_few slot name is.full);
      attributes = refl;
      small = omega arith;
      group = group_there stores_group target.groups;
      blocks =
          all_from (λ b. b < cap) s.blocks
          (λ b h. free_below_cap slot source target b (of_take n free b h));
    } in
    let absent : All (λ q. q.name ≢ store_of name) parts =
    all_from (λ q. q.name ≢ store_of name) parts
    (λ q c e. part_absent (store_of name) parts q is.plain c e) in
    let still = changed_no_name name (store_of name) updated parts (λ p. refl) absent in
    let r = own_there slot target name is.full is.known in
    let x : Part = updated r.0 in
    let x-there : Contains (own_parts slot marked) x =
    subst (λ (l : List Part). Contains l x)
    (sym (changed_own slot name updated parts (λ p. refl)))
    (there_changed name (own_parts slot parts) r.0 r.1 r.2) in
    let other : is_of_slot slot (store_of name) ≡ false =
    false_from_ne_true (is_of_slot slot (store_of name)) (store_not_own slot name) in
    let own-after = stored_own slot marked s other in
    let store : IsStorePart slot source.parts after s = record {
      group = refl;
      of_part =
          rw own-after
          (x-there.0, x, x-there.1, x-there.2, (ap store_of (sym r.2), updated_is r.0.attributes));
      apart =
          all_from (λ b. Contains (blocks_of_parts (own_parts (other_slot slot) source.parts)) b
          → ⊥) s.blocks (λ b h. free_not_source slot source target b (of_take n free b h));
    } in record {
      rules = record {
        device = update.target_rules.device;
        flags = update.target_rules.flags;
        groups = keeps.each;
        group_names = keeps.differ;
        parts = All-push (IsPart cap groups) marked s each part;
        part_names =
            all_pairs_push (λ a b. a.name ≢ b.name) marked s
            (changed_differ name updated parts (λ p. refl) update.target_rules.part_names)
            (λ k d lt same. still k d lt same);
      };
      parts =
          target_stored slot twins source.parts marked s other (store_is_store slot name of)
          (updated_target slot twins source target name update of) store
          (once_take n free (free_once slot source target))
          (λ q h. store_apart slot source target name n q of h)
          (λ p h. All-contains (λ q. (IsTrue (is_updated q))
          ⊎ (store_of name ≡ store_of q.name → ⊥)) (own_parts slot marked) p
          (subst (All (λ q. (IsTrue (is_updated q)) ⊎ (store_of name ≡ store_of q.name → ⊥)))
          (sym (changed_own slot name updated parts (λ q. refl)))
          (marks_all name (own_parts slot parts))) h);
      device = refl;
      groups = keeps.of_slot;
      few_parts =
          omega (
            arith,
            length-append marked (s ∷ []),
            length-map parts
                (λ p. cond (bytes_eq p.name name) (updated p) p),
          );
      few_groups = keeps.few;
      few_runs =
          omega (
            arith,
            sum_by_push (λ p. length (runs_of p.blocks)) marked s,
            runs_few s.blocks,
            long,
            few,
            updated_runs name parts,
          );
    }
