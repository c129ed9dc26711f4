-- The target with another size of a partition keeps the rules.
use Rattle.std.proofs.Common.{◌≡◌, ℕ, ◌-◌, ◌^◌, ◌<◌, ◌≤◌, true, not, ◌||◌, cond, eqb, List, []}
use Rattle.std.proofs.Common.{◌++◌, length, take, drop, refl, sym, ap, subst, ◌∙◌, ◌⊎◌, inl, inr}
use Rattle.std.proofs.Common.{arith, length-append, append_assoc}
use Rattle.std.specs.Prelude.{All, Contains, bit_and, bit_or}
use Rattle.std.specs.Str.{bytes_eq}
use Rattle.std.proofs.lemmas.Bool.{cases_eq, or_cases, both_ways, not-true, eq-eqb, eqb-true}
use Rattle.std.proofs.lemmas.Bool.{agree_below_at}
use Rattle.std.proofs.lemmas.List.{length-map, length-take}
use Rattle.std.proofs.lemmas.List.Elements.{All-contains, All-append, All-take}
use Rattle.std.proofs.lemmas.List.Elements.{Contains-append_left, Contains-append_cases}
use Rattle.std.proofs.lemmas.Nat.{or_lt, and_le_r, and_or_self}
use Rattle.vab_names.specs.Names.{is_of_slot}
use Rattle.vab_space.specs.Space.{blocks_of}
use Rattle.vab_tables.specs.Rules.{cap_of}
use Rattle.vab_layout.specs.declared.layout.Part.{Part}
use Rattle.vab_layout.specs.declared.layout.Layout.{Layout}
use Rattle.vab_blocks.specs.Runs.{runs_of}
use Rattle.vab_layout.specs.Rules.{IsPart}
use Rattle.vab_layout.specs.Slots.{other_slot, own_parts, store_parts, before_of, blocks_named}
use Rattle.vab_layout.specs.Slots.{IsDistinct, IsOwnPart, IsTargetPartBeside}
use Rattle.vab_builder.specs.Edits.{free_of, kept_blocks, resized_blocks, resized_part, changed}
use Rattle.vab_builder.specs.Edits.{with_resized}
use Rattle.vab_builder.proofs.Counting.{Apart, once_append, once_take}
use Rattle.vab_blocks.proofs.Contained.{all_from, of_take, of_drop}
use Rattle.vab_builder.proofs.Counting.{once_drop, pieces_once}
use Rattle.vab_names.proofs.NameCases.{full_slot}
use Rattle.vab_builder.proofs.RoomLaws.{before_listed, length-kept_blocks}
use Rattle.vab_builder.proofs.EditLaws.{same_size, other_size}
use Rattle.vab_builder.proofs.KeepLaws.{runs_few, before_once, before_below, before_not_own}
use Rattle.vab_builder.proofs.KeepLaws.{before_not_store, free_below_cap, free_not_source}
use Rattle.vab_builder.proofs.KeepLaws.{free_not_target, free_once}
use Rattle.vab_builder.proofs.CreateKeeps.{begins_so, behind_so}
use Rattle.vab_builder.proofs.ChangedTarget.{ChangesWell, target_changed, changed_all}
use Rattle.vab_builder.proofs.ChangedTarget.{changed_differ, changed_sum, apart_pair}
use Rattle.vab_builder.proofs.Keeps.{Keeps}
use Rattle.vab_builder.specs.Update.{IsUpdateBeside}
use Rattle.vab_builder.proofs.TwinLaws.{twins_own}
use Rattle.vab_builder.specs.Passes.{IsResized}
use Rattle.vab_builder.proofs.RoomLaws.{source_blocks}

-- ---- the attribute of an updated partition

known_attributes : (a : ℕ) → bit_and a 13 ≡ a → a < 16
known_attributes a h = omega (arith, and_le_r a 13, h)

attributes_stay : (a : ℕ) → a < 16
    → eqb (bit_and (bit_or a 4) 13) (bit_or a 4) || not (eqb (bit_and a 13) a) ≡ true
attributes_stay a small =
    agree_below_at (λ k. eqb (bit_and (bit_or k 4) 13) (bit_or k 4) || not (eqb (bit_and k 13) k))
    (λ k. true) 16 a refl small

pub updated_attributes : (a : ℕ) → bit_and a 13 ≡ a → bit_and (bit_or a 4) 13 ≡ bit_or a 4
updated_attributes a h =
    elim (or_cases (eqb (bit_and (bit_or a 4) 13) (bit_or a 4)) (not (eqb (bit_and a 13) a))
    (attributes_stay a (known_attributes a h))) [
      | inl t ↦ eqb-true (bit_and (bit_or a 4) 13) (bit_or a 4) t
      | inr f ↦
          absurd (both_ways (eqb (bit_and a 13) a) (not-true (eqb (bit_and a 13) a) f)
          (eq-eqb (bit_and a 13) a h))
    ]

pub updated_small : (a : ℕ) → a < 2 ^ 32 → bit_or a 4 < 2 ^ 32
updated_small a small = or_lt 32 a 4 small (omega arith)

pub updated_is : (a : ℕ) → not (eqb (bit_and (bit_or a 4) 4) 0) ≡ true
updated_is a = let four : bit_and (bit_or a 4) 4 ≡ 4 = and_or_self 4 a in rw four refl

-- ---- its blocks

resized_cases : (slot : ℕ) (twins : List Part) (source target : Layout) (p : Part) (n b : ℕ)
    → Contains (resized_blocks slot twins source target p n) b
    → (Contains (before_of slot twins p.name) b)
    ⊎ ((Contains p.blocks b) ⊎ (Contains (free_of slot source target) b))
resized_cases slot twins source target p n b c =
    let before : List ℕ = before_of slot twins p.name in
    let kept : List ℕ = kept_blocks before p.blocks n in
    let free : List ℕ = free_of slot source target in
    let k : ℕ = length before in
    elim (Contains-append_cases kept (take (n - length kept) free) b c) [
      | inl d ↦ elim (Contains-append_cases (take n before) (take (n - k) (drop k p.blocks)) b d) [
        | inl e ↦ inl (of_take n before b e)
        | inr e ↦ inr (inl (of_drop k p.blocks b (of_take (n - k) (drop k p.blocks) b e)))
      ]
      | inr d ↦ inr (inr (of_take (n - length kept) free b d))
    ]

resized_few : (slot : ℕ) (twins : List Part) (source target : Layout) (p : Part) (n : ℕ)
    → length (resized_blocks slot twins source target p n) ≤ n
resized_few slot twins source target p n =
    let before : List ℕ = before_of slot twins p.name in
    let kept : List ℕ = kept_blocks before p.blocks n in
    let free : List ℕ = free_of slot source target in
    omega (
      arith,
      length-append kept (take (n - length kept) free),
      length-kept_blocks before
          p.blocks n,
      length-take (n - length kept) free,
    )

-- what stands behind the source's blocks
abbrev resized_rest : ℕ → List Part → Layout → Layout → Part → ℕ → List ℕ
resized_rest slot twins source target p n =
    let before = before_of slot twins p.name in
    take (n - length before) (drop (length before) p.blocks)
    ++ take (n - length (kept_blocks before p.blocks n)) (free_of slot source target)

resized_split : (slot : ℕ) (twins : List Part) (source target : Layout) (p : Part) (n : ℕ)
    → resized_blocks slot twins source target p n ≡ take n (before_of slot twins p.name)
    ++ resized_rest slot twins source target p n
resized_split slot twins source target p n =
    let before : List ℕ = before_of slot twins p.name in
    append_assoc (take n before) (take (n - length before) (drop (length before) p.blocks))
    (take (n - length (kept_blocks before p.blocks n)) (free_of slot source target))

none_taken : (k : ℕ) (xs : List ℕ) → k ≡ 0 → take k xs ≡ []
none_taken k xs z = rw z refl

rest_none : (slot : ℕ) (twins : List Part) (source target : Layout) (p : Part) (n : ℕ)
    → n ≤ length (before_of slot twins p.name) → resized_rest slot twins source target p n ≡ []
rest_none slot twins source target p n le =
    let before : List ℕ = before_of slot twins p.name in
    let front =
    none_taken (n - length before) (drop (length before) p.blocks) (omega (arith, le)) in
    let back =
    none_taken (n - length (kept_blocks before p.blocks n)) (free_of slot source target)
    (omega (arith, le, length-kept_blocks before p.blocks n)) in
    rw (back, front) refl

rest_fresh : (slot : ℕ) (twins : List Part) (source target : Layout) (p : Part) (n : ℕ)
    → All (λ b. Contains (source_blocks slot source) b
    → ⊥) (drop (length (before_of slot twins p.name)) p.blocks)
    → All (λ b. Contains (source_blocks slot source) b → ⊥)
    (resized_rest slot twins source target p n)
rest_fresh slot twins source target p n fresh =
    let before : List ℕ = before_of slot twins p.name in
    let P : ℕ → Type 0 = λ b. Contains (source_blocks slot source) b → ⊥ in
    let m : ℕ = n - length (kept_blocks before p.blocks n) in
    All-append P (take (n - length before) (drop (length before) p.blocks))
    (take m (free_of slot source target))
    (All-take P (n - length before) (drop (length before) p.blocks) fresh)
    (all_from P (take m (free_of slot source target))
    (λ b h. free_not_source slot source target b (of_take m (free_of slot source target) b h)))

resized_part_is : (slot : ℕ) (twins : List Part) (source target : Layout) (after : List Part)
    (p : Part) (n : ℕ)
    → IsTargetPartBeside slot twins source.parts target.parts p
    → IsTargetPartBeside slot twins source.parts after (resized_part slot twins source target n p)
resized_part_is slot twins source target after p n is =
    let before : List ℕ = before_of slot twins p.name in
    let rest : List ℕ = resized_rest slot twins source target p n in
    let split = resized_split slot twins source target p n in
    let none = rest_none slot twins source target p n in
    let P : ℕ → Type 0 = λ b. Contains (source_blocks slot source) b → ⊥ in
    let begins = begins_so before rest n none in
    let fresh = behind_so before rest n none P (rest_fresh slot twins source target p n is.fresh) in
    record {
      begins =
          subst (λ (l : List ℕ). take (length before) l ≡ take (length l) before) (sym split)
          begins;
      fresh = subst (λ (l : List ℕ). All P (drop (length before) l)) (sym split) fresh;
      kept = inl (updated_is p.attributes);
    }

resized_once : (slot : ℕ) (twins : List Part) (source target : Layout) (p : Part) (n : ℕ)
    → IsUpdateBeside slot twins source target
    → Contains (own_parts slot target.parts) p
    → IsDistinct (resized_blocks slot twins source target p n)
resized_once slot twins source target p n update inside =
    let own : List Part = own_parts slot target.parts in
    let stores : List Part = store_parts slot target.parts in
    let before : List ℕ = before_of slot twins p.name in
    let k : ℕ = length before in
    let kept : List ℕ = kept_blocks before p.blocks n in
    let free : List ℕ = free_of slot source target in
    let m : ℕ = n - length kept in
    let in-target = Contains-append_left own stores p inside in
    let is =
    All-contains (IsTargetPartBeside slot twins source.parts target.parts) own p update.parts.each
    inside in
    let mine =
    All-contains (λ q. IsDistinct q.blocks) (own ++ stores) p
    (pieces_once (λ q. q.blocks) (own ++ stores) update.parts.once) in-target in
    let kept-once : IsDistinct kept = once_append (take n before) (take (n - k) (drop k p.blocks))
    (once_take n before (before_once slot twins p.name
    (twins_own (other_slot slot) twins source.parts update.twins_are update.own)))
    (once_take (n - k) (drop k p.blocks) (once_drop k p.blocks mine))
    (λ b c d. All-contains (λ x. Contains (source_blocks slot source) x
    → ⊥) (drop k p.blocks) b is.fresh (of_take (n - k) (drop k p.blocks) b d)
    (before_listed slot twins source.parts p.name b update.twins_are (of_take n before b c))) in
    once_append kept (take m free) kept-once (once_take m free (free_once slot source target))
    (λ b c d.
    let of-free = of_take m free b d in
    elim (Contains-append_cases (take n before) (take (n - k) (drop k p.blocks)) b c) [
      | inl e ↦
          free_not_source slot source target b of-free
          (before_listed slot twins source.parts p.name b update.twins_are (of_take n before b e))
      | inr e ↦
          free_not_target slot source target p b in-target of-free
          (of_drop k p.blocks b (of_take (n - k) (drop k p.blocks) b e))
    ])

resized_apart : (slot : ℕ) (twins : List Part) (source target : Layout) (name : List ℕ) (p q : Part)
    (n : ℕ)
    → IsUpdateBeside slot twins source target → is_of_slot slot name ≡ true
    → Contains (own_parts slot target.parts) p → p.name ≡ name
    → Contains (own_parts slot target.parts ++ store_parts slot target.parts) q
    → (q.name ≡ name → ⊥) → Apart q.blocks (resized_blocks slot twins source target p n)
resized_apart slot twins source target name p q n update of inside e in-target ne =
    let own : List Part = own_parts slot target.parts in
    let stores : List Part = store_parts slot target.parts in
    let of-p : is_of_slot slot p.name ≡ true = ap (is_of_slot slot) e ∙ of in
    let other : q.name ≡ p.name → ⊥ = λ same. ne (same ∙ e) in
    λ b hq hp. elim (resized_cases slot twins source target p n b hp) [
      | inl before ↦ elim (Contains-append_cases own stores q in-target) [
        | inl mine ↦ before_not_own slot twins source target p.name q b update of-p mine other
            before hq
        | inr store ↦ before_not_store slot twins source target p.name q b update store before hq
      ]
      | inr more ↦ elim more [
        | inl former ↦
            apart_pair (own ++ stores) q p update.parts.once in-target
            (Contains-append_left own stores p inside) other b hq former
        | inr free ↦ free_not_target slot source target q b in-target free hq
      ]
    ]

pub unchanged_keeps : (slot : ℕ) (twins : List Part) (source target : Layout)
    → IsUpdateBeside slot twins source target
    → Keeps slot twins source target target
unchanged_keeps slot twins source target update =
    record {
      rules = update.target_rules;
      parts = update.parts;
      device = refl;
      groups =
          refl;
      few_parts = omega arith;
      few_groups = omega arith;
      few_runs = omega arith;
    }

changed_keeps : (slot : ℕ) (twins : List Part) (source target : Layout) (name : List ℕ) (bytes : ℕ)
    → IsUpdateBeside slot twins source target → IsResized slot twins source target name bytes
    → Keeps slot twins source target
    (record target {
      parts =
          changed name (resized_part slot twins source target (blocks_of bytes)) target.parts;
    })
changed_keeps slot twins source target name bytes update is =
    let n : ℕ = blocks_of bytes in
    let f : Part → Part = resized_part slot twins source target n in
    let parts : List Part = target.parts in
    let own : List Part = own_parts slot parts in
    let cap : ℕ = cap_of target.device in
    let small : n ≤ 2 ^ 28 = omega (arith, is.size) in
    let of = full_slot slot name is.full in
    let each : All (IsPart cap target.groups) (changed name f parts) =
    changed_all name f (IsPart cap target.groups) parts
    (λ p c e.
    let rule = All-contains (IsPart cap target.groups) parts p update.target_rules.parts c in
    record {
      name = rule.name;
      attributes = updated_attributes p.attributes rule.attributes;
      small = updated_small p.attributes rule.small;
      group = rule.group;
      blocks =
          all_from (λ b. b < cap) (resized_blocks slot twins source target p n)
          (λ b h. elim (resized_cases slot twins source target p n b h) [
            | inl before ↦ before_below slot twins source target p.name b update before
            | inr more ↦ elim more [
              | inl former ↦ All-contains (λ b. b < cap) p.blocks b rule.blocks former
              | inr free ↦ free_below_cap slot source target b free
            ]
          ]);
    })
    (λ p c. All-contains (IsPart cap target.groups) parts p update.target_rules.parts c) in
    let well : (p : Part) → Contains own p → p.name ≡ name
    → ChangesWell slot twins source.parts parts name f p = λ p c e.
    let own-is = All-contains (IsOwnPart slot) own p update.parts.own.each c in
    let target-is =
    All-contains (IsTargetPartBeside slot twins source.parts parts) own p update.parts.each c in
    record {
      own = record {
        base = own-is.base;
        size =
            omega (arith, resized_few slot twins source target p n, small);
        group = own-is.group;
      };
      part = resized_part_is slot twins source target (changed name f parts) p n target-is;
      once = resized_once slot twins source target p n update c;
      apart = λ q h ne. resized_apart slot twins source target name p q n update of c e h ne;
    } in record {
      rules = record {
        device = update.target_rules.device;
        flags = update.target_rules.flags;
        groups = update.target_rules.groups;
        group_names = update.target_rules.group_names;
        parts = each;
        part_names = changed_differ name f parts (λ p. refl) update.target_rules.part_names;
      };
      parts =
          target_changed slot twins source.parts parts name f (λ p. refl)
          (λ p h. updated_is p.attributes)
          of update.target_rules.part_names update.parts well;
      device = refl;
      groups = refl;
      few_parts = omega (arith, length-map parts (λ p. cond (bytes_eq p.name name) (f p) p));
      few_groups = omega arith;
      few_runs =
          omega (
            arith,
            changed_sum name f (λ p. length (runs_of p.blocks)) (2 ^ 28) parts
                update.target_rules.part_names
                (λ p c e. omega (
                  arith,
                  runs_few (resized_blocks slot twins source target p n),
                  resized_few slot twins source target p
                      n,
                  small,
                )),
          );
    }

pub resized_keeps : (slot : ℕ) (twins : List Part) (source target : Layout) (name : List ℕ)
    (bytes : ℕ)
    → IsUpdateBeside slot twins source target → IsResized slot twins source target name bytes
    → Keeps slot twins source target (with_resized slot twins source target name (blocks_of bytes))
resized_keeps slot twins source target name bytes update is =
    let n : ℕ = blocks_of bytes in
    elim (cases_eq (length (blocks_named name target.parts)) n) [
      | inl same ↦
          subst (Keeps slot twins source target)
          (sym (same_size slot twins source target name n same))
          (unchanged_keeps slot twins source target update)
      | inr other ↦
          subst (Keeps slot twins source target)
          (sym (other_size slot twins source target name n other))
          (changed_keeps slot twins source target name bytes update is)
    ]
