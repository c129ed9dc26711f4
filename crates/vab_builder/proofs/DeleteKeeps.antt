-- The target with a partition less keeps the rules.
use Rattle.std.proofs.Common.{◌≡◌, ◌≢◌, ℕ, Bool, false, not, List, [], ◌∷◌, ◌++◌, length, refl, ap}
use Rattle.std.proofs.Common.{subst, ◌∙◌, inl, inr, arith}
use Rattle.std.specs.Str.{bytes_eq}
use Rattle.std.specs.List.{filter}
use Rattle.std.proofs.lemmas.Bool.{cases_Bool, not_from_false}
use Rattle.std.proofs.lemmas.List.Elements.{All-contains, All-filter, filter-append}
use Rattle.std.proofs.lemmas.List.Filters.{sum_by-filter_both}
use Rattle.std.proofs.lemmas.List.Kept.{AllPairs-filter}
use Rattle.vab_names.specs.Names.{is_of_slot, is_store, store_of}
use Rattle.vab_tables.specs.Rules.{cap_of}
use Rattle.vab_layout.specs.declared.layout.Part.{Part}
use Rattle.vab_layout.specs.declared.layout.Layout.{Layout}
use Rattle.vab_blocks.specs.Runs.{runs_of}
use Rattle.vab_layout.specs.Layout.{blocks_of_parts}
use Rattle.vab_layout.specs.Rules.{IsPart}
use Rattle.vab_layout.specs.Slots.{own_parts, store_parts, IsDistinct, IsOwnPart, IsTargetBeside}
use Rattle.vab_layout.specs.Slots.{IsTargetPartBeside, IsStorePart}
use Rattle.vab_builder.specs.Sizes.{has_part}
use Rattle.vab_builder.specs.Edits.{with_deleted}
use Rattle.vab_builder.proofs.Bounds.{few_kept}
use Rattle.vab_builder.proofs.Counting.{Apart, once_pieces}
use Rattle.vab_blocks.proofs.Contained.{all_from, of_filter, in_filter}
use Rattle.vab_builder.proofs.Counting.{pieces_once, pieces_apart}
use Rattle.vab_names.proofs.NameCases.{ne_name}
use Rattle.vab_builder.proofs.PartLaws.{part_absent}
use Rattle.vab_builder.proofs.KeepLaws.{target_made, target_part_among, store_part_among}
use Rattle.vab_builder.proofs.Keeps.{Keeps}
use Rattle.vab_builder.specs.Update.{IsUpdateBeside}
use Rattle.vab_builder.specs.Passes.{IsDeleted}

filter_swap : (p q : Part → Bool) (xs : List Part) → filter p (filter q xs) ≡ filter q (filter p xs)
filter_swap p q [] = refl
filter_swap p q (x ∷ xs) = elim (cases_Bool (p x)) [
  | inl px ↦ elim (cases_Bool (q x)) [
    | inl qx ↦ rw (qx, px) (rw qx (ap (λ (l : List Part). x ∷ l) (filter_swap p q xs)))
    | inr qx ↦ rw (qx, px) (rw qx (filter_swap p q xs))
  ]
  | inr px ↦ elim (cases_Bool (q x)) [
    | inl qx ↦ rw (qx, px) (filter_swap p q xs)
    | inr qx ↦ rw (qx, px) (filter_swap p q xs)
  ]
]

deleted_target : (slot : ℕ) (twins source parts : List Part) (name : List ℕ)
    → IsTargetBeside slot twins source parts
    → has_part (store_of name) parts ≡ false
    → IsTargetBeside slot twins source (filter (λ p. not (bytes_eq p.name name)) parts)
deleted_target slot twins source parts name is plain =
    let keep : Part → Bool = λ p. not (bytes_eq p.name name) in
    let own : List Part = own_parts slot parts in
    let stores : List Part = store_parts slot parts in
    let after : List Part = filter keep parts in
    let own-is = filter_swap (λ p. is_of_slot slot p.name) keep parts in
    let stores-are = filter_swap (λ p. is_store slot p.name) keep parts in
    let f : Part → List ℕ = λ p. p.blocks in
    let once =
    once_pieces f (filter keep (own ++ stores))
    (All-filter keep (λ p. IsDistinct p.blocks) (own ++ stores)
    (pieces_once f (own ++ stores) is.once))
    (AllPairs-filter (λ x y. Apart x.blocks y.blocks) keep (own ++ stores)
    (pieces_apart f (own ++ stores) is.once)) in
    let apart =
    subst (λ (l : List Part). IsDistinct (blocks_of_parts l)) (filter-append keep own stores)
    once in
    target_made slot twins source after
    (rw own-is (All-filter keep (IsOwnPart slot) own is.own.each))
    (rw own-is (omega (arith, few_kept keep own, is.own.few)))
    (rw own-is
    (all_from (IsTargetPartBeside slot twins source after) (filter keep own)
    (λ p h. target_part_among slot twins source parts after p
    (All-contains (IsTargetPartBeside slot twins source parts) own p is.each
    (of_filter keep own p h).0)
    (λ none. All-filter keep (λ s. s.name ≢ store_of p.name) parts none))))
    (rw stores-are (all_from (IsStorePart slot source after) (filter keep stores) (λ s h.
    let store = (of_filter keep stores s h).0 in
    let there = (of_filter (λ q. is_store slot q.name) parts s store).0 in
    store_part_among slot source parts after s
    (All-contains (IsStorePart slot source parts) stores s is.stores store) (λ a.
    let other : bytes_eq a.1.name name ≡ false =
    ne_name a.1.name name
    (λ e. part_absent (store_of name) parts s plain there (a.4.0 ∙ ap store_of e)) in
    let stays =
    in_filter keep own a.1 (a.0, a.2, a.3) (not_from_false (bytes_eq a.1.name name) other) in
    rw own-is (stays.0, a.1, stays.1, stays.2, a.4)))))
    (rw (own-is, stores-are) apart)

pub deleted_keeps : (slot : ℕ) (twins : List Part) (source target : Layout) (name : List ℕ)
    → IsUpdateBeside slot twins source target → IsDeleted slot target name
    → Keeps slot twins source target (with_deleted target name)
deleted_keeps slot twins source target name update is =
    let keep : Part → Bool = λ p. not (bytes_eq p.name name) in
    let parts : List Part = target.parts in record {
      rules = record {
        device = update.target_rules.device;
        flags = update.target_rules.flags;
        groups = update.target_rules.groups;
        group_names = update.target_rules.group_names;
        parts =
            All-filter keep (IsPart (cap_of target.device) target.groups) parts
            update.target_rules.parts;
        part_names =
            AllPairs-filter (λ a b. a.name ≢ b.name) keep parts update.target_rules.part_names;
      };
      parts = deleted_target slot twins source.parts parts name update.parts is.plain;
      device = refl;
      groups = refl;
      few_parts = omega (arith, few_kept keep parts);
      few_groups = omega arith;
      few_runs =
          omega (
            arith,
            sum_by-filter_both keep (λ p. not (keep p)) (λ p. refl)
                (λ p. length (runs_of p.blocks)) parts,
          );
    }
