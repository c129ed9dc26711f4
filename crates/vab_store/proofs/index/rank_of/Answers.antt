use Rattle.std.proofs.Common.{ℕ, ◌≤◌, inl, inr, arith, rules, ltb, ltb-true, ltb-false, subst}
use Rattle.std.proofs.lemmas.Bool.{cases_eq}
use Rattle.std.proofs.lemmas.List.Sorted.{IsPartitionPoint-from_clause, IsPartitionedBy-ltb}
use Rattle.std.proofs.lemmas.List.Sorted.{IsNonDecreasingBy-from_default}
use Rattle.vab_store.specs.declared.index.Place.{Place}
use Rattle.vab_store.specs.Index.{place_at}
use Rattle.vab_store.proofs.index.rank_of.Goals as goal

pub returns : goal.returns
returns c =
    let ps = c.args.index.now in
    let key = c.args.key in
    let none : Place = record { key = 0; at = 0 } in
    let rises = IsNonDecreasingBy-from_default (λ (p : Place). p.key) ps none
    (λ i j le below. elim (cases_eq i j) [
      | inl same ↦ subst (λ (k : ℕ). (place_at ps i).key ≤ (place_at ps k).key) same (omega arith)
      | inr other ↦ omega (arith, c.requires i j (omega (arith, le, other)) below)
    ]) in
    let point = IsPartitionPoint-from_clause (λ (p : Place). ltb p.key key) ps
    c.partition_point.result c.partition_point.ensures.partitioned
    (IsPartitionedBy-ltb (λ (p : Place). p.key) ps key rises)
    (λ a r q k. search rules) in
    record {
      within = c.partition_point.ensures.bound;
      below = λ i lt. ltb-true (place_at ps i).key key (point.0 i none (omega arith) lt);
      rest = λ i le lt. ltb-false (place_at ps i).key key (point.1 i none le lt);
    }
