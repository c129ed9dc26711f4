-- Runs that are merged into an ascending list, in the order of their first numbers.
use Rattle.std.proofs.Common.{Bool, eqb, ◌≡◌, ℕ, ◌+◌, ◌-◌, ◌^◌, ◌<◌, ◌≤◌, List, [], ◌++◌, length}
use Rattle.std.proofs.Common.{get_or, take}
use Rattle.std.proofs.Common.{refl, sym, ap, subst, ◌∙◌, inl, inr, arith}
use Rattle.std.specs.Prelude.{◌↔◌, max, All, Contains}
use Rattle.std.specs.List.{list_any, range_with_len}
use Rattle.std.specs.List.Sorted.{IsNonDecreasingBy, IsPermutation, IsStrictlyIncreasing}
use Rattle.std.proofs.lemmas.List.Sorted.{list_any-IsPermutation}
use Rattle.std.proofs.lemmas.Bool.{cases_lt}
use Rattle.std.proofs.lemmas.List.{take_all, get_or_default}
use Rattle.std.proofs.lemmas.List.Elements.{All-nil, All-append, All-weaker, Contains-append_left}
use Rattle.std.proofs.lemmas.List.Elements.{Contains-append_right, Contains-append_cases}
use Rattle.vab_blocks.specs.Runs.{blocks_of_runs, IsAscending}
use Rattle.vab_blocks.proofs.BlockLaws.{in_range, listed_once, listed_then, of_range}
use Rattle.vab_blocks.proofs.Ascending.{few_below, more_ascends}
use Rattle.vab_blocks.proofs.Pieces.{any_runs, blocks_before}

-- The numbers of the runs in front of a place, which are below the end of the furthest of them;
-- from the first of the last run on all numbers below that end are among them.
pub record Merged (runs : List (ℕ × ℕ)) (i : ℕ) (all : List ℕ) (end : ℕ) : Type 0 where
  pub fits : end < 2 ^ 64
  pub up : IsStrictlyIncreasing all
  pub below : All (λ b. b < end) all
  pub listed : (b : ℕ) → Contains all b ↔ Contains (blocks_of_runs (take i runs)) b
  pub cover : (b : ℕ) (d : ℕ × ℕ) → (get_or runs (i - 1) d).0 ≤ b → b < end → Contains all b

pub none_merged : (runs : List (ℕ × ℕ)) (all : List ℕ) → all ≡ [] → Merged runs 0 all 0
none_merged runs all none = record {
  fits = omega arith;
  up = λ k lt. absurd (omega (arith, lt, ap length none));
  below = λ k d lt. absurd (omega (arith, lt, ap length none));
  listed = λ b. (
    λ c. absurd (omega (arith, c.1, ap length none)),
    λ c. absurd (omega (arith, c.1)),
  );
  cover = λ b d low high. absurd (omega (arith, high));
}

-- what is known where a run is taken
record Taken (runs : List (ℕ × ℕ)) (i : ℕ) (all : List ℕ) (end : ℕ) (run : ℕ × ℕ) : Type 0 where
  before : blocks_of_runs (take (i + 1) runs)
      ≡ blocks_of_runs (take i runs) ++ range_with_len run.0 run.1
  cover : (b : ℕ) → run.0 ≤ b → b < end → Contains all b
  first : (d : ℕ × ℕ) → (get_or runs (i + 1 - 1) d).0 ≡ run.0

taken : (runs : List (ℕ × ℕ)) (i : ℕ) (all : List ℕ) (end : ℕ) (run : ℕ × ℕ)
    → IsNonDecreasingBy (λ r. r.0) runs
    → Merged runs i all end
    → i < length runs
    → run ≡ get_or runs i run
    → Taken runs i all end run
taken runs i all end run up m lt at =
    let same : (d : ℕ × ℕ) → get_or runs i d ≡ run = λ d. get_or_default runs i d run lt ∙ sym at in
    record {
      before = blocks_before runs i run lt
          ∙ ap (λ (r : ℕ × ℕ). blocks_of_runs (take i runs) ++ range_with_len r.0 r.1) (sym at);
      cover = λ b low high.
          let order : (get_or runs (i - 1) run).0 ≤ (get_or runs i run).0 =
          up (i - 1) i run (omega arith) lt in
          let is = ap (λ (r : ℕ × ℕ). r.0) at in
          m.cover b run (omega (arith, order, is, low)) high;
      first = λ d.
          let k : i + 1 - 1 ≡ i = omega arith in
          ap (λ (j : ℕ). (get_or runs j d).0) k ∙ ap (λ (r : ℕ × ℕ). r.0) (same d);
    }

-- a run that ends behind the others
pub more_merged : (runs : List (ℕ × ℕ)) (i : ℕ) (all new : List ℕ) (end : ℕ) (run : ℕ × ℕ)
    → IsNonDecreasingBy (λ r. r.0) runs
    → Merged runs i all end
    → i < length runs
    → run ≡ get_or runs i run
    → end < run.0 + run.1
    → run.0 + run.1 < 2 ^ 64
    → new ≡ all ++ range_with_len (max run.0 end) (run.0 + run.1 - max run.0 end)
    → Merged runs (i + 1) new (run.0 + run.1)
more_merged runs i all new end run up m lt at higher fits is =
    let t = taken runs i all end run up m lt at in
    let from : ℕ = max run.0 end in
    let until : ℕ = run.0 + run.1 in
    let more : List ℕ = range_with_len from (until - from) in
    let front : List ℕ = blocks_of_runs (take i runs) in
    let own : List ℕ = range_with_len run.0 run.1 in
    let covered : (b : ℕ) → run.0 ≤ b → b < until → Contains (all ++ more) b = λ b low high.
    elim (cases_lt b end) [
      | inl under ↦ Contains-append_left all more b (t.cover b low under)
      | inr over ↦
          Contains-append_right all more b
          (of_range from (until - from) b (omega (arith, low, over)) (omega (arith, high, higher)))
    ] in
    let Low : ℕ → Type 0 = λ b. b < until in
    let inside : All Low more = λ k d less.
    let c =
    in_range from (until - from) (get_or more k d) (k, less, get_or_default more k _ d less) in
    omega (arith, c.1, higher) in
    let lower : All (λ b. b < from) all =
    All-weaker (λ b. b < end) (λ b. b < from) (λ b h. omega (arith, h)) all m.below in
    record {
      fits = fits;
      up = subst IsStrictlyIncreasing (sym is) (more_ascends all from (until - from) m.up lower);
      below = subst (All Low) (sym is)
          (All-append Low all more
          (All-weaker (λ b. b < end) Low (λ b h. omega (arith, h, higher)) all m.below) inside);
      listed = λ b. (
        λ c. subst (λ (l : List ℕ). Contains l b) (sym t.before)
            (elim (Contains-append_cases all more b (subst (λ (l : List ℕ). Contains l b) is c)) [
              | inl old ↦ Contains-append_left front own b ((m.listed b).0 old)
              | inr new ↦
                  let r = in_range from (until - from) b new in
                  Contains-append_right front own b
                  (of_range run.0 run.1 b (omega (arith, r.0)) (omega (arith, r.1, higher)))
            ]),
        λ c. subst (λ (l : List ℕ). Contains l b) (sym is)
            (elim (Contains-append_cases front own b
            (subst (λ (l : List ℕ). Contains l b) t.before c)) [
              | inl old ↦ Contains-append_left all more b ((m.listed b).1 old)
              | inr new ↦ let r = in_range run.0 run.1 b new in covered b r.0 r.1
            ]),
      );
      cover = λ b d low high.
          subst (λ (l : List ℕ). Contains l b) (sym is)
          (covered b (omega (arith, low, t.first d)) high);
    }

-- one that doesn't
pub same_merged : (runs : List (ℕ × ℕ)) (i : ℕ) (all : List ℕ) (end : ℕ) (run : ℕ × ℕ)
    → IsNonDecreasingBy (λ r. r.0) runs
    → Merged runs i all end
    → i < length runs
    → run ≡ get_or runs i run
    → run.0 + run.1 ≤ end
    → Merged runs (i + 1) all end
same_merged runs i all end run up m lt at lower =
    let t = taken runs i all end run up m lt at in
    let front : List ℕ = blocks_of_runs (take i runs) in
    let own : List ℕ = range_with_len run.0 run.1 in
    record {
      fits = m.fits;
      up = m.up;
      below = m.below;
      listed = λ b. (
        λ c. subst (λ (l : List ℕ). Contains l b) (sym t.before)
            (Contains-append_left front own b ((m.listed b).0 c)),
        λ c. elim
            (Contains-append_cases front own b (subst (λ (l : List ℕ). Contains l b) t.before c)) [
              | inl old ↦ (m.listed b).1 old
              | inr new ↦
                  let r = in_range run.0 run.1 b new in t.cover b r.0 (omega (arith, r.1, lower))
            ],
      );
      cover = λ b d low high. t.cover b (omega (arith, low, t.first d)) high;
    }

pub all_ascend : (runs : List (ℕ × ℕ)) (i : ℕ) (all : List ℕ) (end : ℕ)
    → Merged runs i all end
    → IsAscending all
all_ascend runs i all end m = record {
  ascends = m.up;
  few = omega (arith, few_below all end m.up m.below, m.fits);
}

pub all_listed : (runs : List (ℕ × ℕ)) (i : ℕ) (all : List ℕ) (end : ℕ)
    → Merged runs i all end
    → length runs ≤ i
    → (b : ℕ) → Contains all b ↔ Contains (blocks_of_runs runs) b
all_listed runs i all end m le b =
    let whole : blocks_of_runs (take i runs) ≡ blocks_of_runs runs =
    ap blocks_of_runs (take_all i runs le) in
    let l = m.listed b in (
      λ c. subst (λ (xs : List ℕ). Contains xs b) whole (l.0 c),
      λ c. l.1 (subst (λ (xs : List ℕ). Contains xs b) (sym whole) c),
    )

-- runs in another order have the same blocks
pub same_listed : (xs ys : List (ℕ × ℕ)) (b : ℕ)
    → IsPermutation xs ys
    → Contains (blocks_of_runs xs) b ↔ Contains (blocks_of_runs ys) b
same_listed xs ys b moved =
    let p : ℕ → Bool = λ x. eqb x b in
    let test : ℕ × ℕ → Bool = λ run. list_any p (range_with_len run.0 run.1) in
    let same : list_any p (blocks_of_runs xs) ≡ list_any p (blocks_of_runs ys) =
    any_runs p xs ∙ list_any-IsPermutation test xs ys moved ∙ sym (any_runs p ys) in (
      λ c. listed_once (blocks_of_runs ys) b (sym same ∙ listed_then (blocks_of_runs xs) b c),
      λ c. listed_once (blocks_of_runs xs) b (same ∙ listed_then (blocks_of_runs ys) b c),
    )
