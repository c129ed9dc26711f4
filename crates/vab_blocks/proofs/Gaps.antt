-- The numbers between runs that ascend.
use Rattle.std.proofs.Common.{◌≡◌, ℕ, zero, suc, ◌+◌, ◌-◌, ◌^◌, ◌<◌, ◌≤◌, Bool, true, false, cond}
use Rattle.std.proofs.Common.{not}
use Rattle.std.proofs.Common.{eqb, List, [], ◌∷◌, ◌++◌, length, get_or, refl, sym, ap, subst, ◌∙◌}
use Rattle.std.proofs.Common.{append_assoc, inl, inr, add-zero, arith}
use Rattle.std.specs.Prelude.{min, All, AllPairs, Contains}
use Rattle.std.specs.List.{list_any, range_with_len}
use Rattle.std.specs.List.Sorted.{IsStrictlyIncreasing}
use Rattle.std.proofs.lemmas.Bool.{cases_lt, cases_eq, cases_Bool}
use Rattle.std.proofs.lemmas.List.{append-nil, get_or_default}
use Rattle.std.proofs.lemmas.List.Elements.{All-contains_itself}
use Rattle.vab_blocks.specs.Blocks.{free_below}
use Rattle.vab_blocks.specs.Runs.{runs_of, blocks_of_runs, IsAscending}
use Rattle.vab_blocks.proofs.RunLaws.{range_push, runs_again, runs_some}
use Rattle.vab_blocks.proofs.BlockLaws.{free_none, free_more, free_taken, free_ascends, is_free}
use Rattle.vab_blocks.proofs.BlockLaws.{in_range, listed_once, listed_then, some_piece}
use Rattle.vab_blocks.proofs.Ascending.{few_below, run_has, runs_ascend}

-- ---- free numbers up to a higher bound

next_free : (cap : ℕ) (taken : List ℕ)
    → (Contains taken cap → ⊥)
    → free_below (cap + 1) taken ≡ free_below cap taken ++ cap ∷ []
next_free cap taken absent =
    let there : list_any (λ x. eqb x cap) taken ≡ false =
    elim (cases_Bool (list_any (λ x. eqb x cap) taken)) [
      | inl t ↦ absurd (absent (listed_once taken cap t))
      | inr f ↦ f
    ] in
    let one : cond (not (list_any (λ x. eqb x cap) taken)) (cap ∷ []) [] ≡ cap ∷ [] =
    ap (λ (b : Bool). cond (not b) (cap ∷ []) []) there in
    free_more cap taken ∙ ap (λ (l : List ℕ). free_below cap taken ++ l) one

-- none of these numbers is taken
free_between : (a n : ℕ) (taken : List ℕ)
    → ((x : ℕ) → a ≤ x → x < a + n → Contains taken x → ⊥)
    → free_below (a + n) taken ≡ free_below a taken ++ range_with_len a n
free_between a zero taken absent =
    ap (λ (k : ℕ). free_below k taken) (add-zero a) ∙ sym (append-nil (free_below a taken))
free_between a (suc n) taken absent =
    let k : a + suc n ≡ a + n + 1 = omega arith in
    let s : n + 1 ≡ suc n = omega arith in
    let front = free_between a n taken (λ x low high. absent x low (omega (arith, high))) in
    let here = next_free (a + n) taken (absent (a + n) (omega arith) (omega arith)) in
    let range = sym (range_push a n) ∙ ap (range_with_len a) s in
    ap (λ (j : ℕ). free_below j taken) k ∙ here
    ∙ ap (λ (l : List ℕ). l ++ (a + n) ∷ []) front
    ∙ append_assoc (free_below a taken) (range_with_len a n) ((a + n) ∷ [])
    ∙ ap (λ (l : List ℕ). free_below a taken ++ l) range

-- all of these are
free_within : (a n : ℕ) (taken : List ℕ)
    → ((x : ℕ) → a ≤ x → x < a + n → Contains taken x)
    → free_below (a + n) taken ≡ free_below a taken
free_within a zero taken all = ap (λ (k : ℕ). free_below k taken) (add-zero a)
free_within a (suc n) taken all =
    let k : a + suc n ≡ a + n + 1 = omega arith in
    let front = free_within a n taken (λ x low high. all x low (omega (arith, high))) in
    let listed = listed_then taken (a + n) (all (a + n) (omega arith) (omega arith)) in
    ap (λ (j : ℕ). free_below j taken) k ∙ free_taken (a + n) taken listed ∙ front

-- ---- a loop over the runs of what is taken

-- The free numbers below a place: the runs in front of it end there at the latest, and the others
-- begin there at the earliest.
pub record Gaps (cap : ℕ) (taken : List ℕ) (i : ℕ) (free : List ℕ) (at : ℕ) : Type 0 where
  pub made : free ≡ free_below (min at cap) taken
  pub ends : (k : ℕ) (d : ℕ × ℕ) → k < i → k < length (runs_of taken)
      → (get_or (runs_of taken) k d).0 + (get_or (runs_of taken) k d).1 ≤ at
  pub begins : (k : ℕ) (d : ℕ × ℕ) → i ≤ k → k < length (runs_of taken)
      → at ≤ (get_or (runs_of taken) k d).0

pub no_gaps : (cap : ℕ) (taken free : List ℕ) → free ≡ [] → Gaps cap taken 0 free 0
no_gaps cap taken free none =
    let k : 0 ≡ min 0 cap = omega arith in
    record {
      made = none ∙ sym (free_none taken) ∙ ap (λ (j : ℕ). free_below j taken) k;
      ends = λ k d lt len. absurd (omega (arith, lt));
      begins = λ k d le len. omega arith;
    }

-- a number between the runs in front of a place and those behind another is not taken
not_taken : (cap : ℕ) (taken : List ℕ) (i : ℕ) (free : List ℕ) (at x : ℕ)
    → Gaps cap taken i free at
    → at ≤ x
    → ((k : ℕ) (d : ℕ × ℕ) → i ≤ k → k < length (runs_of taken)
    → x < (get_or (runs_of taken) k d).0)
    → Contains taken x
    → ⊥
not_taken cap taken i free at x g low above c =
    let rs : List (ℕ × ℕ) = runs_of taken in
    let f : ℕ × ℕ → List ℕ = λ run. range_with_len run.0 run.1 in
    let there : Contains (blocks_of_runs rs) x =
    subst (λ (l : List ℕ). Contains l x) (sym (runs_again taken)) c in
    let a = some_piece f rs x there in
    let k : ℕ = a.0 in
    let run : ℕ × ℕ = a.1 in
    let lt : k < length rs = a.2 in
    let is : get_or rs k run ≡ run = a.3 in
    let r = in_range run.0 run.1 x a.4 in
    let first = ap (λ (q : ℕ × ℕ). q.0) is in
    let end = ap (λ (q : ℕ × ℕ). q.0 + q.1) is in
    elim (cases_lt k i) [
      | inl front ↦ omega (arith, g.ends k run front lt, end, r.1, low)
      | inr back ↦ omega (arith, above k run back lt, first, r.0)
    ]

-- the gap in front of a run
gap_is : (cap : ℕ) (taken : List ℕ) (i : ℕ) (free new : List ℕ) (at to : ℕ)
    → Gaps cap taken i free at
    → to ≤ cap
    → ((k : ℕ) (d : ℕ × ℕ) → i ≤ k → k < length (runs_of taken)
    → to ≤ (get_or (runs_of taken) k d).0)
    → (to < at → cap ≤ to)
    → new ≡ free ++ range_with_len at (to - at)
    → new ≡ free_below to taken
gap_is cap taken i free new at to g within above past pushed = elim (cases_lt to at) [
  | inl passed ↦
      let none : to - at ≡ 0 = omega (arith, passed) in
      let end : min at cap ≡ to = omega (arith, passed, within, past passed) in
      pushed ∙ ap (λ (k : ℕ). free ++ range_with_len at k) none ∙ append-nil free ∙ g.made
      ∙ ap (λ (k : ℕ). free_below k taken) end
  | inr under ↦
      let start : min at cap ≡ at = omega (arith, under, within) in
      let sum : at + (to - at) ≡ to = omega (arith, under) in
      let absent : (x : ℕ) → at ≤ x → x < at + (to - at) → Contains taken x → ⊥ = λ x low high.
      not_taken cap taken i free at x g low
      (λ k d le lt. omega (arith, above k d le lt, high, sum)) in
      pushed
      ∙ ap (λ (l : List ℕ). l ++ range_with_len at (to - at))
      (g.made ∙ ap (λ (k : ℕ). free_below k taken) start)
      ∙ sym (free_between at (to - at) taken absent)
      ∙ ap (λ (k : ℕ). free_below k taken) sum
]

-- one run more
pub next_gap : (cap : ℕ) (taken : List ℕ) (i : ℕ) (free new : List ℕ) (at : ℕ) (run : ℕ × ℕ)
    → IsStrictlyIncreasing taken
    → Gaps cap taken i free at
    → i < length (runs_of taken)
    → run ≡ get_or (runs_of taken) i run
    → new ≡ free ++ range_with_len at (min run.0 cap - at)
    → Gaps cap taken (i + 1) new (run.0 + run.1)
next_gap cap taken i free new at run up g lt is pushed =
    let rs : List (ℕ × ℕ) = runs_of taken in
    let again : IsStrictlyIncreasing (blocks_of_runs rs) =
    subst IsStrictlyIncreasing (sym (runs_again taken)) up in
    let order : AllPairs (λ a b. a.0 + a.1 ≤ b.0) rs = runs_ascend rs (runs_some taken) again in
    let here : (d : ℕ × ℕ) → get_or rs i d ≡ run = λ d. get_or_default rs i d run lt ∙ sym is in
    let first : (d : ℕ × ℕ) → (get_or rs i d).0 ≡ run.0 = λ d. ap (λ (q : ℕ × ℕ). q.0) (here d) in
    let end : (d : ℕ × ℕ) → (get_or rs i d).0 + (get_or rs i d).1 ≡ run.0 + run.1 = λ d.
    ap (λ (q : ℕ × ℕ). q.0 + q.1) (here d) in
    let to : ℕ = min run.0 cap in
    let begun : at ≤ run.0 = omega (arith, g.begins i run (omega arith) lt, first run) in
    let above : (k : ℕ) (d : ℕ × ℕ) → i ≤ k → k < length rs
    → run.0 ≤ (get_or rs k d).0 = λ k d le len.
    elim (cases_eq i k) [
      | inl e ↦ omega (arith, first d, ap (λ (j : ℕ). (get_or rs j d).0) e)
      | inr ne ↦ omega (arith, order i k d (omega (arith, ne, le)) len, end d)
    ] in
    let gap : new ≡ free_below to taken =
    gap_is cap taken i free new at to g (omega arith)
    (λ k d le len. omega (arith, above k d le len)) (λ passed. omega (arith, passed, begun)) pushed
    in
    let rest : ℕ = min (run.0 + run.1) cap - to in
    let sum : to + rest ≡ min (run.0 + run.1) cap = omega arith in
    let own : (x : ℕ) → to ≤ x → x < to + rest → Contains taken x = λ x low high.
    subst (λ (l : List ℕ). Contains l x) (runs_again taken)
    (run_has rs i run x lt (omega (arith, first run, low, high, sum))
    (omega (arith, end run, high, sum))) in
    record {
      made = gap ∙ sym (free_within to rest taken own) ∙ ap (λ (k : ℕ). free_below k taken) sum;
      ends = λ k d less len. elim (cases_eq k i) [
        | inl e ↦
            omega (arith, end d, ap (λ (j : ℕ). (get_or rs j d).0 + (get_or rs j d).1) e)
        | inr ne ↦
            let low : k < i = omega (arith, ne, less) in
            omega (arith, order k i d low lt, first d)
      ];
      begins = λ k d le len. omega (arith, order i k d (omega (arith, le)) len, end d);
    }

-- behind the last run
pub last_gap : (cap : ℕ) (taken : List ℕ) (i : ℕ) (free new : List ℕ) (at : ℕ)
    → Gaps cap taken i free at
    → length (runs_of taken) ≤ i
    → new ≡ free ++ range_with_len at (cap - at)
    → new ≡ free_below cap taken
last_gap cap taken i free new at g le pushed =
    gap_is cap taken i free new at cap g (omega arith)
    (λ k d low len. absurd (omega (arith, low, len, le))) (λ _. omega arith) pushed

-- free numbers ascend, and are no more than the bound
pub free_is_ascending : (cap : ℕ) (taken : List ℕ) → cap < 2 ^ 64
    → IsAscending (free_below cap taken)
free_is_ascending cap taken lt =
    let xs : List ℕ = free_below cap taken in
    let below : All (λ b. b < cap) xs = λ k d less.
    let b : ℕ = get_or xs k d in
    ((is_free cap taken b).0 (k, less, get_or_default xs k b d less)).0 in
    record {
      ascends = free_ascends cap taken;
      few = omega (arith, few_below xs cap (free_ascends cap taken) below, lt);
    }
