-- The last exceptions that are merged together.
use Rattle.std.proofs.Common.{◌≡◌, inl, inr, ℕ, ◌+◌, ◌-◌, ◌≤◌, ◌<◌, List, length, subst, arith}
use Rattle.std.proofs.lemmas.Bool.{cases_lt}
use Rattle.vab_exceptions.specs.declared.area.Exception.{Exception}
use Rattle.vab_merge.specs.Run.{IsJoined, IsRun, IsLongest}

-- one exception more
pub run_more : (per : ℕ) (es : List Exception) (n first : ℕ)
    → IsRun per es n
    → n < length es
    → first ≡ length es - n - 1
    → IsJoined per es first
    → IsRun per es (n + 1)
run_more per es n first is below at joined = record {
  within = omega (arith, below);
  joined = λ j behind inside. elim (cases_lt j (length es - n)) [
    | inr later ↦ is.joined j (omega (arith, later, below)) inside
    | inl now ↦
        let same : first ≡ j = omega (arith, at, now, behind, below) in
        subst (IsJoined per es) same joined
  ];
}

pub run_one : (per : ℕ) (es : List Exception) → 0 < length es → IsRun per es 1
run_one per es some = record {
  within = omega (arith, some);
  joined = λ j behind inside. absurd (omega (arith, behind, inside));
}

pub run_none : (per : ℕ) (es : List Exception) (most : ℕ)
    → length es ≡ 0
    → IsLongest per es most 0
run_none per es most none = record {
  run = record {
    within = omega arith;
    joined = λ j behind inside. absurd (omega (arith, inside, none));
  };
  at_most = omega arith;
  longest = λ k le run. omega (arith, run.within, none);
}

-- a run ends where the next one before it isn't joined
pub run_ends : (per : ℕ) (es : List Exception) (most n first : ℕ)
    → IsRun per es n
    → n ≤ most
    → 0 < n
    → first ≡ length es - n - 1
    → (IsJoined per es first → ⊥)
    → IsLongest per es most n
run_ends per es most n first is le some at apart = record {
  run = is;
  at_most = le;
  longest = λ k k_le run. elim (cases_lt n k) [
    | inr fine ↦ fine
    | inl more ↦
        absurd (apart (run.joined first (omega (arith, at, more, run.within))
        (omega (arith, at, more, some, run.within))))
  ];
}

pub run_full : (per : ℕ) (es : List Exception) (most n : ℕ)
    → IsRun per es n
    → n ≤ most
    → length es ≤ n
    → IsLongest per es most n
run_full per es most n is le all = record {
  run = is;
  at_most = le;
  longest = λ k k_le run. omega (arith, run.within, all);
}

pub run_most : (per : ℕ) (es : List Exception) (most n : ℕ)
    → IsRun per es n
    → n ≤ most
    → most ≤ n
    → IsLongest per es most n
run_most per es most n is le all = record {
  run = is;
  at_most = le;
  longest = λ k k_le run. omega (arith, k_le, all);
}

-- fewer of the last
pub run_fewer : (per : ℕ) (es : List Exception) (n k : ℕ)
    → IsRun per es n
    → k ≤ n
    → IsRun per es k
run_fewer per es n k is le = record {
  within = omega (arith, is.within, le);
  joined = λ j behind inside. is.joined j (omega (arith, behind, le)) inside;
}
