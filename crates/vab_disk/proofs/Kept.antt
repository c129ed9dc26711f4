-- What one call more makes of the outcomes of a port in memory.
use Rattle.std.proofs.Common.{◌≡◌, ◌⊎◌, inl, inr, ⊎_elim, ℕ, ◌≤◌, List, [], ◌∷◌, ◌++◌, length, take}
use Rattle.std.proofs.Common.{drop, reverse, sym, ◌∙◌, ap, subst, arith}
use Rattle.std.proofs.lemmas.List.{reverse-append, take-append-drop, drop_all}
use Rattle.vab_disk.specs.Disk.{Outcome}
use Rattle.vab_disk.specs.Memory.{Holds, LeavesNow, LeftSince, calls_of, earlier_of}
use Rattle.vab_disk.specs.MemoryLaws.{seen_holds, left_now}
use Rattle.vab_disk.specs.declared.record.Call.{Call}
use Rattle.vab_disk.specs.declared.record.Call.TheVariants.{Synced}

module _ (count : ℕ) (earlier earlier' calls calls' : List Call) (c : Call)
    (same : earlier' ≡ earlier) (more : calls' ≡ c ∷ calls) where
  pub longer : length calls ≤ length calls'
  longer = subst (λ (l : List Call). length calls ≤ length l) (sym more) (omega arith)

  pub kept : (t : ℕ) (o : Outcome)
      → t ≤ length calls
      → LeftSince count earlier calls t o
      → LeftSince count earlier' calls' t o
  kept t o le was =
      let now : LeftSince count earlier (c ∷ calls) t o = inr (le, was) in
      subst (λ (l : List Call). LeftSince count l calls' t o) (sym same)
      (subst (λ (l : List Call). LeftSince count earlier l t o) (sym more) now)

  pub or_now : (t : ℕ) (o : Outcome)
      → LeftSince count earlier' calls' t o
      → LeftSince count earlier calls t o ⊎ LeavesNow count earlier (c ∷ calls) o
  or_now t o left = now_or_was (subst (λ (l : List Call). LeftSince count l (c ∷ calls) t o) same
      (subst (λ (l : List Call). LeftSince count earlier' l t o) more left))
    where
      now_or_was : LeftSince count earlier (c ∷ calls) t o
          → LeftSince count earlier calls t o ⊎ LeavesNow count earlier (c ∷ calls) o
      now_or_was (inl now) = inr now
      now_or_was (inr was) = inl was.1

  -- where the call leaves nothing that could not be left before
  pub no_more : ((o : Outcome) → LeavesNow count earlier (c ∷ calls) o
      → LeavesNow count earlier calls o)
      → (t : ℕ) (o : Outcome)
      → LeftSince count earlier' calls' t o
      → LeftSince count earlier calls t o
  no_more leaves t o left = ⊎_elim (λ was. was)
      (λ now. left_now count earlier calls t o (leaves o now)) (or_now t o left)

-- after a sync a crash leaves what could be left before
pub synced_leaves : (count : ℕ) (earlier calls : List Call) (o : Outcome)
    → LeavesNow count earlier (Synced ∷ calls) o
    → LeavesNow count earlier calls o
synced_leaves count earlier calls o leaves = record {
  told_so_far = leaves.told_so_far;
  each_sector = λ s. subst (Holds count (calls ++ earlier) s) (sym (leaves.each_sector s))
      (seen_holds count (calls ++ earlier) s);
}

-- The runs taken together, wherever the last of them began.
pub all_calls : (begun : ℕ) (calls : List Call)
    → calls_of begun calls ++ earlier_of begun calls ≡ reverse calls
all_calls begun calls = sym (reverse-append (take begun calls) (drop begun calls))
    ∙ ap (λ (l : List Call). reverse l) (take-append-drop begun calls)

pub same_calls : (begun begun' : ℕ) (calls : List Call)
    → calls_of begun calls ++ earlier_of begun calls ≡ calls_of begun' calls
    ++ earlier_of begun' calls
same_calls begun begun' calls = all_calls begun calls ∙ sym (all_calls begun' calls)

-- a run that begins now has no call yet
pub none_yet : (begun : ℕ) (calls : List Call) → length calls ≤ begun → calls_of begun calls ≡ []
none_yet begun calls le = ap (λ (l : List Call). reverse l) (drop_all begun calls le)
