-- What a port in memory holds is whole sectors, and what a crash may leave is among them.
use Rattle.std.proofs.Common.{◌≡◌, inl, inr, ℕ, zero, suc, ◌+◌, ◌<◌, List, [], ◌∷◌}
use Rattle.std.proofs.Common.{length, drop, replicate, refl, arith, sym, subst, ◌∙◌}
use Rattle.std.proofs.Common.{get_or, get_or-drop, true, false, cond}
use Rattle.std.proofs.lemmas.List.{length-replicate}
use Rattle.std.proofs.lemmas.Bool.Decides.{nat_tests}
use Rattle.std.proofs.lemmas.Bool.{cases_eq}
use Rattle.vab_disk.specs.Disk.{IsSector, Outcome}
use Rattle.vab_disk.specs.Memory.{blank, seen_of, Holds, settled_of, LeavesNow, LeftSince}
use Rattle.vab_disk.specs.Memory.{LeavesSettledOrWritten, LeavesEachOfThem}
use Rattle.vab_disk.specs.Memory.{takes_new, blended}
use Rattle.vab_disk.specs.declared.memory.Blend.{Blend}
use Rattle.vab_disk.specs.Written.{set_here, set_there}
use Rattle.vab_disk.specs.declared.record.Call.{Call}
use Rattle.vab_disk.specs.declared.record.Call.TheVariants.{Read, Wrote, Synced, Heard, Said}

pub seen_holds : (count : ℕ) (calls : List Call) (s : ℕ)
    → Holds count calls s (seen_of count calls s)
seen_holds count [] s = refl
seen_holds count (Wrote at sector ∷ older) s = elim (cases_eq s at) [
  | inl here ↦ inr (here, set_here (seen_of count older) at sector.bytes s here)
  | inr other ↦ inl (subst (Holds count older s)
      (sym (set_there (seen_of count older) at sector.bytes s other)) (seen_holds count older s))
]
seen_holds count (Read at ∷ older) s = seen_holds count older s
seen_holds count (Synced ∷ older) s = refl
seen_holds count (Heard n ∷ older) s = seen_holds count older s
seen_holds count (Said bytes ∷ older) s = seen_holds count older s

pub left_now : (count : ℕ) (earlier calls : List Call) (t : ℕ) (o : Outcome)
    → LeavesNow count earlier calls o
    → LeftSince count earlier calls t o
left_now count earlier [] t o now = now
left_now count earlier (c ∷ older) t o now = inl now

pub left_only : (count : ℕ) (earlier calls : List Call) (o : Outcome)
    → LeftSince count earlier calls (length calls) o
    → LeavesNow count earlier calls o
left_only count earlier [] o left = left
left_only count earlier (c ∷ older) o (inl now) = now
left_only count earlier (c ∷ older) o (inr past) = absurd (omega (arith, past.0))

pub settled_holds : (count : ℕ) (calls : List Call) (s : ℕ)
    → Holds count calls s (settled_of count calls s)
settled_holds count [] s = refl
settled_holds count (Wrote at sector ∷ older) s = inl (settled_holds count older s)
settled_holds count (Read at ∷ older) s = settled_holds count older s
settled_holds count (Synced ∷ older) s = refl
settled_holds count (Heard n ∷ older) s = settled_holds count older s
settled_holds count (Said bytes ∷ older) s = settled_holds count older s

-- each blend of what a read gives and the settled sectors may be left
pub blend_holds : (blend : Blend) (count : ℕ) (calls : List Call) (s : ℕ)
    → Holds count calls s (blended blend (seen_of count calls) (settled_of count calls) s)
blend_holds blend count calls s =
    elim (takes_new blend s)
    as (λ b. Holds count calls s (cond b (seen_of count calls s) (settled_of count calls s))) [
      | true ↦ seen_holds count calls s
      | false ↦ settled_holds count calls s
    ]

blank_at : (count s : ℕ) → s < count → blank count s ≡ replicate 512 0
blank_at count s below = grind (arith, nat_tests)

get_or-same : (z n k : ℕ) → get_or (replicate n z) k z ≡ z
get_or-same z zero k = refl
get_or-same z (suc n) zero = refl
get_or-same z (suc n) (suc k) = get_or-same z n k

-- a sector of zeros
pub zeros_whole : IsSector (replicate 512 0)
zeros_whole = record {
  long = length-replicate {A = ℕ} 512 0;
  small = λ k. omega (arith, get_or-same 0 512 k);
}

-- what was written or what was there at first is a whole sector
pub seen_whole : (count : ℕ) (calls : List Call) (s : ℕ)
    → s < count
    → IsSector (seen_of count calls s)
seen_whole count [] s below = subst IsSector (sym (blank_at count s below)) zeros_whole
seen_whole count (Wrote at sector ∷ older) s below = elim (cases_eq s at) [
  | inl here ↦ subst IsSector (sym (set_here (seen_of count older) at sector.bytes s here))
      sector.whole
  | inr other ↦ subst IsSector (sym (set_there (seen_of count older) at sector.bytes s other))
      (seen_whole count older s below)
]
seen_whole count (Read at ∷ older) s below = seen_whole count older s below
seen_whole count (Synced ∷ older) s below = seen_whole count older s below
seen_whole count (Heard n ∷ older) s below = seen_whole count older s below
seen_whole count (Said bytes ∷ older) s below = seen_whole count older s below

pub held_whole : (count : ℕ) (calls : List Call) (s : ℕ) (b : List ℕ)
    → s < count
    → Holds count calls s b
    → IsSector b
held_whole count [] s b below is = subst IsSector (sym (is ∙ blank_at count s below)) zeros_whole
held_whole count (Wrote at sector ∷ older) s b below (inl was) =
    held_whole count older s b below was
held_whole count (Wrote at sector ∷ older) s b below (inr wrote) =
    subst IsSector (sym wrote.1) sector.whole
held_whole count (Read at ∷ older) s b below is = held_whole count older s b below is
held_whole count (Synced ∷ older) s b below is =
    subst IsSector (sym is) (seen_whole count older s below)
held_whole count (Heard n ∷ older) s b below is = held_whole count older s b below is
held_whole count (Said bytes ∷ older) s b below is = held_whole count older s b below is

-- what is left of bytes is bytes
pub dropped_bytes : (input : List ℕ) (n k : ℕ)
    → ((i : ℕ) → get_or input i 0 < 256)
    → get_or (drop n input) k 0 < 256
dropped_bytes input n k bytes =
    let at : get_or (drop n input) k 0
    ≡ get_or input (n + k) 0 = get_or-drop n input k 0 in omega (arith, bytes (n + k), at)

pub leaves_settled_or_written : LeavesSettledOrWritten
leaves_settled_or_written count [] s b held = inl held
leaves_settled_or_written count (Wrote at sector ∷ older) s b (inl held) =
    elim (leaves_settled_or_written count older s b held) [
      | inl settled ↦ inl settled
      | inr wrote ↦ inr (inl wrote)
    ]
leaves_settled_or_written count (Wrote at sector ∷ older) s b (inr here) = inr (inr here)
leaves_settled_or_written count (Synced ∷ older) s b held = inl held
leaves_settled_or_written count (Read at ∷ older) s b held =
    leaves_settled_or_written count older s b held
leaves_settled_or_written count (Heard n ∷ older) s b held =
    leaves_settled_or_written count older s b held
leaves_settled_or_written count (Said bytes ∷ older) s b held =
    leaves_settled_or_written count older s b held

pub leaves_each_of_them : LeavesEachOfThem
leaves_each_of_them count [] s b (inl is) = is
leaves_each_of_them count [] s b (inr none) = absurd none
leaves_each_of_them count (Wrote at sector ∷ older) s b (inl is) =
    inl (leaves_each_of_them count older s b (inl is))
leaves_each_of_them count (Wrote at sector ∷ older) s b (inr (inl wrote)) =
    inl (leaves_each_of_them count older s b (inr wrote))
leaves_each_of_them count (Wrote at sector ∷ older) s b (inr (inr here)) = inr here
leaves_each_of_them count (Synced ∷ older) s b (inl is) = is
leaves_each_of_them count (Synced ∷ older) s b (inr none) = absurd none
leaves_each_of_them count (Read at ∷ older) s b is = leaves_each_of_them count older s b is
leaves_each_of_them count (Heard n ∷ older) s b is = leaves_each_of_them count older s b is
leaves_each_of_them count (Said bytes ∷ older) s b is = leaves_each_of_them count older s b is
