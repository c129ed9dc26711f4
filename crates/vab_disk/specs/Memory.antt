-- What a port in memory holds, by the calls that took effect, the newest first.
use Rattle.std.specs.Prelude.{◌≡◌, ◌⊎◌, ℕ, ◌+◌, ◌≤◌, List, [], ◌∷◌, ◌++◌, length, take, drop}
use Rattle.std.specs.Prelude.{reverse, replicate, nat_lt, if◌then◌else◌, Option, Some, None}
use Rattle.std.specs.Prelude.{Bool, true, false, ◌%◌, ◌==◌}
use Rattle.vab_disk.specs.declared.memory.Blend.{Blend}
use Rattle.vab_disk.specs.declared.memory.Blend.TheVariants.{Old, New, Even, Odd}
use Rattle.vab_disk.specs.Disk.{Image, set_sector, Outcome, Hearing, Leaves, IsAt}
use Rattle.vab_disk.specs.Port.{heard_then}
use Rattle.vab_disk.specs.declared.record.Call.{Call}
use Rattle.vab_disk.specs.declared.record.Call.TheVariants.{Read, Wrote, Synced, Heard, Said}

-- the calls of this run, and of the runs before it, the newest first
abbrev pub calls_of : ℕ → List Call → List Call
calls_of begun calls = reverse (drop begun calls)

abbrev pub earlier_of : ℕ → List Call → List Call
earlier_of begun calls = reverse (take begun calls)

-- as many writes and syncs were made as are allowed
abbrev pub IsStopped : Option ℕ → ℕ → Type 0
IsStopped None writes = ⊥
IsStopped (Some count) writes = count ≤ writes

-- the sectors of a new port are zeros
abbrev pub blank : ℕ → Image
blank count = λ s. if nat_lt s count then replicate 512 0 else []

-- what a read gives
abbrev pub seen_of : ℕ → List Call → Image
seen_of count [] = blank count
seen_of count (Wrote at sector ∷ older) = set_sector (seen_of count older) at sector.bytes
seen_of count (Read at ∷ older) = seen_of count older
seen_of count (Synced ∷ older) = seen_of count older
seen_of count (Heard n ∷ older) = seen_of count older
seen_of count (Said bytes ∷ older) = seen_of count older

-- which bytes a crash may leave in a sector
abbrev pub Holds : ℕ → List Call → ℕ → List ℕ → Type 0
Holds count [] s b = b ≡ blank count s
Holds count (Wrote at sector ∷ older) s b = Holds count older s b ⊎ IsAt at sector.bytes s b
Holds count (Synced ∷ older) s b = b ≡ seen_of count older s
Holds count (Read at ∷ older) s b = Holds count older s b
Holds count (Heard n ∷ older) s b = Holds count older s b
Holds count (Said bytes ∷ older) s b = Holds count older s b

-- the settled sectors
abbrev pub settled_of : ℕ → List Call → Image
settled_of count [] = blank count
settled_of count (Synced ∷ older) = seen_of count older
settled_of count (Wrote at sector ∷ older) = settled_of count older
settled_of count (Read at ∷ older) = settled_of count older
settled_of count (Heard n ∷ older) = settled_of count older
settled_of count (Said bytes ∷ older) = settled_of count older

-- a sector has the last bytes that were written to it, and not the settled ones
abbrev pub takes_new : Blend → ℕ → Bool
takes_new Old s = false
takes_new New s = true
takes_new Even s = s % 2 == 0
takes_new Odd s = s % 2 == 1

abbrev pub blended : Blend → (new old : Image) → Image
blended blend new old = λ s. if takes_new blend s then new s else old s

-- the bytes told
abbrev pub told_of : List Call → List ℕ
told_of [] = []
told_of (Said bytes ∷ older) = told_of older ++ bytes.items
told_of (Wrote at sector ∷ older) = told_of older
told_of (Read at ∷ older) = told_of older
told_of (Synced ∷ older) = told_of older
told_of (Heard n ∷ older) = told_of older

-- how many bytes were heard
abbrev pub taken_of : List Call → ℕ
taken_of [] = 0
taken_of (Heard n ∷ older) = taken_of older + n
taken_of (Wrote at sector ∷ older) = taken_of older
taken_of (Read at ∷ older) = taken_of older
taken_of (Synced ∷ older) = taken_of older
taken_of (Said bytes ∷ older) = taken_of older

-- the hearings
abbrev pub heard_of : List ℕ → List Call → List Hearing
heard_of input [] = []
heard_of input (Heard n ∷ older) =
    heard_then (heard_of input older) (told_of older) (drop (taken_of older) input)
heard_of input (Wrote at sector ∷ older) = heard_of input older
heard_of input (Read at ∷ older) = heard_of input older
heard_of input (Synced ∷ older) = heard_of input older
heard_of input (Said bytes ∷ older) = heard_of input older

-- what a crash may leave after these calls of a run, and those of the runs before it
abbrev pub LeavesNow : ℕ → List Call → List Call → Outcome → Type 0
LeavesNow count earlier calls = Leaves (told_of calls) (Holds count (calls ++ earlier))

-- what a crash may have left since as many calls of the run
abbrev pub LeftSince : ℕ → List Call → List Call → ℕ → Outcome → Type 0
LeftSince count earlier [] t o = LeavesNow count earlier [] o
LeftSince count earlier (c ∷ older) t o =
    LeavesNow count earlier (c ∷ older) o ⊎ ((t ≤ length older) × LeftSince count earlier older t o)

-- these bytes were written to a sector after the last sync
abbrev pub IsWrittenSince : List Call → ℕ → List ℕ → Type 0
IsWrittenSince [] s b = ⊥
IsWrittenSince (Wrote at sector ∷ older) s b = IsWrittenSince older s b ⊎ IsAt at sector.bytes s b
IsWrittenSince (Synced ∷ older) s b = ⊥
IsWrittenSince (Read at ∷ older) s b = IsWrittenSince older s b
IsWrittenSince (Heard n ∷ older) s b = IsWrittenSince older s b
IsWrittenSince (Said bytes ∷ older) s b = IsWrittenSince older s b

-- What a crash may leave in a sector is its settled value, or one written since the last sync.
abbrev pub LeavesSettledOrWritten : Type 0
LeavesSettledOrWritten = (count : ℕ) (calls : List Call) (s : ℕ) (b : List ℕ)
    → Holds count calls s b
    → (b ≡ settled_of count calls s) ⊎ IsWrittenSince calls s b

abbrev pub LeavesEachOfThem : Type 0
LeavesEachOfThem = (count : ℕ) (calls : List Call) (s : ℕ) (b : List ℕ)
    → (b ≡ settled_of count calls s) ⊎ IsWrittenSince calls s b
    → Holds count calls s b
