-- The sectors of an update's statuses, and what they hold.
use Rattle.std.specs.Prelude.{◌≡◌, ◌≢◌, ◌⊎◌, ℕ, zero, suc, ◌+◌, ◌-◌, Bool, true, false, List}
use Rattle.std.specs.Prelude.{[], ◌∷◌, ◌++◌, length, replicate, slice_set, if◌then◌else◌}
use Rattle.std.specs.Prelude.{Option, Some, None, Result, Ok, Err}
use Rattle.std.specs.List.{All, AllPairs, list_any}
use Rattle.std.specs.Str.{bytes_eq}
use Rattle.vab_disk.specs.Disk.{Image}
use Rattle.vab_disk.specs.Calls.{IsBetween}
use Rattle.vab_marks.specs.declared.sector.MarkFault.{MarkFault}
use Rattle.vab_marks.specs.declared.status.PartStatus.{PartStatus}
use Rattle.vab_marks.specs.declared.version.MarkVersion.{MarkVersion}
use Rattle.vab_marks.specs.declared.version.MarkVersion.TheVariants.{One, Two}
use Rattle.vab_marks.specs.Sector.{are_zeros}
use Rattle.vab_marks.specs.Status.{FitsStatus, status_of}
use Rattle.vab_marks.specs.Version.{partitions_under}

-- how many sectors hold statuses, where the mark has version 2
abbrev pub status_sectors : ℕ
status_sectors = partitions_under Two

-- the first of them
abbrev pub first_status : ℕ
first_status = 2049

-- one of them
abbrev pub IsOfStatuses : ℕ → Type 0
IsOfStatuses s = IsBetween first_status (first_status + status_sectors) s

-- ---- one sector

abbrev pub some_status : Result PartStatus MarkFault → Result (Option PartStatus) MarkFault
some_status (Ok s) = Ok (Some s)
some_status (Err fault) = Err fault

-- the status in the bytes of a sector, none where they are all zeros, or the first fault
abbrev pub status_read : List ℕ → Result (Option PartStatus) MarkFault
status_read bytes = if are_zeros bytes then Ok None else some_status (status_of bytes)

-- a status has a spelling
abbrev pub FitsEntry : Option PartStatus → Type 0
FitsEntry (Some s) = FitsStatus s
FitsEntry None = Unit {0}

-- ---- statuses in the order of their sectors

abbrev pub has_name : List ℕ → Option PartStatus → Bool
has_name name (Some s) = bytes_eq s.name name
has_name name None = false

-- one of these has the name
abbrev pub is_named : List ℕ → List (Option PartStatus) → Bool
is_named name statuses = list_any (has_name name) statuses

-- the statuses that there are
abbrev pub written_in : List (Option PartStatus) → List PartStatus
written_in [] = []
written_in (None ∷ rest) = written_in rest
written_in (Some s ∷ rest) = s ∷ written_in rest

-- the first with this name
abbrev pub status_named : List ℕ → List PartStatus → Option PartStatus
status_named name [] = None
status_named name (s ∷ rest) = if bytes_eq s.name name then Some s else status_named name rest

-- the first place without a status, where the first of these stands at that place
abbrev pub free_from : ℕ → List (Option PartStatus) → Option ℕ
free_from at [] = None
free_from at (None ∷ rest) = Some at
free_from at (Some s ∷ rest) = free_from (at + 1) rest

-- the first sector without a status
abbrev pub free_in : List (Option PartStatus) → Option ℕ
free_in statuses = free_from first_status statuses

-- these, with a status in this sector
abbrev pub with_status : List (Option PartStatus) → ℕ → PartStatus → List (Option PartStatus)
with_status statuses at s = slice_set statuses (at - first_status) (Some s)

-- two statuses are of partitions of other names
abbrev pub AreOther : Option PartStatus → Option PartStatus → Type 0
AreOther (Some a) (Some b) = a.name ≢ b.name
AreOther (Some a) None = Unit {0}
AreOther None b = Unit {0}

-- no two of them are of one name
abbrev pub NamesDiffer : List (Option PartStatus) → Type 0
NamesDiffer statuses = AllPairs AreOther statuses

abbrev pub AreFitting : List (Option PartStatus) → Type 0
AreFitting statuses = All FitsEntry statuses

-- ---- the sectors of a disk

-- a status of a partition that one of these names
abbrev pub repeats : Option PartStatus → List (Option PartStatus) → Bool
repeats None done = false
repeats (Some s) done = is_named s.name done

abbrev pub entry_read : ℕ → List (Option PartStatus) → Result (Option PartStatus) MarkFault
    → Result (Option PartStatus) ℕ
entry_read at done (Ok status) = if repeats status done then Err at else Ok status
entry_read at done (Err fault) = Err at

-- what a sector has, behind those before it; where it is bad, its number
abbrev pub entry_of : ℕ → List (Option PartStatus) → List ℕ → Result (Option PartStatus) ℕ
entry_of at done bytes = entry_read at done (status_read bytes)

abbrev pub go_on : Result (Option PartStatus) ℕ
    → (Option PartStatus → Result (List (Option PartStatus)) ℕ)
    → Result (List (Option PartStatus)) ℕ
go_on (Ok status) rest = rest status
go_on (Err at) rest = Err at

-- those so far, and those of so many sectors more
unfoldable pub statuses_from : ℕ → Image → List (Option PartStatus)
    → Result (List (Option PartStatus)) ℕ
statuses_from zero image done = Ok done
statuses_from (suc n) image done =
    go_on (entry_of (first_status + length done) done (image (first_status + length done)))
    (λ status. statuses_from n image (done ++ status ∷ []))

-- What the first so many sectors hold, in their order; or the first sector that is neither all
-- zeros nor a status, or that names a partition which a sector before it names.
unfoldable pub statuses_of : (count : ℕ) → Image → Result (List (Option PartStatus)) ℕ
statuses_of count image = statuses_from count image []

-- what all of them hold
abbrev pub statuses_in : Image → Result (List (Option PartStatus)) ℕ
statuses_in image = statuses_of status_sectors image

-- these, and none behind them, as many as there are sectors
abbrev pub filled : Result (List (Option PartStatus)) ℕ → Result (List (Option PartStatus)) ℕ
filled (Ok l) = Ok (l ++ replicate (status_sectors - partitions_under One) None)
filled (Err at) = Err at

-- What they hold where the mark has this version: under version 1 the last 32 aren't read, and have
-- none.
abbrev pub statuses_under : MarkVersion → Image → Result (List (Option PartStatus)) ℕ
statuses_under One image = filled (statuses_of (partitions_under One) image)
statuses_under Two image = statuses_in image

-- no status in any of the sectors
unfoldable pub no_statuses : List (Option PartStatus)
no_statuses = replicate status_sectors None

-- the first of the sectors that is all zeros
abbrev pub IsFirstFree : Image → Option ℕ → Type 0
IsFirstFree image (Some at) =
    IsOfStatuses at
    × (are_zeros (image at) ≡ true)
    × ((s : ℕ) → IsBetween first_status at s → are_zeros (image s) ≡ false)
IsFirstFree image None = (s : ℕ) → IsOfStatuses s → are_zeros (image s) ≡ false

-- the last of them
abbrev pub last_status : ℕ
last_status = first_status + status_sectors - 1

-- that one, or the last where there is none
abbrev pub IsFreeOrLast : Image → ℕ → Type 0
IsFreeOrLast image at = IsFirstFree image (Some at) ⊎ ((at ≡ last_status) × IsFirstFree image None)

abbrev pub or_last : Option ℕ → ℕ
or_last (Some at) = at
or_last None = last_status
