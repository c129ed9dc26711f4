-- What marks and statuses share: a sector with a magic, a version, fields, zeros and a sum.
use Rattle.std.specs.Prelude.{ℕ, Bool, not, ◌==◌, if◌then◌else◌, List, ◌++◌, take}
use Rattle.std.specs.Prelude.{replicate, Option, Some, None, Result, Err}
use Rattle.std.specs.List.{list_all}
use Rattle.std.specs.Int.{w32, to_le_bytes}
use Rattle.std.specs.Str.{bytes_eq}
use Rattle.vab_bytes.specs.Number.{le_at}
use Rattle.vab_bytes.specs.Crc.{crc_of}
use Rattle.vab_marks.specs.declared.sector.MarkFault.{MarkFault}
use Rattle.vab_marks.specs.declared.sector.MarkFault.TheVariants.{BadMagic, BadVersion, BadSum}

-- so many zeros
unfoldable pub zeros : ℕ → List ℕ
zeros n = replicate n 0

abbrev pub are_zeros : List ℕ → Bool
are_zeros bytes = list_all (λ b. b == 0) bytes

-- these 508 bytes, and their sum
unfoldable pub sealed : List ℕ → List ℕ
sealed front = front ++ to_le_bytes w32 (crc_of front)

-- the first fault before the fields, where the version is one that is known or not
unfoldable pub head_fault : (magic : List ℕ) → (known : Bool) → List ℕ → Option MarkFault
head_fault magic known bytes =
    if not (bytes_eq (take 4 bytes) magic) then Some BadMagic
    else (if not known then Some BadVersion
    else (if not (le_at w32 bytes 508 == crc_of (take 508 bytes)) then Some BadSum
    else None))

-- that fault, or else what the fields say
abbrev pub unless : {A : Type 0} → Option MarkFault → Result A MarkFault → Result A MarkFault
unless (Some fault) fields = Err fault
unless None fields = fields
