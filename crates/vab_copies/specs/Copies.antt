-- A text that is kept twice.
use Rattle.std.specs.Prelude.{◌≡◌, ◌⊎◌, ◌<◌, ◌≤◌, ◌+◌, ◌-◌, ◌*◌, ℕ, List, ◌++◌, length, take, drop}
use Rattle.std.specs.Prelude.{replicate, if◌then◌else◌, nat_lt, nat_le, ◌&&◌}
use Rattle.vab_disk.specs.Disk.{Image, Outcome, IsAt}

-- a sector of zeros
abbrev pub zeros : List ℕ
zeros = replicate 512 0

-- the k-th sector of a text, filled up with zeros
abbrev pub text_sector : List ℕ → ℕ → List ℕ
text_sector text k =
    take 512 (drop (512 * k) text) ++ replicate (512 - length (take 512 (drop (512 * k) text))) 0

-- the image with a text in n sectors from here on
abbrev pub with_text : ℕ → List ℕ → Image → ℕ → Image
with_text n text image at =
    λ s. if nat_le at s && nat_lt s (at + n) then text_sector text (s - at) else image s

-- and without its first j sectors
abbrev pub with_rest : ℕ → ℕ → List ℕ → Image → ℕ → Image
with_rest j n text image at =
    λ s. if nat_le (at + j) s && nat_lt s (at + n) then text_sector text (s - at) else image s

-- not one of n sectors from here on
abbrev pub IsOutside : ℕ → ℕ → ℕ → Type 0
IsOutside at n s = (s < at) ⊎ (at + n ≤ s)

-- one of n sectors from here on but the first j, with its part of the text
pub record IsOfText (j n at : ℕ) (text : List ℕ) (s : ℕ) (b : List ℕ) : Type 0 where
  pub first : at + j ≤ s
  pub last : s < at + n
  pub here : b ≡ text_sector text (s - at)

-- what is written while a copy is: the text's sectors, and zeros in the place of the first
abbrev pub IsOfCopy : ℕ → ℕ → List ℕ → ℕ → List ℕ → Type 0
IsOfCopy n at text s b = IsOfText 0 n at text s b ⊎ IsAt at zeros s b

-- and while two copies are
abbrev pub IsOfEither : ℕ → ℕ → ℕ → List ℕ → ℕ → List ℕ → Type 0
IsOfEither n primary backup text s b = IsOfCopy n primary text s b ⊎ IsOfCopy n backup text s b

-- While a copy is written it is the old one, or one that begins with zeros, or the new one. All
-- else stays.
pub record LeavesCopy (told : List ℕ) (old new : Image) (at n : ℕ) (o : Outcome) : Type 0 where
  pub told_so_far : o.told ≡ told
  pub others : (s : ℕ) → IsOutside at n s → o.image s ≡ old s
  pub copy : (o.image ≡ old) ⊎ ((o.image at ≡ zeros) ⊎ (o.image ≡ new))

-- the n sectors from here on are those of the old image
abbrev pub IsKept : ℕ → ℕ → Image → Image → Type 0
IsKept n at old image = (k : ℕ) → k < n → image (at + k) ≡ old (at + k)

-- they are a text's
abbrev pub HoldsText : ℕ → ℕ → List ℕ → Image → Type 0
HoldsText n at text image = (k : ℕ) → k < n → image (at + k) ≡ text_sector text k

-- the first of them is zeros
abbrev pub BeginsWithZeros : ℕ → Image → Type 0
BeginsWithZeros at image = image at ≡ zeros

-- How two copies stand while first the primary and then the backup is written: one of them is
-- always whole.
pub data StandCopies (n primary backup : ℕ) (text : List ℕ) (old image : Image) : Type 0 where
  both_old : IsKept n primary old image
      → IsKept n backup old image
      → StandCopies n primary backup text old image
  primary_torn : BeginsWithZeros primary image
      → IsKept n backup old image
      → StandCopies n primary backup text old image
  primary_new : HoldsText n primary text image
      → IsKept n backup old image
      → StandCopies n primary backup text old image
  backup_torn : HoldsText n primary text image
      → BeginsWithZeros backup image
      → StandCopies n primary backup text old image
  both_new : HoldsText n primary text image
      → HoldsText n backup text image
      → StandCopies n primary backup text old image

-- with nothing more told, and all else as before
pub record LeavesCopies
    (told : List ℕ) (old : Image) (n primary backup : ℕ) (text : List ℕ) (o : Outcome)
    : Type 0 where
  pub told_so_far : o.told ≡ told
  pub others : (s : ℕ) → IsOutside primary n s → IsOutside backup n s → o.image s ≡ old s
  pub copies : StandCopies n primary backup text old o.image
