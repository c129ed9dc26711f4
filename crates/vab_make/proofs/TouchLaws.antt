-- What the sectors that are touched leave alone.
use Rattle.std.proofs.Common.{◌≡◌, ◌⊎◌, inl, inr, ⊎_elim, ℕ, ◌+◌, ◌*◌, ◌/◌, ◌<◌, ◌≤◌, List, ap}
use Rattle.std.proofs.Common.{◌∙◌, arith}
use Rattle.vab_disk.specs.Disk.{Image}
use Rattle.vab_disk.specs.Calls.{IsBetween, InSectors, SameBut}
use Rattle.vab_geometry.specs.declared.geometry.Geometry.{Geometry}
use Rattle.vab_copies.specs.Copies.{IsOfCopy}
use Rattle.vab_lpstore.specs.Layout.{copy_sectors, primary_of, backup_of}
use Rattle.vab_set.specs.declared.set.SetImage.{SetImage}
use Rattle.vab_make.specs.Touched.{IsOfCopies, IsOfPlaces, IsOfContents}
use Rattle.vab_make.specs.Steps.{SameBelow, SameAround}

-- sectors around those that were touched
pub around : (at n : ℕ) (old new : Image)
    → SameBut (InSectors (IsBetween at (at + n))) old new
    → SameAround at n old new
around at n old new but s out =
    ⊎_elim (λ same. same)
    (λ w.
    absurd
    (⊎_elim (λ below. omega (arith, below, w.from)) (λ above. omega (arith, above, w.below)) out))
    (but s)

pub below_images : (n : ℕ) (old new : Image)
    → SameBut (InSectors (IsBetween 6144 (6144 + n))) old new
    → SameBelow 6144 old new
below_images n old new but s below = around 6144 n old new but s (inl below)

copies_below : (max s : ℕ) → s < 4120 → IsOfCopies max s → ⊥
copies_below max s below (IsOfCopies.of_primary is) = omega (arith, below, is.from)
copies_below max s below (IsOfCopies.of_backup is) = omega (arith, below, is.from)

pub below_copies : (max : ℕ) (old new : Image)
    → SameBut (InSectors (IsOfCopies max)) old new
    → SameBelow 4120 old new
below_copies max old new but s below =
    ⊎_elim (λ same. same) (λ w. absurd (copies_below max s below w)) (but s)

-- neither the mark's sector
pub never_mark : (set : List SetImage) (max : ℕ) → IsOfContents set max 2048 → ⊥
never_mark set max (IsOfContents.of_control is) = omega (arith, is)
never_mark set max (IsOfContents.of_places (inl is)) = omega (arith, is.from)
never_mark set max (IsOfContents.of_places (inr is)) = copies_below max 2048 (omega arith) is
never_mark set max (IsOfContents.of_images is) = omega (arith, is.from)

pub mark_stays : (set : List SetImage) (max : ℕ) (old new : Image)
    → SameBut (InSectors (IsOfContents set max)) old new
    → new 2048 ≡ old 2048
mark_stays set max old new but =
    ⊎_elim (λ same. same) (λ w. absurd (never_mark set max w)) (but 2048)

-- nor the boot control's
places_behind : (max : ℕ) → IsOfPlaces max 4 → ⊥
places_behind max (inl is) = omega (arith, is.from)
places_behind max (inr is) = copies_below max 4 (omega arith) is

pub control_before : (max n : ℕ) (old mid new : Image)
    → SameBut (InSectors (IsOfPlaces max)) old mid
    → SameBut (InSectors (IsBetween 6144 (6144 + n))) mid new
    → new 4 ≡ old 4
control_before max n old mid new first second =
    below_images n mid new second 4 (omega arith)
    ∙ ⊎_elim (λ same. same) (λ w. absurd (places_behind max w)) (first 4)

-- a table's text stands in its copies
copy_of : (n at : ℕ) (text : List ℕ) (s : ℕ) (b : List ℕ)
    → 0 < n
    → IsOfCopy n at text s b
    → IsBetween at (at + n) s
copy_of n at text s b some is =
    ⊎_elim
    (λ of_text. record { from = omega (arith, of_text.first); below = of_text.last })
    (λ first. record { from = omega (arith, first.0); below = omega (arith, first.0, some) })
    is

pub table_of_copies : (g : Geometry) (n : ℕ) (text : List ℕ) (s : ℕ) (b : List ℕ)
    → g.slots ≡ 2
    → 0 < n
    → n ≤ copy_sectors g
    → IsOfCopy n (primary_of g 0) text s b ⊎ IsOfCopy n (backup_of g 0) text s b
    → IsOfCopies g.max s
unfolding primary_of backup_of
table_of_copies g n text s b two some fits is =
    let copies : (g.slots + 0) * (g.max / 512) ≡ 2 * (g.max / 512) =
    ap (λ (k : ℕ). (k + 0) * (g.max / 512)) two in
    ⊎_elim
    (λ primary.
    let at = copy_of n (4120 + 0 * (g.max / 512)) text s b some primary in
    IsOfCopies.of_primary (record {
      from = omega (arith, at.from);
      below = omega (arith, at.below, fits);
    }))
    (λ backup.
    let at = copy_of n (4120 + (g.slots + 0) * (g.max / 512)) text s b some backup in
    IsOfCopies.of_backup (record {
      from = omega (arith, at.from, copies);
      below = omega (arith, at.below, fits, copies);
    }))
    is
