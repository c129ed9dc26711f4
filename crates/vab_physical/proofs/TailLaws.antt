-- What holds of where `super` ends in front of the physical partitions.
use Rattle.std.proofs.Common.{◌≡◌, ℕ, ◌+◌, ◌-◌, ◌≤◌, List, Some, Bool, true, false, refl, ap}
use Rattle.std.proofs.Common.{arith, leb-true}
use Rattle.std.specs.Prelude.{nat_le}
use Rattle.vab_disk.specs.Disk.{Image}
use Rattle.vab_marks.specs.declared.physical.PhysicalSizes.{PhysicalSizes}
use Rattle.vab_marks.specs.Physical.{physical_of}
use Rattle.vab_physical.specs.Tail.{super_end, sectors_taken, tail_in, tail_read}

-- it rests on the one sector
pub tail_same : (size : ℕ) (old new : Image)
    → new 2113 ≡ old 2113
    → tail_in size new ≡ tail_in size old
tail_same size old new same = ap (λ (bytes : List ℕ). tail_read size (physical_of bytes)) same

-- behind `super` there are the sectors of the physical partitions alone
pub ends_there : (s : PhysicalSizes) (size end : ℕ)
    → super_end s size ≡ Some end
    → (4120 ≤ end) × (end + sectors_taken s ≡ size)
ends_there s size end is = by (nat_le (4120 + sectors_taken s) size) refl
  where
    by : (enough : Bool) → nat_le (4120 + sectors_taken s) size ≡ enough
        → (4120 ≤ end) × (end + sectors_taken s ≡ size)
    by false enough = absurd (let none = rw enough at is in cc)
    by true enough =
        let here = rw enough at is in
        let same : size - sectors_taken s ≡ end = cc in
        let fits : 4120 + sectors_taken s ≤ size = leb-true _ _ enough in
        (omega (arith, same, fits), omega (arith, same, fits))
