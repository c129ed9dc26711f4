-- Where `super` ends: on the disk, with as many sectors in front of it as a device has.
use Rattle.std.proofs.Common.{◌≡◌, ℕ, ◌≤◌, true, false, Result, Ok, Err, refl, subst, arith}
use Rattle.std.specs.Prelude.{Bool, Option, Some, None}
use Rattle.vab_disk.specs.Disk.{Image}
use Rattle.vab_marks.specs.declared.physical.PhysicalSizes.{PhysicalSizes}
use Rattle.vab_marks.specs.declared.sector.MarkFault.{MarkFault}
use Rattle.vab_marks.specs.Physical.{physical_of}
use Rattle.vab_physical.specs.declared.tail.Tail.{Tail}
use Rattle.vab_physical.specs.Tail.{super_end, ends_by, tail_read}
use Rattle.vab_physical.proofs.TailLaws.{ends_there}
use Rattle.vab_device.specs.declared.fault.StartFault.{StartFault}
use Rattle.vab_device.specs.declared.fault.StartFault.TheVariants.{BadPhysical}
use Rattle.vab_device.specs.Reading.{whole_disk, tail_there, tail_at}
use Rattle.vab_targets.specs.Sectors.{HasWholeSectors}

abbrev pub EndsOn : (size : ℕ) → Tail → Type 0
EndsOn size tail = (4120 ≤ tail.super_end) × (tail.super_end ≤ size)

no_tail : (tail : Tail) → tail_there None ≡ Ok tail → ⊥
no_tail tail is =
    let bad : (let r : Result Tail StartFault = Err BadPhysical in r ≡ Ok tail) = is in cc

by_end : (size : ℕ) (sizes : PhysicalSizes) (end : Option ℕ) (tail : Tail)
    → super_end sizes size ≡ end
    → tail_there (ends_by sizes end) ≡ Ok tail
    → EndsOn size tail
by_end size sizes None tail there is = absurd (no_tail tail is)
by_end size sizes (Some end) tail there is =
    let both : Ok (record { sizes = sizes; super_end = end }) ≡ Ok tail = is in
    let same : record { sizes = sizes; super_end = end } ≡ tail = cc in
    let at = ends_there sizes size end there in
    subst (EndsOn size) same (at.0, omega (arith, at.1))

by_sizes : (size : ℕ) (x : Result PhysicalSizes MarkFault) (tail : Tail)
    → tail_there (tail_read size x) ≡ Ok tail
    → EndsOn size tail
by_sizes size (Ok sizes) tail is = by_end size sizes (super_end sizes size) tail refl is
by_sizes size (Err fault) tail is = absurd (no_tail tail is)

pub tail_ends : (physical : Bool) (size : ℕ) (image : Image) (tail : Tail)
    → 4120 ≤ size
    → tail_at physical size image ≡ Ok tail
    → EndsOn size tail
unfolding tail_at
tail_ends false size image tail enough is =
    let both : Ok (whole_disk size) ≡ Ok tail = is in
    let same : whole_disk size ≡ tail = cc in
    subst (EndsOn size) same (enough, omega arith)
tail_ends true size image tail enough is = by_sizes size (physical_of (image 2113)) tail is

-- the sectors in front of one are whole, where those of the disk are
pub whole_front : (end size : ℕ) (image : Image)
    → end ≤ size
    → HasWholeSectors size image
    → HasWholeSectors end image
whole_front end size image ends whole s below = whole s (omega (arith, below, ends))
