-- Where `super` ends in front of the physical partitions, which take the last sectors of a disk.
use Rattle.std.specs.Prelude.{ℕ, ◌+◌, ◌-◌, ◌*◌, nat_le, if◌then◌else◌, Option, Some, None}
use Rattle.std.specs.Prelude.{Result, Ok, Err}
use Rattle.vab_disk.specs.Disk.{Image}
use Rattle.vab_marks.specs.declared.physical.PhysicalSizes.{PhysicalSizes}
use Rattle.vab_marks.specs.declared.sector.MarkFault.{MarkFault}
use Rattle.vab_marks.specs.Physical.{physical_of}
use Rattle.vab_physical.specs.declared.tail.Tail.{Tail}

-- the sectors of boot and vbmeta of both slots, eight a block
abbrev pub sectors_taken : PhysicalSizes → ℕ
sectors_taken s = 16 * (s.boot + s.vbmeta)

-- on a disk of so many sectors, where 4120 or more are left in front of them
abbrev pub super_end : PhysicalSizes → ℕ → Option ℕ
super_end s size =
    if nat_le (4120 + sectors_taken s) size then Some (size - sectors_taken s) else None

abbrev pub ends_by : PhysicalSizes → Option ℕ → Option Tail
ends_by s None = None
ends_by s (Some end) = Some (record { sizes = s; super_end = end })

abbrev pub tail_read : ℕ → Result PhysicalSizes MarkFault → Option Tail
tail_read size (Ok sizes) = ends_by sizes (super_end sizes size)
tail_read size (Err fault) = None

-- by the sizes in sector 2113
abbrev pub tail_in : ℕ → Image → Option Tail
tail_in size image = tail_read size (physical_of (image 2113))
