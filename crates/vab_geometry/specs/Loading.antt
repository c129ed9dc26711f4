-- What a disk says of its geometry.
use Rattle.std.specs.Prelude.{◌≡◌, Result, Ok, Err}
use Rattle.vab_disk.specs.Disk.{Image}
use Rattle.vab_geometry.specs.declared.geometry.Geometry.{Geometry}
use Rattle.vab_geometry.specs.declared.geometry.GeometryFault.{GeometryFault}
use Rattle.vab_geometry.specs.declared.load.LoadFault.{LoadFault}
use Rattle.vab_geometry.specs.declared.load.LoadFault.TheVariants.{BothBad, Disk}
use Rattle.vab_geometry.specs.Reading.{geometry_of}

-- the first, or else the second, or else both faults
abbrev pub first_of : Result Geometry GeometryFault
    → Result Geometry GeometryFault
    → Result Geometry (GeometryFault × GeometryFault)
first_of (Ok g) backup = Ok g
first_of (Err f) (Ok g) = Ok g
first_of (Err f) (Err h) = Err (f, h)

-- the primary at disk sector 4104, or else the backup at 4112
unfoldable pub geometry_in : Image → Result Geometry (GeometryFault × GeometryFault)
geometry_in image = first_of (geometry_of (image 4104)) (geometry_of (image 4112))

-- What a function returned is what the disk says, unless the disk has failed.
abbrev pub Gives : Result Geometry LoadFault
    → Result Geometry (GeometryFault × GeometryFault)
    → Type 0
Gives (Ok g) said = said ≡ Ok g
Gives (Err (BothBad f h)) said = said ≡ Err (f, h)
Gives (Err (Disk e)) said = Unit {0}

-- it says that the disk has failed
abbrev pub IsDiskFault : Result Geometry LoadFault → Type 0
IsDiskFault (Ok g) = ⊥
IsDiskFault (Err (BothBad f h)) = ⊥
IsDiskFault (Err (Disk e)) = Unit {0}
