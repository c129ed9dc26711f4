-- What callers need of a disk's geometry.
use Rattle.std.proofs.Common.{◌≡◌, Result, Ok, Err}
use Rattle.vab_disk.specs.Disk.{Image}
use Rattle.vab_geometry.specs.declared.geometry.Geometry.{Geometry}
use Rattle.vab_geometry.specs.declared.geometry.GeometryFault.{GeometryFault}
use Rattle.vab_geometry.specs.Geometry.{IsGeometry}
use Rattle.vab_geometry.specs.Reading.{geometry_of}
use Rattle.vab_geometry.specs.Loading.{first_of, geometry_in}
use Rattle.vab_geometry.proofs.GeometryLaws.{read_keeps_rules}

first_keeps : (P : Geometry → Type 0) (a b : Result Geometry GeometryFault) (g : Geometry)
    → ((g : Geometry) → a ≡ Ok g → P g)
    → ((g : Geometry) → b ≡ Ok g → P g)
    → first_of a b ≡ Ok g
    → P g
first_keeps P (Ok x) b g in_a in_b e = in_a g cc
first_keeps P (Err f) (Ok x) g in_a in_b e = in_b g cc
first_keeps P (Err f) (Err h) g in_a in_b e = absurd cc

-- a disk's geometry keeps the rules
pub disk_keeps_rules : (image : Image) (g : Geometry) → geometry_in image ≡ Ok g → IsGeometry g
unfolding geometry_in
disk_keeps_rules image g e = first_keeps IsGeometry (geometry_of (image 4104))
    (geometry_of (image 4112)) g (read_keeps_rules (image 4104)) (read_keeps_rules (image 4112)) e
