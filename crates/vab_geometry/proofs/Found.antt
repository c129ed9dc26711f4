-- What a reader's answer says.
use Rattle.std.proofs.Common.{◌≡◌, ℕ, List, length, Result, Ok, Err, sym}
use Rattle.std.specs.Prelude.{IfOk}
use Rattle.vab_bytes.specs.Number.{IsBytes}
use Rattle.vab_geometry.specs.declared.geometry.Geometry.{Geometry}
use Rattle.vab_geometry.specs.declared.geometry.GeometryFault.{GeometryFault}
use Rattle.vab_geometry.specs.Geometry.{IsGeometry, Represents}
use Rattle.vab_geometry.specs.Reading.{geometry_of}
use Rattle.vab_geometry.proofs.GeometryLaws.{found_is}

pub is_found : (bytes : List ℕ) (r : Result Geometry GeometryFault)
    → length bytes ≡ 512
    → IsBytes bytes
    → r ≡ geometry_of bytes
    → IfOk r (λ g. IsGeometry g × Represents bytes g)
is_found bytes (Ok g) long small is = found_is bytes g long small (sym is)
is_found bytes (Err f) long small is = tt
