-- What a sector says: its geometry, or the first fault in the order of `GeometryFault`.
use Rattle.std.specs.Prelude.{ℕ, ◌%◌, List, Bool, true, false, ◌&&◌, ◌==◌, nat_le, Result, Ok, Err}
use Rattle.std.specs.Int.{w32}
use Rattle.std.specs.Str.{bytes_eq}
use Rattle.vab_bytes.specs.Number.{field, le_at}
use Rattle.vab_geometry.specs.declared.geometry.Geometry.{Geometry}
use Rattle.vab_geometry.specs.declared.geometry.GeometryFault.{GeometryFault}
use Rattle.vab_geometry.specs.declared.geometry.GeometryFault.TheVariants.{BadMagic, BadSize}
use Rattle.vab_geometry.specs.declared.geometry.GeometryFault.TheVariants.{BadSum, BadField}
use Rattle.vab_geometry.specs.Geometry.{sum_around}

infixl 10 ◌>>=◌
abbrev pub ◌>>=◌ : {A B : Type 0}
    → Result A GeometryFault
    → (A → Result B GeometryFault)
    → Result B GeometryFault
(Ok x) >>= f = f x
(Err e) >>= f = Err e

-- this fault, where a test fails
abbrev pub unless : Bool → GeometryFault → Result (Unit {0}) GeometryFault
unless true fault = Ok tt
unless false fault = Err fault

-- whether a geometry keeps the rules of its fields
abbrev pub keeps_rules : Geometry → Bool
keeps_rules g =
    g.max % 512 == 0
    && nat_le 512 g.max
    && nat_le g.max 1048576
    && nat_le 2 g.slots
    && nat_le g.slots 8

-- the fields that are kept
abbrev pub fields_at : List ℕ → Geometry
fields_at bytes = record { max = le_at w32 bytes 40; slots = le_at w32 bytes 44 }

unfoldable pub geometry_of : List ℕ → Result Geometry GeometryFault
geometry_of bytes = do
  _ ← unless (le_at w32 bytes 0 == 0x616C4467) BadMagic
  _ ← unless (le_at w32 bytes 4 == 52) BadSize
  _ ← unless (bytes_eq (field bytes 8 32) (sum_around (field bytes 0 8) (field bytes 40 12))) BadSum
  _ ← unless (keeps_rules (fields_at bytes)) BadField
  _ ← unless (le_at w32 bytes 48 == 4096) BadField
  Ok (fields_at bytes)
