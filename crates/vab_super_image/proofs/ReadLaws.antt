-- What is read of an image of a `super`.
use Rattle.std.proofs.Common.{◌≡◌, ◌≢◌, ◌∙◌, ℕ, ◌<◌, ◌^◌, List, [], refl, ap, Result, Ok, Err}
use Rattle.std.proofs.Common.{Some, None, Bool, cond, length, take, drop, ◌-◌, ◌≤◌, arith}
use Rattle.std.proofs.lemmas.Bool.{le-leb, lt-leb}
use Rattle.std.proofs.lemmas.List.{length-drop, take_all}
use Rattle.vab_names.specs.Names.{most_partitions}
use Rattle.vab_geometry.specs.declared.geometry.Geometry.{Geometry}
use Rattle.vab_geometry.specs.declared.geometry.GeometryFault.{GeometryFault}
use Rattle.vab_geometry.specs.Geometry.{IsGeometry}
use Rattle.vab_tables.specs.declared.table.Table.{Table}
use Rattle.vab_tables.specs.declared.fault.TableFault.{TableFault}
use Rattle.vab_tables.specs.declared.fault.TableFault.TheVariants as faults
use Rattle.vab_tables.specs.Reading.{Fails}
use Rattle.vab_tables.specs.Spelling.{table_size_of}
use Rattle.vab_tables.specs.Text.{IsTableText}
use Rattle.vab_tables.proofs.NeedLaws.{table_size_short}
use Rattle.vab_layout.specs.Layout.{layout_of}
use Rattle.vab_layout.specs.Slots.{own_parts}
use Rattle.vab_partitions.specs.Rules.{bad_part}
use Rattle.vab_super_image.specs.SuperImage.{with_table, if_own, geometry_in, with_geometry}
use Rattle.vab_super_image.specs.SuperImage.{super_image_of}

-- all behind the first of them
pub rest_is : (n : ℕ) (bytes : List ℕ) → take (length bytes - n) (drop n bytes) ≡ drop n bytes
rest_is n bytes =
    take_all (length bytes - n) (drop n bytes) (omega (arith, length-drop n bytes))

-- a fault that isn't want of memory is what the text says
pub known_fault : (f : TableFault) (read : Result Table TableFault)
    → f ≢ faults.NoMemory
    → Fails f read
    → read ≡ Err f
known_fault faults.NoMemory read known is = absurd (known refl)
known_fault faults.NoHeader read known is = is
known_fault faults.BadVersion read known is = is
known_fault faults.BadHeaderSum read known is = is
known_fault faults.BadSize read known is = is
known_fault faults.BadTablesSum read known is = is
known_fault faults.BadBounds read known is = is
known_fault (faults.BadEntry kind index) read known is = is

-- a table whose own partitions break a rule
pub with_bad : (slot : ℕ) (g : Geometry) (read : Result Table TableFault) (t : Table)
    (name : List ℕ)
    → read ≡ Ok t
    → bad_part most_partitions slot [] (own_parts slot (layout_of t).parts) ≡ Some name
    → with_table slot g read ≡ None
with_bad slot g read t name is bad =
    ap (with_table slot g) is
    ∙ ap (if_own slot (record { geometry = g; table = t })) bad

-- one whose own partitions keep them
pub with_good : (slot : ℕ) (g : Geometry) (read : Result Table TableFault) (t : Table)
    → read ≡ Ok t
    → bad_part most_partitions slot [] (own_parts slot (layout_of t).parts) ≡ None
    → with_table slot g read ≡ Some (record { geometry = g; table = t })
with_good slot g read t is good =
    ap (with_table slot g) is
    ∙ ap (if_own slot (record { geometry = g; table = t })) good

-- the text of a table that was read is written in few bytes
pub table_small : (g : Geometry) (text : List ℕ) (t : Table)
    → IsGeometry g
    → IsTableText g.max text t
    → table_size_of t < 2 ^ 24
table_small g text t is stands = omega (arith, is.most, table_size_short g.max text t stands)

-- ---- the geometry

pub too_short : (slot : ℕ) (bytes : List ℕ)
    → length bytes < 4096
    → super_image_of slot bytes ≡ None
unfolding super_image_of
too_short slot bytes short =
    ap (λ (b : Bool). cond b (with_geometry slot bytes (geometry_in bytes)) None)
    (lt-leb 4096 (length bytes) short)

pub long_enough : (slot : ℕ) (bytes : List ℕ) (read : Result Geometry GeometryFault)
    → 4096 ≤ length bytes
    → geometry_in bytes ≡ read
    → super_image_of slot bytes ≡ with_geometry slot bytes read
unfolding super_image_of
long_enough slot bytes read long is =
    ap (λ (b : Bool). cond b (with_geometry slot bytes (geometry_in bytes)) None)
    (le-leb 4096 (length bytes) long)
    ∙ ap (with_geometry slot bytes) is
