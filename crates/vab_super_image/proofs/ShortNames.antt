-- The names of partitions in an image of a `super` have at most 36 bytes.
use Rattle.std.proofs.Common.{◌≡◌, ℕ, ◌≤◌, Bool, true, false, cond, eqb}
use Rattle.std.proofs.Common.{List, [], ◌∷◌, length, drop, Option, Some, None, Result, Ok}
use Rattle.std.proofs.Common.{Err, refl, subst}
use Rattle.std.specs.Prelude.{nat_le}
use Rattle.std.proofs.lemmas.Option.{none-some, same_Some}
use Rattle.vab_names.specs.Names.{most_partitions}
use Rattle.vab_geometry.specs.declared.geometry.Geometry.{Geometry}
use Rattle.vab_geometry.specs.declared.geometry.GeometryFault.{GeometryFault}
use Rattle.vab_tables.specs.declared.entries.Partition.{Partition}
use Rattle.vab_tables.specs.declared.table.Table.{Table}
use Rattle.vab_tables.specs.declared.fault.TableFault.{TableFault}
use Rattle.vab_layout.specs.Layout.{layout_of}
use Rattle.vab_layout.specs.Slots.{own_parts}
use Rattle.vab_partitions.specs.Rules.{bad_part}
use Rattle.vab_super_image.specs.declared.image.SuperImage.{SuperImage}
use Rattle.vab_super_image.specs.SuperImage.{super_image_of, geometry_in, table_in, with_geometry}
use Rattle.vab_super_image.specs.SuperImage.{with_table, if_own, first_filled}
use Rattle.vab_tables.proofs.ShortNames.{IsShort, AreShort, table_short}

-- ---- what is read

own_short : (slot : ℕ) (j i : SuperImage) (bad : Option (List ℕ))
    → AreShort j.table.partitions
    → if_own slot j bad ≡ Some i
    → AreShort i.table.partitions
own_short slot j i None are is =
    subst (λ (x : SuperImage). AreShort x.table.partitions) (same_Some _ _ is) are
own_short slot j i (Some name) are is = absurd (none-some _ is)

found_short : (slot : ℕ) (g : Geometry) (bytes : List ℕ) (i : SuperImage)
    (t : Result Table TableFault)
    → table_in g bytes ≡ t
    → with_table slot g t ≡ Some i
    → AreShort i.table.partitions
found_short slot g bytes i (Err fault) at is = absurd (none-some _ is)
found_short slot g bytes i (Ok t) at is =
    own_short slot (record { geometry = g; table = t }) i
    (bad_part most_partitions slot [] (own_parts slot (layout_of t).parts))
    (table_short g.max (drop 4096 bytes) t at)
    is

behind_short : (slot : ℕ) (bytes : List ℕ) (i : SuperImage) (g : Result Geometry GeometryFault)
    → with_geometry slot bytes g ≡ Some i
    → AreShort i.table.partitions
behind_short slot bytes i (Err fault) is = absurd (none-some _ is)
behind_short slot bytes i (Ok g) is = found_short slot g bytes i (table_in g bytes) refl is

long_short : (slot : ℕ) (bytes : List ℕ) (i : SuperImage) (long : Bool)
    → cond long (with_geometry slot bytes (geometry_in bytes)) None ≡ Some i
    → AreShort i.table.partitions
long_short slot bytes i true is = behind_short slot bytes i (geometry_in bytes) is
long_short slot bytes i false is = absurd (none-some _ is)

pub image_short : (slot : ℕ) (bytes : List ℕ) (i : SuperImage)
    → super_image_of slot bytes ≡ Some i
    → AreShort i.table.partitions
unfolding super_image_of
image_short slot bytes i is = long_short slot bytes i (nat_le 4096 (length bytes)) is

-- ---- the first partition with extents

first_by : (p : Partition) (empty : Bool) (rest : Option (List ℕ)) (name : List ℕ)
    → IsShort p
    → (rest ≡ Some name → length name ≤ 36)
    → cond empty rest (Some p.name) ≡ Some name
    → length name ≤ 36
first_by p true rest name short later is = later is
first_by p false rest name short later is =
    subst (λ (l : List ℕ). length l ≤ 36) (same_Some _ _ is) short

pub first_short : (ps : List Partition) (name : List ℕ)
    → AreShort ps
    → first_filled ps ≡ Some name
    → length name ≤ 36
first_short [] name are is = absurd (none-some _ is)
first_short (p ∷ ps) name are is =
    first_by p (eqb p.extent_count 0) (first_filled ps) name are.0 (first_short ps name are.1) is
