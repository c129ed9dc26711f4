-- The slot's own partitions of an image of a `super` keep their rules.
use Rattle.std.proofs.Common.{◌≡◌, ℕ, leb, List}
use Rattle.std.proofs.Common.{[], length, Option, Some, None, Result, Ok, Err}
use Rattle.std.proofs.Common.{inl, inr, refl, sym, subst, arith}
use Rattle.std.specs.Prelude.{IfSome}
use Rattle.std.proofs.lemmas.Bool.{cases_Bool}
use Rattle.vab_names.specs.Names.{most_partitions}
use Rattle.vab_geometry.specs.declared.geometry.Geometry.{Geometry}
use Rattle.vab_geometry.specs.declared.geometry.GeometryFault.{GeometryFault}
use Rattle.vab_tables.specs.declared.fault.TableFault.{TableFault}
use Rattle.vab_tables.specs.declared.table.Table.{Table}
use Rattle.vab_layout.specs.declared.layout.Part.{Part}
use Rattle.vab_layout.specs.Layout.{layout_of}
use Rattle.vab_layout.specs.Slots.{own_parts, IsOwn}
use Rattle.vab_partitions.specs.Rules.{bad_part}
use Rattle.vab_partitions.proofs.OwnRules.{own_kept}
use Rattle.vab_super_image.specs.declared.image.SuperImage.{SuperImage}
use Rattle.vab_super_image.specs.SuperImage.{geometry_in, table_in, if_own, with_table}
use Rattle.vab_super_image.specs.SuperImage.{with_geometry, super_image_of}

if_found : (slot : ℕ) (i j : SuperImage) (bad : Option (List ℕ))
    → if_own slot i bad ≡ Some j
    → (bad ≡ None) × (i ≡ j)
if_found slot i j None is = (refl, cc)
if_found slot i j (Some name) is = absurd cc

table_own : (slot : ℕ) (g : Geometry) (r : Result Table TableFault) (i : SuperImage)
    → with_table slot g r ≡ Some i
    → IsOwn slot (layout_of i.table).parts
table_own slot g (Err fault) i is = absurd cc
table_own slot g (Ok t) i is =
    let read : SuperImage = record { geometry = g; table = t } in
    let parts : List Part = (layout_of t).parts in
    let found =
    if_found slot read i (bad_part most_partitions slot [] (own_parts slot parts)) is in
    subst (λ (x : SuperImage). IsOwn slot (layout_of x.table).parts) found.1
    (own_kept most_partitions slot parts (omega arith) found.0)

geometry_own : (slot : ℕ) (bytes : List ℕ) (r : Result Geometry GeometryFault) (i : SuperImage)
    → with_geometry slot bytes r ≡ Some i
    → IsOwn slot (layout_of i.table).parts
geometry_own slot bytes (Err fault) i is = absurd cc
geometry_own slot bytes (Ok g) i is = table_own slot g (table_in g bytes) i is

pub image_own : (slot : ℕ) (bytes : List ℕ) (i : SuperImage)
    → super_image_of slot bytes ≡ Some i
    → IsOwn slot (layout_of i.table).parts
unfolding super_image_of
image_own slot bytes i is = elim (cases_Bool (leb 4096 (length bytes))) [
  | inl t ↦ geometry_own slot bytes (geometry_in bytes) i (rw t at is)
  | inr f ↦ let none : (let o : Option SuperImage = None in o ≡ Some i) = rw f at is in absurd cc
]

pub if_own_image : (slot : ℕ) (bytes : List ℕ) (image : Option SuperImage)
    → image ≡ super_image_of slot bytes
    → IfSome image (λ (i : SuperImage). IsOwn slot (layout_of i.table).parts)
if_own_image slot bytes None is = tt
if_own_image slot bytes (Some i) is = image_own slot bytes i (sym is)
