-- Of a slot only whether it is 0 is asked: any other is b.
use Rattle.std.proofs.Common.{◌≡◌, ◌∙◌, ℕ, ◌^◌, Bool, cond, eqb, leb, List, [], ◌∷◌, ◌++◌, length}
use Rattle.std.proofs.Common.{Option, Some, None, Result, Ok, Err, inl, inr, refl, ap}
use Rattle.std.specs.Prelude.{nat_eq, nat_le, nat_lt, ◌&&◌, ◌||◌}
use Rattle.std.specs.List.{ends_with, filter}
use Rattle.std.specs.Str.{bytes_eq}
use Rattle.std.proofs.lemmas.Bool.{cases_Bool}
use Rattle.vab_names.specs.Names.{suffix_of, is_of_slot, is_base, base_of, default_name}
use Rattle.vab_names.specs.Names.{is_full, most_partitions}
use Rattle.vab_geometry.specs.declared.geometry.Geometry.{Geometry}
use Rattle.vab_geometry.specs.declared.geometry.GeometryFault.{GeometryFault}
use Rattle.vab_tables.specs.declared.fault.TableFault.{TableFault}
use Rattle.vab_tables.specs.declared.table.Table.{Table}
use Rattle.vab_layout.specs.declared.layout.Part.{Part}
use Rattle.vab_layout.specs.Layout.{layout_of, blocks_of_parts}
use Rattle.vab_layout.specs.Slots.{own_parts}
use Rattle.vab_partitions.specs.Rules.{is_distinct, part_passes, bad_part}
use Rattle.vab_super_image.specs.declared.image.SuperImage.{SuperImage}
use Rattle.vab_super_image.specs.SuperImage.{geometry_in, table_in, if_own, with_table}
use Rattle.vab_super_image.specs.SuperImage.{with_geometry, super_image_of}
use Rattle.vab_machine.specs.Sides.{a_or_b}

-- ---- names

same_suffix : (slot : ℕ) → suffix_of (a_or_b slot) ≡ suffix_of slot
same_suffix slot = elim (cases_Bool (eqb slot 0)) [
  | inl t ↦ rw t refl
  | inr f ↦ rw f refl
]

pub of_side : (slot : ℕ) (name : List ℕ) → is_of_slot (a_or_b slot) name ≡ is_of_slot slot name
unfolding is_of_slot
of_side slot name = ap (ends_with nat_eq name) (same_suffix slot)

pub full_side : (slot : ℕ) (name : List ℕ) → is_full (a_or_b slot) name ≡ is_full slot name
unfolding is_full
full_side slot name = ap (λ (b : Bool). b && is_base (base_of name)) (of_side slot name)

-- ---- partitions

own_side : (slot : ℕ) (parts : List Part) → own_parts (a_or_b slot) parts ≡ own_parts slot parts
own_side slot parts = (λ i. filter (λ (p : Part). of_side slot p.name i) parts)

passes_side : (most slot : ℕ) (earlier : List Part) (p : Part)
    → part_passes most (a_or_b slot) earlier p ≡ part_passes most slot earlier p
passes_side most slot earlier p =
    ap (λ (own : Bool). is_base (base_of p.name) && nat_le (length p.blocks) (2 ^ 28)
    && (bytes_eq p.group default_name || own) && nat_lt (length earlier) most
    && is_distinct (blocks_of_parts earlier ++ p.blocks)) (of_side slot p.group)

bad_side : (most slot : ℕ) (earlier parts : List Part)
    → bad_part most (a_or_b slot) earlier parts ≡ bad_part most slot earlier parts
unfolding bad_part
bad_side most slot earlier [] = refl
bad_side most slot earlier (p ∷ ps) =
    (λ i. cond (passes_side most slot earlier p i)
    (bad_side most slot (earlier ++ p ∷ []) ps i) (Some p.name))

own_bad : (slot : ℕ) (parts : List Part)
    → bad_part most_partitions (a_or_b slot) [] (own_parts (a_or_b slot) parts)
    ≡ bad_part most_partitions slot [] (own_parts slot parts)
own_bad slot parts =
    ap (bad_part most_partitions (a_or_b slot) []) (own_side slot parts)
    ∙ bad_side most_partitions slot [] (own_parts slot parts)

-- ---- an image of a `super`

if_side : (a b : ℕ) (i : SuperImage) (bad : Option (List ℕ)) → if_own a i bad ≡ if_own b i bad
if_side a b i None = refl
if_side a b i (Some name) = refl

table_side : (slot : ℕ) (g : Geometry) (r : Result Table TableFault)
    → with_table (a_or_b slot) g r ≡ with_table slot g r
table_side slot g (Err fault) = refl
table_side slot g (Ok t) =
    let i : SuperImage = record { geometry = g; table = t } in
    let parts : List Part = (layout_of t).parts in
    ap (if_own (a_or_b slot) i) (own_bad slot parts)
    ∙ if_side (a_or_b slot) slot i (bad_part most_partitions slot [] (own_parts slot parts))

geometry_side : (slot : ℕ) (bytes : List ℕ) (r : Result Geometry GeometryFault)
    → with_geometry (a_or_b slot) bytes r ≡ with_geometry slot bytes r
geometry_side slot bytes (Err fault) = refl
geometry_side slot bytes (Ok g) = table_side slot g (table_in g bytes)

pub image_side : (slot : ℕ) (bytes : List ℕ)
    → super_image_of (a_or_b slot) bytes ≡ super_image_of slot bytes
unfolding super_image_of
image_side slot bytes =
    ap (λ (o : Option SuperImage). cond (leb 4096 (length bytes)) o None)
    (geometry_side slot bytes (geometry_in bytes))
