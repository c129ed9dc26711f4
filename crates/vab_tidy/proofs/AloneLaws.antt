-- The table of a slot alone: all that a device is read of stays.
use Rattle.std.proofs.Common.{◌≡◌, ◌∙◌, ℕ, List, ◌∷◌, false, refl, sym, ap, subst}
use Rattle.std.specs.Prelude.{Bool}
use Rattle.std.specs.List.{filter}
use Rattle.std.proofs.lemmas.List.Elements.{filter_passes}
use Rattle.vab_names.specs.Names.{is_of_slot, default_name}
use Rattle.vab_tables.specs.declared.entries.Group.{Group}
use Rattle.vab_tables.specs.declared.table.Table.{Table}
use Rattle.vab_tables.specs.Spelling.{as_minor_2}
use Rattle.vab_layout.specs.declared.layout.Part.{Part}
use Rattle.vab_layout.specs.declared.layout.Layout.{Layout}
use Rattle.vab_layout.specs.Layout.{layout_of, table_of}
use Rattle.vab_layout.specs.Slots.{own_parts}
use Rattle.vab_layout.specs.Plain.{plain, default_group, own_groups}
use Rattle.vab_builder.proofs.ListLaws.{filter_all}
use Rattle.vab_builder.proofs.SlotLaws.{default_of_no_slot}

filter_again : {X : Type 0} (p : X → Bool) (xs : List X) → filter p (filter p xs) ≡ filter p xs
filter_again p xs = filter_all p (filter p xs) (filter_passes p xs)

own_again : (slot : ℕ) (parts : List Part)
    → own_parts slot (own_parts slot parts) ≡ own_parts slot parts
own_again slot parts = filter_again (λ (p : Part). is_of_slot slot p.name) parts

groups_again : (slot : ℕ) (groups : List Group)
    → own_groups slot (default_group ∷ own_groups slot groups) ≡ own_groups slot groups
groups_again slot groups =
    let other : is_of_slot slot default_name ≡ false = default_of_no_slot slot in
    rw other (filter_again (λ (g : Group). is_of_slot slot g.name) groups)

plain_again : (slot : ℕ) (l : Layout) → plain slot (plain slot l) ≡ plain slot l
unfolding plain
plain_again slot l = (λ i. record {
  parts = own_again slot l.parts i;
  groups = default_group ∷ groups_again slot l.groups i;
  device = l.device;
  flags = l.flags;
})

-- the table of a layout is of minor 2
pub same_minor : (u : Table) (l : Layout) → u ≡ table_of l → as_minor_2 u ≡ u
unfolding table_of
same_minor u l is = subst (λ (x : Table). as_minor_2 x ≡ x) (sym is) refl

-- and it is the same without stores
pub place_is : (slot : ℕ) (t u : Table)
    → layout_of u ≡ plain slot (layout_of t)
    → plain slot (layout_of u) ≡ plain slot (layout_of t)
place_is slot t u is = ap (plain slot) is ∙ plain_again slot (layout_of t)
