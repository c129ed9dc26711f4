-- The blocks of a slot's partitions in a group.
use Rattle.std.proofs.Common.{◌≡◌, ℕ, ◌^◌, ◌≤◌, Bool, cond, List, [], ◌∷◌, length}
use Rattle.std.proofs.Common.{sum, sum_by, sym, ap, ◌∙◌, arith}
use Rattle.std.specs.Str.{bytes_eq}
use Rattle.std.specs.List.{filter}
use Rattle.std.proofs.lemmas.List.Sums.{sum-map, sum_by_push}
use Rattle.vab_space.specs.Space.{group_sum_of}
use Rattle.vab_tables.specs.declared.entries.Group.{Group}
use Rattle.vab_tables.specs.declared.table.Table.{Table}
use Rattle.vab_layout.specs.declared.layout.Part.{Part}
use Rattle.vab_layout.specs.declared.layout.Layout.{Layout}
use Rattle.vab_layout.specs.Layout.{layout_of}
use Rattle.vab_layout.specs.Plain.{own_groups}
use Rattle.vab_layout.specs.Slots.{own_parts, IsOwn}
use Rattle.vab_builder.specs.Edits.{first_group}
use Rattle.vab_builder.specs.Passes.{created_group, created_group_sum}
use Rattle.vab_builder.specs.Sizes.{limit_of, sizes_in}
use Rattle.vab_builder.proofs.Bounds.{group_small}
use Rattle.vab_builder.proofs.TableLaws.{layout_groups}
use Rattle.vab_builder.specs.Sums.{size_in}
use Rattle.vab_builder.proofs.SumLaws.{sum_passing, sum_own}

-- their sum is that of what each partition of the table adds
pub sum_in : (slot : ℕ) (t : Table) (group name : List ℕ) (n : ℕ)
    → sum (sizes_in group name n (own_parts slot (layout_of t).parts))
    ≡ sum_by (size_in slot t group name n) t.partitions
sum_in slot t group name n =
    let size : Part → ℕ = λ p. cond (bytes_eq p.name name) n (length p.blocks) in
    let inside : Part → Bool = λ p. bytes_eq p.group group in
    let own : List Part = own_parts slot (layout_of t).parts in
    sum-map size (filter inside own)
    ∙ sum_passing size inside own
    ∙ sum_own slot t (λ p. cond (inside p) (size p) 0)

pub in_small : (slot : ℕ) (t : Table) (group name : List ℕ) (n : ℕ)
    → IsOwn slot (layout_of t).parts
    → n ≤ 2 ^ 28
    → sum_by (size_in slot t group name n) t.partitions ≤ 2 ^ 34
in_small slot t group name n own small =
    omega (
      arith,
      sum_in slot t group name n,
      group_small slot (layout_of t).parts group name n own small,
    )

-- ---- the group of a partition more

pub created_group_is : (slot : ℕ) (t : Table) (group : List ℕ) (groups : List Group)
    → group ≡ first_group (own_groups slot groups)
    → groups ≡ t.groups
    → group ≡ created_group slot (layout_of t)
created_group_is slot t group groups is same =
    is
    ∙ ap (λ (gs : List Group). first_group (own_groups slot gs)) (same ∙ sym (layout_groups t))

pub created_sum_is : (slot : ℕ) (t : Table) (name group : List ℕ) (n others told : ℕ)
    → group ≡ created_group slot (layout_of t)
    → others ≡ sum (sizes_in group name n (own_parts slot (layout_of t).parts))
    → told ≡ group_sum_of (others ∷ n ∷ [])
    → told ≡ created_group_sum slot (layout_of t) name n
created_sum_is slot t name group n others told is counted says =
    let l : Layout = layout_of t in
    let there : others ≡ sum (sizes_in (created_group slot l) name n (own_parts slot l.parts)) =
    counted ∙ ap (λ (g : List ℕ). sum (sizes_in g name n (own_parts slot l.parts))) is in
    omega (
      arith,
      says,
      there,
      sum_by_push (λ (x : ℕ). x) (sizes_in (created_group slot l) name n (own_parts slot l.parts))
          n,
    )

-- ---- the limit of a group

pub limit_is : (t : Table) (groups : List Group) (text group is : List ℕ) (told : ℕ)
    → told ≡ limit_of groups text
    → groups ≡ t.groups
    → text ≡ group
    → group ≡ is
    → told ≡ limit_of (layout_of t).groups is
limit_is t groups text group is told says same named whole =
    says
    ∙ ap (limit_of groups) (named ∙ whole)
    ∙ ap (λ (gs : List Group). limit_of gs is) (same ∙ sym (layout_groups t))
