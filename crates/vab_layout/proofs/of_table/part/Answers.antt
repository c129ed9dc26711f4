use Rattle.std.proofs.Common.{◌≡◌, ℕ, ◌<◌, ◌++◌, List, [], length, get_or, sym, ap, ◌∙◌}
use Rattle.std.specs.List.{flat_map}
use Rattle.vab_tables.specs.declared.entries.Partition.{Partition}
use Rattle.vab_tables.specs.declared.entries.Extent.{Extent}
use Rattle.vab_tables.specs.declared.entries.Group.{Group}
use Rattle.vab_tables.specs.declared.table.Table.{Table}
use Rattle.vab_blocks.specs.Blocks.{first_sector_of, extents_of, blocks_of_extent}
use Rattle.vab_layout.specs.declared.layout.Part.{Part}
use Rattle.vab_layout.specs.Layout.{blocks_of_partition, part_of}
use Rattle.vab_layout.proofs.LayoutLaws.{group_at_is}
use Rattle.vab_layout.proofs.of_table.part.Goals as goal

made : (t : Table) (p : Partition) (groups : List Group) (g : Group) (blocks : List ℕ)
    → p.group < length t.groups
    → groups ≡ t.groups
    → blocks ≡ flat_map (blocks_of_extent (first_sector_of t)) (extents_of t p)
    → record {
      name = p.name;
      attributes = p.attributes;
      group = (get_or groups p.group g).name;
      blocks = blocks;
    } ≡ part_of t p
unfolding blocks_of_partition
made t p groups g blocks lt same is =
    let make : List ℕ → List ℕ → Part = λ group blocks.
    record { name = p.name; attributes = p.attributes; group = group; blocks = blocks } in
    let named =
    ap (λ (gs : List Group). (get_or gs p.group g).name) same
    ∙ sym (group_at_is t.groups p.group g lt) in
    ap (λ (x : List ℕ). make x blocks) named ∙ ap (make (part_of t p).group) is

-- the blocks of the extents
pushed : (t : Table) (p : Partition) (old new : List ℕ) (first : ℕ) (extents : List Extent)
    → old ≡ []
    → first ≡ first_sector_of t
    → extents ≡ extents_of t p
    → new ≡ old ++ flat_map (blocks_of_extent first) extents
    → new ≡ flat_map (blocks_of_extent (first_sector_of t)) (extents_of t p)
pushed t p old new first extents none at is e =
    e ∙ ap (λ (l : List ℕ). l ++ flat_map (blocks_of_extent first) extents) none
    ∙ ap (λ (s : ℕ). flat_map (blocks_of_extent s) extents) at
    ∙ ap (flat_map (blocks_of_extent (first_sector_of t))) is

pub returns : goal.returns
returns c =
    let t = c.args.table.now in
    let p = c.args.partition.now in
    let blocks =
    pushed t p c.new-blocks.result c.push_extents.new.self c.first_sector.result
    c.extents_of.result.now c.new-blocks.ensures c.first_sector.ensures c.extents_of.ensures
    c.in_ok-push_extents.ensures in
    made t p c.as_slice.result.now c.index-as_slice-partition.result c.push_extents.new.self
    c.requires.partition.group_exists c.as_slice.ensures blocks
