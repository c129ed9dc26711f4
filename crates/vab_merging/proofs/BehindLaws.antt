-- What turns of a merge write stands behind the copies of the tables.
use Rattle.std.proofs.Common.{◌≡◌, ◌⊎◌, ◌∙◌, inl, inr, ℕ, zero, suc, ◌+◌, ◌-◌, ◌*◌, ◌≤◌, ◌<◌, List}
use Rattle.std.proofs.Common.{[]}
use Rattle.std.proofs.Common.{◌∷◌, length, refl, sym, ap, subst, arith}
use Rattle.std.specs.Prelude.{Option, Some, None, option_map, map, nat_le, All}
use Rattle.std.proofs.lemmas.Bool.{and_parts, leb-true}
use Rattle.std.proofs.lemmas.List.Elements.{All-get_or}
use Rattle.vab_disk.specs.Disk.{Image}
use Rattle.vab_marks.specs.declared.mark.MarkPhase.TheVariants as marks
use Rattle.vab_space.specs.declared.Chunk.{Chunk}
use Rattle.vab_exceptions.specs.declared.area.Exception.{Exception}
use Rattle.vab_geometry.specs.declared.geometry.Geometry.{Geometry}
use Rattle.vab_names.specs.Names.{store_of}
use Rattle.vab_layout.specs.declared.layout.Part.{Part as PartOfLayout}
use Rattle.vab_layout.specs.declared.layout.Layout.{Layout}
use Rattle.vab_layout.specs.Layout.{layout_of}
use Rattle.vab_layout.specs.Slots.{own_parts}
use Rattle.vab_merge.specs.Merged.{MayRun}
use Rattle.vab_device.specs.declared.device.Part.{Part}
use Rattle.vab_device.specs.declared.device.PartImage.{PartImage}
use Rattle.vab_device.specs.declared.device.PartImage.TheVariants.{Written}
use Rattle.vab_device.specs.declared.device.Device.{Device}
use Rattle.vab_device.specs.Kept.{IsDevice, IsPart, IsStored, sectors_of, super_bytes, copies_end}
use Rattle.vab_device.specs.Mounted.{blocks_there}
use Rattle.vab_device.specs.Phases.{planned_on}
use Rattle.vab_device.specs.Reading.{Represents, IsOfBlocks}
use Rattle.vab_device.specs.Stores.{Scanned, first_named}
use Rattle.vab_merging.specs.Turns.{own_of, part_at, no_part, next_of, turned, turn_at}
use Rattle.vab_merging.specs.Turns.{cut_part}
use Rattle.vab_merging.specs.RunWrites.{IsOfTurn, IsOfTurns}
use Rattle.vab_device.proofs.PartBlocks.{block_behind}
use Rattle.vab_merging.proofs.MergesLaws.{Merges, merges_of, own_is, Rules, rules_of}
use Rattle.vab_merging.proofs.OwnLaws.{single_of, own_kept}
use Rattle.vab_merging.proofs.SeenLaws.{merged_in}
use Rattle.vab_merging.proofs.TurnLaws.{own_cut, cut_kept, next_has, turned_zero}
use Rattle.vab_device.proofs.NamedParts.{all_set}
use Rattle.vab_merging.proofs.TurnLaws.{turned_suc, turned_mark}

-- ---- turns keep what holds of a device

turn_kept : (d : Device) (size : ℕ) (o : Option ℕ)
    → next_of d ≡ o
    → IsDevice d size
    → d.mark.phase ≡ marks.Merging
    → IsDevice (turn_at d o) size
turn_kept d size None next is merging = is
turn_kept d size (Some place) next is merging =
    cut_kept d size place 1 (single_of d size is merging) is (next_has d place next).0

turn_mark : (d : Device) (o : Option ℕ) → (turn_at d o).mark ≡ d.mark
turn_mark d None = refl
turn_mark d (Some place) = refl

pub turned_kept : (n : ℕ) (d : Device) (size : ℕ)
    → IsDevice d size
    → d.mark.phase ≡ marks.Merging
    → IsDevice (turned n d) size
turned_kept zero d size is merging =
    subst (λ (k : Device). IsDevice k size) (sym (turned_zero d)) is
turned_kept (suc n) d size is merging =
    let next : Device = turn_at d (next_of d) in
    subst (λ (k : Device). IsDevice k size) (sym (turned_suc n d))
    (turned_kept n next size (turn_kept d size (next_of d) refl is merging)
    (ap (λ m. m.phase) (turn_mark d (next_of d)) ∙ merging))

-- ---- and the blocks of its partitions and stores

-- each sector of a partition and of its store is at or behind this one
abbrev PartBehind : ℕ → Part → Type 0
PartBehind from p =
    (s : ℕ) → IsOfBlocks p.map s ⊎ IsOfBlocks (blocks_there p.store) s → from ≤ s

turn_behind : (from : ℕ) (d : Device) (o : Option ℕ)
    → next_of d ≡ o
    → All (PartBehind from) (own_of d)
    → All (PartBehind from) (own_of (turn_at d o))
turn_behind from d None next all = all
turn_behind from d (Some place) next all =
    subst (All (PartBehind from)) (sym (own_cut d place 1))
    (all_set (PartBehind from) (own_of d) place (cut_part 1 (part_at d place)) all
    (All-get_or (PartBehind from) (own_of d) place no_part (next_has d place next).0 all))

turned_behind : (n from : ℕ) (d : Device)
    → All (PartBehind from) (own_of d)
    → All (PartBehind from) (own_of (turned n d))
turned_behind zero from d all =
    subst (λ (k : Device). All (PartBehind from) (own_of k)) (sym (turned_zero d)) all
turned_behind (suc n) from d all =
    subst (λ (k : Device). All (PartBehind from) (own_of k)) (sym (turned_suc n d))
    (turned_behind n from (turn_at d (next_of d)) (turn_behind from d (next_of d) refl all))

-- ---- as they are read

store_behind : (at : ℕ) (o : Option PartOfLayout) (s : ℕ)
    → IsOfBlocks (blocks_there (option_map (λ q. sectors_of at q.blocks) o)) s
    → 4096 + at ≤ s
store_behind at None s is = absurd is
store_behind at (Some q) s is = block_behind at q.blocks s is

part_on_behind : (l : Layout) (scanned : List Scanned) (p : PartOfLayout)
    → PartBehind (4096 + l.device.first_logical_sector) (planned_on l scanned p)
part_on_behind l scanned p s (inl is) = block_behind l.device.first_logical_sector p.blocks s is
part_on_behind l scanned p s (inr is) =
    store_behind l.device.first_logical_sector (first_named (store_of p.name) l.parts) s is

planned_behind : (l : Layout) (scanned : List Scanned) (parts : List PartOfLayout)
    → All (PartBehind (4096 + l.device.first_logical_sector)) (map (planned_on l scanned) parts)
planned_behind l scanned [] k e below = absurd (omega (arith, below))
planned_behind l scanned (p ∷ ps) zero e below = part_on_behind l scanned p
planned_behind l scanned (p ∷ ps) (suc k) e below =
    planned_behind l scanned ps k e (omega (arith, below))

-- ---- what a turn writes

one_run : (chunk : Chunk) (es : List Exception) → 0 < length es → MayRun chunk es 1 1
one_run chunk es some = record {
  run = record {
    within = omega (arith, some);
    joined = λ j from below. absurd (omega (arith, from, below));
  };
  at_most = omega arith;
}

turn_in : (d : Device) (size from s : ℕ)
    → IsDevice d size
    → d.mark.phase ≡ marks.Merging
    → All (PartBehind from) (own_of d)
    → IsOfTurn d s
    → from ≤ s
turn_in d size from s is merging all w =
    let has = next_has d w.place w.next in
    let p : Part = part_at d w.place in
    let super_end = d.tail.super_end in
    let part : IsPart super_end p =
    All-get_or (IsPart super_end) (own_of d) w.place no_part has.0
    (own_kept d size (single_of d size is merging) is).each in
    let stored : IsStored super_end p.map (Some w.store)
    (Written w.chunk w.exceptions) =
    subst (λ (x : Option (List ℕ) × PartImage). IsStored super_end p.map x.0 x.1)
    (λ i. (w.stored i, w.written i)) part.store in
    let last : ℕ = length w.exceptions - 1 in
    let one : length w.exceptions - last ≡ 1 = omega (arith, w.some) in
    let behind : PartBehind from p =
    All-get_or (PartBehind from) (own_of d) w.place no_part has.0 all in
    behind s
    (elim (merged_in w.chunk p.map w.store w.exceptions 1 s stored.1 (record {
      place = last;
      within = omega (arith, w.some);
      may_run =
          subst (MayRun w.chunk w.exceptions 1) (sym one) (one_run w.chunk w.exceptions w.some);
      here = w.here;
    })) [
      | inl is ↦ inl is
      | inr is ↦
          inr (subst (λ (o : Option (List ℕ)). IsOfBlocks (blocks_there o) s) (sym w.stored) is)
    ])

pub turns_behind : (d : Device) (size : ℕ) (image : Image) (blocks s : ℕ)
    → IsDevice d size
    → Represents d size image
    → d.mark.phase ≡ marks.Merging
    → IsOfTurns blocks d s
    → copies_end d.geometry ≤ 512 * (s - 4096)
turns_behind d size image blocks s is represents merging w =
    let i : Merges d size image = merges_of d size image represents merging in
    let rules : Rules d size image i = rules_of d size image i is in
    let l : Layout = layout_of i.table in
    let from : ℕ = 4096 + l.device.first_logical_sector in
    let all : All (PartBehind from) (own_of d) =
    subst (All (PartBehind from)) (sym (own_is d size image i))
    (planned_behind l i.scanned (own_parts i.slot l.parts)) in
    let behind : from ≤ s =
    turn_in (turned w.before d) size from s
    (turned_kept w.before d size is merging)
    (ap (λ m. m.phase) (turned_mark w.before d) ∙ merging)
    (turned_behind w.before from d all) w.turn in
    let lies =
    and_parts (nat_le l.device.size (super_bytes i.tail.super_end))
    (nat_le (copies_end i.geometry) (512 * l.device.first_logical_sector))
    rules.table.lies in
    let geometry : d.geometry ≡ i.geometry = ap (λ (k : Device). k.geometry) i.is in
    let copies : copies_end i.geometry ≤ 512 * l.device.first_logical_sector =
    leb-true (copies_end i.geometry) (512 * l.device.first_logical_sector) lies.1 in
    subst (λ (g : Geometry). copies_end g ≤ 512 * (s - 4096)) (sym geometry)
    (omega (arith, behind, copies))
