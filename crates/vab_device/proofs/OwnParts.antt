-- A slot's own partitions keep the rules of a device's.
use Rattle.std.proofs.Common.{◌≡◌, ◌≢◌, ℕ, ◌+◌, ◌-◌, ◌*◌, ◌≤◌, ◌<◌, ◌^◌, true}
use Rattle.std.proofs.Common.{List, [], ◌∷◌, ◌++◌, length, get_or}
use Rattle.std.proofs.Common.{sym}
use Rattle.std.proofs.Common.{◌∙◌, ap, arith, length-append}
use Rattle.std.specs.Prelude.{map, All, AllPairs, IsTrue}
use Rattle.std.proofs.Math.Seq.{get_or-append_right}
use Rattle.std.proofs.Math.ListN.{get_or-append}
use Rattle.std.proofs.lemmas.Bool.{leb-true, and_parts}
use Rattle.std.proofs.lemmas.List.{length-map, length-append, get_or-map}
use Rattle.std.proofs.lemmas.List.Elements.{All-map, All-filter, All-cons}
use Rattle.vab_names.specs.Names.{is_base, base_of, is_of_slot}
use Rattle.vab_geometry.specs.declared.geometry.Geometry.{Geometry}
use Rattle.vab_tables.specs.declared.entries.BlockDevice.{BlockDevice}
use Rattle.vab_tables.specs.Rules.{cap_of, IsDevice as IsBlockDevice}
use Rattle.vab_layout.specs.declared.layout.Part.{Part as PartOfLayout}
use Rattle.vab_layout.specs.declared.layout.Layout.{Layout}
use Rattle.vab_layout.specs.Layout.{blocks_of_parts}
use Rattle.vab_layout.specs.Rules.{IsPart as IsPartOfLayout, IsLayout}
use Rattle.vab_layout.specs.Slots.{own_parts, IsOwn, IsDistinct}
use Rattle.vab_device.specs.Kept.{super_bytes, lies_in, sectors_of, part_on, parts_of}
use Rattle.vab_device.specs.Kept.{IsPart, AreParts}

pairs_left : (xs ys : List ℕ) → IsDistinct (xs ++ ys) → IsDistinct xs
pairs_left xs ys h = λ i j d low lt.
    let li : i < length xs = omega (arith, low, lt) in
    let ei : get_or (xs ++ ys) i d ≡ get_or xs i d = get_or-append xs ys d i li in
    let ej : get_or (xs ++ ys) j d ≡ get_or xs j d = get_or-append xs ys d j lt in
    λ e. h i j d low (omega (arith, length-append xs ys, lt)) (ei ∙ e ∙ sym ej)

pub pairs_right : (xs ys : List ℕ) → IsDistinct (xs ++ ys) → IsDistinct ys
pairs_right xs ys h = λ i j d low lt.
    let n : ℕ = length xs in
    let ei : get_or (xs ++ ys) (n + i) d ≡ get_or ys i d = get_or-append_right xs ys (n + i) d
    (omega arith) ∙ ap (λ (k : ℕ). get_or ys k d) (let k : n + i - n ≡ i = omega arith in k) in
    let ej : get_or (xs ++ ys) (n + j) d ≡ get_or ys j d = get_or-append_right xs ys (n + j) d
    (omega arith) ∙ ap (λ (k : ℕ). get_or ys k d) (let k : n + j - n ≡ j = omega arith in k) in
    λ e. h (n + i) (n + j) d (omega (arith, low)) (omega (arith, length-append xs ys, lt))
    (ei ∙ e ∙ sym ej)

pub each_distinct : (ps : List PartOfLayout) → IsDistinct (blocks_of_parts ps)
    → All (λ p. IsDistinct p.blocks) ps
each_distinct [] h = λ k d lt. absurd (omega arith)
each_distinct (p ∷ ps) h = All-cons (λ (q : PartOfLayout). IsDistinct q.blocks) p ps
    (pairs_left p.blocks (blocks_of_parts ps) h)
    (each_distinct ps (pairs_right p.blocks (blocks_of_parts ps) h))

pub length-sectors_of : (first : ℕ) (blocks : List ℕ)
    → length (sectors_of first blocks) ≡ length blocks
unfolding sectors_of
length-sectors_of first blocks = length-map blocks (λ b. 4096 + first + 8 * b)

pub sectors_distinct : (first : ℕ) (blocks : List ℕ) → IsDistinct blocks
    → AllPairs (λ a b. a ≢ b) (sectors_of first blocks)
unfolding sectors_of
sectors_distinct first blocks h = λ i j d low lt.
    let place : ℕ → ℕ = λ b. 4096 + first + 8 * b in
    let long = length-map blocks place in
    let ei : get_or (map place blocks) i d
    ≡ place (get_or blocks i 0) = get_or-map place blocks i 0 d
    (omega (arith, low, lt, long)) in
    let ej : get_or (map place blocks) j d
    ≡ place (get_or blocks j 0) = get_or-map place blocks j 0 d (omega (arith, lt, long)) in
    λ e. h i j 0 low (omega (arith, lt, long)) (omega (arith, sym ei ∙ e ∙ ej))

pub sectors_on : (first cap size : ℕ) (blocks : List ℕ) → 4096 + first + 8 * cap ≤ size
    → All (λ b. b < cap) blocks → All (λ s. s + 8 ≤ size) (sectors_of first blocks)
unfolding sectors_of
sectors_on first cap size blocks on below = All-map (λ (s : ℕ). s + 8 ≤ size)
    (λ b. 4096 + first + 8 * b) blocks (λ k d lt. omega (arith, below k d lt, on))

part_is : (size first cap : ℕ) (p : PartOfLayout) → IsTrue (is_base (base_of p.name))
    → 4096 + first + 8 * cap ≤ size → All (λ b. b < cap) p.blocks → IsDistinct p.blocks
    → length p.blocks ≤ 2 ^ 28 → IsPart size (part_on first p)
part_is size first cap p base on below once small = record {
  name = base;
  on_disk = sectors_on first cap size p.blocks on below;
  once = sectors_distinct first p.blocks once;
  small = omega (arith, small, length-sectors_of first p.blocks);
  store = tt;
}

-- the blocks of the device end by the end of the disk
pub blocks_on : (size : ℕ) (g : Geometry) (d : BlockDevice) → 4120 ≤ size → IsBlockDevice d
    → lies_in size g d ≡ true → 4096 + d.first_logical_sector + 8 * cap_of d ≤ size
blocks_on size g d enough is lies =
    let inside = leb-true d.size (super_bytes size) (and_parts _ _ lies).0 in
    omega (arith, enough, inside, is.within)

pub parts_kept : (size slot : ℕ) (g : Geometry) (l : Layout) → 4120 ≤ size → IsLayout l
    → IsOwn slot l.parts → lies_in size g l.device ≡ true → AreParts size (parts_of slot l)
parts_kept size slot g l enough rules own lies =
    let first = l.device.first_logical_sector in
    let cap = cap_of l.device in
    let mine : List PartOfLayout = own_parts slot l.parts in
    let on = blocks_on size g l.device enough rules.device lies in
    let each : All (IsPartOfLayout cap l.groups) mine = All-filter
    (λ (p : PartOfLayout). is_of_slot slot p.name) (IsPartOfLayout cap l.groups) l.parts
    rules.parts in
    let once = each_distinct mine own.once in
    record {
      each = All-map (IsPart size) (part_on first) mine
          (λ k d lt.
          part_is size first cap (get_or mine k d) (own.each k d lt).base on (each k d lt).blocks
          (once k d lt) (own.each k d lt).size);
      few = omega (arith, own.few, length-map mine (part_on first));
    }
