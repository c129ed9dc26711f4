-- What single steps leave in single sectors.
use Rattle.std.proofs.Common.{◌≡◌, ◌∙◌, inl, ℕ, suc, ◌+◌, ◌-◌, ◌*◌, ◌<◌, min}
use Rattle.std.proofs.Common.{List, ◌++◌, length, get_or, take, drop, replicate, Ok}
use Rattle.std.proofs.Common.{refl, sym, ap, subst, arith, length-append, below_more}
use Rattle.std.proofs.lemmas.List.{take_at, take_min, drop_min, drop-replicate, length-replicate}
use Rattle.std.proofs.lemmas.List.{length-take, get_or_default}
use Rattle.vab_disk.specs.Disk.{Image, set_sector}
use Rattle.vab_disk.specs.Written.{set_here, set_there}
use Rattle.vab_gate.specs.Gate.{part, set_block, sectors_at}
use Rattle.vab_gate.proofs.Blocks.{block_inside, block_there, block_here}
use Rattle.vab_space.specs.Space.{blocks_of}
use Rattle.vab_set.specs.declared.set.SetImage.{SetImage}
use Rattle.vab_bootctl.specs.Control.{control_of, KeepsRest}
use Rattle.vab_geometry.specs.declared.geometry.Geometry.{Geometry}
use Rattle.vab_geometry.specs.Geometry.{IsGeometry, front_bytes, back_bytes, sum_around}
use Rattle.vab_geometry.specs.Geometry.{geometry_sector}
use Rattle.vab_geometry.specs.Reading.{geometry_of}
use Rattle.vab_geometry.proofs.GeometryLaws.{length-sum, sector_read}
use Rattle.vab_make.specs.Made.{made_control, made_geometry, set_blocks}
use Rattle.vab_make.specs.Steps.{block_of, HoldsBlocks, HoldsImages, SameAround, blanked}
use Rattle.vab_make.specs.Steps.{HasControl}
use Rattle.vab_make.proofs.BlockLaws.{blocks_kept}
use Rattle.vab_make.proofs.SumLaws.{blocks_more, blocks_less}

-- the bytes that there are, and zeros behind them
pub filled : (text rest : List ℕ) (k start n m : ℕ) (piece : List ℕ)
    → start ≡ min (4096 * k) (length text)
    → rest ≡ drop start text
    → n ≡ min 4096 (length rest)
    → piece ≡ take n rest
    → m ≡ length (take n rest)
    → piece ++ drop m (replicate 4096 0) ≡ block_of text k
filled text rest k start n m piece is_start is_rest is_n is is_m =
    let here : List ℕ = take 4096 (drop (4096 * k) text) in
    let from : rest ≡ drop (4096 * k) text =
    is_rest ∙ ap (λ (n : ℕ). drop n text) is_start ∙ drop_min (4096 * k) text in
    let front : take n rest ≡ here =
    ap (λ (n : ℕ). take n rest) is_n
    ∙ take_min 4096 rest
    ∙ ap (λ (l : List ℕ). take 4096 l) from in
    ap (λ (l : List ℕ). l ++ drop m (replicate 4096 0)) (is ∙ front)
    ∙ ap (λ (k' : ℕ). here ++ drop k' (replicate 4096 0)) (is_m ∙ ap length front)
    ∙ ap (λ (l : List ℕ). here ++ l) (drop-replicate (length here) 4096 0)

-- ---- boot control

pub has_control : (old mid new : Image) (bytes : List ℕ)
    → new ≡ set_sector mid 4 bytes
    → mid ≡ old
    → control_of bytes ≡ Ok made_control
    → KeepsRest (blanked (old 4)) bytes
    → HasControl old new
has_control old mid new bytes is same control rest =
    let here : new 4 ≡ bytes = ap (λ (i : Image). i 4) is ∙ set_here mid 4 bytes 4 refl in
    record {
      control = ap control_of here ∙ control;
      rest = subst (λ (l : List ℕ). KeepsRest (blanked (old 4)) l) (sym here) rest;
      others = λ s other.
          ap (λ (i : Image). i s) is
          ∙ set_there mid 4 bytes s other
          ∙ ap (λ (i : Image). i s) same;
    }

-- ---- the geometry

length-geometry_sector : (g : Geometry) → length (geometry_sector g) ≡ 512
unfolding geometry_sector
length-geometry_sector g =
    let sum : List ℕ = sum_around front_bytes (back_bytes g) in
    omega (
      arith,
      length-append (front_bytes ++ (sum ++ back_bytes g)) (replicate 460 0),
      length-append front_bytes (sum ++ back_bytes g),
      length-append sum (back_bytes g),
      length-sum front_bytes (back_bytes g),
    )

-- the first sector of its block
pub geometry_first : (g : Geometry) (image : Image) (at : ℕ)
    → set_block image at (geometry_sector g ++ replicate 3584 0) at ≡ geometry_sector g
geometry_first g image at =
    let page : List ℕ = geometry_sector g ++ replicate 3584 0 in
    let none : at - at ≡ 0 = omega arith in
    block_inside image at page at (omega arith) (omega arith)
    ∙ ap (λ (k : ℕ). part k page) none
    ∙ take_at (geometry_sector g) (replicate 3584 0) 512 (length-geometry_sector g)

-- a sector of the geometry that stays is read
pub sector_kept : (mid new : Image) (g : Geometry) (max at : ℕ)
    → g ≡ made_geometry max
    → IsGeometry (made_geometry max)
    → mid at ≡ geometry_sector g
    → new at ≡ mid at
    → geometry_of (new at) ≡ Ok (made_geometry max)
sector_kept mid new g max at is rules here same =
    ap geometry_of (same ∙ here ∙ ap geometry_sector is) ∙ sector_read (made_geometry max) rules

-- ---- the blocks of an image

length-block_of : (bytes : List ℕ) (k : ℕ) → length (block_of bytes k) ≡ 4096
length-block_of bytes k =
    let front : List ℕ = take 4096 (drop (4096 * k) bytes) in
    omega (
      arith,
      length-append front (replicate (4096 - length front) 0),
      length-replicate {A = ℕ} (4096 - length front) 0,
      length-take 4096 (drop (4096 * k) bytes),
    )

-- one block more
pub holds_more : (k at : ℕ) (bytes block : List ℕ) (old new : Image)
    → new ≡ set_block old (at + 8 * k) block
    → block ≡ block_of bytes k
    → HoldsBlocks k at bytes old
    → HoldsBlocks (k + 1) at bytes new
holds_more k at bytes block old new is one holds =
    below_more (λ j. sectors_at 8 new (at + 8 * j) ≡ block_of bytes j) k
    (blocks_kept k at bytes old new
    (λ s first last. block_there old new (at + 8 * k) block is s (inl last))
    holds)
    (block_here old new (at + 8 * k) block is (ap length one ∙ length-block_of bytes k) ∙ one)

-- one image more
pub images_more : (i at n : ℕ) (set : List SetImage) (x : SetImage) (bytes : List ℕ)
    (old new : Image)
    → i < length set
    → x ≡ get_or set i x
    → at ≡ 6144 + 8 * set_blocks (take i set)
    → n ≡ blocks_of x.size
    → bytes ≡ x.bytes
    → SameAround at (8 * n) old new
    → HoldsBlocks n at bytes new
    → HoldsImages i set old
    → HoldsImages (i + 1) set new
images_more i at n set x bytes old new lt item place many text same one holds =
    let first : ℕ → ℕ = λ j. 6144 + 8 * set_blocks (take j set) in
    let P : ℕ → Type 0 =
    λ j.
    (d : SetImage)
    → HoldsBlocks (blocks_of (get_or set j d).size) (first j) (get_or set j d).bytes new in
    let all : (j : ℕ) → j < i + 1 → P j =
    below_more P i
    (λ j below d.
    let sum = blocks_more set j d (omega (arith, lt, below)) in
    let less = blocks_less set (suc j) i (omega (arith, below)) in
    blocks_kept (blocks_of (get_or set j d).size) (first j) (get_or set j d).bytes old new
    (λ s from last. same s (inl (omega (arith, last, sum, less, place))))
    (holds j d below))
    (λ d.
    let is : x ≡ get_or set i d = item ∙ get_or_default set i x d lt in
    subst (λ (y : SetImage). HoldsBlocks (blocks_of y.size) (first i) y.bytes new) is
    (subst (λ (m : ℕ). HoldsBlocks m (first i) x.bytes new) many
    (subst (λ (s : ℕ). HoldsBlocks n s x.bytes new) place
    (subst (λ (l : List ℕ). HoldsBlocks n at l new) text one)))) in
    λ j d below. all j below d
