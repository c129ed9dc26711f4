-- What callers need of the sizes of physical partitions.
use Rattle.std.proofs.Common.{◌≡◌, ℕ, ◌+◌, ◌^◌, ◌<◌, ◌≤◌, ◌&&◌, Bool, true, false, cond, eqb}
use Rattle.std.proofs.Common.{List, [], ◌∷◌, ◌++◌, length, take, get_or, Option, None}
use Rattle.std.proofs.Common.{Result, Ok, Err, refl, sym, ap, ◌∙◌, arith, lit<, lit≤}
use Rattle.std.specs.Int.{w64, to_le_bytes}
use Rattle.std.specs.Prelude.{nat_le, nat_lt}
use Rattle.std.proofs.lemmas.Bool.{eqb-true, eq-eqb, cond-true, and_parts, and_from, leb-true}
use Rattle.vab_bytes.specs.Number.{IsBytes, field, le_at, put_at}
use Rattle.vab_bytes.proofs.NumberLaws.{length-field, length-put_at, field-put_at_same}
use Rattle.vab_bytes.proofs.NumberLaws.{field-put_at_below, field-put_at_above, get_or-put_at_below}
use Rattle.vab_bytes.proofs.NumberLaws.{le_at_spelled_64, le_at_is_64}
use Rattle.vab_bytes.specs.Crc.{crc_of}
use Rattle.vab_marks.specs.declared.sector.MarkFault.{MarkFault}
use Rattle.vab_marks.specs.declared.sector.MarkFault.TheVariants.{BadField}
use Rattle.vab_marks.specs.declared.physical.PhysicalSizes.{PhysicalSizes}
use Rattle.vab_marks.specs.Sector.{zeros, are_zeros, sealed, head_fault, unless}
use Rattle.vab_marks.proofs.SectorLaws.{zeros_are, length-zeros, field-zeros, are_zeros-zeros}
use Rattle.vab_marks.proofs.SectorLaws.{zeros_from, field-add, field-one, length-sealed}
use Rattle.vab_marks.proofs.SectorLaws.{field-sealed, get_or-sealed, unless_ok, front_sum, head_is}
use Rattle.vab_marks.proofs.SectorLaws.{head_again}
use Rattle.vab_marks.specs.Physical.{FitsSizes, is_size, are_sizes, is_clean, sizes_in}
use Rattle.vab_marks.specs.Physical.{physical_magic, physical_front, physical_spelling}
use Rattle.vab_marks.specs.Physical.{physical_fields, physical_of}

-- ---- the front of the sector

-- the parts make the front
front_is : (bytes : List ℕ) (s : PhysicalSizes)
    → length bytes ≡ 512
    → take 4 bytes ≡ physical_magic
    → get_or bytes 4 0 ≡ 1
    → field bytes 5 3 ≡ zeros 3
    → field bytes 8 8 ≡ to_le_bytes w64 s.boot
    → field bytes 16 8 ≡ to_le_bytes w64 s.vbmeta
    → field bytes 24 484 ≡ zeros 484
    → take 508 bytes ≡ physical_front s
front_is bytes s len magic version blank boot vbmeta rest =
    let tail : List ℕ = to_le_bytes w64 s.vbmeta ++ zeros 484 in
    let from16 : field bytes 16 492 ≡ tail =
    field-add bytes 16 8 484 ∙ ap (λ (t : List ℕ). t ++ field bytes 24 484) vbmeta
    ∙ ap (λ (t : List ℕ). to_le_bytes w64 s.vbmeta ++ t) rest in
    let from8 : field bytes 8 500 ≡ to_le_bytes w64 s.boot ++ tail =
    field-add bytes 8 8 492 ∙ ap (λ (t : List ℕ). t ++ field bytes 16 492) boot
    ∙ ap (λ (t : List ℕ). to_le_bytes w64 s.boot ++ t) from16 in
    let none : field bytes 5 3 ≡ 0 ∷ 0 ∷ 0 ∷ [] = blank ∙ zeros_are 3 in
    let from5 : field bytes 5 503 ≡ 0 ∷ 0 ∷ 0 ∷ (to_le_bytes w64 s.boot ++ tail) =
    field-add bytes 5 3 500 ∙ ap (λ (t : List ℕ). t ++ field bytes 8 500) none
    ∙ ap (λ (t : List ℕ). 0 ∷ 0 ∷ 0 ∷ t) from8 in
    let e4 : field bytes 4 1 ≡ 1 ∷ [] = field-one bytes 4 (omega (arith, len))
    ∙ ap (λ (k : ℕ). k ∷ []) version in
    let from4 : field bytes 4 504 ≡ 1 ∷ 0 ∷ 0 ∷ 0 ∷ (to_le_bytes w64 s.boot ++ tail) =
    field-add bytes 4 1 503 ∙ ap (λ (t : List ℕ). t ++ field bytes 5 503) e4
    ∙ ap (λ (t : List ℕ). 1 ∷ t) from5 in
    field-add bytes 0 4 504 ∙ ap (λ (t : List ℕ). t ++ field bytes 4 504) magic
    ∙ ap (λ (t : List ℕ). physical_magic ++ t) from4

length-front : (s : PhysicalSizes) → length (physical_front s) ≡ 508
length-front s = omega (arith, length-zeros 484)

-- ---- reading

fields_ok : (t : Bool) (x s : PhysicalSizes)
    → (let one : Result PhysicalSizes MarkFault = cond t (Ok x) (Err BadField) in one ≡ Ok s)
    → (t ≡ true) × (x ≡ s)
fields_ok true x s h = (refl, cc)
fields_ok false x s h = absurd cc

-- what is read is spelled so
pub found_physical : (bytes : List ℕ) (s : PhysicalSizes)
    → length bytes ≡ 512
    → IsBytes bytes
    → physical_of bytes ≡ Ok s
    → FitsSizes s × (bytes ≡ physical_spelling s)
unfolding physical_of physical_spelling
found_physical bytes s len are h =
    let known : Bool = eqb (get_or bytes 4 0) 1 in
    let u = unless_ok (head_fault physical_magic known bytes) (physical_fields bytes) s h in
    let head = head_is physical_magic known bytes len are u.0 in
    let f = fields_ok (is_clean bytes && are_sizes (sizes_in bytes)) (sizes_in bytes) s u.1 in
    let tests = and_parts (is_clean bytes) (are_sizes (sizes_in bytes)) f.0 in
    let clean = and_parts (are_zeros (field bytes 5 3)) (are_zeros (field bytes 24 484)) tests.0 in
    let sized = and_parts (is_size (sizes_in bytes).boot) (is_size (sizes_in bytes).vbmeta)
    tests.1 in
    let boot_is : le_at w64 bytes 8 ≡ s.boot = ap (λ (x : PhysicalSizes). x.boot) f.1 in
    let vbmeta_is : le_at w64 bytes 16 ≡ s.vbmeta = ap (λ (x : PhysicalSizes). x.vbmeta) f.1 in
    let boot : field bytes 8 8 ≡ to_le_bytes w64 s.boot =
    sym (le_at_spelled_64 bytes 8 (omega (arith, len)) are) ∙ ap (to_le_bytes w64) boot_is in
    let vbmeta : field bytes 16 8 ≡ to_le_bytes w64 s.vbmeta =
    sym (le_at_spelled_64 bytes 16 (omega (arith, len)) are) ∙ ap (to_le_bytes w64) vbmeta_is in
    let front : take 508 bytes ≡ physical_front s =
    front_is bytes s len head.first (eqb-true _ _ head.version)
    (zeros_from (field bytes 5 3) 3 (length-field bytes 5 3 (omega (arith, len))) clean.0)
    boot vbmeta
    (zeros_from (field bytes 24 484) 484 (length-field bytes 24 484 (omega (arith, len)))
    clean.1) in (
      record {
        boot = ap is_size (sym boot_is) ∙ sized.0;
        vbmeta = ap is_size (sym vbmeta_is) ∙ sized.1;
      },
      head.whole ∙ ap sealed front,
    )

-- sizes are small
size_small : (n : ℕ) → is_size n ≡ true → n < 2 ^ 64
size_small n h =
    let parts = and_parts (nat_lt 0 n) (nat_le n (2 ^ 20)) h in
    omega (arith, leb-true n (2 ^ 20) parts.1)

-- what is spelled so is read
pub only_physical : (s : PhysicalSizes)
    → crc_of (physical_front s) < 2 ^ 32
    → FitsSizes s
    → physical_of (physical_spelling s) ≡ Ok s
unfolding physical_of physical_spelling
only_physical s sum fits =
    let front : List ℕ = physical_front s in
    let whole : List ℕ = sealed front in
    let len : length front ≡ 508 = length-front s in
    let version : eqb (get_or whole 4 0) 1 ≡ true =
    eq-eqb _ 1 (get_or-sealed front 4 (omega (arith, len))) in
    let head : head_fault physical_magic (eqb (get_or whole 4 0) 1) whole ≡ None =
    head_again physical_magic (eqb (get_or whole 4 0) 1) front len sum refl version in
    let boot : le_at w64 whole 8 ≡ s.boot =
    le_at_is_64 whole 8 s.boot (size_small s.boot fits.boot)
    (field-sealed front 8 8 (omega (arith, len))) in
    let vbmeta : le_at w64 whole 16 ≡ s.vbmeta =
    le_at_is_64 whole 16 s.vbmeta (size_small s.vbmeta fits.vbmeta)
    (field-sealed front 16 8 (omega (arith, len))) in
    let first : are_zeros (field whole 5 3) ≡ true =
    ap are_zeros (field-sealed front 5 3 (omega (arith, len))) in
    let back : are_zeros (field whole 24 484) ≡ true =
    ap are_zeros (field-sealed front 24 484 (omega (arith, len))
    ∙ field-zeros 484 0 484 (lit≤ tt))
    ∙ are_zeros-zeros 484 in
    let read : sizes_in whole ≡ s = rw (boot, vbmeta) refl in
    let sized : are_sizes (sizes_in whole) ≡ true =
    ap are_sizes read ∙ and_from _ _ fits.boot fits.vbmeta in
    let of_head : Option MarkFault → Result PhysicalSizes MarkFault = λ o.
    unless o (physical_fields whole) in
    let of_sizes : PhysicalSizes → Result PhysicalSizes MarkFault = λ x. Ok x in
    ap of_head head
    ∙ cond-true _ _ (Err BadField) (and_from _ _ (and_from _ _ first back) sized)
    ∙ ap of_sizes read

pub read_physical : (bytes : List ℕ) (s : PhysicalSizes)
    → IsBytes bytes
    → FitsSizes s
    → bytes ≡ physical_spelling s
    → physical_of bytes ≡ Ok s
unfolding physical_spelling
read_physical bytes s are fits h =
    ap physical_of h
    ∙ only_physical s (front_sum bytes (physical_front s) (length-front s) are h) fits

-- ---- writing

-- the sector before its sum
abbrev pub physical_drawn : PhysicalSizes → List ℕ
physical_drawn s =
    put_at (put_at (put_at (put_at (zeros 512) 0 physical_magic) 4 (1 ∷ [])) 8
    (to_le_bytes w64 s.boot)) 16
    (to_le_bytes w64 s.vbmeta)

pub drawn_physical : (s : PhysicalSizes) → take 508 (physical_drawn s) ≡ physical_front s
drawn_physical s =
    let z : List ℕ = zeros 512 in
    let b1 : List ℕ = put_at z 0 physical_magic in
    let b2 : List ℕ = put_at b1 4 (1 ∷ []) in
    let boot : List ℕ = to_le_bytes w64 s.boot in
    let b3 : List ℕ = put_at b2 8 boot in
    let vbmeta : List ℕ = to_le_bytes w64 s.vbmeta in
    let l0 : length z ≡ 512 = length-zeros 512 in
    let l1 : length b1 ≡ 512 = length-put_at z 0 physical_magic (omega (arith, l0)) ∙ l0 in
    let l2 : length b2 ≡ 512 = length-put_at b1 4 (1 ∷ []) (omega (arith, l1)) ∙ l1 in
    let l3 : length b3 ≡ 512 = length-put_at b2 8 boot (omega (arith, l2)) ∙ l2 in
    let l4 : length (physical_drawn s) ≡ 512 =
    length-put_at b3 16 vbmeta (omega (arith, l3)) ∙ l3 in
    let fits3 : 8 + 8 ≤ length b2 = omega (arith, l2) in
    let fits4 : 16 + 8 ≤ length b3 = omega (arith, l3) in
    let blank : (at m : ℕ) → 5 ≤ at → at + m ≤ 512 → field b2 at m ≡ zeros m =
    λ at m from to. field-put_at_above b1 4 (1 ∷ []) at m (omega (arith, l1))
    (omega (arith, from)) ∙ field-put_at_above z 0 physical_magic at m (omega (arith, l0))
    (omega (arith, from)) ∙ field-zeros 512 at m to in
    let low : (at m : ℕ) → at + m ≤ 8 → field (physical_drawn s) at m ≡ field b2 at m =
    λ at m le. field-put_at_below b3 16 vbmeta at m fits4 (omega (arith, le))
    ∙ field-put_at_below b2 8 boot at m fits3 le in
    let version : get_or (physical_drawn s) 4 0 ≡ 1 =
    get_or-put_at_below b3 16 vbmeta 4 fits4 (lit< tt)
    ∙ get_or-put_at_below b2 8 boot 4 fits3 (lit< tt) in
    let first : field (physical_drawn s) 8 8 ≡ boot =
    field-put_at_below b3 16 vbmeta 8 8 fits4 (lit≤ tt)
    ∙ field-put_at_same b2 8 8 boot fits3 refl in
    let rest : field (physical_drawn s) 24 484 ≡ zeros 484 =
    field-put_at_above b3 16 vbmeta 24 484 fits4 (lit≤ tt)
    ∙ field-put_at_above b2 8 boot 24 484 fits3 (lit≤ tt)
    ∙ blank 24 484 (lit≤ tt) (lit≤ tt) in
    front_is (physical_drawn s) s l4 (low 0 4 (lit≤ tt)) version
    (low 5 3 (lit≤ tt) ∙ blank 5 3 (lit≤ tt) (lit≤ tt))
    first (field-put_at_same b3 16 8 vbmeta fits4 refl) rest

pub length-physical_spelling : (s : PhysicalSizes) → length (physical_spelling s) ≡ 512
unfolding physical_spelling
length-physical_spelling s = length-sealed (physical_front s) (length-front s)
