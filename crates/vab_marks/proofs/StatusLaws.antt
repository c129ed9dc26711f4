-- What callers need of the statuses of partitions.
use Rattle.std.proofs.Common.{◌≡◌, ℕ, ◌+◌, ◌-◌, ◌^◌, ◌<◌, ◌≤◌, Bool, true, false, cond, eqb}
use Rattle.std.proofs.Common.{List, [], ◌∷◌, ◌++◌, length, take, drop, replicate, get_or, Option}
use Rattle.std.proofs.Common.{Some, None, Result, Ok, Err, refl, sym, ap, subst, ◌∙◌, arith, lit<}
use Rattle.std.proofs.Common.{lit≤}
use Rattle.std.specs.Int.{w16, w64, to_le_bytes}
use Rattle.std.proofs.lemmas.Bool.{eqb-true, eq-eqb, cond-true}
use Rattle.std.proofs.lemmas.List.{length-replicate, drop-drop, take_at, drop_at, length-append}
use Rattle.vab_bytes.specs.Number.{IsBytes, field, le_at, put_at}
use Rattle.vab_bytes.proofs.NumberLaws.{length-field, length-put_at, field-put_at_same}
use Rattle.vab_bytes.proofs.NumberLaws.{field-put_at_below, field-put_at_above, get_or-put_at_below}
use Rattle.vab_bytes.proofs.NumberLaws.{le_at_fits_64, le_at_spelled_16, le_at_spelled_64}
use Rattle.vab_bytes.proofs.NumberLaws.{le_at_is_16, le_at_is_64}
use Rattle.vab_bytes.specs.Name.{IsName, name_field, name_of_field}
use Rattle.vab_bytes.proofs.NameLaws.{name_fits, found_name, only_name}
use Rattle.vab_bytes.specs.Crc.{crc_of}
use Rattle.vab_space.specs.declared.Chunk.{Chunk}
use Rattle.vab_space.specs.declared.Chunk.TheVariants.{One, Two, Four}
use Rattle.vab_space.specs.Sectors.{sectors_in, chunk_of_sectors}
use Rattle.vab_marks.specs.declared.sector.MarkFault.{MarkFault}
use Rattle.vab_marks.specs.declared.sector.MarkFault.TheVariants.{BadField, BadMagic}
use Rattle.vab_marks.specs.declared.status.PartStatus.{PartStatus}
use Rattle.vab_marks.specs.declared.status.StatusImage.{StatusImage}
use Rattle.vab_marks.specs.declared.status.StatusImage.TheVariants.{Stored, InPlace}
use Rattle.vab_marks.specs.Sector.{zeros, are_zeros, sealed, head_fault, unless}
use Rattle.vab_marks.proofs.SectorLaws.{zeros_are, length-zeros, field-zeros, are_zeros-zeros}
use Rattle.vab_marks.proofs.SectorLaws.{zeros_from, field-add, field-one, length-sealed}
use Rattle.vab_marks.proofs.SectorLaws.{field-sealed, get_or-sealed, unless_ok, front_sum, head_is}
use Rattle.vab_marks.proofs.SectorLaws.{head_again, zero_head}
use Rattle.vab_marks.specs.Status.{FitsStatus, status_magic, status_front, status_spelling}
use Rattle.vab_marks.specs.Status.{state_byte, chunk_said, count_said, placed_in, image_of}
use Rattle.vab_marks.specs.Status.{with_fields, status_fields, status_of}

-- ---- the front of the sector

-- the parts make the front
front_is : (bytes : List ℕ) (s : PartStatus)
    → length bytes ≡ 512
    → take 4 bytes ≡ status_magic
    → get_or bytes 4 0 ≡ 1
    → get_or bytes 5 0 ≡ state_byte s.image
    → field bytes 6 2 ≡ to_le_bytes w16 (sectors_in (chunk_said s.image))
    → field bytes 8 36 ≡ name_field s.name
    → field bytes 44 8 ≡ to_le_bytes w64 (count_said s.image)
    → field bytes 52 456 ≡ zeros 456
    → take 508 bytes ≡ status_front s
front_is bytes s len magic version state chunk name count rest =
    let here : ℕ = state_byte s.image in
    let e4 : field bytes 4 1 ≡ 1 ∷ [] = field-one bytes 4 (omega (arith, len))
    ∙ ap (λ (k : ℕ). k ∷ []) version in
    let e5 : field bytes 5 1 ≡ here ∷ [] = field-one bytes 5 (omega (arith, len))
    ∙ ap (λ (k : ℕ). k ∷ []) state in
    let many : List ℕ = to_le_bytes w64 (count_said s.image) in
    let from44 : field bytes 44 464 ≡ many ++ zeros 456 =
    field-add bytes 44 8 456 ∙ ap (λ (t : List ℕ). t ++ field bytes 52 456) count
    ∙ ap (λ (t : List ℕ). many ++ t) rest in
    let from8 : field bytes 8 500 ≡ name_field s.name ++ (many ++ zeros 456) =
    field-add bytes 8 36 464 ∙ ap (λ (t : List ℕ). t ++ field bytes 44 464) name
    ∙ ap (λ (t : List ℕ). name_field s.name ++ t) from44 in
    let tail : List ℕ = name_field s.name ++ (many ++ zeros 456) in
    let size : List ℕ = to_le_bytes w16 (sectors_in (chunk_said s.image)) in
    let from6 : field bytes 6 502 ≡ size ++ tail = field-add bytes 6 2 500
    ∙ ap (λ (t : List ℕ). t ++ field bytes 8 500) chunk
    ∙ ap (λ (t : List ℕ). size ++ t) from8 in
    let from5 : field bytes 5 503 ≡ here ∷ (size ++ tail) = field-add bytes 5 1 502
    ∙ ap (λ (t : List ℕ). t ++ field bytes 6 502) e5 ∙ ap (λ (t : List ℕ). here ∷ t) from6 in
    let from4 : field bytes 4 504 ≡ 1 ∷ here ∷ (size ++ tail) = field-add bytes 4 1 503
    ∙ ap (λ (t : List ℕ). t ++ field bytes 5 503) e4 ∙ ap (λ (t : List ℕ). 1 ∷ t) from5 in
    field-add bytes 0 4 504 ∙ ap (λ (t : List ℕ). t ++ field bytes 4 504) magic
    ∙ ap (λ (t : List ℕ). status_magic ++ t) from4

length-name_field : (text : List ℕ) → IsName text → length (name_field text) ≡ 36
length-name_field text h =
    let fits = name_fits text h in
    let most : length text ≤ 36 = fits.1 in
    omega (
      arith,
      most,
      length-append text (replicate (36 - length text) 0),
      length-replicate
          {A = ℕ} (36 - length text) 0,
    )

length-front : (s : PartStatus) → IsName s.name → length (status_front s) ≡ 508
length-front s h =
    let name : List ℕ = name_field s.name in
    let rest : List ℕ = to_le_bytes w64 (count_said s.image) ++ zeros 456 in
    let many : length rest ≡ 464 = omega (arith, length-zeros 456) in
    let both : length (name ++ rest) ≡ 500 = length-append name rest
    ∙ omega (arith, length-name_field s.name h, many) in
    omega (arith, both)

-- ---- reading

-- the size of a chunk is read back
chunk_again : (k : Chunk) → chunk_of_sectors (sectors_in k) ≡ Some k
chunk_again One = refl
chunk_again Two = refl
chunk_again Four = refl

chunk_small : (k : Chunk) → sectors_in k < 2 ^ 16
chunk_small One = lit< tt
chunk_small Two = lit< tt
chunk_small Four = lit< tt

-- what is read as one is its size
chunk_was : (n : ℕ) (k : Chunk) → chunk_of_sectors n ≡ Some k → n ≡ sectors_in k
chunk_was n k h = by_tests (eqb n 8) (eqb n 16) (eqb n 32) (eqb-true n 8) (eqb-true n 16)
    (eqb-true n 32) h
  where
    by_tests : (a b c : Bool)
        → (a ≡ true → n ≡ 8)
        → (b ≡ true → n ≡ 16)
        → (c ≡ true → n ≡ 32)
        → cond a (Some One) (cond b (Some Two) (cond c (Some Four) None)) ≡ Some k
        → n ≡ sectors_in k
    by_tests true b c first second third h =
        let same : One ≡ k = cc in first refl ∙ ap sectors_in same
    by_tests false true c first second third h =
        let same : Two ≡ k = cc in second refl ∙ ap sectors_in same
    by_tests false false true first second third h =
        let same : Four ≡ k = cc in third refl ∙ ap sectors_in same
    by_tests false false false first second third h = absurd cc

-- the fields of an image that is read
record AreOfImage (state count : ℕ) (size : Option Chunk) (x : StatusImage) : Type 0 where
  state_is : state ≡ state_byte x
  chunk_is : size ≡ Some (chunk_said x)
  count_is : count ≡ count_said x

placed_ok : (count : ℕ) (k : Chunk) (x : StatusImage)
    → placed_in count k ≡ Some x
    → AreOfImage 2 count (Some k) x
placed_ok count One x h = by (eqb count 0) refl h
  where
    by : (b : Bool)
        → eqb count 0 ≡ b
        → cond b (Some InPlace) None ≡ Some x
        → AreOfImage 2 count (Some One) x
    by true none h =
        let same : InPlace ≡ x = cc in
        subst (λ (y : StatusImage). AreOfImage 2 count (Some One) y) same
        (record { state_is = refl; chunk_is = refl; count_is = eqb-true count 0 none })
    by false some h = absurd cc
placed_ok count Two x h = absurd cc
placed_ok count Four x h = absurd cc

image_ok : (state count : ℕ) (size : Option Chunk) (x : StatusImage)
    → image_of state count size ≡ Some x
    → AreOfImage state count size x
image_ok state count None x h = absurd cc
image_ok state count (Some k) x h = by (eqb state 1) (eqb state 2) refl refl h
  where
    by : (a b : Bool)
        → eqb state 1 ≡ a
        → eqb state 2 ≡ b
        → cond a (Some (Stored count k)) (cond b (placed_in count k) None) ≡ Some x
        → AreOfImage state count (Some k) x
    by true b one two h =
        let same : Stored count k ≡ x = cc in
        subst (λ (y : StatusImage). AreOfImage state count (Some k) y) same
        (record { state_is = eqb-true state 1 one; chunk_is = refl; count_is = refl })
    by false true one two h =
        subst (λ (n : ℕ). AreOfImage n count (Some k) x) (sym (eqb-true state 2 two))
        (placed_ok count k x h)
    by false false one two h = absurd cc

-- and what is spelled so is read
image_again : (x : StatusImage)
    → image_of (state_byte x) (count_said x) (Some (chunk_said x)) ≡ Some x
image_again (Stored count chunk) = refl
image_again InPlace = refl

-- the fields of what is read
record AreFields (x : Option StatusImage) (o : Option (List ℕ)) (s : PartStatus)
    : Type 0 where
  image : x ≡ Some s.image
  name : o ≡ Some s.name

with_fields_ok : (x : Option StatusImage) (o : Option (List ℕ)) (s : PartStatus)
    → with_fields x o ≡ Ok s
    → AreFields x o s
with_fields_ok None o s h = absurd cc
with_fields_ok (Some x) None s h = absurd cc
with_fields_ok (Some x) (Some name) s h =
    let read : PartStatus = record { name = name; image = x } in
    let same : read ≡ s = cc in
    subst (λ (t : PartStatus). AreFields (Some x) (Some name) t) same
    (record { image = refl; name = refl })

fields_ok : (t : Bool) (r : Result PartStatus MarkFault) (s : PartStatus)
    → cond t r (Err BadField) ≡ Ok s
    → (t ≡ true) × (r ≡ Ok s)
fields_ok true r s h = (refl, h)
fields_ok false r s h = absurd cc

-- what is read is spelled so
pub found_status : (bytes : List ℕ) (s : PartStatus)
    → length bytes ≡ 512
    → IsBytes bytes
    → status_of bytes ≡ Ok s
    → FitsStatus s × (bytes ≡ status_spelling s)
unfolding status_of status_spelling
found_status bytes s len are h =
    let known : Bool = eqb (get_or bytes 4 0) 1 in
    let u = unless_ok (head_fault status_magic known bytes) (status_fields bytes) s h in
    let head = head_is status_magic known bytes len are u.0 in
    let f = fields_ok (are_zeros (field bytes 52 456)) _ s u.1 in
    let n = with_fields_ok (image_of (get_or bytes 5 0) (le_at w64 bytes 44)
    (chunk_of_sectors (le_at w16 bytes 6))) (name_of_field (field bytes 8 36)) s f.1 in
    let i = image_ok (get_or bytes 5 0) (le_at w64 bytes 44)
    (chunk_of_sectors (le_at w16 bytes 6)) s.image n.image in
    let chunk : field bytes 6 2 ≡ to_le_bytes w16 (sectors_in (chunk_said s.image)) =
    sym (le_at_spelled_16 bytes 6 (omega (arith, len)) are)
    ∙ ap (to_le_bytes w16) (chunk_was (le_at w16 bytes 6) (chunk_said s.image) i.chunk_is) in
    let name = found_name (field bytes 8 36) s.name (length-field bytes 8 36 (omega (arith, len)))
    n.name in
    let count : field bytes 44 8 ≡ to_le_bytes w64 (count_said s.image) =
    sym (le_at_spelled_64 bytes 44 (omega (arith, len)) are)
    ∙ ap (to_le_bytes w64) i.count_is in
    let rest : field bytes 52 456 ≡ zeros 456 =
    zeros_from (field bytes 52 456) 456 (length-field bytes 52 456 (omega (arith, len)))
    f.0 in
    let front : take 508 bytes ≡ status_front s =
    front_is bytes s len head.first (eqb-true _ _ head.version) i.state_is chunk
    name.1 count rest in
    let small : count_said s.image < 2 ^ 64 =
    subst (λ (k : ℕ). k < 2 ^ 64) i.count_is (le_at_fits_64 bytes 44 are) in
    (record { name = name.0; count = small }, head.whole ∙ ap sealed front)

-- what is spelled so is read
pub only_status : (s : PartStatus)
    → crc_of (status_front s) < 2 ^ 32
    → FitsStatus s
    → status_of (status_spelling s) ≡ Ok s
unfolding status_of status_spelling
only_status s sum fits =
    let front : List ℕ = status_front s in
    let whole : List ℕ = sealed front in
    let len : length front ≡ 508 = length-front s fits.name in
    let name : List ℕ = name_field s.name in
    let rest : List ℕ = to_le_bytes w64 (count_said s.image) ++ zeros 456 in
    let long : length name ≡ 36 = length-name_field s.name fits.name in
    let version : eqb (get_or whole 4 0) 1 ≡ true =
    eq-eqb _ 1 (get_or-sealed front 4 (omega (arith, len))) in
    let head : head_fault status_magic (eqb (get_or whole 4 0) 1) whole ≡ None =
    head_again status_magic (eqb (get_or whole 4 0) 1) front len sum refl version in
    let state : get_or whole 5 0 ≡ state_byte s.image =
    get_or-sealed front 5 (omega (arith, len)) in
    let chunk : le_at w16 whole 6 ≡ sectors_in (chunk_said s.image) =
    le_at_is_16 whole 6 (sectors_in (chunk_said s.image)) (chunk_small (chunk_said s.image))
    (field-sealed front 6 2 (omega (arith, len))) in
    let sized : chunk_of_sectors (le_at w16 whole 6) ≡ Some (chunk_said s.image) =
    ap chunk_of_sectors chunk ∙ chunk_again (chunk_said s.image) in
    let named : field whole 8 36 ≡ name = field-sealed front 8 36 (omega (arith, len))
    ∙ take_at name rest 36 long in
    let counted : le_at w64 whole 44 ≡ count_said s.image =
    le_at_is_64 whole 44 (count_said s.image) fits.count
    (field-sealed front 44 8 (omega (arith, len))
    ∙ ap (λ (t : List ℕ). take 8 t) (drop_at name rest 36 long)) in
    let back : field front 52 456 ≡ zeros 456 =
    ap (λ (t : List ℕ). take 456 t) (sym (drop-drop 8 36 (name ++ rest))
    ∙ ap (λ (t : List ℕ). drop 8 t) (drop_at name rest 36 long))
    ∙ field-zeros 456 0 456 (lit≤ tt) in
    let clean : are_zeros (field whole 52 456) ≡ true =
    ap are_zeros (field-sealed front 52 456 (omega (arith, len)) ∙ back)
    ∙ are_zeros-zeros 456 in
    let read : name_of_field (field whole 8 36) ≡ Some s.name =
    only_name (field whole 8 36) s.name fits.name named in
    let of_head : Option MarkFault → Result PartStatus MarkFault = λ o.
    unless o (status_fields whole) in
    let placed : image_of (get_or whole 5 0) (le_at w64 whole 44)
    (chunk_of_sectors (le_at w16 whole 6)) ≡ Some s.image =
    (λ i. image_of (state i) (counted i) (sized i)) ∙ image_again s.image in
    let of_image : Option StatusImage → Result PartStatus MarkFault = λ o.
    with_fields o (name_of_field (field whole 8 36)) in
    let of_name : Option (List ℕ) → Result PartStatus MarkFault = λ o.
    with_fields (Some s.image) o in
    ap of_head head
    ∙ cond-true _ _ (Err BadField) clean
    ∙ ap of_image placed ∙ ap of_name read

pub read_status : (bytes : List ℕ) (s : PartStatus)
    → IsBytes bytes
    → FitsStatus s
    → bytes ≡ status_spelling s
    → status_of bytes ≡ Ok s
unfolding status_spelling
read_status bytes s are fits h =
    ap status_of h ∙ only_status s (front_sum bytes (status_front s) (length-front s fits.name) are
    h) fits

-- ---- writing

-- the sector before its sum
abbrev pub status_drawn : PartStatus → List ℕ
status_drawn s =
    put_at (put_at (put_at (put_at (put_at (zeros 512) 0 status_magic) 4
    (1 ∷ state_byte s.image ∷ [])) 6
    (to_le_bytes w16 (sectors_in (chunk_said s.image)))) 8 s.name) 44
    (to_le_bytes w64 (count_said s.image))

pub drawn_status : (s : PartStatus) → IsName s.name → take 508 (status_drawn s) ≡ status_front s
drawn_status s h =
    let z : List ℕ = zeros 512 in
    let b1 : List ℕ = put_at z 0 status_magic in
    let b2 : List ℕ = put_at b1 4 (1 ∷ state_byte s.image ∷ []) in
    let size : List ℕ = to_le_bytes w16 (sectors_in (chunk_said s.image)) in
    let b3 : List ℕ = put_at b2 6 size in
    let b4 : List ℕ = put_at b3 8 s.name in
    let count : List ℕ = to_le_bytes w64 (count_said s.image) in
    let n : ℕ = length s.name in
    let most : n ≤ 36 = (name_fits s.name h).1 in
    let l0 : length z ≡ 512 = length-zeros 512 in
    let l1 : length b1 ≡ 512 = length-put_at z 0 status_magic (omega (arith, l0)) ∙ l0 in
    let l2 : length b2 ≡ 512 =
    length-put_at b1 4 (1 ∷ state_byte s.image ∷ []) (omega (arith, l1)) ∙ l1 in
    let l3 : length b3 ≡ 512 = length-put_at b2 6 size (omega (arith, l2)) ∙ l2 in
    let l4 : length b4 ≡ 512 = length-put_at b3 8 s.name (omega (arith, l3, most)) ∙ l3 in
    let l5 : length (status_drawn s) ≡ 512 = length-put_at b4 44 count (omega (arith, l4)) ∙ l4 in
    let blank : (at m : ℕ) → 8 ≤ at → at + m ≤ 512 → field b3 at m ≡ zeros m =
    λ at m from to. field-put_at_above b2 6 size at m (omega (arith, l2))
    (omega (arith, from))
    ∙ field-put_at_above b1 4 (1 ∷ state_byte s.image ∷ []) at m (omega (arith, l1))
    (omega (arith, from)) ∙ field-put_at_above z 0 status_magic at m (omega (arith, l0))
    (omega (arith, from)) ∙ field-zeros 512 at m to in
    let fits3 : 8 + n ≤ length b3 = omega (arith, l3, most) in
    let fits4 : 44 + length count ≤ length b4 = omega (arith, l4) in
    let sized : field b3 6 2 ≡ size = field-put_at_same b2 6 2 size (omega (arith, l2)) refl in
    let low : (at m : ℕ) → at + m ≤ 8 → field (status_drawn s) at m ≡ field b3 at m =
    λ at m le. field-put_at_below b4 44 count at m fits4 (omega (arith, le))
    ∙ field-put_at_below b3 8 s.name at m fits3 le in
    let low_byte : (k : ℕ) → k < 8 → get_or (status_drawn s) k 0 ≡ get_or b3 k 0 =
    λ k lt. get_or-put_at_below b4 44 count k fits4 (omega (arith, lt))
    ∙ get_or-put_at_below b3 8 s.name k fits3 lt in
    let padded : field b4 8 (n + (36 - n)) ≡ name_field s.name =
    field-add b4 8 n (36 - n) ∙ ap (λ (t : List ℕ). t ++ field b4 (8 + n) (36 - n))
    (field-put_at_same b3 8 n s.name fits3 refl)
    ∙ ap (λ (t : List ℕ). s.name ++ t)
    (field-put_at_above b3 8 s.name (8 + n) (36 - n) fits3 (omega arith)
    ∙ blank (8 + n) (36 - n) (omega arith) (omega (arith, most)) ∙ zeros_are (36 - n)) in
    let size : n + (36 - n) ≡ 36 = omega (arith, most) in
    let name : field (status_drawn s) 8 36 ≡ name_field s.name =
    field-put_at_below b4 44 count 8 36 fits4 (lit≤ tt) ∙ ap (λ (k : ℕ). field b4 8 k) (sym size)
    ∙ padded in
    let rest : field (status_drawn s) 52 456 ≡ zeros 456 =
    field-put_at_above b4 44 count 52 456 fits4 (lit≤ tt) ∙ field-put_at_above b3 8 s.name 52 456
    fits3 (omega (arith, most)) ∙ blank 52 456 (lit≤ tt) (lit≤ tt) in
    front_is (status_drawn s) s l5 (low 0 4 (lit≤ tt)) (low_byte 4 (lit< tt)) (low_byte 5 (lit< tt))
    (low 6 2 (lit≤ tt) ∙ sized) name (field-put_at_same b4 44 8 count fits4 refl) rest

-- a sector whose first byte is zero is no status
pub zero_is_no_status : (bytes : List ℕ) → get_or bytes 0 0 ≡ 0 → status_of bytes ≡ Err BadMagic
unfolding status_of
zero_is_no_status bytes h =
    let of_head : Option MarkFault → Result PartStatus MarkFault = λ o.
    unless o (status_fields bytes) in
    ap of_head (zero_head 85 (65 ∷ 66 ∷ 83 ∷ []) (eqb (get_or bytes 4 0) 1) bytes h)

pub length-status_spelling : (s : PartStatus) → IsName s.name → length (status_spelling s) ≡ 512
unfolding status_spelling
length-status_spelling s h = length-sealed (status_front s) (length-front s h)
