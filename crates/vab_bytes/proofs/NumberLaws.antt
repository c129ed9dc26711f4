-- What callers need of numbers and pieces at a place.
use Rattle.std.proofs.Common.{◌≡◌, ℕ, ◌+◌, ◌-◌, ◌^◌, ◌<◌, ◌≤◌, List, ◌++◌, length, take, drop}
use Rattle.std.proofs.Common.{get_or, refl, sym, ap, ◌∙◌, arith, inl, inr, append_assoc}
use Rattle.std.specs.Int.{w16, w32, w64, to_le_bytes, from_le_bytes}
use Rattle.std.proofs.lemmas.Bool.{cases_lt}
use Rattle.std.proofs.lemmas.List.{get_or-take, get_or-drop, get_or_past, get_or_append_left}
use Rattle.std.proofs.lemmas.List.{get_or-append_right, length-take, length-take-le, length-drop}
use Rattle.std.proofs.lemmas.List.{length-append, ext_get_or, take-append-drop, take_at, drop_at}
use Rattle.std.proofs.lemmas.List.{drop-drop}
use Rattle.std.proofs.lemmas.Nat.{le_bytes_2, le_bytes_4, le_bytes_8, from_le_bytes-to_le_bytes_2}
use Rattle.std.proofs.lemmas.Nat.{from_le_bytes-to_le_bytes_4, from_le_bytes-to_le_bytes_8}
use Rattle.vab_bytes.specs.Number.{IsBytes, field, le_at, put_at}

-- ---- fields

-- a byte of a field
pub get_or-field : (bytes : List ℕ) (at n i : ℕ)
    → i < n
    → get_or (field bytes at n) i 0 ≡ get_or bytes (at + i) 0
get_or-field bytes at n i h = get_or-take n (drop at bytes) i 0 h ∙ get_or-drop at bytes i 0

pub length-field : (bytes : List ℕ) (at n : ℕ)
    → at + n ≤ length bytes
    → length (field bytes at n) ≡ n
length-field bytes at n h = length-take-le n (drop at bytes) (omega (arith, length-drop at bytes))

pub IsBytes-field : (bytes : List ℕ) (at n : ℕ) → IsBytes bytes → IsBytes (field bytes at n)
IsBytes-field bytes at n h i =
    elim (cases_lt i n) [
      | inl lt ↦ rw (get_or-field bytes at n i lt) (h (at + i))
      | inr le ↦ rw
          (get_or_past (field bytes at n) i 0 (omega (arith, length-take n (drop at bytes))))
          (omega arith)
    ]

-- lists that have the same bytes in a field have the same field
pub same_field : (xs ys : List ℕ) (at n : ℕ)
    → length xs ≡ length ys
    → ((k : ℕ) → at ≤ k → k < at + n → get_or xs k 0 ≡ get_or ys k 0)
    → field xs at n ≡ field ys at n
same_field xs ys at n len same =
    let lens : length (field xs at n) ≡ length (field ys at n) =
    omega (
      arith,
      len,
      length-take n (drop at xs),
      length-take n (drop at ys),
      length-drop at xs,
      length-drop at ys,
    ) in
    ext_get_or 0 (field xs at n) (field ys at n) lens
    (λ i lt. let below : i < n = omega (arith, lt, length-take n (drop at xs)) in get_or-field xs at
    n i below
    ∙ same (at + i) (omega arith) (omega (arith, below))
    ∙ sym (get_or-field ys at n i below))

-- a field within a field
pub field-field : (bytes : List ℕ) (at n from m : ℕ)
    → from + m ≤ n
    → field (field bytes at n) from m ≡ field bytes (at + from) m
field-field bytes at n from m h =
    let lens : length (field (field bytes at n) from m) ≡ length (field bytes (at + from) m) =
    omega (
      arith,
      h,
      length-take m (drop from (field bytes at n)),
      length-take m (drop (at + from) bytes),
      length-drop from (field bytes at n),
      length-take n (drop at bytes),
      length-drop at bytes,
      length-drop (at + from) bytes,
    ) in
    ext_get_or 0 (field (field bytes at n) from m) (field bytes (at + from) m) lens
    (λ i lt. let below : i < m = omega (arith, lt, length-take m (drop from (field bytes at n))) in
    let place : at + (from + i)
    ≡ at + from + i = omega arith in get_or-field (field bytes at n) from m i below
    ∙ get_or-field bytes at n (from + i) (omega (arith, below, h))
    ∙ ap (λ (k : ℕ). get_or bytes k 0) place
    ∙ sym (get_or-field bytes (at + from) m i below))

-- ---- a piece that was put

pub length-put_at : (bytes : List ℕ) (at : ℕ) (piece : List ℕ)
    → at + length piece ≤ length bytes
    → length (put_at bytes at piece) ≡ length bytes
length-put_at bytes at piece h =
    omega (
      arith,
      length-append (take at bytes ++ piece) (drop (at + length piece) bytes),
      length-append (take at bytes) piece,
      length-take at bytes,
      length-drop (at + length piece) bytes,
    )

pub get_or-put_at_same : (bytes : List ℕ) (at : ℕ) (piece : List ℕ) (i : ℕ)
    → at + length piece ≤ length bytes
    → i < length piece
    → get_or (put_at bytes at piece) (at + i) 0 ≡ get_or piece i 0
get_or-put_at_same bytes at piece i h lt =
    let front : length (take at bytes) ≡ at = length-take-le at bytes (omega (arith, h)) in
    let both : at + i < length (take at bytes ++ piece) =
    omega (arith, lt, front, length-append (take at bytes) piece) in
    let place : at + i - at ≡ i = omega arith in
    get_or_append_left (take at bytes ++ piece) (drop (at + length piece) bytes) 0 (at + i) both
    ∙ get_or-append_right (take at bytes) piece at (at + i) 0 front (omega arith)
    ∙ ap (λ (k : ℕ). get_or piece k 0) place

pub get_or-put_at_below : (bytes : List ℕ) (at : ℕ) (piece : List ℕ) (k : ℕ)
    → at + length piece ≤ length bytes
    → k < at
    → get_or (put_at bytes at piece) k 0 ≡ get_or bytes k 0
get_or-put_at_below bytes at piece k h lt =
    let front : length (take at bytes) ≡ at = length-take-le at bytes (omega (arith, h)) in
    get_or_append_left (take at bytes ++ piece) (drop (at + length piece) bytes) 0 k
    (omega (arith, lt, front, length-append (take at bytes) piece))
    ∙ get_or_append_left (take at bytes) piece 0 k (omega (arith, lt, front))
    ∙ get_or-take at bytes k 0 lt

pub get_or-put_at_above : (bytes : List ℕ) (at : ℕ) (piece : List ℕ) (k : ℕ)
    → at + length piece ≤ length bytes
    → at + length piece ≤ k
    → get_or (put_at bytes at piece) k 0 ≡ get_or bytes k 0
get_or-put_at_above bytes at piece k h le =
    let front : length (take at bytes) ≡ at = length-take-le at bytes (omega (arith, h)) in
    let both : length (take at bytes ++ piece) ≡ at + length piece =
    omega (arith, front, length-append (take at bytes) piece) in
    let place : at + length piece + (k - (at + length piece)) ≡ k = omega arith in
    get_or-append_right (take at bytes ++ piece) (drop (at + length piece) bytes)
    (at + length piece) k 0 both le
    ∙ get_or-drop (at + length piece) bytes (k - (at + length piece)) 0
    ∙ ap (λ (i : ℕ). get_or bytes i 0) place

-- the piece stands there
pub field-put_at_same : (bytes : List ℕ) (at n : ℕ) (piece : List ℕ)
    → at + n ≤ length bytes
    → length piece ≡ n
    → field (put_at bytes at piece) at n ≡ piece
field-put_at_same bytes at n piece h len =
    let rest : List ℕ = drop (at + length piece) bytes in
    let front : length (take at bytes) ≡ at = length-take-le at bytes (omega (arith, h)) in
    ap (λ (t : List ℕ). take n (drop at t)) (append_assoc (take at bytes) piece rest)
    ∙ ap (λ (t : List ℕ). take n t) (drop_at (take at bytes) (piece ++ rest) at front)
    ∙ take_at piece rest n len

-- a field below or above is as before
pub field-put_at_below : (bytes : List ℕ) (at : ℕ) (piece : List ℕ) (from n : ℕ)
    → at + length piece ≤ length bytes
    → from + n ≤ at
    → field (put_at bytes at piece) from n ≡ field bytes from n
field-put_at_below bytes at piece from n h le =
    same_field (put_at bytes at piece) bytes from n (length-put_at bytes at piece h)
    (λ k _ lt. get_or-put_at_below bytes at piece k h (omega (arith, lt, le)))

pub field-put_at_above : (bytes : List ℕ) (at : ℕ) (piece : List ℕ) (from n : ℕ)
    → at + length piece ≤ length bytes
    → at + length piece ≤ from
    → field (put_at bytes at piece) from n ≡ field bytes from n
field-put_at_above bytes at piece from n h le =
    same_field (put_at bytes at piece) bytes from n (length-put_at bytes at piece h)
    (λ k over _. get_or-put_at_above bytes at piece k h (omega (arith, over, le)))

-- what stands there is put again
pub put_at-field : (bytes : List ℕ) (at n : ℕ)
    → at + n ≤ length bytes
    → put_at bytes at (field bytes at n) ≡ bytes
put_at-field bytes at n h =
    let len : length (field bytes at n) ≡ n = length-field bytes at n h in
    let rest : drop (at + length (field bytes at n)) bytes ≡ drop n (drop at bytes) =
    ap (λ (k : ℕ). drop (at + k) bytes) len ∙ sym (drop-drop n at bytes) in
    ap (λ (t : List ℕ). take at bytes ++ field bytes at n ++ t) rest
    ∙ append_assoc (take at bytes) (field bytes at n) (drop n (drop at bytes))
    ∙ ap (λ (t : List ℕ). take at bytes ++ t) (take-append-drop n (drop at bytes))
    ∙ take-append-drop at bytes

pub IsBytes-put_at : (bytes : List ℕ) (at : ℕ) (piece : List ℕ)
    → at + length piece ≤ length bytes
    → IsBytes bytes
    → IsBytes piece
    → IsBytes (put_at bytes at piece)
IsBytes-put_at bytes at piece h b p k =
    elim (cases_lt k at) [
      | inl below ↦ rw (get_or-put_at_below bytes at piece k h below) (b k)
      | inr from ↦
          elim (cases_lt k (at + length piece)) [
            | inl within ↦
                let place : at + (k - at) ≡ k = omega (arith, from) in
                let here : get_or (put_at bytes at piece) k 0 ≡ get_or piece (k - at) 0 =
                ap (λ (i : ℕ). get_or (put_at bytes at piece) i 0) (sym place)
                ∙ get_or-put_at_same bytes at piece (k - at) h (omega (arith, from, within)) in
                rw here (p (k - at))
            | inr above ↦ rw (get_or-put_at_above bytes at piece k h above) (b k)
          ]
    ]

-- ---- numbers

-- a number that is read fits its width
pub le_at_fits_16 : (bytes : List ℕ) (at : ℕ) → IsBytes bytes → le_at w16 bytes at < 2 ^ 16
le_at_fits_16 bytes at h =
    let f = IsBytes-field bytes at 2 h in omega (arith, f 0, f 1)

pub le_at_fits_32 : (bytes : List ℕ) (at : ℕ) → IsBytes bytes → le_at w32 bytes at < 2 ^ 32
le_at_fits_32 bytes at h =
    let f = IsBytes-field bytes at 4 h in omega (arith, f 0, f 1, f 2, f 3)

pub le_at_fits_64 : (bytes : List ℕ) (at : ℕ) → IsBytes bytes → le_at w64 bytes at < 2 ^ 64
le_at_fits_64 bytes at h =
    let f = IsBytes-field bytes at 8 h in omega (arith, f 0, f 1, f 2, f 3, f 4, f 5, f 6, f 7)

-- a number that is read is spelled by the bytes that stand there
pub le_at_spelled_16 : (bytes : List ℕ) (at : ℕ)
    → at + 2 ≤ length bytes
    → IsBytes bytes
    → to_le_bytes w16 (le_at w16 bytes at) ≡ field bytes at 2
le_at_spelled_16 bytes at h b =
    le_bytes_2 (field bytes at 2) (le_at w16 bytes at) (length-field bytes at 2 h)
    (IsBytes-field bytes at 2 b) refl

pub le_at_spelled_32 : (bytes : List ℕ) (at : ℕ)
    → at + 4 ≤ length bytes
    → IsBytes bytes
    → to_le_bytes w32 (le_at w32 bytes at) ≡ field bytes at 4
le_at_spelled_32 bytes at h b =
    le_bytes_4 (field bytes at 4) (le_at w32 bytes at) (length-field bytes at 4 h)
    (IsBytes-field bytes at 4 b) refl

pub le_at_spelled_64 : (bytes : List ℕ) (at : ℕ)
    → at + 8 ≤ length bytes
    → IsBytes bytes
    → to_le_bytes w64 (le_at w64 bytes at) ≡ field bytes at 8
le_at_spelled_64 bytes at h b =
    le_bytes_8 (field bytes at 8) (le_at w64 bytes at) (length-field bytes at 8 h)
    (IsBytes-field bytes at 8 b) refl

-- where a number's bytes stand, it is read
pub le_at_is_16 : (bytes : List ℕ) (at v : ℕ)
    → v < 2 ^ 16
    → field bytes at 2 ≡ to_le_bytes w16 v
    → le_at w16 bytes at ≡ v
le_at_is_16 bytes at v lt e = ap (from_le_bytes w16) e ∙ from_le_bytes-to_le_bytes_2 v lt

pub le_at_is_32 : (bytes : List ℕ) (at v : ℕ)
    → v < 2 ^ 32
    → field bytes at 4 ≡ to_le_bytes w32 v
    → le_at w32 bytes at ≡ v
le_at_is_32 bytes at v lt e = ap (from_le_bytes w32) e ∙ from_le_bytes-to_le_bytes_4 v lt

pub le_at_is_64 : (bytes : List ℕ) (at v : ℕ)
    → v < 2 ^ 64
    → field bytes at 8 ≡ to_le_bytes w64 v
    → le_at w64 bytes at ≡ v
le_at_is_64 bytes at v lt e = ap (from_le_bytes w64) e ∙ from_le_bytes-to_le_bytes_8 v lt

-- a number that was put is read
pub le_at-put_16 : (bytes : List ℕ) (at v : ℕ)
    → v < 2 ^ 16
    → at + 2 ≤ length bytes
    → le_at w16 (put_at bytes at (to_le_bytes w16 v)) at ≡ v
le_at-put_16 bytes at v lt h =
    le_at_is_16 _ at v lt (field-put_at_same bytes at 2 (to_le_bytes w16 v) h refl)

pub le_at-put_32 : (bytes : List ℕ) (at v : ℕ)
    → v < 2 ^ 32
    → at + 4 ≤ length bytes
    → le_at w32 (put_at bytes at (to_le_bytes w32 v)) at ≡ v
le_at-put_32 bytes at v lt h =
    le_at_is_32 _ at v lt (field-put_at_same bytes at 4 (to_le_bytes w32 v) h refl)

pub le_at-put_64 : (bytes : List ℕ) (at v : ℕ)
    → v < 2 ^ 64
    → at + 8 ≤ length bytes
    → le_at w64 (put_at bytes at (to_le_bytes w64 v)) at ≡ v
le_at-put_64 bytes at v lt h =
    le_at_is_64 _ at v lt (field-put_at_same bytes at 8 (to_le_bytes w64 v) h refl)
