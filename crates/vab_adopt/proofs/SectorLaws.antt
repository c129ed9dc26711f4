-- What the two sectors of the heads say.
use Rattle.std.proofs.Common.{◌≡◌, ◌∙◌, inl, inr, ℕ, zero, suc, ◌+◌, ◌-◌, ◌*◌, ◌/◌, ◌<◌, eqb, List}
use Rattle.std.proofs.Common.{[], ◌∷◌, length, take, drop, get_or, set, replicate, Ok, ap, subst}
use Rattle.std.proofs.Common.{refl, arith, rules}
use Rattle.std.proofs.Common.{length-append, length-drop}
use Rattle.std.specs.Int.{w32, to_le_bytes}
use Rattle.std.proofs.lemmas.Bool.{cases_Bool, cases_eq, cases_lt}
use Rattle.std.proofs.lemmas.List.{places, get_or-set_same, get_or-set_other, get_or-replicate}
use Rattle.std.proofs.lemmas.List.{get_or_past, get_or_append_left, get_or-append_right}
use Rattle.std.proofs.lemmas.List.{get_or-drop, length-replicate}
use Rattle.vab_bytes.specs.Number.{IsBytes, put_at}
use Rattle.vab_bytes.specs.Crc.{crc_of}
use Rattle.vab_bytes.proofs.NumberLaws.{IsBytes-field, IsBytes-put_at, length-put_at}
use Rattle.vab_bytes.proofs.CrcLaws.{crc_fits}
use Rattle.vab_disk.specs.Disk.{IsSector}
use Rattle.vab_bootctl.specs.declared.slots.Info.{Info}
use Rattle.vab_bootctl.specs.declared.slots.Control.{Control}
use Rattle.vab_bootctl.specs.Control.{Fits, FitsInfo, suffix, info_byte, with_fields}
use Rattle.vab_bootctl.specs.Control.{control_of, KeepsRest}
use Rattle.vab_bootctl.proofs.ControlLaws.{length-with_fields, written_keeps, written_is_read}
use Rattle.vab_marks.specs.declared.version.MarkVersion.TheVariants.{Two}
use Rattle.vab_marks.specs.Mark.{mark_of, idle_mark, mark_front, mark_spelling}
use Rattle.vab_marks.specs.Sector.{zeros}
use Rattle.vab_marks.proofs.MarkLaws.{only_mark}
use Rattle.vab_make.specs.Steps.{blanked}
use Rattle.vab_model.specs.State.{no_info}
use Rattle.vab_adopt.specs.Adopted.{adopted_control, control_sector, good_info}
use Rattle.vab_adopt.specs.Adopted.{IsControlOf}

-- ---- bytes

IsBytes-none : IsBytes []
IsBytes-none i = omega arith

IsBytes-cons : (x : ℕ) (xs : List ℕ) → x < 256 → IsBytes xs → IsBytes (x ∷ xs)
IsBytes-cons x xs h t zero = h
IsBytes-cons x xs h t (suc i) = t i

IsBytes-replicate : (n : ℕ) → IsBytes (replicate n 0)
IsBytes-replicate n i = elim (cases_lt i n) [
  | inl below ↦ omega (arith, get_or-replicate {A = ℕ} n i 0 0 below)
  | inr past ↦
      let long = length-replicate {A = ℕ} n 0 in
      omega (arith, get_or_past (replicate {A = ℕ} n 0) i 0 (omega (arith, past, long)))
]

IsBytes-set : (xs : List ℕ) (at v : ℕ)
    → v < 256
    → at < length xs
    → IsBytes xs
    → IsBytes (set xs at v)
IsBytes-set xs at v small inside h i = elim (cases_eq i at) [
  | inl here ↦
      let is : get_or (set xs at v) i 0 ≡ v =
      ap (λ (k : ℕ). get_or (set xs at v) k 0) here ∙ get_or-set_same xs at v 0 inside in
      omega (arith, is, small)
  | inr other ↦
      let is : get_or (set xs at v) i 0 ≡ get_or xs i 0 = get_or-set_other xs at i v 0 other in
      omega (arith, is, h i)
]

-- ---- the boot control

info_small : (i : Info) → FitsInfo i → info_byte i < 256
info_small i fits = elim (cases_Bool i.successful) [
  | inl h ↦ rw h (omega (arith, fits.priority, fits.tries))
  | inr h ↦ rw h (omega (arith, fits.priority, fits.tries))
]

IsBytes-suffix : (slot : ℕ) → slot < 2 → IsBytes (suffix slot)
IsBytes-suffix slot below =
    IsBytes-cons 95 ((97 + slot) ∷ 0 ∷ 0 ∷ []) (omega arith)
    (IsBytes-cons (97 + slot) (0 ∷ 0 ∷ []) (omega (arith, below))
    (IsBytes-cons 0 (0 ∷ []) (omega arith) (IsBytes-cons 0 [] (omega arith) IsBytes-none)))

IsBytes-magic : IsBytes (to_le_bytes w32 0x42414342)
IsBytes-magic =
    IsBytes-cons 66 (67 ∷ 65 ∷ 66 ∷ []) (omega arith)
    (IsBytes-cons 67 (65 ∷ 66 ∷ []) (omega arith)
    (IsBytes-cons 65 (66 ∷ []) (omega arith) (IsBytes-cons 66 [] (omega arith) IsBytes-none)))

fields_bytes : (c : Control) (bytes : List ℕ)
    → Fits c
    → length bytes ≡ 512
    → IsBytes bytes
    → IsBytes (with_fields c bytes)
unfolding with_fields
fields_bytes c bytes fits len are =
    let magic : List ℕ = to_le_bytes w32 0x42414342 in
    let one : List ℕ = put_at bytes 0 (suffix c.current) in
    let two : List ℕ = put_at one 4 magic in
    let len1 : length one ≡ 512 = length-put_at bytes 0 (suffix c.current) (omega (arith, len))
    ∙ len in
    let len2 : length two ≡ 512 = length-put_at one 4 magic (omega (arith, len1)) ∙ len1 in
    let three : List ℕ = set two 8 1 in
    let len3 : length three ≡ 512 = search (rules, places) in
    let four : List ℕ = set three 9 (get_or bytes 9 0 / 8 * 8 + 2) in
    let len4 : length four ≡ 512 = search (rules, places) in
    let five : List ℕ = set four 12 (info_byte c.a) in
    let len5 : length five ≡ 512 = search (rules, places) in
    let are1 = IsBytes-put_at bytes 0 (suffix c.current) (omega (arith, len)) are
    (IsBytes-suffix c.current fits.current) in
    let are2 = IsBytes-put_at one 4 magic (omega (arith, len1)) are1 IsBytes-magic in
    let are3 = IsBytes-set two 8 1 (omega arith) (omega (arith, len2)) are2 in
    let are4 = IsBytes-set three 9 (get_or bytes 9 0 / 8 * 8 + 2) (omega (arith, are 9))
    (omega (arith, len3)) are3 in
    let are5 = IsBytes-set four 12 (info_byte c.a) (info_small c.a fits.a) (omega (arith, len4))
    are4 in
    IsBytes-set five 14 (info_byte c.b) (info_small c.b fits.b) (omega (arith, len5)) are5

pub length-blanked : (sector : List ℕ) → length sector ≡ 512 → length (blanked sector) ≡ 512
length-blanked sector len =
    omega (
      arith,
      length-append (replicate 28 0) (drop 28 sector),
      length-replicate {A = ℕ} 28 0,
      len,
      length-drop 28 sector,
    )

blanked_bytes : (sector : List ℕ) → length sector ≡ 512 → IsBytes sector → IsBytes (blanked sector)
blanked_bytes sector len are i = elim (cases_lt i 28) [
  | inl below ↦
      let is : get_or (blanked sector) i 0 ≡ 0 =
      get_or_append_left (replicate 28 0) (drop 28 sector) 0 i
      (omega (arith, below, length-replicate {A = ℕ} 28 0))
      ∙ get_or-replicate 28 i 0 0 below in
      omega (arith, is)
  | inr above ↦
      let is : get_or (blanked sector) i 0 ≡ get_or sector (28 + (i - 28)) 0 =
      get_or-append_right (replicate 28 0) (drop 28 sector) 28 i 0 (length-replicate {A = ℕ} 28 0)
      above
      ∙ get_or-drop 28 sector (i - 28) 0 in
      omega (arith, is, are (28 + (i - 28)))
]

good_fits : FitsInfo good_info
good_fits = record { priority = omega arith; tries = omega arith }

none_fits : FitsInfo no_info
none_fits = record { priority = omega arith; tries = omega arith }

pub control_fits : (slot : ℕ) → slot < 2 → Fits (adopted_control slot)
control_fits slot below = elim (cases_Bool (eqb slot 0)) [
  | inl h ↦ record { current = below; a = rw h good_fits; b = rw h none_fits }
  | inr h ↦ record { current = below; a = rw h none_fits; b = rw h good_fits }
]

-- the boot control of the adopted device is read of its sector
pub control_there : (slot : ℕ) (sector : List ℕ)
    → slot < 2
    → IsSector sector
    → IsControlOf slot sector (control_sector (adopted_control slot) (blanked sector))
unfolding control_sector
control_there slot sector below is =
    let c : Control = adopted_control slot in
    let fits = control_fits slot below in
    let len = length-blanked sector is.long in
    let are = fields_bytes c (blanked sector) fits len
    (blanked_bytes sector is.long (λ k. is.small k)) in
    record {
      control = written_is_read c (blanked sector) len fits
          (crc_fits (take 28 (with_fields c (blanked sector)))
          (IsBytes-field (with_fields c (blanked sector)) 0 28 are));
      rest = written_keeps c (blanked sector) len;
    }

-- so it is of the bytes that are written
pub control_written : (slot : ℕ) (old read sector bytes : List ℕ) (c : Control)
    → read ≡ old
    → sector ≡ blanked read
    → c ≡ adopted_control slot
    → control_of bytes ≡ Ok c
    → KeepsRest sector bytes
    → IsControlOf slot old bytes
control_written slot old read sector bytes c is_read is_blank is decoded rest = record {
  control = decoded ∙ ap Ok is;
  rest = subst (λ (l : List ℕ). KeepsRest l bytes) (is_blank ∙ ap blanked is_read) rest;
}

-- ---- the mark

front_bytes : (slot : ℕ) → slot < 2 → IsBytes (mark_front Two (idle_mark slot))
unfolding zeros
front_bytes slot below =
    let blank : List ℕ = replicate 501 0 in
    IsBytes-cons 86 (65 ∷ 66 ∷ 85 ∷ 2 ∷ 0 ∷ slot ∷ blank) (omega arith)
    (IsBytes-cons 65 (66 ∷ 85 ∷ 2 ∷ 0 ∷ slot ∷ blank) (omega arith)
    (IsBytes-cons 66 (85 ∷ 2 ∷ 0 ∷ slot ∷ blank) (omega arith)
    (IsBytes-cons 85 (2 ∷ 0 ∷ slot ∷ blank) (omega arith)
    (IsBytes-cons 2 (0 ∷ slot ∷ blank) (omega arith)
    (IsBytes-cons 0 (slot ∷ blank) (omega arith)
    (IsBytes-cons slot blank (omega (arith, below)) (IsBytes-replicate 501)))))))

pub mark_there : (slot : ℕ)
    → slot < 2
    → mark_of (mark_spelling (idle_mark slot)) ≡ Ok (idle_mark slot)
mark_there slot below =
    only_mark Two (idle_mark slot)
    (crc_fits (mark_front Two (idle_mark slot)) (front_bytes slot below))
    (record { slot = below; flags = (refl, refl) })

-- ---- how long they are

pub length-control_sector : (c : Control) (sector : List ℕ)
    → length sector ≡ 512
    → length (control_sector c sector) ≡ 512
unfolding control_sector
length-control_sector c sector len =
    let w : List ℕ = with_fields c sector in
    let long : length w ≡ 512 = length-with_fields c sector len in
    length-put_at w 28 (to_le_bytes w32 (crc_of (take 28 w))) (omega (arith, long)) ∙ long
