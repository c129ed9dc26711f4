-- What callers need of the boot control sector.
use Rattle.std.proofs.Common.{◌≡◌, ℕ, zero, suc, ◌+◌, ◌*◌, ◌/◌, ◌%◌, ◌^◌, ◌<◌, ◌≤◌, ◌≢◌, ◌⊎◌, Bool}
use Rattle.std.proofs.Common.{true, false, not, cond, eqb, leb, List, length, take, get_or, set}
use Rattle.std.proofs.Common.{Option, Some, None, Result, Ok, Err, refl, sym, ap, subst, ◌∙◌, arith}
use Rattle.std.proofs.Common.{lit<, lit≤, inl, inr, rules}
use Rattle.std.specs.Prelude.{option_map, ok_or}
use Rattle.std.specs.Int.{w32, to_le_bytes}
use Rattle.std.specs.Str.{bytes_eq}
use Rattle.std.proofs.lemmas.Bool.{not-false, eqb-true, eq-eqb, not_from_true, cond-false, le-leb}
use Rattle.std.proofs.lemmas.Bool.{lt-leb, leb-true, leb-false, cases_Bool}
use Rattle.std.proofs.lemmas.Slice.Eq.{bytes_eq-Decides}
use Rattle.std.proofs.lemmas.List.{places}
use Rattle.vab_bytes.specs.Number.{IsBytes, field, le_at, put_at}
use Rattle.vab_bytes.proofs.NumberLaws.{IsBytes-field, le_at_is_32, le_at_spelled_32}
use Rattle.vab_bytes.proofs.NumberLaws.{get_or-put_at_below, get_or-put_at_above, length-put_at}
use Rattle.vab_bytes.proofs.NumberLaws.{field-put_at_same, field-put_at_below, same_field}
use Rattle.vab_bytes.specs.Crc.{crc_of}
use Rattle.vab_bytes.proofs.CrcLaws.{crc_fits}
use Rattle.vab_bootctl.specs.declared.slots.Info.{Info}
use Rattle.vab_bootctl.specs.declared.slots.Control.{Control}
use Rattle.vab_bootctl.specs.declared.sector.ControlFault.{ControlFault}
use Rattle.vab_bootctl.specs.declared.sector.ControlFault.TheVariants.{BadMagic, BadVersion, BadSum}
use Rattle.vab_bootctl.specs.declared.sector.ControlFault.TheVariants.{BadSlots}
use Rattle.vab_bootctl.specs.Control.{FitsInfo, Fits, suffix, info_byte, Represents, KeepsRest}
use Rattle.vab_bootctl.specs.Control.{info_of, slot_of, with_infos, control_of, with_fields}

-- ---- the byte of an info

same_info : (p p' t t' : ℕ) (s s' : Bool)
    → p ≡ p'
    → t ≡ t'
    → s ≡ s'
    → (let one : Info = record { priority = p; tries = t; successful = s } in let other : Info =
    record { priority = p'; tries = t'; successful = s' } in one ≡ other)
same_info p p' t t' s s' e f g = cc

info_again_at : (p t : ℕ) (s : Bool)
    → p ≤ 15
    → t ≤ 7
    → (let i : Info = record { priority = p; tries = t; successful = s } in info_of (info_byte i)
    ≡ i)
info_again_at p t true hp ht =
    same_info _ p _ t _ true (omega arith) (omega arith)
    (le-leb 128 (p + 16 * t + 128) (omega arith))
info_again_at p t false hp ht =
    same_info _ p _ t _ false (omega arith) (omega arith)
    (lt-leb 128 (p + 16 * t + 0) (omega arith))

info_again : (i : Info) → FitsInfo i → info_of (info_byte i) ≡ i
info_again i h = info_again_at i.priority i.tries i.successful h.priority h.tries

byte_again : (b : ℕ) → b < 256 → b ≡ info_byte (info_of b)
byte_again b h =
    elim (cases_Bool (leb 128 b)) [
      | inl high ↦ let over = leb-true 128 b high in rw high (omega arith)
      | inr low ↦ let under = leb-false 128 b low in rw low (omega arith)
    ]

info_fits : (b : ℕ) → FitsInfo (info_of b)
info_fits b = record { priority = omega arith; tries = omega arith }

-- ---- reading

guard : {A : Type 0} (b : Bool) (d : ControlFault) (x : Result A ControlFault) (y : A)
    → cond b (Err d) x ≡ Ok y
    → (b ≡ false) × (x ≡ Ok y)
guard true d x y e = absurd cc
guard false d x y e = (refl, e)

slot_parts : (a b : Bool) (slot : ℕ)
    → cond a (Some 0) (cond b (Some 1) None) ≡ Some slot
    → ((a ≡ true) × (0 ≡ slot)) ⊎ ((b ≡ true) × (1 ≡ slot))
slot_parts true b slot h = inl (refl, cc)
slot_parts false true slot h = inr (refl, cc)
slot_parts false false slot h = absurd cc

slot_is : (text : List ℕ) (slot : ℕ) → slot_of text ≡ Some slot → (slot < 2) × (text ≡ suffix slot)
slot_is text slot h =
    let P : ℕ → Type 0 = λ s. (s < 2) × (text ≡ suffix s) in
    elim (slot_parts (bytes_eq text (suffix 0)) (bytes_eq text (suffix 1)) slot h) [
      | inl a ↦ subst P a.1 (lit< tt, (bytes_eq-Decides text (suffix 0)).0 a.0)
      | inr b ↦ subst P b.1 (lit< tt, (bytes_eq-Decides text (suffix 1)).0 b.0)
    ]

slot_again : (text : List ℕ) (slot : ℕ) → slot < 2 → text ≡ suffix slot → slot_of text ≡ Some slot
slot_again text zero lt h = ap slot_of h
slot_again text (suc zero) lt h = ap slot_of h
slot_again text (suc (suc n)) lt h = absurd (omega (arith, lt))

named : (bytes : List ℕ) (o : Option ℕ) (c : Control)
    → ok_or (option_map (with_infos bytes) o) BadSlots ≡ Ok c
    → (slot : ℕ) × (o ≡ Some slot) × (with_infos bytes slot ≡ c)
named bytes None c h = absurd cc
named bytes (Some slot) c h = (slot, refl, cc)

same : (x y : ℕ) → not (eqb x y) ≡ false → x ≡ y
same x y h = eqb-true x y (not-false (eqb x y) h)

-- what is read fits, and stands in the sector
pub found_control : (bytes : List ℕ) (c : Control)
    → length bytes ≡ 512
    → IsBytes bytes
    → control_of bytes ≡ Ok c
    → Fits c × Represents bytes c
unfolding control_of
found_control bytes c len are h =
    let g1 = guard (not (eqb (le_at w32 bytes 4) 0x42414342)) BadMagic _ c h in
    let g2 = guard (not (eqb (get_or bytes 8 0) 1)) BadVersion _ c g1.1 in
    let g3 = guard (not (eqb (le_at w32 bytes 28) (crc_of (take 28 bytes)))) BadSum _ c g2.1 in
    let g4 = guard (not (eqb (get_or bytes 9 0 % 8) 2)) BadSlots _ c g3.1 in
    let g5 = named bytes (slot_of (take 4 bytes)) c g4.1 in
    let slot = slot_is (take 4 bytes) g5.0 g5.1 in
    let P : Control → Type 0 = λ k. Fits k × Represents bytes k in
    subst P g5.2 (
      record {
        current = slot.0;
        a = info_fits (get_or bytes 12 0);
        b =
            info_fits (get_or bytes 14 0);
      },
      record {
        suffix = slot.1;
        magic =
            sym (le_at_spelled_32 bytes 4 (omega (arith, len)) are)
            ∙ ap (to_le_bytes w32) (same _ _ g1.0);
        version = same _ _ g2.0;
        slots = same _ _ g4.0;
        a =
            byte_again (get_or bytes 12 0) (are 12);
        b = byte_again (get_or bytes 14 0) (are 14);
        sum =
            sym (le_at_spelled_32 bytes 28 (omega (arith, len)) are)
            ∙ ap (to_le_bytes w32) (same _ _ g3.0);
      },
    )

only_control_at : (bytes : List ℕ) (c : Control)
    → crc_of (take 28 bytes) < 2 ^ 32
    → Fits c
    → Represents bytes c
    → control_of bytes ≡ Ok c
unfolding control_of
only_control_at bytes c summed fits h =
    let apart : (x y : ℕ) → x ≡ y → not (eqb x y) ≡ false = λ x y e.
    not_from_true (eqb x y) (eq-eqb x y e) in
    let e1 = apart _ _ (le_at_is_32 bytes 4 0x42414342 (lit< tt) h.magic) in
    let e2 = apart _ _ h.version in
    let e3 = apart _ _ (le_at_is_32 bytes 28 (crc_of (take 28 bytes)) summed h.sum) in
    let e4 = apart _ _ h.slots in
    let slot : slot_of (take 4 bytes) ≡ Some c.current =
    slot_again (take 4 bytes) c.current fits.current h.suffix in
    let a : info_of (get_or bytes 12 0) ≡ c.a = ap info_of h.a ∙ info_again c.a fits.a in
    let b : info_of (get_or bytes 14 0) ≡ c.b = ap info_of h.b ∙ info_again c.b fits.b in
    let of_a : Info → Control = λ i. record {
      current = c.current;
      a = i;
      b =
          info_of (get_or bytes 14 0);
    } in
    let of_b : Info → Control = λ i. record { current = c.current; a = c.a; b = i } in
    let whole : with_infos bytes c.current ≡ c = ap of_a a ∙ ap of_b b in
    let of_slot : Option ℕ → Result Control ControlFault = λ o.
    ok_or (option_map (with_infos bytes) o) BadSlots in
    let done : Control → Result Control ControlFault = λ k. Ok k in
    cond-false _ (Err BadMagic) _ e1 ∙ cond-false _ (Err BadVersion) _ e2
    ∙ cond-false _ (Err BadSum) _ e3 ∙ cond-false _ (Err BadSlots) _ e4 ∙ ap of_slot slot
    ∙ ap done whole

-- what stands in the sector is read
pub only_control : (bytes : List ℕ) (c : Control)
    → IsBytes bytes
    → Fits c
    → Represents bytes c
    → control_of bytes ≡ Ok c
only_control bytes c are fits h =
    only_control_at bytes c (crc_fits (take 28 bytes) (IsBytes-field bytes 0 28 are)) fits h

-- ---- writing

sets_other : (l : List ℕ) (k v q x y : ℕ)
    → k ≢ 8
    → k ≢ 9
    → k ≢ 12
    → k ≢ 14
    → get_or (set (set (set (set l 8 v) 9 q) 12 x) 14 y) k 0 ≡ get_or l k 0
sets_other l k v q x y n8 n9 n12 n14 = search (rules, places)

pub length-with_fields : (c : Control) (bytes : List ℕ)
    → length bytes ≡ 512
    → length (with_fields c bytes) ≡ 512
unfolding with_fields
length-with_fields c bytes len =
    let one : length (put_at bytes 0 (suffix c.current)) ≡ 512 =
    length-put_at bytes 0 (suffix c.current) (omega (arith, len)) ∙ len in
    let two : length (put_at (put_at bytes 0 (suffix c.current)) 4 (to_le_bytes w32 0x42414342))
    ≡ 512 =
    length-put_at (put_at bytes 0 (suffix c.current)) 4 (to_le_bytes w32 0x42414342)
    (omega (arith, one)) ∙ one in
    search (rules, places)

-- the fields before the sum
record HasFields (c : Control) (old new : List ℕ) : Type 0 where
  suffix : field new 0 4 ≡ suffix c.current
  magic : field new 4 4 ≡ to_le_bytes w32 0x42414342
  version : get_or new 8 0 ≡ 1
  slots : get_or new 9 0 ≡ get_or old 9 0 / 8 * 8 + 2
  a : get_or new 12 0 ≡ info_byte c.a
  b : get_or new 14 0 ≡ info_byte c.b
  rest : (k : ℕ) → 10 ≤ k → k ≢ 12 → k ≢ 14 → get_or new k 0 ≡ get_or old k 0

has_fields : (c : Control) (bytes : List ℕ)
    → length bytes ≡ 512
    → HasFields c bytes (with_fields c bytes)
unfolding with_fields
has_fields c bytes len =
    let m : List ℕ = to_le_bytes w32 0x42414342 in
    let one : List ℕ = put_at bytes 0 (suffix c.current) in
    let two : List ℕ = put_at one 4 m in
    let len1 : length one ≡ 512 = length-put_at bytes 0 (suffix c.current) (omega (arith, len))
    ∙ len in
    let len2 : length two ≡ 512 = length-put_at one 4 m (omega (arith, len1)) ∙ len1 in
    let q : ℕ = get_or bytes 9 0 / 8 * 8 + 2 in
    let four : List ℕ = set (set (set (set two 8 1) 9 q) 12 (info_byte c.a)) 14 (info_byte c.b) in
    let len4 : length four ≡ length two = search (rules, places) in
    let low : (k : ℕ) → k < 8 → get_or four k 0 ≡ get_or two k 0 = λ k lt.
    sets_other two k 1 q (info_byte c.a) (info_byte c.b) (λ e. omega (arith, e, lt))
    (λ e. omega (arith, e, lt)) (λ e. omega (arith, e, lt)) (λ e. omega (arith, e, lt)) in
    record {
      suffix = same_field four two 0 4 len4 (λ k _ lt. low k (omega (arith, lt)))
          ∙ field-put_at_below one 4 m 0 4 (omega (arith, len1)) (lit≤ tt)
          ∙ field-put_at_same bytes 0 4 (suffix c.current) (omega (arith, len)) refl;
      magic = same_field four two 4 4 len4 (λ k _ lt. low k (omega (arith, lt)))
          ∙ field-put_at_same one 4 4 m (omega (arith, len1)) refl;
      version = search (rules, places);
      slots = search (rules, places);
      a = search (rules, places);
      b = search (rules, places);
      rest = λ k from n12 n14. sets_other two k 1 q (info_byte c.a) (info_byte c.b)
          (λ e. omega (arith, e, from)) (λ e. omega (arith, e, from)) n12 n14
          ∙ get_or-put_at_above one 4 m k (omega (arith, len1)) (omega (arith, from))
          ∙ get_or-put_at_above bytes 0 (suffix c.current) k (omega (arith, len))
          (omega (arith, from));
    }

-- the sector that is written: the fields, and the sum of what stands before it
abbrev pub written : Control → List ℕ → List ℕ
written c bytes = put_at (with_fields c bytes) 28
    (to_le_bytes w32 (crc_of (take 28 (with_fields c bytes))))

pub written_stands : (c : Control) (bytes : List ℕ)
    → length bytes ≡ 512
    → Represents (written c bytes) c
written_stands c bytes len =
    let h = has_fields c bytes len in
    let w : List ℕ = with_fields c bytes in
    let piece : List ℕ = to_le_bytes w32 (crc_of (take 28 w)) in
    let long : 28 + length piece ≤ length w = omega (arith, length-with_fields c bytes len) in
    let front : take 28 (written c bytes) ≡ take 28 w =
    field-put_at_below w 28 piece 0 28 long (lit≤ tt) in
    record {
      suffix = field-put_at_below w 28 piece 0 4 long (lit≤ tt) ∙ h.suffix;
      magic = field-put_at_below w 28 piece 4 4 long (lit≤ tt) ∙ h.magic;
      version = get_or-put_at_below w 28 piece 8 long (lit< tt) ∙ h.version;
      slots = ap (λ (n : ℕ). n % 8) (get_or-put_at_below w 28 piece 9 long (lit< tt) ∙ h.slots)
          ∙ omega arith;
      a = get_or-put_at_below w 28 piece 12 long (lit< tt) ∙ h.a;
      b = get_or-put_at_below w 28 piece 14 long (lit< tt) ∙ h.b;
      sum = field-put_at_same w 28 4 piece long refl
          ∙ ap (λ (t : List ℕ). to_le_bytes w32 (crc_of t)) (sym front);
    }

pub written_keeps : (c : Control) (bytes : List ℕ)
    → length bytes ≡ 512
    → KeepsRest bytes (written c bytes)
written_keeps c bytes len =
    let h = has_fields c bytes len in
    let w : List ℕ = with_fields c bytes in
    let piece : List ℕ = to_le_bytes w32 (crc_of (take 28 w)) in
    let long : 28 + length piece ≤ length w = omega (arith, length-with_fields c bytes len) in
    record {
      bits = ap (λ (n : ℕ). n / 8) (get_or-put_at_below w 28 piece 9 long (lit< tt) ∙ h.slots)
          ∙ omega arith;
      bytes = λ k from n12 n14 outside.
          elim outside [
            | inl below ↦ get_or-put_at_below w 28 piece k long below ∙ h.rest k from n12 n14
            | inr above ↦ get_or-put_at_above w 28 piece k long above ∙ h.rest k from n12 n14
          ];
    }

pub written_is_read : (c : Control) (bytes : List ℕ)
    → length bytes ≡ 512
    → Fits c
    → crc_of (take 28 (with_fields c bytes)) < 2 ^ 32
    → control_of (written c bytes) ≡ Ok c
written_is_read c bytes len fits summed =
    let w : List ℕ = with_fields c bytes in
    let piece : List ℕ = to_le_bytes w32 (crc_of (take 28 w)) in
    let long : 28 + length piece ≤ length w = omega (arith, length-with_fields c bytes len) in
    let front : take 28 (written c bytes) ≡ take 28 w =
    field-put_at_below w 28 piece 0 28 long (lit≤ tt) in
    let P : List ℕ → Type 0 = λ t. crc_of t < 2 ^ 32 in
    only_control_at (written c bytes) c (subst P (sym front) summed) fits
    (written_stands c bytes len)
