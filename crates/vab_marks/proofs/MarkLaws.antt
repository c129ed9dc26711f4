-- What callers need of the update mark.
use Rattle.std.proofs.Common.{◌≡◌, ℕ, zero, suc, ◌^◌, ◌<◌, ◌&&◌, ◌||◌, Bool, true, false, cond}
use Rattle.std.proofs.Common.{eqb, ltb, not, List}
use Rattle.std.proofs.Common.{[], ◌∷◌, length, take, get_or, Option, Some, None, Result, Ok, Err}
use Rattle.std.proofs.Common.{refl, sym, ap, subst, ◌∙◌, arith, lit≤}
use Rattle.std.specs.Prelude.{ok_or, option_map, IsTrue}
use Rattle.std.proofs.lemmas.Bool.{ltb-true, lt-ltb, and_parts, and_from, cond-true, eqb-true}
use Rattle.std.proofs.lemmas.List.{drop-drop}
use Rattle.vab_bytes.specs.Number.{IsBytes, field, put_at}
use Rattle.vab_bytes.proofs.NumberLaws.{length-field}
use Rattle.vab_bytes.specs.Crc.{crc_of}
use Rattle.vab_marks.specs.declared.sector.MarkFault.{MarkFault}
use Rattle.vab_marks.specs.declared.sector.MarkFault.TheVariants.{BadField, BadMagic}
use Rattle.vab_marks.specs.declared.mark.MarkPhase.{MarkPhase}
use Rattle.vab_marks.specs.declared.mark.MarkPhase.TheVariants.{Idle, Installing, Staged, Merging}
use Rattle.vab_marks.specs.declared.mark.MarkPhase.TheVariants.{Completed}
use Rattle.vab_marks.specs.declared.mark.UpdateMark.{UpdateMark}
use Rattle.vab_marks.specs.declared.version.MarkVersion.{MarkVersion}
use Rattle.vab_marks.specs.declared.version.MarkVersion.TheVariants.{One, Two}
use Rattle.vab_marks.specs.Sector.{zeros, are_zeros, sealed, head_fault, unless}
use Rattle.vab_marks.proofs.SectorLaws.{length-zeros, field-zeros, are_zeros-zeros, zeros_from}
use Rattle.vab_marks.proofs.SectorLaws.{field-add, field-one, length-sealed, field-sealed}
use Rattle.vab_marks.proofs.SectorLaws.{get_or-sealed, unless_ok, front_sum, head_is, head_again}
use Rattle.vab_marks.proofs.SectorLaws.{zero_head}
use Rattle.vab_marks.specs.Version.{version_byte, version_of, version_in, is_version}
use Rattle.vab_marks.specs.Mark.{FitsMark, FlagsFit, phase_byte, phase_spelled, mark_magic}
use Rattle.vab_marks.specs.Mark.{mark_front, mark_under, mark_spelling, may_stand_apart, is_idle}
use Rattle.vab_marks.specs.Mark.{mark_by, mark_fields, mark_of, flag_byte, with_physical}

-- ---- phases

-- the mark of its own byte is the mark, without physical partitions
phase_again : (m : UpdateMark)
    → FlagsFit m
    → mark_by m.slot (phase_spelled m) ≡ Some (with_physical false m)
phase_again m fits = by m.phase m.apart m.overlaid fits.0 fits.1
  where
    by : (p : MarkPhase) (a o : Bool)
        → IsTrue (may_stand_apart p || not a)
        → IsTrue (is_idle p || not o)
        → mark_by m.slot (phase_byte p a o)
        ≡ Some (record { phase = p; slot = m.slot; apart = a; overlaid = o; physical = false })
    by Idle false false h k = refl
    by Idle false true h k = refl
    by Idle true o h k = absurd cc
    by Installing false false h k = refl
    by Installing true false h k = refl
    by Installing a true h k = absurd cc
    by Staged false false h k = refl
    by Staged true false h k = refl
    by Staged a true h k = absurd cc
    by Merging false false h k = refl
    by Merging true o h k = absurd cc
    by Merging false true h k = absurd cc
    by Completed false false h k = refl
    by Completed true o h k = absurd cc
    by Completed false true h k = absurd cc

-- the byte of a mark that is read, its slot, and that it has a spelling
pub record IsPhaseOf (slot b : ℕ) (m : UpdateMark) : Type 0 where
  pub byte : b ≡ phase_spelled m
  pub slot_is : m.slot ≡ slot
  pub flags : FlagsFit m

some_is : (slot b : ℕ) (k m : UpdateMark)
    → IsPhaseOf slot b k
    → (let one : Option UpdateMark = Some k in one ≡ Some m)
    → IsPhaseOf slot b m
some_is slot b k m is h = subst (IsPhaseOf slot b) (let e : k ≡ m = cc in e) is

phase_is : (slot b : ℕ) (m : UpdateMark) → mark_by slot b ≡ Some m → IsPhaseOf slot b m
phase_is slot zero m h =
    some_is slot 0 _ m (record { byte = refl; slot_is = refl; flags = (refl, refl) }) h
phase_is slot (suc zero) m h =
    some_is slot 1 _ m (record { byte = refl; slot_is = refl; flags = (refl, refl) }) h
phase_is slot (suc (suc zero)) m h =
    some_is slot 2 _ m (record { byte = refl; slot_is = refl; flags = (refl, refl) }) h
phase_is slot (suc (suc (suc zero))) m h =
    some_is slot 3 _ m (record { byte = refl; slot_is = refl; flags = (refl, refl) }) h
phase_is slot (suc (suc (suc (suc zero)))) m h =
    some_is slot 4 _ m (record { byte = refl; slot_is = refl; flags = (refl, refl) }) h
phase_is slot (suc (suc (suc (suc (suc zero))))) m h =
    some_is slot 5 _ m (record { byte = refl; slot_is = refl; flags = (refl, refl) }) h
phase_is slot (suc (suc (suc (suc (suc (suc zero)))))) m h =
    some_is slot 6 _ m (record { byte = refl; slot_is = refl; flags = (refl, refl) }) h
phase_is slot (suc (suc (suc (suc (suc (suc (suc zero))))))) m h =
    some_is slot 7 _ m (record { byte = refl; slot_is = refl; flags = (refl, refl) }) h
phase_is slot (suc (suc (suc (suc (suc (suc (suc (suc n)))))))) m h = absurd cc

-- ---- versions

version_again : (v : MarkVersion) → version_of (version_byte v) ≡ v
version_again One = refl
version_again Two = refl

byte_again : (v : MarkVersion) → is_version (version_byte v) ≡ true
byte_again One = refl
byte_again Two = refl

version_is : (b : ℕ) → is_version b ≡ true → b ≡ version_byte (version_of b)
version_is b h = by (eqb b 1) refl
  where
    by : (one : Bool) → eqb b 1 ≡ one → b ≡ version_byte (version_of b)
    by true is = eqb-true b 1 is ∙ ap version_byte (sym (ap (λ (t : Bool). cond t One Two) is))
    by false other =
        let two : eqb b 2 ≡ true = ap (λ (t : Bool). t || eqb b 2) (sym other) ∙ h in
        eqb-true b 2 two ∙ ap version_byte (sym (ap (λ (t : Bool). cond t One Two) other))

-- ---- the flag of physical partitions

flag_again : (f : Bool) → eqb (flag_byte f) 1 ≡ f
flag_again true = refl
flag_again false = refl

flag_below : (f : Bool) → ltb (flag_byte f) 2 ≡ true
flag_below true = refl
flag_below false = refl

flag_is : (n : ℕ) → ltb n 2 ≡ true → n ≡ flag_byte (eqb n 1)
flag_is zero h = refl
flag_is (suc zero) h = refl
flag_is (suc (suc n)) h = absurd (omega (arith, ltb-true (suc (suc n)) 2 h))

-- ---- the front of the sector

-- the parts make the front
front_is : (bytes : List ℕ) (v : MarkVersion) (m : UpdateMark)
    → length bytes ≡ 512
    → take 4 bytes ≡ mark_magic
    → get_or bytes 4 0 ≡ version_byte v
    → get_or bytes 5 0 ≡ phase_spelled m
    → get_or bytes 6 0 ≡ m.slot
    → get_or bytes 7 0 ≡ flag_byte m.physical
    → field bytes 8 500 ≡ zeros 500
    → take 508 bytes ≡ mark_front v m
front_is bytes v m len magic version phase slot flag rest =
    let e4 : field bytes 4 1 ≡ version_byte v ∷ [] = field-one bytes 4 (omega (arith, len))
    ∙ ap (λ (k : ℕ). k ∷ []) version in
    let e5 : field bytes 5 1 ≡ phase_spelled m ∷ [] =
    field-one bytes 5 (omega (arith, len))
    ∙ ap (λ (k : ℕ). k ∷ []) phase in
    let e6 : field bytes 6 1 ≡ m.slot ∷ [] = field-one bytes 6 (omega (arith, len))
    ∙ ap (λ (k : ℕ). k ∷ []) slot in
    let e7 : field bytes 7 1 ≡ flag_byte m.physical ∷ [] =
    field-one bytes 7 (omega (arith, len))
    ∙ ap (λ (k : ℕ). k ∷ []) flag in
    let from7 : field bytes 7 501 ≡ flag_byte m.physical ∷ zeros 500 = field-add bytes 7 1 500
    ∙ rw (e7, rest) refl in
    let from6 : field bytes 6 502 ≡ m.slot ∷ flag_byte m.physical ∷ zeros 500 =
    field-add bytes 6 1 501 ∙ rw (e6, from7) refl in
    let from5 : field bytes 5 503
    ≡ phase_spelled m ∷ m.slot ∷ flag_byte m.physical ∷ zeros 500 =
    field-add bytes 5 1 502 ∙ rw (e5, from6) refl in
    let from4 : field bytes 4 504
    ≡ version_byte v ∷ phase_spelled m ∷ m.slot ∷ flag_byte m.physical ∷ zeros 500 =
    field-add bytes 4 1 503 ∙ rw (e4, from5) refl in
    field-add bytes 0 4 504 ∙ rw (magic, from4) refl

length-front : (v : MarkVersion) (m : UpdateMark) → length (mark_front v m) ≡ 508
length-front v m = omega (arith, length-zeros 500)

-- ---- reading

mark_by_ok : (o : Option UpdateMark) (m : UpdateMark) → ok_or o BadField ≡ Ok m → o ≡ Some m
mark_by_ok None m h = absurd cc
mark_by_ok (Some k) m h = cc

-- the mark whose flag is set so
mapped_is : (p : Bool) (o : Option UpdateMark) (m : UpdateMark)
    → option_map (with_physical p) o ≡ Some m
    → (k : UpdateMark) × (o ≡ Some k) × (with_physical p k ≡ m)
mapped_is p None m h = absurd cc
mapped_is p (Some k) m h = (k, refl, cc)

-- the same phase, slot and flags, whichever physical partitions there are
with_flag : (slot b : ℕ)
    (p : Bool)
    (k m : UpdateMark)
    → IsPhaseOf slot b k
    → with_physical p k ≡ m
    → IsPhaseOf slot b m × (m.physical ≡ p)
with_flag slot b p k m is e =
    let P : UpdateMark → Type 0 = λ n. IsPhaseOf slot b n × (n.physical ≡ p) in
    subst P e (record { byte = is.byte; slot_is = is.slot_is; flags = is.flags }, refl)

fields_ok : (t : Bool) (r : Result UpdateMark MarkFault) (m : UpdateMark)
    → cond t r (Err BadField) ≡ Ok m
    → (t ≡ true) × (r ≡ Ok m)
fields_ok true r m h = (refl, h)
fields_ok false r m h = absurd cc

-- what is read is spelled so, under the version of its sector
pub found_mark : (bytes : List ℕ) (m : UpdateMark)
    → length bytes ≡ 512
    → IsBytes bytes
    → mark_of bytes ≡ Ok m
    → FitsMark m × (bytes ≡ mark_under (version_in bytes) m)
unfolding mark_of mark_under
found_mark bytes m len are h =
    let v : MarkVersion = version_in bytes in
    let known : Bool = is_version (get_or bytes 4 0) in
    let u = unless_ok (head_fault mark_magic known bytes) (mark_fields bytes) m h in
    let head = head_is mark_magic known bytes len are u.0 in
    let below : Bool = ltb (get_or bytes 7 0) 2 && are_zeros (field bytes 8 500) in
    let f = fields_ok (ltb (get_or bytes 6 0) 2 && below) _ m u.1 in
    let tests = and_parts (ltb (get_or bytes 6 0) 2) below f.0 in
    let behind = and_parts (ltb (get_or bytes 7 0) 2) (are_zeros (field bytes 8 500)) tests.1 in
    let flag : Bool = eqb (get_or bytes 7 0) 1 in
    let k = mapped_is flag (mark_by (get_or bytes 6 0) (get_or bytes 5 0)) m
    (mark_by_ok _ m f.1) in
    let q = with_flag (get_or bytes 6 0) (get_or bytes 5 0) flag k.0 m
    (phase_is (get_or bytes 6 0) (get_or bytes 5 0) k.0 k.1) k.2 in
    let p = q.0 in
    let rest : field bytes 8 500 ≡ zeros 500 =
    zeros_from (field bytes 8 500) 500 (length-field bytes 8 500 (omega (arith, len)))
    behind.1 in
    let front : take 508 bytes ≡ mark_front v m =
    front_is bytes v m len head.first (version_is (get_or bytes 4 0) head.version)
    p.byte (sym p.slot_is)
    (flag_is (get_or bytes 7 0) behind.0 ∙ ap flag_byte (sym q.1)) rest in (
      record {
        slot = subst (λ (n : ℕ). n < 2) (sym p.slot_is) (ltb-true _ _ tests.0);
        flags = p.flags;
      },
      head.whole ∙ ap sealed front,
    )

-- what is spelled so is read
pub only_mark : (v : MarkVersion) (m : UpdateMark)
    → crc_of (mark_front v m) < 2 ^ 32
    → FitsMark m
    → mark_of (mark_under v m) ≡ Ok m
unfolding mark_of mark_under
only_mark v m sum fits =
    let front : List ℕ = mark_front v m in
    let whole : List ℕ = sealed front in
    let len = length-front v m in
    let version : is_version (get_or whole 4 0) ≡ true =
    ap is_version (get_or-sealed front 4 (omega (arith, len))) ∙ byte_again v in
    let head : head_fault mark_magic (is_version (get_or whole 4 0)) whole ≡ None =
    head_again mark_magic (is_version (get_or whole 4 0)) front len sum refl version in
    let phase : get_or whole 5 0 ≡ phase_spelled m =
    get_or-sealed front 5 (omega (arith, len)) in
    let slot : get_or whole 6 0 ≡ m.slot = get_or-sealed front 6 (omega (arith, len)) in
    let flag : get_or whole 7 0 ≡ flag_byte m.physical =
    get_or-sealed front 7 (omega (arith, len)) in
    let rest : field whole 8 500 ≡ zeros 500 = field-sealed front 8 500 (omega (arith, len))
    ∙ field-zeros 500 0 500 (lit≤ tt) in
    let below : ltb (get_or whole 6 0) 2 ≡ true = lt-ltb _ 2 (omega (arith, slot, fits.slot)) in
    let clean : are_zeros (field whole 8 500) ≡ true = ap are_zeros rest ∙ are_zeros-zeros 500 in
    let flagged : ltb (get_or whole 7 0) 2 ≡ true =
    ap (λ (n : ℕ). ltb n 2) flag ∙ flag_below m.physical in
    let set : eqb (get_or whole 7 0) 1 ≡ m.physical =
    ap (λ (n : ℕ). eqb n 1) flag ∙ flag_again m.physical in
    let of_head : Option MarkFault → Result UpdateMark MarkFault = λ o.
    unless o (mark_fields whole) in
    let of_mark : Option UpdateMark → Result UpdateMark MarkFault = λ o. ok_or o BadField in
    let read : option_map (with_physical (eqb (get_or whole 7 0) 1))
    (mark_by (get_or whole 6 0) (get_or whole 5 0))
    ≡ Some m =
    rw (slot, phase, set)
    (ap (λ (o : Option UpdateMark). option_map (with_physical m.physical) o)
    (phase_again m fits.flags)) in
    ap of_head head
    ∙ cond-true _ _ (Err BadField) (and_from _ _ below (and_from _ _ flagged clean))
    ∙ ap of_mark read

pub read_mark : (bytes : List ℕ) (v : MarkVersion) (m : UpdateMark)
    → IsBytes bytes
    → FitsMark m
    → bytes ≡ mark_under v m
    → mark_of bytes ≡ Ok m
unfolding mark_under
read_mark bytes v m are fits h = ap mark_of h
    ∙ only_mark v m (front_sum bytes (mark_front v m) (length-front v m) are h) fits

-- the version under which a mark is spelled
pub version_spelled : (v : MarkVersion) (m : UpdateMark) → version_in (mark_under v m) ≡ v
unfolding mark_under
version_spelled v m =
    ap version_of (get_or-sealed (mark_front v m) 4 (omega (arith, length-front v m)))
    ∙ version_again v

-- ---- writing

-- the sector before its sum
abbrev pub mark_drawn : UpdateMark → List ℕ
mark_drawn m =
    put_at (put_at (zeros 512) 0 mark_magic) 4
    (2 ∷ phase_spelled m ∷ m.slot ∷ flag_byte m.physical ∷ [])

pub drawn_mark : (m : UpdateMark) → take 508 (mark_drawn m) ≡ mark_front Two m
drawn_mark m =
    let head : List ℕ → List ℕ = λ t.
    86 ∷ 65 ∷ 66 ∷ 85 ∷ 2 ∷ phase_spelled m ∷ m.slot ∷ flag_byte m.physical ∷ t in
    ap (λ (t : List ℕ). head (take 500 t)) (drop-drop 4 4 (zeros 512))
    ∙ ap head (field-zeros 512 8 500 (lit≤ tt))

-- a sector whose first byte is zero is no mark
pub zero_is_no_mark : (bytes : List ℕ) → get_or bytes 0 0 ≡ 0 → mark_of bytes ≡ Err BadMagic
unfolding mark_of
zero_is_no_mark bytes h =
    let of_head : Option MarkFault → Result UpdateMark MarkFault = λ o.
    unless o (mark_fields bytes) in
    ap of_head
    (zero_head 85 (65 ∷ 66 ∷ 85 ∷ []) (is_version (get_or bytes 4 0)) bytes h)

pub length-mark_spelling : (m : UpdateMark) → length (mark_spelling m) ≡ 512
unfolding mark_under
length-mark_spelling m = length-sealed (mark_front Two m) (length-front Two m)
