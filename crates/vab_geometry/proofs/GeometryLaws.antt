-- What callers need of geometries and their bytes.
use Rattle.std.proofs.Common.{◌≡◌, ℕ, zero, suc, ◌+◌, ◌*◌, ◌%◌, Bool, true, false, eqb, leb, ◌&&◌}
use Rattle.std.proofs.Common.{List, ◌++◌, length, take, drop, replicate, Result, Ok, refl, sym, ◌∙◌}
use Rattle.std.proofs.Common.{ap, subst, arith, append_assoc, length-append, eq-eqb}
use Rattle.std.specs.Int.{w32, to_le_bytes, to_be_bytes}
use Rattle.std.specs.Prelude.{slice_index}
use Rattle.std.specs.Str.{bytes_eq}
use Rattle.std.proofs.lemmas.Bool.{eqb-true, le-leb, leb-true}
use Rattle.std.proofs.lemmas.List.{take_at, drop_at, drop-drop}
use Rattle.std.proofs.lemmas.Slice.Eq.{bytes_eq-Decides}
use Rattle.std.proofs.Math.Seq.{take-add}
use Rattle.sha2.specs.Sha256.{sha256, digest_bytes}
use Rattle.vab_bytes.specs.Number.{IsBytes, field, le_at}
use Rattle.vab_bytes.proofs.NumberLaws.{le_at_spelled_32, le_at_is_32, field-field}
use Rattle.vab_geometry.specs.declared.geometry.Geometry.{Geometry}
use Rattle.vab_geometry.specs.declared.geometry.GeometryFault.{GeometryFault}
use Rattle.vab_geometry.specs.declared.geometry.GeometryFault.TheVariants.{BadMagic, BadSize}
use Rattle.vab_geometry.specs.declared.geometry.GeometryFault.TheVariants.{BadSum, BadField}
use Rattle.vab_geometry.specs.Geometry.{IsGeometry, front_bytes, back_bytes, sum_around}
use Rattle.vab_geometry.specs.Geometry.{geometry_bytes, Represents, geometry_sector}
use Rattle.vab_geometry.specs.Reading.{◌>>=◌, unless, keeps_rules, fields_at, geometry_of}

length-digest : (h : List ℕ) (n : ℕ) → length (digest_bytes h n) ≡ n * 4
unfolding digest_bytes
length-digest h zero = refl
length-digest h (suc n) =
    let last : length (to_be_bytes w32 (slice_index h n)) ≡ 4 = refl in
    omega (
      arith,
      length-digest h n,
      last,
      length-append (digest_bytes h n)
          (to_be_bytes w32 (slice_index h n)),
    )

-- a sum has 32 bytes
pub length-sum : (front back : List ℕ) → length (sum_around front back) ≡ 32
unfolding sum_around sha256
length-sum front back = length-digest _ 8

-- a field in two parts
field_split : (bytes : List ℕ) (at m n : ℕ)
    → field bytes at (m + n) ≡ field bytes at m ++ field bytes (at + m) n
field_split bytes at m n = take-add m n (drop at bytes)
    ∙ ap (λ (l : List ℕ). take m (drop at bytes) ++ take n l) (drop-drop m at bytes)

-- the tests that were passed
unless_ok : {A : Type 0} (b : Bool) (f : GeometryFault) (r : Result A GeometryFault) (x : A)
    → (unless b f >>= λ u. r) ≡ Ok x
    → (b ≡ true) × (r ≡ Ok x)
unless_ok true f r x e = (refl, e)
unless_ok false f r x e = absurd cc

and_both : (a b : Bool) → (a && b) ≡ true → (a ≡ true) × (b ≡ true)
and_both true b e = (refl, e)
and_both false b e = absurd cc

abbrev good : Geometry → Result Geometry GeometryFault
good g = Ok g

ok_is : (x y : Geometry) → good x ≡ good y → x ≡ y
ok_is x y e = cc

rules_kept : (g : Geometry) → keeps_rules g ≡ true → IsGeometry g
rules_kept g e =
    let a = and_both _ _ e in
    let b = and_both _ _ a.0 in
    let c = and_both _ _ b.0 in
    let d = and_both _ _ c.0 in
    record {
      sectors = eqb-true _ _ d.0;
      least = leb-true _ _ d.1;
      most = leb-true _ _ c.1;
      two = leb-true _ _ b.1;
      eight = leb-true _ _ a.1;
    }

rules_pass : (g : Geometry) → IsGeometry g → keeps_rules g ≡ true
rules_pass g rules =
    let a : eqb (g.max % 512) 0 ≡ true = eq-eqb _ _ rules.sectors in
    let b : leb 512 g.max ≡ true = le-leb _ _ rules.least in
    let c : leb g.max 1048576 ≡ true = le-leb _ _ rules.most in
    let d : leb 2 g.slots ≡ true = le-leb _ _ rules.two in
    let e : leb g.slots 8 ≡ true = le-leb _ _ rules.eight in
    (λ i. (((a i && b i) && c i) && d i) && e i)

unless_pass : {A : Type 0} (b : Bool) (f : GeometryFault) (r : Result A GeometryFault)
    → b ≡ true
    → (unless b f >>= λ u. r) ≡ r
unless_pass true f r is = refl
unless_pass false f r is = absurd cc

pub found_is : (bytes : List ℕ) (g : Geometry)
    → length bytes ≡ 512
    → IsBytes bytes
    → geometry_of bytes ≡ Ok g
    → IsGeometry g × Represents bytes g
unfolding geometry_of
found_is bytes g long small e =
    let a = unless_ok (eqb (le_at w32 bytes 0) 0x616C4467) BadMagic _ g e in
    let b = unless_ok (eqb (le_at w32 bytes 4) 52) BadSize _ g a.1 in
    let c = unless_ok (bytes_eq (field bytes 8 32)
    (sum_around (field bytes 0 8) (field bytes 40 12))) BadSum _ g b.1 in
    let d = unless_ok (keeps_rules (fields_at bytes)) BadField _ g c.1 in
    let f = unless_ok (eqb (le_at w32 bytes 48) 4096) BadField (Ok (fields_at bytes)) g d.1 in
    let magic : field bytes 0 4 ≡ to_le_bytes w32 0x616C4467 =
    sym (le_at_spelled_32 bytes 0 (omega arith) small)
    ∙ ap (to_le_bytes w32) (eqb-true _ _ a.0) in
    let size : field bytes 4 4 ≡ to_le_bytes w32 52 =
    sym (le_at_spelled_32 bytes 4 (omega arith) small)
    ∙ ap (to_le_bytes w32) (eqb-true _ _ b.0) in
    let max : field bytes 40 4 ≡ to_le_bytes w32 (le_at w32 bytes 40) =
    sym (le_at_spelled_32 bytes 40 (omega arith) small) in
    let slots : field bytes 44 4 ≡ to_le_bytes w32 (le_at w32 bytes 44) =
    sym (le_at_spelled_32 bytes 44 (omega arith) small) in
    let block : field bytes 48 4 ≡ to_le_bytes w32 4096 =
    sym (le_at_spelled_32 bytes 48 (omega arith) small)
    ∙ ap (to_le_bytes w32) (eqb-true _ _ f.0) in
    let front : field bytes 0 8 ≡ front_bytes = field_split bytes 0 4 4
    ∙ (λ i. magic i ++ size i) in
    let back : field bytes 40 12 ≡ back_bytes (fields_at bytes) = field_split bytes 40 4 8
    ∙ (λ i. max i ++ (field_split bytes 44 4 4 ∙ (λ j. slots j ++ block j)) i) in
    let sum : field bytes 8 32 ≡ sum_around front_bytes (back_bytes (fields_at bytes)) =
    (bytes_eq-Decides _ _).0 c.0 ∙ (λ i. sum_around (front i) (back i)) in
    let whole : Represents bytes (fields_at bytes) = field_split bytes 0 8 44
    ∙ (λ i. front i ++ (field_split bytes 8 32 12 ∙ (λ j. sum j ++ back j)) i) in
    subst (λ (g : Geometry). IsGeometry g × Represents bytes g) (ok_is (fields_at bytes) g f.1)
    (rules_kept (fields_at bytes) d.0, whole)

pub only_is : (bytes : List ℕ) (g : Geometry)
    → IsGeometry g
    → Represents bytes g
    → geometry_of bytes ≡ Ok g
unfolding geometry_of
only_is bytes g rules stands =
    let sum_bytes : List ℕ = sum_around front_bytes (back_bytes g) in
    let wide : length sum_bytes ≡ 32 = length-sum front_bytes (back_bytes g) in
    let both : length (front_bytes ++ sum_bytes) ≡ 40 =
    omega (arith, wide, length-append front_bytes sum_bytes) in
    let front : field bytes 0 8 ≡ front_bytes =
    sym (field-field bytes 0 52 0 8 (omega arith)) ∙ ap (λ (l : List ℕ). field l 0 8) stands
    ∙ take_at front_bytes (sum_bytes ++ back_bytes g) 8 refl in
    let sum : field bytes 8 32 ≡ sum_bytes =
    sym (field-field bytes 0 52 8 32 (omega arith)) ∙ ap (λ (l : List ℕ). field l 8 32) stands
    ∙ ap (λ (l : List ℕ). take 32 l) (drop_at front_bytes (sum_bytes ++ back_bytes g) 8 refl)
    ∙ take_at sum_bytes (back_bytes g) 32 wide in
    let back : field bytes 40 12 ≡ back_bytes g =
    sym (field-field bytes 0 52 40 12 (omega arith))
    ∙ ap (λ (l : List ℕ). field l 40 12)
    (stands ∙ sym (append_assoc front_bytes sum_bytes (back_bytes g)))
    ∙ ap (λ (l : List ℕ). take 12 l) (drop_at (front_bytes ++ sum_bytes) (back_bytes g) 40 both) in
    let magic : le_at w32 bytes 0 ≡ 0x616C4467 =
    le_at_is_32 bytes 0 0x616C4467 (omega arith) (sym (field-field bytes 0 8 0 4 (omega arith))
    ∙ ap (λ (l : List ℕ). field l 0 4) front) in
    let size : le_at w32 bytes 4 ≡ 52 = le_at_is_32 bytes 4 52 (omega arith)
    (sym (field-field bytes 0 8 4 4 (omega arith)) ∙ ap (λ (l : List ℕ). field l 4 4) front) in
    let max : le_at w32 bytes 40 ≡ g.max = le_at_is_32 bytes 40 g.max (omega (arith, rules.most))
    (sym (field-field bytes 40 12 0 4 (omega arith)) ∙ ap (λ (l : List ℕ). field l 0 4) back) in
    let slots : le_at w32 bytes 44 ≡ g.slots =
    le_at_is_32 bytes 44 g.slots (omega (arith, rules.eight))
    (sym (field-field bytes 40 12 4 4 (omega arith)) ∙ ap (λ (l : List ℕ). field l 4 4) back) in
    let block : le_at w32 bytes 48 ≡ 4096 =
    le_at_is_32 bytes 48 4096 (omega arith) (sym (field-field bytes 40 12 8 4 (omega arith))
    ∙ ap (λ (l : List ℕ). field l 8 4) back) in
    let fields : fields_at bytes ≡ g = (λ i. record { max = max i; slots = slots i }) in
    unless_pass (eqb (le_at w32 bytes 0) 0x616C4467) BadMagic _ (eq-eqb _ _ magic)
    ∙ unless_pass (eqb (le_at w32 bytes 4) 52) BadSize _ (eq-eqb _ _ size)
    ∙ unless_pass (bytes_eq (field bytes 8 32) (sum_around (field bytes 0 8) (field bytes 40 12)))
    BadSum _ ((bytes_eq-Decides _ _).1 (sum ∙ (λ i. sum_around (sym front i) (sym back i))))
    ∙ unless_pass (keeps_rules (fields_at bytes)) BadField _
    (ap keeps_rules fields ∙ rules_pass g rules)
    ∙ unless_pass (eqb (le_at w32 bytes 48) 4096) BadField (Ok (fields_at bytes)) (eq-eqb _ _ block)
    ∙ ap (λ (g : Geometry). Ok g) fields

-- a geometry that is read keeps the rules, also where nothing is known of the bytes
pub read_keeps_rules : (bytes : List ℕ) (g : Geometry) → geometry_of bytes ≡ Ok g → IsGeometry g
unfolding geometry_of
read_keeps_rules bytes g e =
    let a = unless_ok (eqb (le_at w32 bytes 0) 0x616C4467) BadMagic _ g e in
    let b = unless_ok (eqb (le_at w32 bytes 4) 52) BadSize _ g a.1 in
    let c = unless_ok (bytes_eq (field bytes 8 32)
    (sum_around (field bytes 0 8) (field bytes 40 12))) BadSum _ g b.1 in
    let d = unless_ok (keeps_rules (fields_at bytes)) BadField _ g c.1 in
    let f = unless_ok (eqb (le_at w32 bytes 48) 4096) BadField (Ok (fields_at bytes)) g d.1 in
    subst IsGeometry (ok_is (fields_at bytes) g f.1) (rules_kept (fields_at bytes) d.0)

-- what is written is read
pub sector_read : (g : Geometry) → IsGeometry g → geometry_of (geometry_sector g) ≡ Ok g
unfolding geometry_sector
sector_read g rules = only_is (geometry_sector g) g rules
    (take_at (geometry_bytes g) (replicate 460 0) 52
    (omega (
      arith,
      length-append front_bytes
          (sum_around front_bytes (back_bytes g) ++ back_bytes g),
      length-append
          (sum_around front_bytes (back_bytes g)) (back_bytes g),
      length-sum front_bytes (back_bytes g),
    )))
