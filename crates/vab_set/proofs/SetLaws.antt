-- What is read is spelled so, and what is spelled so is read.
use Rattle.std.proofs.Common.{◌≡◌, ◌≢◌, ℕ, zero, suc, ◌+◌, ◌<◌, ◌≤◌, ◌^◌, Bool, true, false, cond}
use Rattle.std.proofs.Common.{◌||◌, List, [], ◌∷◌, ◌++◌, length, get_or, take, drop, Option, Some}
use Rattle.std.proofs.Common.{None, Result, Ok, Err, refl, sym, ap, subst, ◌∙◌, inl, inr}
use Rattle.std.proofs.Common.{append_assoc, append-nil, length-append, length-take-le}
use Rattle.std.proofs.Common.{take-append-drop, arith, eqb, ltb, leb}
use Rattle.std.specs.Prelude.{not, All, AllPairs, IsTrue}
use Rattle.std.specs.Int.{w32, w64, to_le_bytes}
use Rattle.std.proofs.lemmas.List.{take_at, drop_at, get_or-drop}
use Rattle.std.specs.Str.{bytes_eq}
use Rattle.std.specs.List.{position_or_len, list_any}
use Rattle.vab_bytes.specs.Name.{is_name}
use Rattle.std.proofs.lemmas.List.Elements.{All-cons, All-head, All-tail, All-weaker}
use Rattle.std.proofs.lemmas.Bool.{cases_Bool, ltb-false, le-ltb, and_parts, both_ways}
use Rattle.std.proofs.lemmas.Bool.{false_from_ne_true, or_right, eqb-true, leb-true}
use Rattle.std.proofs.lemmas.Slice.Eq.{bytes_eq-Decides}
use Rattle.std.proofs.Math.ListN.{get_or-append}
use Rattle.std.proofs.Math.Seq.{get_or-append_seam}
use Rattle.std.proofs.lemmas.List.{drop-drop}
use Rattle.std.proofs.lemmas.List.Elements.{All-nil}
use Rattle.std.proofs.lemmas.List.Quantifiers.{all_pairs_push}
use Rattle.vab_bytes.specs.Number.{IsBytes, le_at}
use Rattle.vab_bytes.proofs.NumberLaws.{IsBytes-field, le_at_spelled_64, le_at_fits_64, le_at_is_64}
use Rattle.vab_bytes.proofs.NumberLaws.{le_at_spelled_32, le_at_is_32}
use Rattle.vab_set.specs.declared.set.SetImage.{SetImage}
use Rattle.vab_set.specs.declared.fault.SetFault.{SetFault}
use Rattle.vab_set.specs.declared.fault.SetFault.TheVariants as faults
use Rattle.vab_names.specs.Names.{is_base, is_short, most_partitions}
use Rattle.vab_set.specs.Spelling.{magic, image_text, images_text, set_text, IsImage, IsSet}
use Rattle.vab_set.specs.Reading.{◌>>=◌, taken, number_at, text_at, first_named, judged}
use Rattle.vab_set.specs.Reading.{unless_first, new_name, size_at, image_at, images_at, count_at}
use Rattle.vab_set.specs.Reading.{set_of}

bind_ok : {A B : Type 0} (r : Result A SetFault) (f : A → Result B SetFault) (y : B)
    → (r >>= f) ≡ Ok y
    → (x : A) × (r ≡ Ok x) × (f x ≡ Ok y)
bind_ok (Ok x) f y e = (x, refl, e)
bind_ok (Err d) f y e = absurd cc

then_is : {A B : Type 0} (r : Result A SetFault) (f : A → Result B SetFault) (x : A)
    → r ≡ Ok x
    → (r >>= f) ≡ f x
then_is r f x e = ap (λ (s : Result _ SetFault). s >>= f) e

abbrev ok : {A : Type 0} → A → Result A SetFault
ok x = Ok x

guarded : {A : Type 0} (b : Bool) (fault : SetFault) (x y : A)
    → cond b (Err fault) (Ok x) ≡ Ok y
    → (b ≡ false) × (x ≡ y)
guarded true fault x y e = absurd cc
guarded false fault x y e = (refl, cc)

-- what a field takes from the front
pub record Takes (bytes front back : List ℕ) : Type 0 where
  pub whole : bytes ≡ front ++ back
  pub text : IsBytes front
  pub rest : IsBytes back

-- n bytes that are there
taken_takes : (image n : ℕ) (bytes : List ℕ) (x : List ℕ × List ℕ)
    → IsBytes bytes
    → taken image n bytes ≡ Ok x
    → Takes bytes x.0 x.1 × (length x.0 ≡ n)
taken_takes image n bytes x is h =
    let g = guarded (ltb (length bytes) n) (faults.Cut image) (take n bytes, drop n bytes) x h in
    let long : n ≤ length bytes = omega (arith, ltb-false (length bytes) n g.0) in
    let text : IsBytes (take n bytes) = IsBytes-field bytes 0 n is in
    let rest : IsBytes (drop n bytes) = λ i. rw get_or-drop (is (n + i)) in
    let P : List ℕ × List ℕ → Type 0 = λ y. Takes bytes y.0 y.1 × (length y.0 ≡ n) in
    subst P g.1 (
      record { whole = sym (take-append-drop n bytes); text = text; rest = rest },
      length-take-le n bytes long,
    )

taken_again : (image n : ℕ) (text rest : List ℕ)
    → length text ≡ n
    → taken image n (text ++ rest) ≡ Ok (text, rest)
taken_again image n text rest long =
    let no : ltb (length (text ++ rest)) n ≡ false =
    le-ltb _ _ (omega (arith, long, length-append text rest)) in
    rw (no, take_at text rest n long, drop_at text rest n long) refl

-- a number
number_takes : (image : ℕ) (bytes : List ℕ) (x : ℕ × List ℕ)
    → IsBytes bytes
    → number_at image bytes ≡ Ok x
    → Takes bytes (to_le_bytes w64 x.0) x.1 × (x.0 < 2 ^ 64)
unfolding number_at
number_takes image bytes x is h =
    let g = guarded (ltb (length bytes) 8) (faults.Cut image) (le_at w64 bytes 0, drop 8 bytes) x
    h in
    let long : 0 + 8 ≤ length bytes = omega (arith, ltb-false (length bytes) 8 g.0) in
    let spelled : to_le_bytes w64 (le_at w64 bytes 0) ≡ take 8 bytes =
    le_at_spelled_64 bytes 0 long is in
    let text : IsBytes (take 8 bytes) = IsBytes-field bytes 0 8 is in
    let rest : IsBytes (drop 8 bytes) = λ i. rw get_or-drop (is (8 + i)) in
    let P : ℕ × List ℕ → Type 0 = λ y. Takes bytes (to_le_bytes w64 y.0) y.1 × (y.0 < 2 ^ 64) in
    subst P g.1 (
      record {
        whole = sym (take-append-drop 8 bytes)
            ∙ ap (λ (l : List ℕ). l ++ drop 8 bytes) (sym spelled);
        text =
            subst IsBytes (sym spelled) text;
        rest = rest;
      },
      le_at_fits_64 bytes 0 is,
    )

number_again : (image v : ℕ) (rest : List ℕ)
    → v < 2 ^ 64
    → number_at image (to_le_bytes w64 v ++ rest) ≡ Ok (v, rest)
unfolding number_at
number_again image v rest fits =
    let text : List ℕ = to_le_bytes w64 v in
    let is : le_at w64 (text ++ rest) 0 ≡ v =
    le_at_is_64 (text ++ rest) 0 v fits (take_at text rest 8 refl) in
    let no : ltb (length (text ++ rest)) 8 ≡ false =
    le-ltb _ _ (omega (arith, length-append text rest)) in
    rw (no, is) refl

size_takes : (image most : ℕ) (bytes : List ℕ) (x : ℕ × List ℕ)
    → IsBytes bytes
    → size_at image most bytes ≡ Ok x
    → Takes bytes (to_le_bytes w64 x.0) x.1 × (x.0 < 2 ^ 64) × (x.0 ≤ most)
unfolding size_at
size_takes image most bytes x is h =
    let a = bind_ok (number_at image bytes)
    (λ size. cond (ltb most size.0) (Err (faults.TooBig image)) (Ok size)) x h in
    let g = guarded (ltb most a.0.0) (faults.TooBig image) a.0 x a.2 in
    let t = number_takes image bytes a.0 is a.1 in
    let P : ℕ × List ℕ → Type 0 = λ y. Takes bytes (to_le_bytes w64 y.0) y.1 × (y.0 < 2 ^ 64)
    × (y.0 ≤ most) in
    subst P g.1 (t.0, t.1, omega (arith, ltb-false most a.0.0 g.0))

size_again : (image most v : ℕ) (rest : List ℕ)
    → v < 2 ^ 64
    → v ≤ most
    → size_at image most (to_le_bytes w64 v ++ rest) ≡ Ok (v, rest)
unfolding size_at
size_again image most v rest fits le =
    let no : ltb most v ≡ false = le-ltb _ _ le in
    rw (number_again image v rest fits) (rw no refl)

-- the text of a name
text_takes : (image : ℕ) (bytes : List ℕ) (x : List ℕ × List ℕ)
    → IsBytes bytes
    → text_at image bytes ≡ Ok x
    → Takes bytes (length x.0 ∷ x.0) x.1
unfolding text_at
text_takes image [] x is h = absurd cc
text_takes image (b ∷ bytes) x is h =
    let one = then_is (taken image 1 (b ∷ bytes)) (λ (len : List ℕ × List ℕ).
    taken image (get_or len.0 0 0) len.1) (b ∷ [], bytes)
    (taken_again image 1 (b ∷ []) bytes refl) in
    let t = taken_takes image b bytes x (λ i. is (suc i)) (sym one ∙ h) in
    record {
      whole = ap (λ (l : List ℕ). b ∷ l) t.0.whole ∙ ap (λ (k : ℕ). k ∷ x.0 ++ x.1) (sym t.1);
      text = first b x.0 (is 0) t.0.text (sym t.1);
      rest = t.0.rest;
    }
  where
    first : (b : ℕ) (text : List ℕ)
        → b < 256
        → IsBytes text
        → b ≡ length text
        → IsBytes (length text ∷ text)
    first b text lt is e zero = omega (arith, e)
    first b text lt is e (suc k) = is k

text_again : (image : ℕ) (text rest : List ℕ)
    → text_at image (length text ∷ text ++ rest) ≡ Ok (text, rest)
unfolding text_at
text_again image text rest =
    then_is (taken image 1 (length text ∷ text ++ rest)) (λ (len : List ℕ × List ℕ).
    taken image (get_or len.0 0 0) len.1) (length text ∷ [], text ++ rest)
    (taken_again image 1 (length text ∷ []) (text ++ rest) refl)
    ∙ taken_again image (length text) text rest refl

-- a new name
first_is : (image : ℕ) (text name : List ℕ) (o : Option ℕ)
    → unless_first image text o ≡ Ok name
    → (name ≡ text) × (o ≡ None)
first_is image text name None h = (cc, refl)
first_is image text name (Some k) h = absurd cc

name_is : (images : List SetImage) (text name : List ℕ)
    → new_name images text ≡ Ok name
    → (name ≡ text) × IsTrue (is_base text) × (first_named images text ≡ None)
unfolding new_name
name_is images text name h = elim (cases_Bool (is_base text)) [
  | inl base ↦
      let e : unless_first (length images) text (first_named images text) ≡ Ok name =
      sym (ap (λ (b : Bool). judged images (cond b (Some text) None)) base) ∙ h in
      let f = first_is (length images) text name (first_named images text) e in
      (f.0, base, f.1)
  | inr other ↦ absurd (let e = sym (ap (λ (b : Bool). judged images (cond b (Some text) None))
      other) ∙ h in cc)
]

name_again : (images : List SetImage) (text : List ℕ)
    → IsTrue (is_base text)
    → first_named images text ≡ None
    → new_name images text ≡ Ok text
unfolding new_name
name_again images text base first = rw (base, first) refl

passes_none : (p : SetImage → Bool) (xs : List SetImage)
    → length xs ≤ position_or_len p xs
    → All (λ x. p x ≡ false) xs
passes_none p [] le = All-nil (λ (x : SetImage). p x ≡ false)
passes_none p (x ∷ xs) le = elim (cases_Bool (p x)) [
  | inl passes ↦ let z : position_or_len p (x ∷ xs) ≡ 0 = rw passes refl in absurd (omega arith)
  | inr fails ↦
      let z : position_or_len p (x ∷ xs) ≡ 1 + position_or_len p xs = rw fails refl in
      All-cons (λ (x : SetImage). p x ≡ false) x xs fails (passes_none p xs (omega arith))
]

none_passes : (p : SetImage → Bool) (xs : List SetImage)
    → All (λ x. p x ≡ false) xs
    → length xs ≤ position_or_len p xs
none_passes p [] none = omega arith
none_passes p (x ∷ xs) none =
    let no : p x ≡ false = All-head (λ (x : SetImage). p x ≡ false) x xs none in
    let z : position_or_len p (x ∷ xs) ≡ 1 + position_or_len p xs = rw no refl in
    omega (arith, z, none_passes p xs (All-tail (λ (x : SetImage). p x ≡ false) x xs none))

first_none : (images : List SetImage) (name : List ℕ)
    → first_named images name ≡ None
    → All (λ a. a.name ≢ name) images
unfolding first_named
first_none images name h =
    let p : SetImage → Bool = λ a. bytes_eq a.name name in
    elim (cases_Bool (ltb (position_or_len p images) (length images))) [
      | inl some ↦ absurd (let e : Some (position_or_len p images) ≡ None = sym (rw some refl)
          ∙ h in cc)
      | inr none ↦
          All-weaker (λ (a : SetImage). p a ≡ false) (λ (a : SetImage). a.name ≢ name)
          (λ a no e. both_ways (p a) no ((bytes_eq-Decides a.name name).1 e)) images
          (passes_none p images (ltb-false (position_or_len p images) (length images) none))
    ]

none_first : (images : List SetImage) (name : List ℕ)
    → All (λ a. a.name ≢ name) images
    → first_named images name ≡ None
unfolding first_named
none_first images name differ =
    let p : SetImage → Bool = λ a. bytes_eq a.name name in
    let no : All (λ a. p a ≡ false) images =
    All-weaker (λ (a : SetImage). a.name ≢ name) (λ (a : SetImage). p a ≡ false)
    (λ a ne. false_from_ne_true _ (λ t. ne ((bytes_eq-Decides a.name name).0 t))) images
    differ in
    let past : ltb (position_or_len p images) (length images) ≡ false =
    le-ltb _ _ (none_passes p images no) in
    rw past refl

-- ---- an image, field by field

abbrev made : List ℕ → ℕ → ℕ → List ℕ × List ℕ → Result (SetImage × List ℕ) SetFault
made name size store content = Ok (
  record {
    name = name;
    size = size;
    store = store;
    bytes =
        content.0;
  },
  content.1,
)

abbrev content_then : List SetImage
    → List ℕ
    → ℕ
    → ℕ
    → ℕ × List ℕ
    → Result (SetImage × List ℕ) SetFault
content_then images name size store len = taken (length images) len.0 len.1 >>= made name size store

abbrev len_then : List SetImage → List ℕ → ℕ → ℕ × List ℕ → Result (SetImage × List ℕ) SetFault
len_then images name size store = size_at (length images) size store.1 >>= content_then images name
    size store.0

abbrev store_then : List SetImage → List ℕ → ℕ × List ℕ → Result (SetImage × List ℕ) SetFault
store_then images name size = number_at (length images) size.1 >>= len_then images name size.0

abbrev size_then : List SetImage → List ℕ → List ℕ → Result (SetImage × List ℕ) SetFault
size_then images after name = size_at (length images) (2 ^ 40) after >>= store_then images name

abbrev name_then : List SetImage → List ℕ × List ℕ → Result (SetImage × List ℕ) SetFault
name_then images text = new_name images text.0 >>= size_then images text.1

in_steps : (images : List SetImage) (bytes : List ℕ)
    → image_at images bytes ≡ (text_at (length images) bytes >>= name_then images)
unfolding image_at
in_steps images bytes = refl

five : (a b c d e rest : List ℕ)
    → ((((a ++ b) ++ c) ++ d) ++ e) ++ rest ≡ a ++ (b ++ (c ++ (d ++ (e ++ rest))))
five a b c d e rest = simp append_assoc

pub record Found (images : List SetImage) (bytes : List ℕ) (image : SetImage) (back : List ℕ) : Type
    0 where
  pub whole : bytes ≡ image_text image ++ back
  pub rest : IsBytes back
  pub fits : IsImage image
  pub differs : All (λ a. a.name ≢ image.name) images

ok_is : {A : Type 0} (x y : A) → ok x ≡ ok y → x ≡ y
ok_is x y e = cc

image_found : (images : List SetImage) (bytes : List ℕ) (x : SetImage × List ℕ)
    → IsBytes bytes
    → image_at images bytes ≡ Ok x
    → Found images bytes x.0 x.1
unfolding image_text
image_found images bytes x is h =
    let n : ℕ = length images in
    let a = bind_ok (text_at n bytes) (name_then images) x (sym (in_steps images bytes) ∙ h) in
    let t1 = text_takes n bytes a.0 is a.1 in
    let b = bind_ok (new_name images a.0.0) (size_then images a.0.1) x a.2 in
    let named = name_is images a.0.0 b.0 b.1 in
    let c = bind_ok (size_at n (2 ^ 40) a.0.1) (store_then images b.0) x b.2 in
    let t2 = size_takes n (2 ^ 40) a.0.1 c.0 t1.rest c.1 in
    let d = bind_ok (number_at n c.0.1) (len_then images b.0 c.0.0) x c.2 in
    let t3 = number_takes n c.0.1 d.0 t2.0.rest d.1 in
    let e = bind_ok (size_at n c.0.0 d.0.1) (content_then images b.0 c.0.0 d.0.0) x d.2 in
    let t4 = size_takes n c.0.0 d.0.1 e.0 t3.0.rest e.1 in
    let f = bind_ok (taken n e.0.0 e.0.1) (made b.0 c.0.0 d.0.0) x e.2 in
    let t5 = taken_takes n e.0.0 e.0.1 f.0 t4.0.rest f.1 in
    let image : SetImage = record { name = b.0; size = c.0.0; store = d.0.0; bytes = f.0.0 } in
    let P : SetImage × List ℕ → Type 0 = λ y. Found images bytes y.0 y.1 in
    let name : List ℕ = length a.0.0 ∷ a.0.0 in
    let name' : List ℕ = length b.0 ∷ b.0 in
    let size : List ℕ = to_le_bytes w64 c.0.0 in
    let store : List ℕ = to_le_bytes w64 d.0.0 in
    let len : List ℕ = to_le_bytes w64 e.0.0 in
    let len' : List ℕ = to_le_bytes w64 (length f.0.0) in
    let spelled : bytes ≡ name ++ (size ++ (store ++ (len ++ (f.0.0 ++ f.0.1)))) =
    t1.whole ∙ ap (λ (l : List ℕ). name ++ l)
    (t2.0.whole ∙ ap (λ (l : List ℕ). size ++ l)
    (t3.0.whole ∙ ap (λ (l : List ℕ). store ++ l)
    (t4.0.whole ∙ ap (λ (l : List ℕ). len ++ l) t5.0.whole))) in
    let names : name ≡ name' = ap (λ (l : List ℕ). length l ∷ l) (sym named.0) in
    let lens : len ≡ len' = ap (λ (k : ℕ). to_le_bytes w64 k) (sym t5.1) in
    subst P (ok_is (image, f.0.1) x f.2) (record {
      whole = spelled ∙ ap (λ (l : List ℕ). l ++ (size ++ (store ++ (len ++ (f.0.0 ++ f.0.1)))))
          names ∙ ap (λ (l : List ℕ). name' ++ (size ++ (store ++ (l ++ (f.0.0 ++ f.0.1))))) lens
          ∙ sym (five name' size store len' f.0.0 f.0.1);
      rest = t5.0.rest;
      fits = record {
        name = subst (λ (l : List ℕ). IsTrue (is_base l)) (sym named.0) named.1;
        size = t2.2;
        store = t3.1;
        bytes = t5.0.text;
        short = omega (arith, t5.1, t4.2);
      };
      differs = subst (λ (l : List ℕ). All (λ a. a.name ≢ l) images) (sym named.0)
          (first_none images a.0.0 named.2);
    })

image_again : (images : List SetImage) (image : SetImage) (rest : List ℕ)
    → IsImage image
    → All (λ a. a.name ≢ image.name) images
    → image_at images (image_text image ++ rest) ≡ Ok (image, rest)
unfolding image_text
image_again images image rest fits differs =
    let n : ℕ = length images in
    let name : List ℕ = length image.name ∷ image.name in
    let r4 : List ℕ = image.bytes ++ rest in
    let r3 : List ℕ = to_le_bytes w64 (length image.bytes) ++ r4 in
    let r2 : List ℕ = to_le_bytes w64 image.store ++ r3 in
    let r1 : List ℕ = to_le_bytes w64 image.size ++ r2 in
    let regrouped : image_text image ++ rest ≡ name ++ r1 =
    five name (to_le_bytes w64 image.size) (to_le_bytes w64 image.store)
    (to_le_bytes w64 (length image.bytes)) image.bytes rest in
    ap (image_at images) regrouped ∙ in_steps images (name ++ r1)
    ∙ then_is (text_at n (name ++ r1)) (name_then images) (image.name, r1)
    (text_again n image.name r1)
    ∙ then_is (new_name images image.name) (size_then images r1) image.name
    (name_again images image.name fits.name (none_first images image.name differs))
    ∙ then_is (size_at n (2 ^ 40) r1) (store_then images image.name) (image.size, r2)
    (size_again n (2 ^ 40) image.size r2 (omega (arith, fits.size)) fits.size)
    ∙ then_is (number_at n r2) (len_then images image.name image.size) (image.store, r3)
    (number_again n image.store r3 fits.store)
    ∙ then_is (size_at n image.size r3) (content_then images image.name image.size image.store)
    (length image.bytes, r4) (size_again n image.size (length image.bytes) r4
    (omega (arith, fits.short, fits.size)) fits.short)
    ∙ then_is (taken n (length image.bytes) r4) (made image.name image.size image.store)
    (image.bytes, rest) (taken_again n (length image.bytes) image.bytes rest refl)

-- ---- images behind those read so far

abbrev Apart : SetImage → SetImage → Type 0
Apart a b = a.name ≢ b.name

pub record Behind (n : ℕ) (images : List SetImage) (bytes : List ℕ) (all : List SetImage) : Type 0
  where
    pub more : List SetImage
    pub whole : all ≡ images ++ more
    pub count : length more ≡ n
    pub spelled : bytes ≡ images_text more
    pub fits : All IsImage more
    pub apart : AllPairs Apart all

passed : {A : Type 0} (b : Bool) (fault : SetFault) (r : Result A SetFault) (y : A)
    → cond b (Err fault) r ≡ Ok y
    → (b ≡ false) × (r ≡ Ok y)
passed true fault r y e = absurd cc
passed false fault r y e = (refl, e)

ended : {A : Type 0} (b : Bool) (fault : SetFault) (x y : A)
    → cond b (Ok x) (Err fault) ≡ Ok y
    → (b ≡ true) × (x ≡ y)
ended true fault x y e = (refl, cc)
ended false fault x y e = absurd cc

empty_is : (bytes : List ℕ) → length bytes ≡ 0 → bytes ≡ []
empty_is [] e = refl
empty_is (b ∷ bytes) e = absurd (omega (arith, e))

images_found : (n : ℕ) (images : List SetImage) (bytes : List ℕ) (all : List SetImage)
    → IsBytes bytes
    → images_at n images bytes ≡ Ok all
    → AllPairs Apart images
    → Behind n images bytes all
unfolding images_at images_text
images_found zero images bytes all is h apart =
    let g = ended (eqb (length bytes) 0) faults.Trailing images all h in
    record {
      more = [];
      whole = sym g.1 ∙ sym (append-nil images);
      count = refl;
      spelled = empty_is bytes (eqb-true (length bytes) 0 g.0);
      fits = All-nil IsImage;
      apart = subst (AllPairs Apart) g.1 apart;
    }
images_found (suc n) images bytes all is h apart =
    let a = bind_ok (image_at images bytes) (λ (x : SetImage × List ℕ).
    images_at n (images ++ x.0 ∷ []) x.1) all h in
    let f = image_found images bytes a.0 is a.1 in
    let later : AllPairs Apart (images ++ a.0.0 ∷ []) =
    all_pairs_push Apart images a.0.0 apart f.differs in
    let b = images_found n (images ++ a.0.0 ∷ []) a.0.1 all f.rest a.2 later in
    record {
      more = a.0.0 ∷ b.more;
      whole = b.whole ∙ append_assoc images (a.0.0 ∷ []) b.more;
      count = omega (arith, b.count);
      spelled = f.whole ∙ ap (λ (l : List ℕ). image_text a.0.0 ++ l) b.spelled;
      fits = All-cons IsImage a.0.0 b.more f.fits b.fits;
      apart = b.apart;
    }

images_again : (images more : List SetImage)
    → All IsImage more
    → AllPairs Apart (images ++ more)
    → images_at (length more) images (images_text more) ≡ Ok (images ++ more)
unfolding images_at images_text
images_again images [] fits apart = ap ok (sym (append-nil images))
images_again images (x ∷ more) fits apart =
    let seam : (d : SetImage) → get_or (images ++ x ∷ more) (length images) d ≡ x =
    λ (d : SetImage). get_or-append_seam images x more d in
    let differs : All (λ a. a.name ≢ x.name) images = λ (k : ℕ) (d : SetImage) lt.
    subst (λ (b : SetImage). (get_or images k d).name ≢ b.name) (seam d)
    (subst (λ (a : SetImage). a.name ≢ (get_or (images ++ x ∷ more) (length images) d).name)
    (get_or-append images (x ∷ more) d k lt)
    (apart k (length images) d lt (omega (arith, length-append images (x ∷ more))))) in
    let later : AllPairs Apart ((images ++ x ∷ []) ++ more) =
    subst (AllPairs Apart) (sym (append_assoc images (x ∷ []) more)) apart in
    then_is (image_at images (image_text x ++ images_text more)) (λ (y : SetImage × List ℕ).
    images_at (length more) (images ++ y.0 ∷ []) y.1) (x, images_text more)
    (image_again images x (images_text more) (All-head IsImage x more fits) differs)
    ∙ images_again (images ++ x ∷ []) more (All-tail IsImage x more fits) later
    ∙ ap ok (append_assoc images (x ∷ []) more)

-- ---- the whole

pub record Counted (bytes : List ℕ) (n : ℕ) (back : List ℕ) : Type 0 where
  pub whole : bytes ≡ (magic ++ to_le_bytes w32 n) ++ back
  pub rest : IsBytes back
  pub few : n ≤ most_partitions

count_found : (bytes : List ℕ) (x : ℕ × List ℕ)
    → IsBytes bytes
    → count_at bytes ≡ Ok x
    → Counted bytes x.0 x.1
unfolding count_at
count_found bytes x is h =
    let head : Bool = ltb (length bytes) 8 || not (bytes_eq (take 8 bytes) magic) in
    let n : ℕ = le_at w32 bytes 8 in
    let rest : List ℕ = drop 12 bytes in
    let a = passed head faults.BadMagic (cond (ltb (length bytes) 12) (Err (faults.Cut 0))
    (cond (ltb most_partitions n) (Err (faults.TooMany n)) (Ok (n, rest)))) x h in
    let b = passed (ltb (length bytes) 12) (faults.Cut 0)
    (cond (ltb most_partitions n) (Err (faults.TooMany n)) (Ok (n, rest))) x a.1 in
    let c = guarded (ltb most_partitions n) (faults.TooMany n) (n, rest) x b.1 in
    let long : 8 + 4 ≤ length bytes = omega (arith, ltb-false (length bytes) 12 b.0) in
    let front : take 8 bytes ≡ magic = elim (cases_Bool (bytes_eq (take 8 bytes) magic)) [
      | inl same ↦ (bytes_eq-Decides (take 8 bytes) magic).0 same
      | inr other ↦ absurd (both_ways head a.0
          (or_right (ltb (length bytes) 8) (not (bytes_eq (take 8 bytes) magic)) (rw other refl)))
    ] in
    let spelled : to_le_bytes w32 n ≡ take 4 (drop 8 bytes) = le_at_spelled_32 bytes 8 long is in
    let back : drop 4 (drop 8 bytes) ≡ rest = drop-drop 4 8 bytes in
    let behind : drop 8 bytes ≡ to_le_bytes w32 n ++ rest = sym (take-append-drop 4 (drop 8 bytes))
    ∙ ap (λ (l : List ℕ). l ++ drop 4 (drop 8 bytes)) (sym spelled)
    ∙ ap (λ (l : List ℕ). to_le_bytes w32 n ++ l) back in
    let P : ℕ × List ℕ → Type 0 = λ y. Counted bytes y.0 y.1 in
    subst P c.1 (record {
      whole = sym (take-append-drop 8 bytes) ∙ ap (λ (l : List ℕ). l ++ drop 8 bytes) front
          ∙ ap (λ (l : List ℕ). magic ++ l) behind
          ∙ sym (append_assoc magic (to_le_bytes w32 n) rest);
      rest = λ i. rw get_or-drop (is (12 + i));
      few = ltb-false most_partitions n c.0;
    })

count_again : (n : ℕ) (rest : List ℕ)
    → n ≤ most_partitions
    → count_at ((magic ++ to_le_bytes w32 n) ++ rest) ≡ Ok (n, rest)
unfolding count_at
count_again n rest few =
    let bytes : List ℕ = (magic ++ to_le_bytes w32 n) ++ rest in
    let is : le_at w32 bytes 8 ≡ n = le_at_is_32 bytes 8 n (omega (arith, few)) refl in
    let long : ltb (length bytes) 8 ≡ false =
    le-ltb _ _ (omega (arith, length-append (magic ++ to_le_bytes w32 n) rest)) in
    let whole : ltb (length bytes) 12 ≡ false =
    le-ltb _ _ (omega (arith, length-append (magic ++ to_le_bytes w32 n) rest)) in
    let less : ltb most_partitions n ≡ false = le-ltb _ _ few in
    rw (long, whole, is, less) refl

pub set_found : (bytes : List ℕ) (all : List SetImage)
    → IsBytes bytes
    → set_of bytes ≡ Ok all
    → IsSet all × (bytes ≡ set_text all)
unfolding set_of set_text
set_found bytes all is h =
    let a = bind_ok (count_at bytes) (λ (c : ℕ × List ℕ). images_at c.0 [] c.1) all h in
    let c = count_found bytes a.0 is a.1 in
    let b = images_found a.0.0 [] a.0.1 all c.rest a.2 (λ (i j : ℕ) (d : SetImage) lt below.
    absurd (omega arith)) in
    let more : b.more ≡ all = sym b.whole in
    let count : length all ≡ a.0.0 = ap length b.whole ∙ b.count in (
      record {
        count = omega (arith, count, c.few);
        each = subst (All IsImage) more b.fits;
        names =
            b.apart;
      },
      c.whole ∙ ap (λ (k : ℕ). (magic ++ to_le_bytes w32 k) ++ a.0.1) (sym count)
          ∙ ap (λ (l : List ℕ). (magic ++ to_le_bytes w32 (length all)) ++ l)
          (b.spelled ∙ ap images_text more),
    )

pub set_again : (images : List SetImage) → IsSet images → set_of (set_text images) ≡ Ok images
unfolding set_of set_text
set_again images is =
    then_is (count_at ((magic ++ to_le_bytes w32 (length images)) ++ images_text images))
    (λ (c : ℕ × List ℕ). images_at c.0 [] c.1) (length images, images_text images)
    (count_again (length images) (images_text images) is.count)
    ∙ images_again [] images is.each is.names

pub base_short : (name : List ℕ) → IsTrue (is_base name) → length name ≤ 30
unfolding is_base
base_short name base =
    let a = and_parts (is_name name) (is_short name) base in
    let b = and_parts (leb (length name) 30) (not (list_any (λ b. eqb b 45) name)) a.1 in
    leb-true (length name) 30 b.0
