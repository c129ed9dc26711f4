-- Images made one after the other, as a loop does, and images of files whose bytes are known.
use Rattle.std.proofs.Common.{
  ◌≡◌,
  ℕ,
  ◌+◌,
  ◌<◌,
  ◌≤◌,
  ◌^◌,
  List,
  [],
  ◌∷◌,
  ◌++◌,
  length,
  get_or,
  map,
  take,
  drop,
  Option,
  Some,
  None,
  IfSome,
  Result,
  Ok,
  Err,
  refl,
  sym,
  ap,
  subst,
  ◌∙◌,
  add-one,
  drop-cons,
  arith,
  leb,
  inl,
  inr,
}
use Rattle.std.specs.Prelude.{All}
use Rattle.std.proofs.Math.Seq.{take-suc}
use Rattle.std.proofs.lemmas.List.{take-append-drop, take_all, length-take}
use Rattle.std.proofs.lemmas.List.Elements.{All-nil, All-cons}
use Rattle.vab_set.specs.declared.set.SetImage.{SetImage}
use Rattle.vab_set.specs.Spelling.{IsImage}
use Rattle.vab_pack.specs.Asked.{Asked}
use Rattle.std.proofs.lemmas.Bool.{cases_Bool}
use Rattle.vab_pack.specs.Images.{image_of, size_for}
use Rattle.vab_sparse.specs.declared.fault.SparseFault.{SparseFault}
use Rattle.vabpack.specs.Packed.{
  Contents,
  Failing,
  IsImageOf,
  AreImagesOf,
  IsOfFile,
  StopsAt,
  AreKnownAs,
  HasUnfit,
  meant,
  Stands,
  IsMalformed,
}
use Rattle.vabpack.specs.declared.refusal.Refusal.{Refusal}
use Rattle.vabpack.specs.declared.refusal.Refusal.TheVariants as refusals

-- it stands for these bytes
abbrev pub meant_as : List ℕ → Result (List ℕ) SparseFault
meant_as bytes = Ok bytes

-- ---- a file that was read up to a limit

pub whole_file : (known : Option (List ℕ)) (read : List ℕ)
    → IfSome known (λ bytes. read ≡ take (2 ^ 32 + 1) bytes)
    → length read ≤ 2 ^ 32
    → IfSome known (λ bytes. read ≡ bytes)
whole_file None read h short = tt
whole_file (Some bytes) read h short =
    let cut : length read ≡ length (take (2 ^ 32 + 1) bytes) = ap length h in
    h ∙ take_all (2 ^ 32 + 1) bytes (omega (arith, cut, short, length-take (2 ^ 32 + 1) bytes))

pub long_file : (known : Option (List ℕ)) (read : List ℕ)
    → IfSome known (λ bytes. read ≡ take (2 ^ 32 + 1) bytes)
    → 2 ^ 32 < length read
    → IfSome known (λ bytes. 2 ^ 32 < length bytes)
long_file None read h long = tt
long_file (Some bytes) read h long =
    let cut : length read ≡ length (take (2 ^ 32 + 1) bytes) = ap length h in
    omega (arith, cut, long, length-take (2 ^ 32 + 1) bytes)

-- ---- one after the other

pub pushed : (files : Contents) (asked : List Asked) (images : List SetImage) (a : Asked)
    (image : SetImage)
    → AreImagesOf files asked images
    → IsImageOf files a image
    → AreImagesOf files (asked ++ a ∷ []) (images ++ image ∷ [])
pushed files [] [] a image are is = (is, tt)
pushed files [] (i ∷ images) a image are is = absurd are
pushed files (b ∷ asked) [] a image are is = absurd are
pushed files (b ∷ asked) (i ∷ images) a image are is =
    (are.0, pushed files asked images a image are.1 is)

pub goes_on : (files : Contents) (asked : List Asked) (i : ℕ) (images : List SetImage) (a : Asked)
    (image : SetImage)
    → i < length asked
    → a ≡ get_or asked i a
    → AreImagesOf files (take i asked) images
    → IsImageOf files a image
    → AreImagesOf files (take (i + 1) asked) (images ++ image ∷ [])
goes_on files asked i images a image lt at are is =
    let more : take (i + 1) asked ≡ take i asked ++ (get_or asked i a ∷ []) =
    rw add-one (take-suc asked i a lt) in
    let last : take (i + 1) asked ≡ take i asked ++ (a ∷ []) =
    more ∙ ap (λ (x : Asked). take i asked ++ (x ∷ [])) (sym at) in
    subst (λ (l : List Asked). AreImagesOf files l (images ++ image ∷ [])) (sym last)
    (pushed files (take i asked) images a image are is)

pub stops : (files : Contents) (fails : Failing) (asked : List Asked) (i : ℕ)
    (images : List SetImage) (a : Asked) (refusal : Refusal)
    → i < length asked
    → a ≡ get_or asked i a
    → AreImagesOf files (take i asked) images
    → IsOfFile files fails a refusal
    → StopsAt files fails asked refusal
stops files fails asked i images a refusal lt at are is =
    let first : drop i asked ≡ get_or asked i a ∷ drop (i + 1) asked =
    rw add-one (drop-cons asked i a lt) in
    let here : drop i asked ≡ a ∷ drop (i + 1) asked =
    first ∙ ap (λ (x : Asked). x ∷ drop (i + 1) asked) (sym at) in
    record {
      before = take i asked;
      images = images;
      at = a;
      behind = drop (i + 1) asked;
      whole = sym (take-append-drop i asked) ∙ ap (λ (l : List Asked). take i asked ++ l) here;
      each = are;
      reason = is;
    }

-- ---- what the images are

some_of : {X : Type 0} (x y : X) → Some x ≡ Some y → x ≡ y
some_of x y e = cc

-- an image has the bytes of its file, and the name that is asked for
made : (a : Asked) (bytes : List ℕ) (i : SetImage)
    → image_of a bytes ≡ Some i
    → (i.bytes ≡ bytes) × (i.name ≡ a.name)
unfolding image_of
made a bytes i e = elim (cases_Bool (leb (length bytes) (size_for a (length bytes)))) [
  | inl holds ↦
      let image : SetImage = record {
        name = a.name;
        size = size_for a (length bytes);
        store = a.store;
        bytes = bytes;
      } in
      let same : image ≡ i = some_of image i (sym (rw holds refl) ∙ e) in
      (ap (λ (j : SetImage). j.bytes) (sym same), ap (λ (j : SetImage). j.name) (sym same))
  | inr lacks ↦ absurd (let f : None ≡ Some i = sym (rw lacks refl) ∙ e in cc)
]

pub names : (files : Contents) (asked : List Asked) (images : List SetImage)
    → AreImagesOf files asked images
    → map (λ i. i.name) images ≡ map (λ a. a.name) asked
names files [] [] are = refl
names files [] (i ∷ images) are = absurd are
names files (a ∷ asked) [] are = absurd are
names files (a ∷ asked) (i ∷ images) are =
    let name : i.name ≡ a.name = (made a i.bytes i are.0.whole).1 in
    ap (λ (n : List ℕ). n ∷ map (λ i. i.name) images) name
    ∙ ap (λ (l : List (List ℕ)). a.name ∷ l) (names files asked images are.1)

pub fit : (files : Contents) (asked : List Asked) (images : List SetImage)
    → AreImagesOf files asked images
    → All IsImage images
fit files [] [] are = All-nil IsImage
fit files [] (i ∷ images) are = absurd are
fit files (a ∷ asked) [] are = absurd are
fit files (a ∷ asked) (i ∷ images) are =
    All-cons IsImage i images are.0.fits (fit files asked images are.1)

-- ---- files whose bytes are known

-- equal results have equal values, and none is both
pub ok_of : (x y : List ℕ) → meant_as x ≡ meant_as y → x ≡ y
ok_of x y e = cc

pub ok_or_err : (x : List ℕ) (fault : SparseFault) → ¬ (meant_as x ≡ Err fault)
ok_or_err x fault e = absurd cc

stands_at : (files : Contents) (a : Asked) (i : SetImage) (file : List ℕ)
    → files a.path ≡ Some file
    → IsImageOf files a i
    → Stands file i.bytes
stands_at files a i file known is =
    let P : Option (List ℕ) → Type 0 = λ o. IfSome o (λ f. Stands f i.bytes) in
    subst P known is.bytes

pub none_long : (files : Contents) (asked : List Asked) (images : List SetImage)
    → AreImagesOf files asked images
    → ¬ HasUnfit files asked
none_long files [] images are long = long
none_long files (a ∷ asked) [] are long = are
none_long files (a ∷ asked) (i ∷ images) are (inl (file, known, inl long)) =
    let stands = stands_at files a i file known are.0 in
    absurd (omega (arith, long, stands.short))
none_long files (a ∷ asked) (i ∷ images) are (inl (file, known, inr (inl (fault, bad)))) =
    let stands = stands_at files a i file known are.0 in
    absurd (ok_or_err i.bytes fault (sym stands.means ∙ bad))
none_long files (a ∷ asked) (i ∷ images) are (inl (file, known, inr (inr (image, means, none)))) =
    let stands = stands_at files a i file known are.0 in
    let same : i.bytes ≡ image = ok_of i.bytes image (sym stands.means ∙ means) in
    let both : None ≡ Some i = sym none ∙ ap (image_of a) (sym same) ∙ are.0.whole in
    absurd cc
none_long files (a ∷ asked) (i ∷ images) are (inr later) = none_long files asked images are.1 later

pub known_same : (files : Contents) (asked : List Asked) (images others : List SetImage)
    → AreKnownAs files asked images
    → AreImagesOf files asked others
    → others ≡ images
known_same files [] [] [] known are = refl
known_same files [] [] (j ∷ others) known are = absurd are
known_same files [] (i ∷ images) others known are = absurd known
known_same files (a ∷ asked) [] others known are = absurd known
known_same files (a ∷ asked) (i ∷ images) [] known are = absurd are
known_same files (a ∷ asked) (i ∷ images) (j ∷ others) known are =
    let there = stands_at files a j known.0.0 known.0.1 are.0 in
    let bytes : j.bytes ≡ i.bytes =
    ok_of j.bytes i.bytes (sym there.means ∙ known.0.2.means) in
    let same : j ≡ i =
    some_of j i (sym are.0.whole ∙ ap (image_of a) bytes ∙ known.1) in
    ap (λ (x : SetImage). x ∷ others) same
    ∙ ap (λ (l : List SetImage). i ∷ l) (known_same files asked images others known.2 are.1)

pub known_at : (files : Contents) (before behind : List Asked) (a : Asked) (images : List SetImage)
    → AreKnownAs files (before ++ a ∷ behind) images
    → (image : SetImage)
    × (file : List ℕ)
    × (files a.path ≡ Some file)
    × Stands file image.bytes
    × (image_of a image.bytes ≡ Some image)
known_at files [] behind a [] known = absurd known
known_at files [] behind a (i ∷ images) known =
    (i, known.0.0, known.0.1, known.0.2, known.1)
known_at files (b ∷ before) behind a [] known = absurd known
known_at files (b ∷ before) behind a (i ∷ images) known =
    known_at files before behind a images known.2

-- ---- what one file gives

pub image : (files : Contents) (a : Asked) (path read bytes : List ℕ) (i : SetImage)
    → path ≡ a.path
    → Some i ≡ image_of a bytes
    → IfSome (files path) (λ file. read ≡ take (2 ^ 32 + 1) file)
    → length read ≤ 2 ^ 32
    → meant read ≡ meant_as bytes
    → IsImage i
    → IsImageOf files a i
image files a path read bytes i at is known short means fits =
    let same : i.bytes ≡ bytes = (made a bytes i (sym is)).0 in
    let P : List ℕ → Type 0 = λ p. IfSome (files p) (λ file. read ≡ file) in
    let there : IfSome (files a.path) (λ file. read ≡ file) =
    subst P at (whole_file (files path) read known short) in
    record {
      whole = ap (image_of a) same ∙ sym is;
      bytes = stands (files a.path) read i.bytes there short (means ∙ ap meant_as (sym same));
      fits = fits;
    }
  where
    stands : (known : Option (List ℕ)) (read bytes : List ℕ)
        → IfSome known (λ file. read ≡ file)
        → length read ≤ 2 ^ 32
        → meant read ≡ meant_as bytes
        → IfSome known (λ file. Stands file bytes)
    stands None read bytes is short means = tt
    stands (Some file) read bytes is short means = record {
      short = omega (arith, short, ap length is);
      means = ap meant (sym is) ∙ means;
    }

-- a file that was read whole, and whose image its partition doesn't hold
pub overfull : (known : Option (List ℕ)) (a : Asked) (read bytes : List ℕ)
    → IfSome known (λ file. read ≡ take (2 ^ 32 + 1) file)
    → length read ≤ 2 ^ 32
    → meant read ≡ meant_as bytes
    → None ≡ image_of a bytes
    → IfSome known (λ file.
    (image : List ℕ) × Stands file image × (image_of a image ≡ None))
overfull None a read bytes h short means none = tt
overfull (Some file) a read bytes h short means none =
    let same : read ≡ file = whole_file (Some file) read h short in
    let stands : Stands file bytes = record {
      short = omega (arith, short, ap length same);
      means = ap meant (sym same) ∙ means;
    } in
    (bytes, stands, sym none)

-- a file that was read whole, and is a malformed sparse image
pub faulty : (known : Option (List ℕ)) (read : List ℕ) (fault : SparseFault)
    → IfSome known (λ file. read ≡ take (2 ^ 32 + 1) file)
    → length read ≤ 2 ^ 32
    → meant read ≡ Err fault
    → IfSome known (λ file. (length file ≤ 2 ^ 32) × (meant file ≡ Err fault))
faulty None read fault h short bad = tt
faulty (Some file) read fault h short bad =
    let same : read ≡ file = whole_file (Some file) read h short in
    (omega (arith, short, ap length same), ap meant (sym same) ∙ bad)

-- why such a file stands for nothing is why there is no image of it
pub malformed : (files : Contents) (fails : Failing) (a : Asked) (at read : List ℕ) (e : Refusal)
    → at ≡ a.path
    → IfSome (files at) (λ file. read ≡ take (2 ^ 32 + 1) file)
    → length read ≤ 2 ^ 32
    → IsMalformed at read e
    → IsOfFile files fails a e
malformed files fails a at read (refusals.Sparse path fault) is known short bad =
    let faults : IfSome (files at) (λ file. (length file ≤ 2 ^ 32) × (meant file ≡ Err fault)) =
    faulty (files at) read fault known short bad.1 in
    let P : List ℕ → Type 0 = λ p. IfSome (files p)
    (λ file. (length file ≤ 2 ^ 32) × (meant file ≡ Err fault)) in
    (sym is ∙ bad.0, subst P bad.0 faults)
malformed files fails a at read refusals.NoMemory is known short bad = tt
malformed files fails a at read refusals.SetTooLarge is known short bad = absurd bad
malformed files fails a at read refusals.NoWords is known short bad = absurd bad
malformed files fails a at read (refusals.Words fault) is known short bad = absurd bad
malformed files fails a at read (refusals.TooLarge path) is known short bad = absurd bad
malformed files fails a at read (refusals.TooSmall path) is known short bad = absurd bad
malformed files fails a at read (refusals.File path fault) is known short bad = absurd bad
