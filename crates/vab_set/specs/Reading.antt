-- What bytes mean: the set, or the first fault from left to right.
use Rattle.std.specs.Prelude.{◌≡◌, ℕ, zero, suc, not, ◌||◌, ◌==◌, nat_lt, if◌then◌else◌, List, []}
use Rattle.std.specs.Prelude.{◌∷◌, ◌++◌, length, take, drop, slice_index, position, Option, Some}
use Rattle.std.specs.Prelude.{None, Result, Ok, Err}
use Rattle.std.specs.Int.{w32, w64}
use Rattle.std.specs.Str.{bytes_eq}
use Rattle.vab_bytes.specs.Number.{le_at}
use Rattle.vab_set.specs.declared.set.SetImage.{SetImage}
use Rattle.vab_set.specs.declared.fault.SetFault.{SetFault}
use Rattle.vab_set.specs.declared.fault.SetFault.TheVariants as faults
use Rattle.vab_names.specs.Names.{is_base, most_partitions}
use Rattle.vab_set.specs.Spelling.{magic}

infixl 10 ◌>>=◌
abbrev pub ◌>>=◌ : {A B : Type 0} → Result A SetFault → (A → Result B SetFault) → Result B SetFault
(Ok x) >>= f = f x
(Err e) >>= f = Err e

-- What a function returned, seen by view, is what reading gives, unless memory was refused.
abbrev pub Fails : {Y : Type 0} → SetFault → Result Y SetFault → Type 0
Fails faults.NoMemory read = Unit {0}
Fails e read = read ≡ Err e

abbrev pub Gives : {X Y : Type 0} → (X → Y) → Result X SetFault → Result Y SetFault → Type 0
Gives view (Ok x) read = read ≡ Ok (view x)
Gives view (Err e) read = Fails e read

-- ---- fields of an image: each is a value and the bytes after it

-- n bytes, all of them there
abbrev pub taken : ℕ → ℕ → List ℕ → Result (List ℕ × List ℕ) SetFault
taken image n bytes =
    if nat_lt (length bytes) n then Err (faults.Cut image) else Ok (take n bytes, drop n bytes)

unfoldable pub number_at : ℕ → List ℕ → Result (ℕ × List ℕ) SetFault
number_at image bytes =
    if nat_lt (length bytes) 8 then Err (faults.Cut image) else Ok (le_at w64 bytes 0, drop 8 bytes)

-- the name that a text is
abbrev pub base_of : List ℕ → Option (List ℕ)
base_of text = if is_base text then Some text else None

-- the first of the images that has this name
unfoldable pub first_named : List SetImage → List ℕ → Option ℕ
first_named images name = position (λ image. bytes_eq image.name name) images

-- a length, and as many bytes
unfoldable pub text_at : ℕ → List ℕ → Result (List ℕ × List ℕ) SetFault
text_at image bytes = do
  len ← taken image 1 bytes
  taken image (slice_index len.0 0) len.1

abbrev pub unless_first : ℕ → List ℕ → Option ℕ → Result (List ℕ) SetFault
unless_first image name None = Ok name
unless_first image name (Some first) = Err (faults.Repeated first image)

abbrev pub judged : List SetImage → Option (List ℕ) → Result (List ℕ) SetFault
judged images None = Err (faults.BadName (length images))
judged images (Some name) = unless_first (length images) name (first_named images name)

-- a name that none of these images has
unfoldable pub new_name : List SetImage → List ℕ → Result (List ℕ) SetFault
new_name images text = judged images (base_of text)

-- a number up to this one
unfoldable pub size_at : ℕ → ℕ → List ℕ → Result (ℕ × List ℕ) SetFault
size_at image most bytes = do
  size ← number_at image bytes
  if nat_lt most size.0 then Err (faults.TooBig image) else Ok size

-- the image behind these
unfoldable pub image_at : List SetImage → List ℕ → Result (SetImage × List ℕ) SetFault
image_at images bytes = do
  text ← text_at (length images) bytes
  name ← new_name images text.0
  size ← size_at (length images) 0x100_0000_0000 text.1
  store ← number_at (length images) size.1
  len ← size_at (length images) size.0 store.1
  content ← taken (length images) len.0 len.1
  Ok (record { name = name; size = size.0; store = store.0; bytes = content.0 }, content.1)

-- these images and so many more, and no bytes behind them
unfoldable pub images_at : ℕ → List SetImage → List ℕ → Result (List SetImage) SetFault
images_at zero images bytes = if length bytes == 0 then Ok images else Err faults.Trailing
images_at (suc n) images bytes = do
  image ← image_at images bytes
  images_at n (images ++ image.0 ∷ []) image.1

-- ---- the whole

unfoldable pub count_at : List ℕ → Result (ℕ × List ℕ) SetFault
count_at bytes =
    if nat_lt (length bytes) 8 || not (bytes_eq (take 8 bytes) magic) then Err faults.BadMagic else
    if nat_lt (length bytes) 12 then Err (faults.Cut 0) else
    if nat_lt most_partitions (le_at w32 bytes 8) then Err (faults.TooMany (le_at w32 bytes 8))
    else Ok (le_at w32 bytes 8, drop 12 bytes)

unfoldable pub set_of : List ℕ → Result (List SetImage) SetFault
set_of bytes = do
  count ← count_at bytes
  images_at count.0 [] count.1
