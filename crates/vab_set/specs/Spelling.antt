-- The bytes that spell a set of images.
use Rattle.std.specs.Prelude.{◌≢◌, ℕ, ◌<◌, ◌≤◌, ◌^◌, List, [], ◌∷◌, ◌++◌, length, IsTrue, All}
use Rattle.std.specs.Prelude.{AllPairs}
use Rattle.std.specs.Int.{w32, w64, to_le_bytes}
use Rattle.vab_names.specs.Names.{is_base, most_partitions}
use Rattle.vab_bytes.specs.Number.{IsBytes}
use Rattle.vab_set.specs.declared.set.SetImage.{SetImage}

-- "VABSET1" and a line feed
abbrev pub magic : List ℕ
magic = 86 ∷ 65 ∷ 66 ∷ 83 ∷ 69 ∷ 84 ∷ 49 ∷ 10 ∷ []

-- an image: its name with its length, three numbers, and its bytes
unfoldable pub image_text : SetImage → List ℕ
image_text image =
    length image.name ∷ image.name
    ++ to_le_bytes w64 image.size
    ++ to_le_bytes w64 image.store
    ++ to_le_bytes w64 (length image.bytes)
    ++ image.bytes

unfoldable pub images_text : List SetImage → List ℕ
images_text [] = []
images_text (image ∷ images) = image_text image ++ images_text images

unfoldable pub set_text : List SetImage → List ℕ
set_text images = magic ++ to_le_bytes w32 (length images) ++ images_text images

-- an image that has a spelling
pub record IsImage (image : SetImage) : Type 0 where
  pub name : IsTrue (is_base image.name)
  pub size : image.size ≤ 2 ^ 40
  pub store : image.store < 2 ^ 64
  pub bytes : IsBytes image.bytes
  pub short : length image.bytes ≤ image.size

-- a set that has a spelling: no more images than a slot has partitions, and no two have one name
pub record IsSet (images : List SetImage) : Type 0 where
  pub count : length images ≤ most_partitions
  pub each : All IsImage images
  pub names : AllPairs (λ a b. a.name ≢ b.name) images
