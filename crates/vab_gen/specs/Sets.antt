-- Sets that are made of numbers drawn from a seed: those of an image come behind those of the image
-- before it.
use Rattle.std.specs.Prelude.{ℕ, ◌≤◌, ◌^◌, List, [], ◌∷◌, codes, All}
use Rattle.vab_set.specs.declared.set.SetImage.{SetImage}
use Rattle.vab_gen.specs.Images.{fresh_image, fresh_end, next_image, next_end}

-- ---- a set of numbers alone

abbrev pub base_names : List (List ℕ)
base_names = codes "odm" ∷ codes "product" ∷ codes "system" ∷ codes "vendor" ∷ []

unfoldable pub fresh_images : ℕ → ℕ → List (List ℕ) → List SetImage
fresh_images scale seed [] = []
fresh_images scale seed (name ∷ names) =
    fresh_image scale seed name ∷ fresh_images scale (fresh_end scale seed) names

unfoldable pub fresh_set : ℕ → ℕ → List SetImage
fresh_set scale seed = fresh_images scale seed base_names

-- ---- a set after an old one

unfoldable pub next_set : ℕ → ℕ → List SetImage → List SetImage
next_set scale seed [] = []
next_set scale seed (old ∷ set) =
    next_image scale seed old ∷ next_set scale (next_end scale seed old) set

-- each image has room to grow
abbrev pub HasRoom : List SetImage → Type 0
HasRoom set = All (λ image. image.size ≤ 2 ^ 39) set
