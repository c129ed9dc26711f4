-- One block more.
use Rattle.std.proofs.Common.{◌≡◌, ℕ, ◌+◌, ◌<◌, List, [], ◌∷◌, ◌++◌, length, get_or, take, refl}
use Rattle.std.proofs.Common.{sym, ◌∙◌, ap, append_assoc}
use Rattle.std.proofs.lemmas.List.{take_more, append-nil}
use Rattle.vab_disk.specs.Disk.{Image}
use Rattle.vab_gate.specs.Gate.{sectors_at}
use Rattle.vab_device.specs.Mounted.{bytes_at}

pub bytes_append : (image : Image) (xs ys : List ℕ)
    → bytes_at image (xs ++ ys) ≡ bytes_at image xs ++ bytes_at image ys
unfolding bytes_at
bytes_append image [] ys = refl
bytes_append image (x ∷ xs) ys = ap (λ (l : List ℕ). sectors_at 8 image x ++ l)
    (bytes_append image xs ys) ∙ sym (append_assoc (sectors_at 8 image x) (bytes_at image xs)
    (bytes_at image ys))

bytes_one : (image : Image) (s : ℕ) → bytes_at image (s ∷ []) ≡ sectors_at 8 image s
unfolding bytes_at
bytes_one image s = append-nil (sectors_at 8 image s)

pub bytes_none : (image : Image) → bytes_at image [] ≡ []
unfolding bytes_at
bytes_none image = refl

-- the bytes of one block more
pub bytes_more : (image : Image) (map : List ℕ) (i : ℕ)
    → i < length map
    → bytes_at image (take i map) ++ sectors_at 8 image (get_or map i 0)
    ≡ bytes_at image (take (i + 1) map)
bytes_more image map i lt =
    sym (ap (bytes_at image) (take_more map i 0 lt)
    ∙ bytes_append image (take i map) (get_or map i 0 ∷ [])
    ∙ ap (λ (l : List ℕ). bytes_at image (take i map) ++ l) (bytes_one image (get_or map i 0)))
