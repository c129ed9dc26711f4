-- What a write of one sector makes of an image.
use Rattle.std.specs.Prelude.{◌≡◌, ◌≢◌, ℕ, List}
use Rattle.std.proofs.Common.{arith}
use Rattle.std.proofs.lemmas.Bool.Decides.{nat_tests}
use Rattle.vab_disk.specs.Disk.{Image, set_sector}

-- two images that agree at each sector are one
pub same_image : (a b : Image) → ((s : ℕ) → a s ≡ b s) → a ≡ b
same_image a b h = λ i s. h s i

-- the written sector, and another
pub set_here : (image : Image) (at : ℕ) (bytes : List ℕ) (s : ℕ)
    → s ≡ at
    → set_sector image at bytes s ≡ bytes
set_here image at bytes s is = grind (arith, nat_tests)

pub set_there : (image : Image) (at : ℕ) (bytes : List ℕ) (s : ℕ)
    → s ≢ at
    → set_sector image at bytes s ≡ image s
set_there image at bytes s is = grind (arith, nat_tests)
