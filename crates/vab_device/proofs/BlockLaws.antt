-- Bytes of blocks whose sectors stay.
use Rattle.std.proofs.Common.{◌≡◌, inl, inr, ℕ, ◌+◌, List, [], ◌∷◌, ◌++◌, refl, arith}
use Rattle.vab_disk.specs.Disk.{Image}
use Rattle.vab_gate.specs.Gate.{sectors_at}
use Rattle.vab_gate.proofs.Blocks.{sectors_same}
use Rattle.vab_device.specs.Mounted.{bytes_at}
use Rattle.vab_device.specs.Reading.{IsOfBlocks}

pub bytes_same : (old new : Image) (blocks : List ℕ)
    → ((s : ℕ) → IsOfBlocks blocks s → new s ≡ old s)
    → bytes_at new blocks ≡ bytes_at old blocks
unfolding bytes_at
bytes_same old new [] same = refl
bytes_same old new (b ∷ bs) same =
    let here : sectors_at 8 new b ≡ sectors_at 8 old b =
    sectors_same 8 b old new
    (λ k below. same (b + k) (inl (record { from = omega arith; below = omega (arith, below) }))) in
    let rest = bytes_same old new bs (λ s is. same s (inr is)) in
    (λ i. here i ++ rest i)
