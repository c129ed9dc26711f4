-- An image in a partition's own blocks.
use Rattle.std.specs.Prelude.{◌≡◌, ℕ, ◌<◌, List}
use Rattle.vab_disk.specs.Disk.{Image}
use Rattle.vab_store.specs.Layout.{chunk_bytes}
use Rattle.vab_store.specs.Writing.{block_of}

-- each of the first so many blocks of a partition is that of the image, with zeros behind its end
abbrev pub HoldsImage : List ℕ → List ℕ → Image → (count : ℕ) → Type 0
HoldsImage map image disk count = (i : ℕ)
    → i < count
    → chunk_bytes map disk i ≡ block_of image i
