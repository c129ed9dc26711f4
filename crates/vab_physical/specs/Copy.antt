-- One partition holds what another held.
use Rattle.std.specs.Prelude.{◌≡◌, ℕ, ◌<◌, List}
use Rattle.vab_disk.specs.Disk.{Image}
use Rattle.vab_store.specs.Layout.{chunk_bytes}

-- each of the first so many blocks of the one reads now as that of the other did
abbrev pub HoldsCopy : (from to : List ℕ) → (old new : Image) → (count : ℕ) → Type 0
HoldsCopy from to old new count = (i : ℕ)
    → i < count
    → chunk_bytes to new i ≡ chunk_bytes from old i
