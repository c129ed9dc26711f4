-- What is written over a partition and read in its place.
use Rattle.std.specs.Prelude.{ℕ, ◌*◌, ◌==◌, if◌then◌else◌, List, [], ◌∷◌, ◌++◌, Option, Some, None}
use Rattle.std.specs.List.{list_any}
use Rattle.std.specs.Str.{bytes_eq}
use Rattle.vab_bytes.specs.Number.{put_at}
use Rattle.vab_model.specs.declared.state.Image.{Image}
use Rattle.vab_model.specs.declared.state.Overlay.{Overlay}

-- these blocks and this one, each once
abbrev pub with_block : ℕ → List ℕ → List ℕ
with_block block blocks =
    if list_any (λ b. b == block) blocks then blocks else blocks ++ block ∷ []

-- bytes with these in place of those of a block
abbrev pub put_block : (bytes : List ℕ) → (block : ℕ) → List ℕ → List ℕ
put_block bytes block from = put_at bytes (4096 * block) from

-- a block is written over the partition
abbrev pub written_over : (block : ℕ) → List ℕ → Overlay → Overlay
written_over block from o = record o {
  blocks = with_block block o.blocks;
  bytes = put_block o.bytes block from;
}

-- nothing is written yet to a store of so many blocks over an image
abbrev pub blank_overlay : Image → (store : ℕ) → Overlay
blank_overlay image store = record {
  name = image.name;
  store = store;
  blocks = [];
  bytes = image.bytes;
}

-- an image as it is read: what its overlay reads as, where it has one
abbrev pub read_over : Option Overlay → Image → Image
read_over None image = image
read_over (Some o) image =
    if bytes_eq o.name image.name then record image { bytes = o.bytes } else image
