-- Blocks that are written over a partition, one after another, and what each block reads as then.
use Rattle.std.specs.Prelude.{◌≡◌, ℕ, ◌==◌, ◌<◌, if◌then◌else◌, List, [], ◌∷◌, length, All}
use Rattle.std.specs.List.{list_any}
use Rattle.vab_model.specs.declared.state.Image.{Image}
use Rattle.vab_model.specs.declared.state.Overlay.{Overlay}
use Rattle.vab_model.specs.Over.{written_over, blank_overlay}
use Rattle.vab_model.specs.Plans.{blocks_in}
use Rattle.vab_model.specs.Staged.{block_at}

-- what is written to a block
pub record BlockWrite : Type 0 where
  pub block : ℕ
  pub bytes : List ℕ

-- 4096 bytes to a block below so many
pub record IsWholeWrite (blocks : ℕ) (w : BlockWrite) : Type 0 where
  pub low : w.block < blocks
  pub long : length w.bytes ≡ 4096

-- the overlay after these writes
abbrev pub written_all : List BlockWrite → Overlay → Overlay
written_all [] o = o
written_all (w ∷ ws) o = written_all ws (written_over w.block w.bytes o)

-- the bytes of the last of these writes to a block, or those before them
abbrev pub last_written : List BlockWrite → (block : ℕ) → List ℕ → List ℕ
last_written [] block before = before
last_written (w ∷ ws) block before =
    last_written ws block (if w.block == block then w.bytes else before)

-- Over an image and any whole writes, each block reads as the last write to it, and else as the
-- image's; the bytes stay as many, and the blocks written over are those of the writes.
pub record ReadsAsWritten (image : Image) (writes : List BlockWrite) (o : Overlay) : Type 0 where
  pub reads : (block : ℕ)
      → block < blocks_in image.bytes
      → block_at o.bytes block ≡ last_written writes block (block_at image.bytes block)
  pub stays : length o.bytes ≡ length image.bytes
  pub written : (block : ℕ)
      → list_any (λ b. b == block) o.blocks ≡ list_any (λ (w : BlockWrite). w.block == block) writes

abbrev pub LastWriteIsRead : Type 0
LastWriteIsRead = (image : Image) (store : ℕ) (writes : List BlockWrite)
    → All (IsWholeWrite (blocks_in image.bytes)) writes
    → ReadsAsWritten image writes (written_all writes (blank_overlay image store))
