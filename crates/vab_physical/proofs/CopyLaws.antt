-- What a copy that has come so far leaves alone.
use Rattle.std.proofs.Common.{◌≡◌, ℕ, ◌<◌, List, length, inl, inr, arith}
use Rattle.vab_disk.specs.Disk.{Image}
use Rattle.vab_disk.specs.Calls.{InSectors, SameBut}
use Rattle.vab_store.specs.Layout.{AreDisjoint, InFirst, chunk_bytes}
use Rattle.vab_store.proofs.ChunkLaws.{apart_sector, chunk_same}

-- a block of a partition reads as before, where the sectors of another were written alone
pub other_same : (from to : List ℕ) (old new : Image) (i : ℕ)
    → AreDisjoint from to
    → SameBut (InSectors (InFirst to (length to))) old new
    → i < length from
    → chunk_bytes from new i ≡ chunk_bytes from old i
other_same from to old new i disjoint same below =
    chunk_same from old new i (λ s here. elim (same s) [
      | inl is ↦ is
      | inr w ↦ elim (apart_sector _ _ s (disjoint i w.block below w.within) here) [
        | inl before ↦ absurd (omega (arith, before, w.here.from))
        | inr behind ↦ absurd (omega (arith, behind, w.here.below))
      ]
    ])
