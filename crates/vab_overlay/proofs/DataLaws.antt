-- Blocks of a store that stay while others are written.
use Rattle.std.proofs.Common.{◌≡◌, ◌≢◌, inl, inr, ⊎_elim, ℕ, ◌<◌, List, length, refl, arith}
use Rattle.std.specs.Prelude.{slice_index, Option, Some, None}
use Rattle.vab_disk.specs.Disk.{Image}
use Rattle.vab_disk.specs.Calls.{InSectors, SameBut}
use Rattle.vab_store.specs.Layout.{chunk_bytes, IsApart, AreDisjoint}
use Rattle.vab_store.specs.Reached.{IsOfBlock}
use Rattle.vab_store.proofs.ChunkLaws.{apart_of, apart_sector, chunk_same}
use Rattle.vab_overlay.specs.Data.{IsZeroAt}

-- a sector of one of a store's blocks, of which P holds
pub record InBlock (store : List ℕ) (P : ℕ → Type 0) (s : ℕ) : Type 0 where
  pub block : ℕ
  pub within : block < length store
  pub here : IsOfBlock store block s
  pub is : P block

-- a block of the store that is none of them
pub block_kept : (store : List ℕ) (P : ℕ → Type 0) (old new : Image) (c : ℕ)
    → IsApart store
    → SameBut (InSectors (InBlock store P)) old new
    → c < length store
    → ((b : ℕ) → P b → c ≢ b)
    → chunk_bytes store new c ≡ chunk_bytes store old c
block_kept store P old new c apart but below other =
    chunk_same store old new c
    (λ s here.
    ⊎_elim (λ same. same)
    (λ (written : InBlock store P s).
    ⊎_elim
    (λ before. absurd (omega (arith, before, written.here.from)))
    (λ behind. absurd (omega (arith, behind, written.here.below)))
    (apart_sector (slice_index store c) (slice_index store written.block) s
    (apart_of store c written.block apart below written.within (other written.block written.is))
    here))
    (but s))

-- a block of a partition that has none of the store's
pub base_kept : (base store : List ℕ) (P : ℕ → Type 0) (old new : Image) (b : ℕ)
    → AreDisjoint base store
    → SameBut (InSectors (InBlock store P)) old new
    → b < length base
    → chunk_bytes base new b ≡ chunk_bytes base old b
base_kept base store P old new b disjoint but below =
    chunk_same base old new b
    (λ s here.
    ⊎_elim (λ same. same)
    (λ (written : InBlock store P s).
    ⊎_elim
    (λ before. absurd (omega (arith, before, written.here.from)))
    (λ behind. absurd (omega (arith, behind, written.here.below)))
    (apart_sector (slice_index base b) (slice_index store written.block) s
    (disjoint b written.block below written.within) here))
    (but s))

-- what is written there alone
pub but_wider : (store : List ℕ) (P : ℕ → Type 0) (W : ℕ → List ℕ → Type 0) (old new : Image)
    → ((s : ℕ) (b : List ℕ) → W s b → InBlock store P s)
    → SameBut W old new
    → SameBut (InSectors (InBlock store P)) old new
but_wider store P W old new wider but s =
    ⊎_elim (λ same. inl same) (λ written. inr (wider s (new s) written)) (but s)

-- the page that is zeroed, where there is one
abbrev pub IsThat : Option ℕ → ℕ → Type 0
IsThat next b = next ≡ Some b

pub some_in : (store : List ℕ) (next : Option ℕ) (s : ℕ) (x : List ℕ)
    → ((b : ℕ) → next ≡ Some b → b < length store)
    → IsZeroAt store next s x
    → InBlock store (IsThat next) s
some_in store None s x inside none = absurd none
some_in store (Some b) s x inside is = record {
  block = b;
  within = inside b refl;
  here = record { from = is.first; below = is.last };
  is = refl;
}
