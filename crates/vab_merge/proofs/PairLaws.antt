-- A partition of blocks that follow one another, and its store behind it.
use Rattle.std.proofs.Common.{◌≡◌, ℕ, ◌+◌, ◌*◌, ◌≤◌, List, length, subst, sym, arith}
use Rattle.vab_space.specs.declared.Chunk.{Chunk}
use Rattle.vab_exceptions.specs.declared.area.Exception.{Exception}
use Rattle.vab_linear.specs.Map.{run_of}
use Rattle.vab_store.proofs.PartLaws.{run_long, run_on_disk, run_apart, runs_disjoint}
use Rattle.vab_store.specs.View.{Fits}
use Rattle.vab_merge.specs.Merged.{MayMerge, CanMerge}

-- a scan's exceptions are those of the partition
pub fits_base : (k : Chunk) (base store : List ℕ) (es : List Exception) (blocks : ℕ)
    → base ≡ run_of 0 blocks
    → Fits k blocks store es
    → Fits k (length base) store es
fits_base k base store es blocks is fits =
    subst (λ (n : ℕ). Fits k n store es) (sym (run_long base 0 blocks is)) fits

pub may_merge : (k : Chunk) (base store : List ℕ) (es : List Exception) (size blocks chunks : ℕ)
    → base ≡ run_of 0 blocks
    → store ≡ run_of (8 * blocks) chunks
    → 8 * (blocks + chunks) ≤ size
    → Fits k blocks store es
    → MayMerge k base store es size
may_merge k base store es size blocks chunks base_is store_is on_disk fits = record {
  fits = fits_base k base store es blocks base_is fits;
  base_on_disk = run_on_disk base 0 blocks size base_is (omega (arith, on_disk));
  store_on_disk = run_on_disk store (8 * blocks) chunks size store_is (omega (arith, on_disk));
}

pub can_merge : (k : Chunk) (base store : List ℕ) (es : List Exception) (size blocks chunks : ℕ)
    → base ≡ run_of 0 blocks
    → store ≡ run_of (8 * blocks) chunks
    → 8 * (blocks + chunks) ≤ size
    → Fits k blocks store es
    → CanMerge k base store es size
can_merge k base store es size blocks chunks base_is store_is on_disk fits = record {
  may = may_merge k base store es size blocks chunks base_is store_is on_disk fits;
  base_apart = run_apart base 0 blocks base_is;
  store_apart = run_apart store (8 * blocks) chunks store_is;
  disjoint = runs_disjoint base store 0 blocks (8 * blocks) chunks base_is store_is (omega arith);
}
