-- Partitions whose blocks follow one another.
use Rattle.std.proofs.Common.{◌≡◌, ℕ, ◌+◌, ◌*◌, ◌/◌, ◌≤◌, ◌<◌, List, [], ◌∷◌, length, inl, ◌∙◌, ap}
use Rattle.std.proofs.Common.{arith}
use Rattle.std.specs.Prelude.{slice_index}
use Rattle.vab_linear.specs.Map.{run_of, blocks_of}
pub use Rattle.vab_linear.proofs.MapLaws.{one_run}
use Rattle.vab_linear.proofs.MapLaws.{length-run_of, run_of-at}
use Rattle.vab_store.specs.Layout.{IsOnDisk, IsApart, AreDisjoint}

pub run_long : (map : List ℕ) (first blocks : ℕ) → map ≡ run_of first blocks → length map ≡ blocks
run_long map first blocks is = ap length is ∙ length-run_of first blocks

run_at : (map : List ℕ) (first blocks i : ℕ)
    → map ≡ run_of first blocks
    → i < blocks
    → slice_index map i ≡ first + 8 * i
run_at map first blocks i is below =
    ap (λ (m : List ℕ). slice_index m i) is ∙ run_of-at first blocks i below

pub run_on_disk : (map : List ℕ) (first blocks size : ℕ)
    → map ≡ run_of first blocks
    → first + 8 * blocks ≤ size
    → IsOnDisk map size
run_on_disk map first blocks size is fits i below =
    let lt : i < blocks = omega (arith, below, run_long map first blocks is) in
    omega (arith, run_at map first blocks i is lt, lt, fits)

pub run_apart : (map : List ℕ) (first blocks : ℕ) → map ≡ run_of first blocks → IsApart map
run_apart map first blocks is i j order below =
    let lt : j < blocks = omega (arith, below, run_long map first blocks is) in
    let at_i = run_at map first blocks i is (omega (arith, order, lt)) in
    let at_j = run_at map first blocks j is lt in
    inl (omega (arith, at_i, at_j, order))

pub runs_disjoint : (a b : List ℕ) (first blocks other more : ℕ)
    → a ≡ run_of first blocks
    → b ≡ run_of other more
    → first + 8 * blocks ≤ other
    → AreDisjoint a b
runs_disjoint a b first blocks other more a_is b_is before i j i_below j_below =
    let i_lt : i < blocks = omega (arith, i_below, run_long a first blocks a_is) in
    let at_i = run_at a first blocks i a_is i_lt in
    let at_j =
    run_at b other more j b_is (omega (arith, j_below, run_long b other more b_is)) in
    inl (omega (arith, at_i, at_j, i_lt, before))
