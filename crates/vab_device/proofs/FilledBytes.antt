-- Staged bytes with zeros behind them, by blocks and as a whole.
use Rattle.std.proofs.Common.{◌≡◌, ◌∙◌, ℕ, zero, suc, ◌+◌, ◌-◌, ◌*◌, ◌≤◌, ◌<◌, List, [], ◌∷◌}
use Rattle.std.proofs.Common.{◌++◌, length, take, drop, refl, sym, ap}
use Rattle.std.proofs.Common.{arith, length-append, length-drop}
use Rattle.std.specs.Prelude.{replicate, not, ◌&&◌, nat_lt}
use Rattle.std.specs.List.{flat_map, range_with_len}
use Rattle.std.specs.Str.{bytes_eq}
use Rattle.std.proofs.Math.Seq.{take-add}
use Rattle.std.proofs.lemmas.List.{take-replicate, drop-replicate, drop-drop, take_all}
use Rattle.std.proofs.lemmas.List.{length-replicate}
use Rattle.vab_space.specs.declared.Chunk.{Chunk}
use Rattle.vab_space.proofs.DifferingLaws.{differing_same}
use Rattle.vab_store.specs.Writing.{block_of}
use Rattle.vab_model.specs.Plans.{blocks_in}
use Rattle.vab_model.specs.Staged.{filled, block_at, differs, differences}
use Rattle.vab_device.specs.Flashed.{is_other, differences as differences_of, filled as filled_of}

-- ---- zeros behind bytes

abbrev zeros : ℕ → List ℕ
zeros n = replicate {A = ℕ} n 0

take_zeros : (n m : ℕ) (ys : List ℕ)
    → n ≤ length ys + m
    → take n (ys ++ zeros m) ≡ take n ys ++ zeros (n - length (take n ys))
take_zeros zero m ys le = refl
take_zeros (suc n) m [] le =
    let z : ℕ = 0 in
    let all : suc n ≤ m = omega (arith, le) in
    let same : suc n ≡ suc n - 0 = omega arith in
    take-replicate (suc n) m z all ∙ ap zeros same
take_zeros (suc n) m (y ∷ ys) le =
    let less : n - length (take n ys) ≡ suc n - suc (length (take n ys)) = omega arith in
    ap (λ (l : List ℕ). y ∷ l) (take_zeros n m ys (omega (arith, le)))
    ∙ ap (λ (k : ℕ). (y ∷ take n ys) ++ zeros k) less

drop_zeros : (k m : ℕ) (xs : List ℕ)
    → drop k (xs ++ zeros m) ≡ drop k xs ++ zeros (m - (k - length xs))
drop_zeros zero m xs =
    let same : m ≡ m - (0 - length xs) = omega arith in
    ap (λ (n : ℕ). xs ++ zeros n) same
drop_zeros (suc k) m [] =
    let z : ℕ = 0 in
    let same : m - suc k ≡ m - (suc k - 0) = omega arith in
    drop-replicate (suc k) m z ∙ ap zeros same
drop_zeros (suc k) m (x ∷ xs) =
    let same : m - (k - length xs) ≡ m - (suc k - suc (length xs)) = omega arith in
    drop_zeros k m xs ∙ ap (λ (n : ℕ). drop k xs ++ zeros n) same

-- a block with zeros behind it is one of the bytes with zeros behind them
block_same : (staged : List ℕ) (blocks i : ℕ)
    → length staged ≤ 4096 * blocks
    → i < blocks
    → block_of staged i ≡ block_at (filled staged blocks) i
unfolding block_of
block_same staged blocks i le lt =
    let k : ℕ = 4096 * i in
    let m : ℕ = 4096 * blocks - length staged in
    let long : 4096 ≤ length (drop k staged) + (m - (k - length staged)) =
    omega (arith, length-drop k staged, le, lt) in
    sym (ap (take 4096) (drop_zeros k m staged)
    ∙ take_zeros 4096 (m - (k - length staged)) (drop k staged) long)

-- ---- all blocks

pieces : (t : List ℕ) (a n : ℕ)
    → flat_map (block_at t) (range_with_len a n) ≡ take (4096 * n) (drop (4096 * a) t)
pieces t a zero = refl
pieces t a (suc n) =
    let next : 4096 * (a + 1) ≡ 4096 * a + 4096 = omega arith in
    let all : 4096 + 4096 * n ≡ 4096 * suc n = omega arith in
    ap (λ (l : List ℕ). block_at t a ++ l)
    (pieces t (a + 1) n
    ∙ ap (λ (k : ℕ). take (4096 * n) (drop k t)) next
    ∙ ap (take (4096 * n)) (sym (drop-drop 4096 (4096 * a) t)))
    ∙ sym (take-add 4096 (4096 * n) (drop (4096 * a) t))
    ∙ ap (λ (k : ℕ). take k (drop (4096 * a) t)) all

module _ (staged : List ℕ) (blocks : ℕ) (le : length staged ≤ 4096 * blocks) where
  abbrev t : List ℕ
  t = filled staged blocks

  blocks_same : (a n : ℕ)
      → a + n ≤ blocks
      → flat_map (block_of staged) (range_with_len a n) ≡ flat_map (block_at t) (range_with_len a n)
  blocks_same a zero within = refl
  blocks_same a (suc n) within =
      let here = block_same staged blocks a le (omega (arith, within)) in
      let rest = blocks_same (a + 1) n (omega (arith, within)) in
      (λ i. here i ++ rest i)

  long : length t ≡ 4096 * blocks
  long =
      let z : ℕ = 0 in
      omega (
        arith,
        length-append staged (replicate (4096 * blocks - length staged) z),
        length-replicate (4096 * blocks - length staged) z,
        le,
      )

  pub filled_same : filled_of staged blocks ≡ filled staged blocks
  filled_same =
      blocks_same 0 blocks (omega arith)
      ∙ pieces t 0 blocks
      ∙ take_all (4096 * blocks) t (omega (arith, long))

  -- ---- what differs

  other_same : (source : List ℕ) (i : ℕ)
      → i < blocks
      → is_other source staged i ≡ differs source t i
  other_same source i lt =
      ap (λ (b : List ℕ). not (nat_lt i (blocks_in source) && bytes_eq (block_at source i) b))
      (block_same staged blocks i le lt)

  pub differences_same : (k : Chunk) (source : List ℕ)
      → differences_of k source staged blocks ≡ differences k source t blocks
  differences_same k source =
      ap length
      (differing_same k (is_other source staged) (differs source t) blocks
      (λ i lt. other_same source i lt))
