-- The bytes of a partition of which one block is another, and the blocks that are written.
use Rattle.std.proofs.Common.{◌≡◌, ◌≢◌, ◌∙◌, inl, inr, ℕ, zero, suc, ◌+◌, ◌-◌, ◌*◌, ◌≤◌, ◌<◌, List}
use Rattle.std.proofs.Common.{[], ◌∷◌, ◌++◌, length, take, drop, refl, sym, ap, arith, map}
use Rattle.std.specs.Prelude.{◌==◌}
use Rattle.std.specs.List.{list_any}
use Rattle.std.proofs.lemmas.Bool.{cases_Bool, cases_eq, eqb-true}
use Rattle.std.proofs.lemmas.List.{append_assoc, length-append}
use Rattle.std.proofs.Math.Seq.{take-append-add, drop-append-add, drop-append_seam}
use Rattle.vab_bytes.specs.Number.{put_at}
use Rattle.vab_exceptions.specs.declared.area.Exception.{Exception}
use Rattle.vab_store.specs.Setting.{set_entry}
use Rattle.vab_model.specs.Over.{with_block}

-- ---- pieces one after another

-- the pieces from the one on, so many
unfoldable pub pieces : (ℕ → List ℕ) → (from count : ℕ) → List ℕ
pieces f n zero = []
pieces f n (suc k) = f n ++ pieces f (n + 1) k

pub pieces_same : (f g : ℕ → List ℕ) (n k : ℕ)
    → ((i : ℕ) → n ≤ i → i < n + k → g i ≡ f i)
    → pieces g n k ≡ pieces f n k
unfolding pieces
pieces_same f g n zero same = refl
pieces_same f g n (suc k) same =
    let here = same n (omega arith) (omega arith) in
    let rest = pieces_same f g (n + 1) k
    (λ i from below. same i (omega (arith, from)) (omega (arith, below))) in
    (λ i. here i ++ rest i)

pub pieces_long : (f : ℕ → List ℕ) (n k : ℕ)
    → ((i : ℕ) → n ≤ i → i < n + k → length (f i) ≡ 4096)
    → length (pieces f n k) ≡ 4096 * k
unfolding pieces
pieces_long f n zero long = refl
pieces_long f n (suc k) long =
    let here = long n (omega arith) (omega arith) in
    let rest = pieces_long f (n + 1) k
    (λ i from below. long i (omega (arith, from)) (omega (arith, below))) in
    omega (arith, length-append (f n) (pieces f (n + 1) k), here, rest)

-- behind the first bytes
put_behind : (x r : List ℕ) (k : ℕ) (from : List ℕ)
    → put_at (x ++ r) (length x + k) from ≡ x ++ put_at r k from
put_behind x r k from =
    let front = take-append-add x r k in
    let at : length x + k + length from ≡ length x + (k + length from) = omega arith in
    let back : drop (length x + k + length from) (x ++ r) ≡ drop (k + length from) r =
    ap (λ (n : ℕ). drop n (x ++ r)) at ∙ drop-append-add x r (k + length from) in
    (λ i. front i ++ from ++ back i)
    ∙ ap (λ (l : List ℕ). l ++ drop (k + length from) r) (append_assoc x (take k r) from)
    ∙ append_assoc x (take k r ++ from) (drop (k + length from) r)

-- in place of as many first bytes
put_first : (x r from : List ℕ) → length from ≡ length x → put_at (x ++ r) 0 from ≡ from ++ r
put_first x r from long =
    let at : 0 + length from ≡ length x = omega (arith, long) in
    ap (λ (n : ℕ). from ++ drop n (x ++ r)) at
    ∙ ap (λ (l : List ℕ). from ++ l) (drop-append_seam x r)

-- where one piece is another, of the same length
pub pieces_put : (f g : ℕ → List ℕ) (block : ℕ) (from : List ℕ) (n k : ℕ)
    → n ≤ block
    → block < n + k
    → length from ≡ 4096
    → ((i : ℕ) → n ≤ i → i < n + k → length (f i) ≡ 4096)
    → g block ≡ from
    → ((i : ℕ) → n ≤ i → i < n + k → i ≢ block → g i ≡ f i)
    → pieces g n k ≡ put_at (pieces f n k) (4096 * (block - n)) from
unfolding pieces
pieces_put f g block from n zero low high whole long here others =
    absurd (omega (arith, low, high))
pieces_put f g block from n (suc k) low high whole long here others = elim (cases_eq n block) [
  | inl same ↦
      let first : g n ≡ from = ap g same ∙ here in
      let rest : pieces g (n + 1) k ≡ pieces f (n + 1) k =
      pieces_same f g (n + 1) k
      (λ i after below. others i (omega (arith, after)) (omega (arith, below))
      (λ e. omega (arith, e, after, same))) in
      let at : 4096 * (block - n) ≡ 0 = omega (arith, same) in
      let equal : length from ≡ length (f n) =
      whole ∙ sym (long n (omega arith) (omega arith)) in
      (λ i. first i ++ rest i)
      ∙ sym (put_first (f n) (pieces f (n + 1) k) from equal)
      ∙ ap (λ (a : ℕ). put_at (f n ++ pieces f (n + 1) k) a from) (sym at)
  | inr other ↦
      let first : g n ≡ f n = others n (omega arith) (omega arith) other in
      let rest = pieces_put f g block from (n + 1) k (omega (arith, low, other))
      (omega (arith, high)) whole
      (λ i after below. long i (omega (arith, after)) (omega (arith, below)))
      here
      (λ i after below. others i (omega (arith, after)) (omega (arith, below))) in
      let piece = long n (omega arith) (omega arith) in
      let at : 4096 * (block - n) ≡ length (f n) + 4096 * (block - (n + 1)) =
      omega (arith, piece, low, other) in
      (λ i. first i ++ rest i)
      ∙ sym (put_behind (f n) (pieces f (n + 1) k) (4096 * (block - (n + 1))) from)
      ∙ ap (λ (a : ℕ). put_at (f n ++ pieces f (n + 1) k) a from) (sym at)
]

-- ---- the blocks that are written

abbrev olds : List Exception → List ℕ
olds es = map (λ (e : Exception). e.old_chunk) es

-- with a block's exception they are those with that block, each once
pub blocks_set : (es : List Exception) (block chunk : ℕ)
    → olds (set_entry es block chunk) ≡ with_block block (olds es)
unfolding set_entry
blocks_set [] block chunk = refl
blocks_set (e ∷ es) block chunk = elim (cases_Bool (e.old_chunk == block)) [
  | inl here ↦
      rw here (ap (λ (b : ℕ). b ∷ olds es) (sym (eqb-true e.old_chunk block here)))
  | inr other ↦ elim (cases_Bool (list_any (λ b. b == block) (olds es))) [
    | inl there ↦
        let rest : olds (set_entry es block chunk) ≡ olds es =
        rw there at (blocks_set es block chunk) in
        rw (other, there) (ap (λ (l : List ℕ). e.old_chunk ∷ l) rest)
    | inr none ↦
        let rest : olds (set_entry es block chunk) ≡ olds es ++ block ∷ [] =
        rw none at (blocks_set es block chunk) in
        rw (other, none) (ap (λ (l : List ℕ). e.old_chunk ∷ l) rest)
  ]
]
