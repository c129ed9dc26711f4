-- Blocks and numbers one after another.
use Rattle.std.proofs.Common.{◌≡◌, ◌∙◌, ℕ, zero, suc, ◌+◌, ◌*◌, min, List, [], ◌∷◌, ◌++◌}
use Rattle.std.proofs.Common.{length, take, drop, replicate, refl, sym, ap, append-nil}
use Rattle.std.proofs.Common.{append_assoc, add-one, arith}
use Rattle.std.specs.List.{flat_map, range_with_len}
use Rattle.std.proofs.lemmas.Grind.{flat_map-append}
use Rattle.std.proofs.lemmas.List.{take_min, drop_min, drop-replicate}
use Rattle.vab_gen.specs.Draws.{draw, drawn}
use Rattle.vab_gen.specs.Blocks.{block_of, joined, copies}

range_more : (a n : ℕ) → range_with_len a (suc n) ≡ range_with_len a n ++ (a + n) ∷ []
range_more a zero = let e : a ≡ a + 0 = omega arith in ap (λ (k : ℕ). k ∷ []) e
range_more a (suc n) =
    let e : a + 1 + n ≡ a + suc n = omega arith in
    ap (λ (l : List ℕ). a ∷ l)
    (range_more (a + 1) n ∙ ap (λ (k : ℕ). range_with_len (a + 1) n ++ k ∷ []) e)

pub joined_none : (f : ℕ → List ℕ) → joined f 0 ≡ []
unfolding joined
joined_none f = refl

pub joined_more : (f : ℕ → List ℕ) (n : ℕ) → joined f (n + 1) ≡ joined f n ++ f n
unfolding joined
joined_more f n =
    let last : range_with_len 0 (n + 1) ≡ range_with_len 0 n ++ n ∷ [] =
    rw add-one
    (range_more 0 n
    ∙ (let e : 0 + n ≡ n = omega arith in
    ap (λ (k : ℕ). range_with_len 0 n ++ k ∷ []) e)) in
    ap (flat_map f) last
    ∙ flat_map-append f (range_with_len 0 n) (n ∷ [])
    ∙ ap (λ (l : List ℕ). joined f n ++ l) (append-nil (f n))

pub copies_none : (xs bytes : List ℕ) → xs ++ copies 0 bytes ≡ xs
unfolding copies
copies_none xs bytes = ap (λ (l : List ℕ). xs ++ l) (joined_none (λ i. bytes)) ∙ append-nil xs

pub copies_more : (n : ℕ) (xs bytes : List ℕ)
    → xs ++ copies (n + 1) bytes ≡ (xs ++ copies n bytes) ++ bytes
unfolding copies
copies_more n xs bytes =
    ap (λ (l : List ℕ). xs ++ l) (joined_more (λ i. bytes) n)
    ∙ sym (append_assoc xs (copies n bytes) bytes)

pub drawn_none : (x : ℕ) → drawn 0 x ≡ x
unfolding drawn
drawn_none x = refl

pub drawn_more : (n x : ℕ) → drawn (n + 1) x ≡ draw (drawn n x)
unfolding drawn
drawn_more n x = rw add-one refl

-- the bytes that there are, and zeros behind them
pub filled_up : (text rest : List ℕ) (k start n m : ℕ) (piece : List ℕ)
    → start ≡ min (4096 * k) (length text)
    → rest ≡ drop start text
    → n ≡ min 4096 (length rest)
    → piece ≡ take n rest
    → m ≡ length (take n rest)
    → piece ++ drop m (replicate 4096 0) ≡ block_of text k
filled_up text rest k start n m piece is_start is_rest is_n is is_m =
    let here : List ℕ = take 4096 (drop (4096 * k) text) in
    let from : rest ≡ drop (4096 * k) text =
    is_rest ∙ ap (λ (n : ℕ). drop n text) is_start ∙ drop_min (4096 * k) text in
    let front : take n rest ≡ here =
    ap (λ (n : ℕ). take n rest) is_n
    ∙ take_min 4096 rest
    ∙ ap (λ (l : List ℕ). take 4096 l) from in
    ap (λ (l : List ℕ). l ++ drop m (replicate 4096 0)) (is ∙ front)
    ∙ ap (λ (k' : ℕ). here ++ drop k' (replicate 4096 0)) (is_m ∙ ap length front)
    ∙ ap (λ (l : List ℕ). here ++ l) (drop-replicate (length here) 4096 0)
