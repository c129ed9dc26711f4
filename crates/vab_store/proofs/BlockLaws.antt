-- The blocks that a writer makes.
use Rattle.std.proofs.Common.{◌≡◌, ℕ, ◌-◌, ◌*◌, ◌≤◌, min, List, [], ◌++◌, length, take, drop}
use Rattle.std.proofs.Common.{replicate, inl, inr, sym, ◌∙◌, ap, arith}
use Rattle.std.proofs.lemmas.Bool.{cases_lt}
use Rattle.std.proofs.lemmas.List.{drop-replicate, length-take-le, take_all, drop_all}
use Rattle.vab_bytes.specs.Number.{field}
use Rattle.vab_space.specs.declared.Chunk.{Chunk}
use Rattle.vab_exceptions.specs.Header.{header_bytes}
use Rattle.vab_store.specs.Writing.{block_of, header_block}

pub header_whole : (k : Chunk) (size : ℕ) (front : List ℕ)
    → front ≡ header_bytes k
    → size ≡ 4096
    → front ++ drop 512 (replicate size 0) ≡ header_block k
unfolding header_block
header_whole k size front is all =
    let left : size - 512 ≡ 3584 = omega (arith, all) in
    ap (λ l. l ++ drop 512 (replicate size 0)) is
    ∙ ap (λ l. header_bytes k ++ l) (drop-replicate 512 size 0 ∙ ap (λ (n : ℕ). replicate n 0) left)

-- as much of a block as an image has, and zeros
pub block_whole : (size : ℕ) (image rest : List ℕ) (b count : ℕ)
    → size ≡ 4096
    → rest ≡ drop (4096 * b) image
    → count ≡ min (length rest) 4096
    → take count rest ++ drop count (replicate size 0) ≡ block_of image b
unfolding block_of
block_whole size image rest b count all from is =
    let same : take count rest ≡ take 4096 rest =
    elim (cases_lt 4096 (length rest)) [
      | inl more ↦ (let n : count ≡ 4096 = omega (arith, is, more) in ap (λ (k : ℕ). take k rest) n)
      | inr short ↦
          take_all count rest (omega (arith, is, short))
          ∙ sym (take_all 4096 rest short)
    ] in
    let long : count ≡ length (take 4096 rest) =
    sym (length-take-le count rest (omega (arith, is))) ∙ ap length same in
    let whole : take count rest ≡ field image (4096 * b) 4096 = same ∙ ap (take 4096) from in
    let left : size - count ≡ 4096 - length (field image (4096 * b) 4096) =
    omega (arith, all, long, ap length whole, ap length same) in
    (λ i. whole i ++ (drop-replicate count size 0 ∙ ap (λ (n : ℕ). replicate n 0) left) i)

-- a block behind the image's end
pub block_past : (size : ℕ) (image : List ℕ) (b : ℕ)
    → size ≡ 4096
    → length image ≤ 4096 * b
    → replicate size 0 ≡ block_of image b
unfolding block_of
block_past size image b all past =
    let none : drop (4096 * b) image ≡ [] = drop_all (4096 * b) image past in
    let empty : field image (4096 * b) 4096 ≡ [] = ap (take 4096) none in
    let left : size ≡ 4096 - length (field image (4096 * b) 4096) =
    omega (arith, all, ap length empty) in
    ap (λ (n : ℕ). replicate n 0) left
    ∙ ap (λ l. l ++ replicate (4096 - length (field image (4096 * b) 4096)) 0) (sym empty)
