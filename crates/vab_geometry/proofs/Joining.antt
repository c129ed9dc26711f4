-- Bytes put behind one another.
use Rattle.std.proofs.Common.{◌≡◌, ℕ, List, [], ◌++◌, length, drop, replicate, refl, sym, ◌∙◌, ap}
use Rattle.std.proofs.Common.{arith, append_assoc, length-append}
use Rattle.std.proofs.lemmas.List.{take_at, drop_at, drop-drop, drop-replicate}
use Rattle.vab_bytes.specs.Number.{put_at}

put_next : (front rest piece : List ℕ) (at : ℕ)
    → length front ≡ at
    → put_at (front ++ rest) at piece ≡ (front ++ piece) ++ drop (length piece) rest
put_next front rest piece at is =
    (λ i. (take_at front rest at is i ++ piece) ++ sym (drop-drop (length piece) at (front ++ rest))
    i)
    ∙ ap (λ (l : List ℕ). (front ++ piece) ++ drop (length piece) l) (drop_at front rest at is)

pub three : (a b c zeros : List ℕ)
    → length a ≡ 8
    → length b ≡ 32
    → length c ≡ 12
    → zeros ≡ replicate 512 0
    → put_at (put_at (put_at zeros 0 a) 8 b) 40 c ≡ (a ++ (b ++ c)) ++ replicate 460 0
three a b c zeros is_a is_b is_c is =
    let first : put_at zeros 0 a ≡ a ++ replicate 504 0 = put_next [] zeros a 0 refl
    ∙ (λ i. a ++ drop (is_a i) (is i)) ∙ ap (λ (l : List ℕ). a ++ l) (drop-replicate 8 512 0) in
    let second : put_at (a ++ replicate 504 0) 8 b ≡ (a ++ b) ++ replicate 472 0 =
    put_next a (replicate 504 0) b 8 is_a ∙ (λ i. (a ++ b) ++ drop (is_b i) (replicate 504 0))
    ∙ ap (λ (l : List ℕ). (a ++ b) ++ l) (drop-replicate 32 504 0) in
    let both : length (a ++ b) ≡ 40 = omega (arith, length-append a b) in
    let third : put_at ((a ++ b) ++ replicate 472 0) 40 c ≡ ((a ++ b) ++ c) ++ replicate 460 0 =
    put_next (a ++ b) (replicate 472 0) c 40 both
    ∙ (λ i. ((a ++ b) ++ c) ++ drop (is_c i) (replicate 472 0))
    ∙ ap (λ (l : List ℕ). ((a ++ b) ++ c) ++ l) (drop-replicate 12 472 0) in
    ap (λ (l : List ℕ). put_at (put_at l 8 b) 40 c) first
    ∙ ap (λ (l : List ℕ). put_at l 40 c) second
    ∙ third
    ∙ ap (λ (l : List ℕ). l ++ replicate 460 0) (append_assoc a b c)
