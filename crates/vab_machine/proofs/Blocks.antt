-- How many chunks of an image differ, and zeros behind an image.
use Rattle.std.proofs.Common.{◌≡◌, ℕ, zero, suc, ◌+◌, ◌-◌, ◌*◌, ◌^◌, ◌≤◌, ◌<◌, append_assoc}
use Rattle.std.proofs.Common.{Bool, true, false}
use Rattle.std.proofs.Common.{cond, List, [], ◌∷◌, ◌++◌}
use Rattle.std.proofs.Common.{length, refl, sym, ap, ◌∙◌, arith, length-append}
use Rattle.std.specs.Prelude.{replicate}
use Rattle.vab_space.specs.declared.Chunk.{Chunk}
use Rattle.vab_space.specs.declared.Chunk.TheVariants.{One, Two, Four}
use Rattle.vab_space.specs.Chunks.{blocks_in}
use Rattle.vab_space.proofs.DifferingLaws.{passing, passing_more}

abbrev pub bit : Bool → ℕ
bit b = cond b 1 0

length_cond : (b : Bool) (n : ℕ) → length (cond b (n ∷ []) []) ≡ bit b
length_cond true n = refl
length_cond false n = refl

-- one number more
pub passing_count : (test : ℕ → Bool) (n : ℕ)
    → length (passing test (n + 1)) ≡ length (passing test n) + bit (test n)
passing_count test n =
    ap length (passing_more test n)
    ∙ length-append (passing test n) (cond (test n) (n ∷ []) [])
    ∙ ap (λ (k : ℕ). length (passing test n) + k) (length_cond (test n) n)

-- so few chunks are blocks of 64 bits
pub need_fits : (k : Chunk) (n : ℕ) → n ≤ 2 ^ 28 → blocks_in k * n < 2 ^ 63
need_fits One n few = omega (arith, few)
need_fits Two n few = omega (arith, few)
need_fits Four n few = omega (arith, few)

more_last : (x n : ℕ) → replicate (suc n) x ≡ replicate n x ++ x ∷ []
more_last x zero = refl
more_last x (suc n) = ap (λ (l : List ℕ). x ∷ l) (more_last x n)

-- a zero more
pub zeros_more : (staged : List ℕ) (at : ℕ)
    → length staged ≤ at
    → staged ++ replicate {A = ℕ} (at + 1 - length staged) 0
    ≡ (staged ++ replicate {A = ℕ} (at - length staged) 0) ++ 0 ∷ []
zeros_more staged at le =
    let zero_byte : ℕ = 0 in
    let n : ℕ = at - length staged in
    let one : at + 1 - length staged ≡ suc n = omega (arith, le) in
    ap (λ (k : ℕ). staged ++ replicate k zero_byte) one
    ∙ ap (λ (l : List ℕ). staged ++ l) (more_last zero_byte n)
    ∙ sym (append_assoc staged (replicate n zero_byte) (zero_byte ∷ []))
