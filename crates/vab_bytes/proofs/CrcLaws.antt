-- What callers need of sums.
use Rattle.std.proofs.Common.{ℕ, zero, suc, ◌/◌, ◌%◌, ◌^◌, ◌<◌, true, false, cond, eqb, List, []}
use Rattle.std.proofs.Common.{◌∷◌, arith, lit<}
use Rattle.std.specs.Prelude.{fold, bit_xor}
use Rattle.std.proofs.lemmas.Nat.{xor_lt}
use Rattle.vab_bytes.specs.Number.{IsBytes}
use Rattle.vab_bytes.specs.Crc.{crc_step, crc_steps, crc_byte, crc_of}

step_fits : (c : ℕ) → c < 2 ^ 32 → crc_step c < 2 ^ 32
step_fits c h =
    let half : c / 2 < 2 ^ 32 = omega arith in
    let added : bit_xor (c / 2) 0xEDB88320 < 2 ^ 32 = xor_lt 32 (c / 2) 0xEDB88320 half (lit< tt) in
    elim (eqb (c % 2) 1) as (λ t. cond t (bit_xor (c / 2) 0xEDB88320) (c / 2) < 2 ^ 32)
    [ true ↦ added | false ↦ half ]

steps_fit : (n c : ℕ) → c < 2 ^ 32 → crc_steps n c < 2 ^ 32
unfolding crc_steps
steps_fit zero c h = h
steps_fit (suc n) c h = steps_fit n (crc_step c) (step_fits c h)

fold_fits : (bytes : List ℕ) (c : ℕ) → IsBytes bytes → c < 2 ^ 32 → fold crc_byte c bytes < 2 ^ 32
fold_fits [] c b h = h
fold_fits (x ∷ xs) c b h =
    let first : x < 2 ^ 32 = omega (arith, b 0) in
    fold_fits xs (crc_byte c x) (λ i. b (suc i)) (steps_fit 8 (bit_xor c x) (xor_lt 32 c x h first))

-- the sum of bytes has 32 bits
pub crc_fits : (bytes : List ℕ) → IsBytes bytes → crc_of bytes < 2 ^ 32
unfolding crc_of
crc_fits bytes b =
    xor_lt 32 (fold crc_byte 0xFFFF_FFFF bytes) 0xFFFF_FFFF
    (fold_fits bytes 0xFFFF_FFFF b (lit< tt)) (lit< tt)
