-- Numbers drawn one after another from a seed.
use Rattle.std.specs.Prelude.{ℕ, zero, suc, ◌+◌, ◌*◌, ◌%◌, ◌^◌}

-- the number behind this one
unfoldable pub draw : ℕ → ℕ
draw x = (6364136223846793005 * x + 1442695040888963407) % 2 ^ 64

-- the last of so many numbers behind this one
unfoldable pub drawn : ℕ → ℕ → ℕ
drawn zero x = x
drawn (suc n) x = draw (drawn n x)
