-- A slot as 0 or 1.
use Rattle.std.specs.Prelude.{ℕ, ◌==◌, if◌then◌else◌}

-- any but 0 is b
abbrev pub a_or_b : (slot : ℕ) → ℕ
a_or_b slot = if slot == 0 then 0 else 1
