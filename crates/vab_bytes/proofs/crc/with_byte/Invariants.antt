use Rattle.std.proofs.Common.{◌≡◌, ◌-◌}
use Rattle.vab_bytes.specs.Crc.{crc_steps, crc_byte}
use Rattle.vab_bytes.proofs.crc.with_byte.Given as goal

-- the steps that are left make the sum that is wanted
abbrev pub invariant-loop : goal.invariant-loop
invariant-loop l = crc_steps (8 - l.counter) l.sum ≡ crc_byte l.fn.c l.fn.b
