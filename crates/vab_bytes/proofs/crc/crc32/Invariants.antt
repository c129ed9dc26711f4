use Rattle.std.proofs.Common.{◌≡◌, take}
use Rattle.std.specs.Prelude.{fold}
use Rattle.vab_bytes.specs.Crc.{crc_byte}
use Rattle.vab_bytes.proofs.crc.crc32.Given as goal

abbrev pub invariant-loop-b : goal.invariant-loop-b
invariant-loop-b l = l.sum ≡ fold crc_byte 0xFFFF_FFFF (take l.b-index l.bytes)
