use Rattle.std.proofs.Common.{◌≡◌, ℕ, ◌^◌, ◌<◌, List, take, refl, subst, arith}
use Rattle.vab_bytes.specs.Crc.{crc_of}
use Rattle.vab_bootctl.proofs.ControlLaws.{written, written_stands, written_keeps, written_is_read}
use Rattle.vab_bootctl.proofs.sector.encode_control_into.Goals as goal

is_written : (c : goal.After-put_le32)
    → c.put_le32.new.b ≡ written c.args.control.now c.args.bytes.now
is_written c = rw (c.put_le32.ensures, c.crc32-sum.ensures, c.write_fields.ensures) refl

pub returns-clause-stands : goal.returns-clause-stands
returns-clause-stands c = rw (is_written c)
    (written_stands c.args.control.now c.args.bytes.now c.told-bytes)

pub returns-clause-rest : goal.returns-clause-rest
returns-clause-rest c = rw (is_written c)
    (written_keeps c.args.control.now c.args.bytes.now c.told-bytes)

pub returns-clause-decoded : goal.returns-clause-decoded
returns-clause-decoded c =
    let sum : crc_of (take 28 c.write_fields.new.bytes) < 2 ^ 32 =
    rw (← c.crc32-sum.ensures) (omega (arith, c.crc32-sum.type_inv)) in
    let P : List ℕ → Type 0 = λ w. crc_of (take 28 w) < 2 ^ 32 in
    rw (is_written c) (written_is_read c.args.control.now c.args.bytes.now c.told-bytes c.requires
    (subst P c.write_fields.ensures sum))
