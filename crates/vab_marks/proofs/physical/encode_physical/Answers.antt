use Rattle.std.proofs.Common.{◌≡◌, ℕ, ◌^◌, ◌<◌, List, take, refl, ap, ◌∙◌, subst, arith}
use Rattle.vab_bytes.specs.Crc.{crc_of}
use Rattle.vab_marks.specs.Sector.{sealed}
use Rattle.vab_marks.specs.Physical.{physical_front, physical_spelling, physical_of}
use Rattle.vab_marks.proofs.PhysicalLaws.{physical_drawn, drawn_physical, only_physical}
use Rattle.vab_marks.proofs.physical.encode_physical.Goals as goal

-- what stands before the sum
front : (c : goal.After-seal) → take 508 c.put_le64-2.new.b ≡ physical_front c.args.sizes.now
front c =
    let drawn : c.put_le64-2.new.b ≡ physical_drawn c.args.sizes.now =
    rw (
      c.put_le64-2.ensures,
      c.put_le64.ensures,
      c.put-2.ensures,
      c.put.ensures,
      c.blank-bytes.ensures,
    ) refl in
    ap (λ (t : List ℕ). take 508 t) drawn ∙ drawn_physical c.args.sizes.now

spelled : (c : goal.After-seal) → c.seal.new.bytes ≡ physical_spelling c.args.sizes.now
unfolding physical_spelling
spelled c = c.seal.ensures.sealed ∙ ap sealed (front c)

pub returns-clause-spelled : goal.returns-clause-spelled
returns-clause-spelled c = spelled c

pub returns-clause-decoded : goal.returns-clause-decoded
returns-clause-decoded c =
    let P : List ℕ → Type 0 = λ t. crc_of t < 2 ^ 32 in
    let sum = subst P (front c) (omega (arith, c.seal.ensures.sum)) in
    ap physical_of (spelled c) ∙ only_physical c.args.sizes.now sum c.requires
