use Rattle.std.proofs.Common.{◌≡◌, ℕ, ◌^◌, ◌<◌, List, take, refl, ap, ◌∙◌, subst, arith}
use Rattle.vab_bytes.specs.Crc.{crc_of}
use Rattle.vab_marks.specs.Sector.{sealed}
use Rattle.vab_marks.specs.declared.version.MarkVersion.TheVariants.{Two}
use Rattle.vab_marks.specs.Version.{version_in}
use Rattle.vab_marks.specs.Mark.{mark_front, mark_under, mark_spelling, mark_of}
use Rattle.vab_marks.proofs.MarkLaws.{mark_drawn, drawn_mark, only_mark, version_spelled}
use Rattle.vab_marks.proofs.mark.encode_mark.Goals as goal

-- what stands before the sum
front : (c : goal.After-seal) → take 508 c.put-2.new.bytes ≡ mark_front Two c.args.mark.now
front c =
    let drawn : c.put-2.new.bytes ≡ mark_drawn c.args.mark.now =
    rw (
      c.put-2.ensures,
      c.put.ensures,
      c.blank-bytes.ensures,
      c.to_byte.ensures,
      c.to_byte-2.ensures,
      c.physical_byte.ensures,
    ) refl in
    ap (λ (t : List ℕ). take 508 t) drawn ∙ drawn_mark c.args.mark.now

spelled : (c : goal.After-seal) → c.seal.new.bytes ≡ mark_spelling c.args.mark.now
unfolding mark_under
spelled c = c.seal.ensures.sealed ∙ ap sealed (front c)

pub returns-clause-spelled : goal.returns-clause-spelled
returns-clause-spelled c = spelled c

pub returns-clause-decoded : goal.returns-clause-decoded
returns-clause-decoded c =
    let P : List ℕ → Type 0 = λ t. crc_of t < 2 ^ 32 in
    let sum = subst P (front c) (omega (arith, c.seal.ensures.sum)) in
    ap mark_of (spelled c) ∙ only_mark Two c.args.mark.now sum c.requires

pub returns-clause-version : goal.returns-clause-version
returns-clause-version c = ap version_in (spelled c) ∙ version_spelled Two c.args.mark.now
