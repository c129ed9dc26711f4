use Rattle.std.proofs.Common.{◌≡◌, ℕ, ◌^◌, ◌<◌, List, take, refl, ap, ◌∙◌, subst, arith}
use Rattle.vab_bytes.specs.Crc.{crc_of}
use Rattle.vab_marks.specs.Sector.{sealed}
use Rattle.vab_marks.specs.Status.{status_front, status_spelling, status_of}
use Rattle.vab_marks.proofs.StatusLaws.{status_drawn, drawn_status, only_status}
use Rattle.vab_marks.proofs.status.encode_status.Goals as goal

-- what stands before the sum
front : (c : goal.After-seal) → take 508 c.put_le64.new.b ≡ status_front c.args.status.now
front c =
    let drawn : c.put_le64.new.b ≡ status_drawn c.args.status.now =
    rw (
      c.put_le64.ensures,
      c.put-3.ensures,
      c.text.ensures.value,
      c.count.ensures,
      c.put_le16.ensures,
      c.sectors.ensures,
      c.chunk.ensures,
      c.put-2.ensures,
      c.state.ensures,
      c.put.ensures,
      c.blank-bytes.ensures,
    ) refl in
    ap (λ (t : List ℕ). take 508 t) drawn ∙ drawn_status c.args.status.now c.text.ensures.name

spelled : (c : goal.After-seal) → c.seal.new.bytes ≡ status_spelling c.args.status.now
unfolding status_spelling
spelled c = c.seal.ensures.sealed ∙ ap sealed (front c)

pub returns-clause-spelled : goal.returns-clause-spelled
returns-clause-spelled c = spelled c

pub returns-clause-decoded : goal.returns-clause-decoded
returns-clause-decoded c =
    let P : List ℕ → Type 0 = λ t. crc_of t < 2 ^ 32 in
    let sum = subst P (front c) (omega (arith, c.seal.ensures.sum)) in
    ap status_of (spelled c) ∙ only_status c.args.status.now sum
    (record { name = c.text.ensures.name; count = omega arith })
