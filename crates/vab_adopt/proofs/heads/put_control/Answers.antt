use Rattle.std.proofs.Common.{◌∙◌, List, ℕ, refl, ap, sym, subst}
use Rattle.std.proofs.lemmas.Result.{on_ok_weaker}
use Rattle.vab_disk.specs.Disk.{Image}
use Rattle.vab_disk.proofs.CallLaws.{touches_reads, touches_then, touches_wider, wrote_here}
use Rattle.vab_disk.proofs.CallLaws.{wrote_there}
use Rattle.vab_adopt.specs.Adopted.{IsControlOf}
use Rattle.vab_adopt.proofs.SectorLaws.{control_written}
use Rattle.vab_adopt.proofs.heads.put_control.Goals as goal

pub returns-in_err-get_sector-clause-touches : goal.returns-in_err-get_sector-clause-touches
returns-in_err-get_sector-clause-touches g c = λ t.
    touches_reads g.D.Disk _ _ _ c.get_sector.ensures.reads

pub returns-clause-touches : goal.returns-clause-touches
returns-clause-touches g c = λ t.
    let old = g.D.Disk.seen c.args.d.now 4 in
    let is : IsControlOf c.args.slot old c.encode_control_into.new.bytes =
    control_written c.args.slot old c.get_sector.new.out c.blank.new.sector
    c.encode_control_into.new.bytes c.adopted_control.result (c.in_ok-get_sector.ensures.bytes t)
    c.blank.ensures c.adopted_control.ensures.is c.encode_control_into.ensures.decoded
    c.encode_control_into.ensures.rest in
    touches_then g.D.Disk _ _ _ _ (touches_reads g.D.Disk _ _ _ c.get_sector.ensures.reads)
    (touches_wider g.D.Disk _ _ _ _ c.put_gate.ensures.touches
    (λ s b at. (at.0, subst (λ (x : List ℕ). IsControlOf c.args.slot old x) (sym at.1) is)))

pub returns-clause-control : goal.returns-clause-control
returns-clause-control g c = λ t.
    let old = g.D.Disk.seen c.args.d.now 4 in
    let is : IsControlOf c.args.slot old c.encode_control_into.new.bytes =
    control_written c.args.slot old c.get_sector.new.out c.blank.new.sector
    c.encode_control_into.new.bytes c.adopted_control.result (c.in_ok-get_sector.ensures.bytes t)
    c.blank.ensures c.adopted_control.ensures.is c.encode_control_into.ensures.decoded
    c.encode_control_into.ensures.rest in
    on_ok_weaker c.put_gate.result
    (λ written.
    subst (λ (x : List ℕ). IsControlOf c.args.slot old x)
    (sym (wrote_here _ _ 4 _ written 4 refl)) is)
    (c.put_gate.ensures.written t)

pub returns-clause-others : goal.returns-clause-others
returns-clause-others g c = λ t.
    on_ok_weaker c.put_gate.result
    (λ written. λ s other.
    wrote_there _ _ 4 _ written s other
    ∙ ap (λ (i : Image). i s) (c.get_sector.ensures.reads.seen t))
    (c.put_gate.ensures.written t)
