use Rattle.std.proofs.Common.{◌≡◌, List, ℕ, Result, Ok, ap, subst, ◌∙◌}
use Rattle.std.proofs.lemmas.Result.{on_ok_weaker}
use Rattle.vab_disk.proofs.CallLaws.{touches_reads, touches_then, touches_wider}
use Rattle.vab_bootctl.specs.declared.slots.Control.{Control}
use Rattle.vab_bootctl.specs.declared.sector.ControlFault.{ControlFault}
use Rattle.vab_bootctl.specs.Control.{control_of, KeepsRest}
use Rattle.vab_make.specs.Steps.{blanked}
use Rattle.vab_make.proofs.Parts.{has_control}
use Rattle.vab_make.proofs.control.put_control.Goals as goal

pub returns-in_err-get_sector-clause-touches : goal.returns-in_err-get_sector-clause-touches
returns-in_err-get_sector-clause-touches g c =
    touches_reads g.D.Disk _ _ _ c.get_sector.ensures.reads

pub returns-clause-touches : goal.returns-clause-touches
returns-clause-touches g c =
    touches_then g.D.Disk _ _ _ _ (touches_reads g.D.Disk _ _ _ c.get_sector.ensures.reads)
    (touches_wider g.D.Disk _ _ _ _ c.put_sector.ensures.touches (λ s b is. is.0))

pub returns-clause-control : goal.returns-clause-control
returns-clause-control g c = λ t.
    let bytes : List ℕ = c.encode_control_into.new.bytes in
    let was : c.blank.new.sector ≡ blanked (g.D.Disk.seen c.args.d.now 4) =
    c.blank.ensures ∙ ap blanked (c.in_ok-get_sector.ensures.bytes t) in
    on_ok_weaker c.put_sector.result
    (λ is.
    has_control (g.D.Disk.seen c.args.d.now) (g.D.Disk.seen c.get_sector.new.d)
    (g.D.Disk.seen c.put_sector.new.d) bytes is (c.get_sector.ensures.reads.seen t)
    (subst
    (λ (x : Control). (let r : Result Control ControlFault = Ok x in control_of bytes ≡ r))
    c.made_control.ensures c.encode_control_into.ensures.decoded)
    (subst (λ (l : List ℕ). KeepsRest l bytes) was c.encode_control_into.ensures.rest))
    (c.put_sector.ensures.written t)
