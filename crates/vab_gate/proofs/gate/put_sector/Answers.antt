use Rattle.std.proofs.Common.{inr}
use Rattle.vab_disk.proofs.CallLaws.{touches_write, set_same_but}
use Rattle.vab_gate.proofs.gate.put_sector.Goals as goal

pub returns-in_err-write_sector-clause-touches : goal.returns-in_err-write_sector-clause-touches
returns-in_err-write_sector-clause-touches g c =
    touches_write g.D.Disk c.args.at c.args.from.now c.args.d.now c.write_sector.new.self
    c.write_sector.ensures.quiet
    (λ t. set_same_but _ _ _ _ (c.in_err-write_sector.ensures.failed t))
    c.write_sector.ensures.crash
    c.write_sector.ensures.time

pub returns-clause-touches : goal.returns-clause-touches
returns-clause-touches g c =
    touches_write g.D.Disk c.args.at c.args.from.now c.args.d.now c.write_sector.new.self
    c.write_sector.ensures.quiet
    (λ t. set_same_but _ _ _ _ (inr (c.in_ok-write_sector.ensures.written t)))
    c.write_sector.ensures.crash
    c.write_sector.ensures.time
