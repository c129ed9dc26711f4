use Rattle.std.proofs.Common.{◌≡◌, ℕ, List, ap, sym, subst, rules}
use Rattle.vab_adopt.specs.declared.fault.AdoptFault.TheVariants.{AlreadyDevice, NoDevice}
use Rattle.vab_cli.specs.declared.status.Status.{Status}
use Rattle.vab_cli.specs.Adopting.{adopt_line}
use Rattle.vab_cli.specs.Telling.{Tells}
use Rattle.vab_cli.proofs.Adoptings.{none_told}
use Rattle.vab_cli.proofs.adopting.tell_unadopted.Goals as goal

pub returns-in-AlreadyDevice-clause-tells : goal.returns-in-AlreadyDevice-clause-tells
returns-in-AlreadyDevice-clause-tells g c = λ t loud.
    let is : c.args.fault ≡ AlreadyDevice = search rules in
    subst
    (λ (x : Status).
    Tells g.P.Disk (adopt_line c.args.fault) x c.args.port.now c.tell.new.port c.tell.result)
    c.from-status.ensures
    (subst
    (λ (l : List ℕ).
    Tells g.P.Disk l c.from-status.result c.args.port.now c.tell.new.port c.tell.result)
    (ap adopt_line (sym is)) (c.tell.ensures.tells t))

pub returns-in-NoDevice-clause-tells : goal.returns-in-NoDevice-clause-tells
returns-in-NoDevice-clause-tells g c = λ t loud.
    let is : c.args.fault ≡ NoDevice c.in-NoDevice.field-0 = search rules in
    let told = c.tell-in-NoDevice in
    subst
    (λ (x : Status).
    Tells g.P.Disk (adopt_line c.args.fault) x c.args.port.now told.new.port told.result)
    c.from-status.ensures
    (subst
    (λ (l : List ℕ).
    Tells g.P.Disk l c.from-status.result c.args.port.now told.new.port told.result)
    (none_told c.args.fault c.in-NoDevice.field-0 is loud) (told.ensures.tells t))
