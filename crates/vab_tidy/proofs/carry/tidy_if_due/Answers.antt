use Rattle.std.proofs.Common.{sym, subst}
use Rattle.std.specs.Prelude.{Option}
use Rattle.vab_tidy.specs.declared.prepared.Tidying.{Tidying}
use Rattle.vab_tidy.specs.Kept.{device_after}
use Rattle.vab_tidy.specs.Stays.{Stays}
use Rattle.vab_tidy.specs.Writes.{IsOfTidyings}
use Rattle.vab_tidy.proofs.carry.tidy_if_due.Goals as goal

pub returns-in-Some-clause-stays : goal.returns-in-Some-clause-stays
returns-in-Some-clause-stays g c =
    let d = c.args.device in
    subst
    (λ (x : Option Tidying).
    Stays g.D.Disk (IsOfTidyings d x) (device_after x d) c.args.d.now c.tidy.new.d c.tidy.result)
    (sym c.in-Some.is) c.tidy.ensures.stays
