use Rattle.std.proofs.Common.{◌≡◌, ◌∙◌, ◌<◌, List, length, get_or, ap, sym, subst}
use Rattle.vab_device.specs.Stores.{scanned_named}
use Rattle.vab_plan.specs.declared.planning.Scan.{Scan}
use Rattle.vab_plan.specs.Scans.{scans_of}
use Rattle.vab_plan.proofs.PlanLaws.{exceptions_without}
use Rattle.vab_plan.proofs.planning.take.Goals as goal

pub returns-in-Some-clause-others : goal.returns-in-Some-clause-others
returns-in-Some-clause-others c = λ n differ.
    let here = c.in-Some.ensures.is c.remove.result in
    ap (λ (l : List Scan). scanned_named n (scans_of l)) c.remove.ensures.items
    ∙ exceptions_without n c.args.scans.now.items c.in-Some.at c.remove.result
    (subst (λ (l : List Scan). c.in-Some.at < length l) c.as_slice.ensures.value
    c.in-Some.ensures.within)
    (λ e. differ (sym e
    ∙ subst (λ (l : List Scan). (get_or l c.in-Some.at c.remove.result).name ≡ c.args.name.now)
    c.as_slice.ensures.value here))
