use Rattle.std.proofs.Common.{◌≡◌, ◌∙◌, Bool, true, None, sym, subst}
use Rattle.vab_layout.specs.Layout.{layout_of}
use Rattle.vab_device.specs.Kept.{HasNoStores}
use Rattle.vab_device.specs.Phases.{first_store}
use Rattle.vab_plan.proofs.NoStoreLaws.{first_store_none}
use Rattle.vab_recover.proofs.judge.judge_stores.Goals as goal

pub returns-in-None-clause-none : goal.returns-in-None-clause-none
returns-in-None-clause-none c =
    let parts = (layout_of c.args.table.now).parts in
    let none : first_store parts ≡ None = sym c.first_store.ensures ∙ c.in-None.is in
    let apart : c.args.apart ≡ true = c.if-not-apart.false in
    subst (λ (a : Bool). HasNoStores a parts) (sym apart) (first_store_none parts none)
