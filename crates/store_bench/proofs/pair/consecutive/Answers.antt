use Rattle.std.proofs.Common.{◌∙◌}
use Rattle.std.proofs.lemmas.Result.{IfOk-weaker}
use Rattle.vab_store.proofs.PartLaws.{one_run}
use Rattle.store_bench.proofs.pair.consecutive.Goals as goal

pub returns : goal.returns
returns c =
    IfOk-weaker c.new.result _ _ (λ m is. is ∙ one_run c.args.first c.args.blocks) c.new.ensures
