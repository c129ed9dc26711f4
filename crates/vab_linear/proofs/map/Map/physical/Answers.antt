use Rattle.std.proofs.Common.{◌∙◌}
use Rattle.std.proofs.lemmas.Result.{IfOk-weaker}
use Rattle.vab_linear.proofs.MapLaws.{one_run}
use Rattle.vab_linear.proofs.map.Map.physical.Goals as goal

pub returns : goal.returns
returns c =
    IfOk-weaker c.new.result _ _ (λ m is. is ∙ one_run c.args.first c.args.blocks) c.new.ensures
