use Rattle.std.proofs.Common.{rules}
use Rattle.std.proofs.lemmas.Bool.Decides.{Decides-at}
use Rattle.vab_partitions.specs.Twins.{are_twins}
use Rattle.vab_partitions.proofs.TwinLaws.{twins_are}
use Rattle.vab_partitions.proofs.twins.has_twins.Goals as goal

pub returns-clause-exact : goal.returns-clause-exact
returns-clause-exact c =
    Decides-at c.are_twins.result
    (are_twins c.args.slot c.args.source.now.groups c.args.target.now.groups) (search rules)
    (twins_are c.args.slot c.args.source.now.groups c.args.target.now.groups)
