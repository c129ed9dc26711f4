use Rattle.vab_partitions.proofs.OverlayLaws.{front_none, front_some}
use Rattle.vab_partitions.proofs.overlay.front_of.Goals as goal

pub returns-clause-none : goal.returns-clause-none
returns-clause-none c =
    front_none c.text.result.now c.args.name.now c.strip_suffix.result c.text.ensures.value
    c.strip_suffix.ensures.cases

pub returns-clause-some : goal.returns-clause-some
returns-clause-some c =
    front_some c.text.result.now c.args.name.now c.strip_suffix.result c.text.ensures.value
    c.strip_suffix.ensures.cases
