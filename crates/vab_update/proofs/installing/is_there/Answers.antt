use Rattle.vab_fbvars.proofs.OnDevice.{base_kept}
use Rattle.vab_update.proofs.installing.is_there.Goals as goal

pub returns : goal.returns
returns c = λ image.
    base_kept c.args.device.now image c.args.source c.args.name.now c.kept_part.result _
    c.kept_part.ensures c.is_some.ensures
