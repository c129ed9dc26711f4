use Rattle.std.proofs.Common.{rules}
use Rattle.std.proofs.lemmas.Bool.Decides.{Decides-at}
use Rattle.vab_partitions.specs.Twins.{are_devices}
use Rattle.vab_partitions.proofs.TwinLaws.{devices_are}
use Rattle.vab_partitions.proofs.twins.same_device.Goals as goal

pub returns-clause-exact : goal.returns-clause-exact
unfolding are_devices
returns-clause-exact c =
    Decides-at c.eq.result (are_devices c.args.a.now.devices c.args.b.now.devices) (search rules)
    (devices_are c.args.a.now.devices c.args.b.now.devices)
