use Rattle.vab_machine_laws.proofs.SmallDevices.{devices_small}
use Rattle.vab_machine_laws.proofs.sizes.devices_are_small.Goals as goal

pub returns : goal.returns
returns c = devices_small
