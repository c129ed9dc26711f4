use Rattle.std.proofs.Common.{refl}
use Rattle.vab_bytes.specs.Name.{is_name}
use Rattle.vab_names.proofs.default_group.Goals as goal

pub joined-requires-clause-name : goal.joined-requires-clause-name
unfolding is_name
joined-requires-clause-name c = refl
