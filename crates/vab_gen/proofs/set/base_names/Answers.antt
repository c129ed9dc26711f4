use Rattle.std.proofs.Common.{refl}
use Rattle.vab_bytes.specs.Name.{is_name}
use Rattle.vab_names.specs.Names.{is_base}
use Rattle.vab_gen.proofs.set.base_names.Goals as goal

pub base_name-requires : goal.base_name-requires
unfolding is_base is_name
base_name-requires c = refl

pub base_name-requires-2 : goal.base_name-requires-2
unfolding is_base is_name
base_name-requires-2 c = refl

pub base_name-requires-3 : goal.base_name-requires-3
unfolding is_base is_name
base_name-requires-3 c = refl

pub base_name-requires-4 : goal.base_name-requires-4
unfolding is_base is_name
base_name-requires-4 c = refl
