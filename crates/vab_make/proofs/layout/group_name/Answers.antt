use Rattle.std.proofs.Common.{refl}
use Rattle.vab_bytes.specs.Name.{is_name}
use Rattle.vab_make.proofs.layout.group_name.Goals as goal

pub named-requires : goal.named-requires
unfolding is_name
named-requires c = refl
