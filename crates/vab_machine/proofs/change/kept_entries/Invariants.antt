use Rattle.std.proofs.Common.{◌≡◌, take}
use Rattle.std.specs.Prelude.{map}
use Rattle.vab_model.specs.Plans.{kept_entry}
use Rattle.vab_machine.proofs.change.kept_entries.Given as goal

abbrev pub invariant-loop-image : goal.invariant-loop-image
invariant-loop-image l = l.entries.items ≡ map kept_entry (take l.image-index l.images)
