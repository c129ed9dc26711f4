use Rattle.std.proofs.Common.{◌≡◌, take}
use Rattle.std.specs.Prelude.{map}
use Rattle.vab_model.specs.Machine.{final_image}
use Rattle.vab_machine.proofs.ready.final_images.Given as goal

abbrev pub invariant-loop-entry : goal.invariant-loop-entry
invariant-loop-entry l = l.images.items ≡ map (final_image l.source) (take l.entry-index l.plan)
