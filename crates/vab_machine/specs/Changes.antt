-- What is made of an entry of a plan, as the code says it.
use Rattle.vab_model.specs.declared.state.PlanEntry.{PlanEntry}
use Rattle.vab_machine.specs.declared.change.Change.{Change}
use Rattle.vab_machine.specs.declared.change.Change.TheVariants.{Resize, Store, Write}
use Rattle.vab_model.specs.Plans.{resized_entry, stored_entry, written_entry}

abbrev pub change_of : Change → PlanEntry → PlanEntry
change_of (Resize blocks) = resized_entry blocks
change_of (Store size) = stored_entry size
change_of (Write bytes exceptions) = written_entry bytes.now exceptions
