-- Where an image goes, as the code says it.
use Rattle.std.specs.Prelude.{ℕ, List}
use Rattle.vab_model.specs.declared.state.Plan.{Plan}
use Rattle.vab_model.specs.declared.state.PlanEntry.{PlanEntry}
use Rattle.vab_model.specs.declared.state.State.{State}
use Rattle.vab_model.specs.declared.command.Reply.TheVariants as replies
use Rattle.vab_model.specs.Effects.{Effect, does}
use Rattle.vab_model.specs.Physical.{with_held}
use Rattle.vab_model.specs.Plans.{other_slot}
use Rattle.vab_model.specs.Machine.{in_place, in_store}
use Rattle.vab_machine.specs.declared.flash.Place.{Place}
use Rattle.vab_machine.specs.declared.flash.Place.TheVariants.{Blocks, Store, Behind}

abbrev pub placed : State → (source : ℕ) → Plan → PlanEntry → Place → List ℕ → Effect State
placed s source plan e Blocks image = in_place s source plan e image
placed s source plan e (Store store k) image = in_store s source plan e k store image
placed s source plan e Behind image =
    does replies.Done (with_held s (other_slot source) e.name image)
