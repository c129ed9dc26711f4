-- What a command makes of a device, beside what the machine makes of its state.
use Rattle.std.specs.Prelude.{◌≡◌, ℕ, List, Option}
use Rattle.vab_model.specs.declared.state.State.{State}
use Rattle.vab_model.specs.Commands.{Command}
use Rattle.vab_model.specs.Effects.{Effect, effect_map}
use Rattle.vab_model.specs.Machine.{machine_effect}
use Rattle.vab_device.specs.Mounted.{Mounted}
use Rattle.vab_device.specs.Updates.{effect_on}

abbrev pub state_of : Mounted → State
state_of m = m.state

-- the effect on the states of devices
abbrev pub on_states : Effect Mounted → Effect State
on_states e = effect_map state_of e

-- On each device the command's reply, the states of the devices that follow one another, and
-- whether memory may be refused are the machine's.
abbrev pub IsTheMachines : Command → Type 0
IsTheMachines c = (m : Mounted) (staged : Option (List ℕ))
    → on_states (effect_on m staged c) ≡ machine_effect m.state staged c
