-- The rows of commands that no table can refuse: the device's is the machine's, in other places.
use Rattle.std.proofs.Common.{◌≡◌, ℕ, List, [], ◌∷◌, Option, Some, None, refl}
use Rattle.std.specs.Prelude.{map}
use Rattle.vab_space.specs.declared.Chunk.{Chunk}
use Rattle.vab_model.specs.declared.state.Plan.{Plan}
use Rattle.vab_model.specs.declared.state.Phase.{Phase}
use Rattle.vab_model.specs.declared.state.Phase.TheVariants.{Idle, Installing, Staged, Merging}
use Rattle.vab_model.specs.declared.state.State.{State}
use Rattle.vab_model.specs.declared.command.Reply.TheVariants as replies
use Rattle.vab_model.specs.Commands.{SetActive, Boot, Mark, Print, Digest, Flash, Keep, Finish}
use Rattle.vab_model.specs.Commands.{Cancel, BeginMerge, Merge, OverlayWrite, OverlayDiscard}
use Rattle.vab_model.specs.Effects.{Effect, effect_map, does}
use Rattle.vab_model.specs.Machine.{machine_effect, finish_row, if_installing, least_missing}
use Rattle.vab_model.specs.Machine.{finished as finished_state, if_complete}
use Rattle.vab_model.specs.Machine.{merge_row, cancel_row, begin_merge_row}
use Rattle.vab_device.specs.Mounted.{Mounted, in_state}
use Rattle.vab_device.specs.Updates.{in_places, cancelled_places, merging_places}
use Rattle.vab_device.specs.Updates.{complete_effect, finish_effect}
use Rattle.vab_machine_laws.specs.Rows.{on_states, state_of, IsTheMachines}

states_back : (f : State → Mounted)
    → ((s : State) → (f s).state ≡ s)
    → (states : List State)
    → map state_of (map f states) ≡ states
states_back f back [] = refl
states_back f back (s ∷ ss) = (λ i. back s i ∷ states_back f back ss i)

-- the states of an effect in other places are its own
back : (f : State → Mounted)
    → ((s : State) → (f s).state ≡ s)
    → (e : Effect State)
    → on_states (effect_map f e) ≡ e
back f same e = (λ i. record {
  reply = e.reply;
  later = states_back f same e.later i;
  wants = e.wants;
})

-- ---- slots, images, a flash and a keep

pub set_active_row : (slot : ℕ) → IsTheMachines (SetActive slot)
set_active_row slot m staged =
    back (in_state m) (λ s. refl) (machine_effect m.state staged (SetActive slot))

pub boot_row : IsTheMachines Boot
boot_row m staged = back (in_state m) (λ s. refl) (machine_effect m.state staged Boot)

pub mark_row : IsTheMachines Mark
mark_row m staged = back (in_state m) (λ s. refl) (machine_effect m.state staged Mark)

pub print_row : (name : List ℕ) → IsTheMachines (Print name)
print_row name m staged =
    back (in_state m) (λ s. refl) (machine_effect m.state staged (Print name))

pub digest_row : (name : List ℕ) → IsTheMachines (Digest name)
digest_row name m staged =
    back (in_state m) (λ s. refl) (machine_effect m.state staged (Digest name))

pub flash_is : (name : List ℕ) (chunk : Chunk) → IsTheMachines (Flash name chunk)
flash_is name chunk m staged =
    back (in_state m) (λ s. refl) (machine_effect m.state staged (Flash name chunk))

pub keep_is : (name : List ℕ) → IsTheMachines (Keep name)
keep_is name m staged =
    back (in_state m) (λ s. refl) (machine_effect m.state staged (Keep name))

-- ---- writes over a partition

pub overlay_write_row : (block : ℕ) → IsTheMachines (OverlayWrite block)
overlay_write_row block m staged =
    back (in_state m) (λ s. refl) (machine_effect m.state staged (OverlayWrite block))

pub overlay_discard_row : IsTheMachines OverlayDiscard
overlay_discard_row m staged =
    back (in_state m) (λ s. refl) (machine_effect m.state staged OverlayDiscard)

-- ---- cancel, begin-merge and merge

pub cancel_is : IsTheMachines Cancel
unfolding machine_effect
cancel_is m staged =
    back (in_places (cancelled_places m.places m.state.phase)) (λ s. refl)
    (cancel_row m.state m.state.phase)

pub begin_merge_is : IsTheMachines BeginMerge
unfolding machine_effect
begin_merge_is m staged =
    back (in_places (merging_places m.places m.state.phase)) (λ s. refl)
    (begin_merge_row m.state m.state.phase)

pub merge_is : (count : ℕ) → IsTheMachines (Merge count)
unfolding machine_effect
merge_is count m staged =
    back (in_state m) (λ s. refl) (merge_row m.state count m.state.phase)

-- ---- finish

complete_same : (m : Mounted) (source : ℕ) (plan : Plan) (least : Option (List ℕ))
    → on_states (complete_effect m source plan least)
    ≡ if_complete least (does replies.Done (finished_state m.state source plan))
complete_same m source plan None = refl
complete_same m source plan (Some name) = refl

finish_same : (m : Mounted) (phase : Phase)
    → on_states (finish_effect m phase) ≡ if_installing phase (finish_row m.state)
finish_same m Idle = refl
finish_same m (Installing source plan) =
    complete_same m source plan (least_missing m.state source plan)
finish_same m (Staged source left) = refl
finish_same m (Merging target left) = refl

pub finish_is : IsTheMachines Finish
unfolding machine_effect
finish_is m staged = finish_same m m.state.phase
