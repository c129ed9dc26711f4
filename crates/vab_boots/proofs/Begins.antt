-- The begin of a merge leaves the target alone.
use Rattle.std.proofs.Common.{◌≡◌, ◌∙◌, ℕ, zero, suc, ◌<◌, Bool, true, false, eqb, List}
use Rattle.std.proofs.Common.{Option}
use Rattle.std.proofs.Common.{Some, None, refl, sym, ap, subst, arith}
use Rattle.std.proofs.lemmas.Bool.{eqb-false, not-true}
use Rattle.std.specs.Prelude.{not}
use Rattle.vab_disk.specs.Disk.{Image}
use Rattle.vab_bootctl.specs.Boot.{info_at}
use Rattle.vab_layout.specs.Slots.{other_slot}
use Rattle.vab_model.specs.declared.state.Image.{Image as ImageOfSlot}
use Rattle.vab_model.specs.declared.state.Phase.{Phase}
use Rattle.vab_model.specs.declared.state.Phase.TheVariants.{Idle, Installing, Staged, Merging}
use Rattle.vab_model.specs.declared.state.State.{State}
use Rattle.vab_model.specs.declared.command.Reply.TheVariants as replies
use Rattle.vab_model.specs.declared.command.Refusal.{Refusal}
use Rattle.vab_model.specs.declared.command.Refusal.TheVariants as refusals
use Rattle.vab_model.specs.Commands.{BeginMerge}
use Rattle.vab_model.specs.Effects.{Effect, after_of, does}
use Rattle.vab_model.specs.State.{images_at}
use Rattle.vab_model.specs.Machine.{without_images, unless, merging_from as merging_state}
use Rattle.vab_device.specs.Mounted.{Mounted}
use Rattle.vab_device.specs.Reading.{IsIn}
use Rattle.vab_device.specs.Updates.{effect_on, begin_merge_effect, merging_from}
use Rattle.vab_session.specs.Alone.{IsAlone}
use Rattle.vab_session.proofs.AloneLaws.{alone_boots}
use Rattle.vab_boots.specs.Boots.{worked_of, is_ready}
use Rattle.vab_boots.specs.Begun.{BeginsAlone}
use Rattle.vab_boots.proofs.Booting.{some_of}
use Rattle.vab_boots.proofs.Facts.{Facts, facts_of}

-- ---- a begin that is done

-- where this reply isn't a refusal the test held
pub tested : (b : Bool) (refusal : Refusal) (e : Effect State)
    → (unless b refusal e).reply ≡ replies.Done
    → (b ≡ true) × (e.reply ≡ replies.Done)
tested true refusal e done = (refl, done)
tested false refusal e done =
    absurd (let bad : replies.Refused refusal ≡ replies.Done = done in cc)

pub refused_not : {A : Type 0} (refusal : Refusal) → replies.Refused refusal ≡ replies.Done → A
refused_not refusal done = absurd cc

-- ---- the target

-- of the images of two slots those of the source are given up
keeps_target : (s : State) (source : ℕ)
    → source < 2
    → images_at (without_images s source) (other_slot source) ≡ images_at s (other_slot source)
keeps_target s zero below = refl
keeps_target s (suc zero) below = refl
keeps_target s (suc (suc n)) below = absurd (omega (arith, below))

lacks_source : (s : State) (source : ℕ)
    → source < 2
    → images_at (without_images s source) (other_slot (other_slot source)) ≡ None
lacks_source s zero below = refl
lacks_source s (suc zero) below = refl
lacks_source s (suc (suc n)) below = absurd (omega (arith, below))

from_alone : (m : Mounted) (source left : ℕ) (images : List ImageOfSlot)
    → source < 2
    → m.state.control.current ≡ other_slot source
    → images_at m.state (other_slot source) ≡ Some images
    → IsAlone (other_slot source) images (merging_from m source left)
from_alone m source left images below current has = record {
  below = omega (arith, below);
  current = current;
  has = keeps_target m.state source below ∙ has;
  other = lacks_source m.state source below;
  unready = refl;
}

-- where the current slot isn't the source and works, the merge begins
merge_begins : (m : Mounted) (source left : ℕ)
    → Facts m.state
    → m.state.phase ≡ Staged source left
    → (begin_merge_effect m (Staged source left)).reply ≡ replies.Done
    → BeginsAlone m (after_of m (begin_merge_effect m (Staged source left)))
merge_begins m source left facts phase done =
    let successful : Bool = (info_at m.state.control (other_slot source)).successful in
    let begins : Effect State = does replies.Done (merging_state m.state source left) in
    let runs : Bool = eqb m.state.control.current source in
    let other =
    tested (not runs) refusals.NotRunningTarget (unless successful refusals.NotSuccessful begins)
    done in
    let works = tested successful refusals.NotSuccessful begins other.1 in
    let current : runs ≡ false = not-true runs other.0 in
    let same
    : begin_merge_effect m (Staged source left) ≡ does replies.Done (merging_from m source left) =
    rw (current, works.0) refl in
    let worked : source ≡ facts.slot =
    sym (ap (λ (p : Phase). worked_of p m.state.control.current) phase) ∙ facts.worked in
    let ready : is_ready m.state.phase ≡ true = ap is_ready phase in
    let some = some_of (images_at m.state (other_slot facts.slot)) (facts.both ready) in
    let below : source < 2 = omega (arith, worked, facts.below) in
    let apart = eqb-false m.state.control.current source current in
    let at : m.state.control.current ≡ other_slot source =
    omega (arith, apart, below, facts.current_below) in
    let had : images_at m.state (other_slot source) ≡ Some some.0 =
    ap (λ (n : ℕ). images_at m.state (other_slot n)) worked ∙ some.1 in
    let alone = from_alone m source left some.0 below at had in
    subst (λ (e : Effect Mounted). BeginsAlone m (after_of m e)) (sym same) (record {
      source = source;
      left = left;
      was = phase;
      merging = refl;
      images = some.0;
      had = had;
      alone = alone;
      boots = alone_boots (other_slot source) some.0 (merging_from m source left) alone;
    })

begins_by : (m : Mounted) (phase : Phase)
    → Facts m.state
    → m.state.phase ≡ phase
    → (begin_merge_effect m phase).reply ≡ replies.Done
    → BeginsAlone m (after_of m (begin_merge_effect m phase))
begins_by m Idle facts is done = refused_not refusals.NotStaged done
begins_by m (Installing source plan) facts is done = refused_not refusals.NotStaged done
begins_by m (Staged source left) facts is done = merge_begins m source left facts is done
begins_by m (Merging target left) facts is done = refused_not refusals.NotStaged done

pub begins_alone : (size : ℕ) (image : Image) (m : Mounted) (staged : Option (List ℕ))
    → IsIn size m image
    → (effect_on m staged BeginMerge).reply ≡ replies.Done
    → BeginsAlone m (after_of m (effect_on m staged BeginMerge))
begins_alone size image m staged is done =
    begins_by m m.state.phase (facts_of size image m is) refl done
