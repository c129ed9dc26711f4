-- Whether an installation may end, as the partitions and as the plan of the state say.
use Rattle.std.proofs.Common.{◌≡◌, ◌≢◌, ◌∙◌, ℕ, ◌+◌, true, List, [], ◌∷◌, refl, sym, ap}
use Rattle.std.specs.Prelude.{Option, Some, None, map, is_some}
use Rattle.std.proofs.lemmas.Bool.{cases_Bool}
use Rattle.std.specs.Ordering.{is_lt, nat_cmp}
use Rattle.std.specs.Cmp.Lexicographic.{slice_cmp}
use Rattle.std.proofs.Common.{inl, inr, false}
use Rattle.vab_disk.specs.Disk.{Image}
use Rattle.vab_marks.specs.declared.mark.MarkPhase.{MarkPhase}
use Rattle.vab_marks.specs.declared.mark.MarkPhase.TheVariants as marks
use Rattle.vab_model.specs.declared.state.Plan.{Plan}
use Rattle.vab_model.specs.declared.command.Refusal.TheVariants as refusals
use Rattle.vab_model.specs.Commands.{Finish}
use Rattle.vab_model.specs.Effects.{refuses}
use Rattle.vab_model.specs.Machine.{least_declared, declared_name, lesser}
use Rattle.vab_device.specs.declared.device.Part.{Part}
use Rattle.vab_device.specs.declared.device.PartImage.{PartImage}
use Rattle.vab_device.specs.declared.device.PartImage.TheVariants.{Kept, Declared, Written}
use Rattle.vab_device.specs.declared.device.Device.{Device}
use Rattle.vab_device.specs.Mounted.{Mounted, mounted_on, state_on, planned_on, entry_on, unplanned}
use Rattle.vab_device.specs.Mounted.{entries_on, phase_by, count_at}
use Rattle.vab_device.specs.Phases.{are_ready}
use Rattle.vab_device.specs.Updates.{effect_on, finish_effect, complete_effect}
use Rattle.vab_device.proofs.DoesLaws.{step_follows}
use Rattle.vab_finish.specs.Ready.{declared_by, declared_of, least_of, MayFinish}

-- ---- the least name

name_same : (image : Image) (least : Option (List ℕ)) (p : Part) (x : PartImage)
    → declared_name least p.name (planned_on image p x) ≡ declared_by least p.name x
name_same image least p Kept = refl
name_same image least p Declared = refl
name_same image least p (Written k es) = refl

pub least_same : (image : Image) (least : Option (List ℕ)) (ps : List Part)
    → least_declared least (map (entry_on image) ps) ≡ least_of least ps
least_same image least [] = refl
least_same image least (p ∷ ps) =
    ap (λ (l : Option (List ℕ)). least_declared l (map (entry_on image) ps))
    (name_same image least p p.image)
    ∙ least_same image (declared_of least p) ps

lesser_there : (least : Option (List ℕ)) (name : List ℕ) → is_some (lesser least name) ≡ true
lesser_there None name = refl
lesser_there (Some least) name = elim (cases_Bool (is_lt (slice_cmp nat_cmp name least))) [
  | inl lt ↦ rw lt refl
  | inr ge ↦ rw ge refl
]

kept_there : (least : Option (List ℕ)) (name : List ℕ) (x : PartImage)
    → is_some least ≡ true
    → is_some (declared_by least name x) ≡ true
kept_there least name Kept there = there
kept_there least name Declared there = lesser_there least name
kept_there least name (Written k es) there = there

-- a name that is found stays found
least_there : (least : Option (List ℕ)) (ps : List Part)
    → is_some least ≡ true
    → is_some (least_of least ps) ≡ true
least_there least [] there = there
least_there least (p ∷ ps) there =
    least_there (declared_of least p) ps (kept_there least p.name p.image there)

ready_step : (p : Part) (ps : List Part) (x : PartImage)
    → (least_of None ps ≡ None → are_ready ps ≡ true)
    → p.image ≡ x
    → least_of (declared_by None p.name x) ps ≡ None
    → are_ready (p ∷ ps) ≡ true
ready_step p ps Kept rest is none = rw is (rest none)
ready_step p ps Declared rest is none =
    let found : is_some (least_of (Some p.name) ps) ≡ true = least_there (Some p.name) ps refl in
    absurd (let no : true ≡ false = sym found ∙ ap is_some none in cc)
ready_step p ps (Written k es) rest is none = rw is (rest none)

-- where none is found, each partition is kept or written
pub ready_of : (ps : List Part) → least_of None ps ≡ None → are_ready ps ≡ true
ready_of [] none = refl
ready_of (p ∷ ps) none = ready_step p ps p.image (ready_of ps) refl none

-- ---- the effect

not_installing : (m : Mounted) (p : MarkPhase) (slot left : ℕ)
    → finish_effect m (unplanned p slot left) ≡ refuses refusals.NotInstalling
not_installing m marks.Idle slot left = refl
not_installing m marks.Installing slot left = refl
not_installing m marks.Staged slot left = refl
not_installing m marks.Merging slot left = refl
not_installing m marks.Completed slot left = refl

pub finish_nothing : (d : Device) (image : Image) (staged : Option (List ℕ))
    → d.plan ≡ None
    → effect_on (mounted_on d image) staged Finish ≡ refuses refusals.NotInstalling
unfolding state_on
finish_nothing d image staged none =
    let left : ℕ = count_at d.a + count_at d.b in
    ap
    (λ (o : Option (List Part)).
    finish_effect (mounted_on d image) (phase_by d.mark left (entries_on image o)))
    none
    ∙ not_installing (mounted_on d image) d.mark.phase d.mark.slot left

-- the plan with these partitions
abbrev pub plan_on : Device → Image → List Part → Plan
plan_on d image plan = record { apart = d.mark.apart; entries = map (entry_on image) plan }

finish_planned : (d : Device) (image : Image) (staged : Option (List ℕ)) (plan : List Part)
    → d.plan ≡ Some plan
    → effect_on (mounted_on d image) staged Finish
    ≡ complete_effect (mounted_on d image) d.mark.slot (plan_on d image plan)
    (least_declared None (map (entry_on image) plan))
unfolding state_on
finish_planned d image staged plan is = rw is refl

pub finish_by : (d : Device) (image : Image) (staged : Option (List ℕ)) (plan : List Part)
    (least : Option (List ℕ))
    → d.plan ≡ Some plan
    → least_of None plan ≡ least
    → effect_on (mounted_on d image) staged Finish
    ≡ complete_effect (mounted_on d image) d.mark.slot (plan_on d image plan) least
finish_by d image staged plan least is none =
    finish_planned d image staged plan is
    ∙ ap (complete_effect (mounted_on d image) d.mark.slot (plan_on d image plan))
    (least_same image None plan ∙ none)

-- an installation that may end has a device behind its end
pub finish_follows : (d : Device) (image : Image) (staged : Option (List ℕ))
    → MayFinish d
    → (effect_on (mounted_on d image) staged Finish).later ≢ []
finish_follows d image staged ready =
    step_follows (finish_by d image staged ready.plan None ready.plan_is ready.none)
