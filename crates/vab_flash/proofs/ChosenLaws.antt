-- What the table of effects says of a flash, by what is kept of the device.
use Rattle.std.proofs.Common.{◌≡◌, ◌∙◌, ℕ, zero, suc, ◌+◌, ◌<◌, ◌≤◌, true, false, List, []}
use Rattle.std.proofs.Common.{◌∷◌, refl, sym, subst, ap, length, get_or, inl, inr, arith}
use Rattle.std.specs.Prelude.{Bool, ◌==◌, Option, Some, None, map, All, nat_lt}
use Rattle.std.specs.Prelude.{if◌then◌else◌}
use Rattle.std.specs.Str.{bytes_eq}
use Rattle.std.proofs.lemmas.Bool.{cases_Bool, ltb-false}
use Rattle.std.proofs.lemmas.List.Elements.{All-head, All-tail}
use Rattle.std.proofs.lemmas.List.Quantifiers.{position-Some}
use Rattle.std.proofs.lemmas.List.Sums.{fails_before_first}
use Rattle.std.specs.List.{position_or_len}
use Rattle.vab_disk.specs.Disk.{Image}
use Rattle.vab_space.specs.declared.Chunk.{Chunk}
use Rattle.vab_names.specs.Names.{is_full, base_of}
use Rattle.vab_bootctl.specs.declared.slots.Control.{Control}
use Rattle.vab_marks.specs.declared.mark.MarkPhase.{MarkPhase}
use Rattle.vab_marks.specs.declared.mark.MarkPhase.TheVariants as marks
use Rattle.vab_layout.specs.declared.layout.Part.{Part as PartOfLayout}
use Rattle.vab_layout.specs.Slots.{other_slot}
use Rattle.vab_model.specs.declared.state.Phase.TheVariants.{Idle, Installing}
use Rattle.vab_model.specs.declared.state.Plan.{Plan}
use Rattle.vab_model.specs.declared.state.State.{State}
use Rattle.vab_model.specs.declared.command.Refusal.TheVariants as refusals
use Rattle.vab_model.specs.Commands.{Flash}
use Rattle.vab_model.specs.Effects.{refuses}
use Rattle.vab_model.specs.Plans.{entry_named, bytes_or_none}
use Rattle.vab_model.specs.State.{image_named}
use Rattle.vab_device.specs.declared.device.Part.{Part}
use Rattle.vab_device.specs.declared.device.Device.{Device}
use Rattle.vab_device.specs.Kept.{part_on, parts_at}
use Rattle.vab_device.specs.Mounted.{Mounted, state_on, mounted_on, entry_on, entries_on}
use Rattle.vab_device.specs.Mounted.{bytes_at, image_on, images_on}
use Rattle.vab_device.specs.Mounted.{sectors_read, count_at, unplanned, phase_by}
use Rattle.vab_device.specs.Flashed.{flash_effect, entry_effect, source_bytes}
use Rattle.vab_device.specs.Updates.{effect_on}
use Rattle.vab_device.proofs.FlashedLaws.{flash_by_blocks}
use Rattle.vab_flash.specs.declared.chosen.Destination.{Destination}
use Rattle.vab_flash.specs.Chosen.{effect_into}
use Rattle.vab_flash.specs.Chosen.{IsChosen, store_long}
use Rattle.vab_flash.specs.Chosen.{blocks_or, part_named, part_among, part_at}
use Rattle.vab_flash.specs.Place.{place_of, HasPlace, plan_or, planned_at, no_planned}

-- where nothing is planned no update is installed
unplanned_refuses : (m : Mounted) (staged : Option (List ℕ)) (name : List ℕ) (chunk : Chunk)
    (phase : MarkPhase) (slot left : ℕ)
    → flash_effect m staged name chunk (unplanned phase slot left) ≡ refuses refusals.NotInstalling
unplanned_refuses m staged name chunk marks.Idle slot left = refl
unplanned_refuses m staged name chunk marks.Installing slot left = refl
unplanned_refuses m staged name chunk marks.Staged slot left = refl
unplanned_refuses m staged name chunk marks.Merging slot left = refl
unplanned_refuses m staged name chunk marks.Completed slot left = refl

pub flash_idle : (d : Device) (image : Image) (staged : Option (List ℕ)) (name : List ℕ)
    (chunk : Chunk)
    → d.plan ≡ None
    → effect_on (mounted_on d image) staged (Flash name chunk) ≡ refuses refusals.NotInstalling
unfolding state_on
flash_idle d image staged name chunk none =
    flash_by_blocks (mounted_on d image) staged name chunk
    ∙ (λ k.
    flash_effect (mounted_on d image) staged name chunk
    (phase_by d.mark (count_at d.a + count_at d.b) (entries_on image (none k))))
    ∙ unplanned_refuses (mounted_on d image) staged name chunk d.mark.phase d.mark.slot
    (count_at d.a + count_at d.b)

-- the entries of a device, where nothing else is planned
abbrev pub plan_of_parts : Device → Image → List Part → Plan
plan_of_parts d image plan =
    record { apart = d.mark.apart; entries = map (entry_on image) plan }

-- the plan of a device
abbrev pub plan_on : Device → Image → Plan
plan_on d image = plan_of_parts d image (plan_or d.plan)

-- of a plan
pub flash_planned : (d : Device) (image : Image) (staged : Option (List ℕ)) (name : List ℕ)
    (chunk : Chunk) (plan : List Part)
    → d.plan ≡ Some plan
    → effect_on (mounted_on d image) staged (Flash name chunk)
    ≡ flash_effect (mounted_on d image) staged name chunk
    (Installing d.mark.slot (plan_of_parts d image plan))
unfolding state_on
flash_planned d image staged name chunk plan is =
    flash_by_blocks (mounted_on d image) staged name chunk
    ∙ (λ k.
    flash_effect (mounted_on d image) staged name chunk
    (phase_by d.mark (count_at d.a + count_at d.b) (entries_on image (is k))))

pub flash_named : (d : Device) (image : Image) (staged : Option (List ℕ)) (name : List ℕ)
    (chunk : Chunk) (plan : List Part)
    → d.plan ≡ Some plan
    → is_full (other_slot d.mark.slot) name ≡ true
    → effect_on (mounted_on d image) staged (Flash name chunk)
    ≡ entry_effect (mounted_on d image) d.mark.slot (plan_of_parts d image plan) chunk staged
    (entry_named (base_of name) (map (entry_on image) plan))
unfolding state_on
flash_named d image staged name chunk plan is full =
    flash_planned d image staged name chunk plan is
    ∙ (λ k.
    if full k
    then entry_effect (mounted_on d image) d.mark.slot (plan_of_parts d image plan) chunk staged
    (entry_named (base_of name) (map (entry_on image) plan))
    else refuses refusals.BadName)

pub flash_other : (d : Device) (image : Image) (staged : Option (List ℕ)) (name : List ℕ)
    (chunk : Chunk) (plan : List Part)
    → d.plan ≡ Some plan
    → is_full (other_slot d.mark.slot) name ≡ false
    → effect_on (mounted_on d image) staged (Flash name chunk) ≡ refuses refusals.BadName
unfolding state_on
flash_other d image staged name chunk plan is other =
    flash_planned d image staged name chunk plan is
    ∙ (λ k.
    if other k
    then entry_effect (mounted_on d image) d.mark.slot (plan_of_parts d image plan) chunk staged
    (entry_named (base_of name) (map (entry_on image) plan))
    else refuses refusals.BadName)

-- ---- the entry of a name

pub none_named : (image : Image) (base : List ℕ) (plan : List Part)
    → All (λ p. bytes_eq p.name base ≡ false) plan
    → entry_named base (map (entry_on image) plan) ≡ None
none_named image base [] all = refl
none_named image base (p ∷ ps) all =
    let other : bytes_eq p.name base ≡ false =
    All-head (λ p. bytes_eq p.name base ≡ false) p ps all in
    rw other (none_named image base ps (All-tail (λ p. bytes_eq p.name base ≡ false) p ps all))

pub first_named_entry : (image : Image) (base : List ℕ) (plan : List Part) (k : ℕ) (d : Part)
    → k < length plan
    → bytes_eq (get_or plan k d).name base ≡ true
    → ((j : ℕ) → j < k → bytes_eq (get_or plan j d).name base ≡ false)
    → entry_named base (map (entry_on image) plan) ≡ Some (entry_on image (get_or plan k d))
first_named_entry image base [] k d below is before = absurd (omega (arith, below))
first_named_entry image base (p ∷ ps) zero d below is before = rw is refl
first_named_entry image base (p ∷ ps) (suc k) d below is before =
    let other : bytes_eq p.name base ≡ false = before 0 (omega arith) in
    rw other (first_named_entry image base ps k d (omega (arith, below)) is
    (λ j lt. before (suc j) (omega (arith, lt))))

pub place_named : (image : Image) (base : List ℕ) (plan : List Part) (k : ℕ) (d : Part)
    → place_of base plan ≡ Some k
    → entry_named base (map (entry_on image) plan) ≡ Some (entry_on image (get_or plan k d))
place_named image base plan k d is =
    let at = position-Some (λ p. bytes_eq p.name base) plan k d is in
    first_named_entry image base plan k d at.0 at.1 at.2

all_fail : (base : List ℕ) (plan : List Part)
    → place_of base plan ≡ None
    → All (λ p. bytes_eq p.name base ≡ false) plan
all_fail base plan is =
    let test : Part → Bool = λ p. bytes_eq p.name base in
    elim (cases_Bool (nat_lt (position_or_len test plan) (length plan))) [
      | inl below ↦
          absurd (let bad : Some (position_or_len test plan) ≡ None = rw below at is in cc)
      | inr not_below ↦
          let past : length plan ≤ position_or_len test plan =
          ltb-false (position_or_len test plan) (length plan) not_below in
          λ k d lt. fails_before_first test plan k d (omega (arith, lt, past))
    ]

pub no_place : (image : Image) (base : List ℕ) (plan : List Part)
    → place_of base plan ≡ None
    → entry_named base (map (entry_on image) plan) ≡ None
no_place image base plan is =
    none_named image base plan (all_fail base plan is)

pub flash_unknown : (d : Device) (image : Image) (staged : Option (List ℕ)) (name : List ℕ)
    (chunk : Chunk) (plan : List Part)
    → d.plan ≡ Some plan
    → is_full (other_slot d.mark.slot) name ≡ true
    → place_of (base_of name) plan ≡ None
    → effect_on (mounted_on d image) staged (Flash name chunk) ≡ refuses refusals.Unknown
flash_unknown d image staged name chunk plan is full none =
    flash_named d image staged name chunk plan is full
    ∙ ap (entry_effect (mounted_on d image) d.mark.slot (plan_of_parts d image plan) chunk staged)
    (no_place image (base_of name) plan none)

-- of the partition at its place
pub flash_at : (d : Device) (image : Image) (staged : Option (List ℕ)) (name : List ℕ)
    (chunk : Chunk) (place : ℕ)
    → HasPlace d name place
    → effect_on (mounted_on d image) staged (Flash name chunk)
    ≡ entry_effect (mounted_on d image) d.mark.slot (plan_on d image) chunk
    staged
    (Some (entry_on image (planned_at d place)))
flash_at d image staged name chunk place has =
    let plan : List Part = has.plan in
    let is : plan_or d.plan ≡ plan = ap plan_or has.plan_is in
    let at_plan : effect_on (mounted_on d image) staged (Flash name chunk)
    ≡ entry_effect (mounted_on d image) d.mark.slot (plan_of_parts d image plan) chunk staged
    (Some (entry_on image (get_or plan place no_planned))) =
    flash_named d image staged name chunk plan has.plan_is has.full
    ∙ ap (entry_effect (mounted_on d image) d.mark.slot (plan_of_parts d image plan) chunk staged)
    (place_named image (base_of name) plan place no_planned has.place_is) in
    subst
    (λ (ps : List Part).
    effect_on (mounted_on d image) staged (Flash name chunk)
    ≡ entry_effect (mounted_on d image) d.mark.slot (plan_of_parts d image ps) chunk staged
    (Some (entry_on image (get_or ps place no_planned))))
    (sym is) at_plan

pub flash_chosen : (d : Device) (image : Image) (staged : Option (List ℕ)) (name : List ℕ)
    (chunk : Chunk) (place : ℕ) (to : Destination) (bytes : List ℕ)
    (chosen : IsChosen d name staged place to bytes)
    → effect_on (mounted_on d image) staged (Flash name chunk)
    ≡ effect_into to (mounted_on d image) d.mark.slot (plan_on d image)
    (entry_on image (planned_at d place)) (store_long d place) chunk bytes
flash_chosen d image staged name chunk place to bytes chosen =
    flash_at d image staged name chunk place chosen.has
    ∙ chosen.fits.effect (mounted_on d image) d.mark.slot (map (entry_on image) (plan_or d.plan))
    chunk image

-- ---- the source's image

-- a read of each of these partitions takes its own blocks
abbrev pub AreDirect : List Part → Type 0
AreDirect [] = Unit {0}
AreDirect (p ∷ ps) = (sectors_read p ≡ p.map) × AreDirect ps

abbrev pub AreAllDirect : Option (List Part) → Type 0
AreAllDirect None = Unit {0}
AreAllDirect (Some ps) = AreDirect ps

pub parts_direct : (at : ℕ) (ps : List PartOfLayout) → AreDirect (map (part_on at) ps)
parts_direct at [] = tt
parts_direct at (p ∷ ps) = (refl, parts_direct at ps)

named_bytes : (image : Image) (base : List ℕ) (ps : List Part)
    → AreDirect ps
    → bytes_or_none (image_named base (map (image_on image) ps))
    ≡ bytes_at image (blocks_or (part_named base ps))
unfolding bytes_at
named_bytes image base [] direct = refl
named_bytes image base (p ∷ ps) direct = elim (cases_Bool (bytes_eq p.name base)) [
  | inl here ↦ rw here (ap (bytes_at image) direct.0)
  | inr other ↦ rw other (named_bytes image base ps direct.1)
]

no_control : Control
no_control = record {
  current = 0;
  a = record { priority = 0; tries = 0; successful = false };
  b = record { priority = 0; tries = 0; successful = false };
}

no_state : State
no_state = record {
  cap = 0;
  groups = [];
  control = no_control;
  a = None;
  b = None;
  physical = [];
  phase = Idle;
  overlay = None;
}

among_bytes : (image : Image) (base : List ℕ) (o : Option (List Part))
    → AreAllDirect o
    → source_bytes (record no_state { a = images_on image o }) 0 base ≡ bytes_at image
    (blocks_or (part_among base o))
unfolding bytes_at
among_bytes image base None direct = refl
among_bytes image base (Some ps) direct = named_bytes image base ps direct

-- its bytes are those of its partition's blocks
pub source_is : (d : Device) (image : Image) (base : List ℕ)
    → AreAllDirect (parts_at d d.mark.slot)
    → source_bytes (state_on d image) d.mark.slot base
    ≡ bytes_at image (blocks_or (part_at d d.mark.slot base))
unfolding state_on
source_is d image base direct = elim (cases_Bool (d.mark.slot == 0)) [
  | inl a ↦ rw a (among_bytes image base d.a (rw a at direct))
  | inr b ↦ rw b (among_bytes image base d.b (rw b at direct))
]
