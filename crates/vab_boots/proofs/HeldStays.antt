-- The physical partitions of a slot with images hold what they held.
use Rattle.std.proofs.Common.{◌≡◌, ◌≢◌, ◌∙◌, ℕ, zero, suc, ◌<◌, inl, inr, Bool, true, false}
use Rattle.std.proofs.Common.{List, [], ◌∷◌, Option, Some, None, cond, eqb, refl}
use Rattle.std.proofs.Common.{sym, ap, subst, arith}
use Rattle.std.specs.Prelude.{All, is_some, map, nat_le, not, ◌^◌}
use Rattle.std.proofs.lemmas.Bool.{cases_Bool, eqb-true, eqb-false}
use Rattle.std.proofs.lemmas.List.Elements.{All-cons}
use Rattle.vab_bootctl.specs.declared.slots.Control.{Control}
use Rattle.vab_bootctl.specs.Boot.{activated_of, info_at}
use Rattle.vab_disk.specs.Disk.{Image}
use Rattle.vab_space.specs.declared.Chunk.{Chunk}
use Rattle.vab_layout.specs.Slots.{other_slot}
use Rattle.vab_super_image.specs.declared.image.SuperImage.{SuperImage}
use Rattle.vab_super_image.specs.SuperImage.{first_filled, super_image_of}
use Rattle.vab_model.specs.declared.state.Image.{Image as ImageOfSlot}
use Rattle.vab_model.specs.declared.state.Phase.{Phase}
use Rattle.vab_model.specs.declared.state.Phase.TheVariants.{Idle, Installing, Staged, Merging}
use Rattle.vab_model.specs.declared.state.Physical.{Physical}
use Rattle.vab_model.specs.declared.state.Plan.{Plan}
use Rattle.vab_model.specs.declared.state.PlanEntry.{PlanEntry}
use Rattle.vab_model.specs.declared.state.State.{State}
use Rattle.vab_model.specs.declared.command.Refusal.{Refusal}
use Rattle.vab_model.specs.declared.command.Refusal.TheVariants as refusals
use Rattle.vab_model.specs.declared.command.Reply.TheVariants as replies
use Rattle.vab_model.specs.Commands.{Command, SetActive, Boot, Mark, Print, Digest, Begin, Create}
use Rattle.vab_model.specs.Commands.{Resize, Delete, Snapshot, Flash, Finish, Cancel, BeginMerge}
use Rattle.vab_model.specs.Commands.{Merge, Factory, UpdateSuper, Overlay, OverlayWrite}
use Rattle.vab_model.specs.Commands.{OverlayDiscard, Keep}
use Rattle.vab_model.specs.Effects.{Effect, Found, Image_is, Refused_by, found_of, print_effect}
use Rattle.vab_model.specs.Effects.{digest_effect, active_effect, effect_map, IsOneOf, after_of}
use Rattle.vab_model.specs.Effects.{does, refuses, wanting}
use Rattle.vab_model.specs.Machine.{machine_effect, with_images, without_images, cancelled}
use Rattle.vab_model.specs.Machine.{merging_from, least_missing, least_blank, lesser, unless}
use Rattle.vab_model.specs.Machine.{least_declared, turns as turns_of, if_installing, keep_row}
use Rattle.vab_model.specs.Physical.{all_blank, held_by}
use Rattle.vab_model.specs.Staged.{is_sparse}
use Rattle.vab_model.specs.State.{images_at}
use Rattle.vab_model.specs.Wipe.{Judge, if_passing, filled_refusal, judged_effect, staged_effect}
use Rattle.vab_device.specs.Mounted.{Mounted, in_state}
use Rattle.vab_device.specs.Reading.{IsIn}
use Rattle.vab_device.specs.Updates.{effect_on, begin_effect, EditOf, Guard, edit_effect, no_guard}
use Rattle.vab_device.specs.Updates.{settled_guard, store_guard, create_edit, resize_edit}
use Rattle.vab_device.specs.Updates.{delete_edit, snapshot_edit, merge_effect, turns, in_places}
use Rattle.vab_device.specs.Updates.{complete_effect, finish_effect, finished, cancel_effect}
use Rattle.vab_device.specs.Updates.{cancelled_places, begin_merge_effect, merging_places, wiped}
use Rattle.vab_device.specs.Updates.{update_super}
use Rattle.vab_device.specs.Flashed.{flash_effect}
use Rattle.vab_device.proofs.FlashedLaws.{flash_by_blocks}
use Rattle.vab_session.proofs.OverlayLaws.{if_either, overlay_makes, write_makes, discard_makes}
use Rattle.vab_boots.specs.Boots.{is_ready, worked_of, worked_slot}
use Rattle.vab_boots.specs.Held.{held_at, IsSpared}
use Rattle.vab_boots.proofs.Beside.{blank_beside}
use Rattle.vab_boots.proofs.Begins.{refused_not}
use Rattle.vab_boots.proofs.Booting.{alone, works}
use Rattle.vab_boots.proofs.Keeping.{never_none}
use Rattle.vab_boots.proofs.Planned.{IsPlanned, begin_planned, edit_planned, flashes, keeps_by}

-- ---- states

-- images of a slot change nothing of them
with_same : (s : State) (slot : ℕ) (images : List ImageOfSlot)
    → (with_images s slot images).physical ≡ s.physical
with_same s slot images = elim (cases_Bool (eqb slot 0)) [
  | inl is ↦ rw is refl
  | inr b ↦ rw b refl
]

-- a slot that is dropped has no images
dropped : (s : State) (slot : ℕ) → images_at (without_images s slot) slot ≡ None
dropped s slot = elim (cases_Bool (eqb slot 0)) [
  | inl is ↦ rw is refl
  | inr b ↦ rw b refl
]

-- ---- steps

-- a slot that has images holds what it held
record StillHolds (m : Mounted) (slot : ℕ) (x : Mounted) : Type 0 where
  holds : is_some (images_at x.state slot) ≡ true
      → held_at x.state slot ≡ held_at m.state slot

module _ (m : Mounted) (slot : ℕ) (spared : IsSpared m.state slot) where
  abbrev Keeps : Mounted → Type 0
  Keeps = StillHolds m slot

  abbrev AreKept : List Mounted → Type 0
  AreKept ms = (x : Mounted) → IsOneOf ms x → Keeps x

  none : AreKept []
  none x is = absurd is

  more : (y : Mounted) (ms : List Mounted) → Keeps y → AreKept ms → AreKept (y ∷ ms)
  more y ms keeps are x (inl is) = subst Keeps (sym is) keeps
  more y ms keeps are x (inr later) = are x later

  one : (y : Mounted) → Keeps y → AreKept (y ∷ [])
  one y keeps = more y [] keeps none

  same : (x : Mounted) → x.state.physical ≡ m.state.physical → Keeps x
  same x is = record { holds = λ has. ap (map (held_by slot)) is }

  -- where no update is ready, the other slot than the one that has worked
  apart : (phase : Phase)
      → m.state.phase ≡ phase
      → is_ready phase ≡ false
      → slot ≢ other_slot (worked_of phase m.state.control.current)
  apart phase is unready at =
      let ready : is_ready m.state.phase ≡ false = ap is_ready is ∙ unready in
      let worked : slot ≡ worked_of phase m.state.control.current =
      spared.same ready ∙ ap (λ (p : Phase). worked_of p m.state.control.current) is in
      let below = spared.below in
      absurd (omega (arith, worked, at, below))

  -- ---- what changes the plan, and the target's

  planned : (x : Mounted) (source : ℕ) → slot ≢ other_slot source → IsPlanned source m x → Keeps x
  planned x source other by = record {
    holds = λ has.
        ap (λ (s : State). held_at s slot) by.state ∙ by.held slot spared.below other;
  }

  begins : (target_apart : Bool) (phase : Phase)
      → m.state.phase ≡ phase
      → AreKept (begin_effect m target_apart phase).later
  begins target_apart Idle is = λ x at.
      planned x _ (apart Idle is refl) (begin_planned m target_apart Idle x at)
  begins target_apart (Installing source plan) is = none
  begins target_apart (Staged source left) is = none
  begins target_apart (Merging target left) is = none

  edits : (guard : Guard) (edit : EditOf) (phase : Phase)
      → m.state.phase ≡ phase
      → AreKept (edit_effect m guard edit phase).later
  edits guard edit Idle is = none
  edits guard edit (Installing source plan) is = λ x at.
      planned x source (apart (Installing source plan) is refl)
      (edit_planned m guard edit (Installing source plan) x at)
  edits guard edit (Staged source left) is = none
  edits guard edit (Merging target left) is = none

  flashed : (staged : Option (List ℕ)) (name : List ℕ) (k : Chunk) (phase : Phase)
      → m.state.phase ≡ phase
      → AreKept (flash_effect m staged name k phase).later
  flashed staged name k Idle is = none
  flashed staged name k (Installing source plan) is = λ x at.
      planned x source (apart (Installing source plan) is refl)
      (flashes m staged name k (Installing source plan) is x at)
  flashed staged name k (Staged source left) is = none
  flashed staged name k (Merging target left) is = none

  kept : (name : List ℕ) (phase : Phase)
      → m.state.phase ≡ phase
      → AreKept (effect_map (in_state m) (if_installing phase (keep_row m.state name))).later
  kept name Idle is = none
  kept name (Installing source plan) is = λ x at.
      planned x source (apart (Installing source plan) is refl)
      (keeps_by m name (Installing source plan) is x at)
  kept name (Staged source left) is = none
  kept name (Merging target left) is = none

  -- ---- the end of an installation, and of an update

  completes : (source : ℕ) (plan : Plan) (o : Option (List ℕ))
      → AreKept (complete_effect m source plan o).later
  completes source plan None =
      let next : Mounted = finished m source plan in
      one next (same next (with_same m.state (other_slot source) _))
  completes source plan (Some name) = none

  finishes : (phase : Phase) → AreKept (finish_effect m phase).later
  finishes Idle = none
  finishes (Installing source plan) =
      completes source plan (least_missing m.state source plan)
  finishes (Staged source left) = none
  finishes (Merging target left) = none

  -- of a slot that is dropped nothing is left
  drops : (x : Mounted) (other : ℕ)
      → other < 2
      → images_at x.state slot ≡ images_at (without_images m.state other) slot
      → x.state.physical ≡ all_blank other m.state.physical
      → Keeps x
  drops x other other_below images physical = record {
    holds = λ has. elim (cases_Bool (eqb slot other)) [
      | inl is ↦
          let at : slot ≡ other = eqb-true slot other is in
          let gone : images_at x.state slot ≡ None =
          images
          ∙ subst (λ (n : ℕ). images_at (without_images m.state other) n ≡ None) (sym at)
          (dropped m.state other) in
          absurd (let no = rw gone at has in cc)
      | inr beside ↦
          ap (map (held_by slot)) physical
          ∙ blank_beside slot other spared.below other_below (eqb-false slot other beside)
          m.state.physical
    ];
  }

  unless_kept : (f : State → Mounted) (b : Bool) (refusal : Refusal) (row : Effect State)
      → AreKept (effect_map f row).later
      → AreKept (effect_map f (unless b refusal row)).later
  unless_kept f true refusal row are = are
  unless_kept f false refusal row are = none

  cancels : (phase : Phase) → AreKept (cancel_effect m phase).later
  cancels Idle = none
  cancels (Installing source plan) = one _ (drops _ (other_slot source) (omega arith) refl refl)
  cancels (Staged source left) =
      unless_kept (in_places (cancelled_places m.places (Staged source left)))
      (eqb m.state.control.current source) refusals.RunningTarget
      (does replies.Done (cancelled m.state source))
      (one _ (drops _ (other_slot source) (omega arith) refl refl))
  cancels (Merging target left) = none

  merge_begins : (phase : Phase)
      → m.state.phase ≡ phase
      → AreKept (begin_merge_effect m phase).later
  merge_begins Idle is = none
  merge_begins (Installing source plan) is = none
  merge_begins (Staged source left) is =
      let places : State → Mounted = in_places (merging_places m.places (Staged source left)) in
      let done : Effect State = does replies.Done (merging_from m.state source left) in
      let good : Bool = (info_at m.state.control (other_slot source)).successful in
      let below : source < 2 =
      subst (λ (p : Phase). worked_of p m.state.control.current < 2) is spared.worked in
      unless_kept places (not (eqb m.state.control.current source)) refusals.NotRunningTarget
      (unless good refusals.NotSuccessful done)
      (unless_kept places good refusals.NotSuccessful done
      (one _ (drops _ source below refl refl)))
  merge_begins (Merging target left) is = none

  turned : (count target left : ℕ) → AreKept (turns count m target left)
  unfolding turns_of
  turned zero target left = none
  turned (suc n) target zero = one _ (same _ refl)
  turned (suc n) target (suc left) = more _ _ (same _ refl) (turned n target left)

  merges : (count : ℕ) (phase : Phase) → AreKept (merge_effect m count phase).later
  merges count Idle = none
  merges count (Installing source plan) = none
  merges count (Staged source left) = none
  merges count (Merging target left) = turned count target left

  -- ---- a wipe

  passes : (o : Option Refusal) (next : Effect Mounted)
      → AreKept next.later
      → AreKept (if_passing o next).later
  passes None next are = are
  passes (Some refusal) next are = none

  judged : (before behind : Judge) (n : ℕ) (i : Option SuperImage)
      → AreKept (judged_effect before behind (wiped m n) i).later
  judged before behind n None = none
  judged before behind n (Some i) =
      let done : Effect Mounted = does replies.Done (wiped m n i) in
      let last : Effect Mounted = if_passing (behind i) done in
      passes (before i)
      (if_passing (filled_refusal (first_filled i.table.partitions)) last)
      (passes (filled_refusal (first_filled i.table.partitions)) last
      (passes (behind i) done
      (one (wiped m n i) (same (wiped m n i) (with_same m.state n _)))))

  either : (b : Bool) (e f : Effect Mounted)
      → AreKept e.later
      → AreKept f.later
      → AreKept (cond b e f).later
  either true e f first second = first
  either false e f first second = second

  wipes_staged : (before behind : Judge) (n : ℕ) (staged : Option (List ℕ))
      → AreKept (staged_effect before behind (wiped m n) n staged).later
  wipes_staged before behind n None = none
  wipes_staged before behind n (Some staged) =
      either (is_sparse staged) (refuses refusals.Sparse)
      (wanting true (judged_effect before behind (wiped m n) (super_image_of n staged))) none
      (judged before behind n (super_image_of n staged))

  wipes : (n : ℕ) (staged : Option (List ℕ)) (phase : Phase)
      → AreKept (update_super m n staged phase).later
  wipes n staged Idle = wipes_staged _ _ n staged
  wipes n staged (Installing source plan) = none
  wipes n staged (Staged source left) = none
  wipes n staged (Merging target left) = none

  -- ---- boot control and questions

  activates : (has : Bool) (c : Control)
      → AreKept (effect_map (in_state m) (active_effect has m.state c)).later
  activates true c = one _ (same _ refl)
  activates false c = none

  prints : (name : List ℕ) (f : Found)
      → AreKept (effect_map (in_state m) (print_effect name f)).later
  prints name (Image_is image) = none
  prints name (Refused_by refusal) = none

  digests : (f : Found) → AreKept (effect_map (in_state m) (digest_effect f)).later
  digests (Image_is image) = none
  digests (Refused_by refusal) = none

  -- ---- the commands

  holds_by : (staged : Option (List ℕ)) (c : Command) → AreKept (effect_on m staged c).later
  unfolding machine_effect
  holds_by staged (SetActive n) =
      activates (is_some (images_at m.state n)) (activated_of m.state.control n)
  holds_by staged Boot = one _ (same _ refl)
  holds_by staged Mark = one _ (same _ refl)
  holds_by staged (Print name) = prints name (found_of m.state name)
  holds_by staged (Digest name) = digests (found_of m.state name)
  holds_by staged Begin =
      if_either (λ e. AreKept e.later) m.state.overlay (begin_effect m false m.state.phase) none
      (begins false m.state.phase refl)
  holds_by staged Factory =
      if_either (λ e. AreKept e.later) m.state.overlay (begin_effect m true m.state.phase) none
      (begins true m.state.phase refl)
  holds_by staged (Create name size) =
      edits no_guard (create_edit name size) m.state.phase refl
  holds_by staged (Resize name size) =
      edits (settled_guard (nat_le size (2 ^ 40)) name) (resize_edit name size) m.state.phase refl
  holds_by staged (Delete name) =
      edits (settled_guard true name) (delete_edit name) m.state.phase refl
  holds_by staged (Snapshot name size) =
      edits store_guard (snapshot_edit name size) m.state.phase refl
  holds_by staged (Flash name chunk) =
      subst (λ (e : Effect Mounted). AreKept e.later)
      (sym (flash_by_blocks m staged name chunk))
      (flashed staged name chunk m.state.phase refl)
  holds_by staged (Keep name) = kept name m.state.phase refl
  holds_by staged Finish = finishes m.state.phase
  holds_by staged Cancel = cancels m.state.phase
  holds_by staged BeginMerge = merge_begins m.state.phase refl
  holds_by staged (Merge count) = merges count m.state.phase
  holds_by staged UpdateSuper =
      if_either (λ e. AreKept e.later) m.state.overlay
      (update_super m m.state.control.current staged m.state.phase) none
      (wipes m.state.control.current staged m.state.phase)
  holds_by staged (Overlay name size) =
      overlay_makes m AreKept none (λ o. one _ (same _ refl)) staged name size
  holds_by staged (OverlayWrite block) =
      write_makes m AreKept none (λ o. one _ (same _ refl)) staged block
  holds_by staged OverlayDiscard =
      discard_makes m AreKept none (λ o. one _ (same _ refl)) staged

pub spared_holds : (m next : Mounted) (staged : Option (List ℕ)) (c : Command) (slot : ℕ)
    → IsSpared m.state slot
    → IsOneOf (effect_on m staged c).later next
    → is_some (images_at next.state slot) ≡ true
    → held_at next.state slot ≡ held_at m.state slot
spared_holds m next staged c slot spared is = (holds_by m slot spared staged c next is).holds

-- ---- devices

pub each_is_spared : (size : ℕ) (image : Image) (m : Mounted) (slot : ℕ)
    → IsIn size m image
    → slot < 2
    → is_some (images_at m.state slot) ≡ true
    → IsSpared m.state slot
each_is_spared size image m slot is below has = record {
  below = below;
  worked = (works size image m is).below;
  same = λ unready.
      let stands = (alone size image m is unready).1 in
      elim (cases_Bool (eqb slot (worked_slot m.state))) [
        | inl here ↦ eqb-true slot (worked_slot m.state) here
        | inr beside ↦
            let other : slot ≢ worked_slot m.state = eqb-false slot (worked_slot m.state) beside in
            let worked_below = stands.below in
            let at : other_slot (worked_slot m.state) ≡ slot =
            omega (arith, below, worked_below, other) in
            let gone : images_at m.state slot ≡ None =
            subst (λ (n : ℕ). images_at m.state n ≡ None) at stands.other in
            absurd (let none_there = rw gone at has in cc)
      ];
}

-- ---- the end of an installation

still_less : (name other : List ℕ)
    → (least : List ℕ) × (lesser (Some name) other ≡ Some least)
still_less name other = by_test _
  where
    by_test : (b : Bool)
        → (least : List ℕ) × (cond b (Some other) (Some name) ≡ Some least)
    by_test true = (other, refl)
    by_test false = (name, refl)

never_less : (slot : ℕ) (name : List ℕ) (ps : List Physical)
    → least_blank slot (Some name) ps ≡ None
    → ⊥
never_less slot name [] gone = cc
never_less slot name (p ∷ ps) gone =
    by (λ n. never_less slot n ps) (is_some (held_by slot p)) gone
  where
    by : ((n : List ℕ) → least_blank slot (Some n) ps ≡ None → ⊥)
        → (holds : Bool)
        → least_blank slot (cond holds (Some name) (lesser (Some name) p.name)) ps ≡ None
        → ⊥
    by behind true gone = behind name gone
    by behind false gone =
        let some = still_less name p.name in
        behind some.0
        (sym (ap (λ (o : Option (List ℕ)). least_blank slot o ps) some.1) ∙ gone)

all_hold : (slot : ℕ) (ps : List Physical)
    → least_blank slot None ps ≡ None
    → All (λ (p : Physical). is_some (held_by slot p) ≡ true) ps
all_hold slot [] gone = λ k d lt. absurd (omega (arith, lt))
all_hold slot (p ∷ ps) gone =
    by (all_hold slot ps) (never_less slot p.name ps) (is_some (held_by slot p)) refl gone
  where
    by : (least_blank slot None ps ≡ None
        → All (λ (q : Physical). is_some (held_by slot q) ≡ true) ps)
        → (least_blank slot (Some p.name) ps ≡ None → ⊥)
        → (holds : Bool)
        → is_some (held_by slot p) ≡ holds
        → least_blank slot (cond holds None (lesser None p.name)) ps ≡ None
        → All (λ (q : Physical). is_some (held_by slot q) ≡ true) (p ∷ ps)
    by behind never true is gone =
        All-cons (λ (q : Physical). is_some (held_by slot q) ≡ true) p ps is (behind gone)
    by behind never false is gone = absurd (never gone)

none_blank : (o : Option (List ℕ)) (es : List PlanEntry) → least_declared o es ≡ None → o ≡ None
none_blank None es gone = refl
none_blank (Some name) es gone = absurd (never_none name es gone)

completed : (m : Mounted) (source : ℕ) (plan : Plan) (o : Option (List ℕ))
    → least_missing m.state source plan ≡ o
    → (complete_effect m source plan o).reply ≡ replies.Done
    → All (λ (p : Physical). is_some (held_by (other_slot source) p) ≡ true) m.state.physical
    × ((after_of m (complete_effect m source plan o)).state.physical ≡ m.state.physical)
completed m source plan None gone done = (
  all_hold (other_slot source) m.state.physical (none_blank _ plan.entries gone),
  with_same m.state (other_slot source) _,
)
completed m source plan (Some name) least done = refused_not (refusals.Incomplete name) done

pub finished_holds : (m : Mounted) (staged : Option (List ℕ)) (source : ℕ) (plan : Plan)
    → m.state.phase ≡ Installing source plan
    → (effect_on m staged Finish).reply ≡ replies.Done
    → All (λ (p : Physical). is_some (held_by (other_slot source) p) ≡ true) m.state.physical
    × ((after_of m (effect_on m staged Finish)).state.physical ≡ m.state.physical)
finished_holds m staged source plan is done =
    subst
    (λ (p : Phase). (finish_effect m p).reply ≡ replies.Done
    → All (λ (p : Physical). is_some (held_by (other_slot source) p) ≡ true) m.state.physical
    × ((after_of m (finish_effect m p)).state.physical ≡ m.state.physical))
    (sym is) (completed m source plan (least_missing m.state source plan) refl) done
