-- The images of a slot: the end of an installation gives them, and other commands leave them.
use Rattle.std.proofs.Common.{◌≡◌, ◌∙◌, ℕ, zero, suc, ◌-◌, ◌⊎◌, inl, inr, Bool, true, false}
use Rattle.std.proofs.Common.{cond, eqb}
use Rattle.std.proofs.Common.{List, [], ◌∷◌, Option, Some, None, refl, sym}
use Rattle.std.proofs.Common.{ap}
use Rattle.std.proofs.Common.{subst, arith}
use Rattle.std.proofs.lemmas.Bool.{cases_Bool, eqb-true, eqb-false, eq-eqb, ne_eqb}
use Rattle.std.proofs.lemmas.List.Elements.{All-cons}
use Rattle.std.specs.Prelude.{All, map, is_some, nat_le, ◌^◌}
use Rattle.vab_bootctl.specs.declared.slots.Control.{Control}
use Rattle.vab_bootctl.specs.Boot.{activated_of}
use Rattle.vab_layout.specs.Slots.{other_slot}
use Rattle.vab_model.specs.declared.state.Image.{Image as ImageOfSlot}
use Rattle.vab_model.specs.declared.state.PlanImage.{PlanImage}
use Rattle.vab_model.specs.declared.state.PlanImage.TheVariants.{Kept, Declared, Written}
use Rattle.vab_model.specs.declared.state.PlanEntry.{PlanEntry}
use Rattle.vab_model.specs.declared.state.Plan.{Plan}
use Rattle.vab_model.specs.declared.state.Phase.{Phase}
use Rattle.vab_model.specs.declared.state.Phase.TheVariants.{Idle, Installing, Staged, Merging}
use Rattle.vab_model.specs.declared.state.State.{State}
use Rattle.vab_model.specs.declared.command.Refusal.TheVariants as refusals
use Rattle.vab_model.specs.declared.command.Reply.TheVariants as replies
use Rattle.vab_model.specs.Commands.{Command, SetActive, Boot, Mark, Print, Digest, Begin, Create}
use Rattle.vab_model.specs.Commands.{Resize, Delete, Snapshot, Flash, Finish, Cancel}
use Rattle.vab_model.specs.Commands.{Merge, Factory, Overlay, OverlayWrite, OverlayDiscard}
use Rattle.vab_model.specs.State.{images_at}
use Rattle.vab_model.specs.Effects.{Effect, Found, Image_is, Refused_by, found_of, print_effect}
use Rattle.vab_model.specs.Effects.{digest_effect, active_effect, effect_map, IsOneOf}
use Rattle.vab_model.specs.Machine.{machine_effect, cancelled as cancelled_state}
use Rattle.vab_model.specs.Effects.{after_of, does}
use Rattle.vab_model.specs.Machine.{with_images, without_images, declared_name, least_declared}
use Rattle.vab_model.specs.Machine.{least_missing, least_blank}
use Rattle.vab_model.specs.Machine.{exceptions_in}
use Rattle.vab_model.specs.Machine.{turns as turns_of}
use Rattle.vab_device.specs.Mounted.{Mounted, in_state}
use Rattle.vab_device.specs.Updates.{effect_on, begin_effect}
use Rattle.vab_session.proofs.OverlayLaws.{if_either, overlay_makes, write_makes, discard_makes}
use Rattle.vab_device.specs.Updates.{EditOf, Guard, edit_effect, no_guard, settled_guard}
use Rattle.vab_device.specs.Updates.{store_guard, create_edit, resize_edit}
use Rattle.vab_device.specs.Updates.{delete_edit, snapshot_edit}
use Rattle.vab_device.specs.Updates.{merge_effect, turns}
use Rattle.vab_device.specs.Updates.{complete_effect}
use Rattle.vab_device.specs.Updates.{finish_effect, cancelled, cancel_effect, final_image}
use Rattle.vab_model.specs.Kinds.{changes_images}
use Rattle.vab_boots.specs.Images.{IsReady, Finishes, Cancels, SameImages}
use Rattle.vab_boots.proofs.Begins.{refused_not, tested}
use Rattle.vab_boots.proofs.Planned.{IsPlanned, begin_planned, edit_planned, flash_planned}
use Rattle.vab_device.proofs.HeldLaws.{keep_makes}
use Rattle.vab_model.specs.Commands.{Keep}

-- ---- two slots

other_is_b : (slot : ℕ) → eqb slot 0 ≡ true → eqb (other_slot slot) 0 ≡ false
other_is_b slot is =
    let at : slot ≡ 0 = eqb-true slot 0 is in
    ne_eqb (1 - slot) 0 (λ none. absurd (omega (arith, at, none)))

other_is_a : (slot : ℕ) → eqb slot 0 ≡ false → eqb (other_slot slot) 0 ≡ true
other_is_a slot is =
    let apart = eqb-false slot 0 is in
    eq-eqb (1 - slot) 0 (omega (arith, apart))

-- ---- the end of an installation

still_some : (name other : List ℕ) (image : PlanImage)
    → (least : List ℕ) × (declared_name (Some name) other image ≡ Some least)
still_some name other Kept = (name, refl)
still_some name other Declared = by_test _
  where
    by_test : (b : Bool)
        → (least : List ℕ) × (cond b (Some other) (Some name) ≡ Some least)
    by_test true = (other, refl)
    by_test false = (name, refl)
still_some name other (Written bytes count) = (name, refl)

pub never_none : (name : List ℕ) (es : List PlanEntry) → least_declared (Some name) es ≡ None → ⊥
never_none name [] none = cc
never_none name (e ∷ es) none =
    let some = still_some name e.name e.image in
    never_none some.0 es
    (sym (ap (λ (o : Option (List ℕ)). least_declared o es) some.1) ∙ none)

first_ready : (name : List ℕ) (image : PlanImage) (es : List PlanEntry)
    → least_declared (declared_name None name image) es ≡ None
    → IsReady image × (least_declared None es ≡ None)
first_ready name Kept es none = (tt, none)
first_ready name Declared es none = absurd (never_none name es none)
first_ready name (Written bytes count) es none = (tt, none)

are_ready : (es : List PlanEntry)
    → least_declared None es ≡ None
    → All (λ (e : PlanEntry). IsReady e.image) es
are_ready [] none = λ k d lt. absurd (omega (arith, lt))
are_ready (e ∷ es) none =
    let first = first_ready e.name e.image es none in
    All-cons (λ (e : PlanEntry). IsReady e.image) e es first.0 (are_ready es first.1)

all_ready : (s : State) (source : ℕ) (plan : Plan)
    → least_missing s source plan ≡ None
    → All (λ (e : PlanEntry). IsReady e.image) plan.entries
all_ready s source plan = by (least_blank (other_slot source) None s.physical)
  where
    by : (blank : Option (List ℕ))
        → least_declared blank plan.entries ≡ None
        → All (λ (e : PlanEntry). IsReady e.image) plan.entries
    by None none = are_ready plan.entries none
    by (Some name) none = absurd (never_none name plan.entries none)

given : (s : State) (slot : ℕ) (images : List ImageOfSlot) (phase : Phase)
    → images_at (record (with_images s slot images) { phase = phase }) slot ≡ Some images
given s slot images phase = elim (cases_Bool (eqb slot 0)) [
  | inl is ↦ rw is refl
  | inr not ↦ rw not refl
]

pub kept_beside : (s : State) (source : ℕ) (images : List ImageOfSlot) (phase : Phase)
    → images_at (record (with_images s (other_slot source) images) { phase = phase }) source
    ≡ images_at s source
kept_beside s source images phase = elim (cases_Bool (eqb source 0)) [
  | inl is ↦ rw (is, other_is_b source is) refl
  | inr not ↦ rw (not, other_is_a source not) refl
]

finishes_by : (m : Mounted) (source : ℕ) (plan : Plan) (o : Option (List ℕ))
    → m.state.phase ≡ Installing source plan
    → least_missing m.state source plan ≡ o
    → (complete_effect m source plan o).reply ≡ replies.Done
    → Finishes m (after_of m (complete_effect m source plan o))
finishes_by m source plan None was none done =
    let images : List ImageOfSlot = map (final_image m.state source) plan.entries in
    let phase : Phase = Staged source (exceptions_in plan.entries) in
    record {
      source = source;
      plan = plan;
      was = was;
      ready = all_ready m.state source plan none;
      staged = refl;
      target = given m.state (other_slot source) images phase;
      kept = kept_beside m.state source images phase;
    }
finishes_by m source plan (Some name) was least done =
    refused_not (refusals.Incomplete name) done

finish_by : (m : Mounted) (phase : Phase)
    → m.state.phase ≡ phase
    → (finish_effect m phase).reply ≡ replies.Done
    → Finishes m (after_of m (finish_effect m phase))
finish_by m Idle was done = refused_not refusals.NotInstalling done
finish_by m (Installing source plan) was done =
    finishes_by m source plan (least_missing m.state source plan) was refl done
finish_by m (Staged source left) was done = refused_not refusals.NotInstalling done
finish_by m (Merging target left) was done = refused_not refusals.NotInstalling done

pub finishes : (m : Mounted) (staged : Option (List ℕ))
    → (effect_on m staged Finish).reply ≡ replies.Done
    → Finishes m (after_of m (effect_on m staged Finish))
finishes m staged done = finish_by m m.state.phase refl done

-- ---- an update that is cancelled

dropped : (m : Mounted) (source : ℕ)
    → images_at (without_images m.state (other_slot source)) (other_slot source) ≡ None
dropped m source = elim (cases_Bool (eqb (other_slot source) 0)) [
  | inl is ↦ rw is refl
  | inr not ↦ rw not refl
]

left_beside : (m : Mounted) (source : ℕ)
    → images_at (without_images m.state (other_slot source)) source ≡ images_at m.state source
left_beside m source = elim (cases_Bool (eqb source 0)) [
  | inl is ↦ rw (is, other_is_b source is) refl
  | inr not ↦ rw (not, other_is_a source not) refl
]

cancels_from : (m : Mounted) (source : ℕ) → Cancels source m (cancelled m source)
cancels_from m source = record {
  idle = refl;
  target = dropped m source;
  kept = left_beside m source;
}

cancel_by : (m : Mounted) (source left : ℕ)
    → (cancel_effect m (Staged source left)).reply ≡ replies.Done
    → Cancels source m (after_of m (cancel_effect m (Staged source left)))
cancel_by m source left done =
    let drops : Effect State = does replies.Done (cancelled_state m.state source) in
    let runs : Bool = eqb m.state.control.current source in
    let current = tested runs refusals.RunningTarget drops done in
    let same : cancel_effect m (Staged source left) ≡ does replies.Done (cancelled m source) =
    rw current.0 refl in
    subst (λ (e : Effect Mounted). Cancels source m (after_of m e)) (sym same)
    (cancels_from m source)

pub cancels : (m : Mounted) (staged : Option (List ℕ)) (source : ℕ)
    → ((plan : Plan) × (m.state.phase ≡ Installing source plan))
    ⊎ ((left : ℕ) × (m.state.phase ≡ Staged source left))
    → (effect_on m staged Cancel).reply ≡ replies.Done
    → Cancels source m (after_of m (effect_on m staged Cancel))
cancels m staged source (inl installing) done =
    subst (λ (p : Phase). Cancels source m (after_of m (cancel_effect m p)))
    (sym installing.1)
    (cancels_from m source)
cancels m staged source (inr ready) done =
    subst (λ (p : Phase). Cancels source m (after_of m (cancel_effect m p)))
    (sym ready.1)
    (cancel_by m source ready.0
    (sym (ap (λ (p : Phase). (cancel_effect m p).reply) ready.1) ∙ done))

-- ---- the other commands

module _ (m : Mounted) where
  -- each of these
  abbrev AreSame : List Mounted → Type 0
  AreSame ms = (x : Mounted) → IsOneOf ms x → SameImages m x

  none : AreSame []
  none x is = absurd is

  more : (y : Mounted) (ms : List Mounted) → SameImages m y → AreSame ms → AreSame (y ∷ ms)
  more y ms same are x (inl is) = subst (SameImages m) (sym is) same
  more y ms same are x (inr later) = are x later

  one : (y : Mounted) → SameImages m y → AreSame (y ∷ [])
  one y same = more y [] same none

  -- what changes the plan alone
  planned : (x : Mounted) (source : ℕ) → IsPlanned source m x → SameImages m x
  planned x source by = record {
    a = ap (λ (s : State). s.a) by.state;
    b = ap (λ (s : State). s.b) by.state;
  }

  edits : (guard : Guard) (edit : EditOf)
      → AreSame (edit_effect m guard edit m.state.phase).later
  edits guard edit x is = planned x _ (edit_planned m guard edit m.state.phase x is)

  -- ---- turns, boot control and questions

  turned : (blocks target left : ℕ) → AreSame (turns blocks m target left)
  unfolding turns_of
  turned zero target left = none
  turned (suc n) target zero = one _ (record { a = refl; b = refl })
  turned (suc n) target (suc left) =
      more _ _ (record { a = refl; b = refl }) (turned n target left)

  merges : (blocks : ℕ) (phase : Phase) → AreSame (merge_effect m blocks phase).later
  merges blocks Idle = none
  merges blocks (Installing source plan) = none
  merges blocks (Staged source left) = none
  merges blocks (Merging target left) = turned blocks target left

  activates : (has : Bool) (c : Control)
      → AreSame (effect_map (in_state m) (active_effect has m.state c)).later
  activates true c = one _ (record { a = refl; b = refl })
  activates false c = none

  prints : (name : List ℕ) (f : Found)
      → AreSame (effect_map (in_state m) (print_effect name f)).later
  prints name (Image_is image) = none
  prints name (Refused_by refusal) = none

  digests : (f : Found) → AreSame (effect_map (in_state m) (digest_effect f)).later
  digests (Image_is image) = none
  digests (Refused_by refusal) = none

  same_by : (staged : Option (List ℕ)) (c : Command)
      → changes_images c ≡ false
      → AreSame (effect_on m staged c).later
  unfolding machine_effect
  same_by staged (SetActive n) other =
      activates (is_some (images_at m.state n)) (activated_of m.state.control n)
  same_by staged Boot other = one _ (record { a = refl; b = refl })
  same_by staged Mark other = one _ (record { a = refl; b = refl })
  same_by staged (Print name) other = prints name (found_of m.state name)
  same_by staged (Digest name) other = digests (found_of m.state name)
  same_by staged Begin other =
      if_either (λ e. AreSame e.later) m.state.overlay (begin_effect m false m.state.phase) none
      (λ x is. planned x _ (begin_planned m false m.state.phase x is))
  same_by staged Factory other =
      if_either (λ e. AreSame e.later) m.state.overlay (begin_effect m true m.state.phase) none
      (λ x is. planned x _ (begin_planned m true m.state.phase x is))
  same_by staged (Create name size) other = edits no_guard (create_edit name size)
  same_by staged (Resize name size) other =
      edits (settled_guard (nat_le size (2 ^ 40)) name) (resize_edit name size)
  same_by staged (Delete name) other = edits (settled_guard true name) (delete_edit name)
  same_by staged (Snapshot name size) other = edits store_guard (snapshot_edit name size)
  same_by staged (Flash name chunk) other =
      λ x is. planned x _ (flash_planned m staged name chunk x is)
  same_by staged (Keep name) other =
      keep_makes m (λ x. AreSame x.later) (λ r. none)
      (λ ps. one _ (record { a = refl; b = refl })) staged name
  same_by staged (Merge blocks) other = merges blocks m.state.phase
  same_by staged (Overlay name size) other =
      overlay_makes m AreSame none (λ o. one _ (record { a = refl; b = refl })) staged name size
  same_by staged (OverlayWrite block) other =
      write_makes m AreSame none (λ o. one _ (record { a = refl; b = refl })) staged block
  same_by staged OverlayDiscard other =
      discard_makes m AreSame none (λ o. one _ (record { a = refl; b = refl })) staged
  same_by staged _ other = absurd cc

pub same_images : (m next : Mounted) (staged : Option (List ℕ)) (c : Command)
    → changes_images c ≡ false
    → IsOneOf (effect_on m staged c).later next
    → SameImages m next
same_images m next staged c other is = same_by m staged c other next is
