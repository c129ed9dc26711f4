-- What boots while a set is installed.
use Rattle.std.proofs.Common.{◌≡◌, ◌≢◌, ◌∙◌, ℕ, ◌<◌, ◌⊎◌, inl, inr, Bool, true, false, List, []}
use Rattle.std.proofs.Common.{◌∷◌, ◌++◌, Option, Some, None, refl, sym, ap, subst, arith}
use Rattle.std.proofs.lemmas.Bool.{and_parts, cases_eq, cases_Bool, ltb-true}
use Rattle.std.specs.Prelude.{◌^◌, nat_le, ◌&&◌, ◌||◌, cond, eqb, map, is_some, nat_lt}
use Rattle.std.specs.Prelude.{slice_index_or}
use Rattle.std.specs.List.{flat_map}
use Rattle.vab_disk.specs.Disk.{Image}
use Rattle.vab_bootctl.specs.declared.slots.Control.{Control}
use Rattle.vab_bootctl.specs.Boot.{info_at, IsBootable, chosen_of, booted_of, activated_of}
use Rattle.vab_bootctl.proofs.BootLaws.{chosen_is, booted_current, booted_none, activated_current}
use Rattle.vab_layout.specs.Slots.{other_slot}
use Rattle.vab_set.specs.declared.set.SetImage.{SetImage}
use Rattle.vab_space.specs.declared.Chunk.TheVariants.{One}
use Rattle.vab_model.specs.declared.state.Image.{Image as ImageOfSlot}
use Rattle.vab_model.specs.declared.state.Plan.{Plan}
use Rattle.vab_model.specs.declared.state.State.{State}
use Rattle.vab_model.specs.declared.state.Phase.{Phase}
use Rattle.vab_model.specs.declared.state.Phase.TheVariants.{Idle, Installing, Staged, Merging}
use Rattle.vab_model.specs.declared.command.Reply.TheVariants as replies
use Rattle.vab_model.specs.Commands.{Begin, Create, Resize, Snapshot, Flash, Finish, SetActive}
use Rattle.vab_model.specs.Effects.{Effect, IsOneOf, answers, effect_map, active_effect}
use Rattle.vab_model.specs.Machine.{machine_effect}
use Rattle.vab_model.specs.Effects.{steps_of, last_of, after_of, if_plain}
use Rattle.vab_model.specs.declared.state.Overlay.{Overlay as OverlayOf}
use Rattle.vab_session.proofs.OverlayLaws.{if_either}
use Rattle.vab_model.specs.State.{images_at, has_images}
use Rattle.vab_model.specs.Machine.{with_images, exceptions_in, least_missing}
use Rattle.vab_device.specs.Mounted.{Mounted, in_state}
use Rattle.vab_device.specs.Reading.{IsIn}
use Rattle.vab_device.specs.Updates.{effect_on, begin_effect, EditOf, Guard, edit_effect}
use Rattle.vab_device.specs.Updates.{no_guard, settled_guard, store_guard, create_edit}
use Rattle.vab_device.specs.Updates.{resize_edit, snapshot_edit, final_image}
use Rattle.vab_device.specs.Updates.{complete_effect, finish_effect}
use Rattle.vab_update.specs.Install.{order, target_name, size_command, flash_order, image_orders}
use Rattle.vab_update.specs.Orders.{Order, is_refused, effect_one, followed, effect_all}
use Rattle.vab_update.proofs.OrderLaws.{followed_refused, followed_done, joined, last_append}
use Rattle.vab_session.specs.Alone.{BootsTo}
use Rattle.vab_boots.specs.Boots.{worked_of, worked_slot, is_ready}
use Rattle.vab_update.specs.Install.{install_effect}
use Rattle.vab_boots.specs.Installed.{StaysRunning}
use Rattle.vab_boots.proofs.Facts.{Facts, facts_of, unread_low}
use Rattle.vab_boots.proofs.Keeping.{kept_beside}
use Rattle.vab_boots.proofs.Planned.{IsPlanned, begin_planned, edit_planned, flash_planned}

-- ---- a boot

-- Where the other slot has priority 0, a boot stays at the current one.
module _ (c : Control) (has : List Bool) (slot : ℕ)
    (below : slot < 2)
    (current : c.current ≡ slot)
    (low : (info_at c (other_slot slot)).priority ≡ 0) where
  only_bootable : (n : ℕ) → IsBootable c has n → n ≡ slot
  only_bootable n bootable = elim (cases_eq n slot) [
    | inl same ↦ same
    | inr apart ↦
        let there = (and_parts
        (slice_index_or has n false && nat_lt 0 (info_at c n).priority)
        ((info_at c n).successful || nat_lt 0 (info_at c n).tries)
        bootable.1).0 in
        let high = ltb-true 0 (info_at c n).priority (and_parts
        (slice_index_or has n false)
        (nat_lt 0 (info_at c n).priority)
        there).1 in
        let at : n ≡ other_slot slot = omega (arith, apart, below, bootable.0) in
        let none : (info_at c n).priority ≡ 0 = ap (λ (k : ℕ). (info_at c k).priority) at ∙ low in
        absurd (omega (arith, high, none))
  ]

  boots_at : (o : Option ℕ) → chosen_of c has ≡ o → (booted_of c has).current ≡ slot
  boots_at None none = ap (λ (k : Control). k.current) (booted_none c has none) ∙ current
  boots_at (Some n) is =
      booted_current c has n is ∙ only_bootable n (chosen_is c has n is).bootable

-- ---- the running slot

-- Boot control is that of the first device. The slot that is current there has the images that it
-- has there, and is the one that has worked.
record StillRuns (m x : Mounted) : Type 0 where
  control : x.state.control ≡ m.state.control
  images : images_at x.state m.state.control.current
      ≡ images_at m.state m.state.control.current
  worked : worked_slot x.state ≡ m.state.control.current

-- images for a slot leave boot control
same_control : (s : State) (slot : ℕ) (images : List ImageOfSlot)
    → (with_images s slot images).control ≡ s.control
same_control s slot images = elim (cases_Bool (eqb slot 0)) [
  | inl is ↦ rw is refl
  | inr not ↦ rw not refl
]

module _ (m : Mounted) where
  -- each of these
  abbrev AllRun : List Mounted → Type 0
  AllRun ms = (y : Mounted) → IsOneOf ms y → StillRuns m y

  last_runs : (x : Mounted) (ms : List Mounted)
      → StillRuns m x
      → AllRun ms
      → StillRuns m (last_of x ms)
  last_runs x [] runs all = runs
  last_runs x (y ∷ ys) runs all =
      last_runs y ys (all y (inl refl)) (λ z later. all z (inr later))

  -- what changes the plan alone
  planned : (x y : Mounted) → StillRuns m x → IsPlanned (worked_slot x.state) x y → StillRuns m y
  planned x y runs by = record {
    control = ap (λ (s : State). s.control) by.state ∙ runs.control;
    images = ap (λ (s : State). images_at s m.state.control.current) by.state ∙ runs.images;
    worked = ap worked_slot by.state ∙ runs.worked;
  }

  begins : (x : Mounted) → StillRuns m x → AllRun (effect_on x None Begin).later
  begins x runs =
      if_either (λ e. AllRun e.later) x.state.overlay (begin_effect x false x.state.phase)
      (λ y none. absurd none)
      (λ y is. planned x y runs (begin_planned x false x.state.phase y is))

  edits : (x : Mounted) (guard : Guard) (edit : EditOf)
      → StillRuns m x
      → AllRun (edit_effect x guard edit x.state.phase).later
  edits x guard edit runs y is = planned x y runs (edit_planned x guard edit x.state.phase y is)

  -- a partition gets its size, whether it is there already or not
  sizes : (x : Mounted) (there : Bool) (name : List ℕ) (size : ℕ)
      → StillRuns m x
      → AllRun (effect_on x None (cond there (Resize name size) (Create name size))).later
  sizes x true name size runs =
      edits x (settled_guard (nat_le size (2 ^ 40)) name) (resize_edit name size) runs
  sizes x false name size runs = edits x no_guard (create_edit name size) runs

  flashes : (x : Mounted) (staged : Option (List ℕ)) (name : List ℕ)
      → StillRuns m x
      → AllRun (effect_on x staged (Flash name One)).later
  flashes x staged name runs y is =
      planned x y runs (flash_planned x staged name One y is)

  -- the end of the installation
  completes : (x : Mounted) (source : ℕ) (plan : Plan) (least : Option (List ℕ))
      → source ≡ m.state.control.current
      → StillRuns m x
      → AllRun (complete_effect x source plan least).later
  completes x source plan None at runs y (inl same) =
      let images : List ImageOfSlot = map (final_image x.state source) plan.entries in
      let phase : Phase = Staged source (exceptions_in plan.entries) in
      let next : State =
      record (with_images x.state (other_slot source) images) { phase = phase } in
      subst (StillRuns m) (sym same) (record {
        control = same_control x.state (other_slot source) images ∙ runs.control;
        images =
            subst (λ (n : ℕ). images_at next n ≡ images_at x.state n) at
            (kept_beside x.state source images phase)
            ∙ runs.images;
        worked = at;
      })
  completes x source plan None at runs y (inr later) = absurd later
  completes x source plan (Some name) at runs y is = absurd is

  finish_by : (x : Mounted) (phase : Phase)
      → worked_of phase x.state.control.current ≡ m.state.control.current
      → StillRuns m x
      → AllRun (finish_effect x phase).later
  finish_by x Idle at runs y is = absurd is
  finish_by x (Installing source plan) at runs y is =
      completes x source plan (least_missing x.state source plan) at runs y is
  finish_by x (Staged source left) at runs y is = absurd is
  finish_by x (Merging target left) at runs y is = absurd is

-- ---- commands that follow one another

-- All is done, and this is the device behind the last command. The slot that was current on the
-- first device is, and has its images.
record IsBehind (m x : Mounted) (e : Effect Mounted) (y : Mounted) : Type 0 where
  done : e.reply ≡ replies.Done
  last : y ≡ after_of x e
  current : y.state.control.current ≡ m.state.control.current
  images : images_at y.state m.state.control.current
      ≡ images_at m.state m.state.control.current

split : (xs ys : List Mounted) (y : Mounted)
    → IsOneOf (xs ++ ys) y
    → IsOneOf xs y ⊎ IsOneOf ys y
split [] ys y is = inr is
split (x ∷ xs) ys y (inl here) = inl (inl here)
split (x ∷ xs) ys y (inr there) = elim (split xs ys y there) [
  | inl first ↦ inl (inr first)
  | inr second ↦ inr second
]

module _ (m : Mounted) where
  -- each device of what is made of this one: the slot runs still, or it is the one behind the last
  -- command
  abbrev Leads : Mounted → Effect Mounted → Type 0
  Leads x e = (y : Mounted) → IsOneOf e.later y → StillRuns m y ⊎ IsBehind m x e y

  joined_leads : (x : Mounted) (e rest : Effect Mounted)
      → AllRun m e.later
      → Leads (after_of x e) rest
      → Leads x (joined e rest)
  joined_leads x e rest runs leads y is = elim (split e.later rest.later y is) [
    | inl first ↦ inl (runs y first)
    | inr second ↦
        elim (leads y second) [
          | inl still ↦ inl still
          | inr behind ↦
              inr (record {
                done = behind.done;
                last = behind.last ∙ sym (last_append x e.later rest.later);
                current = behind.current;
                images = behind.images;
              })
        ]
  ]

  followed_leads : (x : Mounted) (e rest : Effect Mounted)
      → AllRun m e.later
      → Leads (after_of x e) rest
      → Leads x (followed e rest)
  followed_leads x e rest runs leads = elim (cases_Bool (is_refused e.reply)) [
    | inl refused ↦
        subst (λ (f : Effect Mounted). Leads x f) (sym (followed_refused e rest refused))
        (λ y is. inl (runs y is))
    | inr done ↦
        subst (λ (f : Effect Mounted). Leads x f) (sym (followed_done e rest done))
        (joined_leads x e rest runs leads)
  ]

  -- ---- lists of commands

  -- one that leaves the slot running
  abbrev Stays : Order → Type 0
  Stays o = (x : Mounted) → StillRuns m x → AllRun m (effect_one o x).later

  -- all of them do, but for the last
  abbrev AllLead : List Order → Type 0
  AllLead os = (x : Mounted) → StillRuns m x → Leads x (effect_all os x)

  more_lead : (o : Order) (os : List Order) → Stays o → AllLead os → AllLead (o ∷ os)
  unfolding effect_all
  more_lead o os stays lead x runs =
      let e : Effect Mounted = effect_one o x in
      followed_leads x e (effect_all os (after_of x e)) (stays x runs)
      (lead (after_of x e) (last_runs m x e.later runs (stays x runs)))

  images_lead : (source : ℕ) (set : List SetImage) (rest : List Order)
      → AllLead rest
      → AllLead (flat_map (image_orders source) set ++ rest)
  images_lead source [] rest lead = lead
  images_lead source (image ∷ set) rest lead =
      let name : List ℕ = target_name source image in
      let later : List Order = flat_map (image_orders source) set ++ rest in
      let size : Order = record { command = size_command source image; staged = None } in
      let store : Order = order (Snapshot name image.store) in
      let flash : Order = flash_order source image in
      more_lead size (store ∷ flash ∷ later)
      (λ x runs. sizes m x _ name image.size runs)
      (more_lead store (flash ∷ later)
      (λ x runs. edits m x store_guard (snapshot_edit name image.store) runs)
      (more_lead flash later
      (λ x runs. flashes m x (Some image.bytes) name runs)
      (images_lead source set rest lead)))

  activates : (x : Mounted) (slot : ℕ) (has : Bool)
      → StillRuns m x
      → Leads x (followed
      (effect_map (in_state x) (active_effect has x.state (activated_of x.state.control slot)))
      (answers replies.Done))
  activates x slot true runs y (inl same) =
      inr (record {
        done = refl;
        last = same;
        current =
            ap (λ (z : Mounted). z.state.control.current) same
            ∙ activated_current x.state.control slot
            ∙ ap (λ (c : Control). c.current) runs.control;
        images =
            ap (λ (z : Mounted). images_at z.state m.state.control.current) same ∙ runs.images;
      })
  activates x slot true runs y (inr later) = absurd later
  activates x slot false runs y is = absurd is

  last_leads : (slot : ℕ) → AllLead (order (SetActive slot) ∷ [])
  unfolding machine_effect effect_all
  last_leads slot x runs = activates x slot (is_some (images_at x.state slot)) runs

  -- all that install a set
  install_leads : (set : List SetImage) → StillRuns m m → Leads m (install_effect m set)
  install_leads set runs =
      let slot : ℕ = m.state.control.current in
      let last : List Order = order (SetActive (other_slot slot)) ∷ [] in
      more_lead (order Begin) (flat_map (image_orders slot) set ++ order Finish ∷ last)
      (begins m)
      (images_lead slot set (order Finish ∷ last)
      (more_lead (order Finish) last
      (λ x still. finish_by m x x.state.phase still.worked still)
      (last_leads (other_slot slot))))
      m runs

-- ---- what a device says of the slot

-- a slot is current, and boot control has the other one at priority 0
record IsRunning (m : Mounted) : Type 0 where
  below : m.state.control.current < 2
  low : (info_at m.state.control (other_slot m.state.control.current)).priority ≡ 0

is_running : (size : ℕ) (image : Image) (m : Mounted)
    → IsIn size m image
    → m.state.phase ≡ Idle
    → IsRunning m
is_running size image m is idle =
    let slot : ℕ = m.state.control.current in
    let facts : Facts m.state = facts_of size image m is in
    let unready : is_ready m.state.phase ≡ false = ap is_ready idle in
    let none : is_some (images_at m.state (other_slot slot)) ≡ false =
    ap (λ (n : ℕ). is_some (images_at m.state (other_slot n))) (facts.current unready)
    ∙ facts.alone unready in
    let below : slot < 2 = facts.current_below in
    record {
      below = below;
      low = unread_low size image m is (other_slot slot) (omega (arith, below)) none;
    }

boots_still : (m x : Mounted)
    → IsRunning m
    → StillRuns m x
    → BootsTo m.state.control.current x
unfolding machine_effect
boots_still m x running runs =
    let slot : ℕ = m.state.control.current in
    ap (λ (n : ℕ). replies.Booted n)
    (boots_at x.state.control (has_images x.state) slot running.below
    (ap (λ (c : Control). c.current) runs.control)
    (ap (λ (c : Control). (info_at c (other_slot slot)).priority) runs.control ∙ running.low)
    (chosen_of x.state.control (has_images x.state))
    refl)

stays_by : (m next : Mounted) (set : List SetImage)
    → IsRunning m
    → StillRuns m next
    → StaysRunning m set next
stays_by m next set running runs = record {
  current = ap (λ (c : Control). c.current) runs.control;
  images = runs.images;
  boots = inl (boots_still m next running runs);
}

first_runs : (m : Mounted) → m.state.phase ≡ Idle → StillRuns m m
first_runs m idle = record {
  control = refl;
  images = refl;
  worked = ap (λ (p : Phase). worked_of p m.state.control.current) idle;
}

pub stays_running : (size : ℕ) (image : Image) (m next : Mounted) (set : List SetImage)
    → IsIn size m image
    → m.state.phase ≡ Idle
    → IsOneOf (steps_of m (install_effect m set)) next
    → StaysRunning m set next
stays_running size image m next set is idle (inl same) =
    subst (λ (x : Mounted). StaysRunning m set x) (sym same)
    (stays_by m m set (is_running size image m is idle) (first_runs m idle))
stays_running size image m next set is idle (inr later) =
    elim (install_leads m set (first_runs m idle) next later) [
      | inl runs ↦ stays_by m next set (is_running size image m is idle) runs
      | inr behind ↦
          record {
            current = behind.current;
            images = behind.images;
            boots = inr (behind.done, behind.last);
          }
    ]

-- ---- where there is an update already

not_begun : (m : Mounted) (phase : Phase) (rest : Effect Mounted)
    → phase ≢ Idle
    → (followed (begin_effect m false phase) rest).later ≡ []
not_begun m Idle rest other = absurd (other refl)
not_begun m (Installing source plan) rest other = refl
not_begun m (Staged source left) rest other = refl
not_begun m (Merging target left) rest other = refl

-- nor behind the test of an overlay
not_over : (m : Mounted) (o : Option OverlayOf) (phase : Phase) (rest : Effect Mounted)
    → phase ≢ Idle
    → (followed (if_plain o (begin_effect m false phase)) rest).later ≡ []
not_over m None phase rest other = not_begun m phase rest other
not_over m (Some o) phase rest other = refl

pub needs_no_update : (m : Mounted) (set : List SetImage)
    → m.state.phase ≢ Idle
    → (install_effect m set).later ≡ []
unfolding effect_all
needs_no_update m set other =
    let slot : ℕ = m.state.control.current in
    let last : List Order = order Finish ∷ order (SetActive (other_slot slot)) ∷ [] in
    not_over m m.state.overlay m.state.phase
    (effect_all (flat_map (image_orders slot) set ++ last)
    (after_of m (if_plain m.state.overlay (begin_effect m false m.state.phase))))
    other
