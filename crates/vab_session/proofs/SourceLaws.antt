-- A slot keeps its images until a merge from it is begun, or it is wiped.
use Rattle.std.proofs.Common.{◌≡◌, ◌∙◌, ◌⊎◌, inl, inr, ℕ, zero, suc, ◌-◌, ◌≤◌, ◌<◌, ◌++◌, ◌==◌}
use Rattle.std.proofs.Common.{Bool, true, false, List, [], ◌∷◌, length, drop, codes, Option}
use Rattle.std.proofs.Common.{Some, None, map, refl, sym, ap, subst, arith}
use Rattle.std.specs.Prelude.{not, is_some, nat_le, ◌^◌}
use Rattle.std.proofs.lemmas.Bool.{cases_Bool}
use Rattle.std.proofs.lemmas.Bool.Decides.{nat_tests}
use Rattle.vab_disk.specs.Disk.{Outcome}
use Rattle.vab_space.specs.declared.Chunk.{Chunk}
use Rattle.vab_bootctl.specs.declared.slots.Control.{Control}
use Rattle.vab_bootctl.specs.Boot.{info_at, activated_of, booted_of, marked_of}
use Rattle.vab_layout.specs.Slots.{other_slot}
use Rattle.vab_model.specs.declared.state.Image.{Image as ImageOfSlot}
use Rattle.vab_model.specs.declared.state.Plan.{Plan}
use Rattle.vab_model.specs.declared.state.Phase.{Phase}
use Rattle.vab_model.specs.declared.state.Phase.TheVariants.{Idle, Installing, Staged, Merging}
use Rattle.vab_model.specs.declared.state.State.{State}
use Rattle.vab_model.specs.declared.command.Refusal.{Refusal}
use Rattle.vab_model.specs.declared.command.Refusal.TheVariants as refusals
use Rattle.vab_model.specs.declared.command.Reply.TheVariants as replies
use Rattle.vab_model.specs.Commands.{Command, SetActive, Boot, Mark, Print, Digest, Begin, Create}
use Rattle.vab_model.specs.Commands.{Resize, Delete, Snapshot, Flash, Finish, Cancel, BeginMerge}
use Rattle.vab_model.specs.Commands.{Merge, Factory, UpdateSuper, Overlay, OverlayWrite}
use Rattle.vab_model.specs.Commands.{OverlayDiscard}
use Rattle.vab_model.specs.declared.state.Overlay.{Overlay as OverlayOf}
use Rattle.vab_model.specs.State.{images_at, has_images, with_control}
use Rattle.vab_model.specs.Effects.{Effect, Found, Image_is, Refused_by, found_of, print_effect}
use Rattle.vab_model.specs.Effects.{digest_effect, active_effect, effect_map, IsOneOf}
use Rattle.vab_model.specs.Machine.{machine_effect, unless, cancelled as cancelled_state}
use Rattle.vab_model.specs.Machine.{merging_from as merging_state}
use Rattle.vab_model.specs.Effects.{does}
use Rattle.vab_model.specs.Kinds.{ends_alone}
use Rattle.vab_model.specs.Machine.{without_images, with_images, least_missing}
use Rattle.vab_device.specs.Mounted.{Mounted, Places, in_state}
use Rattle.vab_device.specs.Reading.{IsIn}
use Rattle.vab_device.specs.Flashed.{flash_effect}
use Rattle.vab_device.specs.Updates.{effect_on, begin_effect, EditOf, Guard, edit_effect}
use Rattle.vab_device.specs.Updates.{no_guard, settled_guard, store_guard, create_edit}
use Rattle.vab_device.specs.Updates.{resize_edit, delete_edit, snapshot_edit}
use Rattle.vab_device.specs.Updates.{cancelled, cancel_effect, begin_merge_effect, merge_effect}
use Rattle.vab_device.specs.Updates.{in_places, with_layout, merging_from, finish_effect}
use Rattle.vab_device.specs.Updates.{complete_effect, finished, final_image, update_super}
use Rattle.vab_session.proofs.OverlayLaws.{if_either, over, overlay_makes, write_makes}
use Rattle.vab_session.proofs.OverlayLaws.{discard_makes}
use Rattle.vab_device.proofs.FlashedLaws.{flash_by_blocks}
use Rattle.vab_exchanges.specs.Session.{Exchange}
use Rattle.vab_exchanges.specs.Items.{Kept, items_of, kept_after, closing_of}
use Rattle.vab_exchanges.specs.Runs.{acknowledged, CrashesWithin}
use Rattle.vab_session.specs.Alone.{IsAlone, IsUnready, reached_in}
use Rattle.vab_session.specs.Responses.{machine}
use Rattle.vab_session.specs.Source.{IsStagedFrom, IsReadyFrom, HasKept, IsMergedFrom, AreGone}
use Rattle.vab_session.specs.Source.{FindsGone, StandsKept}
use Rattle.vab_session.proofs.AloneLaws.{alone_effect}
use Rattle.vab_session.proofs.StandLaws.{end_only}
use Rattle.vab_session.proofs.UntilLaws as until
use Rattle.vab_session.proofs.WipeLaws.{not_wiped, wipe_makes, wipe_refused}
use Rattle.vab_model.specs.declared.state.Physical.{Physical}
use Rattle.vab_model.specs.Commands.{Keep}
use Rattle.vab_device.proofs.HeldLaws.{held_in, keep_makes}

-- these images for the other slot leave those of this one
with_other : (s : State) (own : ℕ) (given : List ImageOfSlot)
    → own < 2
    → images_at (with_images s (other_slot own) given) own ≡ images_at s own
with_other s zero given below = refl
with_other s (suc zero) given below = refl
with_other s (suc (suc n)) given below = absurd (omega (arith, below))

with_target : (slot : ℕ) (s : State) (source : ℕ) (given : List ImageOfSlot)
    → source ≡ slot
    → slot < 2
    → images_at (with_images s (other_slot source) given) slot ≡ images_at s slot
with_target slot s source given at below =
    subst
    (λ (n : ℕ). images_at (with_images s (other_slot n) given) slot ≡ images_at s slot)
    (sym at) (with_other s slot given below)

-- a slot without images leaves those of the other
pub still_has : (s : State) (own : ℕ)
    → own < 2
    → images_at (without_images s (other_slot own)) own ≡ images_at s own
still_has s zero below = refl
still_has s (suc zero) below = refl
still_has s (suc (suc n)) below = absurd (omega (arith, below))

pub still_none : (s : State) (own : ℕ)
    → own < 2
    → images_at (without_images s (other_slot own)) (other_slot own) ≡ None
still_none s zero below = refl
still_none s (suc zero) below = refl
still_none s (suc (suc n)) below = absurd (omega (arith, below))

module _ (slot : ℕ) (images : List ImageOfSlot) where
  abbrev pub Stands : Mounted → Type 0
  Stands m = HasKept slot images m

  abbrev pub Merged : Mounted → Type 0
  Merged m = IsMergedFrom slot m.state.phase

  abbrev pub Gone : Mounted → Type 0
  Gone m = AreGone slot images m

  merged_alone : (phase : Phase) → slot < 2 → IsUnready slot phase → IsMergedFrom slot phase → ⊥
  merged_alone Idle below is merged = merged
  merged_alone (Installing source plan) below is merged = merged
  merged_alone (Staged source left) below is merged = is
  merged_alone (Merging target left) below is merged = omega (arith, below, is, merged)

  merged_ready : (phase : Phase) → IsStagedFrom slot phase → IsMergedFrom slot phase → ⊥
  merged_ready Idle is merged = is
  merged_ready (Installing source plan) is merged = is
  merged_ready (Staged source left) is merged = merged
  merged_ready (Merging target left) is merged = is

  pub has_images_still : (m : Mounted) → Stands m → images_at m.state slot ≡ Some images
  has_images_still m (inl alone) = alone.has
  has_images_still m (inr ready) = ready.has

  pub not_merged : (m : Mounted) → Stands m → Merged m → ⊥
  not_merged m (inl alone) merged =
      merged_alone m.state.phase alone.below alone.unready merged
  not_merged m (inr ready) merged = merged_ready m.state.phase ready.ready merged

  pub apart : (m : Mounted) → Stands m → Gone m → ⊥
  apart m stands (inl merged) = not_merged m stands merged
  apart m stands (inr wiped) = not_wiped slot images m (has_images_still m stands) wiped

-- What each command but a wipe makes of a slot whose images are kept, until it stops, at the latest
-- where a merge from it is begun.
module _ (slot : ℕ) (images : List ImageOfSlot) (Stops : Mounted → Type 0)
    (differ : (m : Mounted) → HasKept slot images m → Stops m → ⊥)
    (stops : (m : Mounted) → IsMergedFrom slot m.state.phase → Stops m) where
  abbrev Has : Mounted → Type 0
  Has m = HasKept slot images m

  abbrev Makes : Mounted → List Mounted → Type 0
  Makes m later = until.Makes Stops Has differ m later

  nothing : (m : Mounted) → Has m → Makes m []
  nothing m stands = until.made_nothing Stops Has differ m stands

  one : (m x : Mounted) → Has m → Has x → Makes m (x ∷ [])
  one m x stands next = until.made_all Stops Has differ m (x ∷ []) stands by
    where
      by : (y : Mounted) → IsOneOf (x ∷ []) y → Has y
      by y (inl here) = subst Has (sym here) next
      by y (inr none) = absurd none

  -- a row of the machine that is refused, unless a test holds
  tested : (m : Mounted) (places : Places) (b : Bool) (refusal : Refusal) (e : Effect State)
      → Has m
      → (b ≡ true → Makes m (effect_map (in_places places) e).later)
      → Makes m (effect_map (in_places places) (unless b refusal e)).later
  tested m places true refusal e stands holds = holds refl
  tested m places false refusal e stands holds = nothing m stands

  -- ---- the end of an installation

  completes : (m : Mounted) (source : ℕ) (plan : Plan) (least : Option (List ℕ))
      → source ≡ slot
      → IsAlone slot images m
      → Makes m (complete_effect m source plan least).later
  completes m source plan None at alone =
      one m (finished m source plan) (inl alone) (inr (record {
        below = alone.below;
        has =
            with_target slot m.state source (map (final_image m.state source) plan.entries) at
            alone.below
            ∙ alone.has;
        ready = at;
      }))
  completes m source plan (Some name) at alone = nothing m (inl alone)

  finishes : (m : Mounted) (phase : Phase)
      → IsUnready slot phase
      → IsAlone slot images m
      → Makes m (finish_effect m phase).later
  finishes m Idle is alone = nothing m (inl alone)
  finishes m (Installing source plan) is alone =
      completes m source plan (least_missing m.state source plan) is alone
  finishes m (Staged source left) is alone = nothing m (inl alone)
  finishes m (Merging target left) is alone = nothing m (inl alone)

  -- ---- where an update is ready

  with_boot : (m : Mounted) (c : Control)
      → IsReadyFrom slot images m
      → Has (in_state m (with_control c m.state))
  with_boot m c is = inr (record { below = is.below; has = is.has; ready = is.ready })

  activates : (m : Mounted) (has : Bool) (c : Control)
      → IsReadyFrom slot images m
      → Makes m (effect_map (in_state m) (active_effect has m.state c)).later
  activates m true c is = one m _ (inr is) (with_boot m c is)
  activates m false c is = nothing m (inr is)

  prints : (m : Mounted) (name : List ℕ) (f : Found)
      → IsReadyFrom slot images m
      → Makes m (effect_map (in_state m) (print_effect name f)).later
  prints m name (Image_is image) is = nothing m (inr is)
  prints m name (Refused_by refusal) is = nothing m (inr is)

  digests : (m : Mounted) (f : Found)
      → IsReadyFrom slot images m
      → Makes m (effect_map (in_state m) (digest_effect f)).later
  digests m (Image_is image) is = nothing m (inr is)
  digests m (Refused_by refusal) is = nothing m (inr is)

  begins : (m : Mounted) (apart : Bool) (phase : Phase)
      → IsStagedFrom slot phase
      → IsReadyFrom slot images m
      → Makes m (begin_effect m apart phase).later
  begins m apart Idle at is = absurd at
  begins m apart (Installing source plan) at is = absurd at
  begins m apart (Staged source left) at is = nothing m (inr is)
  begins m apart (Merging target left) at is = absurd at

  edits : (m : Mounted) (guard : Guard) (edit : EditOf) (phase : Phase)
      → IsStagedFrom slot phase
      → IsReadyFrom slot images m
      → Makes m (edit_effect m guard edit phase).later
  edits m guard edit Idle at is = absurd at
  edits m guard edit (Installing source plan) at is = absurd at
  edits m guard edit (Staged source left) at is = nothing m (inr is)
  edits m guard edit (Merging target left) at is = absurd at

  flashes : (m : Mounted) (staged : Option (List ℕ)) (name : List ℕ) (k : Chunk) (phase : Phase)
      → IsStagedFrom slot phase
      → IsReadyFrom slot images m
      → Makes m (flash_effect m staged name k phase).later
  flashes m staged name k Idle at is = absurd at
  flashes m staged name k (Installing source plan) at is = absurd at
  flashes m staged name k (Staged source left) at is = nothing m (inr is)
  flashes m staged name k (Merging target left) at is = absurd at

  finished_again : (m : Mounted) (phase : Phase)
      → IsStagedFrom slot phase
      → IsReadyFrom slot images m
      → Makes m (finish_effect m phase).later
  finished_again m Idle at is = absurd at
  finished_again m (Installing source plan) at is = absurd at
  finished_again m (Staged source left) at is = nothing m (inr is)
  finished_again m (Merging target left) at is = absurd at

  -- dropped while the source runs
  dropped : (m : Mounted) (source : ℕ)
      → source ≡ slot
      → m.state.control.current ≡ source
      → IsReadyFrom slot images m
      → IsAlone slot images (cancelled m source)
  dropped m source at runs is =
      subst (λ (n : ℕ). IsAlone slot images (cancelled m n)) (sym at) (record {
        below = is.below;
        current = runs ∙ at;
        has = still_has m.state slot is.below ∙ is.has;
        other = still_none m.state slot is.below;
        unready = tt;
      })

  cancels : (m : Mounted) (phase : Phase)
      → IsStagedFrom slot phase
      → IsReadyFrom slot images m
      → Makes m (cancel_effect m phase).later
  cancels m Idle at is = absurd at
  cancels m (Installing source plan) at is = absurd at
  cancels m (Staged source left) at is =
      tested m (with_layout m.places (other_slot source) None)
      (m.state.control.current == source) refusals.RunningTarget
      (does replies.Done (cancelled_state m.state source)) (inr is)
      (λ runs.
      one m (cancelled m source) (inr is)
      (inl (dropped m source at (grind (arith, nat_tests, runs)) is)))
  cancels m (Merging target left) at is = absurd at

  merge_begins : (m : Mounted) (phase : Phase)
      → IsStagedFrom slot phase
      → IsReadyFrom slot images m
      → Makes m (begin_merge_effect m phase).later
  merge_begins m Idle at is = absurd at
  merge_begins m (Installing source plan) at is = absurd at
  merge_begins m (Staged source left) at is =
      let marked : Bool = (info_at m.state.control (other_slot source)).successful in
      let begun : Effect State = does replies.Done (merging_state m.state source left) in
      let places : Places = with_layout m.places source None in
      tested m places (not (m.state.control.current == source)) refusals.NotRunningTarget
      (unless marked refusals.NotSuccessful begun) (inr is)
      (λ other.
      tested m places marked refusals.NotSuccessful begun (inr is)
      (λ yes.
      until.made_stop Stops Has differ m (merging_from m source left)
      (stops (merging_from m source left) (ap other_slot at))))
  merge_begins m (Merging target left) at is = absurd at

  merges : (m : Mounted) (blocks : ℕ) (phase : Phase)
      → IsStagedFrom slot phase
      → IsReadyFrom slot images m
      → Makes m (merge_effect m blocks phase).later
  merges m blocks Idle at is = absurd at
  merges m blocks (Installing source plan) at is = absurd at
  merges m blocks (Staged source left) at is = nothing m (inr is)
  merges m blocks (Merging target left) at is = absurd at

  not_idle : (phase : Phase) → IsStagedFrom slot phase → phase ≡ Idle → ⊥
  not_idle phase at idle = subst (IsStagedFrom slot) idle at

  -- there is an update
  wipes : (m : Mounted) (staged : Option (List ℕ))
      → IsReadyFrom slot images m
      → Makes m (effect_on m staged UpdateSuper).later
  wipes m staged is =
      if_either (λ e. Makes m e.later) m.state.overlay
      (update_super m m.state.control.current staged m.state.phase) (nothing m (inr is))
      (subst (λ (l : List Mounted). Makes m l)
      (sym (wipe_refused m m.state.control.current staged m.state.phase
      (not_idle m.state.phase is.ready)))
      (nothing m (inr is)))

  with_over : (m : Mounted) (o : Option OverlayOf)
      → IsReadyFrom slot images m
      → Makes m (over m o ∷ [])
  with_over m o is =
      one m (over m o) (inr is)
      (inr (record { below = is.below; has = is.has; ready = is.ready }))

  with_held : (m : Mounted) (ps : List Physical)
      → IsReadyFrom slot images m
      → Makes m (held_in m ps ∷ [])
  with_held m ps is =
      one m (held_in m ps) (inr is)
      (inr (record { below = is.below; has = is.has; ready = is.ready }))

  pub ready_makes : (m : Mounted) (staged : Option (List ℕ)) (c : Command)
      → IsReadyFrom slot images m
      → Makes m (effect_on m staged c).later
  unfolding machine_effect
  ready_makes m staged (SetActive n) is =
      activates m (is_some (images_at m.state n)) (activated_of m.state.control n) is
  ready_makes m staged Boot is =
      one m _ (inr is) (with_boot m (booted_of m.state.control (has_images m.state)) is)
  ready_makes m staged Mark is =
      one m _ (inr is) (with_boot m (marked_of m.state.control) is)
  ready_makes m staged (Print name) is = prints m name (found_of m.state name) is
  ready_makes m staged (Digest name) is = digests m (found_of m.state name) is
  ready_makes m staged Begin is =
      if_either (λ e. Makes m e.later) m.state.overlay (begin_effect m false m.state.phase)
      (nothing m (inr is)) (begins m false m.state.phase is.ready is)
  ready_makes m staged Factory is =
      if_either (λ e. Makes m e.later) m.state.overlay (begin_effect m true m.state.phase)
      (nothing m (inr is)) (begins m true m.state.phase is.ready is)
  ready_makes m staged (Create name size) is =
      edits m no_guard (create_edit name size) m.state.phase is.ready is
  ready_makes m staged (Resize name size) is =
      edits m (settled_guard (nat_le size (2 ^ 40)) name) (resize_edit name size) m.state.phase
      is.ready is
  ready_makes m staged (Delete name) is =
      edits m (settled_guard true name) (delete_edit name) m.state.phase is.ready is
  ready_makes m staged (Snapshot name size) is =
      edits m store_guard (snapshot_edit name size) m.state.phase is.ready is
  ready_makes m staged (Flash name chunk) is =
      subst (λ (e : Effect Mounted). Makes m e.later)
      (sym (flash_by_blocks m staged name chunk))
      (flashes m staged name chunk m.state.phase is.ready is)
  ready_makes m staged (Keep name) is =
      keep_makes m (λ x. Makes m x.later) (λ r. nothing m (inr is)) (λ ps. with_held m ps is)
      staged name
  ready_makes m staged Finish is = finished_again m m.state.phase is.ready is
  ready_makes m staged Cancel is = cancels m m.state.phase is.ready is
  ready_makes m staged BeginMerge is = merge_begins m m.state.phase is.ready is
  ready_makes m staged (Merge blocks) is = merges m blocks m.state.phase is.ready is
  ready_makes m staged UpdateSuper is = wipes m staged is
  ready_makes m staged (Overlay name size) is =
      overlay_makes m (Makes m) (nothing m (inr is)) (λ o. with_over m o is) staged name size
  ready_makes m staged (OverlayWrite block) is =
      write_makes m (Makes m) (nothing m (inr is)) (λ o. with_over m o is) staged block
  ready_makes m staged OverlayDiscard is =
      discard_makes m (Makes m) (nothing m (inr is)) (λ o. with_over m o is) staged

  -- where the slot alone has images
  pub finish_makes : (m : Mounted) (staged : Option (List ℕ))
      → IsAlone slot images m
      → Makes m (effect_on m staged Finish).later
  finish_makes m staged alone = finishes m m.state.phase alone.unready alone

  pub plain_makes : (m : Mounted) (staged : Option (List ℕ)) (c : Command)
      → ends_alone c ≡ false
      → Has m
      → Makes m (effect_on m staged c).later
  plain_makes m staged c not (inr ready) = ready_makes m staged c ready
  plain_makes m staged c not (inl alone) =
      until.made_all Stops Has differ m (effect_on m staged c).later (inl alone)
      (λ x at. inl (alone_effect slot images m staged c not alone x at))

module _ (slot : ℕ) (images : List ImageOfSlot) where
  -- a command that ends it where the slot alone has images
  ends_by : (m : Mounted) (staged : Option (List ℕ)) (c : Command)
      → (c ≡ Finish) ⊎ (c ≡ UpdateSuper)
      → IsAlone slot images m
      → until.Makes (Gone slot images) (Stands slot images) (apart slot images) m
      (effect_on m staged c).later
  ends_by m staged c (inl is) alone =
      subst
      (λ (d : Command).
      until.Makes (Gone slot images) (Stands slot images) (apart slot images) m
      (effect_on m staged d).later)
      (sym is)
      (finish_makes slot images (Gone slot images) (apart slot images) (λ x merged. inl merged) m
      staged alone)
  ends_by m staged c (inr is) alone =
      subst
      (λ (d : Command).
      until.Makes (Gone slot images) (Stands slot images) (apart slot images) m
      (effect_on m staged d).later)
      (sym is)
      (wipe_makes (Gone slot images) (Stands slot images) (apart slot images) slot images
      (λ x wiped. inr wiped) (λ x stands. inl stands) m staged alone)

  pub command_makes : (m : Mounted) (staged : Option (List ℕ)) (c : Command)
      → Stands slot images m
      → until.Makes (Gone slot images) (Stands slot images) (apart slot images) m
      (effect_on m staged c).later
  command_makes m staged c (inr ready) =
      ready_makes slot images (Gone slot images) (apart slot images) (λ x merged. inl merged) m
      staged c ready
  command_makes m staged c (inl alone) = elim (cases_Bool (ends_alone c)) [
    | inl is ↦ ends_by m staged c (end_only c is) alone
    | inr not ↦
        plain_makes slot images (Gone slot images) (apart slot images) (λ x merged. inl merged) m
        staged c not (inl alone)
  ]

  -- ---- a cut of power

  pub stands_kept : (size : ℕ) (o : Outcome) (m : Mounted)
      → IsIn size m o.image
      → Stands slot images m
      → StandsKept size slot images o.image
  stands_kept size o m is stands =
      record { mounted = m; is = is; has = has_images_still slot images m stands; kept = stands }

  -- Where that much was told, each cut of power leaves the slot its images, or a merge from it was
  -- begun, or it was wiped.
  pub kept_at_cut : (turns size : ℕ) (first : Kept Mounted) (exchanges done later : List Exchange)
      (unfinished : Option (List ℕ)) (waits : Bool) (told : List ℕ) (o : Outcome)
      → CrashesWithin (IsIn size) (codes "FB01") first.now
      (items_of (machine turns) first exchanges unfinished)
      (closing_of (machine turns) unfinished waits (kept_after (machine turns) first exchanges))
      told o
      → exchanges ≡ done ++ later
      → Stands slot images (kept_after (machine turns) first done).now
      → (since : List ℕ)
      → o.told ≡ told ++ since
      → length done
      ≤ acknowledged (items_of (machine turns) first exchanges unfinished) (drop 4 since)
      → StandsKept size slot images o.image
      ⊎ FindsGone slot images
      (reached_in turns (kept_after (machine turns) first done) later unfinished waits
      (acknowledged (items_of (machine turns) first exchanges unfinished) (drop 4 since)
      - length done))
  kept_at_cut turns size first exchanges done later unfinished waits told o crash is stands since
      told_is behind =
      elim
      (until.holds_at_cut (Gone slot images) (Stands slot images) (apart slot images) command_makes
      turns size first exchanges done later unfinished waits told o crash is stands since told_is
      behind) [
        | inl at ↦ inl (stands_kept size o at.0 at.2 at.1)
        | inr found ↦ inr found
      ]
