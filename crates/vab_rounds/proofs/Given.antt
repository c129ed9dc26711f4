-- The images that the end of an installation gave last.
use Rattle.std.proofs.Common.{◌≡◌, ◌∙◌, ◌⊎◌, inl, inr, ℕ, zero, suc, ◌+◌, ◌<◌, ◌≤◌, ◌==◌, Bool}
use Rattle.std.proofs.Common.{true, false, cond, List, [], ◌∷◌, ◌++◌, Option, Some, None}
use Rattle.std.proofs.Common.{refl, sym, ap, subst, arith}
use Rattle.std.proofs.lemmas.Bool.{not-true}
use Rattle.std.specs.Prelude.{not, is_some, nat_le, ◌^◌}
use Rattle.std.proofs.lemmas.Bool.Decides.{nat_tests}
use Rattle.vab_space.specs.declared.Chunk.{Chunk}
use Rattle.vab_bootctl.specs.declared.slots.Control.{Control}
use Rattle.vab_bootctl.specs.Boot.{info_at, activated_of, booted_of, marked_of, chosen_of}
use Rattle.vab_bootctl.proofs.BootLaws.{chosen_is, booted_current, booted_none}
use Rattle.vab_bootctl.proofs.BootLaws.{activated_current, marked_current}
use Rattle.vab_layout.specs.Slots.{other_slot}
use Rattle.vab_model.specs.declared.state.Image.{Image as ImageOfSlot}
use Rattle.vab_model.specs.declared.state.Plan.{Plan}
use Rattle.vab_model.specs.declared.state.Phase.{Phase}
use Rattle.vab_model.specs.declared.state.Phase.TheVariants.{Idle, Installing, Staged, Merging}
use Rattle.vab_model.specs.declared.state.State.{State}
use Rattle.vab_model.specs.declared.command.Refusal.{Refusal}
use Rattle.vab_model.specs.declared.command.Refusal.TheVariants as refusals
use Rattle.vab_model.specs.declared.command.Reply.TheVariants as replies
use Rattle.vab_model.specs.Commands.{Command, SetActive, Boot, Mark, Print, Digest, Begin, Create}
use Rattle.vab_model.specs.Commands.{Resize, Delete, Snapshot, Flash, Finish, Cancel, BeginMerge}
use Rattle.vab_model.specs.Commands.{Merge, Factory, UpdateSuper, Overlay, OverlayWrite}
use Rattle.vab_model.specs.Commands.{OverlayDiscard}
use Rattle.vab_model.specs.declared.state.Overlay.{Overlay as OverlayOf}
use Rattle.vab_model.specs.State.{images_at, has_images, with_control}
use Rattle.vab_model.specs.Effects.{Effect, Found, Image_is, Refused_by, found_of, print_effect}
use Rattle.vab_model.specs.Effects.{digest_effect, active_effect, effect_map, IsOneOf}
use Rattle.vab_model.specs.Machine.{machine_effect, unless, cancelled as cancelled_state}
use Rattle.vab_model.specs.Machine.{merging_from as merging_state}
use Rattle.vab_model.specs.Effects.{does, after_of, last_of}
use Rattle.vab_model.specs.Machine.{without_images, with_images, least_missing}
use Rattle.vab_device.specs.Mounted.{Mounted, Places, in_state}
use Rattle.vab_device.specs.Flashed.{flash_effect}
use Rattle.vab_device.specs.Updates.{effect_on, begin_effect, EditOf, Guard, edit_effect}
use Rattle.vab_device.specs.Updates.{no_guard, settled_guard, store_guard, create_edit}
use Rattle.vab_device.specs.Updates.{resize_edit, delete_edit, snapshot_edit}
use Rattle.vab_device.specs.Updates.{cancelled, cancel_effect, begin_merge_effect, merge_effect}
use Rattle.vab_device.specs.Updates.{in_places, with_layout, merging_from, finish_effect}
use Rattle.vab_device.specs.Updates.{complete_effect, update_super}
use Rattle.vab_device.proofs.FlashedLaws.{flash_by_blocks}
use Rattle.vab_session.specs.Alone.{IsAlone, Finds}
use Rattle.vab_session.specs.Source.{IsStagedFrom, IsMergedFrom}
use Rattle.vab_session.proofs.SourceLaws.{still_has, still_none}
use Rattle.vab_session.proofs.SourceLaws as source
use Rattle.vab_session.proofs.OverlayLaws.{if_either, over, overlay_makes, write_makes}
use Rattle.vab_session.proofs.OverlayLaws.{discard_makes}
use Rattle.vab_session.proofs.UntilLaws as until
use Rattle.vab_session.proofs.WipeLaws.{not_wiped, wipe_refused}
use Rattle.vab_rounds.specs.Rounds.{items_in}
use Rattle.vab_rounds.specs.Folds.{Cut, after_items, after_cut, folded}
use Rattle.vab_rounds.specs.Alone.{MeetsBehind}
use Rattle.vab_rounds.specs.Merges.{turns_by_all}
use Rattle.vab_rounds.specs.Ended.{IsMoment, turns_behind, HasEnded}
use Rattle.vab_rounds.specs.Finished.{IsStagedFor, IsReadyFor, HasGiven, IsDropped, IsGivenUp}
use Rattle.vab_rounds.specs.Finished.{IsFinished, given_by, until_moment}
use Rattle.vab_rounds.proofs.Ended.{merges_have_ended}
use Rattle.vab_rounds.proofs.Lasting.{lasts_from}
use Rattle.vab_model.specs.declared.state.Physical.{Physical}
use Rattle.vab_model.specs.Commands.{Keep}
use Rattle.vab_device.proofs.HeldLaws.{held_in, keep_makes}

-- a boot goes to one of the two slots
boot_below : (s : State) (o : Option ℕ)
    → s.control.current < 2
    → chosen_of s.control (has_images s) ≡ o
    → (booted_of s.control (has_images s)).current < 2
boot_below s None below none =
    subst (λ (n : ℕ). n < 2)
    (ap (λ (c : Control). c.current) (sym (booted_none s.control (has_images s) none))) below
boot_below s (Some n) below is =
    subst (λ (k : ℕ). k < 2) (sym (booted_current s.control (has_images s) n is))
    (chosen_is s.control (has_images s) n is).bootable.0

-- what holds of less holds of more
module _ (Stops Stops' Stands Stands' : Mounted → Type 0)
    (apart : (m : Mounted) → Stands m → Stops m → ⊥)
    (apart' : (m : Mounted) → Stands' m → Stops' m → ⊥)
    (stops : (m : Mounted) → Stops m → Stops' m)
    (stands : (m : Mounted) → Stands m → Stands' m) where
  finds_wider : (ms : List Mounted) → Finds Stops ms → Finds Stops' ms
  finds_wider ms found =
      record { mounted = found.mounted; reached = found.reached; is = stops found.mounted found.is }

  until_wider : (ms : List Mounted)
      → until.Until Stops Stands apart ms
      → until.Until Stops' Stands' apart' ms
  until_wider [] is = tt
  until_wider (x ∷ xs) (inl stop) = inl (stops x stop)
  until_wider (x ∷ xs) (inr (here, later)) = inr (stands x here, until_wider xs later)

  makes_wider : (m : Mounted) (later : List Mounted)
      → until.Makes Stops Stands apart m later
      → until.Makes Stops' Stands' apart' m later
  makes_wider m later is = record {
    until = until_wider later is.until;
    last =
        elim is.last [
          | inl last ↦ inl (stands (last_of m later) last)
          | inr found ↦ inr (finds_wider later found)
        ];
  }

-- ---- the images of the slot that was given

given_at : (s : State) (n : ℕ) (given : List ImageOfSlot)
    → n < 2
    → images_at (with_images s n given) n ≡ Some given
given_at s zero given below = refl
given_at s (suc zero) given below = refl
given_at s (suc (suc n)) given below = absurd (omega (arith, below))

same_control : (s : State) (n : ℕ) (given : List ImageOfSlot)
    → (with_images s n given).control ≡ s.control
same_control s n given = by (n == 0)
  where
    by : (b : Bool)
        → (cond {A = State} b (record s { a = Some given }) (record s { b = Some given })).control
        ≡ s.control
    by true = refl
    by false = refl

twice : (n : ℕ) → n < 2 → other_slot (other_slot n) ≡ n
twice n below = omega (arith, below)

module _ (slot : ℕ) (images : List ImageOfSlot) where
  abbrev Stands : Mounted → Type 0
  Stands m = HasGiven slot images m

  abbrev Stops : Mounted → Type 0
  Stops m = IsGivenUp slot images m

  not_merged : (phase : Phase) → IsStagedFor slot phase → IsMergedFrom slot phase → ⊥
  not_merged Idle is merged = is
  not_merged (Installing from plan) is merged = is
  not_merged (Staged from left) is merged = merged
  not_merged (Merging target left) is merged = is

  some_none : (o : Option (List ImageOfSlot)) → o ≡ Some images → o ≡ None → ⊥
  some_none o is none = let both : Some images ≡ None = sym is ∙ none in cc

  apart : (m : Mounted) → Stands m → Stops m → ⊥
  apart m (inl ready) (inl dropped) = some_none _ ready.has dropped.none
  apart m (inl ready) (inr (inl merged)) = not_merged m.state.phase ready.ready merged
  apart m (inl ready) (inr (inr wiped)) = not_wiped slot images m ready.has wiped
  apart m (inr kept) (inl dropped) =
      some_none _ (source.has_images_still slot images m kept) dropped.none
  apart m (inr kept) (inr gone) = source.apart slot images m kept gone

  abbrev Makes : Mounted → List Mounted → Type 0
  Makes m later = until.Makes Stops Stands apart m later

  nothing : (m : Mounted) → Stands m → Makes m []
  nothing m stands = until.made_nothing Stops Stands apart m stands

  one : (m x : Mounted) → Stands m → Stands x → Makes m (x ∷ [])
  one m x stands next = until.made_all Stops Stands apart m (x ∷ []) stands by
    where
      by : (y : Mounted) → IsOneOf (x ∷ []) y → Stands y
      by y (inl here) = subst Stands (sym here) next
      by y (inr none) = absurd none

  -- a row of the machine that is refused, unless a test holds
  tested : (m : Mounted) (places : Places) (b : Bool) (refusal : Refusal) (e : Effect State)
      → Stands m
      → (b ≡ true → Makes m (effect_map (in_places places) e).later)
      → Makes m (effect_map (in_places places) (unless b refusal e)).later
  tested m places true refusal e stands holds = holds refl
  tested m places false refusal e stands holds = nothing m stands

  with_boot : (m : Mounted) (c : Control)
      → c.current < 2
      → IsReadyFor slot images m
      → Stands (in_state m (with_control c m.state))
  with_boot m c runs is =
      inl (record { below = is.below; runs = runs; has = is.has; ready = is.ready })

  activates : (m : Mounted) (has : Bool) (n : ℕ)
      → IsReadyFor slot images m
      → Makes m
      (effect_map (in_state m) (active_effect has m.state (activated_of m.state.control n))).later
  activates m true n is =
      one m _ (inl is)
      (with_boot m (activated_of m.state.control n)
      (subst (λ (k : ℕ). k < 2) (sym (activated_current m.state.control n)) is.runs) is)
  activates m false n is = nothing m (inl is)

  prints : (m : Mounted) (name : List ℕ) (f : Found)
      → IsReadyFor slot images m
      → Makes m (effect_map (in_state m) (print_effect name f)).later
  prints m name (Image_is image) is = nothing m (inl is)
  prints m name (Refused_by refusal) is = nothing m (inl is)

  digests : (m : Mounted) (f : Found)
      → IsReadyFor slot images m
      → Makes m (effect_map (in_state m) (digest_effect f)).later
  digests m (Image_is image) is = nothing m (inl is)
  digests m (Refused_by refusal) is = nothing m (inl is)

  begins : (m : Mounted) (apart : Bool) (phase : Phase)
      → IsStagedFor slot phase
      → IsReadyFor slot images m
      → Makes m (begin_effect m apart phase).later
  begins m apart Idle at is = absurd at
  begins m apart (Installing from plan) at is = absurd at
  begins m apart (Staged from left) at is = nothing m (inl is)
  begins m apart (Merging target left) at is = absurd at

  edits : (m : Mounted) (guard : Guard) (edit : EditOf) (phase : Phase)
      → IsStagedFor slot phase
      → IsReadyFor slot images m
      → Makes m (edit_effect m guard edit phase).later
  edits m guard edit Idle at is = absurd at
  edits m guard edit (Installing from plan) at is = absurd at
  edits m guard edit (Staged from left) at is = nothing m (inl is)
  edits m guard edit (Merging target left) at is = absurd at

  flashes : (m : Mounted) (staged : Option (List ℕ)) (name : List ℕ) (k : Chunk) (phase : Phase)
      → IsStagedFor slot phase
      → IsReadyFor slot images m
      → Makes m (flash_effect m staged name k phase).later
  flashes m staged name k Idle at is = absurd at
  flashes m staged name k (Installing from plan) at is = absurd at
  flashes m staged name k (Staged from left) at is = nothing m (inl is)
  flashes m staged name k (Merging target left) at is = absurd at

  finishes : (m : Mounted) (phase : Phase)
      → IsStagedFor slot phase
      → IsReadyFor slot images m
      → Makes m (finish_effect m phase).later
  finishes m Idle at is = absurd at
  finishes m (Installing from plan) at is = absurd at
  finishes m (Staged from left) at is = nothing m (inl is)
  finishes m (Merging target left) at is = absurd at

  merges : (m : Mounted) (blocks : ℕ) (phase : Phase)
      → IsStagedFor slot phase
      → IsReadyFor slot images m
      → Makes m (merge_effect m blocks phase).later
  merges m blocks Idle at is = absurd at
  merges m blocks (Installing from plan) at is = absurd at
  merges m blocks (Staged from left) at is = nothing m (inl is)
  merges m blocks (Merging target left) at is = absurd at

  not_idle : (phase : Phase) → IsStagedFor slot phase → phase ≡ Idle → ⊥
  not_idle phase at idle = subst (IsStagedFor slot) idle at

  wipes : (m : Mounted) (staged : Option (List ℕ))
      → IsReadyFor slot images m
      → Makes m (effect_on m staged UpdateSuper).later
  wipes m staged is =
      if_either (λ e. Makes m e.later) m.state.overlay
      (update_super m m.state.control.current staged m.state.phase) (nothing m (inl is))
      (subst (λ (l : List Mounted). Makes m l)
      (sym (wipe_refused m m.state.control.current staged m.state.phase
      (not_idle m.state.phase is.ready)))
      (nothing m (inl is)))

  with_over : (m : Mounted) (o : Option OverlayOf)
      → IsReadyFor slot images m
      → Makes m (over m o ∷ [])
  with_over m o is =
      one m (over m o) (inl is)
      (inl (record { below = is.below; runs = is.runs; has = is.has; ready = is.ready }))

  with_held : (m : Mounted) (ps : List Physical)
      → IsReadyFor slot images m
      → Makes m (held_in m ps ∷ [])
  with_held m ps is =
      one m (held_in m ps) (inl is)
      (inl (record { below = is.below; runs = is.runs; has = is.has; ready = is.ready }))

  -- dropped: the target has no images any more
  dropped : (m : Mounted) (from : ℕ)
      → from ≡ other_slot slot
      → IsReadyFor slot images m
      → IsDropped slot (cancelled m from)
  dropped m from at is =
      subst (λ (n : ℕ). IsDropped slot (cancelled m n)) (sym at) (record {
        idle = refl;
        none =
            subst
            (λ (n : ℕ). images_at (without_images m.state (other_slot (other_slot slot))) n ≡ None)
            (twice slot is.below)
            (still_none m.state (other_slot slot) (omega arith));
      })

  cancels : (m : Mounted) (phase : Phase)
      → IsStagedFor slot phase
      → IsReadyFor slot images m
      → Makes m (cancel_effect m phase).later
  cancels m Idle at is = absurd at
  cancels m (Installing from plan) at is = absurd at
  cancels m (Staged from left) at is =
      tested m (with_layout m.places (other_slot from) None)
      (m.state.control.current == from) refusals.RunningTarget
      (does replies.Done (cancelled_state m.state from)) (inl is)
      (λ runs.
      until.made_stop Stops Stands apart m (cancelled m from) (inl (dropped m from at is)))
  cancels m (Merging target left) at is = absurd at

  -- its merge begins: it alone has images
  alone_then : (m : Mounted) (from left : ℕ)
      → from ≡ other_slot slot
      → (m.state.control.current == from) ≡ false
      → IsReadyFor slot images m
      → IsAlone slot images (merging_from m from left)
  alone_then m from left at other is =
      subst (λ (n : ℕ). IsAlone slot images (merging_from m n left)) (sym at) (record {
        below = is.below;
        current =
            let test : (m.state.control.current == other_slot slot) ≡ false =
            subst (λ (n : ℕ). (m.state.control.current == n) ≡ false) at other in
            current_is m.state.control.current is.runs is.below test;
        has = still_has m.state slot is.below ∙ is.has;
        other = still_none m.state slot is.below;
        unready = twice slot is.below;
      })
    where
      current_is : (n : ℕ)
          → n < 2
          → slot < 2
          → (n == other_slot slot) ≡ false
          → n ≡ slot
      current_is n below own test =
          let apart : n ≡ other_slot slot → ⊥ = grind (arith, nat_tests) in
          omega (arith, below, own, apart)

  merge_begins : (m : Mounted) (phase : Phase)
      → IsStagedFor slot phase
      → IsReadyFor slot images m
      → Makes m (begin_merge_effect m phase).later
  merge_begins m Idle at is = absurd at
  merge_begins m (Installing from plan) at is = absurd at
  merge_begins m (Staged from left) at is =
      let marked : Bool = (info_at m.state.control (other_slot from)).successful in
      let begun : Effect State = does replies.Done (merging_state m.state from left) in
      let places : Places = with_layout m.places from None in
      tested m places (not (m.state.control.current == from)) refusals.NotRunningTarget
      (unless marked refusals.NotSuccessful begun) (inl is)
      (λ other.
      tested m places marked refusals.NotSuccessful begun (inl is)
      (λ yes.
      one m (merging_from m from left) (inl is)
      (inr (inl (alone_then m from left at (not-true _ other) is)))))
  merge_begins m (Merging target left) at is = absurd at

  ready_makes : (m : Mounted) (staged : Option (List ℕ)) (c : Command)
      → IsReadyFor slot images m
      → Makes m (effect_on m staged c).later
  unfolding machine_effect
  ready_makes m staged (SetActive n) is = activates m (is_some (images_at m.state n)) n is
  ready_makes m staged Boot is =
      one m _ (inl is)
      (with_boot m (booted_of m.state.control (has_images m.state))
      (boot_below m.state (chosen_of m.state.control (has_images m.state)) is.runs refl) is)
  ready_makes m staged Mark is =
      one m _ (inl is)
      (with_boot m (marked_of m.state.control)
      (subst (λ (k : ℕ). k < 2) (sym (marked_current m.state.control)) is.runs) is)
  ready_makes m staged (Print name) is = prints m name (found_of m.state name) is
  ready_makes m staged (Digest name) is = digests m (found_of m.state name) is
  ready_makes m staged Begin is =
      if_either (λ e. Makes m e.later) m.state.overlay (begin_effect m false m.state.phase)
      (nothing m (inl is)) (begins m false m.state.phase is.ready is)
  ready_makes m staged Factory is =
      if_either (λ e. Makes m e.later) m.state.overlay (begin_effect m true m.state.phase)
      (nothing m (inl is)) (begins m true m.state.phase is.ready is)
  ready_makes m staged (Create name size) is =
      edits m no_guard (create_edit name size) m.state.phase is.ready is
  ready_makes m staged (Resize name size) is =
      edits m (settled_guard (nat_le size (2 ^ 40)) name) (resize_edit name size) m.state.phase
      is.ready is
  ready_makes m staged (Delete name) is =
      edits m (settled_guard true name) (delete_edit name) m.state.phase is.ready is
  ready_makes m staged (Snapshot name size) is =
      edits m store_guard (snapshot_edit name size) m.state.phase is.ready is
  ready_makes m staged (Flash name chunk) is =
      subst (λ (e : Effect Mounted). Makes m e.later)
      (sym (flash_by_blocks m staged name chunk))
      (flashes m staged name chunk m.state.phase is.ready is)
  ready_makes m staged (Keep name) is =
      keep_makes m (λ x. Makes m x.later) (λ r. nothing m (inl is)) (λ ps. with_held m ps is)
      staged name
  ready_makes m staged Finish is = finishes m m.state.phase is.ready is
  ready_makes m staged Cancel is = cancels m m.state.phase is.ready is
  ready_makes m staged BeginMerge is = merge_begins m m.state.phase is.ready is
  ready_makes m staged (Merge blocks) is = merges m blocks m.state.phase is.ready is
  ready_makes m staged UpdateSuper is = wipes m staged is
  ready_makes m staged (Overlay name size) is =
      overlay_makes m (Makes m) (nothing m (inl is)) (λ o. with_over m o is) staged name size
  ready_makes m staged (OverlayWrite block) is =
      write_makes m (Makes m) (nothing m (inl is)) (λ o. with_over m o is) staged block
  ready_makes m staged OverlayDiscard is =
      discard_makes m (Makes m) (nothing m (inl is)) (λ o. with_over m o is) staged

  commands : (m : Mounted) (staged : Option (List ℕ)) (c : Command)
      → Stands m
      → Makes m (effect_on m staged c).later
  commands m staged c (inl ready) = ready_makes m staged c ready
  commands m staged c (inr kept) =
      makes_wider (source.Gone slot images) Stops (source.Stands slot images) Stands
      (source.apart slot images) apart (λ x gone. inr gone) (λ x has. inr has) m
      (effect_on m staged c).later (source.command_makes slot images m staged c kept)

  has_given : (m : Mounted) → Stands m → images_at m.state slot ≡ Some images
  has_given m (inl ready) = ready.has
  has_given m (inr kept) = source.has_images_still slot images m kept

  -- where its merge is under way it alone has images
  ready_merging : (phase : Phase) (left : ℕ)
      → phase ≡ Merging slot left
      → IsStagedFor slot phase
      → ⊥
  ready_merging phase left is ready = subst (IsStagedFor slot) is ready

  from_merging : (phase : Phase) (left : ℕ)
      → phase ≡ Merging slot left
      → IsStagedFrom slot phase
      → ⊥
  from_merging phase left is ready = subst (IsStagedFrom slot) is ready

  merging_alone : (m : Mounted) (left : ℕ)
      → m.state.phase ≡ Merging slot left
      → Stands m
      → IsAlone slot images m
  merging_alone m left is (inl ready) = absurd (ready_merging m.state.phase left is ready.ready)
  merging_alone m left is (inr (inl alone)) = alone
  merging_alone m left is (inr (inr ready)) =
      absurd (from_merging m.state.phase left is ready.ready)

-- ---- behind the end of an installation

completes : (before : Mounted) (from : ℕ) (plan : Plan) (least : Option (List ℕ))
    → from < 2
    → before.state.control.current < 2
    → (complete_effect before from plan least).reply ≡ replies.Done
    → HasGiven (other_slot from) (given_by before from plan)
    (after_of before (complete_effect before from plan least))
completes before from plan None below runs done = inl (record {
  below = omega arith;
  runs =
      subst (λ (c : Control). c.current < 2)
      (sym (same_control before.state (other_slot from) (given_by before from plan))) runs;
  has = given_at before.state (other_slot from) (given_by before from plan) (omega arith);
  ready = sym (twice from below);
})
completes before from plan (Some name) below runs done = absurd cc

behind_finish : (before next : Mounted) (from : ℕ) (plan : Plan)
    → IsFinished from plan before next
    → HasGiven (other_slot from) (given_by before from plan) next
behind_finish before next from plan is =
    let effect_is : effect_on before is.staged Finish
    ≡ complete_effect before from plan (least_missing before.state from plan) =
    ap (finish_effect before) is.was in
    subst (HasGiven (other_slot from) (given_by before from plan))
    (sym (is.is ∙ ap (after_of before) effect_is))
    (completes before from plan (least_missing before.state from plan) is.alone.below
    (subst (λ (n : ℕ). n < 2) (sym is.alone.current) is.alone.below)
    (ap (λ (e : Effect Mounted). e.reply) (sym effect_is) ∙ is.done))

lasting : (first : Mounted) (c : Cut) (cs : List Cut) (from slot : ℕ)
    (plan : Plan) (before : Mounted)
    → from ≤ c.whole
    → IsFinished slot plan before (after_items first (items_in first c.run) from)
    → HasGiven (other_slot slot) (given_by before slot plan) (folded first (c ∷ cs))
    ⊎ MeetsBehind (IsGivenUp (other_slot slot) (given_by before slot plan)) first from (c ∷ cs)
lasting first c cs from slot plan before below is =
    let given : List ImageOfSlot = given_by before slot plan in
    let target : ℕ = other_slot slot in
    lasts_from (Stops target given) (Stands target given) (apart target given)
    (commands target given) first c cs from below
    (behind_finish before (after_items first (items_in first c.run) from) slot plan is)

pub finished_last : (first : Mounted) (c : Cut) (cs : List Cut) (from slot : ℕ)
    (plan : Plan) (before : Mounted)
    → from ≤ c.whole
    → IsFinished slot plan before (after_items first (items_in first c.run) from)
    → ((images_at (folded first (c ∷ cs)).state (other_slot slot)
    ≡ Some (given_by before slot plan))
    × HasGiven (other_slot slot) (given_by before slot plan) (folded first (c ∷ cs)))
    ⊎ MeetsBehind (IsGivenUp (other_slot slot) (given_by before slot plan)) first from (c ∷ cs)
finished_last first c cs from slot plan before below is =
    elim (lasting first c cs from slot plan before below is) [
      | inl last ↦
          inl (
            has_given (other_slot slot) (given_by before slot plan) (folded first (c ∷ cs)) last,
            last,
          )
      | inr some ↦ inr some
    ]

-- ---- the end of the merge

-- the device at a moment
folded_until : (first : Mounted) (earlier : List Cut) (d : Cut) (at : ℕ)
    → folded first (earlier ++ until_moment d at ∷ [])
    ≡ after_items (folded first earlier) (items_in (folded first earlier) d.run) at
folded_until first [] d at = refl
folded_until first (c ∷ cs) d at = folded_until (after_cut first c) cs d at

pub finished_merged : (first : Mounted) (c : Cut) (cs : List Cut) (from slot : ℕ)
    (plan : Plan) (before : Mounted)
    (earlier : List Cut) (d : Cut) (at : ℕ) (later : List Cut) (left : ℕ)
    → from ≤ c.whole
    → IsFinished slot plan before (after_items first (items_in first c.run) from)
    → c ∷ cs ≡ earlier ++ until_moment d at ∷ []
    → IsMoment at d.run
    → at ≤ d.whole
    → (let there : Mounted = folded first earlier in
    (after_items there (items_in there d.run) at).state.phase ≡ Merging (other_slot slot) left
    → left < turns_behind there at d.whole d.run + turns_by_all (after_cut there d) later
    → HasEnded (other_slot slot) (given_by before slot plan) there at (d ∷ later)
    ⊎ MeetsBehind (IsGivenUp (other_slot slot) (given_by before slot plan)) first from (c ∷ cs))
finished_merged first c cs from slot plan before earlier d at later left below is same moment some
    phase many =
    let there : Mounted = folded first earlier in
    let given : List ImageOfSlot = given_by before slot plan in
    let target : ℕ = other_slot slot in
    let here : folded first (c ∷ cs) ≡ after_items there (items_in there d.run) at =
    ap (folded first) same ∙ folded_until first earlier d at in
    elim (lasting first c cs from slot plan before below is) [
      | inl last ↦
          inl (merges_have_ended there d later at moment some target left given phase
          (merging_alone target given (after_items there (items_in there d.run) at) left phase
          (subst (HasGiven target given) here last))
          many)
      | inr given_up ↦ inr given_up
    ]
