-- A merge of some blocks, by its turns and its end.
use Rattle.std.proofs.Common.{◌≡◌, ◌≢◌, ◌∙◌, inl, inr, ⊎_elim, ℕ, ◌+◌, ◌-◌, ◌≤◌, ◌<◌, List, []}
use Rattle.std.proofs.Common.{◌∷◌, Result}
use Rattle.std.proofs.Common.{Ok, Err, sym, ap, subst, arith, false}
use Rattle.std.specs.Prelude.{Option}
use Rattle.vab_disk.specs.declared.disk.Disk.{Ghosts}
use Rattle.vab_disk.specs.Disk.{Adds, Outcome}
use Rattle.vab_disk.specs.Calls.{InSectors, IsAtRest, IsQuiet, Touches}
use Rattle.vab_disk.proofs.CallLaws.{quiet_then, touches_on, touches_wider, failed_then}
use Rattle.vab_disk.proofs.Moments.{adds_on, adds_wider}
use Rattle.vab_gate.specs.declared.gate.DiskFault.{DiskFault}
use Rattle.vab_marks.specs.declared.mark.MarkPhase.TheVariants as marks
use Rattle.vab_marks.specs.declared.mark.UpdateMark.{UpdateMark}
use Rattle.vab_marks.specs.Mark.{mark_spelling, rephased}
use Rattle.vab_model.specs.declared.command.Reply.{Reply}
use Rattle.vab_model.specs.declared.command.Reply.TheVariants as replies
use Rattle.vab_model.specs.declared.state.Phase.TheVariants.{Merging}
use Rattle.vab_model.specs.Commands.{Merge}
use Rattle.vab_model.specs.Effects.{Effect, steps_of, after_of, IsOneOf}
use Rattle.vab_device.specs.declared.device.Device.{Device}
use Rattle.vab_device.specs.Does.{Does, LeavesStep, effect_of}
use Rattle.vab_device.specs.Kept.{IsDevice}
use Rattle.vab_device.specs.Mounted.{Mounted, mounted_on, count_at}
use Rattle.vab_device.specs.Reading.{device, Represents}
use Rattle.vab_device.specs.Updates.{merged_to, merge_ended, merge_effect}
use Rattle.vab_merging.specs.Ends.{EndsMerge}
use Rattle.vab_merging.specs.GateWrites.{IsOfMergeEnd}
use Rattle.vab_merging.specs.Run.{LeavesTurns}
use Rattle.vab_merging.specs.Turns.{left_in}
use Rattle.vab_merging.specs.RunWrites.{IsOfTurns}
use Rattle.vab_merging.proofs.OwnLaws.{left_both}
use Rattle.vab_merging.proofs.TurnLaws.{turned_beside, turned_mark}
use Rattle.vab_merging.specs.Made.{MakesSome}
use Rattle.vab_merging.specs.Writes.{IsOfMerge}
use Rattle.vab_merging.proofs.EffectLaws.{phase_is, effect_is}
use Rattle.vab_merging.proofs.LeftLaws.{none_left}
use Rattle.vab_merging.proofs.StepLaws.{merged_self, last_left, last_ended, step_left, step_ended}
use Rattle.vab_merging.proofs.StepLaws.{turns_none, reply_left, reply_merged}

module _ {D : Type 0} (g : Ghosts D) (first : Device) (staged : Option (List ℕ)) (blocks : ℕ)
    (old : D)
    (dev : IsDevice first (g.size old))
    (merging : first.mark.phase ≡ marks.Merging) where
  abbrev was : Mounted
  was = mounted_on first (g.seen old)

  abbrev slot : ℕ
  slot = first.mark.slot

  abbrev all : ℕ
  all = left_in first

  abbrev effect : Effect Mounted
  effect = effect_of g first staged (Merge blocks) false old

  is : effect ≡ merge_effect was blocks (Merging slot all)
  is = effect_is first (g.size old) (g.seen old) staged blocks dev merging

  self : was ≡ merged_to was slot all
  self = merged_self was slot all (phase_is first (g.size old) (g.seen old) dev merging)

  -- the device after some turns is one of the steps
  step : (made : ℕ)
      → made ≤ blocks
      → made ≤ all
      → IsOneOf (steps_of was effect) (merged_to was slot (all - made))
  step made some within =
      subst
      (λ (e : Effect Mounted). IsOneOf (steps_of was e) (merged_to was slot (all - made)))
      (sym is)
      (step_left made blocks was was slot all some within self)

  leaves_step : (o : Outcome)
      → LeavesTurns (g.told old) (g.size old) was slot blocks all o
      → LeavesStep (g.told old) (g.size old) (steps_of was effect) o
  leaves_step o l = record {
    told_so_far = l.told_so_far;
    mounted = merged_to was slot (all - l.made);
    step = step l.made l.at_most l.within;
    means = l.means;
  }

  of_turns : (s : ℕ) (b : List ℕ) → IsOfTurns blocks first s → IsOfMerge first blocks s b
  of_turns s b w = record { merging = merging; writes = inl w }

  none_asked : effect.later ≡ [] → blocks ≡ 0
  none_asked none =
      turns_none blocks was slot all (sym (ap (λ (e : Effect Mounted). e.later) is) ∙ none)

  abbrev Merges : D → Result (Device × Reply) DiskFault → Type 0
  Merges new result = Does g first staged (Merge blocks) (IsOfMerge first blocks) old new result

  -- the disk fails in a turn
  pub fails_turns : (fault : DiskFault) (new : D)
      → MakesSome g first blocks old new (Err fault)
      → Merges new (Err fault)
  fails_turns fault new made = record {
    refused = false;
    kept = tt;
    follows = tt;
    represents = λ t. tt;
    after = λ t. tt;
    reply = λ t. tt;
    rest = λ t rest. tt;
    quiet = made.quiet;
    still = λ t none. made.reads (none_asked none);
    touches = λ t.
        touches_wider g (IsOfMerge first blocks) (InSectors (IsOfTurns blocks first)) old new
        (made.touches t) of_turns;
    time = λ t rest.
        adds_wider g.moment g.outcomes old new _ _ (made.time t rest) leaves_step;
    faults = record { steady = tt; cause = made.faults.cause };
  }

  module _ (d : Device) (more : ℕ) (mid : D)
      (made : MakesSome g first blocks old mid (Ok (d, more))) where
    phase : d.mark.phase ≡ marks.Merging
    phase =
        ap (λ (x : Device). x.mark.phase) made.is
        ∙ ap (λ (m : UpdateMark). m.phase) (turned_mark (blocks - more) first)
        ∙ merging

    own_mark : d.mark ≡ first.mark
    own_mark =
        ap (λ (x : Device). x.mark) made.is ∙ turned_mark (blocks - more) first

    geometry : d.geometry ≡ first.geometry
    geometry =
        ap (λ (x : Device). x.geometry) made.is
        ∙ (turned_beside (blocks - more) first).geometry

    pub phase_after : d.mark.phase ≡ marks.Merging
    phase_after = phase

    pub kept_after : IsDevice d (g.size mid)
    kept_after = subst (λ (n : ℕ). IsDevice d n) (sym made.quiet.size) made.kept

    pub represents_after : g.is_modelled → Represents d (g.size mid) (g.seen mid)
    represents_after t =
        subst (λ (n : ℕ). Represents d n (g.seen mid)) (sym made.quiet.size) (made.represents t)

    -- where more turns are asked for than were made, no exception is left
    pub none_after : 0 < more → g.is_modelled → count_at d.a + count_at d.b ≡ 0
    none_after some t =
        left_both d (g.size old) made.kept phase
        ∙ none_left d (g.size old) (g.seen mid) (made.represents t) made.kept phase
        (made.none some)

    fewer : 0 < more → g.is_modelled → all < blocks
    fewer some t =
        let none = sym (left_both d (g.size old) made.kept phase) ∙ none_after some t in
        let means = made.means t in
        let within = means.0 in
        let left = means.1 in
        omega (arith, none, within, left, some, made.at_most)

    -- more turns were asked for
    more_asked : 0 < more → effect.later ≢ []
    more_asked some none =
        let zero = none_asked none in
        omega (arith, zero, some, made.at_most)

    -- ---- the merge ends

    module _ (some : 0 < more) (result : Result Device DiskFault) (new : D)
        (ends : EndsMerge g d mid new result) where
      both_quiet : IsQuiet g old new
      both_quiet = quiet_then g old mid new made.quiet ends.quiet

      of_end : g.is_modelled
          → (s : ℕ) (b : List ℕ)
          → IsOfMergeEnd d s b
          → IsOfMerge first blocks s b
      of_end t s b w = record {
        merging = merging;
        writes =
            inr (
              fewer some t,
              (
                w.0,
                w.1 ∙ ap (λ (m : UpdateMark). mark_spelling (rephased marks.Completed m)) own_mark,
              ),
            );
      }

      both_touches : g.is_modelled → Touches g (IsOfMerge first blocks) old new
      both_touches t =
          touches_on g (InSectors (IsOfTurns blocks first)) (IsOfMergeEnd d)
          (IsOfMerge first blocks) old mid new (made.touches t) ends.touches of_turns (of_end t)

      end_step : g.is_modelled → IsOneOf (steps_of was effect) (merge_ended was)
      end_step t =
          subst (λ (e : Effect Mounted). IsOneOf (steps_of was e) (merge_ended was)) (sym is)
          (step_ended blocks was was slot all (fewer some t))

      leaves_end : (o : Outcome)
          → g.is_modelled
          → LeavesStep (g.told mid) (g.size mid)
          (mounted_on d (g.seen mid) ∷ merge_ended (mounted_on d (g.seen mid)) ∷ []) o
          → LeavesStep (g.told old) (g.size old) (steps_of was effect) o
      leaves_end o t l =
          let means = made.means t in
          record {
            told_so_far = l.told_so_far ∙ made.quiet.told t;
            mounted = l.mounted;
            step =
                ⊎_elim
                (λ (before : l.mounted ≡ mounted_on d (g.seen mid)).
                subst (IsOneOf (steps_of was effect)) (sym (before ∙ means.2))
                (step (blocks - more) (omega arith) means.0))
                (λ later.
                ⊎_elim
                (λ (after : l.mounted ≡ merge_ended (mounted_on d (g.seen mid))).
                subst (IsOneOf (steps_of was effect))
                (sym (after ∙ ap merge_ended means.2))
                (end_step t))
                (λ none. absurd none)
                later)
                l.step;
            means = ap (λ (n : ℕ). device n o.image) (sym made.quiet.size) ∙ l.means;
          }

      both_time : g.is_modelled
          → IsAtRest g old
          → Adds g.moment g.outcomes old new
          (LeavesStep (g.told old) (g.size old) (steps_of was effect))
      both_time t rest =
          adds_on g.moment g.outcomes old mid new _ _
          (adds_wider g.moment g.outcomes old mid _ _ (made.time t rest) leaves_step)
          (ends.time t (made.rest t rest)) (λ o l. leaves_end o t l)

    -- the disk fails at the end
    pub fails_end : (fault : DiskFault) (new : D)
        → 0 < more
        → EndsMerge g d mid new (Err fault)
        → Merges new (Err fault)
    fails_end fault new some ends = record {
      refused = false;
      kept = tt;
      follows = tt;
      represents = λ t. tt;
      after = λ t. tt;
      reply = λ t. tt;
      rest = λ t rest. tt;
      quiet = both_quiet some (Err fault) new ends;
      still = λ t none. absurd (more_asked some none);
      touches = both_touches some (Err fault) new ends;
      time = both_time some (Err fault) new ends;
      faults = record {
        steady = tt;
        cause = failed_then (g.faults old) (g.faults mid) (g.faults new) made.faults.steady
            ends.faults.cause;
      };
    }

    -- the update is merged
    pub does_end : (r : Device) (new : D)
        → 0 < more
        → EndsMerge g d mid new (Ok r)
        → Merges new (Ok (r, replies.Merged))
    does_end r new some ends = record {
      refused = false;
      kept = subst (λ (n : ℕ). IsDevice r n) made.quiet.size ends.kept;
      follows = record {
        geometry = ap (λ (x : Device). x.geometry) ends.is ∙ geometry;
        source = λ no. absurd cc;
      };
      represents = λ t.
          subst (λ (n : ℕ). Represents r n (g.seen new)) made.quiet.size (ends.represents t);
      after = λ t.
          ends.means t
          ∙ ap merge_ended (made.means t).2
          ∙ sym (last_ended blocks was was slot all (fewer some t))
          ∙ ap (after_of was) (sym is);
      reply = λ t.
          sym (reply_merged blocks all (fewer some t))
          ∙ ap (λ (e : Effect Mounted). e.reply) (sym is);
      rest = λ t rest. ends.rest t;
      quiet = both_quiet some (Ok r) new ends;
      still = λ t none. absurd (more_asked some none);
      touches = both_touches some (Ok r) new ends;
      time = both_time some (Ok r) new ends;
      faults = record { steady = ends.faults.steady ∙ made.faults.steady; cause = tt };
    }

  -- so many are left
  pub does_turns : (d : Device) (count : ℕ) (new : D)
      → MakesSome g first blocks old new (Ok (d, 0))
      → count ≡ count_at d.a + count_at d.b
      → Merges new (Ok (d, replies.Left count))
  does_turns d count new made is_count =
      let none : blocks - 0 ≡ blocks = omega arith in
      let counted = is_count ∙ left_both d (g.size old) made.kept (phase d 0 new made) in
      record {
        refused = false;
        kept = made.kept;
        follows = record { geometry = geometry d 0 new made; source = λ no. absurd cc };
        represents = made.represents;
        after = λ t.
            let means = made.means t in
            let within = means.0 in
            means.2
            ∙ ap (λ (n : ℕ). merged_to was slot (all - n)) none
            ∙ sym (last_left blocks was was slot all (omega (arith, within)) self)
            ∙ ap (after_of was) (sym is);
        reply = λ t.
            let means = made.means t in
            let within = means.0 in
            let left = means.1 in
            ap replies.Left (let e : count ≡ all - blocks = omega (arith, counted, left) in e)
            ∙ sym (reply_left blocks all (omega (arith, within)))
            ∙ ap (λ (e : Effect Mounted). e.reply) (sym is);
        rest = made.rest;
        quiet = made.quiet;
        still = λ t none. made.reads (none_asked none);
        touches = λ t.
            touches_wider g (IsOfMerge first blocks) (InSectors (IsOfTurns blocks first)) old new
            (made.touches t) of_turns;
        time = λ t rest.
            adds_wider g.moment g.outcomes old new _ _ (made.time t rest) leaves_step;
        faults = record { steady = made.faults.steady; cause = tt };
      }
