-- Turns that are made so far, and the next of them.
use Rattle.std.proofs.Common.{◌≡◌, ◌∙◌, ℕ, ◌+◌, ◌-◌, ◌≤◌, ◌<◌, Result, Ok, Err, refl}
use Rattle.std.proofs.Common.{sym, ap, subst, arith}
use Rattle.vab_disk.specs.declared.disk.Disk.{Ghosts}
use Rattle.vab_disk.specs.Disk.{Adds, Outcome}
use Rattle.vab_disk.specs.Calls.{InSectors, IsAtRest, IsQuiet, OnlyReads, Touches}
use Rattle.vab_disk.proofs.CallLaws.{quiet_none, quiet_then, reads_none, touches_none, touches_on}
use Rattle.vab_disk.proofs.CallLaws.{failed_then}
use Rattle.vab_disk.proofs.Moments.{adds_none, adds_on}
use Rattle.vab_gate.specs.declared.gate.DiskFault.{DiskFault}
use Rattle.vab_marks.specs.declared.mark.MarkPhase.TheVariants as marks
use Rattle.vab_marks.specs.declared.mark.UpdateMark.{UpdateMark}
use Rattle.vab_device.specs.declared.device.Device.{Device}
use Rattle.vab_device.specs.Kept.{IsDevice}
use Rattle.vab_device.specs.Mounted.{Mounted, mounted_on}
use Rattle.vab_device.specs.Reading.{device, Represents}
use Rattle.vab_device.specs.Updates.{merged_to}
use Rattle.vab_merging.specs.Run.{LeavesTurns, MakesTurns}
use Rattle.vab_merging.specs.Turns.{next_of, turned, left_in}
use Rattle.vab_merging.specs.RunWrites.{IsOfTurn, IsOfTurns}
use Rattle.vab_merging.proofs.TurnLaws.{turned_zero, turned_more, turned_mark}
use Rattle.vab_merging.specs.Made.{MakesSome}
use Rattle.vab_merging.proofs.EffectLaws.{phase_is}
use Rattle.vab_merging.proofs.StepLaws.{merged_self}

-- So many turns of those that are asked for are made, and this is the device after them.
pub record SoFar {D : Type 0}
    (g : Ghosts D)
    (first : Device)
    (blocks done : ℕ)
    (old now : D)
    (d : Device) : Type 0 where
  pub at_most : done ≤ blocks
  pub is : d ≡ turned done first
  pub merging : d.mark.phase ≡ marks.Merging
  pub kept : IsDevice d (g.size old)
  pub represents : g.is_modelled → Represents d (g.size old) (g.seen now)
  pub within : g.is_modelled → done ≤ left_in first
  pub left : g.is_modelled → left_in d ≡ left_in first - done
  pub means : g.is_modelled
      → mounted_on d (g.seen now)
      ≡ merged_to (mounted_on first (g.seen old)) first.mark.slot (left_in first - done)
  pub reads : done ≡ 0 → OnlyReads g old now
  pub rest : g.is_modelled → IsAtRest g old → IsAtRest g now
  pub quiet : IsQuiet g old now
  pub touches : g.is_modelled → Touches g (InSectors (IsOfTurns blocks first)) old now
  pub time : g.is_modelled
      → IsAtRest g old
      → Adds g.moment g.outcomes old now
      (LeavesTurns (g.told old) (g.size old) (mounted_on first (g.seen old)) first.mark.slot
      blocks (left_in first))
  pub steady : g.faults now ≡ g.faults old

-- so many left of a device with others left
merged_again : (m x : Mounted) (slot own k j left : ℕ)
    → x ≡ merged_to m slot k
    → own ≡ slot
    → j ≡ left
    → merged_to x own j ≡ merged_to m slot left
merged_again m x slot own k j left is same e = (λ i. merged_to (is i) (same i) (e i))

module _ {D : Type 0} (g : Ghosts D) (first : Device) (blocks : ℕ) where
  -- none are made yet
  pub starts : (old : D)
      → IsDevice first (g.size old)
      → (g.is_modelled → Represents first (g.size old) (g.seen old))
      → first.mark.phase ≡ marks.Merging
      → SoFar g first blocks 0 old old first
  starts old dev is merging =
      let none : left_in first ≡ left_in first - 0 = omega arith in
      record {
        at_most = omega arith;
        is = sym (turned_zero first);
        merging = merging;
        kept = dev;
        represents = is;
        within = λ t. omega arith;
        left = λ t. none;
        means = λ t.
            merged_self (mounted_on first (g.seen old)) first.mark.slot (left_in first)
            (phase_is first (g.size old) (g.seen old) dev merging)
            ∙ ap (merged_to (mounted_on first (g.seen old)) first.mark.slot) none;
        reads = λ e. reads_none g old;
        rest = λ t rest. rest;
        quiet = quiet_none g old;
        touches = λ t. touches_none g (InSectors (IsOfTurns blocks first)) old;
        time = λ t rest. adds_none g.moment g.outcomes old _;
        steady = refl;
      }

  module _ (done wanted : ℕ) (old mid new : D) (d : Device)
      (so_far : SoFar g first blocks done old mid d)
      (all : done + wanted ≡ blocks)
      (result : Result (Device × ℕ) DiskFault)
      (run : MakesTurns g d wanted mid new result) where
    size : g.size mid ≡ g.size old
    size = so_far.quiet.size

    slot : d.mark.slot ≡ first.mark.slot
    slot =
        ap (λ (x : Device). x.mark.slot) so_far.is
        ∙ ap (λ (m : UpdateMark). m.slot) (turned_mark done first)

    of_turns : (s : ℕ) → IsOfTurns wanted d s → IsOfTurns blocks first s
    of_turns s w =
        let same : turned w.before d ≡ turned (done + w.before) first =
        ap (turned w.before) so_far.is ∙ sym (turned_more done w.before first) in
        record {
          before = done + w.before;
          below = omega (arith, w.below, all);
          turn = subst (λ (x : Device). IsOfTurn x s) same w.turn;
        }

    leaves : (o : Outcome)
        → g.is_modelled
        → LeavesTurns (g.told mid) (g.size mid) (mounted_on d (g.seen mid)) d.mark.slot wanted
        (left_in d) o
        → LeavesTurns (g.told old) (g.size old) (mounted_on first (g.seen old)) first.mark.slot
        blocks (left_in first) o
    leaves o t l =
        let within = so_far.within t in
        let left = so_far.left t in
        record {
          told_so_far = l.told_so_far ∙ so_far.quiet.told t;
          made = done + l.made;
          at_most = omega (arith, l.at_most, all);
          within = omega (arith, l.within, left, within);
          means =
              ap (λ (n : ℕ). device n o.image) (sym size)
              ∙ l.means
              ∙ ap Ok
              (merged_again (mounted_on first (g.seen old)) (mounted_on d (g.seen mid))
              first.mark.slot d.mark.slot (left_in first - done) (left_in d - l.made)
              (left_in first - (done + l.made)) (so_far.means t) slot
              (omega (arith, left, within)));
        }

    pub then_quiet : IsQuiet g old new
    then_quiet = quiet_then g old mid new so_far.quiet run.quiet

    pub then_touches : g.is_modelled → Touches g (InSectors (IsOfTurns blocks first)) old new
    then_touches t =
        touches_on g (InSectors (IsOfTurns blocks first)) (InSectors (IsOfTurns wanted d))
        (InSectors (IsOfTurns blocks first)) old mid new (so_far.touches t) (run.touches t)
        (λ s b w. w) (λ s b w. of_turns s w)

    pub then_time : g.is_modelled
        → IsAtRest g old
        → Adds g.moment g.outcomes old new
        (LeavesTurns (g.told old) (g.size old) (mounted_on first (g.seen old)) first.mark.slot
        blocks (left_in first))
    then_time t rest =
        adds_on g.moment g.outcomes old mid new _ _ (so_far.time t rest)
        (run.time t (so_far.rest t rest)) (λ o l. leaves o t l)

  module _ (done wanted : ℕ) (old mid new : D) (d : Device)
      (so_far : SoFar g first blocks done old mid d)
      (all : done + wanted ≡ blocks) where
    -- the disk fails
    pub fails : (fault : DiskFault)
        → 0 < wanted
        → MakesTurns g d wanted mid new (Err fault)
        → MakesSome g first blocks old new (Err fault)
    fails fault some run = record {
      at_most = tt;
      is = tt;
      none = tt;
      reads = λ e. absurd (omega (arith, e, some, all));
      kept = tt;
      represents = λ t. tt;
      means = λ t. tt;
      rest = λ t rest. tt;
      quiet = then_quiet done wanted old mid new d so_far all (Err fault) run;
      touches = then_touches done wanted old mid new d so_far all (Err fault) run;
      time = then_time done wanted old mid new d so_far all (Err fault) run;
      faults = record {
        steady = tt;
        cause = failed_then (g.faults old) (g.faults mid) (g.faults new) so_far.steady
            run.faults.cause;
      };
    }

    module _ (next : Device) (made : ℕ) (run : MakesTurns g d wanted mid new (Ok (next, made)))
      where
        abbrev sized : g.size mid ≡ g.size old
        sized = so_far.quiet.size

        next_is : next ≡ turned (done + made) first
        next_is =
            run.is ∙ ap (turned made) so_far.is ∙ sym (turned_more done made first)

        next_phase : next.mark.phase ≡ marks.Merging
        next_phase =
            ap (λ (x : Device). x.mark.phase) run.is
            ∙ ap (λ (m : UpdateMark). m.phase) (turned_mark made d)
            ∙ so_far.merging

        next_slot : d.mark.slot ≡ first.mark.slot
        next_slot =
            ap (λ (x : Device). x.mark.slot) so_far.is
            ∙ ap (λ (m : UpdateMark). m.slot) (turned_mark done first)

        -- some more are made
        pub goes_on : 0 < made → SoFar g first blocks (done + made) old new next
        goes_on some = record {
          at_most = omega (arith, run.at_most, all);
          is = next_is;
          merging = next_phase;
          kept = subst (λ (n : ℕ). IsDevice next n) sized run.kept;
          represents = λ t.
              subst (λ (n : ℕ). Represents next n (g.seen new)) sized (run.represents t);
          within = λ t.
              let few = (run.means t).0 in
              let left = so_far.left t in
              let within = so_far.within t in
              omega (arith, few, left, within);
          left = λ t.
              let few = (run.means t).1 in
              let left = so_far.left t in
              omega (arith, few, left);
          means = λ t.
              let left = so_far.left t in
              (run.means t).2
              ∙ merged_again (mounted_on first (g.seen old)) (mounted_on d (g.seen mid))
              first.mark.slot d.mark.slot (left_in first - done) (left_in d - made)
              (left_in first - (done + made)) (so_far.means t) next_slot (omega (arith, left));
          reads = λ e. absurd (omega (arith, e, some));
          rest = λ t rest. run.rest t (so_far.rest t rest);
          quiet = then_quiet done wanted old mid new d so_far all (Ok (next, made)) run;
          touches = then_touches done wanted old mid new d so_far all (Ok (next, made)) run;
          time = then_time done wanted old mid new d so_far all (Ok (next, made)) run;
          steady = run.faults.steady ∙ so_far.steady;
        }

  -- all are made
  pub all_made : (old now : D) (d : Device)
      → SoFar g first blocks blocks old now d
      → MakesSome g first blocks old now (Ok (d, 0))
  all_made old now d so_far =
      let none : blocks ≡ blocks - 0 = omega arith in
      record {
        at_most = omega arith;
        is = so_far.is ∙ ap (λ (n : ℕ). turned n first) none;
        none = λ some. absurd (omega (arith, some));
        reads = so_far.reads;
        kept = so_far.kept;
        represents = so_far.represents;
        means = λ t. (
          subst (λ (n : ℕ). n ≤ left_in first) none (so_far.within t),
          subst (λ (n : ℕ). left_in d ≡ left_in first - n) none (so_far.left t),
          subst
              (λ (n : ℕ).
              mounted_on d (g.seen now)
              ≡ merged_to (mounted_on first (g.seen old)) first.mark.slot (left_in first - n))
              none (so_far.means t),
        );
        rest = so_far.rest;
        quiet = so_far.quiet;
        touches = so_far.touches;
        time = so_far.time;
        faults = record { steady = so_far.steady; cause = tt };
      }

  -- no store has an exception any more
  pub none_more : (done wanted : ℕ) (old mid new : D) (d next : Device)
      (so_far : SoFar g first blocks done old mid d)
      (all : done + wanted ≡ blocks)
      (some : 0 < wanted)
      → MakesTurns g d wanted mid new (Ok (next, 0))
      → MakesSome g first blocks old new (Ok (next, wanted))
  none_more done wanted old mid new d next so_far all some run =
      let same : next ≡ d = run.is ∙ turned_zero d in
      let rest : done ≡ blocks - wanted = omega (arith, all) in
      record {
        at_most = omega (arith, all);
        is = same ∙ so_far.is ∙ ap (λ (n : ℕ). turned n first) rest;
        none = λ more. ap next_of same ∙ run.none refl;
        reads = λ e. absurd (omega (arith, e, some, all));
        kept = subst (λ (n : ℕ). IsDevice next n) so_far.quiet.size run.kept;
        represents = λ t.
            subst (λ (n : ℕ). Represents next n (g.seen new)) so_far.quiet.size
            (run.represents t);
        means = λ t.
            let left = so_far.left t in
            let here : left_in d - 0 ≡ left_in first - (blocks - wanted) =
            omega (arith, left, rest) in (
              subst (λ (n : ℕ). n ≤ left_in first) rest (so_far.within t),
              (run.means t).1 ∙ here,
              (run.means t).2
                  ∙ merged_again (mounted_on first (g.seen old)) (mounted_on d (g.seen mid))
                  first.mark.slot d.mark.slot (left_in first - done) (left_in d - 0)
                  (left_in first - (blocks - wanted)) (so_far.means t)
                  (ap (λ (x : Device). x.mark.slot) so_far.is
                  ∙ ap (λ (m : UpdateMark). m.slot) (turned_mark done first))
                  here,
            );
        rest = λ t rest. run.rest t (so_far.rest t rest);
        quiet = then_quiet done wanted old mid new d so_far all (Ok (next, 0)) run;
        touches = then_touches done wanted old mid new d so_far all (Ok (next, 0)) run;
        time = then_time done wanted old mid new d so_far all (Ok (next, 0)) run;
        faults = record { steady = run.faults.steady ∙ so_far.steady; cause = tt };
      }
