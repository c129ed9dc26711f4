-- A command that first writes what leaves the meaning of the disk, in each outcome.
use Rattle.std.proofs.Common.{◌≡◌, ◌≢◌, ◌∙◌, inl, inr, ℕ, List, [], ◌∷◌, Result, Ok, Err, refl, sym}
use Rattle.std.proofs.Common.{subst, true, false}
use Rattle.std.specs.Prelude.{Bool, ◌&&◌, Option, IfOk, OnErr}
use Rattle.std.proofs.lemmas.Bool.{cases_Bool}
use Rattle.vab_disk.specs.declared.disk.Disk.{Ghosts}
use Rattle.vab_disk.specs.Disk.{Outcome, Adds, DiskFailed}
use Rattle.vab_disk.specs.Calls.{IsAtRest, Touches}
use Rattle.vab_disk.proofs.Moments.{adds_wider, adds_on}
use Rattle.vab_disk.proofs.CallLaws.{quiet_then, touches_on, touches_wider, failed_then}
use Rattle.vab_gate.specs.declared.gate.DiskFault.{DiskFault}
use Rattle.vab_model.specs.declared.command.Reply.{Reply}
use Rattle.vab_model.specs.declared.command.Refusal.TheVariants as refusals
use Rattle.vab_model.specs.declared.command.Reply.TheVariants as replies
use Rattle.vab_model.specs.Commands.{Command}
use Rattle.vab_model.specs.Effects.{Effect, steps_of, after_of, IsOneOf, unless_refused}
use Rattle.vab_model.specs.Kinds.{changes_source}
use Rattle.vab_device.specs.declared.device.Device.{Device}
use Rattle.vab_device.specs.Does.{LeavesStep, Follows, Does}
use Rattle.vab_device.specs.Kept.{IsDevice}
use Rattle.vab_device.specs.Mounted.{Mounted, mounted_on}
use Rattle.vab_device.specs.Reading.{device, Represents}
use Rattle.vab_device.specs.Updates.{effect_on}
use Rattle.vab_device.proofs.DoesLaws.{fails_over, if_ok_map, steady_then}

-- with nothing more told, the disk is this device
pub record LeavesMounted (told : List ℕ) (size : ℕ) (m : Mounted) (o : Outcome) : Type 0 where
  pub told_so_far : o.told ≡ told
  pub means : device size o.image ≡ Ok m

-- where it is done, memory wasn't refused
not_refused : {X : Type 0} (r : Result (X × Reply) DiskFault) (b : Bool) (e : Effect Mounted)
    (P : X × Reply → Effect Mounted → Type 0)
    → IfOk r (λ x. x.1 ≡ replies.Done)
    → IfOk r (λ x. x.1 ≡ (unless_refused b e).reply)
    → IfOk r (λ x. P x (unless_refused b e))
    → IfOk r (λ x. P x e)
not_refused (Err f) b e P done reply is = tt
not_refused (Ok x) b e P done reply is = elim (cases_Bool (b && e.wants)) [
  | inl wants ↦
      let no : x.1 ≡ replies.Refused refusals.NoMemory = rw wants at reply in
      absurd (let both : replies.Done ≡ replies.Refused refusals.NoMemory = sym done ∙ no in cc)
  | inr not ↦ rw not at is
]

-- and what is a step where memory is refused is one where it isn't
still_step : (m x : Mounted) (b : Bool) (e : Effect Mounted)
    → IsOneOf (steps_of m (unless_refused b e)) x
    → IsOneOf (steps_of m e) x
still_step m x b e is = elim (cases_Bool (b && e.wants)) [
  | inl wants ↦ only (rw wants at is)
  | inr not ↦ rw not at is
]
  where
    only : IsOneOf (m ∷ []) x → IsOneOf (steps_of m e) x
    only (inl same) = inl same
    only (inr none) = absurd none

module _ {D : Type 0} (g : Ghosts D)
    (d : Device) (staged : Option (List ℕ)) (command : Command)
    (V U : ℕ → List ℕ → Type 0) (old mid : D)
    (writes : Touches g V old mid)
    (of_v : g.is_modelled → (s : ℕ) (b : List ℕ) → V s b → U s b)
    (means : g.is_modelled
    → IsAtRest g old
    → Adds g.moment g.outcomes old mid
    (LeavesMounted (g.told old) (g.size old) (mounted_on d (g.seen old))))
    (follows : g.is_modelled
    → (effect_on (mounted_on d (g.seen old)) staged command).later ≢ []) where
  time_first : (e : Effect Mounted)
      → g.is_modelled
      → IsAtRest g old
      → Adds g.moment g.outcomes old mid
      (LeavesStep (g.told old) (g.size old) (steps_of (mounted_on d (g.seen old)) e))
  time_first e t rest =
      adds_wider g.moment g.outcomes old mid _ _ (means t rest)
      (λ o leaves. record {
        told_so_far = leaves.told_so_far;
        mounted = mounted_on d (g.seen old);
        step = inl refl;
        means = leaves.means;
      })

  -- and the disk fails in that
  pub fails_behind : (fault : DiskFault)
      → DiskFailed (g.faults old) (g.faults mid)
      → Does g d staged command U old mid (Err fault)
  fails_behind fault failed =
      fails_over g d staged command U old mid writes.quiet follows
      (λ t. touches_wider g U V old mid writes (of_v t))
      (time_first (effect_on (mounted_on d (g.seen old)) staged command)) fault failed

  module _ (mid_is : Device)
      (same : g.is_modelled → mounted_on mid_is (g.seen mid) ≡ mounted_on d (g.seen old))
      (geometry : mid_is.geometry ≡ d.geometry)
      (changes : changes_source command ≡ true)
      (W : ℕ → List ℕ → Type 0) (new : D) (r : Result (Device × Reply) DiskFault)
      (of_w : g.is_modelled → (s : ℕ) (b : List ℕ) → W s b → U s b)
      (settled : g.is_modelled → IsAtRest g mid)
      (counts : g.faults mid ≡ g.faults old)
      (later : Does g mid_is staged command W mid new r)
      (done : IfOk r (λ x. x.1 ≡ replies.Done)) where
    replied : (t : g.is_modelled)
        → IfOk r
        (λ x. x.1
        ≡ (unless_refused later.refused
        (effect_on (mounted_on d (g.seen old)) staged command)).reply)
    replied t =
        subst
        (λ (m : Mounted).
        IfOk r
        (λ x. x.1 ≡ (unless_refused later.refused (effect_on m staged command)).reply))
        (same t) (later.reply t)

    mounted : (t : g.is_modelled)
        → IfOk r
        (λ x. mounted_on x.0 (g.seen new)
        ≡ after_of (mounted_on d (g.seen old))
        (unless_refused later.refused (effect_on (mounted_on d (g.seen old)) staged command)))
    mounted t =
        subst
        (λ (m : Mounted).
        IfOk r
        (λ x. mounted_on x.0 (g.seen new)
        ≡ after_of m (unless_refused later.refused (effect_on m staged command))))
        (same t) (later.after t)

    cause_on : (x : Result (Device × Reply) DiskFault)
        → OnErr x (DiskFailed (g.faults mid) (g.faults new))
        → OnErr x (DiskFailed (g.faults old) (g.faults new))
    cause_on (Ok y) failed = tt
    cause_on (Err f) failed =
        failed_then (g.faults old) (g.faults mid) (g.faults new) counts failed

    -- then it does what is done of the device that is kept by then
    pub does_behind : Does g d staged command U old new r
    does_behind =
        let size : g.size mid ≡ g.size old = writes.quiet.size in
        record {
          refused = false;
          kept = subst (λ (n : ℕ). IfOk r (λ x. IsDevice x.0 n)) size later.kept;
          follows =
              if_ok_map r (λ x. Follows mid_is command x.0) (λ x. Follows d command x.0)
              (λ x f. record {
                geometry = f.geometry ∙ geometry;
                source = λ not. absurd (let no : true ≡ false = sym changes ∙ not in cc);
              })
              later.follows;
          represents = λ t.
              subst (λ (n : ℕ). IfOk r (λ x. Represents x.0 n (g.seen new))) size
              (later.represents t);
          after = λ t.
              not_refused r later.refused
              (effect_on (mounted_on d (g.seen old)) staged command)
              (λ x e. mounted_on x.0 (g.seen new) ≡ after_of (mounted_on d (g.seen old)) e)
              done (replied t) (mounted t);
          reply = λ t.
              not_refused r later.refused
              (effect_on (mounted_on d (g.seen old)) staged command)
              (λ x e. x.1 ≡ e.reply) done (replied t) (replied t);
          rest = λ t rest. later.rest t (settled t);
          quiet = quiet_then g old mid new writes.quiet later.quiet;
          still = λ t none. absurd (follows t none);
          touches = λ t.
              touches_on g V W U old mid new writes (later.touches t) (of_v t) (of_w t);
          time = λ t rest.
              adds_on g.moment g.outcomes old mid new _ _
              (time_first (effect_on (mounted_on d (g.seen old)) staged command) t rest)
              (later.time t (settled t))
              (λ o leaves. record {
                told_so_far = leaves.told_so_far ∙ writes.quiet.told t;
                mounted = leaves.mounted;
                step =
                    still_step (mounted_on d (g.seen old)) leaves.mounted later.refused
                    (effect_on (mounted_on d (g.seen old)) staged command)
                    (subst
                    (λ (m : Mounted).
                    IsOneOf
                    (steps_of m (unless_refused later.refused (effect_on m staged command)))
                    leaves.mounted)
                    (same t) leaves.step);
                means =
                    subst (λ (n : ℕ). device n o.image ≡ Ok leaves.mounted) size leaves.means;
              });
          faults = record {
            steady =
                steady_then r (g.faults old) (g.faults mid) (g.faults new) counts
                later.faults.steady;
            cause = cause_on r later.faults.cause;
          };
        }
