-- What a command does that writes what nothing reads, and then one sector by a gate.
use Rattle.std.proofs.Common.{◌≡◌, ◌≢◌, ◌∙◌, inl, inr, ⊎_elim, ℕ, List, [], ◌∷◌, Result, Ok, Err}
use Rattle.std.proofs.Common.{refl, sym, ap, subst}
use Rattle.std.specs.Prelude.{Bool, false, Option, IfOk, OnOk, OnErr}
use Rattle.vab_disk.specs.declared.disk.Disk.{Ghosts}
use Rattle.vab_disk.specs.Disk.{Image, Outcome, Adds, LeavesEither, IsAt, DiskFailed}
use Rattle.vab_disk.specs.Disk.{set_sector}
use Rattle.vab_disk.specs.Calls.{IsAtRest, IsQuiet, OnlyReads, SameBut, Touches}
use Rattle.vab_disk.proofs.Moments.{adds_wider, adds_on}
use Rattle.vab_disk.proofs.CallLaws.{touches_wider, touches_reads, touches_then, touches_on}
use Rattle.vab_disk.proofs.CallLaws.{reads_then}
use Rattle.vab_disk.proofs.CallLaws.{quiet_then, failed_then}
use Rattle.vab_gate.specs.declared.gate.DiskFault.{DiskFault}
use Rattle.vab_model.specs.declared.command.Reply.{Reply}
use Rattle.vab_model.specs.Commands.{Command}
use Rattle.vab_model.specs.Effects.{Effect, answers, does, steps_of, after_of, IsOneOf}
use Rattle.vab_model.specs.Effects.{wanting, unless_refused}
use Rattle.vab_device.specs.declared.device.Device.{Device}
use Rattle.vab_device.specs.Does.{LeavesStep, effect_of, KeepsSource, Follows, Does}
use Rattle.vab_device.specs.Kept.{IsDevice}
use Rattle.vab_device.specs.Mounted.{Mounted, mounted_on}
use Rattle.vab_device.specs.Reading.{device, Dead, Represents}
use Rattle.vab_device.specs.Updates.{effect_on}
use Rattle.vab_device.proofs.ReadingLaws.{device_same, device_stands}

-- the whole of a device is its source
pub keeps_all : (d : Device) → KeepsSource d d
keeps_all d = record { geometry = refl; slot = refl; parts = refl }

-- what keeps the source follows on any command
pub follows_kept : (d : Device) (command : Command) (next : Device)
    → KeepsSource d next
    → Follows d command next
follows_kept d command next keeps = record {
  geometry = keeps.geometry;
  source = λ _. keeps;
}

-- what nothing reads leaves the device that is kept
pub dead_means : (d : Device) (size : ℕ) (old : Image) (V : ℕ → List ℕ → Type 0)
    (is : Represents d size old)
    → Dead size is.read old V
    → (image : Image)
    → SameBut V old image
    → device size image ≡ Ok (mounted_on d old)
dead_means d size old V is dead image same =
    device_same size is.read old image is.reads (dead image same) ∙ device_stands d size old is

pub steady_then : {A E X : Type 0} (r : Result A E) (a b c : X)
    → b ≡ a
    → OnOk r (c ≡ b)
    → OnOk r (c ≡ a)
steady_then (Ok x) a b c ab bc = bc ∙ ab
steady_then (Err e) a b c ab bc = tt

pub on_ok_map : {A E : Type 0} (r : Result A E) (P Q : Type 0) → (P → Q) → OnOk r P → OnOk r Q
on_ok_map (Ok x) P Q f is = f is
on_ok_map (Err e) P Q f is = tt

pub if_ok_map : {A E : Type 0} (r : Result A E) (P Q : A → Type 0)
    → ((x : A) → P x → Q x)
    → IfOk r P
    → IfOk r Q
if_ok_map (Ok x) P Q f is = f x is
if_ok_map (Err e) P Q f is = tt

-- what is done has a device behind it
pub step_follows : {e : Effect Mounted} {wants : Bool} {reply : Reply} {next : Mounted}
    → e ≡ wanting wants (does reply next)
    → e.later ≢ []
step_follows {e} {wants} {reply} {next} is none =
    let both : next ∷ [] ≡ [] = sym (ap (λ (x : Effect Mounted). x.later) is) ∙ none in cc

-- what two calls of the same time say holds together
pub adds_both : {D : Type 0} (moment : D → ℕ) (outcomes : D → ℕ → Outcome → Type 0) (old new : D)
    (P Q : Outcome → Type 0)
    → Adds moment outcomes old new P
    → Adds moment outcomes old new Q
    → Adds moment outcomes old new (λ o. P o × Q o)
adds_both moment outcomes old new P Q one two = record {
  later = one.later;
  keeps = one.keeps;
  adds = λ t o le left.
      ⊎_elim (λ was. inl was)
      (λ p. ⊎_elim (λ was. inl was) (λ q. inr (p, q)) (two.adds t o le left))
      (one.adds t o le left);
}

module _ {D : Type 0} (g : Ghosts D) (d : Device) (staged : Option (List ℕ)) (command : Command)
    (W : ℕ → List ℕ → Type 0) where
  rests : (old new : D) → OnlyReads g old new → g.is_modelled → IsAtRest g old → IsAtRest g new
  rests old new reads t rest = λ s b held.
      rest s b ((reads.crash t).no_more s b held) ∙ sym (ap (λ (i : Image). i s) (reads.seen t))

  time_none : (old new : D) (P : Outcome → Type 0)
      → OnlyReads g old new
      → g.is_modelled
      → Adds g.moment g.outcomes old new P
  time_none old new P reads t =
      adds_wider g.moment g.outcomes old new _ P (reads.time t) (λ o none. absurd none)

  -- it is refused
  pub does_nothing : (refused : Bool) (reply : Reply) (old new : D) {wants : Bool}
      → IsDevice d (g.size old)
      → (g.is_modelled → Represents d (g.size old) (g.seen old))
      → (g.is_modelled → effect_of g d staged command refused old ≡ wanting wants (answers reply))
      → OnlyReads g old new
      → g.faults new ≡ g.faults old
      → Does g d staged command W old new (Ok (d, reply))
  does_nothing refused reply old new {wants} kept is told reads counts = record {
    refused = refused;
    kept = kept;
    follows = follows_kept d command d (keeps_all d);
    represents = λ t. subst (λ (i : Image). Represents d (g.size old) i) (sym (reads.seen t))
        (is t);
    after = λ t.
        ap (mounted_on d) (reads.seen t)
        ∙ ap (λ (e : Effect Mounted). after_of (mounted_on d (g.seen old)) e) (sym (told t));
    reply = λ t. ap (λ (e : Effect Mounted). e.reply) (sym (told t));
    rest = rests old new reads;
    quiet = reads.quiet;
    still = λ t none. reads;
    touches = λ t. touches_reads g W old new reads;
    time = λ t rest. time_none old new _ reads t;
    faults = record { steady = counts; cause = tt };
  }

  -- the disk failed where it writes, and each outcome is a step of what is asked
  pub fails_over : (old mid : D)
      → IsQuiet g old mid
      → (g.is_modelled → (effect_on (mounted_on d (g.seen old)) staged command).later ≢ [])
      → (g.is_modelled → Touches g W old mid)
      → (g.is_modelled
      → IsAtRest g old
      → Adds g.moment g.outcomes old mid
      (LeavesStep (g.told old) (g.size old)
      (steps_of (mounted_on d (g.seen old))
      (effect_on (mounted_on d (g.seen old)) staged command))))
      → (fault : DiskFault)
      → DiskFailed (g.faults old) (g.faults mid)
      → Does g d staged command W old mid (Err fault)
  fails_over old mid quiet follows touches time fault failed = record {
    refused = false;
    kept = tt;
    follows = tt;
    represents = λ t. tt;
    after = λ t. tt;
    reply = λ t. tt;
    rest = λ t rest. tt;
    quiet = quiet;
    still = λ t none. absurd (follows t none);
    touches = touches;
    time = time;
    faults = record { steady = tt; cause = failed };
  }

  -- the disk failed where it only reads
  pub fails_reading : (fault : DiskFault) (old new : D)
      → OnlyReads g old new
      → DiskFailed (g.faults old) (g.faults new)
      → Does g d staged command W old new (Err fault)
  fails_reading fault old new reads failed = record {
    refused = false;
    kept = tt;
    follows = tt;
    represents = λ t. tt;
    after = λ t. tt;
    reply = λ t. tt;
    rest = λ t rest. tt;
    quiet = reads.quiet;
    still = λ t none. reads;
    touches = λ t. touches_reads g W old new reads;
    time = λ t rest. time_none old new _ reads t;
    faults = record { steady = tt; cause = failed };
  }

  fails_later : (r : Result (Device × Reply) DiskFault) (a b c : D)
      → g.faults b ≡ g.faults a
      → OnErr r (DiskFailed (g.faults b) (g.faults c))
      → OnErr r (DiskFailed (g.faults a) (g.faults c))
  fails_later (Ok x) a b c same failed = tt
  fails_later (Err e) a b c same failed =
      failed_then (g.faults a) (g.faults b) (g.faults c) same failed

  -- it reads first
  pub does_later : (old mid new : D) (r : Result (Device × Reply) DiskFault)
      → OnlyReads g old mid
      → g.faults mid ≡ g.faults old
      → Does g d staged command W mid new r
      → Does g d staged command W old new r
  does_later old mid new r reads counts later =
      let size : g.size mid ≡ g.size old = reads.quiet.size in
      record {
        refused = later.refused;
        kept = subst (λ (n : ℕ). IfOk r (λ x. IsDevice x.0 n)) size later.kept;
        follows = later.follows;
        represents = λ t.
            subst (λ (n : ℕ). IfOk r (λ x. Represents x.0 n (g.seen new))) size
            (later.represents t);
        after = λ t.
            subst
            (λ (i : Image).
            IfOk r
            (λ x. mounted_on x.0 (g.seen new)
            ≡ after_of (mounted_on d i)
            (unless_refused later.refused (effect_on (mounted_on d i) staged command))))
            (reads.seen t) (later.after t);
        reply = λ t.
            subst
            (λ (i : Image).
            IfOk r
            (λ x. x.1
            ≡ (unless_refused later.refused
            (effect_on (mounted_on d i) staged command)).reply))
            (reads.seen t) (later.reply t);
        rest = λ t rest. later.rest t (rests old mid reads t rest);
        quiet = quiet_then g old mid new reads.quiet later.quiet;
        still = λ t none.
            reads_then g old mid new reads
            (later.still t
            (subst
            (λ (i : Image).
            (unless_refused later.refused
            (effect_on (mounted_on d i) staged command)).later
            ≡ [])
            (sym (reads.seen t)) none));
        touches = λ t.
            touches_then g W old mid new (touches_reads g W old mid reads) (later.touches t);
        time = λ t rest.
            adds_on g.moment g.outcomes old mid new _ _ (time_none old mid _ reads t)
            (later.time t (rests old mid reads t rest))
            (λ o leaves. record {
              told_so_far = leaves.told_so_far ∙ reads.quiet.told t;
              mounted = leaves.mounted;
              step =
                  subst
                  (λ (i : Image).
                  IsOneOf
                  (steps_of (mounted_on d i)
                  (unless_refused later.refused
                  (effect_on (mounted_on d i) staged command)))
                  leaves.mounted)
                  (reads.seen t) leaves.step;
              means =
                  subst (λ (n : ℕ). device n o.image ≡ Ok leaves.mounted) size leaves.means;
            });
        faults = record {
          steady = steady_then r (g.faults old) (g.faults mid) (g.faults new) counts
              later.faults.steady;
          cause = fails_later r old mid new counts later.faults.cause;
        };
      }

  -- it writes what nothing reads
  module _ (old mid : D) (V : ℕ → List ℕ → Type 0)
      (dead : g.is_modelled
      → (image : Image)
      → SameBut V (g.seen old) image
      → device (g.size old) image ≡ Ok (mounted_on d (g.seen old)))
      (writes : Touches g V old mid)
      (within : g.is_modelled → (s : ℕ) (b : List ℕ) → V s b → W s b) where
    stands : (effect : Effect Mounted) (image : Image) (o : Outcome)
        → g.is_modelled
        → SameBut V (g.seen old) image
        → o.image ≡ image
        → o.told ≡ g.told old
        → LeavesStep (g.told old) (g.size old) (steps_of (mounted_on d (g.seen old)) effect) o
    stands effect image o t same is told = record {
      told_so_far = told;
      mounted = mounted_on d (g.seen old);
      step = inl refl;
      means = ap (device (g.size old)) is ∙ dead t image same;
    }

    until : (effect : Effect Mounted)
        → g.is_modelled
        → IsAtRest g old
        → Adds g.moment g.outcomes old mid
        (LeavesStep (g.told old) (g.size old) (steps_of (mounted_on d (g.seen old)) effect))
    until effect t rest =
        adds_wider g.moment g.outcomes old mid _ _ (writes.time t)
        (λ o leaves.
        stands effect o.image o t
        (λ s. ⊎_elim (λ held. inl (rest s (o.image s) held)) (λ w. inr w) (leaves.each_sector s))
        refl leaves.told_so_far)

    -- and the disk fails
    pub fails_dead : (fault : DiskFault)
        → (g.is_modelled → (effect_on (mounted_on d (g.seen old)) staged command).later ≢ [])
        → DiskFailed (g.faults old) (g.faults mid)
        → Does g d staged command W old mid (Err fault)
    fails_dead fault follows failed =
        fails_over old mid writes.quiet follows
        (λ t. touches_wider g W V old mid writes (within t))
        (until (effect_on (mounted_on d (g.seen old)) staged command)) fault failed

    -- then it writes one sector by a gate
    module _ (new : D) (next : Device) (reply : Reply) (at : ℕ) (bytes : List ℕ) {wants : Bool}
        (effect : g.is_modelled
        → effect_on (mounted_on d (g.seen old)) staged command
        ≡ wanting wants (does reply (mounted_on next (set_sector (g.seen mid) at bytes))))
        (represents : g.is_modelled
        → Represents next (g.size old) (set_sector (g.seen mid) at bytes))
        (gate : g.is_modelled
        → IsAtRest g old
        → Adds g.moment g.outcomes mid new
        (LeavesEither (g.told mid) (g.seen mid) (set_sector (g.seen mid) at bytes)))
        (gated : Touches g (IsAt at bytes) mid new)
        (there : (s : ℕ) (b : List ℕ) → IsAt at bytes s b → W s b) where
      steps : g.is_modelled
          → IsAtRest g old
          → Adds g.moment g.outcomes old new
          (LeavesStep (g.told old) (g.size old)
          (steps_of (mounted_on d (g.seen old))
          (effect_on (mounted_on d (g.seen old)) staged command)))
      steps t rest =
          adds_on g.moment g.outcomes old mid new _ _
          (until (effect_on (mounted_on d (g.seen old)) staged command) t rest) (gate t rest)
          (λ o leaves.
          ⊎_elim
          (λ same.
          stands (effect_on (mounted_on d (g.seen old)) staged command) (g.seen mid) o t
          (writes.seen t) same (leaves.told_so_far ∙ writes.quiet.told t))
          (λ is. record {
            told_so_far = leaves.told_so_far ∙ writes.quiet.told t;
            mounted = mounted_on next (set_sector (g.seen mid) at bytes);
            step =
                subst
                (λ (e : Effect Mounted).
                IsOneOf (steps_of (mounted_on d (g.seen old)) e)
                (mounted_on next (set_sector (g.seen mid) at bytes)))
                (sym (effect t)) (inr (inl refl));
            means =
                ap (device (g.size old)) is
                ∙ device_stands next (g.size old) (set_sector (g.seen mid) at bytes) (represents t);
          })
          leaves.either)

      both : g.is_modelled → Touches g W old new
      both t = touches_on g V (IsAt at bytes) W old mid new writes gated (within t) there

      quiet_both : IsQuiet g old new
      quiet_both = quiet_then g old mid new writes.quiet gated.quiet

      pub fails_gate : (fault : DiskFault)
          → DiskFailed (g.faults old) (g.faults new)
          → Does g d staged command W old new (Err fault)
      fails_gate fault failed = record {
        refused = false;
        kept = tt;
        follows = tt;
        represents = λ t. tt;
        after = λ t. tt;
        reply = λ t. tt;
        rest = λ t rest. tt;
        quiet = quiet_both;
        still = λ t none. absurd (step_follows (effect t) none);
        touches = both;
        time = steps;
        faults = record { steady = tt; cause = failed };
      }

      -- what follows is said of the next device
      pub does_follow : IsDevice next (g.size old)
          → Follows d command next
          → (g.is_modelled → g.seen new ≡ set_sector (g.seen mid) at bytes)
          → (g.is_modelled → IsAtRest g new)
          → g.faults new ≡ g.faults old
          → Does g d staged command W old new (Ok (next, reply))
      does_follow kept follows seen settled counts = record {
        refused = false;
        kept = kept;
        follows = follows;
        represents = λ t.
            subst (λ (i : Image). Represents next (g.size old) i) (sym (seen t)) (represents t);
        after = λ t.
            ap (mounted_on next) (seen t)
            ∙ ap (λ (e : Effect Mounted). after_of (mounted_on d (g.seen old)) e) (sym (effect t));
        reply = λ t. ap (λ (e : Effect Mounted). e.reply) (sym (effect t));
        rest = λ t rest. settled t;
        quiet = quiet_both;
        still = λ t none. absurd (step_follows (effect t) none);
        touches = both;
        time = steps;
        faults = record { steady = counts; cause = tt };
      }

      -- and it keeps the source
      pub does_gate : IsDevice next (g.size old)
          → KeepsSource d next
          → (g.is_modelled → g.seen new ≡ set_sector (g.seen mid) at bytes)
          → (g.is_modelled → IsAtRest g new)
          → g.faults new ≡ g.faults old
          → Does g d staged command W old new (Ok (next, reply))
      does_gate kept source = does_follow kept (follows_kept d command next source)
