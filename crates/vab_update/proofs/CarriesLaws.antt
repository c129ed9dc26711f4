-- Commands that are carried out, one behind the other.
use Rattle.std.proofs.Common.{◌≡◌, ◌⊎◌, ◌∙◌, inl, inr, ⊎_elim, ℕ, List, [], ◌∷◌, ◌++◌, Result}
use Rattle.std.proofs.Common.{Ok, Err, refl, sym, ap, subst}
use Rattle.std.specs.Prelude.{Bool, true, false, Option, IfOk, IfErr, OnOk, ◌&&◌}
use Rattle.std.proofs.lemmas.Bool.{cases_Bool}
use Rattle.vab_disk.specs.declared.disk.Disk.{Ghosts}
use Rattle.vab_disk.specs.Disk.{Image, Outcome, Adds}
use Rattle.vab_disk.specs.Calls.{IsAtRest}
use Rattle.vab_disk.proofs.CallLaws.{quiet_then, failed_then}
use Rattle.vab_disk.proofs.Moments.{adds_on, adds_wider}
use Rattle.vab_gate.specs.declared.gate.DiskFault.{DiskFault}
use Rattle.vab_model.specs.declared.command.Refusal.{Refusal}
use Rattle.vab_model.specs.declared.command.Refusal.TheVariants.{NoMemory}
use Rattle.vab_model.specs.declared.command.Reply.{Reply}
use Rattle.vab_model.specs.declared.command.Reply.TheVariants as replies
use Rattle.vab_model.specs.Commands.{Command}
use Rattle.vab_model.specs.Effects.{Effect, answers, refuses, steps_of, after_of}
use Rattle.vab_model.specs.Effects.{IsOneOf, unless_refused}
use Rattle.vab_device.specs.declared.device.Device.{Device}
use Rattle.vab_device.specs.declared.fault.StartFault.{StartFault}
use Rattle.vab_device.specs.Does.{Does, LeavesStep, KeepsSource}
use Rattle.vab_model.specs.Kinds.{changes_source}
use Rattle.vab_device.specs.Kept.{IsDevice}
use Rattle.vab_device.specs.Mounted.{Mounted, mounted_on}
use Rattle.vab_device.specs.Reading.{device, Represents}
use Rattle.vab_device.specs.Updates.{effect_on}
use Rattle.vab_device.proofs.ReadingLaws.{device_stands}
use Rattle.vab_commands.specs.Touched.{ChangesDevice}
use Rattle.vab_commands.specs.Writes.{IsOfCommand}
use Rattle.vab_commands.specs.Copies.{HasBothCopies}
use Rattle.vab_commands.proofs.ChangeLaws.{command_changes, commands_then, keeps_then}
use Rattle.vab_commands.proofs.CopiesLaws.{both_copies}
use Rattle.vab_update.specs.declared.stop.Stop.{Stop}
use Rattle.vab_update.specs.declared.stop.Stop.TheVariants as stops
use Rattle.vab_update.specs.Carries.{Carries, CarriesOut, IsAmong, IsStop, IsRefusedBy}
use Rattle.vab_update.specs.Carries.{UnlessFailed, IfFailed}
use Rattle.vab_update.specs.Orders.{Order, is_refused, followed, effect_all}
use Rattle.vab_update.proofs.OrderLaws.{followed_refused, followed_done, step_first, step_second}
use Rattle.vab_update.proofs.OrderLaws.{after_second, last_step, effect_append, effect_single}

-- ---- what holds unless the disk has failed

-- something else holds where the one does
pub held_map : {A : Type 0} (r : Result A Stop) (P Q : Type 0)
    → (P → Q)
    → UnlessFailed r P
    → UnlessFailed r Q
held_map (Ok x) P Q f is = f is
held_map (Err (stops.Refused refusal)) P Q f is = f is
held_map (Err (stops.Disk fault)) P Q f is = tt

failed_map : {A : Type 0} (r : Result A Stop) (P Q : Type 0)
    → (P → Q)
    → IfFailed r P
    → IfFailed r Q
failed_map (Ok x) P Q f is = tt
failed_map (Err (stops.Refused refusal)) P Q f is = tt
failed_map (Err (stops.Disk fault)) P Q f is = f is

-- one of fewer steps
pub among_wider : (few more : List Mounted) (size : ℕ) (image : Image)
    → ((x : Mounted) → IsOneOf few x → IsOneOf more x)
    → IsAmong few size image
    → IsAmong more size image
among_wider few more size image wider is = record {
  mounted = is.mounted;
  step = wider is.mounted is.step;
  means = is.means;
}

leaves_wider : (told : List ℕ) (size : ℕ) (few more : List Mounted)
    → ((x : Mounted) → IsOneOf few x → IsOneOf more x)
    → (o : Outcome)
    → LeavesStep told size few o
    → LeavesStep told size more o
leaves_wider told size few more wider o is = record {
  told_so_far = is.told_so_far;
  mounted = is.mounted;
  step = wider is.mounted is.step;
  means = is.means;
}

-- ---- a command that stops, with others behind it

not_refused : (reply : Reply) → reply ≡ replies.Done → is_refused reply ≡ false
not_refused reply is = ap is_refused is

stop_followed : (m : Mounted) (e rest : Effect Mounted) (size : ℕ) (image : Image) (s : Stop)
    → IsStop m e size image s
    → IsStop m (followed e rest) size image s
stop_followed m e rest size image (stops.Refused refusal) is = λ other.
    let by : IsRefusedBy m e size image refusal = is other in
    let same : followed e rest ≡ e = followed_refused e rest (ap is_refused by.reply) in
    subst (λ (x : Effect Mounted). IsRefusedBy m x size image refusal) (sym same) by
stop_followed m e rest size image (stops.Disk fault) is = tt

pub carries_stop : {D : Type 0} (g : Ghosts D) (d : Device) (m : Mounted)
    (e rest : Effect Mounted) (old new : D) (s : Stop)
    → Carries g d m e old new (Err s)
    → Carries g d m (followed e rest) old new (Err s)
carries_stop g d m e rest old new s is = record {
  kept = tt;
  source = tt;
  represents = λ t. tt;
  after = λ t. tt;
  whole = λ t. tt;
  stop = λ t. stop_followed m e rest (g.size old) (g.seen new) s (is.stop t);
  among = λ t.
      held_map {A = Device} (Err s) _ _
      (among_wider (steps_of m e) (steps_of m (followed e rest)) (g.size old) (g.seen new)
      (step_first m e rest))
      (is.among t);
  copies = is.copies;
  rest = is.rest;
  quiet = is.quiet;
  changes = is.changes;
  time = λ t rest'.
      adds_wider g.moment g.outcomes old new _ _ (is.time t rest')
      (leaves_wider (g.told old) (g.size old) (steps_of m e) (steps_of m (followed e rest))
      (step_first m e rest));
  steady = is.steady;
  cause = is.cause;
}

-- ---- commands behind others

module _ {D : Type 0} (g : Ghosts D) (d next : Device) (m n : Mounted) (e f : Effect Mounted)
    (old mid new : D)
    (first : Carries g d m e old mid (Ok next))
    (was : g.is_modelled → Represents d (g.size old) (g.seen old))
    (at : g.is_modelled → n ≡ after_of m e) where
  sized : g.size mid ≡ g.size old
  sized = first.quiet.size

  done : g.is_modelled → is_refused e.reply ≡ false
  done t = not_refused e.reply (first.whole t)

  second_step : g.is_modelled
      → (x : Mounted)
      → IsOneOf (steps_of n f) x
      → IsOneOf (steps_of m (followed e f)) x
  second_step t x is =
      step_second m e f x (done t)
      (subst (λ (k : Mounted). IsOneOf (steps_of k f) x) (at t) is)

  after_both : g.is_modelled → after_of n f ≡ after_of m (followed e f)
  after_both t =
      ap (λ (k : Mounted). after_of k f) (at t) ∙ sym (after_second m e f (done t))

  reply_both : g.is_modelled → (followed e f).reply ≡ f.reply
  reply_both t = ap (λ (x : Effect Mounted). x.reply) (followed_done e f (done t))

  stop_both : g.is_modelled
      → (s : Stop)
      → IsStop n f (g.size mid) (g.seen new) s
      → IsStop m (followed e f) (g.size old) (g.seen new) s
  stop_both t (stops.Refused refusal) is = λ other.
      let by : IsRefusedBy n f (g.size mid) (g.seen new) refusal = is other in
      record {
        reply = reply_both t ∙ by.reply;
        means =
            subst (λ (k : ℕ). device k (g.seen new) ≡ Ok (after_of n f)) sized by.means
            ∙ ap (λ (x : Mounted). (let r : Result Mounted StartFault = Ok x in r)) (after_both t);
      }
  stop_both t (stops.Disk fault) is = tt

  kept_both : (r : Result Device Stop)
      → IfOk r (λ x. IsDevice x (g.size mid))
      → IfOk r (λ x. IsDevice x (g.size old))
  kept_both (Ok x) is = subst (λ (k : ℕ). IsDevice x k) sized is
  kept_both (Err s) is = tt

  source_both : (r : Result Device Stop) → IfOk r (KeepsSource next) → IfOk r (KeepsSource d)
  source_both (Ok x) is = keeps_then d next x first.source is
  source_both (Err s) is = tt

  represents_both : (r : Result Device Stop)
      → IfOk r (λ x. Represents x (g.size mid) (g.seen new))
      → IfOk r (λ x. Represents x (g.size old) (g.seen new))
  represents_both (Ok x) is = subst (λ (k : ℕ). Represents x k (g.seen new)) sized is
  represents_both (Err s) is = tt

  after_is : g.is_modelled
      → (r : Result Device Stop)
      → IfOk r (λ x. mounted_on x (g.seen new) ≡ after_of n f)
      → IfOk r (λ x. mounted_on x (g.seen new) ≡ after_of m (followed e f))
  after_is t (Ok x) is = is ∙ after_both t
  after_is t (Err s) is = tt

  whole_is : g.is_modelled
      → (r : Result Device Stop)
      → OnOk r (f.reply ≡ replies.Done)
      → OnOk r ((followed e f).reply ≡ replies.Done)
  whole_is t (Ok x) is = reply_both t ∙ is
  whole_is t (Err s) is = tt

  stop_is : g.is_modelled
      → (r : Result Device Stop)
      → IfErr r (IsStop n f (g.size mid) (g.seen new))
      → IfErr r (IsStop m (followed e f) (g.size old) (g.seen new))
  stop_is t (Ok x) is = tt
  stop_is t (Err s) is = stop_both t s is

  pub carries_then : (r : Result Device Stop)
      → Carries g next n f mid new r
      → Carries g d m (followed e f) old new r
  carries_then r second = record {
    kept = kept_both r second.kept;
    source = source_both r second.source;
    represents = λ t. represents_both r (second.represents t);
    after = λ t. after_is t r (second.after t);
    whole = λ t. whole_is t r (second.whole t);
    stop = λ t. stop_is t r (second.stop t);
    among = λ t.
        held_map r _ _
        (λ (is : IsAmong (steps_of n f) (g.size mid) (g.seen new)).
        among_wider (steps_of n f) (steps_of m (followed e f)) (g.size old) (g.seen new)
        (second_step t)
        (subst (λ (k : ℕ). IsAmong (steps_of n f) k (g.seen new)) sized is))
        (second.among t);
    copies = λ t.
        held_map r _ _ (λ is. subst (λ (k : ℕ). HasBothCopies k (g.seen new)) sized is)
        (second.copies t);
    rest = λ t rest. second.rest t (first.rest t rest);
    quiet = quiet_then g old mid new first.quiet second.quiet;
    changes = λ t.
        commands_then g t (g.size old) d next old mid (was t) (first.represents t) first.source
        (first.changes t) new (second.changes t);
    time = λ t rest.
        adds_on g.moment g.outcomes old mid new _ _
        (adds_wider g.moment g.outcomes old mid _ _ (first.time t rest)
        (leaves_wider (g.told old) (g.size old) (steps_of m e) (steps_of m (followed e f))
        (step_first m e f)))
        (second.time t (first.rest t rest))
        (λ o is. record {
          told_so_far = is.told_so_far ∙ first.quiet.told t;
          mounted = is.mounted;
          step = second_step t is.mounted is.step;
          means = subst (λ (k : ℕ). device k o.image ≡ Ok is.mounted) sized is.means;
        });
    steady = held_map r _ _ (λ same. same ∙ first.steady) second.steady;
    cause =
        failed_map r _ _ (λ failed. failed_then (g.faults old) (g.faults mid) (g.faults new)
        first.steady failed) second.cause;
  }

-- the same of another effect, where it is that one
carries_same : {D : Type 0} (g : Ghosts D) (d : Device) (m : Mounted) (e f : Effect Mounted)
    (old new : D) (r : Result Device Stop)
    → (g.is_modelled → e ≡ f)
    → Carries g d m e old new r
    → Carries g d m f old new r
carries_same g d m e f old new r same is = record {
  kept = is.kept;
  source = is.source;
  represents = is.represents;
  after = λ t.
      subst
      (λ (x : Effect Mounted). IfOk r (λ next. mounted_on next (g.seen new) ≡ after_of m x))
      (same t) (is.after t);
  whole = λ t.
      subst (λ (x : Effect Mounted). OnOk r (x.reply ≡ replies.Done)) (same t) (is.whole t);
  stop = λ t.
      subst (λ (x : Effect Mounted). IfErr r (IsStop m x (g.size old) (g.seen new)))
      (same t) (is.stop t);
  among = λ t.
      subst
      (λ (x : Effect Mounted). UnlessFailed r (IsAmong (steps_of m x) (g.size old) (g.seen new)))
      (same t) (is.among t);
  copies = is.copies;
  rest = is.rest;
  quiet = is.quiet;
  changes = is.changes;
  time = λ t rest.
      subst
      (λ (x : Effect Mounted).
      Adds g.moment g.outcomes old new (LeavesStep (g.told old) (g.size old) (steps_of m x)))
      (same t) (is.time t rest);
  steady = is.steady;
  cause = is.cause;
}

-- the same, of lists of commands
pub carries_more : {D : Type 0} (g : Ghosts D) (d next : Device) (xs ys : List Order)
    (old mid new : D) (r : Result Device Stop)
    → (g.is_modelled → Represents d (g.size old) (g.seen old))
    → CarriesOut g d xs old mid (Ok next)
    → CarriesOut g next ys mid new r
    → CarriesOut g d (xs ++ ys) old new r
carries_more g d next xs ys old mid new r was first second =
    let m : Mounted = mounted_on d (g.seen old) in
    let n : Mounted = mounted_on next (g.seen mid) in
    let e : Effect Mounted = effect_all xs m in
    carries_same g d m (followed e (effect_all ys n)) (effect_all (xs ++ ys) m) old new r
    (λ t.
    ap (λ (x : Mounted). followed e (effect_all ys x)) (first.after t)
    ∙ sym (effect_append xs ys m))
    (carries_then g d next m n e (effect_all ys n) old mid new first was (λ t. first.after t)
    r second)

pub carries_short : {D : Type 0} (g : Ghosts D) (d : Device) (xs ys : List Order)
    (old new : D) (s : Stop)
    → CarriesOut g d xs old new (Err s)
    → CarriesOut g d (xs ++ ys) old new (Err s)
carries_short g d xs ys old new s is =
    let m : Mounted = mounted_on d (g.seen old) in
    subst (λ (x : Effect Mounted). Carries g d m x old new (Err s)) (sym (effect_append xs ys m))
    (carries_stop g d m (effect_all xs m) (effect_all ys (after_of m (effect_all xs m))) old new s
    is)

-- ---- one command

-- want of memory, or the effect
unless_either : (refused : Bool) (e : Effect Mounted)
    → (unless_refused refused e ≡ e) ⊎ (unless_refused refused e ≡ refuses NoMemory)
unless_either refused e =
    elim (cases_Bool (refused && e.wants)) [
      | inl want ↦ inr (rw want refl)
      | inr none ↦ inl (rw none refl)
    ]

-- a step of either is one of the effect
step_unless : (refused : Bool) (m : Mounted) (e : Effect Mounted) (x : Mounted)
    → IsOneOf (steps_of m (unless_refused refused e)) x
    → IsOneOf (steps_of m e) x
step_unless refused m e x is =
    ⊎_elim
    (λ same. subst (λ (f : Effect Mounted). IsOneOf (steps_of m f) x) same is)
    (λ want. first (subst (λ (f : Effect Mounted). IsOneOf (steps_of m f) x) want is))
    (unless_either refused e)
  where
    first : IsOneOf (m ∷ []) x → IsOneOf (steps_of m e) x
    first (inl here) = inl here
    first (inr there) = absurd there

-- The reply that isn't want of memory is the effect's.
reply_unless : (refused : Bool) (e : Effect Mounted) (reply : Reply)
    → (reply ≡ replies.Refused NoMemory → ⊥)
    → reply ≡ (unless_refused refused e).reply
    → unless_refused refused e ≡ e
reply_unless refused e reply other is =
    ⊎_elim
    (λ same. same)
    (λ want. absurd (other (is ∙ ap (λ (f : Effect Mounted). f.reply) want)))
    (unless_either refused e)

done_refused : (reply : Reply) → reply ≡ replies.Refused NoMemory → is_refused reply ≡ false → ⊥
done_refused reply is done = let no : true ≡ false = ap is_refused (sym is) ∙ done in cc

refused_same : (a b : Refusal) → replies.Refused a ≡ replies.Refused b → a ≡ b
refused_same a b is = cc

module _ {D : Type 0} (g : Ghosts D) (d : Device) (staged : Option (List ℕ)) (command : Command)
    (old new : D)
    (plain : changes_source command ≡ false)
    (dev : IsDevice d (g.size old))
    (was : g.is_modelled → Represents d (g.size old) (g.seen old)) where
  abbrev m : Mounted
  m = mounted_on d (g.seen old)

  abbrev e : Effect Mounted
  e = effect_on m staged command

  abbrev all : Effect Mounted
  all = followed e (answers replies.Done)

  abbrev Doing : Result (Device × Reply) DiskFault → Type 0
  Doing r =
      Does g d staged command (IsOfCommand g.is_modelled d (g.seen old 4) command) old new r

  changes_one : (r : Result (Device × Reply) DiskFault)
      → Doing r
      → g.is_modelled
      → ChangesDevice g d old new
  changes_one r does t = command_changes g d command old new t dev (was t) plain (does.touches t)

  -- a step of what the command does, with memory refused to it or not
  step_one : (refused : Bool) (x : Mounted)
      → IsOneOf (steps_of m (unless_refused refused e)) x
      → IsOneOf (steps_of m all) x
  step_one refused x is =
      step_first m e (answers replies.Done) x (step_unless refused m e x is)

  time_one : (r : Result (Device × Reply) DiskFault)
      → Doing r
      → g.is_modelled
      → IsAtRest g old
      → Adds g.moment g.outcomes old new (LeavesStep (g.told old) (g.size old) (steps_of m all))
  time_one r does t rest =
      adds_wider g.moment g.outcomes old new _ _ (does.time t rest)
      (leaves_wider (g.told old) (g.size old) (steps_of m (unless_refused does.refused e))
      (steps_of m all) (step_one does.refused))

  pub carries_failed : (fault : DiskFault)
      → Doing (Err fault)
      → Carries g d m all old new (Err (stops.Disk fault))
  carries_failed fault does = record {
    kept = tt;
    source = tt;
    represents = λ t. tt;
    after = λ t. tt;
    whole = λ t. tt;
    stop = λ t. tt;
    among = λ t. tt;
    copies = λ t. tt;
    rest = λ t rest. tt;
    quiet = does.quiet;
    changes = changes_one (Err fault) does;
    time = time_one (Err fault) does;
    steady = tt;
    cause = does.faults.cause;
  }

  module _ (next : Device) (reply : Reply) (does : Doing (Ok (next, reply))) where
    -- the disk is the device that is kept
    stands : g.is_modelled → device (g.size old) (g.seen new) ≡ Ok (mounted_on next (g.seen new))
    stands t = device_stands next (g.size old) (g.seen new) (does.represents t)

    among_one : g.is_modelled → IsAmong (steps_of m all) (g.size old) (g.seen new)
    among_one t = record {
      mounted = mounted_on next (g.seen new);
      step =
          step_one does.refused (mounted_on next (g.seen new))
          (subst
          (λ (x : Mounted). IsOneOf (steps_of m (unless_refused does.refused e)) x)
          (sym (does.after t))
          (last_step m (unless_refused does.refused e).later));
      means = stands t;
    }

    copies_one : g.is_modelled → HasBothCopies (g.size old) (g.seen new)
    copies_one t = both_copies next (g.size old) (g.seen new) (does.represents t)

    -- where it isn't want of memory, the effect is that of the table
    effect_is : g.is_modelled
        → (reply ≡ replies.Refused NoMemory → ⊥)
        → unless_refused does.refused e ≡ e
    effect_is t other = reply_unless does.refused e reply other (does.reply t)

    pub carries_done : is_refused reply ≡ false → Carries g d m all old new (Ok next)
    carries_done done = record {
      kept = does.kept;
      source = does.follows.source plain;
      represents = does.represents;
      after = λ t.
          does.after t
          ∙ ap (λ (x : Effect Mounted). after_of m x) (same t)
          ∙ sym (after_second m e (answers replies.Done) (well t));
      whole = λ t.
          ap (λ (x : Effect Mounted). x.reply) (followed_done e (answers replies.Done) (well t));
      stop = λ t. tt;
      among = among_one;
      copies = copies_one;
      rest = does.rest;
      quiet = does.quiet;
      changes = changes_one (Ok (next, reply)) does;
      time = time_one (Ok (next, reply)) does;
      steady = does.faults.steady;
      cause = tt;
    }
      where
        same : g.is_modelled → unless_refused does.refused e ≡ e
        same t = effect_is t (λ is. done_refused reply is done)

        well : g.is_modelled → is_refused e.reply ≡ false
        well t =
            ap is_refused
            (sym (does.reply t ∙ ap (λ (x : Effect Mounted). x.reply) (same t)))
            ∙ done

    pub carries_refused : (refusal : Refusal)
        → reply ≡ replies.Refused refusal
        → Carries g d m all old new (Err (stops.Refused refusal))
    carries_refused refusal is = record {
      kept = tt;
      source = tt;
      represents = λ t. tt;
      after = λ t. tt;
      whole = λ t. tt;
      stop = λ t other. by t other;
      among = among_one;
      copies = copies_one;
      rest = does.rest;
      quiet = does.quiet;
      changes = changes_one (Ok (next, reply)) does;
      time = time_one (Ok (next, reply)) does;
      steady = does.faults.steady;
      cause = tt;
    }
      where
        by : g.is_modelled
            → (refusal ≡ NoMemory → ⊥)
            → IsRefusedBy m all (g.size old) (g.seen new) refusal
        by t other =
            let same : unless_refused does.refused e ≡ e =
            effect_is t (λ want. other (refused_same refusal NoMemory (sym is ∙ want))) in
            let told : e.reply ≡ replies.Refused refusal =
            sym (does.reply t ∙ ap (λ (x : Effect Mounted). x.reply) same) ∙ is in
            let whole : all ≡ e =
            followed_refused e (answers replies.Done) (ap is_refused told) in
            record {
              reply = ap (λ (x : Effect Mounted). x.reply) whole ∙ told;
              means =
                  stands t
                  ∙ ap (λ (x : Mounted). (let r : Result Mounted StartFault = Ok x in r))
                  (does.after t
                  ∙ ap (λ (x : Effect Mounted). after_of m x) (same ∙ sym whole));
            }

-- the same, as a list of one
pub carries_single : {D : Type 0} (g : Ghosts D) (d : Device) (o : Order)
    (staged : Option (List ℕ)) (command : Command) (old new : D) (r : Result Device Stop)
    → o.command (mounted_on d (g.seen old)) ≡ command
    → o.staged ≡ staged
    → Carries g d (mounted_on d (g.seen old))
    (followed (effect_on (mounted_on d (g.seen old)) staged command) (answers replies.Done))
    old new r
    → CarriesOut g d (o ∷ []) old new r
carries_single g d o staged command old new r same bytes is =
    let m : Mounted = mounted_on d (g.seen old) in
    subst (λ (x : Effect Mounted). Carries g d m x old new r)
    (sym
    (effect_single o m
    ∙ (λ i. followed (effect_on m (bytes i) (same i)) (answers replies.Done))))
    is

-- the device that is kept goes on
pub kept_next : {D : Type 0} (g : Ghosts D) (d next : Device) (xs : List Order) (old new : D)
    → CarriesOut g d xs old new (Ok next)
    → IsDevice next (g.size new)
kept_next g d next xs old new is = subst (λ (n : ℕ). IsDevice next n) (sym is.quiet.size) is.kept

pub represents_next : {D : Type 0} (g : Ghosts D) (d next : Device) (xs : List Order) (old new : D)
    → CarriesOut g d xs old new (Ok next)
    → g.is_modelled
    → Represents next (g.size new) (g.seen new)
represents_next g d next xs old new is t =
    subst (λ (n : ℕ). Represents next n (g.seen new)) (sym is.quiet.size) (is.represents t)
