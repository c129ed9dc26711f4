-- What the verbs do, by what their functions do.
use Rattle.std.proofs.Common.{◌≡◌, ◌⊎◌, inl, inr, ⊎_elim, ℕ, List, [], ◌∷◌, zero, suc, drop, false}
use Rattle.std.proofs.Common.{Some, None, refl}
use Rattle.vab_disk.specs.declared.disk.Disk.{Ghosts}
use Rattle.vab_disk.specs.Disk.{Outcome, DiskFailed, SinkFailed, SourceFailed}
use Rattle.vab_disk.specs.Calls.{IsAtRest}
use Rattle.vab_set.specs.declared.set.SetImage.{SetImage}
use Rattle.vab_model.specs.declared.state.Image.{Image as ImageOfSlot}
use Rattle.vab_model.specs.Commands.{Command}
use Rattle.vab_device.specs.Mounted.{Mounted}
use Rattle.vab_device.specs.Reading.{IsIn}
use Rattle.vab_device.specs.Updates.{effect_on}
use Rattle.vab_exchanges.specs.Items.{Item, joined}
use Rattle.vab_exchanges.specs.Runs.{acknowledged, steps_at}
use Rattle.vab_model.specs.Effects.{IsOneOf}
use Rattle.vab_model.specs.Kinds.{ends_alone}
use Rattle.vab_session.specs.Alone.{IsAlone, StandsAlone}
use Rattle.vab_session.proofs.AloneLaws.{AreAlone, one, more, last_alone, stands_alone}
use Rattle.vab_session.proofs.AloneLaws.{alone_effect}
use Rattle.vab_session.proofs.SourceLaws as source
use Rattle.vab_session.proofs.SourceLaws.{stands_kept}
use Rattle.vab_session.proofs.UntilLaws as until
use Rattle.vab_session.specs.Source.{HasKept, StandsKept, FindsMergedFrom}
use Rattle.vab_cli.specs.declared.status.Status.{Status}
use Rattle.vab_cli.specs.declared.status.Status.TheVariants.{Disk, Port, NoMemory}
use Rattle.vab_cli.specs.Acts.{Course, RunsActs}
use Rattle.vab_cli.specs.Installing.{RunsOrFails}
use Rattle.vab_cli.specs.Program.{AnswersAll, CompletesOf, KeepsOf, RunsCommand, TellsWhole}
use Rattle.vab_cli.specs.Runs.{NoFault, RunsSession, RunsItem, FailsBefore, FailsMaking}
use Rattle.vab_cli.specs.Verbs.{verb_item, verb_status}
use Rattle.vab_cli.proofs.Running.{item_told}
use Rattle.vab_cli.proofs.Sessions.{completed}

-- ---- one slot alone with images

-- the steps of a verb
steps_alone : (s : Mounted) (c : Command) (slot : ℕ) (images : List ImageOfSlot)
    → ends_alone c ≡ false
    → IsAlone slot images s
    → (n : ℕ)
    → AreAlone slot images (steps_at [] s (verb_item s c ∷ []) n)
steps_alone s c slot images other is zero =
    more slot images s (effect_on s None c).later is
    (alone_effect slot images s None c other is)
steps_alone s c slot images other is (suc n) =
    one slot images (verb_item s c).last.now
    (last_alone slot images s (effect_on s None c).later is
    (alone_effect slot images s None c other is))

item_keeps : (s : Mounted) (c : Command) (slot : ℕ) (images : List ImageOfSlot) (n : ℕ)
    (x : Mounted)
    → ends_alone c ≡ false
    → HasKept slot images s
    → IsOneOf (steps_at [] s (verb_item s c ∷ []) n) x
    → HasKept slot images x ⊎ FindsMergedFrom slot (verb_item s c).steps
item_keeps s c slot images n x other is at =
    until.item_step (source.Merged slot images) (source.Stands slot images)
    (source.not_merged slot images) s (verb_item s c) n x
    (until.item_makes (source.Merged slot images) (source.Stands slot images)
    (source.not_merged slot images) s (verb_item s c) (effect_on s None c).later refl refl is
    (source.plain_makes slot images (source.Merged slot images) (source.not_merged slot images)
    (λ m merged. merged) s None c other is))
    at

module _ {D : Type 0}
    (g : Ghosts D)
    (old new : D)
    (status : Status)
    (disk : status ≡ Disk → DiskFailed (g.faults old) (g.faults new))
    (port : status ≡ Port
    → SourceFailed (g.faults old) (g.faults new)
    ⊎ SinkFailed (g.faults old) (g.faults new)) where
  no_disk : NoFault (g.faults old) (g.faults new) → status ≡ Disk → ⊥
  no_disk none is = none.disk (disk is)

  no_port : NoFault (g.faults old) (g.faults new) → status ≡ Port → ⊥
  no_port none is = ⊎_elim none.source none.sink (port is)

  -- an item is done whole
  item_whole : (c : Command) (s : Mounted)
      → NoFault (g.faults old) (g.faults new)
      → RunsItem g (g.size old) s (verb_item s c) (verb_status s c) old new status
      ⊎ FailsBefore g (g.size old) s old new status
      → TellsWhole g old new status (verb_status s c) (verb_item s c).reply
  item_whole c s none (inl runs) =
      ⊎_elim
      (λ is. inl (
        is,
        item_told g (g.size old) s (verb_item s c) (verb_status s c) old new status
            runs is,
      ))
      (λ failed. absurd (⊎_elim (no_disk none) (no_port none) failed))
      runs.status_is
  item_whole c s none (inr fails) =
      ⊎_elim (λ is. absurd (no_disk none is)) (λ memory. inr memory) fails.early

  -- each cut of power in an item, or in a run that failed before it
  cut_alone : (c : Command) (s : Mounted) (slot : ℕ) (images : List ImageOfSlot) (o : Outcome)
      → RunsItem g (g.size old) s (verb_item s c) (verb_status s c) old new status
      ⊎ FailsBefore g (g.size old) s old new status
      → ends_alone c ≡ false
      → IsAlone slot images s
      → IsAtRest g old
      → g.outcomes new (g.moment old) o
      → StandsAlone (g.size old) slot images o.image
  cut_alone c s slot images o (inl runs) other is rest at =
      let crash = ⊎_elim (λ within. within) (λ none. absurd none)
      ((let items = runs.items in items.every_cut) rest o at) in
      stands_alone slot images (g.size old) o.image crash.step.0 crash.step.2
      (steps_alone s c slot images other is
      (acknowledged (verb_item s c ∷ []) (drop 0 crash.since))
      crash.step.0 crash.step.1)
  cut_alone c s slot images o (inr fails) other is rest at =
      stands_alone slot images (g.size old) o.image s (fails.every_cut rest o at).stands is

  -- the images of a slot that is gone back to
  cut_kept : (c : Command) (s : Mounted) (slot : ℕ) (images : List ImageOfSlot) (o : Outcome)
      → RunsItem g (g.size old) s (verb_item s c) (verb_status s c) old new status
      ⊎ FailsBefore g (g.size old) s old new status
      → ends_alone c ≡ false
      → HasKept slot images s
      → IsAtRest g old
      → g.outcomes new (g.moment old) o
      → StandsKept (g.size old) slot images o.image
      ⊎ FindsMergedFrom slot (verb_item s c).steps
  cut_kept c s slot images o (inl runs) other is rest at =
      let crash = ⊎_elim (λ within. within) (λ none. absurd none)
      ((let items = runs.items in items.every_cut) rest o at) in
      elim
      (item_keeps s c slot images (acknowledged (verb_item s c ∷ []) (drop 0 crash.since))
      crash.step.0 other is crash.step.1) [
        | inl stands ↦
            inl (stands_kept slot images (g.size old) o crash.step.0 crash.step.2 stands)
        | inr found ↦ inr found
      ]
  cut_kept c s slot images o (inr fails) other is rest at =
      inl (stands_kept slot images (g.size old) o s (fails.every_cut rest o at).stands is)

  -- what a verb that is a command on a device keeps
  pub keeps_command : (c : Command)
      → ends_alone c ≡ false
      → ((s : Mounted) → IsIn (g.size old) s (g.seen old) → RunsCommand g old new status c s)
      → KeepsOf g old new status (Some c)
  keeps_command c other runs s stands rest = record {
    alone = λ slot images alone o at.
        cut_alone c s slot images o (runs s stands) other alone rest at;
    kept = λ slot images kept o at.
        cut_kept c s slot images o (runs s stands) other kept rest at;
  }

  pub command_whole : (c : Command)
      → ((s : Mounted) → IsIn (g.size old) s (g.seen old) → RunsCommand g old new status c s)
      → NoFault (g.faults old) (g.faults new)
      → CompletesOf g old new status (Some c)
  command_whole c runs none s stands = item_whole c s none (runs s stands)

  -- a session is answered whole
  pub session_whole : {Else : Outcome → Type 0} {turns : ℕ} {first : Mounted}
      → NoFault (g.faults old) (g.faults new)
      → RunsSession g (g.size old) Else turns first old new status
      ⊎ FailsBefore g (g.size old) first old new status
      → AnswersAll g old new status turns first ⊎ (status ≡ NoMemory)
  session_whole {Else} {turns} {first} held runs =
      completed g (g.size old) Else turns first old new status runs (λ fails. fails.early)
      (no_disk held) (no_port held)

  pub fresh_whole : {Else : Outcome → Type 0} {turns : ℕ} {first : Mounted}
      → NoFault (g.faults old) (g.faults new)
      → RunsSession g (g.size old) Else turns first old new status
      ⊎ FailsMaking g (g.size old) [] 0 65536 old new status
      → AnswersAll g old new status turns first ⊎ (status ≡ NoMemory)
  fresh_whole {Else} {turns} {first} held runs =
      completed g (g.size old) Else turns first old new status runs (λ fails. fails.early)
      (no_disk held) (no_port held)

  -- one item is done whole, or memory is refused
  pub told_whole : (s : Mounted) (item : Item Mounted) (ends : Status)
      → NoFault (g.faults old) (g.faults new)
      → RunsOrFails g old new status s item ends
      → TellsWhole g old new status ends item.reply
  told_whole s item ends held (inl runs) =
      ⊎_elim
      (λ is. inl (is, item_told g (g.size old) s item ends old new status runs is))
      (λ failed. absurd (⊎_elim (no_disk held) (no_port held) failed))
      runs.status_is
  told_whole s item ends held (inr (inl short)) = inr short.memory
  told_whole s item ends held (inr (inr fails)) =
      ⊎_elim (λ is. absurd (no_disk held is)) (λ memory. inr memory) fails.early

  -- all is done and told, or memory is refused
  pub acts_whole : {Else : Outcome → Type 0} {set : List SetImage} {limit max : ℕ} {first : Mounted}
      {c : Course}
      → NoFault (g.faults old) (g.faults new)
      → RunsActs g (g.size old) Else first c old new status
      ⊎ FailsMaking g (g.size old) set limit max old new status
      → TellsWhole g old new status c.ends (joined c.items)
  acts_whole held (inl runs) =
      ⊎_elim
      (λ is. inl (is, (let items = runs.items in items.whole) is))
      (λ others.
      ⊎_elim (λ failed. absurd (⊎_elim (no_disk held) (no_port held) failed))
      (λ memory. inr memory) others)
      runs.status_is
  acts_whole held (inr fails) =
      ⊎_elim (λ is. absurd (no_disk held is)) (λ memory. inr memory) fails.early
