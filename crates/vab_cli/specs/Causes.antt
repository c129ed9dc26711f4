-- Why a run ends with the status 3, 4 or 5.
use Rattle.std.specs.Prelude.{◌≡◌, ◌⊎◌, ◌<◌, ◌^◌, ℕ, Bool, true, false, List, [], length}
use Rattle.std.specs.Prelude.{Option, Some, None, Ok, Err}
use Rattle.vab_disk.specs.declared.disk.Disk.{Ghosts}
use Rattle.vab_set.specs.Reading.{set_of}
use Rattle.vab_set.specs.declared.set.SetImage.{SetImage}
use Rattle.vab_set.specs.declared.fault.SetFault.{SetFault}
use Rattle.vab_gen.specs.Sets.{fresh_set}
use Rattle.vab_model.specs.Commands.{Command, SetActive, Boot, Mark, Print, Digest, Cancel}
use Rattle.vab_model.specs.Commands.{BeginMerge, Merge}
use Rattle.vab_model.specs.declared.command.Refusal.{Refusal}
use Rattle.vab_model.specs.declared.command.Reply.{Reply}
use Rattle.vab_model.specs.declared.command.Reply.TheVariants as replies
use Rattle.vab_device.specs.declared.fault.StartFault.{StartFault}
use Rattle.vab_device.specs.Mounted.{Mounted}
use Rattle.vab_device.specs.Reading.{device, IsIn}
use Rattle.vab_device.specs.Updates.{effect_on}
use Rattle.vab_marks.specs.declared.mark.UpdateMark.{UpdateMark}
use Rattle.vab_make.specs.declared.fault.MakeFault.{MakeFault}
use Rattle.vab_make.specs.Made.{refusal_of}
use Rattle.vab_adopt.specs.declared.fault.AdoptFault.{AdoptFault}
use Rattle.vab_adopt.specs.Adopted.{adopt_refusal}
use Rattle.vab_adopt.specs.Dropped.{dropped}
use Rattle.vab_update.specs.Install.{install_effect}
use Rattle.vab_words.specs.Verbs.{Meaning}
use Rattle.vab_words.specs.Verbs as words
use Rattle.vab_exchanges.specs.Session.{Exchange, End, IsSession}
use Rattle.vab_session.specs.Served.{Answer, Says}
use Rattle.vab_session.specs.declared.fault.SessionFault.{SessionFault}
use Rattle.vab_causes.specs.declared.cause.Cause.{Cause}
use Rattle.vab_causes.specs.declared.cause.Cause.TheVariants as causes
use Rattle.vab_cli.specs.declared.status.Status.{Status}
use Rattle.vab_cli.specs.declared.status.Status.TheVariants.{Done, Malformed, Refused}
use Rattle.vab_cli.specs.declared.status.Status.TheVariants.{NotADevice}

-- why a command was refused is noted, and nothing of another reply
abbrev pub noted : Reply → Option Cause → Option Cause
noted (replies.Refused refusal) before = Some (causes.Refused refusal)
noted _ before = before

-- why a session stops, where it does
abbrev pub session_cause : Answer → Option Cause
session_cause (Ok r) = None
session_cause (Err fault) = Some (causes.Session fault)

-- the update or overlay that was dropped, if one was
abbrev pub dropped_cause : Option UpdateMark → Option Cause
dropped_cause None = None
dropped_cause (Some mark) = Some (causes.Dropped mark)

-- the refusal that the table of effects has for a command on a device
pub record IsRefusedOn (s : Mounted) (c : Command) (cause : Option Cause) : Type 0 where
  pub refusal : Refusal
  pub is : cause ≡ Some (causes.Refused refusal)
  pub holds : (effect_on s None c).reply ≡ replies.Refused refusal

-- the same of the installation of a set, at an image or at none
pub record IsUninstalledOn
    (s : Mounted)
    (set : List SetImage)
    (cause : Option Cause) : Type 0 where
  pub image : Option (List ℕ)
  pub refusal : Refusal
  pub is : cause ≡ Some (causes.Installing image refusal)
  pub holds : (install_effect s set).reply ≡ replies.Refused refusal

module _ {D : Type 0} (g : Ghosts D) (old : D) where
  -- the first thing that is wrong with the disk
  pub record IsNoDevice (cause : Option Cause) : Type 0 where
    pub fault : StartFault
    pub is : cause ≡ Some (causes.Opening fault)
    pub holds : device (g.size old) (g.seen old) ≡ Err fault

  -- the first refusal of making a device of a set
  pub record IsUnmade
      (set : List SetImage)
      (limit max : ℕ)
      (cause : Option Cause) : Type 0 where
    pub fault : MakeFault
    pub is : cause ≡ Some (causes.Making fault)
    pub holds : refusal_of set limit max (g.size old) ≡ Some fault

  -- the first reason not to adopt a disk
  pub record IsUnadopted (slot : ℕ) (cause : Option Cause) : Type 0 where
    pub fault : AdoptFault
    pub is : cause ≡ Some (causes.Adopting fault)
    pub holds : adopt_refusal (g.size old) slot (g.seen old) ≡ Some fault

  -- a command is refused on the device of the disk
  abbrev pub IsRefusedAs : Command → Option Cause → Type 0
  IsRefusedAs c cause = (s : Mounted) → IsIn (g.size old) s (g.seen old) → IsRefusedOn s c cause

  -- so is the installation of the set that the input spells
  abbrev pub IsUninstalled : Option Cause → Type 0
  IsUninstalled cause =
      (set : List SetImage)
      → set_of (g.input_left old) ≡ Ok set
      → (s : Mounted)
      → IsIn (g.size old) s (g.seen old)
      → IsUninstalledOn s set cause

  -- the input is too long, or the first thing that is wrong with the set that it spells
  pub data IsNoSet (cause : Option Cause) : Type 0 where
    too_long : cause ≡ Some causes.TooLong → 2 ^ 32 < length (g.input_left old) → IsNoSet cause
    malformed : (fault : SetFault)
        → cause ≡ Some (causes.Set fault)
        → set_of (g.input_left old) ≡ Err fault
        → IsNoSet cause

  -- the end of the session that the input is, for some choice of the commands to which memory is
  -- refused
  pub record IsBrokenOff (cause : Option Cause) : Type 0 where
    pub fault : SessionFault
    pub is : cause ≡ Some (causes.Session fault)
    pub refused : ℕ → Bool
    pub exchanges : List Exchange
    pub unfinished : Option (List ℕ)
    pub end : End
    pub session : IsSession (2 ^ 44) refused (g.input_left old) exchanges unfinished end
    pub says : Says (Err fault) end

  -- Some set that the input spells isn't made into a device.
  abbrev pub IsUnmadeOfInput : (limit max : ℕ) → Option Cause → Type 0
  IsUnmadeOfInput limit max cause =
      (set : List SetImage)
      × (set_of (g.input_left old) ≡ Ok set)
      × IsUnmade set limit max cause

  -- The cause of a command's refusal, and of no device.
  abbrev pub ExplainsCommand : Command → Status → Option Cause → Type 0
  ExplainsCommand c status cause =
      (status ≡ NotADevice → IsNoDevice cause) × (status ≡ Refused → IsRefusedAs c cause)

  -- The cause of each status 3, 4 and 5 of what the words ask for, but for a refusal in a `demo`;
  -- and the update or overlay that `adopt` has dropped.
  abbrev pub Explains : Meaning → Status → Option Cause → Type 0
  Explains (words.Make limit max) status cause =
      ((status ≡ NotADevice) ⊎ (status ≡ Refused) → IsUnmadeOfInput limit max cause)
      × (status ≡ Malformed → IsNoSet cause)
  Explains (words.Adopt slot) status cause =
      ((status ≡ NotADevice) ⊎ (status ≡ Refused) → IsUnadopted slot cause)
      × (status ≡ Done → cause ≡ dropped_cause (dropped (g.seen old)))
  Explains (words.Serve true turns) status cause =
      (status ≡ NotADevice → IsUnmade [] 0 65536 cause) × (status ≡ Malformed → IsBrokenOff cause)
  Explains (words.Serve false turns) status cause =
      (status ≡ NotADevice → IsNoDevice cause) × (status ≡ Malformed → IsBrokenOff cause)
  Explains words.Install status cause =
      (status ≡ NotADevice → IsNoDevice cause)
      × (status ≡ Refused → IsUninstalled cause)
      × (status ≡ Malformed → IsNoSet cause)
  Explains words.Boot status cause = ExplainsCommand Boot status cause
  Explains words.Mark status cause = ExplainsCommand Mark status cause
  Explains words.BeginMerge status cause = ExplainsCommand BeginMerge status cause
  Explains (words.Merge turns) status cause = ExplainsCommand (Merge turns) status cause
  Explains words.Cancel status cause = ExplainsCommand Cancel status cause
  Explains (words.Activate slot) status cause = ExplainsCommand (SetActive slot) status cause
  Explains (words.Print name) status cause = ExplainsCommand (Print name) status cause
  Explains (words.Digest name) status cause = ExplainsCommand (Digest name) status cause
  Explains words.Status status cause = status ≡ NotADevice → IsNoDevice cause
  Explains (words.Demo seed scale) status cause =
      status ≡ NotADevice → IsUnmade (fresh_set scale seed) 0 65536 cause
