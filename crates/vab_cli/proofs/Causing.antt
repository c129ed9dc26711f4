-- Why a run ends with the status 3, 4 or 5.
use Rattle.std.proofs.Common.{◌≡◌, ◌⊎◌, ◌∙◌, inl, inr, ℕ, List, Result, Ok, Err, Option}
use Rattle.std.proofs.Common.{Some, None, IfErr, refl, sym, ap, subst, ⊎_elim, ◌^◌}
use Rattle.std.specs.Prelude.{IfOk, IsErrOf, Bool}
use Rattle.vab_disk.specs.declared.disk.Disk.{Ghosts}
use Rattle.vab_disk.specs.Disk.{Image}
use Rattle.vab_set.specs.declared.set.SetImage.{SetImage}
use Rattle.vab_set.specs.declared.fault.SetFault.{SetFault}
use Rattle.vab_set.specs.declared.fault.SetFault.TheVariants as faults
use Rattle.vab_set.specs.Reading.{Gives, set_of}
use Rattle.vab_model.specs.Commands.{Command}
use Rattle.vab_model.specs.declared.command.Reply.{Reply}
use Rattle.vab_model.specs.declared.command.Reply.TheVariants as replies
use Rattle.vab_device.specs.declared.device.Device.{Device}
use Rattle.vab_device.specs.declared.fault.StartFault.{StartFault}
use Rattle.vab_device.specs.declared.fault.StartFault.TheVariants as start
use Rattle.vab_device.specs.Mounted.{Mounted, mounted_on}
use Rattle.vab_device.specs.Reading.{device, IsIn, Represents}
use Rattle.vab_device.specs.Updates.{effect_on}
use Rattle.vab_device.proofs.ReadingLaws.{device_stands}
use Rattle.vab_make.specs.declared.fault.MakeFault.{MakeFault}
use Rattle.vab_make.specs.declared.fault.MakeFault.TheVariants as make
use Rattle.vab_make.specs.Making as making
use Rattle.vab_make.specs.Made.{refusal_of}
use Rattle.vab_input.specs.declared.input.InputFault.{InputFault}
use Rattle.vab_input.specs.declared.input.InputFault.TheVariants as input
use Rattle.vab_exchanges.specs.Session.{Exchange, End, IsSession}
use Rattle.vab_session.specs.Served.{Answer, Says, ServesDevice}
use Rattle.vab_session.specs.declared.fault.SessionFault.TheVariants as session
use Rattle.vab_causes.specs.declared.cause.Cause.{Cause}
use Rattle.vab_causes.specs.declared.cause.Cause.TheVariants as causes
use Rattle.vab_cli.specs.declared.status.Status.{Status}
use Rattle.vab_cli.specs.declared.status.Status.TheVariants.{Done, Malformed, Refused, NotADevice}
use Rattle.vab_cli.specs.declared.status.Status.TheVariants.{NoMemory, Port}
use Rattle.vab_cli.specs.Acts.{IsStop, closed_by, status_in}
use Rattle.vab_cli.specs.Causes.{noted, session_cause, IsRefusedOn}
use Rattle.vab_cli.specs.Causes.{IsBrokenOff, IsUnmade}
use Rattle.vab_cli.specs.Codes.{input_status, make_status, session_status, set_status}
use Rattle.vab_cli.specs.Codes.{start_status}
use Rattle.vab_cli.specs.Runs.{FailsBefore, IsEarly, IsFailed, RunsNone}

pub if_ok_by : {A E : Type 0} (r : Result A E) (P : A → Type 0) → ((a : A) → P a) → IfOk r P
if_ok_by (Ok a) P all = all a
if_ok_by (Err e) P all = tt

-- ---- how opening fails

-- no device is opened
abbrev pub IsUnopened : Status → Type 0
IsUnopened status = (status ≡ NotADevice) ⊎ (IsFailed status ⊎ (status ≡ NoMemory))

early_unopened : {status : Status} → IsEarly status → IsUnopened status
early_unopened (inl disk) = inr (inl (inl disk))
early_unopened (inr memory) = inr (inr memory)

pub opening_kind : {D : Type 0} (g : Ghosts D) (line : List ℕ) (old new : D) (status : Status)
    → ((s : Mounted)
    → IsIn (g.size old) s (g.seen old)
    → FailsBefore g (g.size old) s old new status)
    → ((f : StartFault)
    → device (g.size old) (g.seen old) ≡ Err f
    → RunsNone g (g.size old) line old new status)
    → IsUnopened status
opening_kind g line old new status early none =
    go (device (g.size old) (g.seen old)) refl
  where
    go : (r : Result Mounted StartFault)
        → device (g.size old) (g.seen old) ≡ r
        → IsUnopened status
    go (Ok s) is = early_unopened (early s is).early
    go (Err f) is = (none f is).status_is

pub unopened_unrefused : {R : Type 0} {status : Status} → IsUnopened status → status ≡ Refused → R
unopened_unrefused (inl none) is = cc
unopened_unrefused (inr (inl (inl disk))) is = cc
unopened_unrefused (inr (inl (inr port))) is = cc
unopened_unrefused (inr (inr memory)) is = cc

pub unopened_read : {R : Type 0} {status : Status} → IsUnopened status → status ≡ Malformed → R
unopened_read (inl none) is = cc
unopened_read (inr (inl (inl disk))) is = cc
unopened_read (inr (inl (inr port))) is = cc
unopened_read (inr (inr memory)) is = cc

pub failed_opened : {R : Type 0} {status : Status} → IsFailed status → status ≡ NotADevice → R
failed_opened (inl disk) is = cc
failed_opened (inr port) is = cc

pub failed_unrefused : {R : Type 0} {status : Status} → IsFailed status → status ≡ Refused → R
failed_unrefused (inl disk) is = cc
failed_unrefused (inr port) is = cc

pub none_held : IsFailed NotADevice → ⊥
none_held (inl disk) = cc
none_held (inr port) = cc

pub memory_held : IsFailed NoMemory → ⊥
memory_held (inl disk) = cc
memory_held (inr port) = cc

-- ---- what is done on a device that is open

stop_opened : {status : Status} → IsStop status → status ≡ NotADevice → ⊥
stop_opened (inl refused) is = cc
stop_opened (inr (inl (inl disk))) is = cc
stop_opened (inr (inl (inr port))) is = cc
stop_opened (inr (inr memory)) is = cc

stop_read : {status : Status} → IsStop status → status ≡ Malformed → ⊥
stop_read (inl refused) is = cc
stop_read (inr (inl (inl disk))) is = cc
stop_read (inr (inl (inr port))) is = cc
stop_read (inr (inr memory)) is = cc

pub ended_opened : {R : Type 0} (r : Result Device Status)
    → IfErr r IsStop
    → status_in r ≡ NotADevice
    → R
ended_opened (Ok d) stop is = cc
ended_opened (Err status) stop is = absurd (stop_opened stop is)

pub ended_read : {R : Type 0} (r : Result Device Status)
    → IfErr r IsStop
    → status_in r ≡ Malformed
    → R
ended_read (Ok d) stop is = cc
ended_read (Err status) stop is = absurd (stop_read stop is)

pub ended_refused : (r : Result Device Status) → status_in r ≡ Refused → IsErrOf r Refused
ended_refused (Ok d) is = cc
ended_refused (Err status) is = ap Err is

-- a command that is closed by a refusal
pub closed_refused : (d : Device) (r : Reply) (before after : Option Cause) (m : Mounted)
    (c : Command)
    → after ≡ noted r before
    → (effect_on m None c).reply ≡ r
    → IsErrOf (closed_by d r) Refused
    → IsRefusedOn m c after
closed_refused d replies.Done before after m c note is refused = cc
closed_refused d (replies.Booted slot) before after m c note is refused = cc
closed_refused d (replies.Bytes name) before after m c note is refused = cc
closed_refused d (replies.Digest sum) before after m c note is refused = cc
closed_refused d (replies.Left blocks) before after m c note is refused = cc
closed_refused d replies.Merged before after m c note is refused = cc
closed_refused d (replies.Refused refusal) before after m c note is refused =
    record { refusal = refusal; is = note; holds = is }

-- the device that is kept is that of the disk as it was
pub device_opened : (d : Device) (size : ℕ) (mid old : Image) (s : Mounted)
    → Represents d size mid
    → device size mid ≡ device size old
    → IsIn size s old
    → mounted_on d mid ≡ s
device_opened d size mid old s represents same is =
    let both : Ok (mounted_on d mid) ≡ Ok s =
    sym (device_stands d size mid represents) ∙ same ∙ is in cc

-- ---- an input that isn't taken

pub input_long : (f : InputFault) → input_status f ≡ Malformed → f ≡ input.TooLong
input_long input.TooLong is = refl
input_long input.Source is = cc
input_long input.NoMemory is = cc

pub input_opened : {R : Type 0} (f : InputFault) → input_status f ≡ NotADevice → R
input_opened input.TooLong is = cc
input_opened input.Source is = cc
input_opened input.NoMemory is = cc

pub input_unrefused : {R : Type 0} (f : InputFault) → input_status f ≡ Refused → R
input_unrefused input.TooLong is = cc
input_unrefused input.Source is = cc
input_unrefused input.NoMemory is = cc

pub set_opened : {R : Type 0} (f : SetFault) → set_status f ≡ NotADevice → R
set_opened faults.BadMagic is = cc
set_opened (faults.TooMany count) is = cc
set_opened (faults.BadName image) is = cc
set_opened (faults.Repeated first image) is = cc
set_opened (faults.TooBig image) is = cc
set_opened (faults.Cut image) is = cc
set_opened faults.Trailing is = cc
set_opened faults.NoMemory is = cc

pub set_unrefused : {R : Type 0} (f : SetFault) → set_status f ≡ Refused → R
set_unrefused faults.BadMagic is = cc
set_unrefused (faults.TooMany count) is = cc
set_unrefused (faults.BadName image) is = cc
set_unrefused (faults.Repeated first image) is = cc
set_unrefused (faults.TooBig image) is = cc
set_unrefused (faults.Cut image) is = cc
set_unrefused faults.Trailing is = cc
set_unrefused faults.NoMemory is = cc

pub set_read : (f : SetFault) (text left : List ℕ)
    → text ≡ left
    → Gives {X = List SetImage} {Y = List SetImage} (λ v. v) (Err f) (set_of text)
    → set_status f ≡ Malformed
    → set_of left ≡ Err f
set_read f text left same gives is = sym (ap set_of same) ∙ go f gives is
  where
    go : (f : SetFault)
        → Gives {X = List SetImage} {Y = List SetImage} (λ v. v) (Err f) (set_of text)
        → set_status f ≡ Malformed
        → set_of text ≡ Err f
    go faults.BadMagic gives is = gives
    go (faults.TooMany count) gives is = gives
    go (faults.BadName image) gives is = gives
    go (faults.Repeated first image) gives is = gives
    go (faults.TooBig image) gives is = gives
    go (faults.Cut image) gives is = gives
    go faults.Trailing gives is = gives
    go faults.NoMemory gives is = cc

-- ---- a device that isn't made

pub make_refused : (f : MakeFault) (said : Option MakeFault)
    → making.Gives {A = Unit {0}} (Err f) said
    → (make_status f ≡ NotADevice) ⊎ (make_status f ≡ Refused)
    → said ≡ Some f
make_refused (make.TooSmall need have) said gives is = gives
make_refused (make.GroupLimit used limit) said gives is = gives
make_refused (make.NoRoom used cap) said gives is = gives
make_refused (make.TableFull size max) said gives is = gives
make_refused make.NoMemory said gives (inl is) = cc
make_refused make.NoMemory said gives (inr is) = cc
make_refused (make.Disk fault) said gives (inl is) = cc
make_refused (make.Disk fault) said gives (inr is) = cc

pub make_read : {R : Type 0} (f : MakeFault) → make_status f ≡ Malformed → R
make_read (make.TooSmall need have) is = cc
make_read (make.GroupLimit used limit) is = cc
make_read (make.NoRoom used cap) is = cc
make_read (make.TableFull size max) is = cc
make_read make.NoMemory is = cc
make_read (make.Disk fault) is = cc

module _ {D : Type 0} (g : Ghosts D) (old : D) where
  -- ---- a session that is broken off
  pub broken_off : (answer : Answer) (cause : Option Cause) (refused : ℕ → Bool)
      (exchanges : List Exchange) (unfinished : Option (List ℕ)) (end : End)
      → cause ≡ session_cause answer
      → session_status answer ≡ Malformed
      → IsSession (2 ^ 44) refused (g.input_left old) exchanges unfinished end
      → Says answer end
      → IsBrokenOff g old cause
  broken_off (Ok r) cause refused exchanges unfinished end is bad session says = cc
  broken_off (Err fault) cause refused exchanges unfinished end is bad session says = record {
    fault = fault;
    is = is;
    refused = refused;
    exchanges = exchanges;
    unfinished = unfinished;
    end = end;
    session = session;
    says = says;
  }

-- what is heard before doesn't change the size
pub unmade_after : {D : Type 0} (g : Ghosts D) (old mid : D) (set : List SetImage) (limit max : ℕ)
    (cause : Option Cause)
    → g.size mid ≡ g.size old
    → IsUnmade g mid set limit max cause
    → IsUnmade g old set limit max cause
unmade_after g old mid set limit max cause same unmade = record {
  fault = unmade.fault;
  is = unmade.is;
  holds = ap (refusal_of set limit max) (sym same) ∙ unmade.holds;
}

-- where a device isn't made, that is told, or the port failed
pub unmade_told : {D : Type 0} (g : Ghosts D) (old : D) (set : List SetImage) (limit max : ℕ)
    (fault : MakeFault) (cause : Option Cause) (status : Status)
    → making.Gives {A = Unit {0}} (Err fault) (refusal_of set limit max (g.size old))
    → cause ≡ Some (causes.Making fault)
    → (status ≡ make_status fault) ⊎ (status ≡ Port)
    → (status ≡ NotADevice) ⊎ (status ≡ Refused)
    → IsUnmade g old set limit max cause
unmade_told g old set limit max fault cause status gives is (inl told) none = record {
  fault = fault;
  is = is;
  holds = make_refused fault _ gives
      (⊎_elim (λ no. inl (sym told ∙ no)) (λ refused. inr (sym told ∙ refused)) none);
}
unmade_told g old set limit max fault cause status gives is (inr port) (inl none) = cc
unmade_told g old set limit max fault cause status gives is (inr port) (inr refused) = cc

pub unmade_read : {R : Type 0} (fault : MakeFault) {status : Status}
    → (status ≡ make_status fault) ⊎ (status ≡ Port)
    → status ≡ Malformed
    → R
unmade_read fault (inl told) is = make_read fault (sym told ∙ is)
unmade_read fault (inr port) is = cc

-- where one is made
pub made_unmade : {R : Type 0} {status : Status}
    → (status ≡ Done) ⊎ (status ≡ Port)
    → (status ≡ NotADevice) ⊎ (status ≡ Refused)
    → R
made_unmade (inl done) (inl none) = cc
made_unmade (inl done) (inr refused) = cc
made_unmade (inr port) (inl none) = cc
made_unmade (inr port) (inr refused) = cc

pub made_read : {R : Type 0} {status : Status}
    → (status ≡ Done) ⊎ (status ≡ Port)
    → status ≡ Malformed
    → R
made_read (inl done) is = cc
made_read (inr port) is = cc

-- ---- sessions

pub session_opened : {R : Type 0} (answer : Answer) → session_status answer ≡ NotADevice → R
session_opened (Ok r) is = cc
session_opened (Err session.BadHello) is = cc
session_opened (Err (session.TooLong n)) is = cc
session_opened (Err (session.Overrun due came)) is = cc
session_opened (Err (session.Cut at)) is = cc
session_opened (Err session.Spent) is = cc
session_opened (Err session.Disk) is = cc
session_opened (Err session.Source) is = cc
session_opened (Err session.Sink) is = cc

pub start_read : {R : Type 0} (f : StartFault) → start_status f ≡ Malformed → R
start_read (start.TooSmall need have) is = cc
start_read (start.BadMark sector) is = cc
start_read (start.BadControl fault) is = cc
start_read start.BadPhysical is = cc
start_read start.BadGeometry is = cc
start_read (start.BadTable slot) is = cc
start_read (start.BadPartition name) is = cc
start_read (start.BadStore name) is = cc
start_read (start.BadState rule) is = cc
start_read start.NoMemory is = cc
start_read (start.Disk fault) is = cc

-- how a session of the input ends, where it is broken off behind other calls
pub session_broken : {D : Type 0} (turns : ℕ) (g : Ghosts D) (size : ℕ) (d : Device)
    (old mid new : D)
    (answer : Answer) (cause : Option Cause)
    → g.input_left mid ≡ g.input_left old
    → ServesDevice size g d (2 ^ 44) turns mid new answer
    → cause ≡ session_cause answer
    → session_status answer ≡ Malformed
    → IsBrokenOff g old cause
session_broken turns g size d old mid new answer cause left serves is bad =
    broken_off g old answer cause serves.refused serves.exchanges serves.unfinished serves.end is
    bad
    (subst
    (λ (l : List ℕ).
    IsSession (2 ^ 44) serves.refused l serves.exchanges serves.unfinished serves.end)
    left serves.session)
    serves.ends
