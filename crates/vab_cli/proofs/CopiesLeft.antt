-- Both copies of the tables, where a run has come to its end.
use Rattle.std.proofs.Common.{◌≡◌, ◌∙◌, ◌⊎◌, ⊎_elim, ℕ, None, Ok, Err}
use Rattle.std.proofs.Common.{Option, Result, sym, subst}
use Rattle.vab_disk.specs.declared.disk.Disk.{Ghosts}
use Rattle.vab_disk.specs.Calls.{Changes}
use Rattle.vab_disk.specs.Written.{same_image}
use Rattle.vab_device.specs.declared.device.Device.{Device}
use Rattle.vab_device.specs.declared.fault.StartFault.{StartFault}
use Rattle.vab_device.specs.declared.fault.StartFault.TheVariants as start
use Rattle.vab_make.specs.declared.fault.MakeFault.{MakeFault}
use Rattle.vab_make.specs.declared.fault.MakeFault.TheVariants as make
use Rattle.vab_make.specs.Making.{Gives}
use Rattle.vab_commands.specs.Copies.{HasBothCopies}
use Rattle.vab_session.specs.Served.{Answer, Held as SessionHeld}
use Rattle.vab_session.specs.declared.fault.SessionFault.TheVariants as session
use Rattle.vab_cli.specs.declared.status.Status.{Status}
use Rattle.vab_cli.specs.declared.status.Status.TheVariants.{Done, Usage, Malformed, Refused}
use Rattle.vab_cli.specs.declared.status.Status.TheVariants.{NotADevice, Disk, Port, NoMemory}
use Rattle.vab_cli.specs.Acts.{Course, Performs, status_in}
use Rattle.vab_cli.specs.Codes.{make_status, session_status, start_status}
use Rattle.vab_cli.specs.Copies.{IsAnswered}
use Rattle.vab_cli.specs.Runs.{Held, IsEarly, IsFailed}

-- ---- which statuses answer

answered_held : (s : Status) → IsAnswered s → Held s
answered_held Done is = tt
answered_held Malformed is = tt
answered_held Refused is = tt
answered_held Usage is = tt
answered_held NotADevice is = tt
answered_held Disk is = is
answered_held Port is = is
answered_held NoMemory is = tt

pub ended_answers : (s : Status) → (s ≡ Done) ⊎ (s ≡ Malformed) → IsAnswered s
ended_answers s is =
    ⊎_elim (λ done. subst IsAnswered (sym done) tt) (λ bad. subst IsAnswered (sym bad) tt) is

pub early_unanswered : (s : Status) → IsEarly s → IsAnswered s → ⊥
early_unanswered s early is =
    ⊎_elim (λ disk. subst IsAnswered disk is) (λ memory. subst IsAnswered memory is) early

pub failed_unanswered : (s : Status) → IsFailed s → IsAnswered s → ⊥
failed_unanswered s failed is =
    ⊎_elim (λ disk. subst IsAnswered disk is) (λ port. subst IsAnswered port is) failed

pub start_unanswered : (fault : StartFault) → IsAnswered (start_status fault) → ⊥
start_unanswered (start.TooSmall need have) is = is
start_unanswered (start.BadMark sector) is = is
start_unanswered (start.BadControl fault) is = is
start_unanswered start.BadPhysical is = is
start_unanswered start.BadGeometry is = is
start_unanswered (start.BadTable slot) is = is
start_unanswered (start.BadPartition name) is = is
start_unanswered (start.BadStore name) is = is
start_unanswered (start.BadState rule) is = is
start_unanswered start.NoMemory is = is
start_unanswered (start.Disk fault) is = is

-- making a device is never done or malformed where it fails
pub making_unended : (fault : MakeFault)
    → (make_status fault ≡ Done) ⊎ (make_status fault ≡ Malformed)
    → ⊥
making_unended (make.TooSmall need have) is = ⊎_elim (λ e. cc) (λ e. cc) is
making_unended (make.GroupLimit used limit) is = ⊎_elim (λ e. cc) (λ e. cc) is
making_unended (make.NoRoom used cap) is = ⊎_elim (λ e. cc) (λ e. cc) is
making_unended (make.TableFull size max) is = ⊎_elim (λ e. cc) (λ e. cc) is
making_unended make.NoMemory is = ⊎_elim (λ e. cc) (λ e. cc) is
making_unended (make.Disk fault) is = ⊎_elim (λ e. cc) (λ e. cc) is

-- and where a set isn't refused it isn't refused
pub making_unanswered : (fault : MakeFault) (said : Option MakeFault)
    → (let r : Result (Unit {0}) MakeFault = Err fault in Gives r said)
    → said ≡ None
    → IsAnswered (make_status fault)
    → ⊥
making_unanswered (make.TooSmall need have) said gives none is = is
making_unanswered (make.GroupLimit used limit) said gives none is =
    let both = sym gives ∙ none in cc
making_unanswered (make.NoRoom used cap) said gives none is =
    let both = sym gives ∙ none in cc
making_unanswered (make.TableFull size max) said gives none is =
    let both = sym gives ∙ none in cc
making_unanswered make.NoMemory said gives none is = is
making_unanswered (make.Disk fault) said gives none is = is

pub either_unanswered : (s t : Status)
    → (s ≡ t) ⊎ (s ≡ Port)
    → (IsAnswered t → ⊥)
    → IsAnswered s
    → ⊥
either_unanswered s t either not is =
    ⊎_elim (λ same. not (subst IsAnswered same is)) (λ port. subst IsAnswered port is) either

-- the disk and the port of a session that answers didn't fail
pub session_held : (r : Answer) → IsAnswered (session_status r) → SessionHeld r
session_held (Ok x) is = tt
session_held (Err session.BadHello) is = tt
session_held (Err (session.TooLong n)) is = tt
session_held (Err (session.Overrun due came)) is = tt
session_held (Err (session.Cut at)) is = tt
session_held (Err session.Spent) is = tt
session_held (Err session.Disk) is = is
session_held (Err session.Source) is = is
session_held (Err session.Sink) is = is

-- ---- the copies

module _ {D : Type 0} (g : Ghosts D) where
  -- where nothing is written
  pub unwritten : (old new : D)
      → g.is_modelled
      → Changes g (λ s b. ⊥) old new
      → g.seen new ≡ g.seen old
  unwritten old new t changes =
      same_image (g.seen new) (g.seen old)
      (λ s. ⊎_elim (λ same. same) (λ none. absurd none) (changes.seen t s))

  -- behind what is performed
  pub performed_copies : (d : Device) (c : Course) (size : ℕ) (mid new : D)
      (r : Result Device Status) (s : Status)
      → g.is_modelled
      → g.size mid ≡ size
      → Performs g d c mid new r
      → s ≡ status_in r
      → IsAnswered s
      → HasBothCopies size (g.seen new)
  performed_copies d c size mid new r s t sized p is answers =
      subst (λ (n : ℕ). HasBothCopies n (g.seen new)) sized
      (p.copies t (answered_held (status_in r) (subst IsAnswered is answers)))
