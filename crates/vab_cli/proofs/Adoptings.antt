-- Adopting a disk as a run of the program.
use Rattle.std.proofs.Common.{◌≡◌, ◌≢◌, ◌⊎◌, ◌∙◌, inl, inr, ℕ, [], true, false}
use Rattle.std.proofs.Common.{Ok, refl, sym, ap, subst}
use Rattle.std.specs.Prelude.{Option, Some}
use Rattle.vab_disk.specs.declared.disk.Disk.{Ghosts}
use Rattle.vab_disk.specs.Disk.{Image, Outcome, Leaves}
use Rattle.vab_device.specs.declared.fault.StartFault.{StartFault}
use Rattle.vab_device.specs.declared.fault.StartFault.TheVariants as start
use Rattle.vab_device.specs.Faults.{IsOfContents}
use Rattle.vab_device.specs.Faults as faults
use Rattle.vab_device.specs.Mounted.{Mounted}
use Rattle.vab_adopt.specs.declared.fault.AdoptFault.{AdoptFault}
use Rattle.vab_adopt.specs.declared.fault.AdoptFault.TheVariants.{AlreadyDevice, NoDevice}
use Rattle.vab_adopt.specs.declared.count.Adopted.{Adopted}
use Rattle.vab_adopt.specs.Adopted.{adopted, IsCounted}
use Rattle.vab_adopt.specs.Adopting.{IsOfDisk, LeavesAdopting, Says}
use Rattle.vab_lines.specs.Lines.{adopted_line}
use Rattle.vab_causes.specs.declared.cause.Cause.{Cause}
use Rattle.vab_causes.specs.declared.cause.Cause.TheVariants as causes
use Rattle.vab_cli.specs.declared.status.Status.{Status}
use Rattle.vab_cli.specs.declared.status.Status.TheVariants.{Refused, NotADevice}
use Rattle.vab_cli.specs.declared.status.Status.TheVariants.{Disk, Port, NoMemory}
use Rattle.vab_cli.specs.Adopting.{adopt_line, done_adopting, is_silent, is_silent_start}
use Rattle.vab_cli.specs.Adopting.{start_line}
use Rattle.vab_cli.specs.Verbs.{none_line}
use Rattle.vab_cli.specs.Causes.{IsUnadopted}
use Rattle.vab_cli.specs.Codes.{adopt_status, start_status}
use Rattle.vab_cli.specs.Runs.{IsEarly, IsFailed}
use Rattle.vab_cli.proofs.Causing.{none_held}
use Rattle.vab_cli.proofs.Running.{contents_no_disk, memory_other, not_of_disk_by}

-- ---- faults of adopting

start_early : (f : StartFault) → is_silent_start f ≡ true → IsEarly (start_status f)
start_early (start.TooSmall need have) is = cc
start_early (start.BadMark sector) is = cc
start_early (start.BadControl fault) is = cc
start_early start.BadPhysical is = cc
start_early start.BadGeometry is = cc
start_early (start.BadTable slot) is = cc
start_early (start.BadPartition name) is = cc
start_early (start.BadStore name) is = cc
start_early (start.BadState rule) is = cc
start_early start.NoMemory is = inr refl
start_early (start.Disk fault) is = inl refl

-- where nothing is told of a fault
pub silent_early : (f : AdoptFault) → is_silent f ≡ true → IsEarly (adopt_status f)
silent_early AlreadyDevice is = cc
silent_early (NoDevice fault) is = start_early fault is

-- want of memory is no fault of the disk
pub memory_of_none : (f : AdoptFault) → adopt_status f ≡ NoMemory → IsOfDisk f → ⊥
memory_of_none AlreadyDevice is disk = disk
memory_of_none (NoDevice fault) is disk = not_of_disk_by fault (memory_other is) disk

start_disk : (f : StartFault) → start_status f ≡ Disk → faults.IsOfDisk f
start_disk (start.TooSmall need have) is = cc
start_disk (start.BadMark sector) is = cc
start_disk (start.BadControl fault) is = cc
start_disk start.BadPhysical is = cc
start_disk start.BadGeometry is = cc
start_disk (start.BadTable slot) is = cc
start_disk (start.BadPartition name) is = cc
start_disk (start.BadStore name) is = cc
start_disk (start.BadState rule) is = cc
start_disk start.NoMemory is = cc
start_disk (start.Disk fault) is = tt

pub disk_fault : (f : AdoptFault) → adopt_status f ≡ Disk → IsOfDisk f
disk_fault AlreadyDevice is = cc
disk_fault (NoDevice fault) is = start_disk fault is

start_loud : (f : StartFault) → is_silent_start f ≡ false → IsOfContents f
start_loud (start.TooSmall need have) is = tt
start_loud (start.BadMark sector) is = tt
start_loud (start.BadControl fault) is = tt
start_loud start.BadPhysical is = tt
start_loud start.BadGeometry is = tt
start_loud (start.BadTable slot) is = tt
start_loud (start.BadPartition name) is = tt
start_loud (start.BadStore name) is = tt
start_loud (start.BadState rule) is = tt
start_loud start.NoMemory is = cc
start_loud (start.Disk fault) is = cc

-- what is told of is the refusal
pub loud_refusal : (f : AdoptFault) (said : Option AdoptFault)
    → Says f said
    → is_silent f ≡ false
    → said ≡ Some f
loud_refusal AlreadyDevice said says is = says
loud_refusal (NoDevice fault) said says is = says (start_loud fault is)

-- and no fault of the disk
pub loud_held : (f : AdoptFault) → is_silent f ≡ false → IsOfDisk f → ⊥
loud_held AlreadyDevice is disk = disk
loud_held (NoDevice fault) is disk = contents_no_disk fault (start_loud fault is) disk

-- the statuses of what is told
start_told : (f : StartFault) → is_silent_start f ≡ false → start_status f ≡ NotADevice
start_told (start.TooSmall need have) is = refl
start_told (start.BadMark sector) is = refl
start_told (start.BadControl fault) is = refl
start_told start.BadPhysical is = refl
start_told start.BadGeometry is = refl
start_told (start.BadTable slot) is = refl
start_told (start.BadPartition name) is = refl
start_told (start.BadStore name) is = refl
start_told (start.BadState rule) is = refl
start_told start.NoMemory is = cc
start_told (start.Disk fault) is = cc

pub told_status : (f : AdoptFault)
    → is_silent f ≡ false
    → (adopt_status f ≡ NotADevice) ⊎ (adopt_status f ≡ Refused)
told_status AlreadyDevice is = inr refl
told_status (NoDevice fault) is = inl (start_told fault is)

start_quiet : (f : StartFault) → start_status f ≡ NoMemory → start_line f ≡ []
start_quiet (start.TooSmall need have) is = cc
start_quiet (start.BadMark sector) is = cc
start_quiet (start.BadControl fault) is = cc
start_quiet start.BadPhysical is = cc
start_quiet start.BadGeometry is = cc
start_quiet (start.BadTable slot) is = cc
start_quiet (start.BadPartition name) is = cc
start_quiet (start.BadStore name) is = cc
start_quiet (start.BadState rule) is = cc
start_quiet start.NoMemory is = refl
start_quiet (start.Disk fault) is = cc

-- where memory was refused there is no line
pub memory_line : (f : AdoptFault) → adopt_status f ≡ NoMemory → adopt_line f ≡ []
memory_line AlreadyDevice is = cc
memory_line (NoDevice fault) is = start_quiet fault is

start_failed : (f : StartFault) → IsFailed (start_status f) → start_line f ≡ []
start_failed (start.TooSmall need have) is = absurd (none_held is)
start_failed (start.BadMark sector) is = absurd (none_held is)
start_failed (start.BadControl fault) is = absurd (none_held is)
start_failed start.BadPhysical is = absurd (none_held is)
start_failed start.BadGeometry is = absurd (none_held is)
start_failed (start.BadTable slot) is = absurd (none_held is)
start_failed (start.BadPartition name) is = absurd (none_held is)
start_failed (start.BadStore name) is = absurd (none_held is)
start_failed (start.BadState rule) is = absurd (none_held is)
start_failed start.NoMemory is = refl
start_failed (start.Disk fault) is = refl

-- nor where the disk failed
pub failed_line : (f : AdoptFault) → IsFailed (adopt_status f) → adopt_line f ≡ []
failed_line AlreadyDevice (inl disk) = cc
failed_line AlreadyDevice (inr port) = cc
failed_line (NoDevice fault) is = start_failed fault is

start_loud_line : (f : StartFault) → is_silent_start f ≡ false → start_line f ≡ none_line
start_loud_line (start.TooSmall need have) is = refl
start_loud_line (start.BadMark sector) is = refl
start_loud_line (start.BadControl fault) is = refl
start_loud_line start.BadPhysical is = refl
start_loud_line start.BadGeometry is = refl
start_loud_line (start.BadTable slot) is = refl
start_loud_line (start.BadPartition name) is = refl
start_loud_line (start.BadStore name) is = refl
start_loud_line (start.BadState rule) is = refl
start_loud_line start.NoMemory is = cc
start_loud_line (start.Disk fault) is = cc

pub none_told : (f : AdoptFault) (fault : StartFault)
    → f ≡ NoDevice fault
    → is_silent f ≡ false
    → none_line ≡ adopt_line f
none_told f fault is loud =
    sym (start_loud_line fault (ap is_silent (sym is) ∙ loud)) ∙ ap adopt_line (sym is)

start_not_port : (f : StartFault) → start_status f ≢ Port
start_not_port (start.TooSmall need have) is = cc
start_not_port (start.BadMark sector) is = cc
start_not_port (start.BadControl fault) is = cc
start_not_port start.BadPhysical is = cc
start_not_port start.BadGeometry is = cc
start_not_port (start.BadTable slot) is = cc
start_not_port (start.BadPartition name) is = cc
start_not_port (start.BadStore name) is = cc
start_not_port (start.BadState rule) is = cc
start_not_port start.NoMemory is = cc
start_not_port (start.Disk fault) is = cc

pub status_not_port : (f : AdoptFault) → adopt_status f ≢ Port
status_not_port AlreadyDevice is = cc
status_not_port (NoDevice fault) is = start_not_port fault is

pub early_untold : {R : Type 0} (s : Status)
    → IsEarly s
    → (s ≡ NotADevice) ⊎ (s ≡ Refused)
    → R
early_untold s (inl disk) (inl none) = let both = sym disk ∙ none in cc
early_untold s (inl disk) (inr refused) = let both = sym disk ∙ refused in cc
early_untold s (inr memory) (inl none) = let both = sym memory ∙ none in cc
early_untold s (inr memory) (inr refused) = let both = sym memory ∙ refused in cc

-- ---- the line

pub counted_line : (size slot : ℕ) (image : Image) (m first : Mounted) (a : Adopted)
    → adopted size slot image ≡ Ok m
    → adopted size slot image ≡ Ok first
    → IsCounted slot m a
    → adopted_line a.images a.blocks a.cap ≡ done_adopting slot first
counted_line size slot image m first a is also counted =
    let both : Ok m ≡ Ok first = sym is ∙ also in
    let same : m ≡ first = cc in
    (λ i. adopted_line (counted.images i) (counted.blocks i) (counted.cap i))
    ∙ ap (done_adopting slot) same

pub same_device : (size slot : ℕ) (image : Image) (m first : Mounted)
    → adopted size slot image ≡ Ok m
    → adopted size slot image ≡ Ok first
    → m ≡ first
same_device size slot image m first is also = let both : Ok m ≡ Ok first = sym is ∙ also in cc

-- ---- what is left

module _ {D : Type 0}
    (g : Ghosts D)
    (only_now : (d : D) (o : Outcome)
    → g.outcomes d (g.moment d) o
    → Leaves (g.told d) (g.may_leave d) o)
    (size : ℕ) where
  pub unadopted_yet : (slot : ℕ) (old : D) (o : Outcome)
      → o.told ≡ g.told old
      → o.image ≡ g.seen old
      → LeavesAdopting (g.told old) size slot (g.seen old) o
  unadopted_yet slot old o told same = record { told_so_far = told; either = inl same }

-- ---- the cause

pub unadopted_told : {D : Type 0} (g : Ghosts D) (old : D) (slot : ℕ) (f : AdoptFault)
    (said : Option AdoptFault) (cause : Option Cause)
    → ((h : AdoptFault) → said ≡ Some h → IsUnadopted g old slot (Some (causes.Adopting h)))
    → Says f said
    → is_silent f ≡ false
    → cause ≡ Some (causes.Adopting f)
    → IsUnadopted g old slot cause
unadopted_told g old slot f said cause of says loud is =
    subst (λ (x : Option Cause). IsUnadopted g old slot x) (sym is)
    (of f (loud_refusal f said says loud))
