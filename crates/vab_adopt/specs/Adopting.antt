-- What adopting a disk writes and leaves.
use Rattle.std.specs.Prelude.{◌≡◌, ◌⊎◌, ℕ, List, Option, Some, None, Result, Ok, Err, OnOk, IfErr}
use Rattle.vab_disk.specs.declared.disk.Disk.{Ghosts}
use Rattle.vab_disk.specs.Disk.{Image, Outcome, DiskFailed}
use Rattle.vab_marks.specs.Mark.{idle_mark, mark_spelling}
use Rattle.vab_copies.specs.Copies.{zeros}
use Rattle.vab_device.specs.Faults.{IsOfContents}
use Rattle.vab_device.specs.Faults as faults
use Rattle.vab_device.specs.Mounted.{Mounted}
use Rattle.vab_device.specs.Reading.{device, IsIn}
use Rattle.vab_make.specs.Making.{IsNone}
use Rattle.vab_adopt.specs.declared.fault.AdoptFault.{AdoptFault}
use Rattle.vab_adopt.specs.declared.fault.AdoptFault.TheVariants.{AlreadyDevice, NoDevice}
use Rattle.vab_adopt.specs.declared.count.Adopted.{Adopted}
use Rattle.vab_adopt.specs.Adopted.{adopted, adopt_refusal, IsControlOf, IsCounted}
use Rattle.vab_adopt.specs.Dropped.{dropped}

-- ---- what is answered

-- the disk has failed
abbrev pub IsOfDisk : AdoptFault → Type 0
IsOfDisk AlreadyDevice = ⊥
IsOfDisk (NoDevice fault) = faults.IsOfDisk fault

-- A fault is the refusal, unless the disk has failed or memory was refused.
abbrev pub Says : AdoptFault → Option AdoptFault → Type 0
Says AlreadyDevice said = said ≡ Some AlreadyDevice
Says (NoDevice fault) said = IsOfContents fault → said ≡ Some (NoDevice fault)

-- What was answered is the refusal, or there is none. The disk may fail, or memory be refused, in
-- place of either.
abbrev pub Gives : {A : Type 0} → Result A AdoptFault → Option AdoptFault → Type 0
Gives (Ok done) said = said ≡ None
Gives (Err fault) said = Says fault said

-- The disk is to blame only where one call of it failed; in all other cases the counts stay.
pub record CountsAdopting {D A : Type 0}
    (g : Ghosts D)
    (old new : D)
    (result : Result A AdoptFault) : Type 0 where
  pub steady : OnOk result (g.faults new ≡ g.faults old)
  pub others : IfErr result (λ f. (IsOfDisk f → ⊥) → g.faults new ≡ g.faults old)
  pub cause : IfErr result (λ f. IsOfDisk f → DiskFailed (g.faults old) (g.faults new))

-- the disk is to be adopted, with this count, and drops this update
pub record IsFound (size slot : ℕ) (old : Image) (a : Adopted) : Type 0 where
  pub mounted : Mounted
  pub is : adopted size slot old ≡ Ok mounted
  pub none : adopt_refusal size slot old ≡ None
  pub counted : IsCounted slot mounted a
  pub dropped : a.dropped ≡ dropped old

-- ---- what is left

-- the disk is the adopted device, with this count, and has dropped this update
pub record IsAdopted (size slot : ℕ) (old new : Image) (a : Adopted) : Type 0 where
  pub mounted : Mounted
  pub is : adopted size slot old ≡ Ok mounted
  pub stands : IsIn size mounted new
  pub counted : IsCounted slot mounted a
  pub dropped : a.dropped ≡ dropped old

-- the boot control in its sector
abbrev pub IsOfControl : ℕ → Image → ℕ → List ℕ → Type 0
IsOfControl slot old s bytes = (s ≡ 4) × IsControlOf slot (old 4) bytes

-- What adopting writes: the mark, zeros first, and the boot control.
abbrev pub IsOfAdopting : ℕ → Image → ℕ → List ℕ → Type 0
IsOfAdopting slot old s bytes =
    ((s ≡ 2048) × ((bytes ≡ zeros) ⊎ (bytes ≡ mark_spelling (idle_mark slot))))
    ⊎ IsOfControl slot old s bytes

-- with nothing more told, the disk is as it was, or no device, or the adopted one
pub record LeavesAdopting
    (told : List ℕ) (size slot : ℕ) (old : Image) (o : Outcome)
    : Type 0 where
  pub told_so_far : o.told ≡ told
  pub either : (o.image ≡ old)
      ⊎ (IsNone size o.image ⊎ (device size o.image ≡ adopted size slot old))
