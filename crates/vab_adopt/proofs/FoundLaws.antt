-- What a disk is found to be with the heads of the adopted device.
use Rattle.std.proofs.Common.{◌≡◌, ◌∙◌, inl, inr, ℕ, ◌<◌, List, length, Result, Ok, Err, ap}
use Rattle.std.specs.Prelude.{IfErr}
use Rattle.std.specs.Result.{IsErrAnd}
use Rattle.std.proofs.lemmas.Bool.{cases_eq}
use Rattle.vab_disk.specs.Disk.{Image, IsSector, set_sector}
use Rattle.vab_disk.specs.Written.{set_here, set_there}
use Rattle.vab_marks.specs.Mark.{idle_mark, mark_spelling}
use Rattle.vab_marks.proofs.MarkLaws.{length-mark_spelling}
use Rattle.vab_device.specs.declared.device.Device.{Device}
use Rattle.vab_device.specs.Mounted.{mounted_on}
use Rattle.vab_make.specs.Steps.{blanked}
use Rattle.vab_recover.specs.Opened.{IsOpened, with_tables}
use Rattle.vab_recover.specs.declared.table.Tables.{Tables}
use Rattle.vab_recover.proofs.ProbeLaws.{opened_means}
use Rattle.vab_adopt.specs.declared.fault.AdoptFault.{AdoptFault}
use Rattle.vab_adopt.specs.Adopted.{adopted, adopted_control, control_sector, with_heads}
use Rattle.vab_adopt.proofs.CountLaws.{AreSectors}
use Rattle.vab_adopt.proofs.SectorLaws.{length-blanked, length-control_sector}

pub adopted_means : (size slot : ℕ) (old : Image) (d : Device) (t : Tables)
    → IsOpened d t size (with_heads slot old)
    → adopted size slot old ≡ Ok (mounted_on (with_tables t d) (with_heads slot old))
unfolding adopted
adopted_means size slot old d t is = opened_means d t size (with_heads slot old) is

-- each sector has its bytes with these heads
pub heads_whole : (size slot : ℕ) (old : Image)
    → 4 < size
    → ((s : ℕ) → s < size → IsSector (old s))
    → AreSectors size (with_heads slot old)
unfolding with_heads
heads_whole size slot old four whole s below =
    let bytes = control_sector (adopted_control slot) (blanked (old 4)) in
    let mark = mark_spelling (idle_mark slot) in
    let mid : Image = set_sector old 4 bytes in
    elim (cases_eq s 2048) [
      | inl here ↦
          ap (λ (b : List ℕ). length b) (set_here mid 2048 mark s here)
          ∙ length-mark_spelling (idle_mark slot)
      | inr other ↦
          elim (cases_eq s 4) [
            | inl here ↦
                ap (λ (b : List ℕ). length b)
                (set_there mid 2048 mark s other ∙ set_here old 4 bytes s here)
                ∙ length-control_sector (adopted_control slot) (blanked (old 4))
                (length-blanked (old 4) (whole 4 four).long)
            | inr elsewhere ↦
                ap (λ (b : List ℕ). length b)
                (set_there mid 2048 mark s other ∙ set_there old 4 bytes s elsewhere)
                ∙ (whole s below).long
          ]
    ]

-- what is said of an error
pub err_of : {A : Type 0} (r : Result A AdoptFault) (P Q : AdoptFault → Type 0)
    → IsErrAnd r P
    → ((e : AdoptFault) → P e → Q e)
    → IfErr r Q
err_of (Ok x) P Q is f = tt
err_of (Err e) P Q is f = f e is
