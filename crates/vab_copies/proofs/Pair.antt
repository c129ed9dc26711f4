-- Two copies of a text, while one and then the other is written.
use Rattle.std.proofs.Common.{◌≡◌, inl, inr, ⊎_elim, ℕ, ◌+◌, ◌≤◌, List, ◌∙◌, ap, arith}
use Rattle.vab_disk.specs.Disk.{Image, Outcome}
use Rattle.vab_copies.specs.Copies.{with_text, IsOfCopy, IsOfEither, LeavesCopy, IsKept, HoldsText}
use Rattle.vab_copies.specs.Copies.{StandCopies, LeavesCopies}
use Rattle.vab_copies.proofs.CopyLaws.{text_outside, text_held}

module _ (n primary backup : ℕ) (text : List ℕ) where
  pub of_primary : (s : ℕ) (b : List ℕ)
      → IsOfCopy n primary text s b
      → IsOfEither n primary backup text s b
  of_primary s b is = inl is

  pub of_backup : (s : ℕ) (b : List ℕ)
      → IsOfCopy n backup text s b
      → IsOfEither n primary backup text s b
  of_backup s b is = inr is

  module _ (apart : primary + n ≤ backup) (told : List ℕ) (old : Image) where
    pub primary_written : (o : Outcome)
        → LeavesCopy told old (with_text n text old primary) primary n o
        → LeavesCopies told old n primary backup text o
    primary_written o leaves =
        let kept : IsKept n backup old o.image = λ k below.
        leaves.others (backup + k) (inr (omega arith)) in
        record {
          told_so_far = leaves.told_so_far;
          others = λ s out behind. leaves.others s out;
          copies = ⊎_elim
              (λ was. StandCopies.both_old
              (λ k below. ap (λ (image : Image). image (primary + k)) was) kept)
              (λ later. ⊎_elim
              (λ zero. StandCopies.primary_torn zero kept)
              (λ now. StandCopies.primary_new
              (λ k below. ap (λ (image : Image). image (primary + k)) now
              ∙ text_held n primary text old k below) kept)
              later)
              leaves.copy;
        }

    pub backup_written : (mid : Image) (told' : List ℕ)
        → told' ≡ told
        → mid ≡ with_text n text old primary
        → (o : Outcome)
        → LeavesCopy told' mid (with_text n text mid backup) backup n o
        → LeavesCopies told old n primary backup text o
    backup_written mid told' same is o leaves =
        let front : HoldsText n primary text o.image = λ k below.
        leaves.others (primary + k) (inl (omega arith))
        ∙ ap (λ (image : Image). image (primary + k)) is
        ∙ text_held n primary text old k below in
        record {
          told_so_far = leaves.told_so_far ∙ same;
          others = λ s out behind. leaves.others s behind ∙ ap (λ (image : Image). image s) is
              ∙ text_outside n primary text old s out;
          copies = ⊎_elim
              (λ was. StandCopies.primary_new front (λ k below.
              ap (λ (image : Image). image (backup + k)) (was ∙ is)
              ∙ text_outside n primary text old (backup + k) (inr (omega arith))))
              (λ later. ⊎_elim
              (λ zero. StandCopies.backup_torn front zero)
              (λ now. StandCopies.both_new front
              (λ k below. ap (λ (image : Image). image (backup + k)) now
              ∙ text_held n backup text mid k below))
              later)
              leaves.copy;
        }
