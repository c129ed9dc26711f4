-- What the gates of adopting leave.
use Rattle.std.proofs.Common.{◌≡◌, ◌≢◌, ◌∙◌, inl, inr, ⊎_elim, ℕ, ◌≤◌, ◌<◌, List, Ok, refl}
use Rattle.std.proofs.Common.{sym, ap, subst, arith}
use Rattle.vab_disk.specs.Disk.{Image, Outcome, IsSector, LeavesEither, LeavesWith, IsSettled}
use Rattle.vab_disk.specs.Disk.{set_sector}
use Rattle.vab_disk.specs.Written.{set_here, set_there}
use Rattle.vab_marks.specs.declared.version.MarkVersion.TheVariants.{Two}
use Rattle.vab_marks.specs.Mark.{mark_of, idle_mark}
use Rattle.vab_marks.specs.Version.{version_in}
use Rattle.vab_copies.specs.Copies.{zeros}
use Rattle.vab_device.specs.Mounted.{Mounted}
use Rattle.vab_device.specs.Reading.{device}
use Rattle.vab_make.proofs.BlankLaws.{blank_none}
use Rattle.vab_adopt.specs.Adopted.{adopted, IsControlOf, HasHeadsOf}
use Rattle.vab_adopt.specs.Adopting.{IsOfControl, LeavesAdopting}
use Rattle.vab_adopt.proofs.HeadLaws.{heads_adopt}

-- the mark's sector after the first gate
pub blanked_mark : (old new : Image) → new ≡ set_sector old 2048 zeros → new 2048 ≡ zeros
blanked_mark old new is = ap (λ (i : Image). i 2048) is ∙ set_here old 2048 zeros 2048 refl

-- and all others
pub kept_there : (old new : Image) (bytes : List ℕ)
    → new ≡ set_sector old 2048 bytes
    → (s : ℕ)
    → s ≢ 2048
    → new s ≡ old s
kept_there old new bytes is s other = ap (λ (i : Image). i s) is ∙ set_there old 2048 bytes s other

-- so the boot control's sector stands as it was when it is written
pub control_moved : (slot : ℕ) (old one : Image)
    → one ≡ set_sector old 2048 zeros
    → (s : ℕ) (b : List ℕ)
    → IsOfControl slot one s b
    → IsOfControl slot old s b
control_moved slot old one first s b is = (
  is.0,
  subst (λ (x : List ℕ). IsControlOf slot x b)
      (kept_there old one zeros first 4 (λ e. omega (arith, e))) is.1,
)

-- all three one after another
pub all_heads : (slot : ℕ) (old one two new : Image) (mark : List ℕ)
    → one ≡ set_sector old 2048 zeros
    → IsControlOf slot (one 4) (two 4)
    → ((s : ℕ) → s ≢ 4 → two s ≡ one s)
    → new ≡ set_sector two 2048 mark
    → mark_of mark ≡ Ok (idle_mark slot)
    → version_in mark ≡ Two
    → HasHeadsOf slot old new
all_heads slot old one two new mark first control others last marked version =
    let four : one 4 ≡ old 4 = kept_there old one zeros first 4 (λ e. omega (arith, e)) in
    let same : new 4 ≡ two 4 = kept_there two new mark last 4 (λ e. omega (arith, e)) in
    record {
      control =
          subst (λ (b : List ℕ). IsControlOf slot b (new 4)) four
          (subst (λ (b : List ℕ). IsControlOf slot (one 4) b) (sym same) control);
      mark =
          ap mark_of (ap (λ (i : Image). i 2048) last ∙ set_here two 2048 mark 2048 refl)
          ∙ marked;
      version =
          ap version_in (ap (λ (i : Image). i 2048) last ∙ set_here two 2048 mark 2048 refl)
          ∙ version;
      others = λ s not_four not_mark.
          kept_there two new mark last s not_mark
          ∙ others s not_four
          ∙ kept_there old one zeros first s not_mark;
    }

-- ---- outcomes

module _ (told : List ℕ) (size slot : ℕ) (old : Image) (enough : 4120 ≤ size) where
  -- the first gate
  pub first_adopting : (o : Outcome)
      → LeavesEither told old (set_sector old 2048 zeros) o
      → LeavesAdopting told size slot old o
  first_adopting o leaves = record {
    told_so_far = leaves.told_so_far;
    either = ⊎_elim (λ was. inl was)
        (λ now. inr (inl (blank_none size o.image enough
        (ap (λ (i : Image). i 2048) now ∙ set_here old 2048 zeros 2048 refl))))
        leaves.either;
  }

  -- the second, while the mark is zeros
  pub blank_adopting : (told' : List ℕ) (one : Image) (may_leave : ℕ → List ℕ → Type 0)
      → told' ≡ told
      → IsSettled one may_leave
      → one 2048 ≡ zeros
      → (o : Outcome)
      → LeavesWith (IsOfControl slot one) told' may_leave o
      → LeavesAdopting told size slot old o
  blank_adopting told' one may_leave same settled blank o leaves = record {
    told_so_far = leaves.told_so_far ∙ same;
    either = inr (inl (blank_none size o.image enough
        (⊎_elim
        (λ was. settled 2048 (o.image 2048) was ∙ blank)
        (λ w. absurd (omega (arith, w.0)))
        (leaves.each_sector 2048))));
  }

  -- the last
  pub last_adopting : (told' mark : List ℕ) (two : Image) (m : Mounted)
      → slot < 2
      → IsSector (old 4)
      → adopted size slot old ≡ Ok m
      → told' ≡ told
      → two 2048 ≡ zeros
      → HasHeadsOf slot old (set_sector two 2048 mark)
      → (o : Outcome)
      → LeavesEither told' two (set_sector two 2048 mark) o
      → LeavesAdopting told size slot old o
  last_adopting told' mark two m below is means same blank has o leaves = record {
    told_so_far = leaves.told_so_far ∙ same;
    either = ⊎_elim
        (λ was. inr (inl (blank_none size o.image enough
        (ap (λ (i : Image). i 2048) was ∙ blank))))
        (λ now. inr (inr (ap (device size) now
        ∙ heads_adopt size slot old (set_sector two 2048 mark) m below is means has)))
        leaves.either;
  }
