-- One copy of a text, while it is written.
use Rattle.std.proofs.Common.{◌≡◌, ◌≢◌, inl, inr, ⊎_elim, ℕ, ◌-◌, ◌<◌, List, refl, sym, ◌∙◌, ap}
use Rattle.std.proofs.Common.{arith, Result, Ok, Err}
use Rattle.std.specs.Prelude.{OnOk}
use Rattle.std.proofs.lemmas.Bool.{cases_eq}
use Rattle.vab_disk.specs.Disk.{Image, set_sector, Outcome, LeavesWith, LeavesEither, LeavesBlend}
use Rattle.vab_disk.specs.Disk.{IsSettled, IsAt, NoMoreBut}
use Rattle.vab_disk.specs.Written.{same_image, set_here, set_there}
use Rattle.vab_disk.proofs.Moments.{settled_blend}
use Rattle.vab_copies.specs.Copies.{zeros, text_sector, with_text, with_rest, IsOutside, IsOfText}
use Rattle.vab_copies.specs.Copies.{IsOfCopy, LeavesCopy}
use Rattle.vab_copies.proofs.CopyLaws.{text_inside, text_outside}
use Rattle.vab_copies.proofs.Sectors.{where_is, rest_inside, rest_outside, rest_before, rest_is}

pub on_ok_always : {A E : Type 0} (r : Result A E) (P : Type 0) → P → OnOk r P
on_ok_always (Ok x) P is = is
on_ok_always (Err e) P is = tt

module _ (text : List ℕ) (at n : ℕ) (some : 0 < n) where
  -- what is written is the copy's
  pub zeros_of : (s : ℕ) (b : List ℕ) → IsAt at zeros s b → IsOfCopy n at text s b
  zeros_of s b is = inr is

  pub rest_of : (s : ℕ) (b : List ℕ) → IsOfText 1 n at text s b → IsOfCopy n at text s b
  rest_of s b is = inl (record { first = omega (arith, is.first); last = is.last; here = is.here })

  pub first_of_copy : (first : List ℕ)
      → first ≡ text_sector text 0
      → (s : ℕ) (b : List ℕ)
      → IsAt at first s b
      → IsOfCopy n at text s b
  first_of_copy first part s b is = inl (record {
    first = omega (arith, is.0);
    last = omega (arith, is.0, some);
    here = let e : s - at ≡ 0 = omega (arith, is.0) in
        is.1 ∙ part ∙ ap (λ (k : ℕ). text_sector text k) (sym e);
  })

  not_first : (s : ℕ) → IsOutside at n s → s ≢ at
  not_first s out = ⊎_elim (λ below. omega (arith, below)) (λ above. omega (arith, above, some)) out

  module _ (old : Image) where
    -- zeros in the first sector, and the text in the others
    abbrev pub torn : Image
    torn = with_rest 1 n text (set_sector old at zeros) at

    torn_first : torn at ≡ zeros
    torn_first = rest_before 1 text (set_sector old at zeros) at n at (omega arith)
        ∙ set_here old at zeros at refl

    torn_outside : (s : ℕ) → IsOutside at n s → torn s ≡ old s
    torn_outside s out = rest_outside 1 text (set_sector old at zeros) at n s out
        ∙ set_there old at zeros s (not_first s out)

    pub torn_done : set_sector torn at (text_sector text 0) ≡ with_text n text old at
    torn_done = same_image (set_sector torn at (text_sector text 0)) (with_text n text old at) each
      where
        each : (s : ℕ) → set_sector torn at (text_sector text 0) s ≡ with_text n text old at s
        each s = elim (cases_eq s at) [
          | inl here ↦
              let k : s - at ≡ 0 = omega arith in
              set_here torn at (text_sector text 0) s here
              ∙ ap (λ (k : ℕ). text_sector text k) (sym k)
              ∙ sym (text_inside n at text old s (omega arith) (omega arith))
          | inr other ↦ set_there torn at (text_sector text 0) s other ∙ ⊎_elim
              (λ out. torn_outside s out ∙ sym (text_outside n at text old s out))
              (λ among. rest_inside 1 text (set_sector old at zeros) at n s
              (omega (arith, among.0, other)) among.1
              ∙ sym (text_inside n at text old s among.0 among.1))
              (where_is at n s)
        ]

    -- the first gate, the sectors behind it, and the last gate
    pub first_gate : (new : Image) (told : List ℕ) (o : Outcome)
        → LeavesEither told old (set_sector old at zeros) o
        → LeavesCopy told old new at n o
    first_gate new told o leaves = record {
      told_so_far = leaves.told_so_far;
      others = λ s out. ⊎_elim
          (λ was. ap (λ (image : Image). image s) was)
          (λ now. ap (λ (image : Image). image s) now ∙ set_there old at zeros s (not_first s out))
          leaves.either;
      copy = ⊎_elim (λ was. inl was) (λ now.
          inr (inl (ap (λ (image : Image). image at) now ∙ set_here old at zeros at refl)))
          leaves.either;
    }

    pub behind : (new seen : Image) (told told' : List ℕ) (hold : ℕ → List ℕ → Type 0)
        → told' ≡ told
        → seen ≡ set_sector old at zeros
        → IsSettled seen hold
        → (o : Outcome)
        → LeavesWith (IsOfText 1 n at text) told' hold o
        → LeavesCopy told old new at n o
    behind new seen told told' hold same is settled o leaves = record {
      told_so_far = leaves.told_so_far ∙ same;
      others = λ s out. ⊎_elim
          (λ was. settled s (o.image s) was ∙ ap (λ (image : Image). image s) is
          ∙ set_there old at zeros s (not_first s out))
          (λ wrote. absurd (⊎_elim (λ below. omega (arith, below, wrote.first))
          (λ above. omega (arith, above, wrote.last)) out))
          (leaves.each_sector s);
      copy = inr (inl (⊎_elim
          (λ was. settled at (o.image at) was ∙ ap (λ (image : Image). image at) is
          ∙ set_here old at zeros at refl)
          (λ wrote. absurd (omega (arith, wrote.first)))
          (leaves.each_sector at)));
    }

    pub last_gate : (seen : Image) (told told' first : List ℕ)
        → told' ≡ told
        → seen ≡ torn
        → first ≡ text_sector text 0
        → (o : Outcome)
        → LeavesEither told' seen (set_sector seen at first) o
        → LeavesCopy told old (with_text n text old at) at n o
    last_gate seen told told' first same is part o leaves =
        let done : set_sector seen at first ≡ with_text n text old at =
        (λ j. set_sector (is j) at (part j)) ∙ torn_done in
        record {
          told_so_far = leaves.told_so_far ∙ same;
          others = λ s out. ⊎_elim
              (λ was. ap (λ (image : Image). image s) (was ∙ is) ∙ torn_outside s out)
              (λ now. ap (λ (image : Image). image s) (now ∙ done)
              ∙ text_outside n at text old s out)
              leaves.either;
          copy = ⊎_elim
              (λ was. inr (inl (ap (λ (image : Image). image at) (was ∙ is) ∙ torn_first)))
              (λ now. inr (inr (now ∙ done)))
              leaves.either;
        }

-- a copy that is written in one go
pub rest_whole : (n at : ℕ) (text : List ℕ) (old : Image)
    → with_rest 0 n text old at ≡ with_text n text old at
rest_whole n at text old = same_image (with_rest 0 n text old at) (with_text n text old at)
    (λ s. ⊎_elim
    (λ out. rest_outside 0 text old at n s out ∙ sym (text_outside n at text old s out))
    (λ among. rest_inside 0 text old at n s (omega (arith, among.0)) among.1
    ∙ sym (text_inside n at text old s among.0 among.1))
    (where_is at n s))

-- where nothing was pending, each sector of a copy that is written in one go is old or new
pub whole_blend : (n at : ℕ) (text told : List ℕ) (old : Image) (hold : ℕ → List ℕ → Type 0)
    → IsSettled old hold
    → (o : Outcome)
    → LeavesWith (IsOfText 0 n at text) told hold o
    → LeavesBlend told old (with_text n text old at) o
whole_blend n at text told old hold settled o leaves =
    settled_blend (IsOfText 0 n at text) hold told old (with_text n text old at) settled
    (λ s b is.
    rest_is 0 text old at n s b is ∙ ap (λ (image : Image). image s) (rest_whole n at text old)) o
    leaves
