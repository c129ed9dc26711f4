-- The first free sector of statuses.
use Rattle.std.proofs.Common.{◌≡◌, ◌⊎◌, ◌∙◌, inl, inr, ℕ, zero, suc, ◌+◌, ◌-◌, ◌<◌, ◌≤◌}
use Rattle.std.proofs.Common.{true, false, List, [], ◌∷◌, length, Option, Some, None}
use Rattle.std.proofs.Common.{ap, subst, arith}
use Rattle.std.proofs.lemmas.Bool.{cases_Bool, cases_lt}
use Rattle.vab_disk.specs.Disk.{Image}
use Rattle.vab_marks.specs.declared.status.PartStatus.{PartStatus}
use Rattle.vab_marks.specs.Sector.{are_zeros}
use Rattle.vab_statuses.specs.Statuses.{written_in, free_from, IsFirstFree}

abbrev pub NoneFree : Image → ℕ → Type 0
NoneFree image n = (j : ℕ) → j < n → are_zeros (image (2049 + j)) ≡ false

pub record IsFree (image : Image) (n : ℕ) : Type 0 where
  pub place : ℕ
  pub below : place < n
  pub zeros : are_zeros (image (2049 + place)) ≡ true
  pub before : NoneFree image place

none_more : (image : Image) (n : ℕ)
    → NoneFree image n
    → are_zeros (image (2049 + n)) ≡ false
    → NoneFree image (suc n)
none_more image n none here j below = elim (cases_lt j n) [
  | inl before ↦ none j before
  | inr last ↦
      let is : n ≡ j = omega (arith, below, last) in
      subst (λ (k : ℕ). are_zeros (image (2049 + k)) ≡ false) is here
]

pub free_or_none : (image : Image) (n : ℕ) → IsFree image n ⊎ NoneFree image n
free_or_none image zero = inr (λ j lt. absurd (omega (arith, lt)))
free_or_none image (suc n) = elim (free_or_none image n) [
  | inl f ↦ inl (record {
    place = f.place;
    below = omega (arith, f.below);
    zeros = f.zeros;
    before = f.before;
  })
  | inr none ↦ elim (cases_Bool (are_zeros (image (2049 + n)))) [
    | inl zeros ↦
        inl (record { place = n; below = omega arith; zeros = zeros; before = none })
    | inr other ↦ inr (none_more image n none other)
  ]
]

pub first_free : (image : Image) (n : ℕ) (f : IsFree image n)
    → n ≤ 64
    → IsFirstFree image (Some (2049 + f.place))
first_free image n f small = (
  record { from = omega arith; below = omega (arith, f.below, small) },
  f.zeros,
  λ s between.
      let same : 2049 + (s - 2049) ≡ s = omega (arith, between.from) in
      subst (λ (k : ℕ). are_zeros (image k) ≡ false) same
      (f.before (s - 2049) (omega (arith, between.from, between.below))),
)

pub none_first : (image : Image) → NoneFree image 64 → IsFirstFree image None
none_first image none s there =
    let same : 2049 + (s - 2049) ≡ s = omega (arith, there.from) in
    subst (λ (k : ℕ). are_zeros (image k) ≡ false) same
    (none (s - 2049) (omega (arith, there.from, there.below)))

-- there are as many statuses or more as sectors before the first that is free
pub before_free : (at : ℕ) (l : List (Option PartStatus)) (k : ℕ)
    → free_from at l ≡ Some (at + k)
    → k ≤ length (written_in l)
before_free at [] k h = absurd (let no : None ≡ Some (at + k) = h in cc)
before_free at (None ∷ rest) k h =
    let first : Some at ≡ Some (at + k) = h in
    let same : at ≡ at + k = cc in
    omega (arith, same)
before_free at (Some s ∷ rest) zero h = omega arith
before_free at (Some s ∷ rest) (suc k) h =
    let next : at + suc k ≡ at + 1 + k = omega arith in
    let later : k ≤ length (written_in rest) =
    before_free (at + 1) rest k (h ∙ ap (λ (n : ℕ). Some n) next) in
    omega (arith, later)
