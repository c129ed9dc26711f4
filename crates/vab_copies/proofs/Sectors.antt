-- The sectors of a text, written one after another.
use Rattle.std.proofs.Common.{◌≡◌, ◌⊎◌, inl, inr, ⊎_elim, ℕ, ◌+◌, ◌-◌, ◌<◌, ◌≤◌, List, refl, sym}
use Rattle.std.proofs.Common.{◌∙◌, ap, subst, arith}
use Rattle.std.proofs.lemmas.Bool.{cases_eq}
use Rattle.std.proofs.lemmas.Bool.Decides.{nat_tests}
use Rattle.vab_disk.specs.Disk.{Image, set_sector, Outcome, Leaves, LeavesWith, IsAt, Writes}
use Rattle.vab_disk.specs.Disk.{MayBeSet}
use Rattle.vab_disk.specs.Written.{same_image, set_here, set_there}
use Rattle.vab_copies.specs.Copies.{text_sector, with_rest, IsOutside, IsOfText}
use Rattle.vab_disk.specs.Calls.{SameBut}

-- is a sector among some?
pub where_is : (at n s : ℕ) → IsOutside at n s ⊎ ((at ≤ s) × (s < at + n))
where_is at n s = elim (cases_eq (at - s) 0) [
  | inl from ↦ elim (cases_eq (s + 1 - (at + n)) 0) [
    | inl to ↦ inr (omega arith, omega arith)
    | inr past ↦ inl (inr (omega arith))
  ]
  | inr before ↦ inl (inl (omega arith))
]

module _ (j : ℕ) (text : List ℕ) (old : Image) (at : ℕ) where
  pub rest_inside : (n s : ℕ)
      → at + j ≤ s
      → s < at + n
      → with_rest j n text old at s ≡ text_sector text (s - at)
  rest_inside n s first last = grind (arith, nat_tests)

  pub rest_outside : (n s : ℕ) → IsOutside at n s → with_rest j n text old at s ≡ old s
  rest_outside n s out = ⊎_elim (λ below. grind (arith, nat_tests))
      (λ above. grind (arith, nat_tests)) out

  pub rest_before : (n s : ℕ) → s < at + j → with_rest j n text old at s ≡ old s
  rest_before n s before = grind (arith, nat_tests)

  pub rest_none : old ≡ with_rest j j text old at
  rest_none = same_image old (with_rest j j text old at)
      (λ s. ⊎_elim (λ out. sym (rest_outside j s out)) (λ among. sym (rest_before j s among.1))
      (where_is at j s))

  pub rest_more : (n : ℕ)
      → j ≤ n
      → set_sector (with_rest j n text old at) (at + n) (text_sector text n)
      ≡ with_rest j (n + 1) text old at
  rest_more n some = same_image (set_sector (with_rest j n text old at) (at + n)
      (text_sector text n)) (with_rest j (n + 1) text old at) each
    where
      each : (s : ℕ)
          → set_sector (with_rest j n text old at) (at + n) (text_sector text n) s
          ≡ with_rest j (n + 1) text old at s
      each s = elim (cases_eq s (at + n)) [
        | inl last ↦
            let k : s - at ≡ n = omega arith in
            set_here (with_rest j n text old at) (at + n) (text_sector text n) s last
            ∙ ap (λ (k : ℕ). text_sector text k) (sym k)
            ∙ sym (rest_inside (n + 1) s (omega arith) (omega arith))
        | inr other ↦
            let same : with_rest j n text old at s ≡ with_rest j (n + 1) text old at s =
            grind (arith, nat_tests) in
            set_there (with_rest j n text old at) (at + n) (text_sector text n) s other ∙ same
      ]

  -- one more of them
  pub is_new : (n k : ℕ)
      → j ≤ k
      → k < n
      → (s : ℕ) (b : List ℕ)
      → IsAt (at + k) (text_sector text k) s b
      → IsOfText j n at text s b
  is_new n k some below s b is = record {
    first = omega (arith, is.0, some);
    last = omega (arith, is.0, below);
    here = let e : s - at ≡ k = omega (arith, is.0) in
        is.1 ∙ ap (λ (k : ℕ). text_sector text k) (sym e);
  }

  pub rest_is : (n s : ℕ) (b : List ℕ) → IsOfText j n at text s b → b ≡ with_rest j n text old at s
  rest_is n s b is = is.here ∙ sym (rest_inside n s is.first is.last)

  -- the first k of n
  pub rest_reads : (n k : ℕ)
      → j ≤ k
      → k ≤ n
      → SameBut (IsOfText j n at text) old (with_rest j k text old at)
  rest_reads n k some le s = ⊎_elim
      (λ out. inl (rest_outside k s out))
      (λ among. elim (cases_eq (at + j - s) 0) [
        | inl from ↦ inr (record {
          first = omega arith;
          last = omega (arith, among.1, le);
          here =
              rest_inside k s (omega arith) among.1;
        })
        | inr before ↦ inl (rest_before k s (omega arith))
      ])
      (where_is at k s)
