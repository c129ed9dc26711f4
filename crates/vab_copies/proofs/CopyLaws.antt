-- What the sectors of a copy are as bytes, for callers.
use Rattle.std.proofs.Common.{◌≡◌, inl, inr, ⊎_elim, ℕ, zero, suc, ◌+◌, ◌-◌, ◌*◌, ◌<◌, ◌≤◌, List}
use Rattle.std.proofs.Common.{[], ◌++◌, length, take, drop, replicate, refl, sym, ◌∙◌, ap, arith}
use Rattle.std.proofs.Common.{append_assoc, add-one, length-append}
use Rattle.std.proofs.lemmas.Bool.{cases_eq}
use Rattle.std.proofs.lemmas.Bool.Decides.{nat_tests}
use Rattle.std.proofs.lemmas.List.{take_at, take_all, drop_all, append-nil, length-take}
use Rattle.std.proofs.lemmas.List.{length-drop, length-replicate, replicate-append-replicate}
use Rattle.std.proofs.Math.Seq.{take-add}
use Rattle.vab_disk.specs.Disk.{Image}
use Rattle.vab_gate.specs.Gate.{sectors_at}
use Rattle.vab_copies.specs.Copies.{zeros, text_sector, with_text, IsOutside, IsKept, HoldsText}
use Rattle.vab_copies.specs.Copies.{BeginsWithZeros}

-- one sector more
pub sectors_more : (n : ℕ) (image : Image) (at : ℕ)
    → sectors_at (n + 1) image at ≡ sectors_at n image at ++ image (at + n)
unfolding sectors_at
sectors_more n image at = rw add-one refl

-- sectors that agree give the same bytes
pub sectors_same : (n : ℕ) (a b : Image) (at from : ℕ)
    → ((k : ℕ) → k < n → a (at + k) ≡ b (from + k))
    → sectors_at n a at ≡ sectors_at n b from
unfolding sectors_at
sectors_same zero a b at from same = refl
sectors_same (suc n) a b at from same =
    let front : sectors_at n a at ≡ sectors_at n b from =
    sectors_same n a b at from (λ k below. same k (omega arith)) in
    λ i. front i ++ same n (omega arith) i

-- a copy that is kept
pub sectors_kept : (n at : ℕ) (old image : Image)
    → IsKept n at old image
    → sectors_at n image at ≡ sectors_at n old at
sectors_kept n at old image kept = sectors_same n image old at at kept

-- they begin with the first sector
pub sectors_start : (n : ℕ) (image : Image) (at : ℕ)
    → (rest : List ℕ) × (sectors_at (suc n) image at ≡ image at ++ rest)
unfolding sectors_at
sectors_start zero image at = let e : at + 0 ≡ at = omega arith in
    ([], ap image e ∙ sym (append-nil (image at)))
sectors_start (suc n) image at =
    let front = sectors_start n image at in (
      front.0 ++ image (at + suc n),
      ap (λ (l : List ℕ). l ++ image (at + suc n)) front.1
          ∙ append_assoc (image at) front.0 (image (at + suc n)),
    )

-- a copy that begins with a sector of zeros
pub sectors_zeros : (n : ℕ) (image : Image) (at : ℕ)
    → 0 < n
    → BeginsWithZeros at image
    → take 512 (sectors_at n image at) ≡ zeros
sectors_zeros zero image at some is = absurd (omega arith)
sectors_zeros (suc n) image at some is =
    let from = sectors_start n image at in
    let first : sectors_at (suc n) image at ≡ zeros ++ from.0 =
    from.1 ∙ ap (λ (l : List ℕ). l ++ from.0) is in
    ap (λ (l : List ℕ). take 512 l) first
    ∙ take_at zeros from.0 512 (length-replicate {A = ℕ} 512 0)

-- the image with a text, in the copy and outside
pub text_inside : (n at : ℕ) (text : List ℕ) (old : Image) (s : ℕ)
    → at ≤ s
    → s < at + n
    → with_text n text old at s ≡ text_sector text (s - at)
text_inside n at text old s first last = grind (arith, nat_tests)

pub text_outside : (n at : ℕ) (text : List ℕ) (old : Image) (s : ℕ)
    → IsOutside at n s
    → with_text n text old at s ≡ old s
text_outside n at text old s out = ⊎_elim (λ below. grind (arith, nat_tests))
    (λ above. grind (arith, nat_tests)) out

pub text_held : (n at : ℕ) (text : List ℕ) (old : Image)
    → HoldsText n at text (with_text n text old at)
text_held n at text old k below =
    let is : at + k - at ≡ k = omega arith in
    text_inside n at text old (at + k) (omega arith) (omega arith)
    ∙ ap (λ (k : ℕ). text_sector text k) is

-- sectors and the sectors behind them
pub sectors_split : (m n : ℕ) (image : Image) (at : ℕ)
    → sectors_at (m + n) image at ≡ sectors_at m image at ++ sectors_at n image (at + m)
unfolding sectors_at
sectors_split m zero image at = let e : m + 0 ≡ m = omega arith in
    ap (λ (k : ℕ). sectors_at k image at) e ∙ sym (append-nil (sectors_at m image at))
sectors_split m (suc n) image at =
    let e : m + suc n ≡ suc (m + n) = omega arith in
    let f : at + (m + n) ≡ at + m + n = omega arith in
    ap (λ (k : ℕ). sectors_at k image at) e
    ∙ (λ i. sectors_split m n image at i ++ image (f i))
    ∙ append_assoc (sectors_at m image at) (sectors_at n image (at + m)) (image (at + m + n))

-- how many bytes they are
pub length-sectors : (n : ℕ) (image : Image) (at : ℕ)
    → ((k : ℕ) → k < n → length (image (at + k)) ≡ 512)
    → length (sectors_at n image at) ≡ 512 * n
unfolding sectors_at
length-sectors zero image at whole = refl
length-sectors (suc n) image at whole =
    let front = length-sectors n image at (λ k below. whole k (omega arith)) in
    let last = whole n (omega arith) in
    omega (arith, length-append (sectors_at n image at) (image (at + n)), front, last)

-- the first n sectors' bytes of a text, filled up with zeros
abbrev filled : ℕ → List ℕ → List ℕ
filled n text = take (512 * n) text ++ replicate (512 * n - length text) 0

filled_more : (n : ℕ) (text : List ℕ) → filled n text ++ text_sector text n ≡ filled (suc n) text
filled_more n text = elim (cases_eq (512 * n - length text) 0) [
  | inl inside ↦
      let back : List ℕ = drop (512 * n) text in
      let none : filled n text ≡ take (512 * n) text =
      ap (λ (k : ℕ). take (512 * n) text ++ replicate k 0) inside
      ∙ append-nil (take (512 * n) text) in
      let size : 512 - length (take 512 back) ≡ 512 * suc n - length text =
      omega (arith, length-take 512 back, length-drop (512 * n) text) in
      let more : 512 * n + 512 ≡ 512 * suc n = omega arith in
      ap (λ (l : List ℕ). l ++ text_sector text n) none
      ∙ sym (append_assoc (take (512 * n) text) (take 512 back)
      (replicate (512 - length (take 512 back)) 0))
      ∙ (λ i. sym (take-add (512 * n) 512 text) i ++ replicate (size i) 0)
      ∙ ap (λ (k : ℕ). take k text ++ replicate (512 * suc n - length text) 0) more
  | inr past ↦
      let whole : take (512 * n) text ≡ text = take_all (512 * n) text (omega arith) in
      let again : take (512 * suc n) text ≡ text = take_all (512 * suc n) text (omega arith) in
      let empty : drop (512 * n) text ≡ [] = drop_all (512 * n) text (omega arith) in
      let sector : text_sector text n ≡ replicate 512 0 =
      ap (λ (l : List ℕ). take 512 l ++ replicate (512 - length (take 512 l)) 0) empty in
      let size : 512 * n - length text + 512 ≡ 512 * suc n - length text = omega arith in
      (λ i. (whole i ++ replicate (512 * n - length text) 0) ++ sector i)
      ∙ append_assoc text (replicate (512 * n - length text) 0) (replicate 512 0)
      ∙ ap (λ (l : List ℕ). text ++ l) (replicate-append-replicate (512 * n - length text) 512 0)
      ∙ (λ i. sym again i ++ replicate (size i) 0)
]

text_filled : (n at : ℕ) (text : List ℕ) (image : Image)
    → HoldsText n at text image
    → sectors_at n image at ≡ filled n text
unfolding sectors_at
text_filled zero at text image holds = let e : 0 - length text ≡ 0 = omega arith in
    sym (ap (λ (k : ℕ). take 0 text ++ replicate k 0) e)
text_filled (suc n) at text image holds =
    let front = text_filled n at text image (λ k below. holds k (omega arith)) in
    (λ i. front i ++ holds n (omega arith) i) ∙ filled_more n text

-- the bytes of a copy of a text that it has room for: the text, and zeros behind it
pub sectors_text : (n at : ℕ) (text : List ℕ) (image : Image)
    → HoldsText n at text image
    → length text ≤ 512 * n
    → sectors_at n image at ≡ text ++ replicate (512 * n - length text) 0
sectors_text n at text image holds room = text_filled n at text image holds
    ∙ ap (λ (l : List ℕ). l ++ replicate (512 * n - length text) 0) (take_all (512 * n) text room)
