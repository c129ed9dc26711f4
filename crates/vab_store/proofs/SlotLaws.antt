-- Entries of a page, sector by sector.
use Rattle.std.proofs.Common.{◌≡◌, ◌≢◌, inl, inr, ⊎_elim, ℕ, zero, suc, ◌+◌, ◌*◌, ◌/◌, ◌%◌, ◌≤◌}
use Rattle.std.proofs.Common.{◌<◌}
use Rattle.std.proofs.Common.{List, [], ◌++◌, length, take, drop, refl, sym, ◌∙◌, ap, arith}
use Rattle.std.proofs.Common.{append_assoc, append-nil, length-append, length-drop}
use Rattle.std.specs.Prelude.{slice_index}
use Rattle.std.specs.Int.{w64, from_le_bytes}
use Rattle.std.proofs.lemmas.Bool.{cases_lt, cases_eq}
use Rattle.std.proofs.lemmas.List.{drop-drop, drop-append-le, take-append-le, drop_at}
use Rattle.vab_bytes.specs.Number.{field}
use Rattle.vab_disk.specs.Disk.{Image}
use Rattle.vab_gate.specs.Gate.{sectors_at}
use Rattle.vab_exceptions.specs.Entries.{entry_at}
use Rattle.vab_space.specs.declared.Chunk.{Chunk}
use Rattle.vab_space.specs.Chunks.{page_block}
use Rattle.vab_space.proofs.ChunkLaws.{pages_ascend, page_inside}
use Rattle.vab_store.specs.Layout.{chunk_bytes, slot_at, pages_of, IsApart}
use Rattle.vab_store.specs.Sectors.{page_sector}
use Rattle.vab_store.proofs.ChunkLaws.{apart_of}

-- each of these sectors is whole
abbrev pub AreWhole : Image → ℕ → ℕ → Type 0
AreWhole image at n = (i : ℕ) → i < n → length (image (at + i)) ≡ 512

length-sectors : (n : ℕ) (image : Image) (at : ℕ)
    → AreWhole image at n
    → length (sectors_at n image at) ≡ 512 * n
unfolding sectors_at
length-sectors zero image at all = refl
length-sectors (suc n) image at all =
    omega (
      arith,
      length-append (sectors_at n image at) (image (at + n)),
      length-sectors n image at (λ i below. all i (omega (arith, below))),
      all n (omega arith),
    )

-- what stands from one of the sectors on
sector_on : (n : ℕ) (image : Image) (at k : ℕ)
    → AreWhole image at n
    → k < n
    → (rest : List ℕ) × (drop (512 * k) (sectors_at n image at) ≡ image (at + k) ++ rest)
unfolding sectors_at
sector_on zero image at k all below = absurd (omega (arith, below))
sector_on (suc n) image at k all below =
    let front : AreWhole image at n = λ i lt. all i (omega (arith, lt)) in
    let long = length-sectors n image at front in
    elim (cases_lt k n) [
      | inl before ↦
          let so_far = sector_on n image at k front before in (
            so_far.0 ++ image (at + n),
            drop-append-le (512 * k) (sectors_at n image at) (image (at + n))
                (omega (arith, long, before))
                ∙ ap (λ (l : List ℕ). l ++ image (at + n)) so_far.1
                ∙ append_assoc (image (at + k)) so_far.0 (image (at + n)),
          )
      | inr last ↦
          let same : k ≡ n = omega (arith, below, last) in (
            [],
            ap (λ (j : ℕ). drop (512 * j) (sectors_at n image at ++ image (at + n))) same
                ∙ drop_at (sectors_at n image at) (image (at + n)) (512 * n) long
                ∙ ap (λ (j : ℕ). image (at + j)) (sym same)
                ∙ sym (append-nil (image (at + k))),
          )
    ]

-- a number of one sector
number_in : (n : ℕ) (image : Image) (at k r : ℕ)
    → AreWhole image at n
    → k < n
    → r + 8 ≤ 512
    → field (sectors_at n image at) (512 * k + r) 8 ≡ field (image (at + k)) r 8
number_in n image at k r all below fits =
    let from = sector_on n image at k all below in
    let s : List ℕ = image (at + k) in
    let long : length s ≡ 512 = all k below in
    ap (take 8)
    (sym (drop-drop r (512 * k) (sectors_at n image at))
    ∙ ap (drop r) from.1
    ∙ drop-append-le r s from.0 (omega (arith, long, fits)))
    ∙ take-append-le 8 (drop r s) from.0 (omega (arith, length-drop r s, long, fits))

-- an entry of one sector
pub entry_in : (n : ℕ) (image : Image) (at k j : ℕ)
    → AreWhole image at n
    → k < n
    → j < 32
    → entry_at (sectors_at n image at) (32 * k + j) ≡ entry_at (image (at + k)) j
unfolding entry_at
entry_in n image at k j all below inside =
    let b : List ℕ = sectors_at n image at in
    let first : 16 * (32 * k + j) ≡ 512 * k + 16 * j = omega arith in
    let second : 16 * (32 * k + j) + 8 ≡ 512 * k + (16 * j + 8) = omega arith in
    let old =
    ap (λ (i : ℕ). from_le_bytes w64 (field b i 8)) first
    ∙ ap (from_le_bytes w64) (number_in n image at k (16 * j) all below (omega (arith, inside))) in
    let new =
    ap (λ (i : ℕ). from_le_bytes w64 (field b i 8)) second
    ∙ ap (from_le_bytes w64)
    (number_in n image at k (16 * j + 8) all below (omega (arith, inside))) in
    (λ i. record { old_chunk = old i; new_chunk = new i })

-- the t-th entry of a store, in its sector
pub slot_in_sector : (k : Chunk) (store : List ℕ) (image : Image) (t : ℕ)
    → AreWhole image (slice_index store (page_block k (t / 256))) 8
    → slot_at k store image t ≡ entry_at (image (page_sector k store (t / 32))) (t % 32)
unfolding slot_at
slot_in_sector k store image t all =
    let at : ℕ = slice_index store (page_block k (t / 256)) in
    let r : ℕ = (t / 32) % 8 in
    let split : t % 256 ≡ 32 * r + t % 32 = omega arith in
    let page : (t / 32) / 8 ≡ t / 256 = omega arith in
    ap (entry_at (sectors_at 8 image at)) split
    ∙ entry_in 8 image at r (t % 32) all (omega arith) (omega arith)
    ∙ ap (λ (p : ℕ). entry_at (image (slice_index store (page_block k p) + r)) (t % 32)) (sym page)

-- entries of a page that reads the same
pub slot_same : (k : Chunk) (store : List ℕ) (old new : Image) (t : ℕ)
    → chunk_bytes store new (page_block k (t / 256))
    ≡ chunk_bytes store old (page_block k (t / 256))
    → slot_at k store new t ≡ slot_at k store old t
unfolding slot_at
slot_same k store old new t same = ap (λ (b : List ℕ). entry_at b (t % 256)) same

-- ---- the sectors of the pages

-- pages stand in blocks of their own
pub pages_other : (k : Chunk) (p q : ℕ) → p ≢ q → page_block k p ≢ page_block k q
pages_other k p q other same =
    elim (cases_lt p q) [
      | inl less ↦ omega (arith, same, pages_ascend k p q less)
      | inr more ↦ omega (arith, same, pages_ascend k q p (omega (arith, more, other)))
    ]

pub sector_other : (k : Chunk) (store : List ℕ) (i n : ℕ)
    → IsApart store
    → i / 8 < pages_of k store
    → n / 8 < pages_of k store
    → i ≢ n
    → page_sector k store i ≢ page_sector k store n
sector_other k store i n apart i_in n_in other same =
    elim (cases_eq (i / 8) (n / 8)) [
      | inl one ↦
          omega (arith, one, other, same, ap (λ (p : ℕ). slice_index store (page_block k p)) one)
      | inr two ↦
          ⊎_elim (λ before. omega (arith, before, same)) (λ behind. omega (arith, behind, same))
          (apart_of store (page_block k (i / 8)) (page_block k (n / 8)) apart
          (page_inside k (length store) (i / 8) i_in)
          (page_inside k (length store) (n / 8) n_in)
          (pages_other k (i / 8) (n / 8) two))
    ]
