-- The bytes of blocks that hold an image.
use Rattle.std.proofs.Common.{◌≡◌, ◌∙◌, inl, inr, ℕ, zero, suc, ◌+◌, ◌-◌, ◌*◌, ◌<◌, ◌≤◌, List, []}
use Rattle.std.proofs.Common.{◌∷◌, ◌++◌, length, take, drop, replicate, refl, sym, ap, subst, arith}
use Rattle.std.proofs.Common.{append_assoc}
use Rattle.std.specs.Prelude.{map}
use Rattle.std.specs.List.{range_with_len, flat_map}
use Rattle.std.proofs.lemmas.Bool.{cases_eq}
use Rattle.std.proofs.lemmas.Grind.{flat_map-append}
use Rattle.std.proofs.lemmas.List.{take_all, drop_all, append-nil, length-take, length-drop}
use Rattle.std.proofs.lemmas.List.{replicate-append-replicate}
use Rattle.std.proofs.lemmas.List.FromFn.{map-range_with_len_more}
use Rattle.std.proofs.Math.Seq.{take-add}
use Rattle.vab_disk.specs.Disk.{Image}
use Rattle.vab_gate.specs.Gate.{sectors_at}
use Rattle.vab_gate.proofs.Blocks.{sectors_same}
use Rattle.vab_device.specs.Kept.{block_sector, sectors_of}
use Rattle.vab_device.specs.Mounted.{bytes_at}
use Rattle.vab_make.specs.Steps.{block_of, HoldsBlocks}

-- ---- the bytes of blocks

-- the first n blocks' bytes, filled up with zeros
abbrev filled_to : ℕ → List ℕ → List ℕ
filled_to n bytes = take (4096 * n) bytes ++ replicate (4096 * n - length bytes) 0

filled_more : (n : ℕ) (bytes : List ℕ)
    → filled_to n bytes ++ block_of bytes n ≡ filled_to (suc n) bytes
filled_more n bytes = elim (cases_eq (4096 * n - length bytes) 0) [
  | inl inside ↦
      let front : List ℕ = take (4096 * n) bytes in
      let back : List ℕ = drop (4096 * n) bytes in
      let none : filled_to n bytes ≡ front =
      ap (λ (k : ℕ). front ++ replicate k 0) inside ∙ append-nil front in
      let size : 4096 - length (take 4096 back) ≡ 4096 * suc n - length bytes =
      omega (arith, length-take 4096 back, length-drop (4096 * n) bytes) in
      let more : 4096 * n + 4096 ≡ 4096 * suc n = omega arith in
      ap (λ (l : List ℕ). l ++ block_of bytes n) none
      ∙ sym (append_assoc front (take 4096 back) (replicate (4096 - length (take 4096 back)) 0))
      ∙ (λ i. sym (take-add (4096 * n) 4096 bytes) i ++ replicate (size i) 0)
      ∙ ap (λ (k : ℕ). take k bytes ++ replicate (4096 * suc n - length bytes) 0) more
  | inr past ↦
      let zeros : List ℕ = replicate (4096 * n - length bytes) 0 in
      let whole : take (4096 * n) bytes ≡ bytes = take_all (4096 * n) bytes (omega arith) in
      let again : take (4096 * suc n) bytes ≡ bytes = take_all (4096 * suc n) bytes (omega arith) in
      let empty : drop (4096 * n) bytes ≡ [] = drop_all (4096 * n) bytes (omega arith) in
      let block : block_of bytes n ≡ replicate 4096 0 =
      ap (λ (l : List ℕ). take 4096 l ++ replicate (4096 - length (take 4096 l)) 0) empty in
      let size : 4096 * n - length bytes + 4096 ≡ 4096 * suc n - length bytes = omega arith in
      (λ i. (whole i ++ zeros) ++ block i)
      ∙ append_assoc bytes zeros (replicate 4096 0)
      ∙ ap (λ (l : List ℕ). bytes ++ l)
      (replicate-append-replicate (4096 * n - length bytes) 4096 0)
      ∙ (λ i. sym again i ++ replicate (size i) 0)
]

blocks_front : (n a : ℕ) (bytes : List ℕ) (image : Image)
    → HoldsBlocks n (6144 + 8 * a) bytes image
    → bytes_at image (sectors_of 2048 (range_with_len a n)) ≡ filled_to n bytes
unfolding bytes_at sectors_of
blocks_front zero a bytes image holds =
    let e : 0 - length bytes ≡ 0 = omega arith in
    sym (ap (λ (k : ℕ). take 0 bytes ++ replicate k 0) e)
blocks_front (suc n) a bytes image holds =
    let at : ℕ → List ℕ = λ s. sectors_at 8 image s in
    let first : ℕ → ℕ = block_sector 2048 in
    let before : List ℕ = map first (range_with_len a n) in
    let front : flat_map at before ≡ filled_to n bytes =
    blocks_front n a bytes image (λ k lt. holds k (omega arith)) in
    let one : suc n ≡ n + 1 = omega arith in
    let more : map first (range_with_len a (suc n)) ≡ before ++ first (a + n) ∷ [] =
    ap (λ (k : ℕ). map first (range_with_len a k)) one
    ∙ map-range_with_len_more first a n (a + n) refl in
    let place : first (a + n) ≡ 6144 + 8 * a + 8 * n = omega arith in
    let last : at (first (a + n)) ++ [] ≡ block_of bytes n =
    append-nil (at (first (a + n))) ∙ ap at place ∙ holds n (omega arith) in
    ap (flat_map at) more
    ∙ flat_map-append at before (first (a + n) ∷ [])
    ∙ (λ i. front i ++ last i)
    ∙ filled_more n bytes

-- blocks that hold bytes for which they have room: these, and zeros behind them
pub blocks_bytes : (n a : ℕ) (bytes : List ℕ) (image : Image)
    → length bytes ≤ 4096 * n
    → HoldsBlocks n (6144 + 8 * a) bytes image
    → bytes_at image (sectors_of 2048 (range_with_len a n))
    ≡ bytes ++ replicate (4096 * n - length bytes) 0
blocks_bytes n a bytes image room holds =
    blocks_front n a bytes image holds
    ∙ ap (λ (l : List ℕ). l ++ replicate (4096 * n - length bytes) 0)
    (take_all (4096 * n) bytes room)

-- the same of an equal place
pub blocks_moved : (n at place : ℕ) (bytes : List ℕ) (image : Image)
    → at ≡ place
    → HoldsBlocks n at bytes image
    → HoldsBlocks n place bytes image
blocks_moved n at place bytes image e holds =
    subst (λ (s : ℕ). HoldsBlocks n s bytes image) e holds

-- blocks whose sectors stay
pub blocks_kept : (n at : ℕ) (bytes : List ℕ) (old new : Image)
    → ((s : ℕ) → at ≤ s → s < at + 8 * n → new s ≡ old s)
    → HoldsBlocks n at bytes old
    → HoldsBlocks n at bytes new
blocks_kept n at bytes old new same holds k lt =
    sectors_same 8 (at + 8 * k) old new
    (λ j small. same (at + 8 * k + j) (omega arith) (omega (arith, lt, small)))
    ∙ holds k lt
