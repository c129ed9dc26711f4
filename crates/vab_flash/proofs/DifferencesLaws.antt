-- The chunks that differ from an image's bytes are those that differ from its partition's.
use Rattle.std.proofs.Common.{◌≡◌, ◌∙◌, inl, inr, ℕ, zero, suc, ◌+◌, ◌*◌, ◌/◌, ◌≤◌, ◌<◌, List, []}
use Rattle.std.proofs.Common.{◌∷◌}
use Rattle.std.proofs.Common.{◌++◌, length, get_or, take, drop, refl, ap, arith, length-append}
use Rattle.std.specs.Prelude.{nat_lt, All}
use Rattle.std.specs.List.{flat_map}
use Rattle.std.proofs.lemmas.Bool.{cases_Bool, ltb-true}
use Rattle.std.proofs.lemmas.List.{take_at}
use Rattle.std.proofs.lemmas.List.Elements.{All-head, All-tail, All-weaker}
use Rattle.std.proofs.Math.Seq.{drop-append-add}
use Rattle.vab_bytes.specs.Number.{field}
use Rattle.vab_disk.specs.Disk.{Image}
use Rattle.vab_gate.specs.Gate.{sectors_at}
use Rattle.vab_copies.proofs.CopyLaws.{length-sectors}
use Rattle.vab_space.specs.declared.Chunk.{Chunk}
use Rattle.vab_space.proofs.DifferingLaws.{differing_same}
use Rattle.vab_store.specs.Layout.{chunk_bytes}
use Rattle.vab_install.specs.Differing.{differs_at, differing_of}
use Rattle.vab_device.specs.Mounted.{bytes_at}
use Rattle.vab_device.specs.Flashed.{is_other, differences}

-- ---- pieces of 4096 bytes

abbrev Are4096 : (ℕ → List ℕ) → List ℕ → Type 0
Are4096 f xs = All (λ x. length (f x) ≡ 4096) xs

pieces_long : (f : ℕ → List ℕ) (xs : List ℕ)
    → Are4096 f xs
    → length (flat_map f xs) ≡ 4096 * length xs
pieces_long f [] long = refl
pieces_long f (x ∷ xs) long =
    omega (
      arith,
      length-append (f x) (flat_map f xs),
      All-head (λ x. length (f x) ≡ 4096) x xs long,
      pieces_long f xs (All-tail (λ x. length (f x) ≡ 4096) x xs long),
    )

piece_at : (f : ℕ → List ℕ) (xs : List ℕ) (i : ℕ)
    → Are4096 f xs
    → i < length xs
    → take 4096 (drop (4096 * i) (flat_map f xs)) ≡ f (get_or xs i 0)
piece_at f [] i long lt = absurd (omega (arith, lt))
piece_at f (x ∷ xs) zero long lt =
    take_at (f x) (flat_map f xs) 4096 (All-head (λ x. length (f x) ≡ 4096) x xs long)
piece_at f (x ∷ xs) (suc i) long lt =
    let first : length (f x) ≡ 4096 = All-head (λ x. length (f x) ≡ 4096) x xs long in
    let at : 4096 * suc i ≡ length (f x) + 4096 * i = omega (arith, first) in
    ap (λ (k : ℕ). take 4096 (drop k (f x ++ flat_map f xs))) at
    ∙ ap (take 4096) (drop-append-add (f x) (flat_map f xs) (4096 * i))
    ∙ piece_at f xs i (All-tail (λ x. length (f x) ≡ 4096) x xs long) (omega (arith, lt))

-- ---- blocks on a disk whose sectors are of 512 bytes

module _ (image : Image) (size : ℕ) (base : List ℕ)
    (whole : (s : ℕ) → s < size → length (image s) ≡ 512)
    (on_disk : All (λ s. s + 8 ≤ size) base) where
  each_long : Are4096 (λ s. sectors_at 8 image s) base
  each_long =
      All-weaker (λ s. s + 8 ≤ size) (λ s. length (sectors_at 8 image s) ≡ 4096)
      (λ s fits. length-sectors 8 image s (λ k lt. whole (s + k) (omega (arith, fits, lt))))
      base on_disk

  bytes_long : length (bytes_at image base) ≡ 4096 * length base
  unfolding bytes_at
  bytes_long = pieces_long (λ s. sectors_at 8 image s) base each_long

  -- a block of the bytes is that of the partition
  block_here : (i : ℕ)
      → i < length base
      → field (bytes_at image base) (4096 * i) 4096 ≡ chunk_bytes base image i
  unfolding bytes_at
  block_here i lt = piece_at (λ s. sectors_at 8 image s) base i each_long lt

  other_is : (staged : List ℕ) (i : ℕ)
      → is_other (bytes_at image base) staged i ≡ differs_at base image staged i
  other_is staged i =
      let count : length (bytes_at image base) / 4096 ≡ length base = omega (arith, bytes_long) in
      elim (cases_Bool (nat_lt i (length base))) [
        | inl inside ↦
            let here = block_here i (ltb-true i (length base) inside) in
            rw (count, inside, here) refl
        | inr behind ↦ rw (count, behind) refl
      ]

  -- as many chunks differ from the one as from the other
  pub differences_are : (chunk : Chunk) (staged : List ℕ) (blocks : ℕ)
      → differences chunk (bytes_at image base) staged blocks
      ≡ length (differing_of chunk base image staged blocks)
  differences_are chunk staged blocks =
      ap length
      (differing_same chunk (is_other (bytes_at image base) staged) (differs_at base image staged)
      blocks (λ i below. other_is staged i))
