-- What is counted of a device is what is counted of its images.
use Rattle.std.proofs.Common.{◌≡◌, ◌∙◌, inl, inr, ℕ, ◌+◌, ◌*◌, ◌/◌, ◌<◌, ◌≤◌, eqb, List, [], ◌∷◌}
use Rattle.std.proofs.Common.{length, map, refl, sym, ap, arith, length-append}
use Rattle.std.specs.List.{flat_map}
use Rattle.std.specs.Prelude.{Option, Some, None, All, ◌==◌, if◌then◌else◌}
use Rattle.std.proofs.lemmas.Bool.{cases_Bool}
use Rattle.std.proofs.lemmas.List.{length-map}
use Rattle.std.proofs.lemmas.List.Elements.{All-head, All-tail, All-weaker}
use Rattle.std.proofs.lemmas.List.Sums.{sum_by-cons}
use Rattle.vab_disk.specs.Disk.{Image}
use Rattle.vab_gate.specs.Gate.{sectors_at}
use Rattle.vab_copies.proofs.CopyLaws.{length-sectors}
use Rattle.vab_model.specs.declared.state.Image.{Image as ImageOfSlot}
use Rattle.vab_model.specs.State.{images_at}
use Rattle.vab_device.specs.declared.device.Part.{Part}
use Rattle.vab_device.specs.declared.device.Device.{Device}
use Rattle.vab_device.specs.Kept.{IsPart, ArePresent, IsDevice}
use Rattle.vab_device.specs.Mounted.{bytes_at, image_on, images_on, sectors_read}
use Rattle.vab_device.specs.Mounted.{mounted_on, state_on}
use Rattle.vab_manager.proofs.SeenLaws.{read_long, read_on_disk}
use Rattle.vab_recover.specs.Opened.{with_tables}
use Rattle.vab_recover.specs.declared.table.Tables.{Tables}
use Rattle.vab_adopt.specs.declared.count.Adopted.{Adopted}
use Rattle.vab_adopt.specs.Adopted.{images_there, blocks_in, IsCounted}
use Rattle.vab_adopt.specs.Counting.{parts_there, blocks_over, IsCountOf}

-- ---- the bytes of blocks

flat_long : (f : ℕ → List ℕ) (xs : List ℕ)
    → All (λ x. length (f x) ≡ 4096) xs
    → length (flat_map f xs) ≡ 4096 * length xs
flat_long f [] long = refl
flat_long f (x ∷ xs) long =
    let first : length (f x) ≡ 4096 = All-head (λ x. length (f x) ≡ 4096) x xs long in
    let more = flat_long f xs (All-tail (λ x. length (f x) ≡ 4096) x xs long) in
    omega (arith, length-append (f x) (flat_map f xs), first, more)

-- each sector of a disk of so many has its 512 bytes
abbrev pub AreSectors : ℕ → Image → Type 0
AreSectors size image = (s : ℕ) → s < size → length (image s) ≡ 512

bytes_long : (image : Image) (size : ℕ) (blocks : List ℕ)
    → AreSectors size image
    → All (λ s. s + 8 ≤ size) blocks
    → length (bytes_at image blocks) ≡ 4096 * length blocks
unfolding bytes_at
bytes_long image size blocks whole on_disk =
    flat_long (λ s. sectors_at 8 image s) blocks
    (All-weaker (λ s. s + 8 ≤ size) (λ s. length (sectors_at 8 image s) ≡ 4096)
    (λ s fits. length-sectors 8 image s (λ k lt. whole (s + k) (omega (arith, fits, lt))))
    blocks on_disk)

-- ---- what is counted

module _ (image : Image) (size : ℕ) (whole : AreSectors size image) where
  part_blocks : (p : Part) → IsPart size p → length (image_on image p).bytes / 4096 ≡ length p.map
  part_blocks p is =
      let long = bytes_long image size (sectors_read p) whole (read_on_disk size p is) in
      omega (arith, long, read_long p)

  blocks_same : (parts : List Part)
      → All (IsPart size) parts
      → blocks_in (map (image_on image) parts) ≡ blocks_over parts
  blocks_same [] all = refl
  blocks_same (p ∷ ps) all =
      let here = part_blocks p (All-head (IsPart size) p ps all) in
      let rest = blocks_same ps (All-tail (IsPart size) p ps all) in
      let left = sum_by-cons (λ (i : ImageOfSlot). length i.bytes / 4096) (image_on image p)
      (map (image_on image) ps) in
      let right = sum_by-cons (λ (p : Part). length p.map) p ps in
      omega (arith, here, rest, left, right)

  there_same : (parts : Option (List Part))
      → ArePresent size parts
      → blocks_in (images_there (images_on image parts)) ≡ blocks_over (parts_there parts)
  there_same None present = refl
  there_same (Some parts) present = blocks_same parts present.each

  there_long : (parts : Option (List Part))
      → length (images_there (images_on image parts)) ≡ length (parts_there parts)
  there_long None = refl
  there_long (Some parts) = length-map parts (image_on image)

  -- the images of a slot are those of its partitions
  slot_images : (d : Device) (slot : ℕ)
      → images_at (state_on d image) slot ≡ images_on image (if slot == 0 then d.a else d.b)
  unfolding state_on
  slot_images d slot = elim (cases_Bool (eqb slot 0)) [
    | inl is ↦ rw is refl
    | inr not ↦ rw not refl
  ]

  pub counted : (d : Device) (t : Tables) (slot : ℕ) (a : Adopted)
      → ArePresent size (if slot == 0 then d.a else d.b)
      → IsCountOf d slot a
      → IsCounted slot (mounted_on (with_tables t d) image) a
  unfolding state_on
  counted d t slot a present is =
      let parts : Option (List Part) = if slot == 0 then d.a else d.b in
      let images = slot_images (with_tables t d) slot in
      record {
        images =
            is.images
            ∙ sym (there_long parts)
            ∙ ap (λ (x : Option (List ImageOfSlot)). length (images_there x)) (sym images);
        blocks =
            is.blocks
            ∙ sym (there_same parts present)
            ∙ ap (λ (x : Option (List ImageOfSlot)). blocks_in (images_there x)) (sym images);
        cap = is.cap;
      }

-- the partitions of a slot of a device are in `super`
pub present_at : (d : Device) (t : Tables) (size slot : ℕ)
    → IsDevice (with_tables t d) size
    → ArePresent d.tail.super_end (if slot == 0 then d.a else d.b)
present_at d t size slot is = elim (cases_Bool (eqb slot 0)) [
  | inl h ↦ rw h is.parts_a
  | inr h ↦ rw h is.parts_b
]
