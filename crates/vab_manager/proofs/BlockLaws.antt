-- The partition that is kept under a base name has the image under it, and its blocks are that
-- image's.
use Rattle.std.proofs.Common.{◌≡◌, ℕ, inl, inr, zero, suc, ◌+◌, ◌*◌, ◌<◌, ◌≤◌, true, eqb, List, []}
use Rattle.std.proofs.Common.{◌∷◌, ◌++◌, length, get_or, take, drop, Option, Some, None, Result, Ok}
use Rattle.std.proofs.Common.{Err, refl, sym, ◌∙◌, ap, subst, arith, is_some}
use Rattle.std.specs.Prelude.{map, All, ok_or}
use Rattle.std.specs.List.{flat_map}
use Rattle.std.specs.Option.{option_and_then, option_map}
use Rattle.std.specs.Str.{bytes_eq}
use Rattle.std.proofs.lemmas.Bool.{cases_Bool}
use Rattle.std.proofs.lemmas.List.{take_at}
use Rattle.std.proofs.lemmas.List.Elements.{All-head, All-tail, All-weaker}
use Rattle.std.proofs.Math.Seq.{drop-append-add}
use Rattle.vab_disk.specs.Disk.{Image}
use Rattle.vab_gate.specs.Gate.{sectors_at}
use Rattle.vab_copies.proofs.CopyLaws.{length-sectors}
use Rattle.vab_names.specs.Names.{is_full, base_of}
use Rattle.vab_model.specs.declared.command.Refusal.{Refusal}
use Rattle.vab_model.specs.declared.command.Refusal.TheVariants.{BadName, Unknown}
use Rattle.vab_model.specs.State.{image_named}
use Rattle.vab_device.specs.declared.device.Part.{Part}
use Rattle.vab_device.specs.declared.device.Device.{Device}
use Rattle.vab_device.specs.Kept.{IsPart, IsStore, IsStored, ArePresent, IsDevice, parts_at}
use Rattle.vab_device.specs.Kept.{IsOverlay, IsOverlaidOn}
use Rattle.vab_device.specs.Mounted.{bytes_at, sectors_read, image_on, images_on, state_on}
use Rattle.vab_manager.specs.Found.{part_named, part_in, found_part, part_under, found_over}
use Rattle.vab_manager.specs.Blocks.{slot_named, KeepsPart, image_at, IsBlockOf, image_read}
use Rattle.vab_device.specs.Kept.{group_of}
use Rattle.vab_device.specs.Mounted.{overlay_on, overlay_by}
use Rattle.vab_device.proofs.OverlayLaws.{one_slot}
use Rattle.vab_model.specs.Over.{read_over}
use Rattle.vab_names.proofs.NameCases.{same_name}
use Rattle.vab_device.specs.declared.device.PartImage.{PartImage}
use Rattle.vab_device.specs.declared.device.PartImage.TheVariants.{Kept, Declared, Written}
use Rattle.vab_manager.proofs.SeenLaws.{read_long, read_on_disk}
use Rattle.vab_manager.specs.Found.{as_read}

-- ---- the partition that was found

found_some : (o : Option Part) (p : Part) → ok_or o Unknown ≡ Ok p → o ≡ Some p
found_some None p h = absurd cc
found_some (Some q) p h = let e : q ≡ p = cc in ap (λ (x : Part). Some x) e

in_kept : (name : List ℕ) (o : Option (List Part)) (p : Part)
    → part_in name o ≡ Ok p
    → option_and_then (part_named (base_of name)) o ≡ Some p
in_kept name None p h = absurd cc
in_kept name (Some ps) p h = found_some (part_named (base_of name) ps) p h

-- what is under a name as it is kept
pub under_keeps : (d : Device) (name : List ℕ) (p : Part)
    → part_under d name ≡ Ok p
    → option_and_then (part_named (base_of name)) (parts_at d (slot_named name)) ≡ Some p
under_keeps d name p h = elim (cases_Bool (is_full 0 name)) [
  | inl a ↦ let here : part_in name d.a ≡ Ok p = rw a at h in rw a (in_kept name d.a p here)
  | inr a ↦ elim (cases_Bool (is_full 1 name)) [
    | inl b ↦ let here : part_in name d.b ≡ Ok p = rw (a, b) at h in rw a (in_kept name d.b p here)
    | inr b ↦ let bad : (let none : Result Part Refusal = Err BadName in none ≡ Ok p) =
        rw (a, b) at h in absurd (cc bad)
  ]
]

-- what was found is what is under the name, as it is read
under_found : (o : Option Part) (found : Result Part Refusal) (p : Part)
    → found_over o found ≡ Ok p
    → (q : Part) × (found ≡ Ok q) × (as_read o q ≡ p)
under_found o (Ok q) p h = (q, refl, cc)
under_found o (Err refusal) p h =
    absurd (let bad : (let none : Result Part Refusal = Err refusal in none ≡ Ok p) = h in cc)

-- and it is kept under the base name, in the slot of the suffix
pub found_keeps : (d : Device) (name : List ℕ) (p : Part)
    → found_part d name ≡ Ok p
    → KeepsPart d (slot_named name) (base_of name) p
found_keeps d name p h =
    let q = under_found d.overlay (part_under d name) p h in
    ap (option_map (as_read d.overlay)) (under_keeps d name q.0 q.1)
    ∙ ap (λ (x : Part). Some x) q.2

under_full : (d : Device) (name : List ℕ) (p : Part)
    → part_under d name ≡ Ok p
    → is_full (slot_named name) name ≡ true
under_full d name p h = elim (cases_Bool (is_full 0 name)) [
  | inl a ↦ rw a a
  | inr a ↦ elim (cases_Bool (is_full 1 name)) [
    | inl b ↦ rw a b
    | inr b ↦ let bad : (let none : Result Part Refusal = Err BadName in none ≡ Ok p) =
        rw (a, b) at h in absurd (cc bad)
  ]
]

-- and the name has that suffix
pub found_full : (d : Device) (name : List ℕ) (p : Part)
    → found_part d name ≡ Ok p
    → is_full (slot_named name) name ≡ true
found_full d name p h =
    let q = under_found d.overlay (part_under d name) p h in under_full d name q.0 q.1

pub slot_below : (name : List ℕ) → slot_named name < 2
slot_below name = elim (cases_Bool (is_full 0 name))
    [ inl a ↦ rw a (omega arith) | inr a ↦ rw a (omega arith) ]

-- one partition alone is kept under a name
pub kept_once : (d : Device) (slot : ℕ) (name : List ℕ) (p q : Part)
    → KeepsPart d slot name p
    → KeepsPart d slot name q
    → p ≡ q
kept_once d slot name p q h k = let same : Some p ≡ Some q = sym h ∙ k in cc

-- ---- what is known of it

one_of : (size : ℕ) (base : List ℕ) (ps : List Part) (p : Part)
    → All (IsPart size) ps
    → part_named base ps ≡ Some p
    → IsPart size p
one_of size base [] p all h = absurd cc
one_of size base (q ∷ ps) p all h = elim (cases_Bool (bytes_eq q.name base)) [
  | inl t ↦
      let same : (let first : Option Part = Some q in first ≡ Some p) = rw t at h in
      let e : q ≡ p = cc same in
      subst (IsPart size) e (All-head (IsPart size) q ps all)
  | inr f ↦
      let rest : part_named base ps ≡ Some p = rw f at h in
      one_of size base ps p (All-tail (IsPart size) q ps all) rest
]

of_slot : (size : ℕ) (name : List ℕ) (o : Option (List Part)) (p : Part)
    → ArePresent size o
    → option_and_then (part_named name) o ≡ Some p
    → IsPart size p
of_slot size name None p all h = absurd cc
of_slot size name (Some ps) p all h = one_of size name ps p all.each h

base_kept : (d : Device) (size slot : ℕ) (name : List ℕ) (p : Part)
    → IsDevice d size
    → option_and_then (part_named name) (parts_at d slot) ≡ Some p
    → IsPart d.tail.super_end p
base_kept d size slot name p is h = elim (cases_Bool (eqb slot 0)) [
  | inl a ↦ let here : option_and_then (part_named name) d.a ≡ Some p = rw a at h in
      of_slot d.tail.super_end name d.a p is.parts_a here
  | inr a ↦ let here : option_and_then (part_named name) d.b ≡ Some p = rw a at h in
      of_slot d.tail.super_end name d.b p is.parts_b here
]

-- what lies in front of a sector lies in front of each behind it
store_wider : (low high : ℕ) (base store : List ℕ)
    → low ≤ high
    → IsStore low base store
    → IsStore high base store
store_wider low high base store le is = record {
  on_disk = λ i d below. omega (arith, is.on_disk i d below, le);
  once = is.once;
  apart = is.apart;
}

stored_wider : (low high : ℕ) (base : List ℕ) (store : Option (List ℕ)) (image : PartImage)
    → low ≤ high
    → IsStored low base store image
    → IsStored high base store image
stored_wider low high base None Kept le is = is
stored_wider low high base None Declared le is = is
stored_wider low high base None (Written k es) le is = is
stored_wider low high base (Some store) Kept le is = store_wider low high base store le is
stored_wider low high base (Some store) Declared le is = store_wider low high base store le is
stored_wider low high base (Some store) (Written k es) le is =
    (store_wider low high base store le is.0, is.1)

part_wider : (low high : ℕ) (p : Part) → low ≤ high → IsPart low p → IsPart high p
part_wider low high p le is = record {
  name = is.name;
  on_disk = λ i d below. omega (arith, is.on_disk i d below, le);
  once = is.once;
  small = is.small;
  store = stored_wider low high p.map p.store p.image le is.store;
}

over_kept : (size : ℕ) (parts : Option (List Part)) (o : Option Part) (p : Part)
    → IsOverlay size parts o
    → IsPart size p
    → IsPart size (as_read o p)
over_kept size parts None p over kept = kept
over_kept size None (Some o) p over kept = absurd over
over_kept size (Some parts) (Some o) p over kept = elim (cases_Bool (bytes_eq o.name p.name)) [
  | inl t ↦ rw t over.part
  | inr f ↦ rw f kept
]

-- what is read under a name is what is kept there, as it is read
read_of : (o found : Option Part) (p : Part)
    → option_map (as_read o) found ≡ Some p
    → (q : Part) × (found ≡ Some q) × (as_read o q ≡ p)
read_of o None p h = absurd cc
read_of o (Some q) p h = (q, refl, cc)

pub part_kept : (d : Device) (size slot : ℕ) (name : List ℕ) (p : Part)
    → IsDevice d size
    → KeepsPart d slot name p
    → IsPart size p
part_kept d size slot name p is h =
    let q = read_of d.overlay (option_and_then (part_named name) (parts_at d slot)) p h in
    part_wider d.tail.super_end size p is.ends
    (subst (IsPart d.tail.super_end) q.2
    (over_kept d.tail.super_end (parts_at d d.mark.slot) d.overlay q.0 is.overlay
    (base_kept d size slot name q.0 is q.1)))

-- ---- its image

-- the first image of a name is that of the first partition of it
pub image_of_part : (image : Image) (base : List ℕ) (ps : List Part)
    → image_named base (map (image_on image) ps) ≡ option_map (image_on image) (part_named base ps)
image_of_part image base [] = refl
image_of_part image base (p ∷ ps) = elim (cases_Bool (bytes_eq p.name base))
    [ inl h ↦ rw h refl | inr h ↦ rw h (image_of_part image base ps) ]

in_slot : (image : Image) (name : List ℕ) (o : Option (List Part)) (p : Part)
    → option_and_then (part_named name) o ≡ Some p
    → option_and_then (image_named name) (images_on image o) ≡ Some (image_on image p)
in_slot image name None p h = absurd cc
in_slot image name (Some ps) p h = image_of_part image name ps ∙ ap (option_map (image_on image)) h

base_image : (d : Device) (image : Image) (slot : ℕ) (name : List ℕ) (p : Part)
    → option_and_then (part_named name) (parts_at d slot) ≡ Some p
    → image_at (state_on d image) slot name ≡ Some (image_on image p)
unfolding state_on
base_image d image slot name p h = elim (cases_Bool (eqb slot 0)) [
  | inl a ↦ let here : option_and_then (part_named name) d.a ≡ Some p = rw a at h in
      rw a (in_slot image name d.a p here)
  | inr a ↦ let here : option_and_then (part_named name) d.b ≡ Some p = rw a at h in
      rw a (in_slot image name d.b p here)
]

-- ---- its image as it is read

-- the first of a name has it
named_is : (base : List ℕ) (ps : List Part) (p : Part)
    → part_named base ps ≡ Some p
    → p.name ≡ base
named_is base [] p h = absurd cc
named_is base (q ∷ ps) p h = elim (cases_Bool (bytes_eq q.name base)) [
  | inl t ↦
      let same : (let first : Option Part = Some q in first ≡ Some p) = rw t at h in
      let e : q ≡ p = cc same in
      ap (λ (x : Part). x.name) (sym e) ∙ same_name q.name base t
  | inr f ↦
      let rest : part_named base ps ≡ Some p = rw f at h in
      named_is base ps p rest
]

-- the overlaid partition of a slot is that of its name, with its store
over_image : (size : ℕ) (image : Image) (parts : List Part) (o p : Part) (name : List ℕ)
    → IsOverlaidOn size parts o
    → part_named name parts ≡ Some p
    → o.name ≡ p.name
    → image_on image o
    ≡ record (image_on image p) { bytes = bytes_at image (sectors_read o) }
over_image size image parts o p name over found same =
    let named : o.name ≡ name = same ∙ named_is name parts p found in
    let base : part_named name parts ≡ Some (record o { store = None; image = Kept }) =
    subst (λ (n : List ℕ). part_named n parts ≡ Some (record o { store = None; image = Kept }))
    named over.base in
    let whole : Some p ≡ Some (record o { store = None; image = Kept }) = sym found ∙ base in
    let is : p ≡ record o { store = None; image = Kept } = cc in
    ap (λ (x : Part). record {
      name = x.name;
      group = group_of x.group;
      bytes = bytes_at image (sectors_read o);
    })
    (sym is)

over_read : (size : ℕ) (image : Image) (parts : List Part) (o p : Part) (name : List ℕ)
    → IsOverlaidOn size parts o
    → part_named name parts ≡ Some p
    → read_over (Some (overlay_by image o)) (image_on image p)
    ≡ image_on image (as_read (Some o) p)
over_read size image parts o p name over found = elim (cases_Bool (bytes_eq o.name p.name)) [
  | inl t ↦
      rw t (sym (over_image size image parts o p name over found
      (same_name o.name p.name t)))
  | inr f ↦ rw f refl
]

some_found : (ps : Option (List Part)) (name : List ℕ) (p : Part)
    → option_and_then (part_named name) ps ≡ Some p
    → is_some ps ≡ true
some_found None name p found = absurd cc
some_found (Some parts) name p found = refl

-- the image under a name as it is read is that of the partition under it as it is read
pub as_image : (d : Device) (size : ℕ) (image : Image) (slot : ℕ) (name : List ℕ) (p : Part)
    → IsDevice d size
    → slot < 2
    → option_and_then (part_named name) (parts_at d slot) ≡ Some p
    → read_over (overlay_on image d.overlay) (image_on image p)
    ≡ image_on image (as_read d.overlay p)
as_image d size image slot name p is below found =
    by d.overlay is.overlaid is.overlay
  where
    by : (o : Option Part)
        → is_some o ≡ d.mark.overlaid
        → IsOverlay d.tail.super_end (parts_at d d.mark.slot) o
        → read_over (overlay_on image o) (image_on image p) ≡ image_on image (as_read o p)
    by None some over = refl
    by (Some o) some over =
        let there : is_some (parts_at d slot) ≡ true = some_found (parts_at d slot) name p found in
        let same = one_slot d size slot is (sym some) below there in
        over_slot (parts_at d slot)
        (subst (λ (ps : Option (List Part)). IsOverlay d.tail.super_end ps (Some o)) (sym same)
        over)
        found
      where
        over_slot : (ps : Option (List Part))
            → IsOverlay d.tail.super_end ps (Some o)
            → option_and_then (part_named name) ps ≡ Some p
            → read_over (Some (overlay_by image o)) (image_on image p)
            ≡ image_on image (as_read (Some o) p)
        over_slot None over found = absurd over
        over_slot (Some parts) over found =
            over_read d.tail.super_end image parts o p name over found

-- the image under the name as it is read
pub image_kept : (d : Device) (size : ℕ) (image : Image) (slot : ℕ) (name : List ℕ) (p : Part)
    → IsDevice d size
    → slot < 2
    → KeepsPart d slot name p
    → image_read (state_on d image) slot name ≡ Some (image_on image p)
unfolding state_on
image_kept d size image slot name p is below h =
    let q = read_of d.overlay (option_and_then (part_named name) (parts_at d slot)) p h in
    ap (option_map (read_over (state_on d image).overlay)) (base_image d image slot name q.0 q.1)
    ∙ ap Some (as_image d size image slot name q.0 is below q.1 ∙ ap (image_on image) q.2)

-- ---- its blocks

-- of pieces of 4096 bytes, the i-th
piece_at : (f : ℕ → List ℕ) (xs : List ℕ) (i : ℕ)
    → All (λ x. length (f x) ≡ 4096) xs
    → i < length xs
    → take 4096 (drop (4096 * i) (flat_map f xs)) ≡ f (get_or xs i 0)
piece_at f [] i long lt = absurd (omega (arith, lt))
piece_at f (x ∷ xs) zero long lt = take_at (f x) (flat_map f xs) 4096
    (All-head (λ x. length (f x) ≡ 4096) x xs long)
piece_at f (x ∷ xs) (suc i) long lt =
    let first : length (f x) ≡ 4096 = All-head (λ x. length (f x) ≡ 4096) x xs long in
    let at : 4096 * suc i ≡ length (f x) + 4096 * i = omega (arith, first) in
    ap (λ (k : ℕ). take 4096 (drop k (f x ++ flat_map f xs))) at
    ∙ ap (take 4096) (drop-append-add (f x) (flat_map f xs) (4096 * i))
    ∙ piece_at f xs i (All-tail (λ x. length (f x) ≡ 4096) x xs long) (omega (arith, lt))

-- where each sector of the disk is 512 bytes, a block of the partition is that of the image's bytes
pub block_bytes : (image : Image) (size : ℕ) (blocks : List ℕ) (i : ℕ)
    → ((s : ℕ) → s < size → length (image s) ≡ 512)
    → All (λ s. s + 8 ≤ size) blocks
    → i < length blocks
    → sectors_at 8 image (get_or blocks i 0) ≡ take 4096 (drop (4096 * i) (bytes_at image blocks))
unfolding bytes_at
block_bytes image size blocks i whole on_disk lt =
    let long : All (λ s. length (sectors_at 8 image s) ≡ 4096) blocks =
    All-weaker (λ s. s + 8 ≤ size) (λ s. length (sectors_at 8 image s) ≡ 4096)
    (λ s fits. length-sectors 8 image s (λ k lt. whole (s + k) (omega (arith, fits, lt))))
    blocks on_disk in
    sym (piece_at (λ s. sectors_at 8 image s) blocks i long lt)

-- a block that was read is that of the image under the name
pub block_is : (d : Device) (size : ℕ) (image : Image) (slot : ℕ) (name : List ℕ) (p : Part)
    (block : ℕ) (bytes : List ℕ)
    → IsDevice d size
    → ((s : ℕ) → s < size → length (image s) ≡ 512)
    → slot < 2
    → KeepsPart d slot name p
    → block < length p.map
    → bytes ≡ sectors_at 8 image (get_or (sectors_read p) block 0)
    → IsBlockOf (state_on d image) slot name block bytes
block_is d size image slot name p block bytes is whole below kept lt read = (
  image_on image p,
  image_kept d size image slot name p is below kept,
  read
      ∙ block_bytes image size (sectors_read p) block whole
      (read_on_disk size p (part_kept d size slot name p is kept))
      (omega (arith, lt, read_long p)),
)
