-- The state of a kept device is small.
use Rattle.std.proofs.Common.{◌≡◌, ℕ, ◌+◌, ◌^◌, ◌≤◌, ◌<◌, List, [], ◌∷◌, length}
use Rattle.std.proofs.Common.{inl, inr, refl, arith, subst}
use Rattle.std.specs.Prelude.{Option, Some, None, option_map, All}
use Rattle.std.proofs.lemmas.Bool.{cases_lt}
use Rattle.std.proofs.lemmas.List.{length-map, get_or_past}
use Rattle.std.proofs.lemmas.List.Elements.{All-map, All-weaker, All-head, All-tail, All-cons}
use Rattle.std.proofs.lemmas.List.Elements.{All-nil}
use Rattle.vab_disk.specs.Disk.{Image}
use Rattle.vab_marks.specs.declared.mark.MarkPhase.{MarkPhase}
use Rattle.vab_marks.specs.declared.mark.MarkPhase.TheVariants as marks
use Rattle.vab_marks.specs.declared.mark.UpdateMark.{UpdateMark}
use Rattle.vab_exceptions.specs.declared.area.Exception.{Exception}
use Rattle.vab_space.specs.declared.Chunk.{Chunk}
use Rattle.vab_store.specs.View.{stored_at}
use Rattle.vab_builder.proofs.Counting.{few_below}
use Rattle.vab_model.specs.declared.state.Image.{Image as ImageOfSlot}
use Rattle.vab_model.specs.declared.state.Physical.{Physical}
use Rattle.vab_device.specs.declared.device.Part.{Part}
use Rattle.vab_device.specs.declared.device.PartImage.{PartImage}
use Rattle.vab_device.specs.declared.device.PartImage.TheVariants.{Kept, Declared, Written}
use Rattle.vab_device.specs.Kept.{IsStore, IsStored, IsPart, ArePresent, IsOverlay, parts_at}
use Rattle.vab_device.specs.Mounted.{bytes_at, blocks_there, sectors_by, blocks_over, overlay_by}
use Rattle.vab_device.specs.Mounted.{overlay_on}
use Rattle.vab_device.specs.Mounted.{image_on, images_on, planned_on, entry_on, entries_on}
use Rattle.vab_device.specs.Mounted.{unplanned, phase_by, state_on, count_at, count_of}
use Rattle.vab_device.specs.Stores.{sector_seen, sectors_seen}
use Rattle.vab_model.specs.Plans.{store_blocks}
use Rattle.vab_machine.specs.Small.{IsSmallSlot, IsSmallImage, IsSmallEntry}
use Rattle.vab_machine.specs.Small.{IsSmallPhase, IsSmallOver, IsSmallOverlay}
use Rattle.vab_merging.proofs.CountLaws.{few_of}
use Rattle.vab_targets.specs.Sectors.{HasWholeSectors}
use Rattle.vab_targets.proofs.EndLaws.{whole_front}
use Rattle.vab_targets.proofs.Sectors.{blocks_long}
use Rattle.vab_machine_laws.specs.Sizes.{DevicesAreSmall}

-- ---- what is read through a store

length-seen : (k : Chunk) (store : List ℕ) (es : List Exception) (n : ℕ) (owns : List ℕ)
    → length (sectors_seen k store es n owns) ≡ length owns
length-seen k store es n [] = refl
length-seen k store es n (own ∷ owns) =
    let rest = length-seen k store es (n + 1) owns in omega (arith, rest)

module _ (size : ℕ) where
  seen_on : (store : List ℕ) (own : ℕ) (o : Option ℕ)
      → All (λ s. s + 8 ≤ size) store
      → own + 8 ≤ size
      → sector_seen store own o + 8 ≤ size
  seen_on store own None stored on = on
  seen_on store own (Some chunk) stored on = elim (cases_lt chunk (length store)) [
    | inl lt ↦ stored chunk own lt
    | inr past ↦
        let is = get_or_past store chunk own past in
        omega (arith, is, on)
  ]

  all_seen : (k : Chunk) (store : List ℕ) (es : List Exception) (n : ℕ) (owns : List ℕ)
      → All (λ s. s + 8 ≤ size) store
      → All (λ s. s + 8 ≤ size) owns
      → All (λ s. s + 8 ≤ size) (sectors_seen k store es n owns)
  all_seen k store es n [] stored on = All-nil (λ s. s + 8 ≤ size)
  all_seen k store es n (own ∷ owns) stored on =
      All-cons (λ s. s + 8 ≤ size) (sector_seen store own (stored_at k es n))
      (sectors_seen k store es (n + 1) owns)
      (seen_on store own (stored_at k es n) stored
      (All-head (λ s. s + 8 ≤ size) own owns on))
      (all_seen k store es (n + 1) owns stored (All-tail (λ s. s + 8 ≤ size) own owns on))

  -- the blocks of a written partition's store lie on the disk
  store_on : (base : List ℕ) (store : Option (List ℕ)) (k : Chunk) (es : List Exception)
      → IsStored size base store (Written k es)
      → All (λ s. s + 8 ≤ size) (blocks_there store)
  store_on base None k es is = All-nil (λ s. s + 8 ≤ size)
  store_on base (Some store) k es is = is.0.on_disk

  read_by : (p : Part) (image : PartImage)
      → IsPart size p
      → p.image ≡ image
      → All (λ s. s + 8 ≤ size) (sectors_by p image)
      × (length (sectors_by p image) ≡ length p.map)
  read_by p Kept is e = (is.on_disk, refl)
  read_by p Declared is e = (is.on_disk, refl)
  read_by p (Written k es) is e =
      let stored : IsStored size p.map p.store (Written k es) =
      subst (IsStored size p.map p.store) e is.store in (
        all_seen k (blocks_there p.store) es 0 p.map (store_on p.map p.store k es stored)
            is.on_disk,
        length-seen k (blocks_there p.store) es 0 p.map,
      )

  module _ (image : Image) (whole : HasWholeSectors size image) where
    -- an image's bytes
    short : (p : Part) (x : PartImage)
        → IsPart size p
        → p.image ≡ x
        → length (bytes_at image (sectors_by p x)) ≤ 2 ^ 40
    short p x is e =
        let read = read_by p x is e in
        let long = blocks_long size image (sectors_by p x) whole read.0 in
        omega (arith, long, read.1, is.small)

    slot_small : (parts : Option (List Part))
        → ArePresent size parts
        → IsSmallSlot (images_on image parts)
    slot_small None are = tt
    slot_small (Some parts) are = record {
      few = omega (arith, length-map parts (image_on image), are.few);
      each =
          All-map (λ (i : ImageOfSlot). length i.bytes ≤ 2 ^ 40) (image_on image) parts
          (All-weaker (IsPart size) (λ p. length (image_on image p).bytes ≤ 2 ^ 40)
          (λ p is. short p p.image is refl) parts are.each);
    }

    module _ (small : size ≤ 2 ^ 55) where
      -- a store
      store_few : (base : List ℕ) (store : Option (List ℕ)) (x : PartImage)
          → IsStored size base store x
          → store_blocks (option_map length store) ≤ 2 ^ 55
      store_few base None x is = omega arith
      store_few base (Some store) x is =
          let s = stored_is base store x is in
          let few = few_below size store s.once
          (All-weaker (λ b. b + 8 ≤ size) (λ b. b < size) (λ b le. omega (arith, le)) store
          s.on_disk) in
          omega (arith, few, small)
        where
          stored_is : (base store : List ℕ) (x : PartImage)
              → IsStored size base (Some store) x
              → IsStore size base store
          stored_is base store Kept is = is
          stored_is base store Declared is = is
          stored_is base store (Written k es) is = is.0

      image_small : (p : Part) (x : PartImage)
          → IsPart size p
          → p.image ≡ x
          → IsSmallImage (planned_on image p x)
      image_small p Kept is e = tt
      image_small p Declared is e = tt
      image_small p (Written k es) is e =
          let few : count_of (Written k es) ≤ 2 ^ 28 =
          subst (λ (y : PartImage). count_of y ≤ 2 ^ 28) e (few_of size p is) in
          record { bytes_small = short p (Written k es) is e; few = omega (arith, few) }

      entry_small : (p : Part) → IsPart size p → IsSmallEntry (entry_on image p)
      entry_small p is = record {
        blocks = is.small;
        store = store_few p.map p.store p.image is.store;
        image = image_small p p.image is refl;
      }

      phase_small : (mark : UpdateMark) (left : ℕ) (plan : Option (List Part))
          → ArePresent size plan
          → IsSmallPhase (phase_by mark left (entries_on image plan))
      phase_small mark left None are = by_mark mark.phase
        where
          by_mark : (p : MarkPhase) → IsSmallPhase (unplanned p mark.slot left)
          by_mark marks.Idle = tt
          by_mark marks.Installing = tt
          by_mark marks.Staged = tt
          by_mark marks.Merging = tt
          by_mark marks.Completed = tt
      phase_small mark left (Some plan) are = record {
        few = omega (arith, length-map plan (entry_on image), are.few);
        each =
            All-map IsSmallEntry (entry_on image) plan
            (All-weaker (IsPart size) (λ p. IsSmallEntry (entry_on image p)) entry_small plan
            are.each);
      }

      exceptions_few : (x : PartImage) → count_of x ≤ 2 ^ 28 → length (blocks_over x) ≤ 2 ^ 55
      exceptions_few Kept few = omega arith
      exceptions_few Declared few = omega arith
      exceptions_few (Written k es) few =
          omega (arith, length-map es (λ (e : Exception). e.old_chunk), few)

      blocks_few : (store : Option (List ℕ))
          → store_blocks (option_map length store) ≤ 2 ^ 55
          → length (blocks_there store) ≤ 2 ^ 55
      blocks_few None few = omega arith
      blocks_few (Some store) few = few

      part_small : (p : Part) → IsPart size p → IsSmallOver (overlay_by image p)
      part_small p is = record {
        few = exceptions_few p.image (few_of size p is);
        store = blocks_few p.store (store_few p.map p.store p.image is.store);
        over = short p p.image is refl;
      }

      overlay_small : (parts : Option (List Part)) (o : Option Part)
          → IsOverlay size parts o
          → IsSmallOverlay (overlay_on image o)
      overlay_small parts None is = tt
      overlay_small None (Some p) is = absurd is
      overlay_small (Some parts) (Some p) is = part_small p is.part

pub devices_small : DevicesAreSmall
unfolding state_on
devices_small size image d small whole is =
    let last : ℕ = d.tail.super_end in
    let inside = whole_front last size image is.ends whole in
    let low : last ≤ 2 ^ 55 = omega (arith, small, is.ends) in
    record {
      a = slot_small last image inside d.a is.parts_a;
      b = slot_small last image inside d.b is.parts_b;
      physical = record { few = omega arith; each = All-nil (λ (p : Physical). p.blocks ≤ 2 ^ 28) };
      phase =
          phase_small last image inside low d.mark (count_at d.a + count_at d.b) d.plan is.plan;
      overlay = overlay_small last image inside low (parts_at d d.mark.slot) d.overlay is.overlay;
    }
