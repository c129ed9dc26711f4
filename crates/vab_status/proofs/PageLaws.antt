-- The page of a device by what is kept of it.
use Rattle.std.proofs.Common.{arith}
use Rattle.std.proofs.Common.{◌≡◌, ◌∙◌, ℕ, ◌+◌, ◌*◌, ◌^◌, ◌≤◌, inl, inr, true, false, List, []}
use Rattle.std.proofs.Common.{◌∷◌, ◌++◌, length, get_or, map, Option, Some, None, refl, sym, ap}
use Rattle.std.proofs.Common.{ap₂, subst, codes, decimal, Bor}
use Rattle.std.specs.Prelude.{is_some, All}
use Rattle.std.specs.List.{flat_map}
use Rattle.std.proofs.lemmas.Bool.{cases_Bool}
use Rattle.std.proofs.lemmas.List.{length-map}
use Rattle.std.proofs.lemmas.List.Elements.{All-head, All-tail, All-cons, All-weaker}
use Rattle.std.proofs.lemmas.List.Folds.{flat_map-map}
use Rattle.vab_disk.specs.Disk.{Image}
use Rattle.vab_bootctl.specs.declared.slots.Info.{Info}
use Rattle.vab_marks.specs.declared.mark.MarkPhase.{MarkPhase}
use Rattle.vab_marks.specs.declared.mark.MarkPhase.TheVariants as marks
use Rattle.vab_marks.specs.declared.mark.UpdateMark.{UpdateMark}
use Rattle.vab_model.specs.State.{info_seen}
use Rattle.vab_model.specs.declared.state.Image.{Image as ImageOfSlot}
use Rattle.vab_model.specs.declared.state.PlanEntry.{PlanEntry}
use Rattle.vab_device.specs.declared.device.Part.{Part}
use Rattle.vab_device.specs.declared.device.PartImage.{PartImage}
use Rattle.vab_device.specs.declared.device.PartImage.TheVariants.{Kept, Declared, Written}
use Rattle.vab_device.specs.declared.device.Device.{Device}
use Rattle.vab_device.specs.Kept.{IsPart, ArePresent, IsDevice, is_installing, kind_of, phase_kind}
use Rattle.vab_device.specs.Kept.{IsOverlay, parts_at}
use Rattle.vab_device.specs.Mounted.{state_on, images_on, image_on, sectors_read, entry_on}
use Rattle.vab_device.specs.Mounted.{entries_on, planned_on, phase_by, unplanned, count_at}
use Rattle.vab_device.specs.Mounted.{count_of, blocks_there, blocks_over, overlay_on}
use Rattle.vab_manager.proofs.SeenLaws.{read_long, read_on_disk}
use Rattle.vab_fbproto.specs.Texts.{slot_letter}
use Rattle.vab_fbvars.specs.Variables.{AreSectors}
use Rattle.vab_fbvars.proofs.OnDevice.{bytes_long}
use Rattle.vab_status.specs.Page as texts
use Rattle.vab_status.specs.Page.{line, is_before, put_by, by_name, page}
use Rattle.vab_status.specs.Kept as kept
use Rattle.vab_status.proofs.OrderLaws.{targets}

-- ---- lists by their names

module _ {A B : Type 0} (g : A → B) (name_of : B → List ℕ) where
  put_by-map : (x : A) (ys : List A)
      → put_by name_of (g x) (map g ys) ≡ map g (put_by (λ a. name_of (g a)) x ys)
  put_by-map x [] = refl
  put_by-map x (y ∷ ys) = elim (cases_Bool (is_before (name_of (g y)) (name_of (g x)))) [
    | inl h ↦ rw h (ap (λ (t : List B). g y ∷ t) (put_by-map x ys))
    | inr h ↦ rw h refl
  ]

  by_name-map : (xs : List A) → by_name name_of (map g xs) ≡ map g (by_name (λ a. name_of (g a)) xs)
  by_name-map [] = refl
  by_name-map (x ∷ xs) =
      ap (put_by name_of (g x)) (by_name-map xs)
      ∙ put_by-map x (by_name (λ a. name_of (g a)) xs)

module _ {A : Type 0} (P : A → Type 0) (name_of : A → List ℕ) where
  pub all_put : (x : A) (ys : List A) → P x → All P ys → All P (put_by name_of x ys)
  all_put x [] here all = All-cons P x [] here all
  all_put x (y ∷ ys) here all = elim (cases_Bool (is_before (name_of y) (name_of x))) [
    | inl h ↦ rw h
        (All-cons P y (put_by name_of x ys) (All-head P y ys all)
        (all_put x ys here (All-tail P y ys all)))
    | inr h ↦ rw h (All-cons P x (y ∷ ys) here all)
  ]

  all_by_name : (xs : List A) → All P xs → All P (by_name name_of xs)
  all_by_name [] all = all
  all_by_name (x ∷ xs) all =
      all_put x (by_name name_of xs) (All-head P x xs all) (all_by_name xs (All-tail P x xs all))

same_lines : {A : Type 0} (f g : A → List ℕ) (xs : List A)
    → All (λ x. f x ≡ g x) xs
    → flat_map f xs ≡ flat_map g xs
same_lines f g [] all = refl
same_lines f g (x ∷ xs) all =
    ap₂ (λ (a b : List ℕ). a ++ b)
    (All-head (λ x. f x ≡ g x) x xs all)
    (same_lines f g xs (All-tail (λ x. f x ≡ g x) x xs all))

-- the lines of what is made of each of these
lines_of : {A B : Type 0} (g : A → B) (name_of : B → List ℕ) (f : B → List ℕ) (h : A → List ℕ)
    (xs : List A)
    → All (λ x. f (g x) ≡ h x) xs
    → flat_map f (by_name name_of (map g xs))
    ≡ flat_map h (by_name (λ a. name_of (g a)) xs)
lines_of {A} g name_of f h xs all =
    let sorted : List A = by_name (λ a. name_of (g a)) xs in
    ap (flat_map f) (by_name-map g name_of xs)
    ∙ flat_map-map f g sorted
    ∙ same_lines (λ x. f (g x)) h sorted
    (all_by_name (λ x. f (g x) ≡ h x) (λ a. name_of (g a)) xs all)

-- ---- the size of a partition

-- partitions by their names are as small as any
pub small_by_name : (size : ℕ) (parts : List Part)
    → All (IsPart size) parts
    → kept.AreSmall (by_name (λ (p : Part). p.name) parts)
small_by_name size parts all =
    all_by_name (λ (p : Part). length p.map ≤ 2 ^ 28) (λ (p : Part). p.name) parts
    (All-weaker (IsPart size) (λ (p : Part). length p.map ≤ 2 ^ 28) (λ p is. is.small) parts all)

-- the same of references to them
pub small_sorted : (size : ℕ) (kept_parts : Option (List Part)) (parts slice : List Part)
    (sorted refs : List (Bor Part))
    → ArePresent size kept_parts
    → kept_parts ≡ Some parts
    → slice ≡ parts
    → targets sorted ≡ by_name (λ (p : Part). p.name) slice
    → refs ≡ sorted
    → kept.AreSmall (targets refs)
small_sorted size kept_parts parts slice sorted refs are is whole order same =
    let present = subst (ArePresent size) is are in
    let names : List Part → List Part = by_name (λ (p : Part). p.name) in
    subst kept.AreSmall (sym (ap targets same ∙ order ∙ ap names whole))
    (small_by_name size parts present.each)

-- ---- the images of a slot

module _ (image : Image) (size : ℕ) (whole : AreSectors size image) where
  -- the size of an image is that of its partition
  image_line_on : (slot : ℕ) (p : Part)
      → IsPart size p
      → texts.image_line slot (image_on image p) ≡ kept.image_line slot p
  image_line_on slot p is =
      ap (λ (n : ℕ). line (codes "image " ++ slot_letter slot ++ codes " " ++ p.name ++ codes " "
      ++ decimal n))
      (bytes_long image size (sectors_read p) whole (read_on_disk size p is)
      ∙ ap (λ (n : ℕ). 4096 * n) (read_long p))

  pub slot_on : (slot : ℕ) (info : Info) (parts : Option (List Part))
      → ArePresent size parts
      → texts.slot_page slot (info_seen (is_some parts) info) (images_on image parts)
      ≡ kept.slot_page slot info parts
  slot_on slot info None are = refl
  slot_on slot info (Some parts) are =
      ap₂ (λ (n : ℕ) (lines : List ℕ). texts.slot_line slot n info ++ lines)
      (length-map parts (image_on image))
      (lines_of (image_on image) (λ (i : ImageOfSlot). i.name) (texts.image_line slot)
      (kept.image_line slot) parts
      (All-weaker (IsPart size)
      (λ p. texts.image_line slot (image_on image p) ≡ kept.image_line slot p)
      (image_line_on slot) parts are.each))

-- ---- the partitions that are planned

module _ (image : Image) where
  word_on : (p : Part) (i : PartImage)
      → texts.plan_word (planned_on image p i) ≡ kept.plan_word i
  word_on p Kept = refl
  word_on p Declared = refl
  word_on p (Written k es) = refl

  plan_line_on : (p : Part) → texts.plan_line (entry_on image p) ≡ kept.plan_line p
  plan_line_on p =
      ap (λ (w : List ℕ). line (codes "plan " ++ p.name ++ codes " "
      ++ decimal (4096 * length p.map) ++ codes " " ++ w))
      (word_on p p.image)

  -- nothing is planned
  none_planned : (p : MarkPhase) (slot left : ℕ) → texts.plan_page (unplanned p slot left) ≡ []
  none_planned marks.Idle slot left = refl
  none_planned marks.Installing slot left = refl
  none_planned marks.Staged slot left = refl
  none_planned marks.Merging slot left = refl
  none_planned marks.Completed slot left = refl

  pub plan_on : (m : UpdateMark) (left : ℕ) (plan : Option (List Part))
      → texts.plan_page (phase_by m left (entries_on image plan)) ≡ kept.plan_page plan
  plan_on m left None = none_planned m.phase m.slot left
  plan_on m left (Some plan) =
      lines_of (entry_on image) (λ (e : PlanEntry). e.name) texts.plan_line kept.plan_line plan
      (λ k p lt. plan_line_on (get_or plan k p))

  -- ---- where an update stands

  phase_unplanned : (p : MarkPhase) (slot left : ℕ)
      → false ≡ is_installing p
      → texts.phase_line (unplanned p slot left) ≡ kept.phase_line (kind_of p slot) left
  phase_unplanned marks.Idle slot left is = refl
  phase_unplanned marks.Installing slot left is = absurd cc
  phase_unplanned marks.Staged slot left is = refl
  phase_unplanned marks.Merging slot left is = refl
  phase_unplanned marks.Completed slot left is = refl

  phase_planned : (p : MarkPhase) (slot left : ℕ)
      → true ≡ is_installing p
      → line (codes "phase installing") ≡ kept.phase_line (kind_of p slot) left
  phase_planned marks.Idle slot left is = absurd cc
  phase_planned marks.Installing slot left is = refl
  phase_planned marks.Staged slot left is = absurd cc
  phase_planned marks.Merging slot left is = absurd cc
  phase_planned marks.Completed slot left is = absurd cc

  pub phase_on : (m : UpdateMark) (left : ℕ) (plan : Option (List Part))
      → is_some plan ≡ is_installing m.phase
      → texts.phase_line (phase_by m left (entries_on image plan))
      ≡ kept.phase_line (kind_of m.phase m.slot) left
  phase_on m left None is = phase_unplanned m.phase m.slot left is
  phase_on m left (Some plan) is = phase_planned m.phase m.slot left is

-- ---- an overlay

-- the blocks that were written are those of the store's exceptions
written_on : (i : PartImage) → length (blocks_over i) ≡ count_of i
written_on Kept = refl
written_on Declared = refl
written_on (Written k es) = length-map es (λ e. e.old_chunk)

-- its partition is one of the disk's
overlaid_part : (size : ℕ) (parts : Option (List Part)) (p : Part)
    → IsOverlay size parts (Some p)
    → IsPart size p
overlaid_part size None p is = absurd is
overlaid_part size (Some parts) p is = is.part

pub small_overlay : (size : ℕ) (parts : Option (List Part)) (o : Option Part)
    → IsOverlay size parts o
    → kept.IsSmall o
small_overlay size parts None is = tt
small_overlay size parts (Some p) is = (overlaid_part size parts p is).small

pub overlay_line_on : (image : Image) (size : ℕ) (parts : Option (List Part)) (o : Option Part)
    → AreSectors size image
    → IsOverlay size parts o
    → texts.overlay_page (overlay_on image o) ≡ kept.overlay_page o
overlay_line_on image size parts None whole is = refl
overlay_line_on image size parts (Some p) whole is =
    let part = overlaid_part size parts p is in
    ap₂ (λ (n w : ℕ). line (codes "overlay " ++ p.name ++ codes " " ++ decimal n
    ++ codes " store " ++ decimal (length (blocks_there p.store))
    ++ codes " written " ++ decimal w))
    (bytes_long image size (sectors_read p) whole (read_on_disk size p part)
    ∙ ap (λ (n : ℕ). 4096 * n) (read_long p))
    (written_on p.image)

-- ---- the page

abbrev pub kept_page : Device → List ℕ
kept_page d =
    texts.cap_line d.cap
    ++ texts.current_line d.control.current
    ++ kept.phase_line (phase_kind d) (count_at d.a + count_at d.b)
    ++ kept.slot_page 0 d.control.a d.a
    ++ kept.slot_page 1 d.control.b d.b
    ++ kept.plan_page d.plan
    ++ kept.overlay_page d.overlay

pub page_on : (d : Device) (size : ℕ) (image : Image)
    → IsDevice d size
    → AreSectors size image
    → page (state_on d image) ≡ kept_page d
unfolding page state_on
page_on d size image is whole =
    let last : ℕ = d.tail.super_end in
    let inside : AreSectors last image = λ s below. whole s (omega (arith, below, is.ends)) in
    let left : ℕ = count_at d.a + count_at d.b in
    let join : List ℕ → List ℕ → List ℕ = λ a b. a ++ b in
    ap₂ join
    (ap₂ join
    (ap₂ join
    (ap₂ join
    (ap (join (texts.cap_line d.cap ++ texts.current_line d.control.current))
    (phase_on image d.mark left d.plan is.planned))
    (slot_on image last inside 0 d.control.a d.a is.parts_a))
    (slot_on image last inside 1 d.control.b d.b is.parts_b))
    (plan_on image d.mark left d.plan))
    (overlay_line_on image last (parts_at d d.mark.slot) d.overlay inside is.overlay)
