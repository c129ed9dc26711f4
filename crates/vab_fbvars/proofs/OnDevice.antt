-- The variables of a kept device.
use Rattle.std.proofs.Common.{◌≡◌, ◌∙◌, ℕ, ◌+◌, ◌*◌, ◌≤◌, ◌^◌, inl, inr, Bool, true, false, eqb}
use Rattle.std.proofs.Common.{List, [], ◌∷◌}
use Rattle.std.proofs.Common.{length, Option, Some, None, refl, sym, ap, subst, arith}
use Rattle.std.proofs.Common.{length-append}
use Rattle.std.proofs.Common.{Bor}
use Rattle.std.specs.Prelude.{◌==◌, ◌||◌, if◌then◌else◌, is_some, All, map, codes}
use Rattle.std.specs.Str.{bytes_eq}
use Rattle.std.specs.Option.{option_map, option_and_then, option_copied}
use Rattle.std.specs.List.{flat_map}
use Rattle.std.proofs.lemmas.Bool.{cases_Bool}
use Rattle.std.proofs.lemmas.List.Elements.{All-head, All-tail, All-weaker}
use Rattle.vab_disk.specs.Disk.{Image}
use Rattle.vab_gate.specs.Gate.{sectors_at}
use Rattle.vab_copies.proofs.CopyLaws.{length-sectors}
use Rattle.vab_bootctl.specs.declared.slots.Info.{Info}
use Rattle.vab_bootctl.specs.Boot.{info_at}
use Rattle.vab_model.specs.Plans.{entry_named}
use Rattle.vab_device.specs.declared.device.Part.{Part}
use Rattle.vab_device.specs.declared.device.Device.{Device}
use Rattle.vab_marks.specs.declared.mark.MarkPhase.{MarkPhase}
use Rattle.vab_marks.specs.declared.mark.MarkPhase.TheVariants as marks
use Rattle.vab_marks.specs.declared.mark.UpdateMark.{UpdateMark}
use Rattle.vab_device.specs.Kept.{IsPart, ArePresent, IsDevice, is_installing, kind_of, phase_kind}
use Rattle.vab_device.specs.Kept.{parts_at}
use Rattle.vab_device.specs.Mounted.{state_on, images_on, image_on, bytes_at, entry_on, entries_on}
use Rattle.vab_device.specs.Mounted.{phase_by, phase_on, unplanned, count_at}
use Rattle.vab_names.specs.Names.{is_full, base_of}
use Rattle.vab_layout.specs.Slots.{other_slot}
use Rattle.vab_fbvars.specs.Planned.{planned_named, kept_planned, bytes_planned}
use Rattle.vab_model.specs.State.{image_named, info_seen}
use Rattle.vab_manager.specs.Found.{part_named, as_read}
use Rattle.vab_manager.specs.Blocks.{part_read, image_at}
use Rattle.vab_manager.proofs.BlockLaws.{image_of_part}
use Rattle.vab_fbvars.specs.Variables.{slot_info, AreSectors, planned_in, entry_size, size_planned}
use Rattle.vab_fbvars.specs.Variables.{status_text, status_of}

-- ---- boot control

info_kept : (image : Image) (o : Option (List Part)) (i : Info)
    → option_map (λ _. info_seen (is_some o) i) (images_on image o) ≡ option_map (λ _. i) o
info_kept image None i = refl
info_kept image (Some parts) i = refl

-- what boot control says of a slot with images is what is kept of it
pub info_on : (d : Device) (image : Image) (slot : ℕ)
    → slot_info (state_on d image) slot
    ≡ option_map (λ _. info_at d.control slot) (if slot == 0 then d.a else d.b)
unfolding state_on
info_on d image slot = elim (cases_Bool (eqb slot 0)) [
  | inl h ↦ rw h (info_kept image d.a d.control.a)
  | inr h ↦ rw h (info_kept image d.b d.control.b)
]

-- ---- images

is_mapped : {A B : Type 0} (f : A → B) (o : Option A) → is_some (option_map f o) ≡ is_some o
is_mapped f None = refl
is_mapped f (Some x) = refl

in_parts : (image : Image) (base : List ℕ) (o : Option (List Part))
    → is_some (option_and_then (image_named base) (images_on image o))
    ≡ is_some (option_and_then (part_named base) o)
in_parts image base None = refl
in_parts image base (Some parts) =
    ap is_some (image_of_part image base parts)
    ∙ is_mapped (image_on image) (part_named base parts)

-- a slot has an image of a base name where a partition of that name is kept
pub base_on : (d : Device) (image : Image) (slot : ℕ) (base : List ℕ)
    → is_some (image_at (state_on d image) slot base)
    ≡ is_some (option_and_then (part_named base) (parts_at d slot))
unfolding state_on
base_on d image slot base = elim (cases_Bool (eqb slot 0)) [
  | inl h ↦ rw h (in_parts image base d.a)
  | inr h ↦ rw h (in_parts image base d.b)
]

copied_some : {A : Type 0} (o : Option (Bor A)) → is_some (option_copied o) ≡ is_some o
copied_some None = refl
copied_some (Some x) = refl

-- the same by the reference to it
pub base_kept : (d : Device) (image : Image) (slot : ℕ) (base : List ℕ) (o : Option (Bor Part))
    (b : Bool)
    → option_copied o ≡ part_read d slot base
    → b ≡ is_some o
    → is_some (image_at (state_on d image) slot base) ≡ b
base_kept d image slot base o b same is =
    base_on d image slot base
    ∙ sym
    (is_mapped (as_read d.overlay) (option_and_then (part_named base) (parts_at d slot)))
    ∙ ap is_some (sym same)
    ∙ copied_some o
    ∙ sym is

pub either : (x y a b : Bool) → x ≡ a → y ≡ b → (x || y) ≡ (a || b)
either x y a b p q = rw (p, q) refl

pub or_true : (x y : Bool) → x ≡ true → (x || y) ≡ true
or_true x y p = rw p refl

pub or_false : (x y b : Bool) → x ≡ false → y ≡ b → (x || y) ≡ b
or_false x y b p q = rw p q

-- ---- sizes

flat_long : (f : ℕ → List ℕ) (xs : List ℕ)
    → All (λ x. length (f x) ≡ 4096) xs
    → length (flat_map f xs) ≡ 4096 * length xs
flat_long f [] long = refl
flat_long f (x ∷ xs) long =
    let first : length (f x) ≡ 4096 = All-head (λ x. length (f x) ≡ 4096) x xs long in
    let more = flat_long f xs (All-tail (λ x. length (f x) ≡ 4096) x xs long) in
    omega (arith, length-append (f x) (flat_map f xs), first, more)

-- an image has the bytes of its blocks
pub bytes_long : (image : Image) (size : ℕ) (blocks : List ℕ)
    → AreSectors size image
    → All (λ s. s + 8 ≤ size) blocks
    → length (bytes_at image blocks) ≡ 4096 * length blocks
unfolding bytes_at
bytes_long image size blocks whole on_disk =
    flat_long (λ s. sectors_at 8 image s) blocks
    (All-weaker (λ s. s + 8 ≤ size) (λ s. length (sectors_at 8 image s) ≡ 4096)
    (λ s fits. length-sectors 8 image s (λ k lt. whole (s + k) (omega (arith, fits, lt))))
    blocks on_disk)

-- ---- the plan

-- what is told where nothing is planned
status_unplanned : (p : MarkPhase) (slot left : ℕ)
    → status_text (unplanned p slot left) ≡ status_of (kind_of p slot)
status_unplanned marks.Idle slot left = refl
status_unplanned marks.Installing slot left = refl
status_unplanned marks.Staged slot left = refl
status_unplanned marks.Merging slot left = refl
status_unplanned marks.Completed slot left = refl

-- and where an update is installed
status_planned : (p : MarkPhase) (slot : ℕ)
    → is_installing p ≡ true
    → codes "OKAYnone" ≡ status_of (kind_of p slot)
status_planned marks.Idle slot is = absurd cc
status_planned marks.Installing slot is = refl
status_planned marks.Staged slot is = absurd cc
status_planned marks.Merging slot is = absurd cc
status_planned marks.Completed slot is = absurd cc

status_by : (m : UpdateMark) (left : ℕ) (image : Image) (plan : Option (List Part))
    → is_some plan ≡ is_installing m.phase
    → status_text (phase_by m left (entries_on image plan)) ≡ status_of (kind_of m.phase m.slot)
status_by m left image None is = status_unplanned m.phase m.slot left
status_by m left image (Some plan) is = status_planned m.phase m.slot (sym is)

-- what is told of an update is what is kept of it
pub status_on : (d : Device) (size : ℕ) (image : Image)
    → IsDevice d size
    → status_text (phase_on d image) ≡ status_of (phase_kind d)
status_on d size image is =
    status_by d.mark (count_at d.a + count_at d.b) image d.plan is.planned

none_in : (p : MarkPhase) (slot left : ℕ) → planned_in (unplanned p slot left) ≡ []
none_in marks.Idle slot left = refl
none_in marks.Installing slot left = refl
none_in marks.Staged slot left = refl
none_in marks.Merging slot left = refl
none_in marks.Completed slot left = refl

no_size : (p : MarkPhase) (slot left : ℕ) (name : List ℕ)
    → size_planned (unplanned p slot left) name ≡ None
no_size marks.Idle slot left name = refl
no_size marks.Installing slot left name = refl
no_size marks.Staged slot left name = refl
no_size marks.Merging slot left name = refl
no_size marks.Completed slot left name = refl

entry_mapped : (image : Image) (base : List ℕ) (plan : List Part)
    → entry_named base (map (entry_on image) plan)
    ≡ option_map (entry_on image) (planned_named base plan)
entry_mapped image base [] = refl
entry_mapped image base (p ∷ ps) = elim (cases_Bool (bytes_eq p.name base)) [
  | inl h ↦ rw h refl
  | inr h ↦ rw h (entry_mapped image base ps)
]

-- the planned partition of a base name
entry_kept : (m : UpdateMark) (left : ℕ) (image : Image) (base : List ℕ) (plan : Option (List Part))
    → entry_named base (planned_in (phase_by m left (entries_on image plan)))
    ≡ option_map (entry_on image) (kept_planned base plan)
entry_kept m left image base None = ap (entry_named base) (none_in m.phase m.slot left)
entry_kept m left image base (Some plan) = entry_mapped image base plan

pub planned_on : (d : Device) (image : Image) (base : List ℕ)
    → is_some (entry_named base (planned_in (state_on d image).phase))
    ≡ is_some (kept_planned base d.plan)
unfolding state_on
planned_on d image base =
    ap is_some (entry_kept d.mark (count_at d.a + count_at d.b) image base d.plan)
    ∙ is_mapped (entry_on image) (kept_planned base d.plan)

size_mapped : (image : Image) (o : Option Part)
    → entry_size (option_map (entry_on image) o) ≡ bytes_planned o
size_mapped image None = refl
size_mapped image (Some p) = refl

none_by : (m : UpdateMark) (left : ℕ) (image : Image) (name : List ℕ) (plan : Option (List Part))
    → is_full (other_slot m.slot) name ≡ false
    → size_planned (phase_by m left (entries_on image plan)) name ≡ None
none_by m left image name None other = no_size m.phase m.slot left name
none_by m left image name (Some plan) other = rw other refl

pub none_planned : (d : Device) (image : Image) (name : List ℕ)
    → is_full (other_slot d.mark.slot) name ≡ false
    → size_planned (phase_on d image) name ≡ None
none_planned d image name other =
    none_by d.mark (count_at d.a + count_at d.b) image name d.plan other

some_by : (m : UpdateMark) (left : ℕ) (image : Image) (name : List ℕ) (plan : Option (List Part))
    → is_full (other_slot m.slot) name ≡ true
    → size_planned (phase_by m left (entries_on image plan)) name
    ≡ bytes_planned (kept_planned (base_of name) plan)
some_by m left image name None own = no_size m.phase m.slot left name
some_by m left image name (Some plan) own =
    rw own (ap entry_size (entry_mapped image (base_of name) plan)
    ∙ size_mapped image (planned_named (base_of name) plan))

pub some_planned : (d : Device) (image : Image) (name : List ℕ)
    → is_full (other_slot d.mark.slot) name ≡ true
    → size_planned (phase_on d image) name ≡ bytes_planned (kept_planned (base_of name) d.plan)
some_planned d image name own =
    some_by d.mark (count_at d.a + count_at d.b) image name d.plan own

-- the rules of a planned partition that was found
pub planned_small : (size : ℕ) (base : List ℕ) (plan : List Part) (p : Part)
    → All (IsPart size) plan
    → planned_named base plan ≡ Some p
    → length p.map ≤ 2 ^ 28
planned_small size base [] p each is = absurd cc
planned_small size base (q ∷ qs) p each is = elim (cases_Bool (bytes_eq q.name base)) [
  | inl h ↦
      let here : Some q ≡ Some p = rw h at is in
      let same : q ≡ p = cc in
      subst (λ (x : Part). length x.map ≤ 2 ^ 28) same (All-head (IsPart size) q qs each).small
  | inr h ↦
      planned_small size base qs p (All-tail (IsPart size) q qs each) (rw h at is)
]

pub kept_small : (size : ℕ) (base : List ℕ) (plan : Option (List Part)) (p : Part)
    → ArePresent size plan
    → kept_planned base plan ≡ Some p
    → length p.map ≤ 2 ^ 28
kept_small size base None p are is = absurd cc
kept_small size base (Some plan) p are is = planned_small size base plan p are.each is
