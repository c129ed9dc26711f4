-- The images of a plan: those of the source, and what was written.
use Rattle.std.proofs.Common.{◌≡◌, ◌∙◌, inl, inr, ⊎_elim, ℕ, ◌<◌, ◌+◌, true, false, List, []}
use Rattle.std.proofs.Common.{◌∷◌, refl, sym, ap, arith}
use Rattle.std.specs.Prelude.{Bool, Option, Some, None, map, All}
use Rattle.std.specs.Str.{bytes_eq}
use Rattle.std.proofs.lemmas.Bool.{cases_Bool, and_parts}
use Rattle.std.proofs.lemmas.List.Elements.{All-head, All-tail}
use Rattle.vab_disk.specs.Disk.{Image}
use Rattle.vab_names.specs.Names.{is_of_slot, base_of, in_slot}
use Rattle.vab_layout.specs.declared.layout.Part.{Part as PartOfLayout}
use Rattle.vab_layout.specs.declared.layout.Layout.{Layout}
use Rattle.vab_layout.specs.Slots.{other_slot, own_parts, blocks_named, before_of, is_updated}
use Rattle.vab_layout.specs.Slots.{twins_by, IsTargetPartBeside}
use Rattle.vab_names.proofs.NameCases.{ne_name, in_slot_is}
use Rattle.vab_model.specs.declared.state.State.{State}
use Rattle.vab_model.specs.State.{image_named}
use Rattle.vab_model.specs.Plans.{bytes_or_none, images_of}
use Rattle.vab_model.specs.Machine.{exceptions_in, exceptions_of, final_bytes}
use Rattle.vab_device.specs.declared.device.PartImage.{PartImage}
use Rattle.vab_device.specs.declared.device.Part.{Part}
use Rattle.vab_device.specs.Kept.{sectors_of, part_on}
use Rattle.vab_device.specs.Mounted.{bytes_at, image_on, entry_on, sectors_by, count_in, count_of}
use Rattle.vab_device.specs.Mounted as mounted
use Rattle.vab_device.specs.Phases.{planned_on, planned_image, is_ready, are_ready}
use Rattle.vab_device.specs.Stores.{Scanned, scanned_named}
use Rattle.vab_device.specs.Flashed.{source_bytes}
use Rattle.vab_device.specs.Updates.{final_image}
use Rattle.vab_flash.proofs.SourceLaws.{full_or}

-- ---- the source's image

-- the image of a base name is that of the table's partition of the whole name
pub source_named : (image : Image) (at slot : ℕ) (name : List ℕ) (ps : List PartOfLayout)
    → bytes_or_none (image_named (base_of name)
    (map (image_on image) (map (part_on at) (own_parts slot ps))))
    ≡ bytes_at image (sectors_of at (blocks_named (in_slot slot name) ps))
unfolding bytes_at sectors_of
source_named image at slot name [] = refl
source_named image at slot name (p ∷ ps) = elim (cases_Bool (is_of_slot slot p.name)) [
  | inl of ↦
      let tests = full_or slot name p of in
      elim (cases_Bool (bytes_eq p.name (in_slot slot name))) [
        | inl here ↦ let base = tests ∙ here in rw of (rw (base, here) refl)
        | inr other ↦
            let base = tests ∙ other in
            rw of (rw (base, other) (source_named image at slot name ps))
      ]
  | inr not_own ↦
      let other : bytes_eq p.name (in_slot slot name) ≡ false =
      ne_name p.name (in_slot slot name)
      (λ e.
      let of : is_of_slot slot p.name ≡ true = ap (is_of_slot slot) e ∙ in_slot_is slot name in
      absurd (let bad : false ≡ true = sym not_own ∙ of in cc)) in
      rw (not_own, other) (source_named image at slot name ps)
]

-- ---- the images of the plan

-- a partition that isn't updated has the blocks of the source's of the same base name
kept_blocks : (apart : Bool) (slot : ℕ) (source target : List PartOfLayout) (p : PartOfLayout)
    → IsTargetPartBeside slot (twins_by apart source) source target p
    → is_updated p ≡ false
    → p.blocks ≡ before_of slot source p.name
kept_blocks false slot source target p rule same =
    ⊎_elim
    (λ updated. absurd (let no : true ≡ false = sym updated ∙ same in cc))
    (λ kept. kept.1) rule.kept
kept_blocks true slot source target p rule same =
    ⊎_elim
    (λ updated. absurd (let no : true ≡ false = sym updated ∙ same in cc))
    (λ kept. absurd (omega (arith, kept.0.2))) rule.kept

module _
    (apart : Bool) (slot : ℕ) (source : Layout) (target : Layout) (scanned : List Scanned)
    (s : State) (image : Image)
    (below : slot < 2)
    (first : source.device.first_logical_sector ≡ target.device.first_logical_sector)
    (named : (name : List ℕ)
    → source_bytes s slot (base_of name)
    ≡ bytes_at image (sectors_of source.device.first_logical_sector
    (blocks_named (in_slot slot name) source.parts))) where
  abbrev Rule : PartOfLayout → Type 0
  Rule p =
      IsTargetPartBeside (other_slot slot) (twins_by apart source.parts) source.parts target.parts
      p

  kept_bytes : (p : PartOfLayout)
      → Rule p
      → is_updated p ≡ false
      → source_bytes s slot (base_of p.name)
      ≡ bytes_at image (sectors_of target.device.first_logical_sector p.blocks)
  kept_bytes p rule same =
      let back : other_slot (other_slot slot) ≡ slot = omega (arith, below) in
      let at = target.device.first_logical_sector in
      named p.name
      ∙ ap (λ (n : ℕ). bytes_at image
      (sectors_of n (blocks_named (in_slot slot p.name) source.parts)))
      first
      ∙ ap (λ (n : ℕ). bytes_at image
      (sectors_of at (blocks_named (in_slot n p.name) source.parts)))
      (sym back)
      ∙ ap (λ (bs : List ℕ). bytes_at image (sectors_of at bs))
      (sym (kept_blocks apart (other_slot slot) source.parts target.parts p rule same))

  abbrev Bytes : PartOfLayout → PartImage → Type 0
  Bytes p x =
      final_bytes (images_of s slot) (base_of p.name)
      (mounted.planned_on image (planned_on target scanned p) x)
      ≡ bytes_at image (sectors_by (planned_on target scanned p) x)

  bytes_by : (p : PartOfLayout) (b : Bool) (x : Option Scanned)
      → Rule p
      → is_updated p ≡ b
      → is_ready (planned_image b x) ≡ true
      → Bytes p (planned_image b x)
  bytes_by p false x rule is ready = kept_bytes p rule is
  bytes_by p true None rule is ready = absurd cc
  bytes_by p true (Some es) rule is ready = refl

  final_one : (p : PartOfLayout)
      → Rule p
      → is_ready (planned_on target scanned p).image ≡ true
      → final_image s slot (entry_on image (planned_on target scanned p))
      ≡ image_on image (planned_on target scanned p)
  final_one p rule ready =
      let bytes = bytes_by p (is_updated p) (scanned_named p.name scanned) rule refl ready in
      (λ i. record {
        name = base_of p.name;
        group = Rattle.vab_device.specs.Kept.group_of p.group;
        bytes = bytes i;
      })

  pub final_all : (ps : List PartOfLayout)
      → All Rule ps
      → are_ready (map (planned_on target scanned) ps) ≡ true
      → map (final_image s slot) (map (entry_on image) (map (planned_on target scanned) ps))
      ≡ map (image_on image) (map (planned_on target scanned) ps)
  final_all [] rules ready = refl
  final_all (p ∷ ps) rules ready =
      let both = and_parts (is_ready (planned_on target scanned p).image)
      (are_ready (map (planned_on target scanned) ps)) ready in
      let here = final_one p (All-head Rule p ps rules) both.0 in
      let rest = final_all ps (All-tail Rule p ps rules) both.1 in
      (λ i. here i ∷ rest i)

-- ---- how much is left

pub count_plain : (at : ℕ) (ps : List PartOfLayout) → count_in (map (part_on at) ps) ≡ 0
count_plain at [] = refl
count_plain at (p ∷ ps) = omega (arith, count_plain at ps)

count_one : (image : Image) (p : Part) (x : PartImage)
    → exceptions_of (mounted.planned_on image p x) ≡ count_of x
count_one image p Rattle.vab_device.specs.declared.device.PartImage.TheVariants.Kept = refl
count_one image p Rattle.vab_device.specs.declared.device.PartImage.TheVariants.Declared = refl
count_one image p (Rattle.vab_device.specs.declared.device.PartImage.TheVariants.Written k es) =
    refl

pub count_planned : (image : Image) (ps : List Part)
    → exceptions_in (map (entry_on image) ps) ≡ count_in ps
count_planned image [] = refl
count_planned image (p ∷ ps) =
    let here = count_one image p p.image in
    let rest = count_planned image ps in
    (λ i. here i + rest i)
