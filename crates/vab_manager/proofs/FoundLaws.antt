-- The partition under a name has the image under it.
use Rattle.std.proofs.Common.{◌≡◌, ℕ, inl, inr, List, Option, Some, None, Result, Ok, Err, refl, ap}
use Rattle.std.proofs.Common.{◌∙◌, sym, []}
use Rattle.std.specs.Prelude.{ok_or}
use Rattle.std.specs.Option.{option_map}
use Rattle.std.proofs.lemmas.Bool.{cases_Bool}
use Rattle.vab_disk.specs.Disk.{Image}
use Rattle.vab_bytes.specs.Name.{IsName}
use Rattle.vab_names.specs.Names.{is_full, base_of}
use Rattle.vab_model.specs.declared.command.Refusal.{Refusal}
use Rattle.vab_model.specs.declared.command.Refusal.TheVariants.{Unknown}
use Rattle.vab_model.specs.Commands.{Print, Digest}
use Rattle.vab_model.specs.Effects.{Found, Image_is, Refused_by, found_image, found_in, found_of}
use Rattle.vab_model.specs.Effects.{Effect, found_under, found_over}
use Rattle.vab_model.specs.declared.state.State.{State}
use Rattle.vab_model.specs.declared.state.Overlay.{Overlay}
use Rattle.vab_model.specs.Effects.{print_effect, digest_effect, effect_map}
use Rattle.vab_model.specs.Machine.{machine_effect}
use Rattle.vab_device.specs.declared.device.Part.{Part}
use Rattle.vab_device.specs.declared.device.Device.{Device}
use Rattle.vab_device.specs.Kept.{IsPart, IsDevice}
use Rattle.vab_device.specs.Mounted.{image_on, images_on, state_on, mounted_on, in_state, effect_in}
use Rattle.vab_manager.specs.Found.{part_named, part_in, part_under, found_part}
use Rattle.vab_manager.specs.Found as parts
use Rattle.vab_device.specs.Mounted.{overlay_on}
use Rattle.vab_model.proofs.Names.{full_is}
use Rattle.vab_manager.specs.Blocks.{slot_named}
use Rattle.vab_manager.proofs.BlockLaws.{found_keeps, found_full, part_kept, image_of_part}
use Rattle.vab_manager.proofs.BlockLaws.{under_keeps, as_image, slot_below}

-- what was found, as an image
abbrev pub found_by : Image → Result Part Refusal → Found
found_by image (Ok p) = Image_is (image_on image p)
found_by image (Err refusal) = Refused_by refusal

as_found : (image : Image) (o : Option Part)
    → found_image (option_map (image_on image) o) ≡ found_by image (ok_or o Unknown)
as_found image None = refl
as_found image (Some p) = refl

in_slot : (slot : ℕ) (image : Image) (name : List ℕ) (o : Option (List Part))
    → found_in slot [] (images_on image o) name ≡ found_by image (part_in name o)
in_slot slot image name None = refl
in_slot slot image name (Some ps) = ap found_image (image_of_part image (base_of name) ps)
    ∙ as_found image (part_named (base_of name) ps)

under_is : (d : Device) (image : Image) (name : List ℕ)
    → found_under (state_on d image) name ≡ found_by image (part_under d name)
unfolding state_on
under_is d image name = elim (cases_Bool (is_full 0 name)) [
  | inl h ↦ rw h (in_slot 0 image name d.a)
  | inr h ↦ elim (cases_Bool (is_full 1 name))
      [ inl k ↦ rw (h, k) (in_slot 1 image name d.b) | inr k ↦ rw (h, k) refl ]
]

over_is : (d : Device) (size : ℕ) (image : Image) (name : List ℕ) (found : Result Part Refusal)
    → IsDevice d size
    → part_under d name ≡ found
    → found_over (overlay_on image d.overlay) (found_by image found)
    ≡ found_by image (parts.found_over d.overlay found)
over_is d size image name (Ok p) is h =
    ap Image_is
    (as_image d size image (slot_named name) (base_of name) p is (slot_below name)
    (under_keeps d name p h))
over_is d size image name (Err refusal) is h = refl

-- the image under a name as it is read is that of the partition under it as it is read
pub found_is : (d : Device) (size : ℕ) (image : Image) (name : List ℕ)
    → IsDevice d size
    → found_of (state_on d image) name ≡ found_by image (found_part d name)
unfolding state_on
found_is d size image name is =
    ap (found_over (overlay_on image d.overlay)) (under_is d image name)
    ∙ over_is d size image name (part_under d name) is refl

-- ---- what is known of it

pub found_kept : (d : Device) (size : ℕ) (name : List ℕ) (p : Part)
    → IsDevice d size
    → found_part d name ≡ Ok p
    → IsPart size p
found_kept d size name p is h = part_kept d size (slot_named name) (base_of name) p is
    (found_keeps d name p h)

pub found_name : (d : Device) (name : List ℕ) (p : Part) → found_part d name ≡ Ok p → IsName name
found_name d name p h = full_is (slot_named name) name (found_full d name p h)

-- ---- the effects of questions

-- what is printed is asked of no bytes
print_over : (o : Option Overlay) (name : List ℕ) (found : Found)
    → (let over : Effect State = print_effect name (found_over o found) in
    over ≡ print_effect name found)
print_over o name (Image_is image) = refl
print_over o name (Refused_by refusal) = refl

print_read : (o : Option Part) (image : Image) (name : List ℕ) (found : Result Part Refusal)
    → (let read : Effect State = print_effect name (found_by image (parts.found_over o found)) in
    read ≡ print_effect name (found_by image found))
print_read o image name (Ok p) = refl
print_read o image name (Err refusal) = refl

pub print_is : (d : Device) (image : Image) (name : List ℕ) (found : Result Part Refusal)
    → found_part d name ≡ found
    → effect_in (mounted_on d image) None (Print name)
    ≡ effect_map (in_state (mounted_on d image)) (print_effect name (found_by image found))
unfolding machine_effect state_on
print_is d image name found is =
    ap (effect_map (in_state (mounted_on d image)))
    (print_over (overlay_on image d.overlay) name (found_under (state_on d image) name)
    ∙ ap (print_effect name) (under_is d image name)
    ∙ sym (print_read d.overlay image name (part_under d name))
    ∙ ap (λ (f : Result Part Refusal). print_effect name (found_by image f)) is)

pub digest_is : (d : Device) (size : ℕ) (image : Image) (name : List ℕ)
    (found : Result Part Refusal)
    → IsDevice d size
    → found_part d name ≡ found
    → effect_in (mounted_on d image) None (Digest name)
    ≡ effect_map (in_state (mounted_on d image)) (digest_effect (found_by image found))
unfolding machine_effect
digest_is d size image name found kept is =
    ap (λ (f : Found). effect_map (in_state (mounted_on d image)) (digest_effect f))
    (found_is d size image name kept ∙ ap (found_by image) is)
