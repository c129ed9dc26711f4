-- What the table of effects says of commands on slots, by the boot control that is kept.
use Rattle.std.proofs.Common.{◌≡◌, ◌∙◌, ℕ, inl, inr, Bool, true, false, eqb, List, Option, Some}
use Rattle.std.proofs.Common.{None, refl, sym, ap}
use Rattle.std.specs.Prelude.{◌==◌, if◌then◌else◌, is_some}
use Rattle.std.proofs.lemmas.Bool.{cases_Bool}
use Rattle.vab_disk.specs.Disk.{Image}
use Rattle.vab_bootctl.specs.declared.slots.Control.{Control}
use Rattle.vab_bootctl.specs.Boot.{activated_of, booted_of, marked_of}
use Rattle.vab_model.specs.declared.state.State.{State}
use Rattle.vab_model.specs.declared.command.Refusal.TheVariants.{NoImages}
use Rattle.vab_model.specs.declared.command.Reply.TheVariants as replies
use Rattle.vab_model.specs.Commands.{SetActive, Boot, Mark}
use Rattle.vab_model.specs.Effects.{Effect, effect_map, active_effect, does, refuses}
use Rattle.vab_model.specs.Machine.{machine_effect}
use Rattle.vab_model.specs.State.{images_at, has_images, control_seen, with_control}
use Rattle.vab_model.proofs.SeenLaws.{seen_activated, seen_marked, seen_booted}
use Rattle.vab_device.specs.declared.device.Part.{Part}
use Rattle.vab_device.specs.declared.device.Device.{Device}
use Rattle.vab_device.specs.Mounted.{Mounted, images_on, control_on, state_on, mounted_on, in_state}
use Rattle.vab_device.specs.Updates.{effect_on}
use Rattle.vab_manager.specs.Controls.{slots_with_images, GivesControl}

pub some_images : (image : Image) (parts : Option (List Part))
    → is_some (images_on image parts) ≡ is_some parts
some_images image None = refl
some_images image (Some parts) = refl

has_at : (d : Device) (image : Image) (slot : ℕ)
    → is_some (images_at (state_on d image) slot) ≡ is_some (if slot == 0 then d.a else d.b)
unfolding state_on
has_at d image slot = elim (cases_Bool (eqb slot 0)) [
  | inl h ↦ rw h (some_images image d.a)
  | inr h ↦ rw h (some_images image d.b)
]

pub is_some_at : (a b : Option (List Part)) (slot : ℕ)
    → is_some (if slot == 0 then a else b) ≡ (if slot == 0 then is_some a else is_some b)
is_some_at a b slot = elim (cases_Bool (eqb slot 0)) [ inl h ↦ rw h refl | inr h ↦ rw h refl ]

has_both : (d : Device) (image : Image) → has_images (state_on d image) ≡ slots_with_images d
unfolding state_on
has_both d image = rw (some_images image d.a, some_images image d.b) refl

control_is : (d : Device) (image : Image) → (state_on d image).control ≡ control_on d
unfolding state_on
control_is d image = refl

mapped : (m : Mounted) (e f : Effect State)
    → e ≡ f
    → effect_map (in_state m) e ≡ effect_map (in_state m) f
mapped m e f same = ap (effect_map (in_state m)) same

-- ---- a slot is set active

pub activated_effect : (d : Device) (image : Image) (staged : Option (List ℕ)) (slot : ℕ)
    → is_some (if slot == 0 then d.a else d.b) ≡ true
    → GivesControl d image staged (SetActive slot) replies.Done (activated_of d.control slot)
unfolding machine_effect
activated_effect d image staged slot has =
    let s : State = state_on d image in
    let there : is_some (images_at s slot) ≡ true = has_at d image slot ∙ has in
    let seen : activated_of (control_on d) slot
    ≡ control_seen (is_some d.a) (is_some d.b) (activated_of d.control slot) =
    seen_activated (is_some d.a) (is_some d.b) d.control slot
    (sym (is_some_at d.a d.b slot) ∙ has) in
    mapped (mounted_on d image) _ _
    (ap (λ (b : Bool). active_effect b s (activated_of s.control slot)) there
    ∙ ap (λ (c : Control). active_effect true s (activated_of c slot)) (control_is d image)
    ∙ ap (λ (c : Control). active_effect true s c) seen)

pub refused_effect : (d : Device) (image : Image) (staged : Option (List ℕ)) (slot : ℕ)
    → is_some (if slot == 0 then d.a else d.b) ≡ false
    → effect_on (mounted_on d image) staged (SetActive slot) ≡ refuses NoImages
unfolding machine_effect
refused_effect d image staged slot none =
    let s : State = state_on d image in
    mapped (mounted_on d image) _ _
    (ap (λ (b : Bool). active_effect b s (activated_of s.control slot))
    (has_at d image slot ∙ none))

-- ---- the current slot, which has images, is marked

pub marked_effect : (d : Device) (image : Image) (staged : Option (List ℕ))
    → (if d.control.current == 0 then is_some d.a else is_some d.b) ≡ true
    → GivesControl d image staged Mark replies.Done (marked_of d.control)
unfolding machine_effect
marked_effect d image staged has =
    let s : State = state_on d image in
    mapped (mounted_on d image) _ _
    (ap (λ (c : Control). (let e : Effect State =
    does replies.Done (with_control (marked_of c) s) in e))
    (control_is d image)
    ∙ ap (λ (c : Control). (let e : Effect State = does replies.Done (with_control c s) in e))
    (seen_marked (is_some d.a) (is_some d.b) d.control has))

-- ---- a slot is booted

abbrev booting : State → Control → Effect State
booting s c = does (replies.Booted c.current) (with_control c s)

pub booted_effect : (d : Device) (image : Image) (staged : Option (List ℕ))
    → GivesControl d image staged Boot
    (replies.Booted (booted_of d.control (slots_with_images d)).current)
    (booted_of d.control (slots_with_images d))
unfolding machine_effect
booted_effect d image staged =
    let s : State = state_on d image in
    mapped (mounted_on d image) _ _
    (ap (λ (c : Control). booting s (booted_of c (has_images s))) (control_is d image)
    ∙ ap (λ (h : List Bool). booting s (booted_of (control_on d) h)) (has_both d image)
    ∙ ap (booting s) (seen_booted (is_some d.a) (is_some d.b) d.control))
