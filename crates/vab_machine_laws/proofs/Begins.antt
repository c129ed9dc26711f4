-- The rows of a begin and of a factory install's.
use Rattle.std.proofs.Common.{◌≡◌, ◌∙◌, ℕ, Bool, true, false, List, Ok, inl, refl}
use Rattle.std.proofs.Common.{sym, ap, subst}
use Rattle.std.specs.Prelude.{Option, Some, None}
use Rattle.vab_disk.specs.Disk.{Image}
use Rattle.vab_layout.specs.declared.layout.Layout.{Layout}
use Rattle.vab_layout.specs.Plain.{plain}
use Rattle.vab_builder.specs.Import.{imported_by}
use Rattle.vab_model.specs.declared.state.Image.{Image as ImageOfSlot}
use Rattle.vab_model.specs.declared.state.Plan.{Plan}
use Rattle.vab_model.specs.declared.state.Phase.{Phase}
use Rattle.vab_model.specs.declared.state.Phase.TheVariants.{Idle, Installing, Staged, Merging}
use Rattle.vab_model.specs.declared.state.Overlay.{Overlay}
use Rattle.vab_model.specs.Commands.{Begin, Factory}
use Rattle.vab_model.specs.Effects.{if_plain}
use Rattle.vab_model.specs.State.{images_at}
use Rattle.vab_model.specs.Plans.{begun_plan}
use Rattle.vab_model.specs.Machine.{begun, begin_row, machine_effect, planned}
use Rattle.vab_device.specs.Mounted.{Mounted}
use Rattle.vab_device.specs.Reading.{IsIn}
use Rattle.vab_device.specs.Updates.{effect_on, no_entries, begun_effect, begin_effect, layout_at}
use Rattle.vab_targets.specs.Sectors.{HasWholeSectors}
use Rattle.vab_targets.proofs.Plans.{BeginKeepsImages, begin_of, with_plan}
use Rattle.vab_targets.proofs.Begun.{begin_is}
use Rattle.vab_machine_laws.specs.Edits.{IsMachinesOrFull, IsTheMachinesOrFull}
use Rattle.vab_machine_laws.proofs.Given.{Follows, judged}
use Rattle.vab_machine_laws.proofs.Sources.{has_idle}

-- the images that a begin keeps are those of the slot
kept_images : (images other : List ImageOfSlot) → Some images ≡ Some other → images ≡ other
kept_images images other same = cc

module _ (law : BeginKeepsImages)
    (size : ℕ) (image : Image) (m : Mounted) (staged : Option (List ℕ)) (apart : Bool)
    (whole : HasWholeSectors size image)
    (is : IsIn size m image) where
  abbrev slot : ℕ
  slot = m.state.control.current

  begun_is : m.state.phase ≡ Idle
      → m.state.overlay ≡ None
      → IsMachinesOrFull m.places.geometry.max
      (begun_effect m apart slot (layout_at m.places slot))
      (begun m.state apart (images_at m.state slot))
  begun_is phase none =
      let h = has_idle size image m whole is phase none in
      let given : Layout = imported_by apart slot (plain slot h.l) in
      let next : Plan = begun_plan apart h.pictures in
      let same : effect_on m staged (begin_of apart)
      ≡ begun_effect m apart slot (Some (plain slot h.l)) =
      sym (begin_is m staged apart)
      ∙ ap (λ (o : Option Overlay). if_plain o (begin_effect m apart m.state.phase)) none
      ∙ ap (begin_effect m apart) phase
      ∙ ap (begun_effect m apart slot) h.from in
      let follows : Follows m slot next (begun_effect m apart slot (Some (plain slot h.l))) =
      subst (Follows m slot next) same (λ done.
      let kept = law size image m staged apart whole is done in
      let images = kept_images kept.0 h.pictures (sym kept.1 ∙ h.images) in
      kept.2
      ∙ ap (λ (x : List ImageOfSlot). with_plan m.state slot (begun_plan apart x)) images) in
      let done = judged m slot (no_entries apart) next m.places.geometry.max (Ok given)
      (planned m.state slot next) follows refl in
      subst (λ (o : Option Layout). IsMachinesOrFull m.places.geometry.max
      (begun_effect m apart slot o)
      (begun m.state apart (images_at m.state slot))) (sym h.from)
      (subst (λ (o : Option (List ImageOfSlot)). IsMachinesOrFull m.places.geometry.max
      (begun_effect m apart slot (Some (plain slot h.l))) (begun m.state apart o)) (sym h.images)
      done)

  begin_by : (phase : Phase)
      → m.state.phase ≡ phase
      → m.state.overlay ≡ None
      → IsMachinesOrFull m.places.geometry.max (begin_effect m apart phase)
      (begin_row m.state apart phase)
  begin_by Idle phase none = begun_is phase none
  begin_by (Installing source plan) phase none = inl refl
  begin_by (Staged source left) phase none = inl refl
  begin_by (Merging target left) phase none = inl refl

  pub begin_over : (o : Option Overlay)
      → m.state.overlay ≡ o
      → IsMachinesOrFull m.places.geometry.max
      (if_plain o (begin_effect m apart m.state.phase))
      (if_plain o (begin_row m.state apart m.state.phase))
  begin_over None over = begin_by m.state.phase refl over
  begin_over (Some o) over = inl refl

pub update_is : BeginKeepsImages → IsTheMachinesOrFull Begin
unfolding machine_effect
update_is law size image m staged whole is =
    begin_over law size image m staged false whole is m.state.overlay refl

pub factory_is : BeginKeepsImages → IsTheMachinesOrFull Factory
unfolding machine_effect
factory_is law size image m staged whole is =
    begin_over law size image m staged true whole is m.state.overlay refl
