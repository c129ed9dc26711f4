-- A target that stands apart has what was written, and nothing of the source's.
use Rattle.std.proofs.Common.{◌≡◌, ◌∙◌, inl, inr, ℕ, true, false, List, [], ◌∷◌, Option, Some}
use Rattle.std.proofs.Common.{None, refl, sym, ap, subst, eqb}
use Rattle.std.specs.Prelude.{Bool, map, All, Contains}
use Rattle.std.proofs.lemmas.Bool.{cases_Bool}
use Rattle.std.proofs.lemmas.List.Elements.{All-nil, All-cons, All-head, All-tail, All-contains}
use Rattle.vab_disk.specs.Disk.{Image}
use Rattle.vab_layout.specs.declared.layout.Part.{Part as PartOfLayout}
use Rattle.vab_layout.specs.declared.layout.Layout.{Layout}
use Rattle.vab_layout.specs.Slots.{other_slot, own_parts, twins_by, is_updated, IsTargetPartBeside}
use Rattle.vab_blocks.proofs.Contained.{first, later}
use Rattle.vab_model.specs.declared.state.Image.{Image as ImageOfSlot}
use Rattle.vab_model.specs.declared.state.PlanImage.{PlanImage}
use Rattle.vab_model.specs.declared.state.PlanImage.TheVariants.{Kept, Declared, Written}
use Rattle.vab_model.specs.declared.state.Plan.{Plan}
use Rattle.vab_model.specs.declared.state.PlanEntry.{PlanEntry}
use Rattle.vab_model.specs.declared.state.Phase.TheVariants.{Installing}
use Rattle.vab_model.specs.declared.state.State.{State}
use Rattle.vab_model.specs.declared.command.Reply.TheVariants as replies
use Rattle.vab_model.specs.Commands.{Finish}
use Rattle.vab_model.specs.Effects.{Effect, after_of}
use Rattle.vab_model.specs.State.{images_at}
use Rattle.vab_model.specs.Machine.{with_images, least_missing}
use Rattle.vab_device.specs.Mounted.{Mounted}
use Rattle.vab_device.specs.Reading.{IsIn}
use Rattle.vab_device.specs.Updates.{effect_on, finish_effect, complete_effect, final_image}
use Rattle.vab_device.specs.Updates.{image_or, if_written, written_of, entry_by}
use Rattle.vab_targets.specs.Sectors.{HasWholeSectors}
use Rattle.vab_targets.specs.Written.{IsOwnImage, written_image}
use Rattle.vab_targets.proofs.ApartLaws.{apart_updated}
use Rattle.vab_targets.proofs.Installed.{IsInstalled, is_installed}

-- ---- entries

own_written : (image : PlanImage) → IsOwnImage (image_or true (if_written image))
own_written Kept = tt
own_written Declared = tt
own_written (Written bytes exceptions) = tt

own_or : (updated : Bool) (e : Option PlanEntry)
    → updated ≡ true
    → IsOwnImage (image_or updated (written_of e))
own_or true None is = tt
own_or true (Some e) is = own_written e.image
own_or false e is = absurd cc

own_entries : (l : Layout) (plan : List PlanEntry) (parts : List PartOfLayout)
    → ((p : PartOfLayout) → Contains parts p → is_updated p ≡ true)
    → All (λ (e : PlanEntry). IsOwnImage e.image) (map (entry_by l plan) parts)
own_entries l plan [] updated = All-nil (λ (e : PlanEntry). IsOwnImage e.image)
own_entries l plan (p ∷ ps) updated =
    All-cons (λ (e : PlanEntry). IsOwnImage e.image) (entry_by l plan p) (map (entry_by l plan) ps)
    (own_or (is_updated p) _ (updated p (first p ps)))
    (own_entries l plan ps (λ q c. updated q (later p ps q c)))

-- ---- a device

pub keeps_nothing : (size : ℕ) (image : Image) (m : Mounted) (source : ℕ) (plan : Plan)
    → HasWholeSectors size image
    → IsIn size m image
    → m.state.phase ≡ Installing source plan
    → plan.apart ≡ true
    → All (λ (e : PlanEntry). IsOwnImage e.image) plan.entries
keeps_nothing size image m source plan whole is phase apart =
    let i : IsInstalled m source plan = is_installed size image m source plan whole is phase in
    let slot : ℕ = other_slot source in
    let rule : (p : PartOfLayout)
    → Contains (own_parts slot i.t.parts) p
    → IsTargetPartBeside slot [] i.s.parts i.t.parts p =
    (λ p c.
    All-contains (IsTargetPartBeside slot [] i.s.parts i.t.parts) (own_parts slot i.t.parts) p
    (subst (λ (b : Bool).
    All (IsTargetPartBeside slot (twins_by b i.s.parts) i.s.parts i.t.parts)
    (own_parts slot i.t.parts)) apart i.update.parts.each) c) in
    subst (All (λ (e : PlanEntry). IsOwnImage e.image)) (sym i.again)
    (own_entries i.t plan.entries (own_parts slot i.t.parts)
    (λ p c. ((apart_updated slot i.s.parts i.t.parts p).0 (rule p c)).1))

-- ---- the end

final_written : (s : State) (source : ℕ) (name : List ℕ) (group : Option (List ℕ)) (blocks : ℕ)
    (store : Option ℕ) (image : PlanImage)
    → IsOwnImage image
    → (let e : PlanEntry = record {
      name = name;
      group = group;
      blocks = blocks;
      store = store;
      image = image;
    } in final_image s source e ≡ written_image e)
final_written s source name group blocks store Kept own = absurd own
final_written s source name group blocks store Declared own = refl
final_written s source name group blocks store (Written bytes exceptions) own = refl

all_written : (s : State) (source : ℕ) (es : List PlanEntry)
    → All (λ (e : PlanEntry). IsOwnImage e.image) es
    → map (final_image s source) es ≡ map written_image es
all_written s source [] own = refl
all_written s source (e ∷ es) own =
    let Own : PlanEntry → Type 0 = λ (e : PlanEntry). IsOwnImage e.image in
    let here = final_written s source e.name e.group e.blocks e.store e.image
    (All-head Own e es own) in
    let rest = all_written s source es (All-tail Own e es own) in
    (λ i. here i ∷ rest i)

given : (s : State) (slot : ℕ) (images : List ImageOfSlot)
    → images_at (with_images s slot images) slot ≡ Some images
given s slot images = elim (cases_Bool (eqb slot 0)) [
  | inl is ↦ rw is refl
  | inr not ↦ rw not refl
]

completed : (m : Mounted) (source : ℕ) (plan : Plan) (least : Option (List ℕ))
    → map (final_image m.state source) plan.entries ≡ map written_image plan.entries
    → (complete_effect m source plan least).reply ≡ replies.Done
    → images_at (after_of m (complete_effect m source plan least)).state (other_slot source)
    ≡ Some (map written_image plan.entries)
completed m source plan None same done =
    given m.state (other_slot source)
    (map (final_image m.state source) plan.entries)
    ∙ ap Some same
completed m source plan (Some name) same done = absurd cc

pub finish_gives : (size : ℕ) (image : Image) (m : Mounted) (staged : Option (List ℕ)) (source : ℕ)
    (plan : Plan)
    → HasWholeSectors size image
    → IsIn size m image
    → m.state.phase ≡ Installing source plan
    → plan.apart ≡ true
    → (effect_on m staged Finish).reply ≡ replies.Done
    → images_at (after_of m (effect_on m staged Finish)).state (other_slot source)
    ≡ Some (map written_image plan.entries)
finish_gives size image m staged source plan whole is phase apart done =
    let effect : finish_effect m m.state.phase
    ≡ complete_effect m source plan (least_missing m.state source plan) =
    ap (finish_effect m) phase in
    let same = all_written m.state source plan.entries
    (keeps_nothing size image m source plan whole is phase apart) in
    ap (λ (e : Effect Mounted). images_at (after_of m e).state (other_slot source)) effect
    ∙ completed m source plan (least_missing m.state source plan) same
    (ap (λ (e : Effect Mounted). e.reply) (sym effect) ∙ done)
