-- A wipe that is done leaves the current slot with empty images, and one that isn't keeps all.
use Rattle.std.proofs.Common.{◌≡◌, ◌≢◌, ◌∙◌, ◌⊎◌, inl, inr, ℕ, ◌<◌, List, [], ◌∷◌, Option}
use Rattle.std.proofs.Common.{refl, sym, subst}
use Rattle.vab_disk.specs.Disk.{Image}
use Rattle.vab_layout.specs.Layout.{layout_of}
use Rattle.vab_layout.specs.Slots.{own_parts}
use Rattle.vab_super_image.specs.declared.image.SuperImage.{SuperImage}
use Rattle.vab_model.specs.declared.command.Reply.{Reply}
use Rattle.vab_model.specs.declared.command.Reply.TheVariants as replies
use Rattle.vab_model.specs.Commands.{UpdateSuper}
use Rattle.vab_model.specs.declared.command.Refusal.TheVariants as refusals
use Rattle.vab_model.specs.Effects.{Effect, IsOneOf, steps_of, after_of, last_of}
use Rattle.vab_device.specs.Mounted.{Mounted}
use Rattle.vab_device.specs.Reading.{IsIn}
use Rattle.vab_device.specs.Updates.{effect_on, update_super, wiped}
use Rattle.vab_session.proofs.OverlayLaws.{if_either}
use Rattle.vab_session.proofs.WipeLaws.{IsDone, wipe_comes, wiped_has, wiped_beside, wiped_stays}
use Rattle.vab_session.proofs.WipeLaws.{all_empty}
use Rattle.vab_boots.specs.Wiped.{HasEmpty, IsWipedBy}
use Rattle.vab_boots.proofs.Begins.{refused_not}
use Rattle.vab_boots.proofs.Facts.{facts_of}

has_empty : (m : Mounted) (slot : ℕ) (i : SuperImage)
    → slot < 2
    → HasEmpty slot i m (wiped m slot i)
has_empty m slot i below =
    let stays = wiped_stays m.state i slot in
    record {
      images = wiped_has m.state i slot below;
      empty = all_empty (own_parts slot (layout_of i.table).parts);
      groups = refl;
      other = wiped_beside m.state i slot below;
      control = stays.control;
      cap = stays.cap;
      phase = stays.phase;
    }

module _ (m : Mounted) (staged : Option (List ℕ)) where
  wiped_by : (reply : Reply) (later : List Mounted)
      → (done : IsDone m m.state.control.current staged m.state.phase reply later)
      → m.state.control.current < 2
      → IsWipedBy m staged (wiped m m.state.control.current done.image)
  wiped_by reply later done below = record {
    idle = done.idle;
    bytes = done.bytes;
    is_staged = done.is_staged;
    image = done.image;
    is = done.is;
    none_filled = done.none_filled;
    has = has_empty m m.state.control.current done.image below;
  }

  abbrev row : Effect Mounted
  row = update_super m m.state.control.current staged m.state.phase

  done_by : m.state.control.current < 2
      → (effect_on m staged UpdateSuper).reply ≡ replies.Done
      → IsWipedBy m staged (after_of m (effect_on m staged UpdateSuper))
  done_by below is =
      if_either (λ e. e.reply ≡ replies.Done → IsWipedBy m staged (after_of m e)) m.state.overlay
      row
      (λ told. refused_not refusals.NotIdle told)
      (λ told.
      elim (wipe_comes m m.state.control.current staged m.state.phase) [
        | inl refused ↦ refused_not refused.refusal (sym refused.told ∙ told)
        | inr done ↦
            subst (λ (l : List Mounted). IsWipedBy m staged (last_of m l)) (sym done.one)
            (wiped_by _ _ done below)
      ])
      is

  one_of : (x next : Mounted)
      → IsWipedBy m staged x
      → IsOneOf (x ∷ []) next
      → IsWipedBy m staged next
  one_of x next is (inl here) = subst (IsWipedBy m staged) (sym here) is
  one_of x next is (inr none) = absurd none

  step_by : (next : Mounted)
      → m.state.control.current < 2
      → IsOneOf (steps_of m (effect_on m staged UpdateSuper)) next
      → (next ≡ m) ⊎ IsWipedBy m staged next
  step_by next below (inl same) = inl same
  step_by next below (inr later) =
      if_either (λ e. IsOneOf e.later next → (next ≡ m) ⊎ IsWipedBy m staged next)
      m.state.overlay row
      (λ none. absurd none)
      (λ there.
      elim (wipe_comes m m.state.control.current staged m.state.phase) [
        | inl refused ↦
            absurd (subst (λ (l : List Mounted). IsOneOf l next) refused.none there)
        | inr done ↦
            inr (one_of (wiped m m.state.control.current done.image) next
            (wiped_by _ _ done below)
            (subst (λ (l : List Mounted). IsOneOf l next) done.one there))
      ])
      later

  pub refused_keeps : (effect_on m staged UpdateSuper).reply ≢ replies.Done
      → (effect_on m staged UpdateSuper).later ≡ []
  refused_keeps apart =
      if_either (λ e. e.reply ≢ replies.Done → e.later ≡ []) m.state.overlay row
      (λ told. refl)
      (λ told.
      elim (wipe_comes m m.state.control.current staged m.state.phase) [
        | inl refused ↦ refused.none
        | inr done ↦ absurd (told done.told)
      ])
      apart

pub wiped_is_empty : (size : ℕ) (image : Image) (m : Mounted) (staged : Option (List ℕ))
    → IsIn size m image
    → (effect_on m staged UpdateSuper).reply ≡ replies.Done
    → IsWipedBy m staged (after_of m (effect_on m staged UpdateSuper))
wiped_is_empty size image m staged is done =
    done_by m staged (facts_of size image m is).current_below done

pub wipe_is_whole : (size : ℕ) (image : Image) (m next : Mounted) (staged : Option (List ℕ))
    → IsIn size m image
    → IsOneOf (steps_of m (effect_on m staged UpdateSuper)) next
    → (next ≡ m) ⊎ IsWipedBy m staged next
wipe_is_whole size image m next staged is step =
    step_by m staged next (facts_of size image m is).current_below step
