-- The commands of an overlay change nothing but the overlay.
use Rattle.std.proofs.Common.{◌≡◌, ◌∙◌, ℕ, true, inl, inr, List, [], ◌∷◌, Option, Some, None, refl}
use Rattle.std.proofs.Common.{sym, ap}
use Rattle.std.proofs.lemmas.List.Elements.{All-head, All-tail}
use Rattle.vab_model.specs.declared.state.Overlay.{Overlay as OverlayOf}
use Rattle.vab_model.specs.declared.command.Reply.TheVariants as replies
use Rattle.vab_model.specs.declared.command.Refusal.TheVariants as refusals
use Rattle.vab_model.specs.Commands.{Command, Overlay, OverlayWrite, OverlayDiscard}
use Rattle.vab_model.specs.Effects.{IsOneOf, steps_of, after_of, last_of, effect_map}
use Rattle.vab_model.specs.Machine.{machine_effect}
use Rattle.vab_model.specs.Overlay.{discard_row}
use Rattle.vab_device.specs.Mounted.{Mounted, in_state}
use Rattle.vab_device.specs.Updates.{effect_on}
use Rattle.vab_session.proofs.OverlayLaws.{overlay_makes, write_makes, discard_makes}
use Rattle.vab_boots.specs.Overlaid.{is_of_overlay, overlaid_by, IsOverlaidFrom, Asked, after_all}
use Rattle.vab_boots.specs.Overlaid.{AreOfOverlay}
use Rattle.vab_boots.proofs.Begins.{refused_not}

-- what holds of no device and of one with another overlay holds of what such a command makes
makes : (m : Mounted) (P : List Mounted → Type 0)
    → P []
    → ((o : Option OverlayOf) → P (overlaid_by m o ∷ []))
    → (staged : Option (List ℕ)) (c : Command)
    → is_of_overlay c ≡ true
    → P (effect_on m staged c).later
makes m P nothing one staged (Overlay name size) is = overlay_makes m P nothing one staged name size
makes m P nothing one staged (OverlayWrite block) is = write_makes m P nothing one staged block
makes m P nothing one staged OverlayDiscard is = discard_makes m P nothing one staged
makes m P nothing one staged _ is = absurd cc

own : (m : Mounted) → IsOverlaidFrom m m
own m = record { overlay = m.state.overlay; is = refl }

pub steps_leave : (m next : Mounted) (staged : Option (List ℕ)) (c : Command)
    → is_of_overlay c ≡ true
    → IsOneOf (steps_of m (effect_on m staged c)) next
    → IsOverlaidFrom m next
steps_leave m next staged c is (inl same) = record { overlay = m.state.overlay; is = same }
steps_leave m next staged c is (inr later) =
    makes m (λ l. IsOneOf l next → IsOverlaidFrom m next) (λ none. absurd none) one staged c is
    later
  where
    one : (o : Option OverlayOf)
        → IsOneOf (overlaid_by m o ∷ []) next
        → IsOverlaidFrom m next
    one o (inl here) = record { overlay = o; is = here }
    one o (inr none) = absurd none

-- behind one of them
last_leaves : (m : Mounted) (staged : Option (List ℕ)) (c : Command)
    → is_of_overlay c ≡ true
    → IsOverlaidFrom m (after_of m (effect_on m staged c))
last_leaves m staged c is =
    makes m (λ l. IsOverlaidFrom m (last_of m l)) (own m)
    (λ o. record { overlay = o; is = refl }) staged c is

-- one behind the other
pub overlaid_behind : (m x y : Mounted)
    → IsOverlaidFrom m x
    → IsOverlaidFrom x y
    → IsOverlaidFrom m y
overlaid_behind m x y first second = record {
  overlay = second.overlay;
  is = second.is ∙ ap (λ (n : Mounted). overlaid_by n second.overlay) first.is;
}

pub lists_leave : (m : Mounted) (asked : List Asked)
    → AreOfOverlay asked
    → IsOverlaidFrom m (after_all m asked)
lists_leave m [] are = own m
lists_leave m (a ∷ rest) are =
    let of : is_of_overlay a.command ≡ true =
    All-head (λ (x : Asked). is_of_overlay x.command ≡ true) a rest are in
    let more = All-tail (λ (x : Asked). is_of_overlay x.command ≡ true) a rest are in
    let next : Mounted = after_of m (effect_on m a.staged a.command) in
    overlaid_behind m next (after_all next rest) (last_leaves m a.staged a.command of)
    (lists_leave next rest more)

discarded : (m : Mounted) (o : Option OverlayOf)
    → (effect_map (in_state m) (discard_row m.state o)).reply ≡ replies.Done
    → last_of m (effect_map (in_state m) (discard_row m.state o)).later ≡ overlaid_by m None
discarded m None is = refused_not refusals.NotOverlaid is
discarded m (Some o) is = refl

discard_done : (m : Mounted) (staged : Option (List ℕ))
    → (effect_on m staged OverlayDiscard).reply ≡ replies.Done
    → after_of m (effect_on m staged OverlayDiscard) ≡ overlaid_by m None
unfolding machine_effect
discard_done m staged is = discarded m m.state.overlay is

pub gives_back : (m : Mounted) (asked : List Asked) (staged : Option (List ℕ))
    → m.state.overlay ≡ None
    → AreOfOverlay asked
    → (effect_on (after_all m asked) staged OverlayDiscard).reply ≡ replies.Done
    → after_of (after_all m asked) (effect_on (after_all m asked) staged OverlayDiscard) ≡ m
gives_back m asked staged none are is =
    let from = lists_leave m asked are in
    discard_done (after_all m asked) staged is
    ∙ ap (λ (n : Mounted). overlaid_by n None) from.is
    ∙ ap (overlaid_by m) (sym none)
