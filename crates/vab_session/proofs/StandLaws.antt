-- A slot that alone has images keeps them until an update is ready, or it is wiped.
use Rattle.std.proofs.Common.{◌≡◌, ◌⊎◌, inl, inr, ℕ, ◌-◌, ◌≤◌, ◌++◌, Bool, true, List}
use Rattle.std.proofs.Common.{length, drop, codes, Option, Some, None, refl, sym, subst}
use Rattle.std.proofs.lemmas.Bool.{cases_Bool}
use Rattle.vab_disk.specs.Disk.{Outcome}
use Rattle.vab_model.specs.declared.state.Image.{Image as ImageOfSlot}
use Rattle.vab_model.specs.declared.state.Plan.{Plan}
use Rattle.vab_model.specs.declared.state.Phase.{Phase}
use Rattle.vab_model.specs.declared.state.Phase.TheVariants.{Installing, Staged}
use Rattle.vab_model.specs.Commands.{Command, Finish, UpdateSuper}
use Rattle.vab_model.specs.Kinds.{ends_alone}
use Rattle.vab_model.specs.Machine.{least_missing}
use Rattle.vab_device.specs.Mounted.{Mounted}
use Rattle.vab_device.specs.Reading.{IsIn}
use Rattle.vab_device.specs.Updates.{effect_on, finish_effect, complete_effect}
use Rattle.vab_exchanges.specs.Session.{Exchange}
use Rattle.vab_exchanges.specs.Items.{Kept, items_of, kept_after, closing_of}
use Rattle.vab_exchanges.specs.Runs.{acknowledged, CrashesWithin}
use Rattle.vab_session.specs.Alone.{IsAlone, IsUnready, IsReady, IsEnded, FindsEnd, StandsAlone}
use Rattle.vab_session.specs.Alone.{reached_in}
use Rattle.vab_session.specs.Responses.{machine}
use Rattle.vab_session.proofs.AloneLaws.{alone_effect, stands_alone}
use Rattle.vab_session.proofs.UntilLaws as until
use Rattle.vab_session.proofs.WipeLaws.{not_wiped, wipe_makes}

-- two commands end it
pub end_only : (c : Command) → ends_alone c ≡ true → (c ≡ Finish) ⊎ (c ≡ UpdateSuper)
end_only Finish is = inl refl
end_only UpdateSuper is = inr refl
end_only _ is = absurd cc

module _ (slot : ℕ) (images : List ImageOfSlot) where
  abbrev pub Stands : Mounted → Type 0
  Stands m = IsAlone slot images m

  -- an update is ready on it, or the slot was wiped
  abbrev pub Ends : Mounted → Type 0
  Ends m = IsEnded slot images m

  not_ready : (phase : Phase) → IsUnready slot phase → IsReady phase → ⊥
  not_ready (Staged source left) is ready = is
  not_ready _ is ready = ready

  pub apart : (m : Mounted) → Stands m → Ends m → ⊥
  apart m stands (inl ready) = not_ready m.state.phase stands.unready ready
  apart m stands (inr wiped) = not_wiped slot images m stands.has wiped

  abbrev pub Makes : Mounted → List Mounted → Type 0
  Makes m later = until.Makes Ends Stands apart m later

  completes : (m : Mounted) (source : ℕ) (plan : Plan) (least : Option (List ℕ))
      → Stands m
      → Makes m (complete_effect m source plan least).later
  completes m source plan None stands = until.made_stop Ends Stands apart m _ (inl tt)
  completes m source plan (Some name) stands = until.made_nothing Ends Stands apart m stands

  finishes : (m : Mounted) (phase : Phase) → Stands m → Makes m (finish_effect m phase).later
  finishes m (Installing source plan) stands =
      completes m source plan (least_missing m.state source plan) stands
  finishes m _ stands = until.made_nothing Ends Stands apart m stands

  ends_by : (m : Mounted) (staged : Option (List ℕ)) (c : Command)
      → (c ≡ Finish) ⊎ (c ≡ UpdateSuper)
      → Stands m
      → Makes m (effect_on m staged c).later
  ends_by m staged c (inl is) stands =
      subst (λ (d : Command). Makes m (effect_on m staged d).later) (sym is)
      (finishes m m.state.phase stands)
  ends_by m staged c (inr is) stands =
      subst (λ (d : Command). Makes m (effect_on m staged d).later) (sym is)
      (wipe_makes Ends Stands apart slot images (λ x wiped. inr wiped) (λ x alone. alone) m staged
      stands)

  pub command_makes : (m : Mounted) (staged : Option (List ℕ)) (c : Command)
      → Stands m
      → Makes m (effect_on m staged c).later
  command_makes m staged c stands = elim (cases_Bool (ends_alone c)) [
    | inl is ↦ ends_by m staged c (end_only c is) stands
    | inr not ↦
        until.made_all Ends Stands apart m (effect_on m staged c).later stands
        (alone_effect slot images m staged c not stands)
  ]

  -- Where that much was told, each cut of power leaves the slot so, or an update was ready, or the
  -- slot was wiped.
  pub stands_at_cut : (turns size : ℕ) (first : Kept Mounted) (exchanges done later : List Exchange)
      (unfinished : Option (List ℕ)) (waits : Bool) (told : List ℕ) (o : Outcome)
      → CrashesWithin (IsIn size) (codes "FB01") first.now
      (items_of (machine turns) first exchanges unfinished)
      (closing_of (machine turns) unfinished waits (kept_after (machine turns) first exchanges))
      told o
      → exchanges ≡ done ++ later
      → Stands (kept_after (machine turns) first done).now
      → (since : List ℕ)
      → o.told ≡ told ++ since
      → length done
      ≤ acknowledged (items_of (machine turns) first exchanges unfinished) (drop 4 since)
      → StandsAlone size slot images o.image
      ⊎ FindsEnd slot images
      (reached_in turns (kept_after (machine turns) first done) later unfinished waits
      (acknowledged (items_of (machine turns) first exchanges unfinished) (drop 4 since)
      - length done))
  stands_at_cut turns size first exchanges done later unfinished waits told o crash is alone since
      told_is behind =
      elim
      (until.holds_at_cut Ends Stands apart command_makes turns size first exchanges done later
      unfinished waits told o crash is alone since told_is behind) [
        | inl at ↦ inl (stands_alone slot images size o.image at.0 at.2 at.1)
        | inr found ↦ inr found
      ]
