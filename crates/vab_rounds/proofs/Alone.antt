-- A slot that alone has images keeps them until another update is ready, and one that is gone back
-- to until a merge from it is begun; or until they are wiped.
use Rattle.std.proofs.Common.{◌≡◌, ◌⊎◌, inl, inr, ℕ, ◌≤◌, List, ◌∷◌, Some}
use Rattle.vab_model.specs.declared.state.Image.{Image as ImageOfSlot}
use Rattle.vab_model.specs.State.{images_at}
use Rattle.vab_device.specs.Mounted.{Mounted}
use Rattle.vab_session.specs.Alone.{IsAlone, BootsTo}
use Rattle.vab_session.specs.Source.{HasKept, AreGone}
use Rattle.vab_session.proofs.AloneLaws.{alone_boots}
use Rattle.vab_session.proofs.SourceLaws as source
use Rattle.vab_session.proofs.StandLaws as stand
use Rattle.vab_rounds.specs.Rounds.{items_in}
use Rattle.vab_rounds.specs.Folds.{Cut, after_items, folded}
use Rattle.vab_rounds.specs.Alone.{SomeEnd, MeetsBehind}
use Rattle.vab_rounds.proofs.Lasting.{lasts, lasts_from}

pub stays : (slot : ℕ) (images : List ImageOfSlot) (first : Mounted) (cuts : List Cut)
    → IsAlone slot images first
    → (IsAlone slot images (folded first cuts) × BootsTo slot (folded first cuts))
    ⊎ SomeEnd slot images first cuts
stays slot images first cuts alone =
    elim
    (lasts (stand.Ends slot images) (stand.Stands slot images) (stand.apart slot images)
    (stand.command_makes slot images) first cuts alone) [
      | inl last ↦ inl (last, alone_boots slot images (folded first cuts) last)
      | inr some ↦ inr some
    ]

pub keeps : (slot : ℕ) (images : List ImageOfSlot) (first : Mounted) (c : Cut) (cs : List Cut)
    (from : ℕ)
    → from ≤ c.whole
    → HasKept slot images (after_items first (items_in first c.run) from)
    → ((images_at (folded first (c ∷ cs)).state slot ≡ Some images)
    × HasKept slot images (folded first (c ∷ cs)))
    ⊎ MeetsBehind (AreGone slot images) first from (c ∷ cs)
keeps slot images first c cs from below kept =
    elim
    (lasts_from (source.Gone slot images) (source.Stands slot images) (source.apart slot images)
    (source.command_makes slot images) first c cs from below kept) [
      | inl last ↦ inl (source.has_images_still slot images (folded first (c ∷ cs)) last, last)
      | inr some ↦ inr some
    ]
