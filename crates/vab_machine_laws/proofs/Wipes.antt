-- The row of a wipe: the device refuses the image of another device before it looks at partitions,
-- and a table that is full behind them.
use Rattle.std.proofs.Common.{◌≡◌, ◌⊎◌, ℕ, Bool, true, false, cond, List, Option, Some, None, inl}
use Rattle.std.proofs.Common.{inr, refl}
use Rattle.std.specs.Prelude.{nat_le, not}
use Rattle.std.proofs.lemmas.Bool.{cases_Bool, leb-false}
use Rattle.vab_tables.specs.Spelling.{table_size_of}
use Rattle.vab_super_image.specs.declared.image.SuperImage.{SuperImage}
use Rattle.vab_super_image.specs.SuperImage.{super_image_of, first_filled, wiped as wiped_table}
use Rattle.vab_model.specs.declared.state.Phase.{Phase}
use Rattle.vab_model.specs.declared.state.Phase.TheVariants.{Idle, Installing, Staged, Merging}
use Rattle.vab_model.specs.declared.state.Overlay.{Overlay}
use Rattle.vab_model.specs.declared.state.State.{State}
use Rattle.vab_model.specs.declared.command.Refusal.{Refusal}
use Rattle.vab_model.specs.declared.command.Refusal.TheVariants as refusals
use Rattle.vab_model.specs.declared.command.Reply.TheVariants as replies
use Rattle.vab_model.specs.Commands.{UpdateSuper}
use Rattle.vab_model.specs.Effects.{Effect, does, wanting, if_plain}
use Rattle.vab_model.specs.Machine.{machine_effect}
use Rattle.vab_model.specs.Staged.{is_sparse}
use Rattle.vab_model.specs.Wipe.{no_judge, filled_refusal, if_passing, judged_effect}
use Rattle.vab_model.specs.Wipe.{staged_effect, wipe_effect, wiped as wiped_state}
use Rattle.vab_device.specs.Mounted.{Mounted, Places}
use Rattle.vab_device.specs.Updates.{is_geometry, has_device, layout_at, other_super, full_super}
use Rattle.vab_device.specs.Updates.{wiped}
use Rattle.vab_machine_laws.specs.Edits.{IsMachinesFullOrOther, IsTheMachinesFullOrOther}
use Rattle.vab_machine_laws.specs.Edits.{IsDoneOrNotEmpty}

-- ---- the refusals of an image of another device

abbrev AreOther : Option Refusal → Type 0
AreOther None = Unit {0}
AreOther (Some refusal) =
    (refusal ≡ refusals.OtherGeometry) ⊎ (refusal ≡ refusals.OtherDevice)

by_tests : (geometry device : Bool)
    → AreOther (cond geometry (Some refusals.OtherGeometry)
    (cond device (Some refusals.OtherDevice) None))
by_tests true device = inl refl
by_tests false true = inr refl
by_tests false false = tt

are_other : (p : Places) (slot : ℕ) (i : SuperImage) → AreOther (other_super p slot i)
are_other p slot i =
    by_tests (not (is_geometry p.geometry i.geometry)) (not (has_device (layout_at p slot) i))

-- ---- one image

module _ (m : Mounted) (slot : ℕ) where
  -- the two effects of a wipe
  abbrev Are : Effect Mounted → Effect State → Type 0
  Are e f = IsMachinesFullOrOther UpdateSuper m.places.geometry.max e f

  -- where its partitions are empty, the machine is done
  full_is : (i : SuperImage)
      → Are (wanting true (if_passing (full_super m.places i) (does replies.Done (wiped m slot i))))
      (wanting true (does replies.Done (wiped_state m.state slot i)))
  full_is i =
      let size : ℕ = table_size_of (wiped_table i.table) in
      elim (cases_Bool (nat_le size m.places.geometry.max)) [
        | inl fits ↦ rw fits (inl (inl refl))
        | inr long ↦ rw long (inl (inr (record {
          size = size;
          longer = leb-false size m.places.geometry.max long;
          full = refl;
          done = refl;
        })))
      ]

  -- by the first partition that isn't
  filled_is : (i : SuperImage) (filled : Option (List ℕ))
      → Are (wanting true (if_passing (filled_refusal filled)
      (if_passing (full_super m.places i) (does replies.Done (wiped m slot i)))))
      (wanting true (if_passing (filled_refusal filled)
      (does replies.Done (wiped_state m.state slot i))))
  filled_is i None = full_is i
  filled_is i (Some name) = inl (inl refl)

  told_is : (i : SuperImage) (filled : Option (List ℕ))
      → IsDoneOrNotEmpty (if_passing (filled_refusal filled)
      (does replies.Done (wiped_state m.state slot i))).reply
  told_is i None = inl refl
  told_is i (Some name) = inr (name, refl)

  other_is : (i : SuperImage) (other : Option Refusal)
      → AreOther other
      → Are (wanting true (if_passing other
      (if_passing (filled_refusal (first_filled i.table.partitions))
      (if_passing (full_super m.places i) (does replies.Done (wiped m slot i))))))
      (wanting true (if_passing (filled_refusal (first_filled i.table.partitions))
      (does replies.Done (wiped_state m.state slot i))))
  other_is i None which = filled_is i (first_filled i.table.partitions)
  other_is i (Some refusal) which = inr (record {
    refusal = refusal;
    which = which;
    other = refl;
    told = told_is i (first_filled i.table.partitions);
  })

  -- ---- the row

  judged_is : (image : Option SuperImage)
      → Are (wanting true
      (judged_effect (other_super m.places slot) (full_super m.places) (wiped m slot) image))
      (wanting true (judged_effect no_judge no_judge (wiped_state m.state slot) image))
  judged_is None = inl (inl refl)
  judged_is (Some i) = other_is i (other_super m.places slot i) (are_other m.places slot i)

  staged_is : (staged : Option (List ℕ))
      → Are (staged_effect (other_super m.places slot) (full_super m.places) (wiped m slot) slot
      staged)
      (staged_effect no_judge no_judge (wiped_state m.state slot) slot staged)
  staged_is None = inl (inl refl)
  staged_is (Some bytes) = elim (cases_Bool (is_sparse bytes)) [
    | inl t ↦ rw t (inl (inl refl))
    | inr f ↦ rw f (judged_is (super_image_of slot bytes))
  ]

  row_is : (staged : Option (List ℕ)) (phase : Phase)
      → Are (wipe_effect (other_super m.places slot) (full_super m.places) (wiped m slot) slot
      staged phase)
      (wipe_effect no_judge no_judge (wiped_state m.state slot) slot staged phase)
  row_is staged Idle = staged_is staged
  row_is staged (Installing source plan) = inl (inl refl)
  row_is staged (Staged source left) = inl (inl refl)
  row_is staged (Merging target left) = inl (inl refl)

  -- neither wipes under an overlay
  over_is : (staged : Option (List ℕ)) (phase : Phase) (o : Option Overlay)
      → Are
      (if_plain o (wipe_effect (other_super m.places slot) (full_super m.places) (wiped m slot) slot
      staged phase))
      (if_plain o (wipe_effect no_judge no_judge (wiped_state m.state slot) slot staged phase))
  over_is staged phase None = row_is staged phase
  over_is staged phase (Some o) = inl (inl refl)

pub wipe_is : IsTheMachinesFullOrOther UpdateSuper
unfolding machine_effect
wipe_is size image m staged whole is =
    over_is m m.state.control.current staged m.state.phase m.state.overlay
