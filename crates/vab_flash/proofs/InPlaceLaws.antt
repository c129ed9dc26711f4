-- A partition whose own blocks take its image: what the disk then needs, and what it means.
use Rattle.std.proofs.Common.{◌≡◌, ◌≢◌, ◌∙◌, inl, inr, ⊎_elim, ℕ, ◌≤◌, List, [], length, refl, sym}
use Rattle.std.proofs.Common.{ap, subst, arith, Ok, false}
use Rattle.std.specs.Prelude.{Bool, Option, Some, None, AllPairs}
use Rattle.vab_disk.specs.Disk.{Image, set_sector}
use Rattle.vab_disk.specs.Calls.{InSectors, SameBut}
use Rattle.vab_space.specs.declared.Chunk.{Chunk}
use Rattle.vab_space.specs.declared.Chunk.TheVariants.{One}
use Rattle.vab_store.specs.Layout.{IsApart, InFirst}
use Rattle.vab_install.specs.InPlace.{HoldsImage}
use Rattle.vab_marks.specs.declared.status.PartStatus.{PartStatus}
use Rattle.vab_marks.specs.declared.status.StatusImage.TheVariants.{InPlace}
use Rattle.vab_marks.specs.Status.{status_of}
use Rattle.vab_statuses.specs.Statuses.{statuses_in, free_in, IsOfStatuses}
use Rattle.vab_layout.specs.Layout.{layout_of}
use Rattle.vab_layout.specs.Slots.{other_slot, twins_by, IsTargetBeside}
use Rattle.vab_model.specs.Commands.{Flash}
use Rattle.vab_model.specs.Effects.{does}
use Rattle.vab_model.specs.declared.command.Reply.TheVariants as replies
use Rattle.vab_device.specs.declared.device.Part.{Part}
use Rattle.vab_device.specs.declared.device.Device.{Device}
use Rattle.vab_device.specs.Kept.{sectors_of, IsDevice}
use Rattle.vab_device.specs.Mounted.{Mounted, mounted_on, bytes_at, written_sectors, blocks_there}
use Rattle.vab_device.specs.Reading.{device, Represents, IsOfBlocks}
use Rattle.vab_device.specs.Stores.{Wanted, wanted_by, wanted_of, scan_at}
use Rattle.vab_device.specs.Flashed.{filled}
use Rattle.vab_device.specs.Updates.{effect_on}
use Rattle.vab_device.proofs.Behind.{seen_or}
use Rattle.vab_device.proofs.DoesLaws.{step_follows}
use Rattle.vab_device.proofs.PartBlocks.{block_behind}
use Rattle.vab_device.proofs.ReadingLaws.{device_same, device_stands}
use Rattle.vab_flash.specs.declared.chosen.Destination.TheVariants.{Blocks}
use Rattle.vab_flash.specs.Chosen.{IsChosen, with_written}
use Rattle.vab_flash.specs.Place.{planned_at}
use Rattle.vab_flash.proofs.ApartLaws.{BelongTo, own_belongs}
use Rattle.vab_flash.proofs.ChosenLaws.{flash_chosen}
use Rattle.vab_flash.proofs.DeadLaws.{Tables, tables_kept, these_dead}
use Rattle.vab_flash.proofs.FilledLaws.{placed_filled}
use Rattle.vab_flash.proofs.InstallingLaws.{Installs, installs_of, installing_read}
use Rattle.vab_flash.proofs.NextLaws.{represents_next, mounted_next}
use Rattle.vab_flash.proofs.PlacedLaws.{Placed, placed_of, HasNone, has_none, of_blocks}
use Rattle.vab_flash.proofs.ReadyLaws.{planned_kept, first_in}
use Rattle.vab_flash.proofs.SourceLaws.{sectors_once}

module _ (d : Device) (size : ℕ) (old : Image) (device_is : IsDevice d size)
    (is : Represents d size old) (name : List ℕ) (staged : Option (List ℕ)) (place : ℕ)
    (bytes : List ℕ) (chosen : IsChosen d name staged place Blocks bytes) where
  pub i : Installs d size old
  i = installs_of d size old chosen.has.plan is chosen.has.plan_is

  pub p : Placed d size old i name place
  p = placed_of d size old i device_is name place chosen.has Blocks chosen.fits.goes
      chosen.fits.unwritten

  k : HasNone d size old i name
  k = has_none d size old i device_is name place chosen.has chosen.fits.goes

  pub t : Tables d size old i
  t = tables_kept d size old i device_is

  abbrev at : ℕ
  at = (layout_of i.target).device.first_logical_sector

  abbrev own : List ℕ
  own = (planned_at d place).map

  map_is : own ≡ sectors_of at p.part.blocks
  map_is = ap (λ (x : Part). x.map) p.planned

  beside : IsTargetBeside (other_slot i.slot) [] (layout_of i.source).parts
      (layout_of i.target).parts
  beside =
      subst (λ (b : Bool).
      IsTargetBeside (other_slot i.slot) (twins_by b (layout_of i.source).parts)
      (layout_of i.source).parts (layout_of i.target).parts) k.apart t.target

  belong : BelongTo i.slot (layout_of i.source).parts (layout_of i.target).parts name
      p.part.blocks
  belong =
      subst (λ (n : List ℕ).
      BelongTo i.slot (layout_of i.source).parts (layout_of i.target).parts n p.part.blocks)
      p.named
      (own_belongs i.slot (layout_of i.source).parts (layout_of i.target).parts p.part t.below
      beside p.there)

  pub own_apart : IsApart own
  own_apart =
      subst IsApart (sym map_is)
      (sectors_once at p.part.blocks
      (subst (λ (bs : List ℕ). AllPairs (λ a b. a ≢ b) bs) map_is
      (planned_kept d size place device_is chosen.within).once))

  -- a sector of its blocks
  in_own : (s : ℕ) → InFirst own (length own) s → IsOfBlocks (sectors_of at p.part.blocks) s
  in_own s w =
      subst (λ (bs : List ℕ). IsOfBlocks bs s) map_is
      (first_in own (length own) s (omega arith) w)

  -- writes into them are dead
  pub own_dead : (image : Image)
      → SameBut (InSectors (InFirst own (length own))) old image
      → device size image ≡ Ok (mounted_on d old)
  own_dead image but =
      let wide : SameBut (InSectors (IsOfBlocks (sectors_of at p.part.blocks))) old image =
      λ s. ⊎_elim (λ same. inl same) (λ w. inr (in_own s w)) (but s) in
      device_same size
      (installing_read i.base i.slot i.statuses i.seen i.tail i.geometry i.source i.target
      i.others i.scanned)
      old
      image i.reads
      (these_dead d size old i device_is name p.part.blocks belong p.unread image wide)
      ∙ device_stands d size old is

  -- the image has a device behind it
  pub placed_follows : (chunk : Chunk)
      → (effect_on (mounted_on d old) staged (Flash name chunk)).later ≢ []
  placed_follows chunk =
      step_follows {wants = false} (flash_chosen d old staged name chunk place Blocks bytes chosen)

  -- ---- behind the gate

  module _ (mid : Image) (free : ℕ) (spelled : List ℕ)
      (but : SameBut (InSectors (InFirst own (length own))) old mid)
      (holds : HoldsImage own bytes mid (length own))
      (free_is : (statuses : List (Option PartStatus))
      → statuses_in old ≡ Ok statuses
      → free_in statuses ≡ Some free)
      (there : IsOfStatuses free)
      (decoded : status_of spelled ≡ Ok (record { name = name; image = InPlace })) where
    abbrev pub gated : Image
    gated = set_sector mid free spelled

    mid_same : (s : ℕ) → (IsOfBlocks (sectors_of at p.part.blocks) s → ⊥) → mid s ≡ old s
    mid_same s not = ⊎_elim (λ same. same) (λ w. absurd (not (in_own s w))) (but s)

    abbrev wanted : Wanted
    wanted = record {
      name = name;
      base = sectors_of at p.part.blocks;
      store = None;
      chunk = One;
      count = 0;
      fewer = false;
      clean = false;
    }

    wanted_one : wanted_of i.base.apart (other_slot i.slot) (layout_of i.target)
        (record { name = name; image = InPlace })
        ≡ Ok wanted
    wanted_one =
        (λ j. wanted_by (k.apart j) at (record { name = name; image = InPlace })
        (p.part_is j) (k.lacks j))

    scan_one : (image : Image)
        → ((s : ℕ) → 4096 ≤ s → image s ≡ mid s)
        → scan_at wanted image ≡ Ok (record { name = name; chunk = One; exceptions = [] })
    unfolding scan_at
    scan_one image high = refl

    no_store : (planned_at d place).store ≡ None
    no_store = (of_blocks d.mark.apart (planned_at d place).store chosen.fits.goes).0

    seen_high : (s : ℕ) → IsOfBlocks (written_sectors (planned_at d place) One []) s → 4096 ≤ s
    seen_high s seen =
        ⊎_elim
        (λ here.
        absurd (subst (λ (o : Option (List ℕ)). IsOfBlocks (blocks_there o) s) no_store here))
        (λ of_own.
        omega (
          arith,
          block_behind at p.part.blocks s (subst (λ (bs : List ℕ). IsOfBlocks bs s) map_is of_own),
        ))
        (seen_or One (blocks_there (planned_at d place).store) [] 0 own s seen)

    bytes_mid : bytes_at mid (written_sectors (planned_at d place) One []) ≡ filled bytes
        (length own)
    bytes_mid = placed_filled own (blocks_there (planned_at d place).store) bytes mid holds

    pub represents_placed : Represents (with_written d place One []) size gated
    represents_placed =
        represents_next d size old device_is i name place p p.part.blocks bytes belong mid InPlace
        One [] free spelled mid_same wanted wanted_one scan_one free_is there decoded seen_high
        bytes_mid

    pub effect_placed : (chunk : Chunk)
        → effect_on (mounted_on d old) staged (Flash name chunk)
        ≡ does replies.Done (mounted_on (with_written d place One []) gated)
    effect_placed chunk =
        flash_chosen d old staged name chunk place Blocks bytes chosen
        ∙ ap (λ (m : Mounted). does replies.Done m)
        (sym (mounted_next d size old device_is i name place p p.part.blocks bytes belong mid
        InPlace One [] free spelled mid_same wanted wanted_one scan_one free_is there decoded
        seen_high bytes_mid))
