-- The blocks that a flash writes stand behind the tables' copies, and are of no image of the
-- source.
use Rattle.std.proofs.Common.{◌≡◌, ◌∙◌, ℕ, ◌-◌, ◌*◌, ◌≤◌, List, [], sym, ap, subst}
use Rattle.std.proofs.Common.{◌∷◌, arith, refl, true, false}
use Rattle.std.specs.Prelude.{Bool, Option, Some, None, ◌==◌, if◌then◌else◌}
use Rattle.std.proofs.lemmas.Bool.{and_parts, leb-true}
use Rattle.vab_disk.specs.Disk.{Image}
use Rattle.vab_layout.specs.Layout.{layout_of}
use Rattle.vab_layout.specs.Slots.{other_slot, twins_by, IsTargetBeside}
use Rattle.vab_device.specs.declared.device.Device.{Device}
use Rattle.vab_device.specs.declared.device.Part.{Part}
use Rattle.vab_device.specs.Kept.{IsDevice, copies_end, parts_at, sectors_of}
use Rattle.vab_device.specs.Reading.{Represents, IsOfBlocks, IsOfImages, parts_for, table_for}
use Rattle.vab_device.proofs.PartBlocks.{block_behind}
use Rattle.vab_flash.specs.declared.chosen.Destination.{Destination}
use Rattle.vab_flash.specs.declared.chosen.Destination.TheVariants.{Store, Blocks}
use Rattle.vab_flash.specs.Chosen.{destination_of}
use Rattle.vab_flash.specs.Place.{HasPlace, planned_at}
use Rattle.vab_flash.specs.Touched.{blocks_for}
use Rattle.vab_flash.proofs.ApartLaws.{BelongTo, store_belongs, own_belongs, images_miss}
use Rattle.vab_flash.proofs.DeadLaws.{Tables, tables_kept}
use Rattle.vab_flash.proofs.GatedLaws.{by_stored, by_placed, by_none}
use Rattle.vab_flash.proofs.InstallingLaws.{Installs, installs_of}
use Rattle.vab_flash.proofs.PlacedLaws.{part, in_owns, planned_is, own_name, has_store, has_none}

-- where it stands
pub record IsClear (d : Device) (s : ℕ) : Type 0 where
  pub behind : copies_end d.geometry ≤ 512 * (s - 4096)
  pub not_source : IsOfImages (parts_at d d.mark.slot) s → ⊥

neither : (b : Bool) (x y : Option (List Part)) (s : ℕ)
    → (IsOfImages x s → ⊥)
    → (IsOfImages y s → ⊥)
    → IsOfImages (if b then x else y) s
    → ⊥
neither true x y s first second is = first is
neither false x y s first second is = second is

module _ (d : Device) (size : ℕ) (image : Image) (device : IsDevice d size)
    (is : Represents d size image) (name : List ℕ) (place : ℕ) (has : HasPlace d name place)
    (s : ℕ) where
  i : Installs d size image
  i = installs_of d size image has.plan is has.plan_is

  t : Tables d size image i
  t = tables_kept d size image i device

  abbrev at : ℕ
  at = (layout_of i.target).device.first_logical_sector

  low : copies_end i.geometry ≤ 512 * at
  low = let both = and_parts _ _ t.table.lies in leb-true _ _ both.1

  -- of blocks that belong to one partition
  clear : (blocks of_name : List ℕ)
      → BelongTo i.slot (layout_of i.source).parts (layout_of i.target).parts of_name blocks
      → IsOfBlocks (sectors_of at blocks) s
      → IsClear d s
  clear blocks of_name belong here =
      let miss : (j : ℕ)
      → IsOfImages (parts_for j (i.slot == j) false i.scanned
      (table_for j (i.slot ∷ other_slot i.slot ∷ []) (i.source ∷ i.target ∷ i.others))) s
      → ⊥ =
      λ j.
      images_miss i.slot (layout_of i.source).parts (layout_of i.target).parts of_name blocks belong
      at s here j i.scanned i.source i.target i.others refl t.begins in
      record {
        behind =
            subst (λ (k : Device). copies_end k.geometry ≤ 512 * (s - 4096)) (sym i.is)
            (omega (arith, block_behind at blocks s here, low));
        not_source = λ h.
            neither (i.slot == 0) _ _ s (miss 0) (miss 1)
            (subst (λ (k : Device). IsOfImages (parts_at k k.mark.slot) s) i.is h);
      }

  by_destination : (o : Option Destination)
      → destination_of d.mark.apart (planned_at d place).store ≡ o
      → IsOfBlocks (blocks_for d.mark.apart (planned_at d place)) s
      → IsClear d s
  by_destination (Some Store) goes here =
      let k = has_store d size image i device name place has goes in
      clear k.keeps.blocks name
      (store_belongs i.slot (twins_by i.base.apart (layout_of i.source).parts)
      (layout_of i.source).parts (layout_of i.target).parts name k.keeps t.below t.target
      (own_name d size image i device name place has) k.found)
      (subst (λ (bs : List ℕ). IsOfBlocks bs s)
      (by_stored d.mark.apart (planned_at d place).store (planned_at d place).map goes
      ∙ sym k.store_is) here)
  by_destination (Some Blocks) goes here =
      let k = has_none d size image i device name place has goes in
      let p = part d size image i device name place has in
      clear p.blocks p.name
      (own_belongs i.slot (layout_of i.source).parts (layout_of i.target).parts p t.below
      (subst (λ (b : Bool).
      IsTargetBeside (other_slot i.slot) (twins_by b (layout_of i.source).parts)
      (layout_of i.source).parts (layout_of i.target).parts) k.apart t.target)
      (in_owns d size image i device name place has))
      (subst (λ (bs : List ℕ). IsOfBlocks bs s)
      (by_placed d.mark.apart (planned_at d place).store (planned_at d place).map goes
      ∙ ap (λ (x : Part). x.map) (planned_is d size image i device name place has)) here)
  by_destination None goes here =
      absurd (subst (λ (bs : List ℕ). IsOfBlocks bs s)
      (by_none d.mark.apart (planned_at d place).store (planned_at d place).map goes) here)

  pub flash_clear : IsOfBlocks (blocks_for d.mark.apart (planned_at d place)) s → IsClear d s
  flash_clear here =
      by_destination (destination_of d.mark.apart (planned_at d place).store) refl here
