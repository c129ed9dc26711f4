-- The blocks that an update's images are written into lie where no image does, and so do those of
-- an overlay's store.
use Rattle.std.proofs.Common.{ℕ, zero, suc, ◌*◌, ◌≤◌, inl, inr, List, [], ◌∷◌, arith}
use Rattle.std.specs.Prelude.{take}
use Rattle.std.proofs.lemmas.Bool.{and_parts, leb-true}
use Rattle.vab_disk.specs.Disk.{Image}
use Rattle.vab_device.specs.declared.device.Device.{Device}
use Rattle.vab_layout.specs.Layout.{layout_of}
use Rattle.vab_builder.specs.Overlay.{overlay_part}
use Rattle.vab_device.specs.Kept.{IsDevice, copies_end, sectors_of}
use Rattle.vab_device.proofs.PartBlocks.{block_behind}
use Rattle.vab_device.specs.Reading.{Represents, IsOfBlocks}
use Rattle.vab_flash.specs.Place.{HasPlace, planned_at}
use Rattle.vab_flash.specs.Touched.{blocks_for}
use Rattle.vab_flash.proofs.SectorLaws.{flash_clear}
use Rattle.vab_overlaying.specs.Writes.{IsOfOverlay, IsOfOverlaid, head_blocks}
use Rattle.vab_overlaying.proofs.ClearLaws.{overlaid_clear}
use Rattle.vab_device.proofs.SlotTable.{kept_table}
use Rattle.vab_commands.specs.Touched.{IsFree, IsBehind}

pub image_is_free : (d : Device) (size : ℕ) (image : Image) (name : List ℕ) (place : ℕ) (s : ℕ)
    → IsDevice d size
    → Represents d size image
    → HasPlace d name place
    → IsOfBlocks (blocks_for d.mark.apart (planned_at d place)) s
    → IsFree d s
image_is_free d size image name place s device is has of =
    let clear = flash_clear d size image device is name place has s of in
    record { behind = clear.behind; not_source = clear.not_source }

pub store_is_free : (d : Device) (size : ℕ) (image : Image) (s : ℕ)
    → IsDevice d size
    → Represents d size image
    → IsOfOverlaid d s
    → IsFree d s
store_is_free d size image s device is of =
    let clear = overlaid_clear d size image s device is of in
    record { behind = clear.behind; not_source = clear.not_source }

of_first : (n : ℕ) (blocks : List ℕ) (s : ℕ) → IsOfBlocks (take n blocks) s → IsOfBlocks blocks s
of_first zero blocks s is = absurd is
of_first (suc n) [] s is = is
of_first (suc n) (b ∷ bs) s (inl is) = inl is
of_first (suc n) (b ∷ bs) s (inr is) = inr (of_first n bs s is)

-- the head of a store that begins
pub head_behind : (d : Device) (size : ℕ) (name : List ℕ) (s : ℕ) (b : List ℕ)
    → IsDevice d size
    → (of : IsOfOverlay d name s b)
    → IsOfBlocks (head_blocks d.mark.slot of.table name of.store) s
    → IsBehind d.geometry s
head_behind d size name s b device of here =
    let l = layout_of of.table in
    let at = l.device.first_logical_sector in
    let blocks = (overlay_part d.mark.slot l name of.store).blocks in
    let from = block_behind at blocks s (of_first 2 (sectors_of at blocks) s here) in
    let lies = and_parts _ _ (kept_table d size of.table device of.is).lies in
    let low : copies_end d.geometry ≤ 512 * at = leb-true _ _ lies.1 in
    omega (arith, from, low)
