-- The store of a partition that is to be overlaid lies on the disk, each block apart from the
-- others, and nothing is read of it yet.
use Rattle.std.proofs.Common.{◌≡◌, ◌≢◌, ◌∙◌, inl, inr, ℕ, ◌≤◌, ◌<◌, List, length, get_or, Ok, ap}
use Rattle.std.proofs.Common.{sym, subst, arith}
use Rattle.std.proofs.lemmas.Bool.{cases_lt}
use Rattle.vab_disk.specs.Disk.{Image}
use Rattle.vab_disk.specs.Calls.{InSectors, SameBut}
use Rattle.vab_store.specs.Layout.{InFirst, IsOnDisk, IsApart}
use Rattle.vab_layout.specs.Layout.{layout_of}
use Rattle.vab_layout.specs.Slots.{IsDistinct}
use Rattle.vab_device.specs.declared.device.Part.{Part}
use Rattle.vab_device.specs.declared.device.Device.{Device}
use Rattle.vab_device.specs.Kept.{IsDevice, sectors_of}
use Rattle.vab_device.specs.Mounted.{mounted_on}
use Rattle.vab_device.specs.Reading.{device, Represents}
use Rattle.vab_device.proofs.PartBlocks.{sector_at, sectors_long}
use Rattle.vab_device.proofs.ReadingLaws.{device_same, device_stands}
use Rattle.vab_device.proofs.SlotTable.{kept_table}
use Rattle.vab_overlaying.specs.Begun.{IsOver, IsOfHead}
use Rattle.vab_overlaying.proofs.HeadLaws.{in_first, head_dead}
use Rattle.vab_overlaying.proofs.OverlaidLaws.{store_distinct, store_on_disk}
use Rattle.vab_device.proofs.StandsLaws.{read_at, stands_idle}

blocks_apart : (at : ℕ) (blocks : List ℕ) → IsDistinct blocks → IsApart (sectors_of at blocks)
blocks_apart at blocks once i j before below =
    let in_blocks : j < length blocks = omega (arith, below, sectors_long at blocks) in
    let a = sector_at at blocks i (omega (arith, before, in_blocks)) in
    let b = sector_at at blocks j in_blocks in
    let differ : get_or blocks i 0 ≢ get_or blocks j 0 = once i j 0 before in_blocks in
    elim (cases_lt (get_or blocks i 0) (get_or blocks j 0)) [
      | inl lt ↦ inl (omega (arith, a, b, lt))
      | inr ge ↦ inr (omega (arith, a, b, ge, differ))
    ]

module _
    (d : Device) (size : ℕ) (p : Part) (store : List ℕ)
    (dev : IsDevice d size)
    (over : IsOver d p store) where
  abbrev at : ℕ
  at = (layout_of over.table).device.first_logical_sector

  pub over_long : 2 ≤ length store
  over_long =
      omega (arith, over.two, sectors_long at over.over.store.blocks, ap length over.stored)

  pub over_on_disk : IsOnDisk store size
  over_on_disk =
      subst (λ (l : List ℕ). IsOnDisk l size) (sym over.stored)
      (λ i below.
      let on = store_on_disk d.tail.super_end d.mark.slot d.geometry over.table dev.enough
      (kept_table d size over.table dev over.is) over.over over.by i 0 below in
      omega (arith, on, dev.ends))

  pub over_apart : IsApart store
  over_apart =
      subst IsApart (sym over.stored)
      (blocks_apart at over.over.store.blocks
      (store_distinct d.tail.super_end d.mark.slot d.geometry over.table dev.enough
      (kept_table d size over.table dev over.is) over.over over.by))

  pub in_head : (s : ℕ) (b : List ℕ) → InFirst store 2 s → IsOfHead d store s b
  in_head s b w = IsOfHead.of_store (in_first 2 store s over_long w)

  pub over_dead : (old image : Image)
      → Represents d size old
      → SameBut (InSectors (InFirst store 2)) old image
      → device size image ≡ Ok (mounted_on d old)
  over_dead old image is but =
      let st = stands_idle d size old over.table dev.slot over.idle over.plain over.is is in
      device_same size (read_at d.mark d.control d.tail d.geometry over.table) old image st.reads
      (head_dead d size old over.table dev over.is st over.over over.by 2
      (omega (arith, over.two, sectors_long at over.over.store.blocks)) image
      (subst (λ (l : List ℕ). SameBut (InSectors (InFirst l 2)) old image) over.stored but))
      ∙ device_stands d size old is
