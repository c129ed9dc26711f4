-- The first blocks of a new store: what is written there is read by nothing until the mark says
-- that the slot is overlaid.
use Rattle.std.proofs.Common.{◌≡◌, inl, inr, ℕ, zero, suc, ◌+◌, ◌-◌, ◌*◌, ◌≤◌}
use Rattle.std.proofs.Common.{◌<◌, true, false, List, [], ◌∷◌, length, take, sym, subst, arith}
use Rattle.std.specs.Prelude.{◌==◌, Some, map, Contains, slice_index}
use Rattle.std.proofs.lemmas.Bool.{cases_Bool, and_parts, leb-true, eqb-true}
use Rattle.vab_disk.specs.Disk.{Image}
use Rattle.vab_disk.specs.Calls.{InSectors, IsBetween}
use Rattle.vab_lpstore.specs.Layout.{copy_sectors, primary_of, backup_of}
use Rattle.vab_lpstore.proofs.StoreLaws.{copies_apart}
use Rattle.vab_tables.specs.declared.table.Table.{Table}
use Rattle.vab_layout.specs.declared.layout.Part.{Part as PartOfLayout}
use Rattle.vab_layout.specs.Layout.{layout_of}
use Rattle.vab_layout.specs.Slots.{own_parts}
use Rattle.vab_layout.specs.Overlay.{Overlaid, IsOverlaidBy}
use Rattle.vab_blocks.proofs.Contained.{first, later}
use Rattle.vab_store.specs.Layout.{InFirst}
use Rattle.vab_device.specs.declared.device.Device.{Device}
use Rattle.vab_device.specs.Kept.{IsDevice, IsTableOf, copies_end, sectors_of, part_on}
use Rattle.vab_device.specs.Kept.{table_of_slot, parts_of}
use Rattle.vab_device.specs.Reading.{Read, Live, Misses, IsOfBlocks, IsOfParts}
use Rattle.vab_device.specs.Reading.{IsOfImages, IsOfTables, Dead, parts_for, table_for}
use Rattle.vab_device.proofs.PartBlocks.{sectors_apart, block_behind}
use Rattle.vab_device.proofs.RepairLaws.{end_of, ends_within}
use Rattle.vab_device.proofs.SameLaws.{dead_of}
use Rattle.vab_device.proofs.SlotTable.{kept_table}
use Rattle.vab_overlaying.proofs.OverlaidLaws.{apart_one}
use Rattle.vab_device.proofs.StandsLaws.{read_at, StandsIdle}

-- ---- the first blocks of a list

-- a sector of one of them is one of theirs
pub in_first : (n : ℕ) (blocks : List ℕ) (s : ℕ)
    → n ≤ length blocks
    → InFirst blocks n s
    → IsOfBlocks (take n blocks) s
in_first n blocks s le is = by_block n blocks is.block le is.within is.here
  where
    by_block : (n : ℕ) (blocks : List ℕ) (k : ℕ)
        → n ≤ length blocks
        → k < n
        → IsBetween (slice_index blocks k) (slice_index blocks k + 8) s
        → IsOfBlocks (take n blocks) s
    by_block zero blocks k le lt here = absurd (omega (arith, lt))
    by_block (suc n) [] k le lt here = absurd (omega (arith, le))
    by_block (suc n) (b ∷ bs) zero le lt here = inl here
    by_block (suc n) (b ∷ bs) (suc k) le lt here =
        inr (by_block n bs k (omega (arith, le)) (omega (arith, lt)) here)

-- and one of the whole list
pub of_front : (n : ℕ) (blocks : List ℕ) (s : ℕ)
    → IsOfBlocks (take n blocks) s
    → IsOfBlocks blocks s
of_front zero blocks s is = absurd is
of_front (suc n) [] s is = absurd is
of_front (suc n) (b ∷ bs) s (inl here) = inl here
of_front (suc n) (b ∷ bs) s (inr there) = inr (of_front n bs s there)

-- ---- sectors of a store over one of the slot's partitions

-- a sector of the images of a slot alone is one of its partitions
pub of_images : (slot k : ℕ) (t : Table) (s : ℕ)
    → IsOfImages (parts_for k (slot == k) false [] (table_for k (slot ∷ []) (t ∷ []))) s
    → IsOfParts (parts_of slot (layout_of t)) s
of_images slot k t s is = elim (cases_Bool (slot == k)) [
  | inl same ↦
      let here : IsOfParts (parts_of k (layout_of t)) s = rw same at is in
      subst (λ (n : ℕ). IsOfParts (parts_of n (layout_of t)) s) (sym (eqb-true slot k same)) here
  | inr other ↦ let none : ⊥ = rw other at is in absurd none
]

module _
    (d : Device) (size : ℕ) (old : Image) (t : Table)
    (dev : IsDevice d size)
    (own : table_of_slot d d.mark.slot ≡ Some t)
    (st : StandsIdle d size old t)
    (o : Overlaid)
    (by : IsOverlaidBy d.mark.slot (layout_of t).parts o.part o.store) where
  abbrev at : ℕ
  at = (layout_of t).device.first_logical_sector

  abbrev r : Read
  r = read_at d.mark d.control d.tail d.geometry t

  -- a sector of the store
  abbrev pub OfStore : ℕ → Type 0
  OfStore s = IsOfBlocks (sectors_of (layout_of t).device.first_logical_sector o.store.blocks) s

  of : IsTableOf d.tail.super_end d.geometry d.mark.slot t
  of = kept_table d size t dev own

  behind_copies : copies_end d.geometry ≤ 512 * at
  behind_copies = let both = and_parts _ _ of.lies in leb-true _ _ both.1

  pub not_low : (s : ℕ) → s < 4120 → OfStore s → ⊥
  not_low s low is = omega (arith, low, block_behind at o.store.blocks s is, behind_copies)

  pub not_tables : (s : ℕ) → IsOfTables d.geometry (d.mark.slot ∷ []) s → OfStore s → ⊥
  unfolding primary_of
  not_tables s tables is = by_copy tables
    where
      end : 512 * (end_of d.geometry d.mark.slot - 4096) ≤ copies_end d.geometry
      end = ends_within d.geometry d.mark.slot dev.geometry dev.slot

      apart : primary_of d.geometry d.mark.slot + copy_sectors d.geometry
          ≤ backup_of d.geometry d.mark.slot
      apart =
          copies_apart d.geometry d.mark.slot (omega (arith, dev.geometry.two, dev.slot))

      from : 4096 + at ≤ s
      from = block_behind at o.store.blocks s is

      by_copy : IsOfTables d.geometry (d.mark.slot ∷ []) s → ⊥
      by_copy (inl primary) = omega (arith, primary.below, apart, end, from, behind_copies)
      by_copy (inr (inl backup)) = omega (arith, backup.below, end, from, behind_copies)
      by_copy (inr (inr none)) = absurd none

  not_parts : (s : ℕ) (ps : List PartOfLayout)
      → ((p : PartOfLayout)
      → Contains ps p
      → Contains (own_parts d.mark.slot (layout_of t).parts) p)
      → IsOfParts (map (part_on at) ps) s
      → OfStore s
      → ⊥
  not_parts s [] within parts is = absurd parts
  not_parts s (p ∷ ps) within (inl here) is =
      sectors_apart at p.blocks o.store.blocks s
      (apart_one d.tail.super_end d.mark.slot d.geometry t dev.enough of o by p
      (within p (first p ps)))
      here is
  not_parts s (p ∷ ps) within (inr there) is =
      not_parts s ps (λ q c. within q (later p ps q c)) there is

  -- the slot's partitions have none
  pub not_own : (s : ℕ) → IsOfParts (parts_of d.mark.slot (layout_of t)) s → OfStore s → ⊥
  not_own s parts is =
      not_parts s (own_parts d.mark.slot (layout_of t).parts) (λ p c. c) parts is

  -- nothing is read of it
  pub store_misses : Misses (read_at d.mark d.control d.tail d.geometry t) OfStore
  store_misses s (Live.of_mark at_mark) is = not_low s (omega (arith, at_mark)) is
  store_misses s (Live.of_statuses read _) is =
      absurd (let no : false ≡ true = read in cc)
  store_misses s (Live.of_control at_control) is = not_low s (omega (arith, at_control)) is
  store_misses s (Live.of_sizes some at_sizes) is = not_low s (omega (arith, at_sizes)) is
  store_misses s (Live.of_geometry (inl e)) is = not_low s (omega (arith, e)) is
  store_misses s (Live.of_geometry (inr e)) is = not_low s (omega (arith, e)) is
  store_misses s (Live.of_tables tables) is = not_tables s tables is
  store_misses s (Live.of_stores stores) is = absurd stores
  store_misses s (Live.of_images_a images) is =
      not_own s (of_images d.mark.slot 0 t s images) is
  store_misses s (Live.of_images_b images) is =
      not_own s (of_images d.mark.slot 1 t s images) is
  store_misses s (Live.of_plan plan) is = absurd plan
  store_misses s (Live.of_overlay overlay) is = absurd overlay

  -- writes into its first blocks are dead
  pub head_dead : (n : ℕ)
      → n ≤ length (sectors_of (layout_of t).device.first_logical_sector o.store.blocks)
      → Dead size (read_at d.mark d.control d.tail d.geometry t) old
      (InSectors
      (InFirst (sectors_of (layout_of t).device.first_logical_sector o.store.blocks) n))
  head_dead n le =
      dead_of size r old (InFirst (sectors_of at o.store.blocks) n) st.reads
      (λ s live w.
      store_misses s live
      (of_front n (sectors_of at o.store.blocks) s
      (in_first n (sectors_of at o.store.blocks) s le w)))
