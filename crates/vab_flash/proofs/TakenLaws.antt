-- Of the sectors of the statuses a flash writes the first free one alone.
use Rattle.std.proofs.Common.{ℕ, ◌≤◌, List, length, Some, sym, ap, subst, arith}
use Rattle.std.specs.Prelude.{Option}
use Rattle.vab_disk.specs.declared.disk.Disk.{Ghosts}
use Rattle.vab_disk.specs.Disk.{Image, IsAt}
use Rattle.vab_disk.specs.Calls.{InSectors, OnlyReads, Touches}
use Rattle.vab_disk.proofs.CallLaws.{touches_reads, touches_then, touches_wider, touches_on}
use Rattle.vab_store.specs.Layout.{InFirst}
use Rattle.vab_statuses.specs.Statuses.{IsOfStatuses, IsFirstFree}
use Rattle.vab_layout.specs.Layout.{layout_of}
use Rattle.vab_device.specs.declared.device.Part.{Part}
use Rattle.vab_device.specs.declared.device.Device.{Device}
use Rattle.vab_device.specs.Kept.{sectors_of, IsDevice}
use Rattle.vab_device.specs.Reading.{Represents, IsOfBlocks}
use Rattle.vab_device.proofs.PartBlocks.{block_behind}
use Rattle.vab_flash.specs.declared.chosen.Destination.TheVariants.{Store, Blocks}
use Rattle.vab_flash.specs.Chosen.{IsChosen, store_at, store_long}
use Rattle.vab_flash.specs.Place.{planned_at}
use Rattle.vab_flash.specs.Touched.{IsFreeOrOther}
use Rattle.vab_flash.proofs.InstallingLaws.{Installs}
use Rattle.vab_flash.proofs.PlacedLaws.{Placed, HasStore}
use Rattle.vab_flash.proofs.ReadyLaws.{first_in}
use Rattle.vab_flash.proofs.ReadyLaws as ready
use Rattle.vab_flash.proofs.InPlaceLaws as own

-- ---- the blocks of an image stand behind the statuses

blocks_other : (at : ℕ) (blocks : List ℕ) (s : ℕ)
    → IsOfBlocks (sectors_of at blocks) s
    → IsOfStatuses s
    → ⊥
blocks_other at blocks s here is = omega (arith, block_behind at blocks s here, is.below)

pub store_other : (d : Device) (size : ℕ) (old : Image) (device_is : IsDevice d size)
    (is : Represents d size old) (name : List ℕ) (staged : Option (List ℕ)) (place : ℕ)
    (bytes : List ℕ) (chosen : IsChosen d name staged place Store bytes) (n s : ℕ)
    → n ≤ store_long d place
    → InFirst (store_at d place) n s
    → IsOfStatuses s
    → ⊥
store_other d size old device_is is name staged place bytes chosen n s fits here =
    let i : Installs d size old = ready.i d size old device_is is name staged place bytes chosen in
    let k : HasStore d size old i name place =
    ready.k d size old device_is is name staged place bytes chosen in
    blocks_other (layout_of i.target).device.first_logical_sector k.keeps.blocks s
    (subst (λ (ss : List ℕ). IsOfBlocks ss s) (sym k.store_is)
    (first_in (store_at d place) n s fits here))

pub own_other : (d : Device) (size : ℕ) (old : Image) (device_is : IsDevice d size)
    (is : Represents d size old) (name : List ℕ) (staged : Option (List ℕ)) (place : ℕ)
    (bytes : List ℕ) (chosen : IsChosen d name staged place Blocks bytes) (s : ℕ)
    → InFirst (planned_at d place).map (length (planned_at d place).map) s
    → IsOfStatuses s
    → ⊥
own_other d size old device_is is name staged place bytes chosen s here =
    let i : Installs d size old = own.i d size old device_is is name staged place bytes chosen in
    let p : Placed d size old i name place =
    own.p d size old device_is is name staged place bytes chosen in
    blocks_other (layout_of i.target).device.first_logical_sector p.part.blocks s
    (subst (λ (ss : List ℕ). IsOfBlocks ss s) (ap (λ (x : Part). x.map) p.planned)
    (first_in (planned_at d place).map (length (planned_at d place).map) s (omega arith) here))

-- ---- what the calls touch

module _ {D : Type 0} (g : Ghosts D) where
  pub taken_later : (a b c : D)
      → g.is_modelled
      → OnlyReads g a b
      → Touches g (InSectors (IsFreeOrOther (g.seen b))) b c
      → Touches g (InSectors (IsFreeOrOther (g.seen a))) a c
  taken_later a b c t reads later =
      touches_then g (InSectors (IsFreeOrOther (g.seen a))) a b c
      (touches_reads g (InSectors (IsFreeOrOther (g.seen a))) a b reads)
      (subst (λ (i : Image). Touches g (InSectors (IsFreeOrOther i)) b c) (reads.seen t) later)

  pub taken_none : (V : ℕ → Type 0) (a b : D)
      → Touches g (InSectors V) a b
      → ((s : ℕ) → V s → IsOfStatuses s → ⊥)
      → Touches g (InSectors (IsFreeOrOther (g.seen a))) a b
  taken_none V a b touches other =
      touches_wider g (InSectors (IsFreeOrOther (g.seen a))) (InSectors V) a b touches
      (λ s x w is. absurd (other s w is))

  pub taken_first : (V : ℕ → Type 0) (a b c : D) (at : ℕ) (bytes : List ℕ)
      → Touches g (InSectors V) a b
      → ((s : ℕ) → V s → IsOfStatuses s → ⊥)
      → Touches g (IsAt at bytes) b c
      → IsFirstFree (g.seen a) (Some at)
      → Touches g (InSectors (IsFreeOrOther (g.seen a))) a c
  taken_first V a b c at bytes touches other gate free =
      touches_on g (InSectors V) (IsAt at bytes) (InSectors (IsFreeOrOther (g.seen a))) a b c
      touches gate
      (λ s x w is. absurd (other s w is))
      (λ s x w is. subst (λ (n : ℕ). IsFirstFree (g.seen a) (Some n)) (sym w.0) free)
