-- What is read of a partition that is overlaid while there is no update.
use Rattle.std.specs.Prelude.{◌≡◌, ℕ, Bool, true, false, List, [], ◌∷◌, length, Option, Some, None}
use Rattle.std.specs.Prelude.{Ok}
use Rattle.vab_disk.specs.Disk.{Image}
use Rattle.vab_exceptions.specs.declared.area.Exception.{Exception}
use Rattle.vab_space.specs.declared.Chunk.TheVariants.{One}
use Rattle.vab_store.specs.View.{Fits}
use Rattle.vab_tables.specs.declared.table.Table.{Table}
use Rattle.vab_layout.specs.declared.layout.Layout.{Layout}
use Rattle.vab_layout.specs.Layout.{layout_of}
use Rattle.vab_layout.specs.Overlay.{Overlaid, overlaid_in}
use Rattle.vab_device.specs.declared.device.Part.{Part}
use Rattle.vab_device.specs.Checks.{first_fault}
use Rattle.vab_device.specs.Kept.{sectors_of}
use Rattle.vab_device.specs.Phases.{overlay_checks, overlay_wanted, overlay_of}
use Rattle.vab_device.specs.Stores.{Wanted, Scanned, scans_in}

-- where a slot is overlaid, exactly one partition is, and its store stands apart
abbrev pub KeepsOverlay : (overlaid : Bool) → ℕ → Layout → Type 0
KeepsOverlay overlaid slot l = first_fault (overlay_checks overlaid slot l) ≡ None

-- the list that is read of the store over a partition of this name
abbrev pub wanted_there : (name base store : List ℕ) → Wanted
wanted_there name base store = record {
  name = name;
  base = base;
  store = Some store;
  chunk = One;
  count = length store;
  fewer = true;
  clean = true;
}

-- This alone was scanned: the store over the one partition that has one, whose exceptions keep the
-- rules of a list.
pub record IsOverScanned (slot : ℕ) (l : Layout) (scanned : List Scanned) : Type 0 where
  pub over : Overlaid
  pub found : overlaid_in slot l.parts ≡ Some over
  pub exceptions : List Exception
  pub fits : Fits One (length over.part.blocks)
      (sectors_of l.device.first_logical_sector over.store.blocks)
      exceptions
  pub is : scanned
      ≡ record { name = over.part.name; chunk = One; exceptions = exceptions } ∷ []

-- where the slot is overlaid
abbrev pub AreOverScanned : (overlaid : Bool) → ℕ → Layout → List Scanned → Type 0
AreOverScanned false slot l scanned = Unit {0}
AreOverScanned true slot l scanned = IsOverScanned slot l scanned

-- the partition that is overlaid, with what its store holds, where the slot is overlaid
pub record IsOverlayRead
    (modelled : Type 0)
    (overlaid : Bool)
    (slot : ℕ)
    (t : Table)
    (image : Image)
    (overlay : Option Part) : Type 0 where
  pub scanned : List Scanned
  pub is : overlay ≡ overlay_of overlaid slot (layout_of t) scanned
  pub are : AreOverScanned overlaid slot (layout_of t) scanned
  pub read : modelled
      → scans_in (overlay_wanted overlaid slot (layout_of t)) image ≡ Ok scanned
