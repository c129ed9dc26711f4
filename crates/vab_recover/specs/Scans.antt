-- Images that are scanned.
use Rattle.std.specs.Prelude.{◌≡◌, ◌⊎◌, ℕ, Bool, true, false, List, [], length, Option, Some, None}
use Rattle.std.specs.Prelude.{Result, Ok, Err}
use Rattle.vab_disk.specs.Disk.{Image}
use Rattle.vab_marks.specs.declared.status.PartStatus.{PartStatus}
use Rattle.vab_marks.specs.declared.status.StatusImage.TheVariants.{Stored, InPlace}
use Rattle.vab_exceptions.specs.declared.area.Exception.{Exception}
use Rattle.vab_space.specs.declared.Chunk.{Chunk}
use Rattle.vab_store.specs.View.{Fits}
use Rattle.vab_layout.specs.declared.layout.Part.{Part as PartOfLayout}
use Rattle.vab_layout.specs.declared.layout.Layout.{Layout}
use Rattle.vab_layout.specs.Slots.{own_parts}
use Rattle.vab_device.specs.declared.fault.StartFault.{StartFault}
use Rattle.vab_device.specs.Kept.{sectors_of}
use Rattle.vab_device.specs.Phases.{store_on}
use Rattle.vab_device.specs.Stores.{Wanted, Scanned, first_named, scan_at}

-- the exceptions of an image that is wanted, or the fault
abbrev pub wanted_at : Result Wanted StartFault → Image → Result Scanned StartFault
wanted_at (Ok w) image = scan_at w image
wanted_at (Err fault) image = Err fault

-- the blocks of the slot's partition of this name, and those of its store
pub record AreBlocks (slot : ℕ) (l : Layout) (name base store : List ℕ) : Type 0 where
  pub part : PartOfLayout
  pub named : first_named name (own_parts slot l.parts) ≡ Some part
  pub base_is : base ≡ sectors_of l.device.first_logical_sector part.blocks
  pub stored : store_on l name ≡ Some store

-- the slot has no partition of this name, or that has no store
abbrev pub IsMissing : ℕ → Layout → List ℕ → Type 0
IsMissing slot l name =
    (first_named name (own_parts slot l.parts) ≡ None) ⊎ (store_on l name ≡ None)

-- exceptions keep the rules of a store's list, and an image in place has none
abbrev pub AreExceptions : Chunk → (blocks : ℕ) → Option (List ℕ) → List Exception → Type 0
AreExceptions k blocks None es = es ≡ []
AreExceptions k blocks (Some store) es = Fits k blocks store es

-- these are the exceptions of that partition
pub record IsScanned (slot : ℕ) (l : Layout) (s : Scanned) : Type 0 where
  pub part : PartOfLayout
  pub store : Option (List ℕ)
  pub named : first_named s.name (own_parts slot l.parts) ≡ Some part
  pub stored : store_on l s.name ≡ store
  pub fits : AreExceptions s.chunk (length part.blocks) store s.exceptions

-- there is this partition, and it has no store
abbrev pub is_placed : Option PartOfLayout → (store : Option PartOfLayout) → Bool
is_placed None store = false
is_placed (Some p) None = true
is_placed (Some p) (Some store) = false

-- the status of a store
abbrev pub status_stored : (name : List ℕ) → (count : ℕ) → Chunk → PartStatus
status_stored name count k = record { name = name; image = Stored count k }

-- the status of an image in place
abbrev pub status_placed : (name : List ℕ) → PartStatus
status_placed name = record { name = name; image = InPlace }
