-- The images that statuses name, and what is read of their stores.
use Rattle.std.specs.Prelude.{ℕ, ◌+◌, ◌==◌, nat_le, Bool, true, false, ◌&&◌, if◌then◌else◌, List}
use Rattle.std.specs.Prelude.{[]}
use Rattle.std.specs.Prelude.{◌∷◌, length, slice_index_or, Option, Some, None, Result, Ok, Err}
use Rattle.std.specs.Str.{bytes_eq}
use Rattle.vab_disk.specs.Disk.{Image}
use Rattle.vab_names.specs.Names.{store_of}
use Rattle.vab_marks.specs.declared.status.PartStatus.{PartStatus}
use Rattle.vab_marks.specs.declared.status.StatusImage.{StatusImage}
use Rattle.vab_marks.specs.declared.status.StatusImage.TheVariants.{Stored, InPlace}
use Rattle.vab_exceptions.specs.declared.area.Exception.{Exception}
use Rattle.vab_space.specs.declared.Chunk.{Chunk}
use Rattle.vab_space.specs.declared.Chunk.TheVariants.{One}
use Rattle.vab_store.specs.declared.fault.StoreFault.{StoreFault}
use Rattle.vab_store.specs.Clean.{ends_clean}
use Rattle.vab_store.specs.Scan.{scan_of}
use Rattle.vab_store.specs.View.{stored_at}
use Rattle.vab_layout.specs.declared.layout.Part.{Part as PartOfLayout}
use Rattle.vab_layout.specs.declared.layout.Layout.{Layout}
use Rattle.vab_layout.specs.Slots.{own_parts}
use Rattle.vab_device.specs.declared.fault.StartFault.{StartFault}
use Rattle.vab_device.specs.declared.fault.StartFault.TheVariants.{BadStore}
use Rattle.vab_device.specs.Checks.{unless, ◌>>=◌}
use Rattle.vab_device.specs.Kept.{sectors_of}

-- An image that a status names: the partition's whole name, its blocks and those of its store, each
-- as its first sector, where it isn't in place; the size of a chunk and how many exceptions the
-- status says, and whether there may be fewer: while a store is merged, exceptions leave its list.
-- And whether behind the list's end its page is to have no exception.
pub record Wanted : Type 0 where
  pub name : List ℕ
  pub base : List ℕ
  pub store : Option (List ℕ)
  pub chunk : Chunk
  pub count : ℕ
  pub fewer : Bool
  pub clean : Bool

-- the exceptions of the store of a partition, and the size of its chunks
pub record Scanned : Type 0 where
  pub name : List ℕ
  pub chunk : Chunk
  pub exceptions : List Exception

-- the first partition of this name
abbrev pub first_named : List ℕ → List PartOfLayout → Option PartOfLayout
first_named name [] = None
first_named name (p ∷ ps) = if bytes_eq p.name name then Some p else first_named name ps

-- the image of a status of this name, in the store of that partition, where there are both; or in
-- place, where an image may be so and there is no store
abbrev pub image_wanted : (in_place : Bool)
    → ℕ
    → List ℕ
    → StatusImage
    → Option PartOfLayout
    → Option PartOfLayout
    → Result Wanted StartFault
image_wanted in_place first name image None store = Err (BadStore name)
image_wanted in_place first name InPlace (Some p) (Some store) = Err (BadStore name)
image_wanted in_place first name InPlace (Some p) None =
    unless in_place (BadStore name) (Ok (record {
      name = name;
      base = sectors_of first p.blocks;
      store = None;
      chunk = One;
      count = 0;
      fewer = false;
      clean = false;
    }))
image_wanted in_place first name (Stored count chunk) (Some p) None = Err (BadStore name)
image_wanted in_place first name (Stored count chunk) (Some p) (Some store) = Ok (record {
  name = name;
  base = sectors_of first p.blocks;
  store = Some (sectors_of first store.blocks);
  chunk = chunk;
  count = count;
  fewer = false;
  clean = false;
})

abbrev pub wanted_by : (in_place : Bool)
    → ℕ
    → PartStatus
    → Option PartOfLayout
    → Option PartOfLayout
    → Result Wanted StartFault
wanted_by in_place first s p store = image_wanted in_place first s.name s.image p store

-- the image of the slot's partition of that name, which may stand in place or not, or the fault
-- that there is none
abbrev pub wanted_of : (in_place : Bool) → ℕ → Layout → PartStatus → Result Wanted StartFault
wanted_of in_place slot l s =
    wanted_by in_place l.device.first_logical_sector s
    (first_named s.name (own_parts slot l.parts))
    (first_named (store_of s.name) l.parts)

-- the same, of which there may be fewer exceptions
abbrev pub or_fewer : Result Wanted StartFault → Result Wanted StartFault
or_fewer (Ok w) = Ok (record w { fewer = true })
or_fewer (Err fault) = Err fault

-- ---- what is read of them

-- so many exceptions are as many as the status says, or no more where there may be fewer
abbrev pub is_long : (fewer : Bool) → (count n : ℕ) → Bool
is_long fewer count n = if fewer then nat_le n count else n == count

-- a list of exceptions as long as that, in chunks of the status's size
abbrev pub scan_read : Wanted → Result (List Exception) StoreFault → Result Scanned StartFault
scan_read w (Ok es) =
    unless (is_long w.fewer w.count (length es)) (BadStore w.name)
    (Ok (record { name = w.name; chunk = w.chunk; exceptions = es }))
scan_read w (Err fault) = Err (BadStore w.name)

-- it is asked of chunks of one block alone
abbrev pub is_one : Chunk → Bool
is_one One = true
is_one _ = false

-- the same, where behind its end the page has no exception, if that is asked
abbrev pub clean_by : (clean : Bool)
    → List ℕ
    → List ℕ
    → Image
    → Result Scanned StartFault
    → Result Scanned StartFault
clean_by false name store image x = x
clean_by true name store image (Err fault) = Err fault
clean_by true name store image (Ok s) =
    unless (ends_clean store (length s.exceptions) image) (BadStore name) (Ok s)

-- an image in place has no exceptions
abbrev pub scan_by : Wanted → Option (List ℕ) → Image → Result Scanned StartFault
scan_by w None image = Ok (record { name = w.name; chunk = w.chunk; exceptions = [] })
scan_by w (Some store) image =
    clean_by (w.clean && is_one w.chunk) w.name store image
    (scan_read w (scan_of w.chunk store (length w.base) image))

unfoldable pub scan_at : Wanted → Image → Result Scanned StartFault
scan_at w image = scan_by w w.store image

-- those of all images, or the first fault
abbrev pub scans_in : List (Result Wanted StartFault) → Image → Result (List Scanned) StartFault
scans_in [] image = Ok []
scans_in (Err fault ∷ ws) image = Err fault
scans_in (Ok w ∷ ws) image =
    scan_at w image >>= λ s.
    scans_in ws image >>= λ rest.
    Ok (s ∷ rest)

-- those of the partition of this name, where a status names it
abbrev pub scanned_named : List ℕ → List Scanned → Option Scanned
scanned_named name [] = None
scanned_named name (s ∷ ss) = if bytes_eq s.name name then Some s else scanned_named name ss

-- ---- what a partition reads as through its store

-- the first sector of a block: of the store's block, where an exception has its chunk and the store
-- has that block, else of the partition's own
abbrev pub sector_seen : List ℕ → ℕ → Option ℕ → ℕ
sector_seen store own (Some stored) = slice_index_or store stored own
sector_seen store own None = own

-- for each block, counted from this number on, the first of the sectors that a read of it takes
abbrev pub sectors_seen : Chunk → List ℕ → List Exception → ℕ → List ℕ → List ℕ
sectors_seen k store es n [] = []
sectors_seen k store es n (own ∷ owns) =
    sector_seen store own (stored_at k es n) ∷ sectors_seen k store es (n + 1) owns
