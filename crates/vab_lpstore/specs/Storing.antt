-- What is written of a slot's table, and what a crash leaves while its copies are.
use Rattle.std.specs.Prelude.{◌≡◌, ◌⊎◌, ℕ, Bool, true, false, List, length, Ok}
use Rattle.vab_disk.specs.Disk.{Image, Outcome}
use Rattle.vab_copies.specs.Copies.{IsOutside, IsOfText, IsOfCopy, IsOfEither}
use Rattle.vab_geometry.specs.declared.geometry.Geometry.{Geometry}
use Rattle.vab_tables.specs.declared.table.Table.{Table}
use Rattle.vab_lpstore.specs.declared.loaded.Loaded.{Loaded}
use Rattle.vab_lpstore.specs.Layout.{primary_of, backup_of, text_sectors}
use Rattle.vab_lpstore.specs.Loading.{slot_table}

-- what storing a text writes: the sectors of both copies
abbrev pub IsOfTable : Geometry → ℕ → List ℕ → ℕ → List ℕ → Type 0
IsOfTable g slot text =
    IsOfEither (text_sectors (length text)) (primary_of g slot) (backup_of g slot) text

-- what a repair writes, where the primary and the backup hold the text or not: the one that doesn't
abbrev pub IsOfRepair : Bool → Bool → Geometry → ℕ → List ℕ → ℕ → List ℕ → Type 0
IsOfRepair false backup g slot text s b =
    IsOfCopy (text_sectors (length text)) (primary_of g slot) text s b
IsOfRepair true false g slot text s b =
    IsOfText 0 (text_sectors (length text)) (backup_of g slot) text s b
IsOfRepair true true g slot text s b = ⊥

-- all but n sectors of both copies is as before
abbrev pub SameElsewhere : Geometry → ℕ → ℕ → Image → Image → Type 0
SameElsewhere g slot n old image = (s : ℕ)
    → IsOutside (primary_of g slot) n s
    → IsOutside (backup_of g slot) n s
    → image s ≡ old s

-- with nothing more told the slot's table is this one
pub record LeavesTable
    (told : List ℕ)
    (g : Geometry)
    (slot n : ℕ)
    (old : Image)
    (t : Table)
    (o : Outcome) : Type 0 where
  pub told_so_far : o.told ≡ told
  pub others : SameElsewhere g slot n old o.image
  pub table : slot_table g slot o.image ≡ Ok t

-- with nothing more told the slot's table is one of two
pub record LeavesEitherTable
    (told : List ℕ)
    (g : Geometry)
    (slot n : ℕ)
    (old : Image)
    (t u : Table)
    (o : Outcome) : Type 0 where
  pub told_so_far : o.told ≡ told
  pub others : SameElsewhere g slot n old o.image
  pub table : (slot_table g slot o.image ≡ Ok t) ⊎ (slot_table g slot o.image ≡ Ok u)
