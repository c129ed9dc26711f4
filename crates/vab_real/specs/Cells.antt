-- What a port's sectors are.
use Rattle.std.specs.Prelude.{◌≡◌, ℕ, ◌<◌, ◌^◌}
use Rattle.vab_disk.specs.Disk.{Image, Faults}
use Rattle.vab_real.specs.Pages.{image_of}
use Rattle.vab_real.specs.declared.cells.Cells.{Cells}
use Rattle.vab_real.specs.declared.cells.Cells.TheVariants.{Memory, File}

-- how many sectors there are
abbrev pub size_of : Cells → ℕ
size_of (Memory p) = p.sectors
size_of (File d) = d.store.sectors

-- the sectors are in memory, and read so
abbrev pub HasImage : Cells → Image → Type 0
HasImage (Memory p) image = (s : ℕ) → image_of p s ≡ image s
HasImage (File d) image = ⊥

pub cells_small : (c : Cells) → size_of c < 2 ^ 55
cells_small (Memory p) = p.small
cells_small (File d) = d.store.small

-- no call has failed yet
abbrev pub no_faults : Faults
no_faults = record { disk = 0; source = 0; sink = 0 }
