-- What is known of the parts that were read.
use Rattle.std.proofs.Common.{◌≡◌, ℕ, false, Result, Ok, Err, refl}
use Rattle.std.proofs.Common.{◌∙◌, ap}
use Rattle.vab_disk.specs.Disk.{Image}
use Rattle.vab_geometry.specs.declared.geometry.Geometry.{Geometry}
use Rattle.vab_tables.specs.declared.table.Table.{Table}
use Rattle.vab_lpstore.specs.Loading.{slot_table}
use Rattle.vab_layout.specs.Layout.{layout_of}
use Rattle.vab_device.specs.declared.fault.StartFault.{StartFault}
use Rattle.vab_device.specs.declared.fault.StartFault.TheVariants.{BadTable}
use Rattle.vab_device.specs.Kept.{lies_in}
use Rattle.vab_device.specs.Reading.{table_read, table_at}

pub table_lies_not : (size : ℕ) (g : Geometry) (slot : ℕ) (image : Image) (t : Table)
    → slot_table g slot image ≡ Ok t
    → lies_in size g (layout_of t).device ≡ false
    → (let bad : Result Table StartFault = Err (BadTable slot) in table_at size g slot image ≡ bad)
unfolding table_at
table_lies_not size g slot image t said lies = ap (table_read size g slot) said ∙ rw lies refl
