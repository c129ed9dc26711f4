-- Where the copies of a table stand, and what is read there.
use Rattle.std.proofs.Common.{◌≡◌, ◌∙◌, ℕ, ◌+◌, ◌*◌, ◌/◌, ◌≤◌, ◌<◌, true, Ok, refl, ap, arith}
use Rattle.std.proofs.Math.Nat.{mul-le-mul_right}
use Rattle.vab_disk.specs.Disk.{Image}
use Rattle.vab_geometry.specs.declared.geometry.Geometry.{Geometry}
use Rattle.vab_geometry.specs.Geometry.{IsGeometry}
use Rattle.vab_tables.specs.declared.table.Table.{Table}
use Rattle.vab_lpstore.specs.Layout.{copy_sectors, backup_of}
use Rattle.vab_lpstore.specs.Loading.{slot_table}
use Rattle.vab_lpstore.proofs.StoreLaws.{backup_byte}
use Rattle.vab_layout.specs.Layout.{layout_of}
use Rattle.vab_device.specs.Kept.{copies_end, super_bytes, lies_in}
use Rattle.vab_device.specs.Reading.{table_read, table_at}

-- both copies of a slot's table are on the disk where all copies are
pub copies_on_disk : (g : Geometry) (slot size : ℕ)
    → IsGeometry g
    → slot < 2
    → copies_end g ≤ super_bytes size
    → backup_of g slot + copy_sectors g ≤ size
copies_on_disk g slot size rules below on =
    let whole : 512 * (g.max / 512) ≡ g.max = omega (arith, rules.sectors) in
    let byte = backup_byte g slot rules in
    let most : (g.slots + slot + 1) * g.max ≤ (2 * g.slots) * g.max =
    mul-le-mul_right g.max (omega (arith, rules.two, below)) in
    omega (arith, whole, byte, most, on, rules.least)

pub table_is : (size : ℕ) (g : Geometry) (slot : ℕ) (image : Image) (t : Table)
    → slot_table g slot image ≡ Ok t
    → lies_in size g (layout_of t).device ≡ true
    → table_at size g slot image ≡ Ok t
unfolding table_at
table_is size g slot image t said lies = ap (table_read size g slot) said ∙ rw lies refl
