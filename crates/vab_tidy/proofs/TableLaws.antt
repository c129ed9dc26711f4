-- The table of a slot alone in place of the slot's table: all that a disk means stays.
use Rattle.std.proofs.Common.{◌≡◌, ◌∙◌, ⊎_elim, ℕ, zero, suc, ◌≤◌, ◌<◌}
use Rattle.std.proofs.Common.{true, List, Ok, sym, ap, arith}
use Rattle.std.specs.Prelude.{Some}
use Rattle.vab_disk.specs.Disk.{Image, Outcome}
use Rattle.vab_bootctl.specs.declared.slots.Control.{Control}
use Rattle.vab_geometry.specs.declared.geometry.Geometry.{Geometry}
use Rattle.vab_geometry.specs.Geometry.{IsGeometry}
use Rattle.vab_tables.specs.declared.table.Table.{Table}
use Rattle.vab_tables.specs.Text.{IsTableText}
use Rattle.vab_physical.specs.declared.tail.Tail.{Tail}
use Rattle.vab_lpstore.specs.Layout.{copy_sectors, BothHold}
use Rattle.vab_lpstore.specs.Loading.{slot_table}
use Rattle.vab_lpstore.specs.Storing.{SameElsewhere, LeavesEitherTable}
use Rattle.vab_lpstore.proofs.StoreLaws.{both_table}
use Rattle.vab_layout.specs.Layout.{layout_of}
use Rattle.vab_layout.specs.Plain.{plain}
use Rattle.vab_device.specs.declared.device.Device.{Device}
use Rattle.vab_device.specs.Kept.{lies_in}
use Rattle.vab_device.specs.Reading.{device, Represents}
use Rattle.vab_device.proofs.ReadingLaws.{device_same}
use Rattle.vab_device.proofs.RepairLaws.{repair_same}
use Rattle.vab_device.proofs.UpdateLaws.{kept_with}
use Rattle.vab_tidy.specs.Kept.{with_table}
use Rattle.vab_tidy.specs.Stays.{LeavesSame}
use Rattle.vab_device.proofs.AlikeLaws.{parts_are, cap_is, limits_are, reads_alike, means_alike}
use Rattle.vab_device.proofs.AlikeLaws.{control_alike, version_alike}
use Rattle.vab_tidy.proofs.AloneLaws.{place_is}
use Rattle.vab_marks.specs.declared.mark.UpdateMark.{UpdateMark}
use Rattle.vab_marks.specs.Mark.{resloted}
use Rattle.vab_device.proofs.StandsLaws.{StandsIdle, read_at}

-- ---- what is kept

-- another table of which the same is kept
kept_alone : (m : UpdateMark) (slot : ℕ) (seen c : Control) (tail : Tail) (g : Geometry)
    (t u : Table)
    → slot < 2
    → layout_of u ≡ plain slot (layout_of t)
    → with_table u (kept_with (read_at (resloted slot m) seen tail g t) c)
    ≡ kept_with (read_at (resloted slot m) seen tail g u) c
kept_alone m zero seen c tail g t u below is =
    (λ i. record (kept_with (read_at (resloted 0 m) seen tail g u) c) {
      cap = sym (cap_is 0 t u (place_is 0 t u is)) i;
      groups = sym (limits_are 0 t u (place_is 0 t u is)) i;
      a = Some (sym (parts_are 0 t u (place_is 0 t u is)) i);
    })
kept_alone m (suc zero) seen c tail g t u below is =
    (λ i. record (kept_with (read_at (resloted 1 m) seen tail g u) c) {
      cap = sym (cap_is 1 t u (place_is 1 t u is)) i;
      groups = sym (limits_are 1 t u (place_is 1 t u is)) i;
      b = Some (sym (parts_are 1 t u (place_is 1 t u is)) i);
    })
kept_alone m (suc (suc n)) seen c tail g t u below is = absurd (omega (arith, below))

-- ---- the disk

module _
    (d : Device) (size n : ℕ) (old image : Image) (t u : Table)
    (st : StandsIdle d size old t)
    (below : d.mark.slot < 2)
    (geometry : IsGeometry d.geometry)
    (lies : lies_in d.tail.super_end d.geometry (layout_of t).device ≡ true)
    (is : layout_of u ≡ plain d.mark.slot (layout_of t))
    (fits : n ≤ copy_sectors d.geometry)
    (others : SameElsewhere d.geometry d.mark.slot n old image) where
  pub means_alone : slot_table d.geometry d.mark.slot image ≡ Ok u
      → device size image ≡ device size old
  means_alone =
      means_alike d size n old image t u st below geometry lies
      (place_is d.mark.slot t u is) fits others

  -- where both copies hold the text, the kept device is that of the disk
  pub represents_alone : (text : List ℕ)
      → IsTableText d.geometry.max text u
      → BothHold d.geometry d.mark.slot text image
      → Represents (with_table u d) size image
  represents_alone text of_text held = record {
    read = read_at d.mark d.control d.tail d.geometry u;
    reads =
        reads_alike d size n old image t u st below geometry lies
        (place_is d.mark.slot t u is) fits others
        (both_table d.geometry d.mark.slot text u image held of_text);
    is =
        ap (with_table u) st.is
        ∙ kept_alone d.mark d.mark.slot d.control d.control d.tail d.geometry t u below is;
    control =
        control_alike d size n old image t u st below geometry lies
        (place_is d.mark.slot t u is) fits others;
    copies = ((text, of_text, held), tt);
    version =
        version_alike d size n old image t u st below geometry lies
        (place_is d.mark.slot t u is) fits others
        ∙ st.version;
  }

-- each outcome of storing it is a disk that means the same
pub leaves_alone : (d : Device) (size n : ℕ) (old : Image) (t u : Table) (told : List ℕ)
    (o : Outcome)
    → StandsIdle d size old t
    → d.mark.slot < 2
    → IsGeometry d.geometry
    → lies_in d.tail.super_end d.geometry (layout_of t).device ≡ true
    → layout_of u ≡ plain d.mark.slot (layout_of t)
    → n ≤ copy_sectors d.geometry
    → LeavesEitherTable told d.geometry d.mark.slot n old t u o
    → LeavesSame told size old o
leaves_alone d size n old t u told o st below geometry lies is fits leaves = record {
  told_so_far = leaves.told_so_far;
  same =
      ⊎_elim
      (λ was.
      device_same size (read_at d.mark d.control d.tail d.geometry t) old o.image st.reads
      (repair_same size n d.mark.slot (read_at d.mark d.control d.tail d.geometry t) old o.image
      geometry below below fits st.reads leaves.others
      (was
      ∙ sym (both_table d.geometry d.mark.slot st.copies.0.0 t old st.copies.0.2 st.copies.0.1))))
      (λ now.
      means_alone d size n old o.image t u st below geometry lies is fits leaves.others now)
      leaves.table;
}
