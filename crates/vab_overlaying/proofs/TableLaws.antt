-- A table that is the same without stores in place of the slot's: all that the disk means stays.
use Rattle.std.proofs.Common.{◌≡◌, ◌∙◌, inl, inr, ⊎_elim, ℕ, zero, suc, ◌≤◌, ◌<◌}
use Rattle.std.proofs.Common.{true, List, Ok, refl, sym, ap, arith}
use Rattle.std.specs.Prelude.{◌==◌}
use Rattle.std.proofs.lemmas.Bool.{cases_Bool}
use Rattle.vab_disk.specs.Disk.{Image, Outcome}
use Rattle.vab_bootctl.specs.declared.slots.Control.{Control}
use Rattle.vab_marks.specs.declared.mark.UpdateMark.{UpdateMark}
use Rattle.vab_marks.specs.Mark.{resloted}
use Rattle.vab_geometry.specs.declared.geometry.Geometry.{Geometry}
use Rattle.vab_geometry.specs.Geometry.{IsGeometry}
use Rattle.vab_tables.specs.declared.table.Table.{Table}
use Rattle.vab_physical.specs.declared.tail.Tail.{Tail}
use Rattle.vab_tables.specs.Text.{IsTableText}
use Rattle.vab_lpstore.specs.Layout.{copy_sectors, BothHold}
use Rattle.vab_lpstore.specs.Storing.{SameElsewhere, LeavesEitherTable}
use Rattle.vab_lpstore.proofs.StoreLaws.{both_table}
use Rattle.vab_layout.specs.Layout.{layout_of}
use Rattle.vab_layout.specs.Plain.{plain}
use Rattle.vab_device.specs.declared.device.Device.{Device}
use Rattle.vab_device.specs.Kept.{lies_in}
use Rattle.vab_device.specs.Mounted.{mounted_on}
use Rattle.vab_device.specs.Reading.{Represents}
use Rattle.vab_device.proofs.ReadingLaws.{device_same, device_stands}
use Rattle.vab_device.proofs.RepairLaws.{repair_same}
use Rattle.vab_device.proofs.UpdateLaws.{kept_with}
use Rattle.vab_device.proofs.StandsLaws.{StandsIdle, read_at}
use Rattle.vab_device.proofs.AlikeLaws.{cap_is, limits_are, reads_alike, means_alike}
use Rattle.vab_device.proofs.AlikeLaws.{control_alike, version_alike}
use Rattle.vab_overlaying.specs.Begun.{with_table}
use Rattle.vab_device.proofs.BehindLaws.{LeavesMounted}

-- the kept device of the new table
kept_stored : (m : UpdateMark) (slot : ℕ) (c seen : Control) (tail : Tail) (g : Geometry)
    (t u : Table)
    → slot < 2
    → plain slot (layout_of u) ≡ plain slot (layout_of t)
    → with_table (kept_with (read_at (resloted slot m) seen tail g t) c) u
    ≡ kept_with (read_at (resloted slot m) seen tail g u) c
kept_stored m zero c seen tail g t u below is =
    (λ i. record (kept_with (read_at (resloted 0 m) seen tail g u) c) {
      cap = sym (cap_is 0 t u is) i;
      groups = sym (limits_are 0 t u is) i;
    })
kept_stored m (suc zero) c seen tail g t u below is =
    (λ i. record (kept_with (read_at (resloted 1 m) seen tail g u) c) {
      cap = sym (cap_is 1 t u is) i;
      groups = sym (limits_are 1 t u is) i;
    })
kept_stored m (suc (suc n)) c seen tail g t u below is = absurd (omega (arith, below))

-- ---- what stays of the kept device

-- its boot control is the same
pub control_stays : (d : Device) (u : Table) → (with_table d u).control ≡ d.control
control_stays d u = elim (cases_Bool (d.mark.slot == 0)) [
  | inl a ↦ rw a refl
  | inr b ↦ rw b refl
]

-- and its geometry
pub geometry_stays : (d : Device) (u : Table) → (with_table d u).geometry ≡ d.geometry
geometry_stays d u = elim (cases_Bool (d.mark.slot == 0)) [
  | inl a ↦ rw a refl
  | inr b ↦ rw b refl
]

pub cap_stays : (d : Device) (u : Table) → (with_table d u).cap ≡ d.cap
cap_stays d u = elim (cases_Bool (d.mark.slot == 0)) [
  | inl a ↦ rw a refl
  | inr b ↦ rw b refl
]

-- ---- the disk

module _
    (d : Device) (size n : ℕ) (old image : Image) (t u : Table)
    (st : StandsIdle d size old t)
    (below : d.mark.slot < 2)
    (geometry : IsGeometry d.geometry)
    (lies : lies_in d.tail.super_end d.geometry (layout_of t).device ≡ true)
    (is : plain d.mark.slot (layout_of u) ≡ plain d.mark.slot (layout_of t))
    (fits : n ≤ copy_sectors d.geometry)
    (others : SameElsewhere d.geometry d.mark.slot n old image) where
  -- where both copies hold the text, the kept device is that of the disk
  pub represents_stored : (text : List ℕ)
      → IsTableText d.geometry.max text u
      → BothHold d.geometry d.mark.slot text image
      → Represents (with_table d u) size image
  represents_stored text of_text held = record {
    read = read_at d.mark d.control d.tail d.geometry u;
    reads =
        reads_alike d size n old image t u st below geometry lies is fits others
        (both_table d.geometry d.mark.slot text u image held of_text);
    is =
        ap (λ (x : Device). with_table x u) st.is
        ∙ kept_stored d.mark d.mark.slot d.control d.control d.tail d.geometry t u below is
        ∙ ap (kept_with (read_at d.mark d.control d.tail d.geometry u)) (sym (control_stays d u));
    control =
        control_alike d size n old image t u st below geometry lies is fits others
        ∙ ap Ok (sym (control_stays d u));
    copies = ((text, of_text, held), tt);
    version =
        version_alike d size n old image t u st below geometry lies is fits others
        ∙ st.version;
  }

-- each outcome of storing it is a disk that means the same
pub leaves_stored : (d : Device) (size n : ℕ) (old : Image) (t u : Table) (told : List ℕ)
    (o : Outcome)
    → Represents d size old
    → StandsIdle d size old t
    → d.mark.slot < 2
    → IsGeometry d.geometry
    → lies_in d.tail.super_end d.geometry (layout_of t).device ≡ true
    → plain d.mark.slot (layout_of u) ≡ plain d.mark.slot (layout_of t)
    → n ≤ copy_sectors d.geometry
    → LeavesEitherTable told d.geometry d.mark.slot n old t u o
    → LeavesMounted told size (mounted_on d old) o
leaves_stored d size n old t u told o is st below geometry lies same fits leaves = record {
  told_so_far = leaves.told_so_far;
  means =
      ⊎_elim
      (λ was.
      device_same size (read_at d.mark d.control d.tail d.geometry t) old o.image st.reads
      (repair_same size n d.mark.slot (read_at d.mark d.control d.tail d.geometry t) old o.image
      geometry below below fits st.reads leaves.others
      (was
      ∙ sym (both_table d.geometry d.mark.slot st.copies.0.0 t old st.copies.0.2 st.copies.0.1))))
      (λ now.
      means_alike d size n old o.image t u st below geometry lies same fits leaves.others now)
      leaves.table
      ∙ device_stands d size old is;
}

-- and so does the disk behind it
pub mounted_behind : (d : Device) (size n : ℕ) (old new : Image) (t u : Table) (text : List ℕ)
    → Represents d size old
    → StandsIdle d size old t
    → d.mark.slot < 2
    → IsGeometry d.geometry
    → lies_in d.tail.super_end d.geometry (layout_of t).device ≡ true
    → plain d.mark.slot (layout_of u) ≡ plain d.mark.slot (layout_of t)
    → n ≤ copy_sectors d.geometry
    → SameElsewhere d.geometry d.mark.slot n old new
    → IsTableText d.geometry.max text u
    → BothHold d.geometry d.mark.slot text new
    → mounted_on (with_table d u) new ≡ mounted_on d old
mounted_behind d size n old new t u text is st below geometry lies same fits others of_text held =
    let now = represents_stored d size n old new t u st below geometry lies same fits others text
    of_text held in
    let means = means_alike d size n old new t u st below geometry lies same fits others
    (both_table d.geometry d.mark.slot text u new held of_text) in
    let both : Ok (mounted_on (with_table d u) new) ≡ Ok (mounted_on d old) =
    sym (device_stands (with_table d u) size new now) ∙ means ∙ device_stands d size old is in
    cc
