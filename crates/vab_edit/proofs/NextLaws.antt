-- The device with another table and plan of the target.
use Rattle.std.proofs.Common.{◌≡◌, ℕ, zero, suc, ◌<◌, List, ap, arith}
use Rattle.std.specs.Prelude.{Option, Some, map}
use Rattle.vab_disk.specs.Disk.{Image}
use Rattle.vab_bootctl.specs.declared.slots.Control.{Control}
use Rattle.vab_marks.specs.declared.mark.UpdateMark.{UpdateMark}
use Rattle.vab_marks.specs.declared.status.PartStatus.{PartStatus}
use Rattle.vab_tables.specs.declared.table.Table.{Table}
use Rattle.vab_geometry.specs.declared.geometry.Geometry.{Geometry}
use Rattle.vab_layout.specs.Layout.{layout_of}
use Rattle.vab_layout.specs.Slots.{other_slot}
use Rattle.vab_model.specs.declared.state.Phase.TheVariants.{Installing}
use Rattle.vab_physical.specs.declared.tail.Tail.{Tail}
use Rattle.vab_device.specs.declared.device.Part.{Part}
use Rattle.vab_device.specs.declared.device.Device.{Device}
use Rattle.vab_device.specs.Mounted.{images_on, entry_on, state_on, places_on, mounted_on}
use Rattle.vab_device.specs.Phases.{plan_of}
use Rattle.vab_device.specs.Reading.{kept}
use Rattle.vab_device.specs.Stores.{Scanned}
use Rattle.vab_device.specs.Updates.{plan_by, installing_with}
use Rattle.vab_edit.specs.Prepared.{with_target}
use Rattle.vab_edit.specs.Writes.{plan_at}
use Rattle.vab_edit.proofs.InstallingLaws.{read_at}

-- a device with an update, whose boot control is kept whole
abbrev pub device_at : UpdateMark
    → ℕ
    → List (Option PartStatus)
    → Control
    → Tail
    → Geometry
    → Table
    → Table
    → List Scanned
    → Control
    → Device
device_at base k statuses seen tail g s t scanned c =
    record (kept (read_at base k statuses seen tail g s t scanned)) { control = c }

pub target_kept : (base : UpdateMark) (k : ℕ) (statuses : List (Option PartStatus)) (seen : Control)
    (tail : Tail) (g : Geometry) (s t u : Table) (scanned : List Scanned) (c : Control)
    (plan : List Part)
    → k < 2
    → plan ≡ plan_of (other_slot k) (layout_of u) scanned
    → with_target (device_at base k statuses seen tail g s t scanned c) (other_slot k) u plan
    ≡ device_at base k statuses seen tail g s u scanned c
target_kept base zero statuses seen tail g s t u scanned c plan below is =
    ap
    (λ (p : List Part). record (device_at base 0 statuses seen tail g s u scanned c) {
      plan =
          Some p;
    }) is
target_kept base (suc zero) statuses seen tail g s t u scanned c plan below is =
    ap
    (λ (p : List Part). record (device_at base 1 statuses seen tail g s u scanned c) {
      plan =
          Some p;
    }) is
target_kept base (suc (suc n)) statuses seen tail g s t u scanned c plan below is =
    absurd (omega (arith, below))

-- what it means, where the images stay
pub mounted_next : (base : UpdateMark) (k : ℕ) (statuses : List (Option PartStatus))
    (seen : Control) (tail : Tail)
    (g : Geometry) (s t u : Table) (scanned : List Scanned) (c : Control) (old image : Image)
    → k < 2
    → images_on image (kept (read_at base k statuses seen tail g s t scanned)).a
    ≡ images_on old (kept (read_at base k statuses seen tail g s t scanned)).a
    → images_on image (kept (read_at base k statuses seen tail g s t scanned)).b
    ≡ images_on old (kept (read_at base k statuses seen tail g s t scanned)).b
    → map (entry_on image) (plan_of (other_slot k) (layout_of u) scanned)
    ≡ plan_by (other_slot k) (layout_of u)
    (map (entry_on old) (plan_of (other_slot k) (layout_of t) scanned))
    → mounted_on (device_at base k statuses seen tail g s u scanned c) image
    ≡ installing_with (mounted_on (device_at base k statuses seen tail g s t scanned c) old) k
    (plan_at base.apart old (plan_of (other_slot k) (layout_of t) scanned))
    (layout_of u)
unfolding state_on
mounted_next base zero statuses seen tail g s t u scanned c old image below a b entries =
    (λ i. record {
      state = record (state_on (device_at base 0 statuses seen tail g s t scanned c) old) {
        a = a i;
        b = b i;
        phase = Installing 0 (record { apart = base.apart; entries = entries i });
      };
      places = places_on (device_at base 0 statuses seen tail g s u scanned c);
    })
mounted_next base (suc zero) statuses seen tail g s t u scanned c old image below a b entries =
    (λ i. record {
      state = record (state_on (device_at base 1 statuses seen tail g s t scanned c) old) {
        a = a i;
        b = b i;
        phase = Installing 1 (record { apart = base.apart; entries = entries i });
      };
      places = places_on (device_at base 1 statuses seen tail g s u scanned c);
    })
mounted_next base (suc (suc n)) statuses seen tail g s t u scanned c old image below a b entries =
    absurd (omega (arith, below))
