-- The store of an overlay stands behind the copies of the tables, and no image has a sector of it.
use Rattle.std.proofs.Common.{ℕ, ◌-◌, ◌*◌, ◌≤◌, sym, ap, subst}
use Rattle.vab_disk.specs.Disk.{Image}
use Rattle.vab_geometry.specs.declared.geometry.Geometry.{Geometry}
use Rattle.vab_device.specs.declared.device.Device.{Device}
use Rattle.vab_device.specs.Kept.{IsDevice, copies_end, parts_at}
use Rattle.vab_device.specs.Reading.{Represents, IsOfImages}
use Rattle.vab_overlaying.specs.Writes.{IsOfOverlaid}
use Rattle.vab_overlaying.proofs.ShapeLaws.{IsOver, over_of}
use Rattle.vab_overlaying.proofs.NextLaws.{store_stored, behind, none_of_images}

-- where a sector of the store stands
pub record IsClear (d : Device) (s : ℕ) : Type 0 where
  pub behind : copies_end d.geometry ≤ 512 * (s - 4096)
  pub not_source : IsOfImages (parts_at d d.mark.slot) s → ⊥

pub overlaid_clear : (d : Device) (size : ℕ) (image : Image) (s : ℕ)
    → IsDevice d size
    → Represents d size image
    → IsOfOverlaid d s
    → IsClear d s
overlaid_clear d size image s dev is w =
    let i : IsOver d size image is.read w.part = over_of d size image dev is w.part w.is in
    let here = store_stored d size image dev is w.part w.is i w.store w.stored s w.inside in
    record {
      behind =
          subst (λ (g : Geometry). copies_end g ≤ 512 * (s - 4096))
          (sym (ap (λ (k : Device). k.geometry) is.is))
          (behind d size image dev is w.part w.is i s here);
      not_source = λ source. none_of_images d size image dev is w.part w.is i s source here;
    }
