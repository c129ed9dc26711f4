-- The sectors that a command may write.
use Rattle.std.specs.Prelude.{ℕ, ◌^◌, nat_le, true, false, List, Option}
use Rattle.vab_model.specs.Commands.{Command, SetActive, Boot, Mark, Print, Digest, Begin, Create}
use Rattle.vab_model.specs.Commands.{Resize, Delete, Snapshot, Flash, Finish, Cancel, BeginMerge}
use Rattle.vab_model.specs.Commands.{Merge, Factory, UpdateSuper, Overlay, OverlayWrite}
use Rattle.vab_model.specs.Commands.{OverlayDiscard, Keep}
use Rattle.vab_device.specs.declared.device.Device.{Device}
use Rattle.vab_device.specs.Updates.{create_edit, resize_edit, delete_edit, snapshot_edit}
use Rattle.vab_device.specs.Updates.{no_guard, settled_guard, store_guard}
use Rattle.vab_manager.specs.Controls as slots
use Rattle.vab_begin.specs.Writes.{IsOfBegun, IsOfCancelled}
use Rattle.vab_edit.specs.Writes.{IsOfEdit}
use Rattle.vab_finish.specs.Writes.{IsOfFinished}
use Rattle.vab_flash.specs.Touched.{IsOfFlash}
use Rattle.vab_merging.specs.GateWrites.{IsOfMergeBegun}
use Rattle.vab_merging.specs.Writes.{IsOfMerge}
use Rattle.vab_wipe.specs.Writes.{IsOfWipe}
use Rattle.vab_overlaying.specs.Writes.{IsOfOverlay, IsOfOverlaid, IsOfDiscard}

-- What a command may write on a device, where boot control's sector has these bytes: a command on
-- slots boot control, by the boot rules; a begin its target's table and the mark, an edit the
-- target's table that it gives, a flash the partition's store, or its own blocks, and a status, a
-- finish boot control without the target and the mark, a cancel and the begin of a merge the mark,
-- a merge blocks of the partitions, entries of their stores, and the mark at its end, a wipe the
-- table of the mark's slot, and an overlay that table, the head of its store and the mark; what is
-- written over a partition blocks of that store, and a discard the mark. The others write nothing.
abbrev pub IsOfCommand : Type 0 → Device → List ℕ → Command → ℕ → List ℕ → Type 0
IsOfCommand told d old (SetActive slot) s b = slots.IsOfCommand d old (SetActive slot) s b
IsOfCommand told d old Boot s b = slots.IsOfCommand d old Boot s b
IsOfCommand told d old Mark s b = slots.IsOfCommand d old Mark s b
IsOfCommand told d old (Print name) s b = ⊥
IsOfCommand told d old (Digest name) s b = ⊥
IsOfCommand told d old Begin s b = IsOfBegun told false d old s b
IsOfCommand told d old Factory s b = IsOfBegun told true d old s b
IsOfCommand told d old (Create name size) s b =
    IsOfEdit d no_guard (create_edit name size) s b
IsOfCommand told d old (Resize name size) s b =
    IsOfEdit d (settled_guard (nat_le size (2 ^ 40)) name) (resize_edit name size) s b
IsOfCommand told d old (Delete name) s b =
    IsOfEdit d (settled_guard true name) (delete_edit name) s b
IsOfCommand told d old (Snapshot name size) s b =
    IsOfEdit d store_guard (snapshot_edit name size) s b
IsOfCommand told d old (Flash name chunk) s b = IsOfFlash d name s b
IsOfCommand told d old (Keep name) s b = ⊥
IsOfCommand told d old Finish s b = IsOfFinished told d old s b
IsOfCommand told d old Cancel s b = IsOfCancelled d s b
IsOfCommand told d old BeginMerge s b = IsOfMergeBegun d s b
IsOfCommand told d old (Merge blocks) s b = IsOfMerge d blocks s b
IsOfCommand told d old UpdateSuper s b = (staged : Option (List ℕ)) × IsOfWipe d staged s b
IsOfCommand told d old (Overlay name size) s b = IsOfOverlay d name s b
IsOfCommand told d old (OverlayWrite block) s b = IsOfOverlaid d s
IsOfCommand told d old OverlayDiscard s b = IsOfDiscard d s b
