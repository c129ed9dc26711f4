-- Each command is the machine's, or its table is full, or the image of a wipe is that of another
-- device.
use Rattle.std.proofs.Common.{inl}
use Rattle.vab_model.specs.Commands.{Command, SetActive, Boot, Mark, Print, Digest, Begin, Create}
use Rattle.vab_model.specs.Commands.{Resize, Delete, Snapshot, Flash, Finish, Cancel, BeginMerge}
use Rattle.vab_model.specs.Commands.{Merge, Factory, UpdateSuper, Overlay, OverlayWrite}
use Rattle.vab_model.specs.Commands.{OverlayDiscard, Keep}
use Rattle.vab_targets.proofs.Plans.{BeginKeepsImages, EditsFollowSizes}
use Rattle.vab_machine_laws.specs.Rows.{IsTheMachines}
use Rattle.vab_machine_laws.specs.Edits.{IsTheMachinesOrFull, IsTheMachinesFullOrOther}
use Rattle.vab_machine_laws.proofs.SlotRows.{set_active_row, boot_row, mark_row, print_row}
use Rattle.vab_machine_laws.proofs.SlotRows.{digest_row, finish_is, cancel_is, begin_merge_is}
use Rattle.vab_machine_laws.proofs.SlotRows.{merge_is, flash_is, keep_is, overlay_write_row}
use Rattle.vab_machine_laws.proofs.SlotRows.{overlay_discard_row}
use Rattle.vab_machine_laws.proofs.Begins.{update_is, factory_is}
use Rattle.vab_machine_laws.proofs.Creates.{create_is}
use Rattle.vab_machine_laws.proofs.Deletes.{delete_is}
use Rattle.vab_machine_laws.proofs.Snapshots.{snapshot_is}
use Rattle.vab_machine_laws.proofs.Resizes.{resize_is}
use Rattle.vab_machine_laws.proofs.Wipes.{wipe_is}
use Rattle.vab_machine_laws.proofs.Overlays.{overlay_is}

plainly : (c : Command) → IsTheMachines c → IsTheMachinesFullOrOther c
plainly c row size image m staged whole is = inl (inl (row m staged))

by_table : (c : Command) → IsTheMachinesOrFull c → IsTheMachinesFullOrOther c
by_table c law size image m staged whole is = inl (law size image m staged whole is)

pub each_is : BeginKeepsImages → EditsFollowSizes → (c : Command) → IsTheMachinesFullOrOther c
each_is begins edits (SetActive slot) = plainly (SetActive slot) (set_active_row slot)
each_is begins edits Boot = plainly Boot boot_row
each_is begins edits Mark = plainly Mark mark_row
each_is begins edits (Print name) = plainly (Print name) (print_row name)
each_is begins edits (Digest name) = plainly (Digest name) (digest_row name)
each_is begins edits Begin = by_table Begin (update_is begins)
each_is begins edits Factory = by_table Factory (factory_is begins)
each_is begins edits (Create name size) =
    by_table (Create name size) (create_is edits name size)
each_is begins edits (Resize name size) =
    by_table (Resize name size) (resize_is edits name size)
each_is begins edits (Delete name) = by_table (Delete name) (delete_is edits name)
each_is begins edits (Snapshot name size) =
    by_table (Snapshot name size) (snapshot_is edits name size)
each_is begins edits (Flash name chunk) = plainly (Flash name chunk) (flash_is name chunk)
each_is begins edits (Keep name) = plainly (Keep name) (keep_is name)
each_is begins edits Finish = plainly Finish finish_is
each_is begins edits Cancel = plainly Cancel cancel_is
each_is begins edits BeginMerge = plainly BeginMerge begin_merge_is
each_is begins edits (Merge count) = plainly (Merge count) (merge_is count)
each_is begins edits UpdateSuper = wipe_is
each_is begins edits (Overlay name size) = by_table (Overlay name size) (overlay_is name size)
each_is begins edits (OverlayWrite block) = plainly (OverlayWrite block) (overlay_write_row block)
each_is begins edits OverlayDiscard = plainly OverlayDiscard overlay_discard_row
