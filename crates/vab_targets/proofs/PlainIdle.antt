-- The mark of a disk that is a device without an update and without an overlay.
use Rattle.std.proofs.Common.{◌≡◌, ℕ, Bool, true, false, List, [], ◌∷◌, Ok, refl, subst}
use Rattle.std.specs.Prelude.{Option, Some, None, option_map, is_some}
use Rattle.vab_disk.specs.Disk.{Image}
use Rattle.vab_names.specs.Names.{most_partitions}
use Rattle.vab_marks.specs.declared.mark.MarkPhase.{MarkPhase}
use Rattle.vab_marks.specs.declared.mark.MarkPhase.TheVariants as marks
use Rattle.vab_marks.specs.Mark.{rephased}
use Rattle.vab_tables.specs.declared.table.Table.{Table}
use Rattle.vab_layout.specs.declared.layout.Layout.{Layout}
use Rattle.vab_layout.specs.Layout.{layout_of}
use Rattle.vab_layout.specs.Overlay.{Overlaid, overlaid_in}
use Rattle.vab_model.specs.declared.state.Phase.TheVariants.{Idle}
use Rattle.vab_device.specs.declared.fault.StartFault.TheVariants.{BadState}
use Rattle.vab_device.specs.Checks.{check, names_none, first_fault}
use Rattle.vab_device.specs.Mounted.{phase_on, overlay_on}
use Rattle.vab_device.specs.Phases.{phase_in, overlaid_on, overlay_of, overlay_checks, bad_overlay}
use Rattle.vab_device.specs.Phases.{own_check}
use Rattle.vab_device.specs.Reading.{Read, kept, Reads, tables_in}
use Rattle.vab_device.specs.Stores.{Scanned}
use Rattle.vab_device.proofs.CheckLaws.{first_kept}
use Rattle.vab_device.proofs.MarkLaws.{as_idle}
use Rattle.vab_device.proofs.MostLaws.{parts_all}
use Rattle.vab_device.proofs.ReadingLaws.{idle_read_of, flags_known}
use Rattle.vab_device.proofs.StayLaws.{one_of}

-- where one partition is to be overlaid, one is
over_found : (l : Layout) (ss : List Scanned) (image : Image) (x : Option Overlaid)
    → check (is_some x) (BadState 4) ≡ None
    → overlay_on image (option_map (overlaid_on l ss) x) ≡ None
    → ⊥
over_found l ss image None one none = cc
over_found l ss image (Some o) one none = cc

flag_off : (overlaid : Bool) (slot : ℕ) (l : Layout) (ss : List Scanned) (image : Image)
    → first_fault (overlay_checks overlaid slot l) ≡ None
    → overlay_on image (overlay_of overlaid slot l ss) ≡ None
    → overlaid ≡ false
flag_off false slot l ss image kept none = refl
flag_off true slot l ss image kept none =
    let found : Option Overlaid = overlaid_in slot l.parts in
    let one = first_kept (check (is_some found) (BadState 4))
    (names_none (bad_overlay slot l.parts found) ∷ []) kept in
    absurd (over_found l ss image found one.0 none)

pub plain_idle : (size : ℕ) (r : Read) (image : Image)
    → Reads size r image
    → phase_on (kept r) image ≡ Idle
    → overlay_on image (kept r).overlay ≡ None
    → r.mark ≡ rephased marks.Idle r.mark
plain_idle size r image reads phase plain =
    let idle = idle_read_of size r image reads phase in
    let tables : tables_in r.tail.super_end r.geometry (r.mark.slot ∷ []) image ≡ Ok r.tables =
    subst (λ (p : MarkPhase). tables_in r.tail.super_end r.geometry (phase_in p r.mark).tables image
    ≡ Ok r.tables) idle reads.tables in
    let one = one_of r.tail.super_end r.geometry r.mark.slot image r.tables tables in
    let l : Layout = layout_of one.0 in
    let parts = subst (λ (ts : List Table).
    first_fault ((phase_in marks.Idle r.mark).part_checks most_partitions ts) ≡ None) one.1
    (subst (λ (p : MarkPhase).
    first_fault ((phase_in p r.mark).part_checks most_partitions r.tables) ≡ None) idle
    (parts_all r image reads.parts)) in
    let none = subst (λ (ts : List Table).
    overlay_on image ((phase_in marks.Idle r.mark).overlay ts r.scanned) ≡ None) one.1
    (subst (λ (p : MarkPhase).
    overlay_on image ((phase_in p r.mark).overlay r.tables r.scanned) ≡ None) idle plain) in
    let checks = first_kept (own_check most_partitions r.mark.slot one.0)
    (overlay_checks r.mark.overlaid r.mark.slot l) parts in
    as_idle r.mark (flags_known image r.mark reads.mark)
    (flag_off r.mark.overlaid r.mark.slot l r.scanned image checks.1 none) idle
