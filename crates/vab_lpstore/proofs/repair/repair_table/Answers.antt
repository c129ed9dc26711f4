use Rattle.std.proofs.Common.{◌≡◌, ℕ, List, Bool, true, false, length, refl, sym, subst, arith, ap}
use Rattle.std.proofs.Common.{◌∙◌}
use Rattle.std.proofs.lemmas.Bool.{false≢true}
use Rattle.vab_disk.specs.Disk.{LeavesBlend}
use Rattle.vab_disk.specs.Calls.{Touches}
use Rattle.vab_disk.proofs.Moments.{adds_wider}
use Rattle.vab_disk.proofs.CallLaws.{touches_none}
use Rattle.vab_copies.specs.Copies.{with_text, LeavesCopy, IsOfCopy, IsOfText}
use Rattle.vab_copies.proofs.Copying.{whole_blend}
use Rattle.vab_lpstore.specs.Layout.{primary_of, backup_of, primary_bytes, backup_bytes}
use Rattle.vab_lpstore.specs.Layout.{text_sectors}
use Rattle.vab_lpstore.specs.Storing.{IsOfRepair}
use Rattle.vab_lpstore.proofs.StoreLaws.{copies_apart, text_fits, text_room, text_some}
use Rattle.vab_lpstore.proofs.Outcomes.{primary_table, primary_both, backup_table, backup_both}
use Rattle.vab_lpstore.proofs.Outcomes.{places, on_ok_map, not_primary}
use Rattle.vab_lpstore.proofs.repair.repair_table.Goals as goal

pub write_copy-requires-clause-some : goal.write_copy-requires-clause-some
write_copy-requires-clause-some g c = let count : c.sectors-count.result
    ≡ text_sectors (length c.args.loaded.now.text) = c.sectors-count.ensures
    ∙ ap (λ (l : List ℕ). text_sectors (length l)) c.as_slice-text.ensures in
    omega (arith, text_some (length c.args.loaded.now.text), count)

pub write_copy-requires-clause-on_disk : goal.write_copy-requires-clause-on_disk
write_copy-requires-clause-on_disk g c =
    let apart = copies_apart c.args.geometry.now c.args.slot c.requires.slot in
    let fits = text_fits c.args.geometry.now (length c.args.loaded.now.text) c.requires.rules
    c.requires.fits in
    let count : c.sectors-count.result ≡ text_sectors (length c.args.loaded.now.text) =
    c.sectors-count.ensures ∙ ap (λ (l : List ℕ). text_sectors (length l))
    c.as_slice-text.ensures in
    omega (arith, apart, fits, count, c.requires.on_disk, c.primary.ensures)

pub rewrite_copy-requires : goal.rewrite_copy-requires
rewrite_copy-requires g c =
    let fits = text_fits c.args.geometry.now (length c.args.loaded.now.text) c.requires.rules
    c.requires.fits in
    let count : c.sectors-count.result ≡ text_sectors (length c.args.loaded.now.text) =
    c.sectors-count.ensures ∙ ap (λ (l : List ℕ). text_sectors (length l))
    c.as_slice-text.ensures in
    omega (arith, fits, count, c.requires.on_disk, c.backup.ensures)

pub returns-then-not-loaded-clause-repaired : goal.returns-then-not-loaded-clause-repaired
returns-then-not-loaded-clause-repaired g c = λ t.
    let behind = not_primary c.args.geometry.now.max
    (primary_bytes c.args.geometry.now c.args.slot (g.D.Disk.seen c.args.d.now))
    (backup_bytes c.args.geometry.now c.args.slot (g.D.Disk.seen c.args.d.now))
    c.args.loaded.now (c.requires.loaded t) c.if-not-loaded.true in
    on_ok_map c.write_copy.result _ _
    (λ is. primary_both c.args.geometry.now c.args.slot
    (text_sectors (length c.args.loaded.now.text)) c.args.loaded.now.text
    (g.D.Disk.seen c.args.d.now) c.requires.slot (text_some (length c.args.loaded.now.text))
    (text_fits c.args.geometry.now (length c.args.loaded.now.text) c.requires.rules
    c.requires.fits) (text_room (length c.args.loaded.now.text))
    (g.D.Disk.seen c.write_copy.new.d) behind.0
    (places (λ n p b l. g.D.Disk.seen c.write_copy.new.d
    ≡ with_text n l (g.D.Disk.seen c.args.d.now) p) _ _ _ _
    (backup_of c.args.geometry.now c.args.slot) (backup_of c.args.geometry.now c.args.slot)
    c.args.loaded.now.text _ (c.sectors-count.ensures
    ∙ ap (λ (l : List ℕ). text_sectors (length l)) c.as_slice-text.ensures) c.primary.ensures
    refl c.as_slice-text.ensures is))
    (c.write_copy.ensures.written t)

pub returns-then-not-loaded-clause-touches : goal.returns-then-not-loaded-clause-touches
returns-then-not-loaded-clause-touches g c =
    let l = c.args.loaded.now in
    let geometry = c.args.geometry.now in
    let slot = c.args.slot in
    subst
    (λ (f : Bool). Touches g.D.Disk (IsOfRepair f l.backup geometry slot l.text) c.args.d.now
    c.write_copy.new.d)
    (sym c.if-not-loaded.true)
    (places (λ n p b x. Touches g.D.Disk (IsOfCopy n p x) c.args.d.now c.write_copy.new.d)
    _ _ _ _ (backup_of geometry slot) (backup_of geometry slot) l.text _
    (c.sectors-count.ensures ∙ ap (λ (x : List ℕ). text_sectors (length x)) c.as_slice-text.ensures)
    c.primary.ensures refl c.as_slice-text.ensures c.write_copy.ensures.touches)

pub returns-then-not-loaded-clause-untouched : goal.returns-then-not-loaded-clause-untouched
returns-then-not-loaded-clause-untouched g c = λ first second.
    absurd (false≢true (sym c.if-not-loaded.true ∙ first))

pub returns-then-not-loaded-clause-table : goal.returns-then-not-loaded-clause-table
returns-then-not-loaded-clause-table g c = λ t settled.
    let is = c.requires.loaded t in
    let behind = not_primary c.args.geometry.now.max
    (primary_bytes c.args.geometry.now c.args.slot (g.D.Disk.seen c.args.d.now))
    (backup_bytes c.args.geometry.now c.args.slot (g.D.Disk.seen c.args.d.now))
    c.args.loaded.now is c.if-not-loaded.true in
    adds_wider g.D.Disk.moment g.D.Disk.outcomes _ _ _ _ (c.write_copy.ensures.copy t settled)
    (λ o leaves. primary_table c.args.geometry.now c.args.slot
    (text_sectors (length c.args.loaded.now.text)) c.args.loaded.now.text
    (g.D.Disk.seen c.args.d.now) c.requires.slot (text_some (length c.args.loaded.now.text))
    (text_fits c.args.geometry.now (length c.args.loaded.now.text) c.requires.rules
    c.requires.fits) (text_room (length c.args.loaded.now.text)) (g.D.Disk.told c.args.d.now)
    behind.1.0 c.args.loaded.now.table behind.1.1 behind.0 is.text o
    (places (λ n p b l. LeavesCopy (g.D.Disk.told c.args.d.now) (g.D.Disk.seen c.args.d.now)
    (with_text n l (g.D.Disk.seen c.args.d.now) p) p n o) _ _ _ _
    (backup_of c.args.geometry.now c.args.slot) (backup_of c.args.geometry.now c.args.slot)
    c.args.loaded.now.text _ (c.sectors-count.ensures
    ∙ ap (λ (l : List ℕ). text_sectors (length l)) c.as_slice-text.ensures) c.primary.ensures
    refl c.as_slice-text.ensures leaves))

pub returns-then-not-loaded-2-clause-repaired : goal.returns-then-not-loaded-2-clause-repaired
returns-then-not-loaded-2-clause-repaired g c = λ t.
    let begins = (c.requires.loaded t).in_primary.0 c.if-not-loaded.false in
    on_ok_map c.rewrite_copy.result _ _
    (λ is. backup_both c.args.geometry.now c.args.slot
    (text_sectors (length c.args.loaded.now.text)) c.args.loaded.now.text
    (g.D.Disk.seen c.args.d.now) c.requires.slot (text_some (length c.args.loaded.now.text))
    (text_fits c.args.geometry.now (length c.args.loaded.now.text) c.requires.rules
    c.requires.fits) (text_room (length c.args.loaded.now.text))
    (g.D.Disk.seen c.rewrite_copy.new.d) begins
    (places (λ n p b l. g.D.Disk.seen c.rewrite_copy.new.d
    ≡ with_text n l (g.D.Disk.seen c.args.d.now) b) _ _
    (primary_of c.args.geometry.now c.args.slot) (primary_of c.args.geometry.now c.args.slot) _
    _ c.args.loaded.now.text _ (c.sectors-count.ensures
    ∙ ap (λ (l : List ℕ). text_sectors (length l)) c.as_slice-text.ensures) refl
    c.backup.ensures c.as_slice-text.ensures is))
    (c.rewrite_copy.ensures.written t)

pub returns-then-not-loaded-2-clause-touches : goal.returns-then-not-loaded-2-clause-touches
returns-then-not-loaded-2-clause-touches g c =
    let l = c.args.loaded.now in
    let geometry = c.args.geometry.now in
    let slot = c.args.slot in
    subst
    (λ (f : Bool). Touches g.D.Disk (IsOfRepair f l.backup geometry slot l.text) c.args.d.now
    c.rewrite_copy.new.d)
    (sym c.if-not-loaded.false)
    (subst
    (λ (f : Bool). Touches g.D.Disk (IsOfRepair true f geometry slot l.text) c.args.d.now
    c.rewrite_copy.new.d)
    (sym c.if-not-loaded-2.true)
    (places (λ n p b x. Touches g.D.Disk (IsOfText 0 n b x) c.args.d.now c.rewrite_copy.new.d)
    _ _ (primary_of geometry slot) (primary_of geometry slot) _ _ l.text _
    (c.sectors-count.ensures ∙ ap (λ (x : List ℕ). text_sectors (length x)) c.as_slice-text.ensures)
    refl c.backup.ensures c.as_slice-text.ensures c.rewrite_copy.ensures.touches))

pub returns-then-not-loaded-2-clause-untouched : goal.returns-then-not-loaded-2-clause-untouched
returns-then-not-loaded-2-clause-untouched g c = λ first second.
    absurd (false≢true (sym c.if-not-loaded-2.true ∙ second))

pub returns-clause-touches : goal.returns-clause-touches
returns-clause-touches g c = touches_none g.D.Disk _ _

pub returns-then-not-loaded-2-clause-table : goal.returns-then-not-loaded-2-clause-table
returns-then-not-loaded-2-clause-table g c = λ t settled.
    let is = c.requires.loaded t in
    let begins = is.in_primary.0 c.if-not-loaded.false in
    adds_wider g.D.Disk.moment g.D.Disk.outcomes _ _ _ _ (c.rewrite_copy.ensures.touches.time t)
    (λ o leaves. backup_table c.args.geometry.now c.args.slot
    (text_sectors (length c.args.loaded.now.text)) c.args.loaded.now.text
    (g.D.Disk.seen c.args.d.now) c.requires.slot (text_some (length c.args.loaded.now.text))
    (text_fits c.args.geometry.now (length c.args.loaded.now.text) c.requires.rules
    c.requires.fits) (text_room (length c.args.loaded.now.text)) (g.D.Disk.told c.args.d.now)
    c.args.loaded.now.table begins is.text o
    (places (λ n p b l. LeavesBlend (g.D.Disk.told c.args.d.now) (g.D.Disk.seen c.args.d.now)
    (with_text n l (g.D.Disk.seen c.args.d.now) b) o) _ _
    (primary_of c.args.geometry.now c.args.slot) (primary_of c.args.geometry.now c.args.slot) _
    _ c.args.loaded.now.text _ (c.sectors-count.ensures
    ∙ ap (λ (l : List ℕ). text_sectors (length l)) c.as_slice-text.ensures) refl
    c.backup.ensures c.as_slice-text.ensures (whole_blend _ _ _ _ _ _ settled o leaves)))
