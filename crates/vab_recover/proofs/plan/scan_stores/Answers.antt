use Rattle.std.proofs.Common.{◌≡◌, ◌∙◌, ◌+◌, ◌<◌, ℕ, List, [], ◌∷◌, ◌++◌, length, get_or, drop}
use Rattle.std.proofs.Common.{Some, None, Ok}
use Rattle.std.proofs.Common.{Option, sym, ap, subst, arith}
use Rattle.std.specs.Prelude.{map, All}
use Rattle.std.proofs.lemmas.List.{map-append}
use Rattle.std.proofs.lemmas.List.Elements.{All-push}
use Rattle.vab_disk.specs.Disk.{Image}
use Rattle.vab_disk.specs.Calls.{OnlyReads}
use Rattle.vab_disk.proofs.CallLaws.{reads_then}
use Rattle.vab_marks.specs.declared.status.PartStatus.{PartStatus}
use Rattle.vab_layout.specs.Layout.{layout_of}
use Rattle.vab_device.specs.Checks.{◌>>=◌}
use Rattle.vab_device.specs.Stores.{Scanned, scans_in}
use Rattle.vab_statuses.specs.Statuses.{written_in}
use Rattle.vab_plan.specs.declared.planning.Scan.{Scan}
use Rattle.vab_plan.specs.Scans.{scanned_of, scans_of}
use Rattle.vab_recover.specs.Opened.{wanted_for}
use Rattle.vab_recover.specs.Scans.{wanted_at, IsScanned}
use Rattle.vab_recover.proofs.PlanLaws.{scans_step, scans_skip}
use Rattle.vab_recover.proofs.plan.scan_stores.Goals as goal
use Rattle.vab_recover.proofs.plan.scan_stores.Goals.{}
use Rattle.vab_recover.proofs.plan.scan_stores.Goals.{in-Some+in_ok-scan_store-in-Some+in_ok-push-in-Some}
use Rattle.vab_recover.proofs.plan.scan_stores.Goals.{in-None}

pub loop-entry-preserved : goal.loop-entry-preserved
loop-entry-preserved g c =
    let image : Image = g.D.Disk.seen c.args.d.now in
    let l = layout_of c.args.table.now in
    let W = wanted_for c.args.fewer c.args.may c.args.slot l in
    let i : ℕ = c.loop-entry.entry-index in
    let all : List (Option PartStatus) = c.args.statuses.now.items in
    let inv = c.loop-entry.invariant in
    let lt : i < length all =
    omega (arith, ap length c.as_slice-entry-items.ensures.value, c.loop-entry-test.true) in
    elim c.match-entry.branch [
      | in-Some+in_ok-scan_store-in-Some+in_ok-push-in-Some w ↦
          let s : PartStatus = w.in-Some.status in
          let x : Scan = w.in_ok-scan_store-in-Some.field-0 in
          let done : List Scan = c.loop-entry.scans.items in
          let at : Some s ≡ get_or all i (Some s) =
          sym w.in-Some.is
          ∙ c.entry-item.is
          ∙ (λ j. get_or (c.as_slice-entry-items.ensures.value j) i (w.in-Some.is j)) in
          let more : c.match-entry.scans.items ≡ done ++ x ∷ [] =
          ap (λ v. v.items) w.scans-is ∙ w.in_ok-push-in-Some.ensures.items in
          record {
            so_far = λ t.
                inv.so_far t
                ∙ scans_step W all i s image done x lt at
                (ap (λ (m : Image). wanted_at (W s) m) (sym (inv.reads.seen t))
                ∙ w.in_ok-scan_store-in-Some.ensures.ok t)
                ∙ ap
                (λ (l : List Scan).
                scans_in (map W (written_in (drop (i + 1) all))) image
                >>= λ rest. Ok (scans_of l ++ rest))
                (sym more);
            are =
                subst (λ (l : List Scan). All (IsScanned c.args.slot (layout_of c.args.table.now))
                (scans_of l)) (sym more)
                (subst (λ (l : List Scanned).
                All (IsScanned c.args.slot (layout_of c.args.table.now)) l)
                (sym (map-append scanned_of done (x ∷ [])))
                (All-push (IsScanned c.args.slot (layout_of c.args.table.now)) (scans_of done)
                (scanned_of x) inv.are
                w.in_ok-scan_store-in-Some.ensures.is));
            reads =
                subst (λ (e : g.row.D.Denot). OnlyReads g.D.Disk c.args.d.now e) (sym w.d-is)
                (reads_then g.D.Disk _ _ _ inv.reads w.in_ok-scan_store-in-Some.ensures.reads);
            steady =
                ap g.D.Disk.faults w.d-is
                ∙ w.in_ok-scan_store-in-Some.ensures.counts.steady
                ∙ inv.steady;
          }
      | in-None w ↦
          let at : None ≡ get_or all i None =
          sym w.in-None.is
          ∙ c.entry-item.is
          ∙ (λ j. get_or (c.as_slice-entry-items.ensures.value j) i (w.in-None.is j)) in
          record {
            so_far = λ t.
                inv.so_far t
                ∙ scans_skip W all i image c.loop-entry.scans.items lt at
                ∙ ap
                (λ v.
                scans_in (map W (written_in (drop (i + 1) all))) image
                >>= λ rest. Ok (scans_of v.items ++ rest))
                (sym w.scans-is);
            are =
                subst (λ v. All (IsScanned c.args.slot (layout_of c.args.table.now))
                (scans_of v.items)) (sym w.scans-is) inv.are;
            reads =
                subst (λ (e : g.row.D.Denot). OnlyReads g.D.Disk c.args.d.now e) (sym w.d-is)
                inv.reads;
            steady = ap g.D.Disk.faults w.d-is ∙ inv.steady;
          }
    ]
