use Rattle.std.proofs.Common.{◌≡◌, ◌++◌, Ok, drop}
use Rattle.std.specs.Prelude.{map, All}
use Rattle.vab_disk.specs.Calls.{OnlyReads}
use Rattle.vab_statuses.specs.Statuses.{written_in}
use Rattle.vab_layout.specs.Layout.{layout_of}
use Rattle.vab_device.specs.Checks.{◌>>=◌}
use Rattle.vab_device.specs.Stores.{scans_in}
use Rattle.vab_plan.specs.Scans.{scans_of}
use Rattle.vab_recover.specs.Opened.{wanted_for}
use Rattle.vab_recover.specs.Scans.{IsScanned}
use Rattle.vab_recover.proofs.plan.scan_stores.Given as goal

abbrev pub invariant-loop-entry : goal.invariant-loop-entry
invariant-loop-entry g l = record {
  so_far : g.D.Disk.is_modelled
      → scans_in
      (map (wanted_for l.fewer l.may l.slot (layout_of l.table)) (written_in l.statuses.items))
      (g.D.Disk.seen l.fn.d)
      ≡ (scans_in
      (map (wanted_for l.fewer l.may l.slot (layout_of l.table))
      (written_in (drop l.entry-index l.statuses.items)))
      (g.D.Disk.seen l.fn.d)
      >>= λ rest. Ok (scans_of l.scans.items ++ rest));
  are : All (IsScanned l.slot (layout_of l.table)) (scans_of l.scans.items);
  reads : OnlyReads g.D.Disk l.fn.d l.d;
  steady : g.D.Disk.faults l.d ≡ g.D.Disk.faults l.fn.d;
}
