use Rattle.std.proofs.Common.{◌≡◌, drop}
use Rattle.vab_device.specs.Stores.{scanned_named}
use Rattle.vab_plan.specs.Scans.{scans_of}
use Rattle.vab_plan.proofs.planning.place.Given as goal

abbrev pub invariant-loop-i : goal.invariant-loop-i
invariant-loop-i l =
    scanned_named l.name (scans_of l.scans) ≡ scanned_named l.name (scans_of (drop l.i l.scans))
