use Rattle.std.proofs.Common.{◌≡◌, ◌≤◌, ℕ, false}
use Rattle.vab_disk.specs.Calls.{OnlyReads, IsBetween}
use Rattle.vab_marks.specs.Sector.{are_zeros}
use Rattle.vab_statuses.proofs.reading.first_free.Given as goal

abbrev pub invariant-loop-at : goal.invariant-loop-at
invariant-loop-at g l = record {
  before : g.D.Disk.is_modelled
      → (s : ℕ)
      → IsBetween 2049 l.at s
      → are_zeros (g.D.Disk.seen l.fn.d s) ≡ false;
  within : l.at ≤ 2113;
  reads : OnlyReads g.D.Disk l.fn.d l.d;
  steady : g.D.Disk.faults l.d ≡ g.D.Disk.faults l.fn.d;
}
