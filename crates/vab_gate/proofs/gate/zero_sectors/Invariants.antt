use Rattle.std.proofs.Common.{◌≡◌, ◌+◌, ℕ, replicate}
use Rattle.vab_disk.specs.Calls.{Touches, InSectors, IsBetween}
use Rattle.vab_gate.proofs.gate.zero_sectors.Given as goal

abbrev pub invariant-loop-i : goal.invariant-loop-i
invariant-loop-i g l = record {
  zeros : g.D.Disk.is_modelled
      → (s : ℕ)
      → IsBetween l.first (l.first + l.i) s
      → g.D.Disk.seen l.d s ≡ replicate 512 0;
  touches : Touches g.D.Disk (InSectors (IsBetween l.first (l.first + l.count))) l.fn.d l.d;
  steady : g.D.Disk.faults l.d ≡ g.D.Disk.faults l.fn.d;
}
