use Rattle.std.proofs.Common.{◌≡◌, ◌<◌, ℕ, [], length, take, reverse}
use Rattle.std.specs.Prelude.{slice_index_or}
use Rattle.vab_disk.specs.Memory.{seen_of}
use Rattle.vab_disk.proofs.memory.MemPort.settled_cells.Given as goal

abbrev pub invariant-loop-i : goal.invariant-loop-i
invariant-loop-i l = record {
  long : length l.cells.items ≡ l.self.count;
  cells : (s : ℕ)
      → s < l.self.count
      → slice_index_or l.cells.items s []
      ≡ seen_of l.self.count (reverse (take l.i l.self.calls.items)) s;
}
