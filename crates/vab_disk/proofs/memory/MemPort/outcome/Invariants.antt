use Rattle.std.proofs.Common.{◌≡◌, ◌<◌, ◌++◌, ℕ}
use Rattle.vab_disk.specs.Memory.{seen_of, settled_of, blended, calls_of, earlier_of}
use Rattle.vab_disk.proofs.memory.MemPort.outcome.Given as goal

abbrev pub invariant-loop-at : goal.invariant-loop-at
invariant-loop-at l = record {
  count : l.port.count ≡ l.self.count;
  sectors : (s : ℕ)
      → s < l.at
      → seen_of l.port.count
      (calls_of l.port.begun l.port.calls.items ++ earlier_of l.port.begun l.port.calls.items) s
      ≡ blended l.blend
      (seen_of l.self.count
      (calls_of l.self.begun l.self.calls.items ++ earlier_of l.self.begun l.self.calls.items))
      (settled_of l.self.count
      (calls_of l.self.begun l.self.calls.items ++ earlier_of l.self.begun l.self.calls.items)) s;
  faults : l.port.disk.faults ≡ 0;
  sources : l.port.source.faults ≡ 0;
  sinks : l.port.sink.faults ≡ 0;
  starved : l.port.starved ≡ 0;
}
