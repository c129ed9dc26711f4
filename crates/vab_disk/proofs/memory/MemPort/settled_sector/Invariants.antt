use Rattle.std.proofs.Common.{◌≡◌, take, reverse}
use Rattle.vab_disk.specs.Memory.{seen_of, settled_of}
use Rattle.vab_disk.proofs.memory.MemPort.settled_sector.Given as goal

abbrev pub invariant-loop-call : goal.invariant-loop-call
invariant-loop-call l = record {
  now : l.now ≡ seen_of l.self.count (reverse (take l.call-index l.self.calls.items)) l.at;
  settled : l.settled
      ≡ settled_of l.self.count (reverse (take l.call-index l.self.calls.items)) l.at;
}
