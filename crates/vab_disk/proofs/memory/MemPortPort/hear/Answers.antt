use Rattle.std.proofs.Common.{◌≡◌, ◌∷◌, inl, rules}
use Rattle.vab_disk.specs.Memory.{calls_of, earlier_of}
use Rattle.vab_disk.specs.declared.record.Call.TheVariants.{Heard}
use Rattle.vab_disk.proofs.Kept.{longer, kept, no_more}
use Rattle.vab_disk.proofs.memory.MemPortPort.hear.Goals as goal

pub returns-clause-time : goal.returns-clause-time
returns-clause-time c = λ _.
    let rev : calls_of c.args.self.now.begun c.record.new.calls.items
    ≡ Heard c.hand_out-count.result ∷ calls_of c.args.self.now.begun
    c.args.self.now.calls.items = search rules in
    let before : earlier_of c.args.self.now.begun c.record.new.calls.items
    ≡ earlier_of c.args.self.now.begun c.args.self.now.calls.items = search rules in
    record {
      later = longer c.args.self.now.count
          (earlier_of c.args.self.now.begun c.args.self.now.calls.items)
          (earlier_of c.args.self.now.begun c.record.new.calls.items)
          (calls_of c.args.self.now.begun c.args.self.now.calls.items)
          (calls_of c.args.self.now.begun c.record.new.calls.items) _ before rev;
      keeps = kept c.args.self.now.count
          (earlier_of c.args.self.now.begun c.args.self.now.calls.items)
          (earlier_of c.args.self.now.begun c.record.new.calls.items)
          (calls_of c.args.self.now.begun c.args.self.now.calls.items)
          (calls_of c.args.self.now.begun c.record.new.calls.items) _ before rev;
      adds = λ t o le left. inl (no_more c.args.self.now.count
          (earlier_of c.args.self.now.begun c.args.self.now.calls.items)
          (earlier_of c.args.self.now.begun c.record.new.calls.items)
          (calls_of c.args.self.now.begun c.args.self.now.calls.items)
          (calls_of c.args.self.now.begun c.record.new.calls.items) _ before rev (λ o now. now) t o
          left);
    }
