use Rattle.std.proofs.Common.{◌≡◌, ◌∷◌, ◌++◌, List, inl, sym, subst, rules}
use Rattle.vab_disk.specs.Memory.{calls_of, earlier_of, Holds, seen_of}
use Rattle.vab_disk.specs.MemoryLaws.{seen_holds}
use Rattle.vab_disk.specs.declared.record.Call.{Call}
use Rattle.vab_disk.specs.declared.record.Call.TheVariants.{Synced}
use Rattle.vab_disk.proofs.Kept.{longer, kept, no_more, synced_leaves}
use Rattle.vab_disk.proofs.memory.MemPortDisk.sync.Goals as goal

pub returns-clause-crash : goal.returns-clause-crash
returns-clause-crash c = λ _ s b now.
    let rev : calls_of c.args.self.now.begun c.record.new.calls.items
    ≡ Synced ∷ calls_of c.args.self.now.begun c.args.self.now.calls.items = search rules in
    let before : earlier_of c.args.self.now.begun c.record.new.calls.items
    ≡ earlier_of c.args.self.now.begun c.args.self.now.calls.items = search rules in
    let count = c.args.self.now.count in
    let older = calls_of c.args.self.now.begun c.args.self.now.calls.items
    ++ earlier_of c.args.self.now.begun c.args.self.now.calls.items in
    let is : b ≡ seen_of count older s =
    subst (λ (l : List Call). Holds count l s b) (λ i. rev i ++ before i) now in
    subst (Holds count older s) (sym is) (seen_holds count older s)

pub returns-clause-time : goal.returns-clause-time
returns-clause-time c = λ _.
    let rev : calls_of c.args.self.now.begun c.record.new.calls.items
    ≡ Synced ∷ calls_of c.args.self.now.begun c.args.self.now.calls.items = search rules in
    let before : earlier_of c.args.self.now.begun c.record.new.calls.items
    ≡ earlier_of c.args.self.now.begun c.args.self.now.calls.items = search rules in
    record {
      later = longer c.args.self.now.count
          (earlier_of c.args.self.now.begun c.args.self.now.calls.items)
          (earlier_of c.args.self.now.begun c.record.new.calls.items)
          (calls_of c.args.self.now.begun c.args.self.now.calls.items)
          (calls_of c.args.self.now.begun c.record.new.calls.items) _ before rev;
      keeps = kept c.args.self.now.count
          (earlier_of c.args.self.now.begun c.args.self.now.calls.items)
          (earlier_of c.args.self.now.begun c.record.new.calls.items)
          (calls_of c.args.self.now.begun c.args.self.now.calls.items)
          (calls_of c.args.self.now.begun c.record.new.calls.items) _ before rev;
      adds = λ t o le left. inl (no_more c.args.self.now.count
          (earlier_of c.args.self.now.begun c.args.self.now.calls.items)
          (earlier_of c.args.self.now.begun c.record.new.calls.items)
          (calls_of c.args.self.now.begun c.args.self.now.calls.items)
          (calls_of c.args.self.now.begun c.record.new.calls.items) _ before rev
          (synced_leaves c.args.self.now.count
          (earlier_of c.args.self.now.begun c.args.self.now.calls.items)
          (calls_of c.args.self.now.begun c.args.self.now.calls.items)) t o left);
    }
