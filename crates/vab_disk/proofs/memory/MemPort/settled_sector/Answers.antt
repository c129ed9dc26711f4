use Rattle.std.proofs.Common.{◌≡◌, ◌≤◌, List, length, take, reverse, sym, ◌∙◌, ap, arith}
use Rattle.std.proofs.lemmas.List.{take_all}
use Rattle.vab_disk.specs.declared.record.Call.{Call}
use Rattle.vab_disk.specs.Memory.{settled_of}
use Rattle.vab_disk.proofs.Kept.{all_calls}
use Rattle.vab_disk.proofs.memory.MemPort.settled_sector.Goals as goal

pub returns : goal.returns
returns c =
    let m = c.args.self.now in
    let long : length m.calls.items ≤ c.loop-call.call-index =
    omega (arith, c.loop-call-test.false, c.deref-call-items.ensures.len, m.calls.ok) in
    let all : take c.loop-call.call-index m.calls.items ≡ m.calls.items =
    take_all c.loop-call.call-index m.calls.items long in
    c.loop-call.invariant.settled
    ∙ ap (λ (l : List Call). settled_of m.count (reverse l) c.args.at) all
    ∙ ap (λ (l : List Call). settled_of m.count l c.args.at)
    (sym (all_calls m.begun m.calls.items))
