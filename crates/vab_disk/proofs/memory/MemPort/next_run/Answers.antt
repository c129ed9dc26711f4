use Rattle.std.proofs.Common.{◌≡◌, [], List, sym, ◌∙◌, ap, subst, rules}
use Rattle.vab_disk.specs.Memory.{Holds, seen_of, told_of, taken_of, calls_of}
use Rattle.vab_disk.specs.declared.record.Call.{Call}
use Rattle.vab_disk.proofs.Kept.{same_calls, none_yet}
use Rattle.vab_disk.proofs.memory.MemPort.next_run.Goals as goal

pub invariant_of-port-clause-reads : goal.invariant_of-port-clause-reads
invariant_of-port-clause-reads c = λ s.
    c.args.self.reads s ∙ ap (λ (l : List Call). seen_of c.args.self.count l s)
    (same_calls c.args.self.begun c.len.result c.args.self.calls.items)

pub invariant_of-port-clause-tells : goal.invariant_of-port-clause-tells
invariant_of-port-clause-tells c =
    let none : calls_of c.len.result c.args.self.calls.items ≡ [] =
    none_yet c.len.result c.args.self.calls.items (search rules) in
    c.clear.ensures.items ∙ sym (ap told_of none)

pub returns-clause-may_leave : goal.returns-clause-may_leave
returns-clause-may_leave c =
    let same = same_calls c.args.self.begun c.len.result c.args.self.calls.items in
    record {
      keeps = λ s b was. subst (λ (l : List Call). Holds c.args.self.count l s b) same was;
      no_more = λ s b now. subst (λ (l : List Call). Holds c.args.self.count l s b) (sym same) now;
    }

pub invariant_of-port-clause-taken : goal.invariant_of-port-clause-taken
invariant_of-port-clause-taken c =
    let none : calls_of c.len.result c.args.self.calls.items ≡ [] =
    none_yet c.len.result c.args.self.calls.items (search rules) in
    sym (ap taken_of none)
