use Rattle.std.proofs.Common.{refl}
use Rattle.vab_exchanges.specs.Session.{HasNoHello}
use Rattle.vab_exchanges.specs.Reading.{rest_of, total_of, count_of}
use Rattle.vab_exchanges.proofs.Stops.{cut_here, by_hello}
use Rattle.vab_exchanges.proofs.Stops.{in_any_case}
use Rattle.vab_exchanges.proofs.reader.Reader.hello.Goals as goal

pub returns-in-Ok-None-clause-fault : goal.returns-in-Ok-None-clause-fault
returns-in-Ok-None-clause-fault g c = λ t.
    let left = g.P.Disk.input_left c.args.p.now in
    let old = c.args.self.now in
    let none = rw (c.in-Ok-None.field-0-is, c.requires.place) at c.in-Ok-None.ensures.none t in
    let end = rw c.in-Ok-None.field-0-is at c.in-Ok-None.ensures.end t in
    cut_here (HasNoHello (count_of old left) (rest_of old left)) c.next.new.self.budget.taken
    c.next.new.self.budget.most (g.P.Disk.input_left c.next.new.p) (total_of old left)
    old.budget.most c.cut.result c.next.new.self.budget.within
    end (c.in-Ok-None.ensures.count t) c.next.ensures.most c.cut.ensures (refl, none)

pub returns-in-Err-clause-fault : goal.returns-in-Err-clause-fault
returns-in-Err-clause-fault g c =
    λ t. by_hello _ _ _ _ c.in-Err.fault (rw c.requires.place at c.in-Err.ensures.fault t)

pub returns-in-Ok-None-clause-steady : goal.returns-in-Ok-None-clause-steady
returns-in-Ok-None-clause-steady g c = in_any_case _ c.cut.result c.in-Ok-None.ensures.steady
