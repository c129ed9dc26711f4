use Rattle.std.proofs.Common.{◌≡◌, inl, Some, ◌∙◌, ap, arith, rules}
use Rattle.vab_fbtcp.specs.declared.event.Event.TheVariants.{Head}
use Rattle.vab_exchanges.specs.Reading.{stands_at, rest_of, beyond_of, total_of, count_of, IsBroken}
use Rattle.vab_exchanges.proofs.ReaderLaws.{listens_head, listens_part}
use Rattle.vab_exchanges.proofs.Stops.{has_more, cut_here, broken_short, broken_cut, overrun}
use Rattle.vab_exchanges.proofs.Stops.{in_any_case, unless_then}
use Rattle.vab_exchanges.proofs.reader.Reader.data.Goals as goal

pub returns-then-count-left-clause-fault : goal.returns-then-count-left-clause-fault
returns-then-count-left-clause-fault g c = λ t.
    let i = c.loop-left.invariant in
    let ok = c.in-Ok-Some-Head.ensures in
    let is : c.in-Ok-Some-Head.field-0 ≡ Some (Head c.in-Ok-Some-Head.count) =
    c.in-Ok-Some-Head.field-0-is ∙ ap Some c.in-Ok-Some-Head.field-0-0-is in
    let event = rw is at ok.event t in
    let left = g.P.Disk.input_left c.args.p.now in
    let old = c.args.self.now in
    overrun (count_of old left) c.args.due c.loop-left.left c.in-Ok-Some-Head.count
    (rest_of old left) _ _ (total_of old left) old.budget.most (omega arith) (i.some t)
    event.0 event.1 (omega arith)

pub returns-in-Err-part-clause-fault : goal.returns-in-Err-part-clause-fault
returns-in-Err-part-clause-fault g c = λ t.
    let i = c.loop-left.invariant in
    let ok = c.in-Ok-Some-Head.ensures in
    let is : c.in-Ok-Some-Head.field-0 ≡ Some (Head c.in-Ok-Some-Head.count) =
    c.in-Ok-Some-Head.field-0-is ∙ ap Some c.in-Ok-Some-Head.field-0-0-is in
    let event = rw is at ok.event t in
    let rest = rw is at ok.rest t in
    let left = g.P.Disk.input_left c.args.p.now in
    let old = c.args.self.now in
    broken_short c.args.due c.loop-left.left c.in-Ok-Some-Head.count (rest_of old left) _ _
    c.loop-left.staged.items _ (total_of old left) _ old.budget.most c.in-Err-part.fault
    (omega arith) (i.some t) event.0 event.1 (omega arith) rest
    (ok.count t ∙ i.count t) (c.next.ensures.most ∙ i.most) (c.in-Err-part.ensures.fault t)

pub returns-in-Ok-None-clause-fault : goal.returns-in-Ok-None-clause-fault
returns-in-Ok-None-clause-fault g c = λ t.
    let i = c.loop-left.invariant in
    let left = g.P.Disk.input_left c.args.p.now in
    let old = c.args.self.now in
    let none = rw (c.in-Ok-None.field-0-is, i.place) at c.in-Ok-None.ensures.none t in
    let end = rw c.in-Ok-None.field-0-is at c.in-Ok-None.ensures.end t in
    cut_here (IsBroken (count_of old left) c.args.due (rest_of old left))
    c.next.new.self.budget.taken c.next.new.self.budget.most
    (g.P.Disk.input_left c.next.new.p) (total_of old left) old.budget.most c.cut.result
    c.next.new.self.budget.within
    end (c.in-Ok-None.ensures.count t ∙ i.count t) (c.next.ensures.most ∙ i.most) c.cut.ensures
    (broken_cut (count_of old left) c.args.due c.loop-left.left (rest_of old left) _
    c.loop-left.staged.items (omega arith) (i.some t) (inl none))

pub loop-left-preserved : goal.loop-left-preserved
loop-left-preserved g c =
    let i = c.loop-left.invariant in
    let ok = c.in-Ok-Some-Head.ensures in
    let n = c.in-Ok-Some-Head.count in
    let is : c.in-Ok-Some-Head.field-0 ≡ Some (Head n) =
    c.in-Ok-Some-Head.field-0-is ∙ ap Some c.in-Ok-Some-Head.field-0-0-is in
    let part = c.in-Ok.ensures in
    let room = rw is at ok.room in
    record {
      listens =
          let i = c.loop-left.invariant in
          let ok = c.in-Ok-Some-Head.ensures in
          let n = c.in-Ok-Some-Head.count in
          let is : c.in-Ok-Some-Head.field-0 ≡ Some (Head n) =
          c.in-Ok-Some-Head.field-0-is ∙ ap Some c.in-Ok-Some-Head.field-0-0-is in
          let left_old = g.P.Disk.input_left c.args.p.now in
          let left_now = g.P.Disk.input_left c.loop-left.p in
          let left_mid = g.P.Disk.input_left c.next.new.p in
          let first =
          listens_head g.P.Disk c.args.p.now c.loop-left.p c.next.new.p
          (stands_at c.loop-left.self) c.args.due c.loop-left.left
          (rest_of c.args.self.now left_old) (rest_of c.loop-left.self left_now)
          (beyond_of c.args.self.now left_old) (beyond_of c.loop-left.self left_now)
          c.loop-left.staged.items i.place (omega arith) i.some i.beyond i.listens
          c.next.ensures.listens in
          listens_part g.P.Disk c.args.p.now c.next.new.p c.part.new.p
          c.args.due c.loop-left.left n
          (rest_of c.args.self.now left_old) (rest_of c.loop-left.self left_now)
          (rest_of c.next.new.self left_mid)
          (beyond_of c.args.self.now left_old) (beyond_of c.next.new.self left_mid)
          c.loop-left.staged.items (omega arith) (omega arith) i.some
          (λ t. let event = rw is at ok.event t in event.0)
          (λ t. let event = rw is at ok.event t in event.1)
          (λ t. let rest = rw is at ok.rest t in rest)
          (λ t. ok.beyond t ∙ i.beyond t)
          first c.part.ensures.listens;
      place = part.place;
      long = omega (arith, part.long, i.long);
      space = omega (arith, i.space, c.part.ensures.capacity);
      fed = part.fed;
      some = λ t.
          let event = rw is at ok.event t in
          let rest = rw is at ok.rest t in
          has_more c.args.due c.loop-left.left n _ _ _ _ c.loop-left.staged.items
          c.part.new.staged.items (omega arith) (omega arith) (i.some t) event.2 rest
          (part.bytes t) (search rules);
      room = omega (arith, room, part.room, i.room);
      beyond = λ t. part.beyond t ∙ ok.beyond t ∙ i.beyond t;
      steady = part.steady ∙ ok.steady ∙ i.steady;
      count = λ t. part.count t ∙ ok.count t ∙ i.count t;
      most = c.part.ensures.most ∙ c.next.ensures.most ∙ i.most;
    }

pub returns-then-count-left-clause-listens : goal.returns-then-count-left-clause-listens
returns-then-count-left-clause-listens g c =
    let i = c.loop-left.invariant in
    let left_old = g.P.Disk.input_left c.args.p.now in
    let left_now = g.P.Disk.input_left c.loop-left.p in
    listens_head g.P.Disk c.args.p.now c.loop-left.p c.next.new.p
    (stands_at c.loop-left.self) c.args.due c.loop-left.left
    (rest_of c.args.self.now left_old) (rest_of c.loop-left.self left_now)
    (beyond_of c.args.self.now left_old) (beyond_of c.loop-left.self left_now)
    c.loop-left.staged.items i.place (omega arith) i.some i.beyond i.listens c.next.ensures.listens

pub returns-in-Err-part-clause-listens : goal.returns-in-Err-part-clause-listens
returns-in-Err-part-clause-listens g c =
    let i = c.loop-left.invariant in
    let ok = c.in-Ok-Some-Head.ensures in
    let n = c.in-Ok-Some-Head.count in
    let is : c.in-Ok-Some-Head.field-0 ≡ Some (Head n) =
    c.in-Ok-Some-Head.field-0-is ∙ ap Some c.in-Ok-Some-Head.field-0-0-is in
    let left_old = g.P.Disk.input_left c.args.p.now in
    let left_now = g.P.Disk.input_left c.loop-left.p in
    let left_mid = g.P.Disk.input_left c.next.new.p in
    let first =
    listens_head g.P.Disk c.args.p.now c.loop-left.p c.next.new.p
    (stands_at c.loop-left.self) c.args.due c.loop-left.left
    (rest_of c.args.self.now left_old) (rest_of c.loop-left.self left_now)
    (beyond_of c.args.self.now left_old) (beyond_of c.loop-left.self left_now)
    c.loop-left.staged.items i.place (omega arith) i.some i.beyond i.listens
    c.next.ensures.listens in
    listens_part g.P.Disk c.args.p.now c.next.new.p c.part.new.p
    c.args.due c.loop-left.left n
    (rest_of c.args.self.now left_old) (rest_of c.loop-left.self left_now)
    (rest_of c.next.new.self left_mid)
    (beyond_of c.args.self.now left_old) (beyond_of c.next.new.self left_mid)
    c.loop-left.staged.items (omega arith) (omega arith) i.some
    (λ t. let event = rw is at ok.event t in event.0)
    (λ t. let event = rw is at ok.event t in event.1)
    (λ t. let rest = rw is at ok.rest t in rest)
    (λ t. ok.beyond t ∙ i.beyond t)
    first c.part.ensures.listens

pub returns-in-Ok-None-clause-listens : goal.returns-in-Ok-None-clause-listens
returns-in-Ok-None-clause-listens g c =
    let i = c.loop-left.invariant in
    let left_old = g.P.Disk.input_left c.args.p.now in
    let left_now = g.P.Disk.input_left c.loop-left.p in
    listens_head g.P.Disk c.args.p.now c.loop-left.p c.next.new.p
    (stands_at c.loop-left.self) c.args.due c.loop-left.left
    (rest_of c.args.self.now left_old) (rest_of c.loop-left.self left_now)
    (beyond_of c.args.self.now left_old) (beyond_of c.loop-left.self left_now)
    c.loop-left.staged.items i.place (omega arith) i.some i.beyond i.listens c.next.ensures.listens

pub returns-in-Err-clause-listens : goal.returns-in-Err-clause-listens
returns-in-Err-clause-listens g c =
    let i = c.loop-left.invariant in
    let left_old = g.P.Disk.input_left c.args.p.now in
    let left_now = g.P.Disk.input_left c.loop-left.p in
    listens_head g.P.Disk c.args.p.now c.loop-left.p c.next.new.p
    (stands_at c.loop-left.self) c.args.due c.loop-left.left
    (rest_of c.args.self.now left_old) (rest_of c.loop-left.self left_now)
    (beyond_of c.args.self.now left_old) (beyond_of c.loop-left.self left_now)
    c.loop-left.staged.items i.place (omega arith) i.some i.beyond i.listens c.next.ensures.listens

pub returns-in-Err-clause-steady : goal.returns-in-Err-clause-steady
returns-in-Err-clause-steady g c =
    unless_then _ _ c.in-Err.fault (λ same. same ∙ c.loop-left.invariant.steady)
    c.in-Err.ensures.steady

pub returns-in-Ok-None-clause-steady : goal.returns-in-Ok-None-clause-steady
returns-in-Ok-None-clause-steady g c =
    in_any_case _ c.cut.result (c.in-Ok-None.ensures.steady ∙ c.loop-left.invariant.steady)

pub returns-in-Err-part-clause-steady : goal.returns-in-Err-part-clause-steady
returns-in-Err-part-clause-steady g c =
    unless_then _ _ c.in-Err-part.fault
    (λ same. same ∙ c.in-Ok-Some-Head.ensures.steady ∙ c.loop-left.invariant.steady)
    c.in-Err-part.ensures.steady
