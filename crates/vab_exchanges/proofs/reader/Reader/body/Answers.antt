use Rattle.std.proofs.Common.{◌≡◌, Some, ◌+◌, ◌-◌, ◌<◌, ◌++◌, length, slice_range, sym, ◌∙◌, ap}
use Rattle.std.proofs.Common.{arith, rules}
use Rattle.vab_fbtcp.specs.declared.event.Event.TheVariants.{Piece}
use Rattle.vab_exchanges.specs.Reading.{stands_at, rest_of, beyond_of}
use Rattle.vab_exchanges.proofs.ReaderLaws.{listens_body}
use Rattle.vab_exchanges.proofs.Events.{body_some, place_after-Part, part_read}
use Rattle.vab_exchanges.proofs.Stops.{in_any_case, unless_then}
use Rattle.vab_exchanges.proofs.reader.Reader.body.Goals as goal

pub loop-left-preserved : goal.loop-left-preserved
loop-left-preserved g c =
    let i = c.loop-left.invariant in
    let range = c.in-Ok-Some-Piece.range in
    let n = range.end - range.start in
    let some : 0 < c.loop-left.left = omega arith in
    let ok = c.in-Ok-Some-Piece.ensures in
    let is : c.in-Ok-Some-Piece.field-0 ≡ Some (Piece range) =
    c.in-Ok-Some-Piece.field-0-is ∙ ap Some c.in-Ok-Some-Piece.field-0-0-is in
    let suits = rw (is, i.place, body_some c.loop-left.left some) at ok.suits in
    let place = rw (is, i.place) at ok.place in
    let room = rw is at ok.room in
    let more : c.try_extend_from_slice.new.self.items
    ≡ c.loop-left.packet.items ++ slice_range c.next.new.self.piece range.start range.end =
    search rules in
    let long : length c.try_extend_from_slice.new.self.items
    ≡ length c.loop-left.packet.items + n =
    search rules in
    record {
      listens =
          let i = c.loop-left.invariant in
          let left_old = g.P.Disk.input_left c.args.p.now in
          let left_now = g.P.Disk.input_left c.loop-left.p in
          listens_body g.P.Disk c.args.p.now c.loop-left.p c.next.new.p
          (stands_at c.loop-left.self) c.loop-left.left c.args.count
          (c.loop-left.packet.items)
          (rest_of c.args.self.now left_old) (rest_of c.loop-left.self left_now)
          (beyond_of c.args.self.now left_old) (beyond_of c.loop-left.self left_now)
          i.place (omega arith) (omega (arith, i.long))
          (i.packet) i.beyond i.listens c.next.ensures.listens;
      place = place ∙ place_after-Part c.loop-left.left n some;
      long = omega (arith, long, i.long, suits.2);
      fits = i.fits;
      fed = let fed = rw is at ok.fed in fed;
      packet = λ t.
          let event = rw is at ok.event t in
          let rest = rw is at ok.rest t in
          i.packet t
          ∙ part_read c.loop-left.packet.items
          (rest_of c.loop-left.self (g.P.Disk.input_left c.loop-left.p)) _ n event.1
          ∙ (λ j. sym more j ++ sym rest j);
      room = omega (arith, room, i.room);
      beyond = λ t. ok.beyond t ∙ i.beyond t;
      steady = ok.steady ∙ i.steady;
      count = λ t. ok.count t ∙ i.count t;
      most = c.next.ensures.most ∙ i.most;
    }

pub returns-in-Ok-None-clause-listens : goal.returns-in-Ok-None-clause-listens
returns-in-Ok-None-clause-listens g c =
    let i = c.loop-left.invariant in
    let left_old = g.P.Disk.input_left c.args.p.now in
    let left_now = g.P.Disk.input_left c.loop-left.p in
    listens_body g.P.Disk c.args.p.now c.loop-left.p c.next.new.p
    (stands_at c.loop-left.self) c.loop-left.left c.args.count
    (c.loop-left.packet.items)
    (rest_of c.args.self.now left_old) (rest_of c.loop-left.self left_now)
    (beyond_of c.args.self.now left_old) (beyond_of c.loop-left.self left_now)
    i.place (omega arith) (omega (arith, i.long))
    (i.packet) i.beyond i.listens c.next.ensures.listens

pub returns-in-Err-clause-listens : goal.returns-in-Err-clause-listens
returns-in-Err-clause-listens g c =
    let i = c.loop-left.invariant in
    let left_old = g.P.Disk.input_left c.args.p.now in
    let left_now = g.P.Disk.input_left c.loop-left.p in
    listens_body g.P.Disk c.args.p.now c.loop-left.p c.next.new.p
    (stands_at c.loop-left.self) c.loop-left.left c.args.count
    (c.loop-left.packet.items)
    (rest_of c.args.self.now left_old) (rest_of c.loop-left.self left_now)
    (beyond_of c.args.self.now left_old) (beyond_of c.loop-left.self left_now)
    i.place (omega arith) (omega (arith, i.long))
    (i.packet) i.beyond i.listens c.next.ensures.listens

pub returns-in-Err-clause-steady : goal.returns-in-Err-clause-steady
returns-in-Err-clause-steady g c =
    unless_then _ _ c.in-Err.fault (λ same. same ∙ c.loop-left.invariant.steady)
    c.in-Err.ensures.steady

pub returns-in-Ok-None-clause-steady : goal.returns-in-Ok-None-clause-steady
returns-in-Ok-None-clause-steady g c =
    in_any_case _ c.cut.result (c.in-Ok-None.ensures.steady ∙ c.loop-left.invariant.steady)
