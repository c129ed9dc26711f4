use Rattle.std.proofs.Common.{◌≡◌, refl, length, take, length-take, length-append, [], Some, ◌+◌}
use Rattle.std.proofs.Common.{◌-◌, ◌<◌, ◌++◌, slice_range, vec_len, sym, ◌∙◌, ap, arith, rules}
use Rattle.vab_fbtcp.specs.declared.event.Event.TheVariants.{Piece}
use Rattle.vab_exchanges.specs.Reading.{stands_at, rest_of, beyond_of, count_of, total_of, IsShort}
use Rattle.vab_exchanges.proofs.ReaderLaws.{listens_body}
use Rattle.vab_exchanges.proofs.Stops.{grown, cut_here}
use Rattle.vab_exchanges.proofs.Events.{body_some, place_after-Part, part_read}
use Rattle.vab_exchanges.proofs.Stops.{in_any_case, unless_then}
use Rattle.vab_exchanges.proofs.reader.Reader.part.Goals as goal

pub loop-left-preserved : goal.loop-left-preserved
loop-left-preserved g c =
    let i = c.loop-left.invariant in
    let range = c.in-Ok-Some-Piece.range in
    let n = range.end - range.start in
    let some : 0 < c.loop-left.left = omega arith in
    let ok = c.in-Ok-Some-Piece.ensures in
    let is : c.in-Ok-Some-Piece.field-0 ≡ Some (Piece range) =
    c.in-Ok-Some-Piece.field-0-is ∙ ap Some c.in-Ok-Some-Piece.field-0-0-is in
    let suits = rw (is, i.place, body_some c.loop-left.left some) at ok.suits in
    let place = rw (is, i.place) at ok.place in
    let room = rw is at ok.room in
    let more : c.extend_from_slice.new.self.items
    ≡ c.loop-left.staged.items ++ slice_range c.next.new.self.piece range.start range.end =
    search rules in
    let long : vec_len c.extend_from_slice.new.self ≡ vec_len c.loop-left.staged + n =
    search rules in
    record {
      listens =
          let i = c.loop-left.invariant in
          let left_old = g.P.Disk.input_left c.args.p.now in
          let long_old : length c.args.staged.now.items ≡ vec_len c.args.staged.now =
          search rules in
          let long_now : length c.loop-left.staged.items ≡ vec_len c.loop-left.staged =
          search rules in
          let grew : length c.loop-left.staged.items
          ≡ length c.args.staged.now.items + (c.args.count - c.loop-left.left) =
          omega (arith, long_old, long_now, i.long, i.fewer) in
          let left_now = g.P.Disk.input_left c.loop-left.p in
          listens_body g.P.Disk c.args.p.now c.loop-left.p c.next.new.p
          (stands_at c.loop-left.self) c.loop-left.left c.args.count
          (take (c.args.count - c.loop-left.left) (rest_of c.args.self.now left_old))
          (rest_of c.args.self.now left_old) (rest_of c.loop-left.self left_now)
          (beyond_of c.args.self.now left_old) (beyond_of c.loop-left.self left_now)
          i.place (omega arith)
          (omega (
            arith,
            length-take (c.args.count - c.loop-left.left) (rest_of c.args.self.now left_old),
            i.long,
          ))
          (λ t.
          (grown c.args.staged.now.items c.loop-left.staged.items _ _
          (c.args.count - c.loop-left.left) (i.bytes t) grew).1) i.beyond i.listens
          c.next.ensures.listens;
      place = place ∙ place_after-Part c.loop-left.left n some;
      long = omega (arith, long, i.long, suits.2);
      fewer = omega (arith, i.fewer);
      space = omega (arith, long, i.space, suits.2, c.extend_from_slice.ensures.capacity);
      capacity = omega (arith, i.capacity, c.extend_from_slice.ensures.capacity);
      fed = let fed = rw is at ok.fed in fed;
      bytes = λ t.
          let event = rw is at ok.event t in
          let rest = rw is at ok.rest t in
          i.bytes t
          ∙ part_read c.loop-left.staged.items
          (rest_of c.loop-left.self (g.P.Disk.input_left c.loop-left.p)) _ n event.1
          ∙ (λ j. sym more j ++ sym rest j);
      room = omega (arith, room, i.room);
      beyond = λ t. ok.beyond t ∙ i.beyond t;
      steady = ok.steady ∙ i.steady;
      count = λ t. ok.count t ∙ i.count t;
      most = c.next.ensures.most ∙ i.most;
    }

pub returns-in-Ok-None-clause-listens : goal.returns-in-Ok-None-clause-listens
returns-in-Ok-None-clause-listens g c =
    let i = c.loop-left.invariant in
    let left_old = g.P.Disk.input_left c.args.p.now in
    let long_old : length c.args.staged.now.items ≡ vec_len c.args.staged.now = search rules in
    let long_now : length c.loop-left.staged.items ≡ vec_len c.loop-left.staged = search rules in
    let grew : length c.loop-left.staged.items
    ≡ length c.args.staged.now.items + (c.args.count - c.loop-left.left) =
    omega (arith, long_old, long_now, i.long, i.fewer) in
    let left_now = g.P.Disk.input_left c.loop-left.p in
    listens_body g.P.Disk c.args.p.now c.loop-left.p c.next.new.p
    (stands_at c.loop-left.self) c.loop-left.left c.args.count
    (take (c.args.count - c.loop-left.left) (rest_of c.args.self.now left_old))
    (rest_of c.args.self.now left_old) (rest_of c.loop-left.self left_now)
    (beyond_of c.args.self.now left_old) (beyond_of c.loop-left.self left_now)
    i.place (omega arith)
    (omega (
      arith,
      length-take (c.args.count - c.loop-left.left) (rest_of c.args.self.now left_old),
      i.long,
    ))
    (λ t.
    (grown c.args.staged.now.items c.loop-left.staged.items _ _
    (c.args.count - c.loop-left.left) (i.bytes t) grew).1) i.beyond i.listens
    c.next.ensures.listens

pub returns-in-Err-clause-listens : goal.returns-in-Err-clause-listens
returns-in-Err-clause-listens g c =
    let i = c.loop-left.invariant in
    let left_old = g.P.Disk.input_left c.args.p.now in
    let long_old : length c.args.staged.now.items ≡ vec_len c.args.staged.now = search rules in
    let long_now : length c.loop-left.staged.items ≡ vec_len c.loop-left.staged = search rules in
    let grew : length c.loop-left.staged.items
    ≡ length c.args.staged.now.items + (c.args.count - c.loop-left.left) =
    omega (arith, long_old, long_now, i.long, i.fewer) in
    let left_now = g.P.Disk.input_left c.loop-left.p in
    listens_body g.P.Disk c.args.p.now c.loop-left.p c.next.new.p
    (stands_at c.loop-left.self) c.loop-left.left c.args.count
    (take (c.args.count - c.loop-left.left) (rest_of c.args.self.now left_old))
    (rest_of c.args.self.now left_old) (rest_of c.loop-left.self left_now)
    (beyond_of c.args.self.now left_old) (beyond_of c.loop-left.self left_now)
    i.place (omega arith)
    (omega (
      arith,
      length-take (c.args.count - c.loop-left.left) (rest_of c.args.self.now left_old),
      i.long,
    ))
    (λ t.
    (grown c.args.staged.now.items c.loop-left.staged.items _ _
    (c.args.count - c.loop-left.left) (i.bytes t) grew).1) i.beyond i.listens
    c.next.ensures.listens

pub returns-in-Ok-None-clause-fault : goal.returns-in-Ok-None-clause-fault
returns-in-Ok-None-clause-fault g c = λ t.
    let i = c.loop-left.invariant in
    let left = g.P.Disk.input_left c.args.p.now in
    let old = c.args.self.now in
    let some : 0 < c.loop-left.left = omega arith in
    let none : rest_of c.loop-left.self (g.P.Disk.input_left c.loop-left.p) ≡ [] =
    rw (c.in-Ok-None.field-0-is, i.place, body_some c.loop-left.left some) at
    c.in-Ok-None.ensures.none t in
    let end = rw c.in-Ok-None.field-0-is at c.in-Ok-None.ensures.end t in
    let long_old : length c.args.staged.now.items ≡ vec_len c.args.staged.now = search rules in
    let long_now : length c.loop-left.staged.items ≡ vec_len c.loop-left.staged = search rules in
    let short : length (rest_of old left) < c.args.count =
    omega (
      arith,
      long_old,
      long_now,
      i.long,
      i.fewer,
      some,
      ap length (i.bytes t),
      ap length none,
      length-append c.args.staged.now.items (rest_of old left),
      length-append c.loop-left.staged.items
          (rest_of c.loop-left.self (g.P.Disk.input_left c.loop-left.p)),
    ) in
    cut_here (IsShort (count_of old left) c.args.count (rest_of old left))
    c.next.new.self.budget.taken c.next.new.self.budget.most (g.P.Disk.input_left c.next.new.p)
    (total_of old left) old.budget.most c.cut.result c.next.new.self.budget.within
    end (c.in-Ok-None.ensures.count t ∙ i.count t) (c.next.ensures.most ∙ i.most) c.cut.ensures
    (short, refl)

pub returns-in-Err-clause-steady : goal.returns-in-Err-clause-steady
returns-in-Err-clause-steady g c =
    unless_then _ _ c.in-Err.fault (λ same. same ∙ c.loop-left.invariant.steady)
    c.in-Err.ensures.steady

pub returns-in-Ok-None-clause-steady : goal.returns-in-Ok-None-clause-steady
returns-in-Ok-None-clause-steady g c =
    in_any_case _ c.cut.result (c.in-Ok-None.ensures.steady ∙ c.loop-left.invariant.steady)
