use Rattle.std.proofs.Common.{◌≡◌, inl, ◌<◌, ◌≤◌, Some, length, refl, sym, ◌∙◌, ap, rules}
use Rattle.vab_fbtcp.specs.declared.event.Event.TheVariants.{Head}
use Rattle.vab_fbtcp.specs.Unread.{unread_of}
use Rattle.vab_exchanges.specs.Session.{Stops}
use Rattle.vab_exchanges.specs.Reading.{stands_at, rest_of, beyond_of, total_of, count_of}
use Rattle.vab_exchanges.proofs.ReaderLaws.{listens_packet}
use Rattle.vab_exchanges.proofs.Packets.{is_packet}
use Rattle.vab_exchanges.proofs.Stops.{cut_here, closed_here, spent_here, between_none}
use Rattle.vab_exchanges.proofs.Stops.{between_some, by_length, by_short}
use Rattle.vab_exchanges.proofs.Stops.{in_any_case, unless_then}
use Rattle.vab_exchanges.proofs.reader.Reader.packet.Goals as goal

pub returns-in-Ok-clause-packet : goal.returns-in-Ok-clause-packet
returns-in-Ok-clause-packet g c = λ t.
    let ok = c.in-Ok-Some-Head.ensures in
    let is : c.in-Ok-Some-Head.field-0 ≡ Some (Head c.in-Ok-Some-Head.count) =
    c.in-Ok-Some-Head.field-0-is ∙ ap Some c.in-Ok-Some-Head.field-0-0-is in
    let event = rw is at ok.event t in
    let rest = rw is at ok.rest t in
    let body = c.in-Ok.ensures in
    is_packet _ _ c.body.new.packet.items c.in-Ok-Some-Head.count event.2 body.long
    (sym rest ∙ body.packet t)

pub returns-in-Err-body-clause-fault : goal.returns-in-Err-body-clause-fault
returns-in-Err-body-clause-fault g c = λ t.
    let ok = c.in-Ok-Some-Head.ensures in
    let is : c.in-Ok-Some-Head.field-0 ≡ Some (Head c.in-Ok-Some-Head.count) =
    c.in-Ok-Some-Head.field-0-is ∙ ap Some c.in-Ok-Some-Head.field-0-0-is in
    let event = rw is at ok.event t in
    let rest = rw is at ok.rest t in
    let fits : c.in-Ok-Some-Head.count ≤ 4096 = search rules in
    let left = g.P.Disk.input_left c.args.p.now in
    by_short _ (rest_of c.args.self.now left) _ c.in-Ok-Some-Head.count
    (total_of c.args.self.now left) _ c.args.self.now.budget.most c.in-Err-body.fault event.0
    event.1 fits rest (ok.count t) c.next.ensures.most (c.in-Err-body.ensures.fault t)

pub returns-in-Err-clause-fault : goal.returns-in-Err-clause-fault
returns-in-Err-clause-fault g c =
    λ t. by_length _ _ _ _ c.in-Err.fault (rw c.requires.place at c.in-Err.ensures.fault t)

pub returns-then-not-is_between-clause-fault : goal.returns-then-not-is_between-clause-fault
returns-then-not-is_between-clause-fault g c = λ t.
    let left = g.P.Disk.input_left c.args.p.now in
    let old = c.args.self.now in
    let none = rw (c.in-Ok-None.field-0-is, c.requires.place) at c.in-Ok-None.ensures.none t in
    let end = rw c.in-Ok-None.field-0-is at c.in-Ok-None.ensures.end t in
    let held = rw c.in-Ok-None.field-0-is at c.in-Ok-None.ensures.held t in
    let stays = rw c.in-Ok-None.field-0-is at c.in-Ok-None.ensures.stays in
    let some : 0 < length (rest_of old left) =
    between_some c.is_between.result (stands_at c.next.new.self)
    (unread_of c.next.new.self.framer) (rest_of old left) c.is_between.ensures
    (stays ∙ c.requires.place) held c.if-not-is_between.true in
    cut_here (Stops (count_of old left) (rest_of old left)) c.next.new.self.budget.taken
    c.next.new.self.budget.most (g.P.Disk.input_left c.next.new.p) (total_of old left)
    old.budget.most c.cut.result c.next.new.self.budget.within
    end (c.in-Ok-None.ensures.count t) c.next.ensures.most c.cut.ensures (refl, some, inl none)

pub returns-then-self-clause-fault : goal.returns-then-self-clause-fault
returns-then-self-clause-fault g c = λ t.
    let left = g.P.Disk.input_left c.args.p.now in
    let old = c.args.self.now in
    let held = rw c.in-Ok-None.field-0-is at c.in-Ok-None.ensures.held t in
    let none =
    between_none c.is_between.result (stands_at c.next.new.self)
    (unread_of c.next.new.self.framer) (rest_of old left) c.is_between.ensures held
    c.if-not-is_between.false in
    spent_here c.next.new.self.budget.taken c.next.new.self.budget.most
    (g.P.Disk.input_left c.next.new.p) (total_of old left) old.budget.most (rest_of old left)
    c.if-self.true (c.in-Ok-None.ensures.count t) c.next.ensures.most none

pub returns-else-self-clause-closed : goal.returns-else-self-clause-closed
returns-else-self-clause-closed g c = λ t.
    let left = g.P.Disk.input_left c.args.p.now in
    let old = c.args.self.now in
    let held = rw c.in-Ok-None.field-0-is at c.in-Ok-None.ensures.held t in
    let end = rw c.in-Ok-None.field-0-is at c.in-Ok-None.ensures.end t in
    let none =
    between_none c.is_between.result (stands_at c.next.new.self)
    (unread_of c.next.new.self.framer) (rest_of old left) c.is_between.ensures held
    c.if-not-is_between.false in
    closed_here c.next.new.self.budget.taken c.next.new.self.budget.most
    (g.P.Disk.input_left c.next.new.p) (total_of old left) old.budget.most (rest_of old left)
    (search rules) end (c.in-Ok-None.ensures.count t) c.next.ensures.most none

pub returns-in-Ok-clause-listens : goal.returns-in-Ok-clause-listens
returns-in-Ok-clause-listens g c =
    let ok = c.in-Ok-Some-Head.ensures in
    let n = c.in-Ok-Some-Head.count in
    let is : c.in-Ok-Some-Head.field-0 ≡ Some (Head n) =
    c.in-Ok-Some-Head.field-0-is ∙ ap Some c.in-Ok-Some-Head.field-0-0-is in
    let fits : n ≤ 4096 = search rules in
    let left_old = g.P.Disk.input_left c.args.p.now in
    let left_now = g.P.Disk.input_left c.next.new.p in
    listens_packet g.P.Disk c.args.p.now c.next.new.p c.body.new.p
    (stands_at c.args.self.now) n
    (rest_of c.args.self.now left_old) (rest_of c.next.new.self left_now)
    (beyond_of c.args.self.now left_old) (beyond_of c.next.new.self left_now)
    c.requires.place fits
    (λ t. let event = rw is at ok.event t in event.0)
    (λ t. let event = rw is at ok.event t in event.1)
    (λ t. let rest = rw is at ok.rest t in rest)
    ok.beyond c.next.ensures.listens c.body.ensures.listens

pub returns-in-Err-body-clause-listens : goal.returns-in-Err-body-clause-listens
returns-in-Err-body-clause-listens g c =
    let ok = c.in-Ok-Some-Head.ensures in
    let n = c.in-Ok-Some-Head.count in
    let is : c.in-Ok-Some-Head.field-0 ≡ Some (Head n) =
    c.in-Ok-Some-Head.field-0-is ∙ ap Some c.in-Ok-Some-Head.field-0-0-is in
    let fits : n ≤ 4096 = search rules in
    let left_old = g.P.Disk.input_left c.args.p.now in
    let left_now = g.P.Disk.input_left c.next.new.p in
    listens_packet g.P.Disk c.args.p.now c.next.new.p c.body.new.p
    (stands_at c.args.self.now) n
    (rest_of c.args.self.now left_old) (rest_of c.next.new.self left_now)
    (beyond_of c.args.self.now left_old) (beyond_of c.next.new.self left_now)
    c.requires.place fits
    (λ t. let event = rw is at ok.event t in event.0)
    (λ t. let event = rw is at ok.event t in event.1)
    (λ t. let rest = rw is at ok.rest t in rest)
    ok.beyond c.next.ensures.listens c.body.ensures.listens

pub returns-in-Err-body-clause-steady : goal.returns-in-Err-body-clause-steady
returns-in-Err-body-clause-steady g c =
    unless_then _ _ c.in-Err-body.fault (λ same. same ∙ c.in-Ok-Some-Head.ensures.steady)
    c.in-Err-body.ensures.steady

pub returns-then-not-is_between-clause-steady : goal.returns-then-not-is_between-clause-steady
returns-then-not-is_between-clause-steady g c =
    in_any_case _ c.cut.result c.in-Ok-None.ensures.steady
