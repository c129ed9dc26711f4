use Rattle.std.proofs.Common.{◌≤◌, ◌+◌, ◌∙◌, length, rules}
use Rattle.vab_disk.specs.Disk.{SameHoldings}
use Rattle.vab_disk.proofs.Moments.{adds_on}
use Rattle.vab_exchanges.proofs.Telling.{say_more, saying_more}
use Rattle.vab_exchanges.proofs.tell.say_all.Goals as goal

pub returns-in_err-done-clause-front : goal.returns-in_err-done-clause-front
returns-in_err-done-clause-front g c = λ t.
    let i = c.loop-done.invariant in
    let more = c.say.ensures.failed t in
    (c.loop-done.done + more.0, say_more _ _ _ _ c.loop-done.done more.0 (i.told t) more.1)

pub returns-in_err-done-clause-time : goal.returns-in_err-done-clause-time
returns-in_err-done-clause-time g c = λ t.
    let i = c.loop-done.invariant in
    adds_on g.P.Disk.moment g.P.Disk.outcomes _ _ _ _ _ (i.time t) (c.say.ensures.time t)
    (saying_more _ _ _ c.loop-done.done _ _ (i.told t) (i.crash t))

pub loop-done-preserved : goal.loop-done-preserved
loop-done-preserved g c =
    let i = c.loop-done.invariant in
    let ok = c.in_ok-done.ensures in
    let same : (t : g.P.Disk.is_modelled)
    → SameHoldings (g.P.Disk.may_leave c.args.p.now) (g.P.Disk.may_leave c.say.new.self) =
    search rules in
    let within : c.loop-done.done + c.in_ok-done.field-0 ≤ length c.args.bytes.now = search rules in
    record {
      within = within;
      told = λ t. say_more _ _ _ _ c.loop-done.done c.in_ok-done.field-0 (i.told t) (ok.bytes t);
      size = c.say.ensures.size ∙ i.size;
      seen = λ t. c.say.ensures.seen t ∙ i.seen t;
      crash = same;
      left = λ t. c.say.ensures.left t ∙ i.left t;
      time =
          λ t. adds_on g.P.Disk.moment g.P.Disk.outcomes _ _ _ _ _ (i.time t)
          (c.say.ensures.time t) (saying_more _ _ _ c.loop-done.done _ _ (i.told t) (i.crash t));
      heard = λ t. c.say.ensures.heard t ∙ i.heard t;
      steady = ok.steady ∙ i.steady;
      counts = search rules;
    }
