use Rattle.std.proofs.Common.{◌≡◌, Ok, List, ◌∙◌, ap}
use Rattle.std.proofs.lemmas.Result.{on_ok_weaker}
use Rattle.vab_statuses.specs.Statuses.{statuses_in, with_status}
use Rattle.vab_statuses.proofs.StatusesLaws.{statuses_put}
use Rattle.vab_statuses.proofs.writing.put_status.Goals as goal

pub returns-clause-joins : goal.returns-clause-joins
returns-clause-joins g c = λ t statuses old free new.
    let image = g.D.Disk.seen c.args.d.now in
    let bytes : List _ = c.encode_status.result in
    on_ok_weaker {Q = statuses_in (g.D.Disk.seen c.put_gate.new.d)
    ≡ Ok (with_status statuses c.args.at c.args.status.now)}
    c.put_gate.result
    (λ written.
    ap statuses_in written
    ∙ statuses_put image bytes statuses c.args.at c.args.status.now old free new
    c.encode_status.ensures.decoded)
    (c.put_gate.ensures.written t)
