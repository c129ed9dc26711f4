use Rattle.std.proofs.Common.{◌≡◌, ℕ, ◌-◌, ◌≤◌, List, ◌++◌, length, take, ◌∙◌, ap, arith, rules}
use Rattle.std.proofs.lemmas.List.{take-append-le}
use Rattle.vab_fbtcp.specs.Unread.{unread_of}
use Rattle.vab_exchanges.proofs.Hearings.{heard_more}
use Rattle.vab_exchanges.proofs.reader.Reader.hear.Goals as goal

pub returns-clause-rest : goal.returns-clause-rest
returns-clause-rest g c = λ t.
    let n = c.in-Ok.count in
    let left = g.P.Disk.input_left c.args.p.now in
    let budget = c.args.self.now.budget in
    let hears = c.in-Ok.ensures.bytes t in
    let fits : n ≤ length c.hear.new.out = omega (arith, hears.fits, c.hear.auto.out) in
    let fed : unread_of c.feed.new.self
    ≡ unread_of c.args.self.now.framer ++ take n c.hear.new.out =
    c.feed.ensures.unread
    ∙ ap (λ (l : List ℕ). unread_of c.args.self.now.framer ++ l)
    (take-append-le n c.hear.new.out _ fits) in
    let room : c.take.new.self.most - c.take.new.self.taken ≡ (budget.most - budget.taken) - n =
    omega (arith, c.take.ensures.taken, c.take.ensures.most) in
    let within : n ≤ budget.most - budget.taken = search rules in
    (λ i. (fed ∙ ap (λ (l : List ℕ). unread_of c.args.self.now.framer ++ l) hears.bytes) i
    ++ take (room i) (hears.rest i))
    ∙ heard_more (unread_of c.args.self.now.framer) left n (budget.most - budget.taken) within
