use Rattle.std.proofs.Common.{◌≡◌, ◌*◌, ℕ, List, take, sym, ◌∙◌, ap, arith}
use Rattle.vab_gate.specs.Gate.{sectors_at}
use Rattle.vab_buffer.proofs.Parts.{filled_is}
use Rattle.vab_buffer.proofs.buffered.fill.Goals as goal

pub returns-clause-fetched : goal.returns-clause-fetched
returns-clause-fetched g c = λ t s b kept.
    let store = c.args.store.now in
    let seen = g.S.RunStore.seen store in
    let run = c.begin.new.self in
    let first : run.first ≡ c.args.at = c.begin.ensures.first in
    let count : run.count ≡ c.args.count = c.begin.ensures.count in
    let front : take (512 * run.count) run.bytes.items ≡ sectors_at run.count seen run.first =
    ap (λ (v : _). take (512 * run.count) v.items) c.begin.ensures.same
    ∙ ap (λ (n : ℕ). take (512 * n) c.load.new.run.bytes.items) count
    ∙ c.in_ok-load.ensures.bytes t
    ∙ (λ i. sectors_at (sym count i) seen (sym first i)) in
    filled_is run.first run.count seen run.bytes.items front
    (λ s from below.
    (g.met.S.RunStore.whole store s (seen s) (omega (arith, below, first, count, c.requires.within))
    (g.met.S.RunStore.seen_held store s)).long)
    s b kept
    ∙ sym (ap (λ (image : ℕ → List ℕ). image s) (c.load.ensures.reads.seen t))
