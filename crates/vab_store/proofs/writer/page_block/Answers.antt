use Rattle.std.proofs.Common.{◌≡◌, ◌+◌, ◌*◌, min, ℕ, ◌∷◌, ◌++◌, [], length, sym, ap, ◌∙◌, arith}
use Rattle.vab_exceptions.specs.declared.area.Exception.{Exception}
use Rattle.vab_exceptions.specs.Entries.{firsts, area_bytes}
use Rattle.vab_exceptions.proofs.EntryLaws.{length-firsts, firsts-more}
use Rattle.vab_store.specs.Writing.{planned_at}
use Rattle.vab_store.proofs.writer.page_block.Goals as goal

pub loop-i-init : goal.loop-i-init
unfolding firsts
loop-i-init c = c.new-entries.ensures

pub push-requires : goal.push-requires
push-requires c =
    let f : ℕ → Exception = λ i. planned_at c.args.chunk c.args.olds.now (256 * c.args.page + i) in
    let so_far : length c.loop-i.entries.items ≡ c.loop-i.i =
    ap length c.loop-i.invariant ∙ length-firsts f c.loop-i.i in
    omega (arith, so_far, c.loop-i-test.true, c.min-count.ensures)

pub encode_area-requires : goal.encode_area-requires
encode_area-requires c =
    let f : ℕ → Exception = λ i. planned_at c.args.chunk c.args.olds.now (256 * c.args.page + i) in
    let long : length c.loop-i.entries.items ≡ c.loop-i.i =
    ap length c.loop-i.invariant ∙ length-firsts f c.loop-i.i in
    omega (arith, long, c.loop-i.auto.i-end, c.min-count.ensures)

pub loop-i-preserved : goal.loop-i-preserved
loop-i-preserved c =
    let f : ℕ → Exception = λ i. planned_at c.args.chunk c.args.olds.now (256 * c.args.page + i) in
    c.push.ensures.items
    ∙ ap (λ l. l ++ c.planned.result ∷ []) c.loop-i.invariant
    ∙ ap (λ e. firsts f c.loop-i.i ++ e ∷ []) c.planned.ensures
    ∙ sym (firsts-more f c.loop-i.i)

pub returns : goal.returns
returns c =
    let f : ℕ → Exception = λ i. planned_at c.args.chunk c.args.olds.now (256 * c.args.page + i) in
    let all : c.loop-i.i ≡ c.min-count.result =
    omega (arith, c.loop-i-test.false, c.loop-i.auto.i-end) in
    c.encode_area.ensures.bytes
    ∙ ap (area_bytes 4096)
    (c.loop-i.invariant
    ∙ ap (firsts f)
    (all
    ∙ c.min-count.ensures
    ∙ ap (λ (n : ℕ). min n 256) c.saturating_sub.ensures))
