use Rattle.std.proofs.Common.{◌≡◌, length, Result, arith, refl, sym, subst, ◌∙◌}
use Rattle.std.proofs.lemmas.List.{length_push}
use Rattle.std.proofs.lemmas.Result.{err_from_is_err_and}
use Rattle.vab_tables.specs.declared.fault.TableFault.{TableFault}
use Rattle.vab_tables.specs.Reading.{Fails}
use Rattle.vab_tables.proofs.Loop.{steps, ends, is_done, next_is, piece_is}
use Rattle.vab_tables.proofs.decode.read_all.Goals as goal

pub returns-in_err-entry : goal.returns-in_err-entry
returns-in_err-entry g c =
    let size = g.E.Entry.SIZE in
    let read = g.E.Entry.reading in
    let P = g.R.Rules.passing c.args.rules.now in
    let passes = λ (earlier : _) (e : _). P e in
    let area = c.args.entries.bytes.now in
    let earlier = c.loop-index.all.items in
    let p = err_from_is_err_and c.from_residual.result c.from_residual.ensures.1 in
    let len : length earlier ≡ c.loop-index.index = c.loop-index.invariant.count in
    let piece =
    piece_is area c.loop-index.index (length earlier) c.SIZE.result c.SIZE-in-loop-index.result
    size c.SIZE.ensures c.SIZE-in-loop-index.ensures (sym len) in
    let next = next_is c.args.kind size read passes area earlier _ P _ (sym len) refl piece in
    let fault = c.in_err-entry.field-0.0 in
    let failed =
    subst (λ (r : Result g.row.E.Denot TableFault). Fails fault r) next c.in_err-entry.ensures
    in
    rw (p.1, p.2)
    (ends c.args.kind size read passes area c.args.entries.count c.loop-index.index earlier
    fault _ c.loop-index-test.true failed c.loop-index.invariant.rest)

pub loop-index-preserved : goal.loop-index-preserved
loop-index-preserved g c =
    let size = g.E.Entry.SIZE in
    let read = g.E.Entry.reading in
    let P = g.R.Rules.passing c.args.rules.now in
    let passes = λ (earlier : _) (e : _). P e in
    let area = c.args.entries.bytes.now in
    let earlier = c.loop-index.all.items in
    let len : length earlier ≡ c.loop-index.index = c.loop-index.invariant.count in
    let piece =
    piece_is area c.loop-index.index (length earlier) c.SIZE.result c.SIZE-in-loop-index.result
    size c.SIZE.ensures c.SIZE-in-loop-index.ensures (sym len) in
    let next = next_is c.args.kind size read passes area earlier _ P _ (sym len) refl piece in
    let items = c.in_ok-push.ensures.items in
    record {
      count = rw items (omega (arith, len, length_push earlier c.in_ok-entry.entry));
      rest = rw items
          (steps c.args.kind size read passes area c.args.entries.count c.loop-index.index earlier
          c.in_ok-entry.entry _ c.loop-index-test.true (sym next
          ∙ c.in_ok-entry.ensures) c.loop-index.invariant.rest);
    }

pub returns : goal.returns
returns g c =
    let P = g.R.Rules.passing c.args.rules.now in
    is_done c.args.kind g.E.Entry.SIZE g.E.Entry.reading (λ _ e. P e) c.args.entries.bytes.now
    c.args.entries.count c.loop-index.index c.loop-index.all.items _ (omega arith)
    c.loop-index.invariant.rest
