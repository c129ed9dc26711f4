use Rattle.std.proofs.Common.{◌≡◌, ◌&&◌, ◌||◌, not, ℕ, List, length, Result}
use Rattle.std.proofs.Common.{arith, ap, refl, sym, subst, ◌∙◌}
use Rattle.std.proofs.lemmas.List.{length_push}
use Rattle.std.proofs.lemmas.Result.{err_from_is_err_and}
use Rattle.std.specs.List.{list_any}
use Rattle.std.specs.Str.{bytes_eq}
use Rattle.vab_bytes.specs.Name.{name_field, IsName}
use Rattle.vab_tables.specs.declared.fault.TableFault.{TableFault}
use Rattle.vab_tables.specs.declared.fault.TableFault.TheVariants as faults
use Rattle.vab_tables.specs.Reading.{Fails}
use Rattle.vab_tables.specs.Rules.{is_named}
use Rattle.vab_tables.proofs.Loop.{steps, ends, is_done, next_is, piece_is}
use Rattle.vab_tables.proofs.NameSets.{knows_more, knows_name, narrower_bad}
use Rattle.vab_tables.proofs.NameSets.{narrower_fails, narrower_ok}
use Rattle.vab_tables.proofs.decode.read_named.Goals as goal

pub returns-in_err-entry : goal.returns-in_err-entry
returns-in_err-entry g c =
    let size = g.E.Entry.SIZE in
    let read = g.E.Entry.reading in
    let name = g.E.Named.text_of in
    let P = g.R.Rules.passing c.args.rules.now in
    let passes = λ (earlier : _) (e : _). P e && not (is_named name earlier (name e)) in
    let area = c.args.entries.bytes.now in
    let i = c.loop-index.index in
    let earlier = c.loop-index.all.items in
    let p = err_from_is_err_and c.from_residual.result c.from_residual.ensures.1 in
    let len : length earlier ≡ i = c.loop-index.invariant.count in
    let piece =
    piece_is area i (length earlier) c.SIZE.result c.SIZE-in-loop-index.result size
    c.SIZE.ensures c.SIZE-in-loop-index.ensures (sym len) in
    let next =
    next_is c.args.kind size read passes area earlier _ (passes earlier) _ (sym len) refl piece
    in
    let fault = c.in_err-entry.field-0.0 in
    let narrow =
    narrower_fails (faults.BadEntry c.args.kind i) fault P
    (λ e. not (is_named name earlier (name e))) _ c.in_err-entry.ensures in
    let failed = subst (λ (r : Result g.row.E.Denot TableFault). Fails fault r) next narrow in
    rw (p.1, p.2)
    (ends c.args.kind size read passes area c.args.entries.count i earlier fault _
    c.loop-index-test.true failed c.loop-index.invariant.rest)

pub returns-then-not-branch : goal.returns-then-not-branch
returns-then-not-branch g c =
    let size = g.E.Entry.SIZE in
    let read = g.E.Entry.reading in
    let name = g.E.Named.text_of in
    let P = g.R.Rules.passing c.args.rules.now in
    let passes = λ (earlier : _) (e : _). P e && not (is_named name earlier (name e)) in
    let area = c.args.entries.bytes.now in
    let i = c.loop-index.index in
    let earlier = c.loop-index.all.items in
    let entry = c.in_ok-entry.entry in
    let len : length earlier ≡ i = c.loop-index.invariant.count in
    let piece =
    piece_is area i (length earlier) c.SIZE.result c.SIZE-in-loop-index.result size
    c.SIZE.ensures c.SIZE-in-loop-index.ensures (sym len) in
    let next =
    next_is c.args.kind size read passes area earlier _ (passes earlier) _ (sym len) refl piece
    in
    let fault = faults.BadEntry c.args.kind i in
    let known =
    knows_name name c.loop-index.names.keys earlier c.name.result.now
    c.loop-index.invariant.names c.in_ok-add_name.ensures.name in
    let new = c.in_ok-add_name.ensures.added
    ∙ ap not (known ∙ ap (is_named name earlier) c.name.ensures) in
    let bad =
    narrower_bad fault P (λ e. not (is_named name earlier (name e))) _ entry
    c.in_ok-entry.ensures (sym new ∙ c.if-not-branch.true) in
    ends c.args.kind size read passes area c.args.entries.count i earlier fault _
    c.loop-index-test.true (sym next ∙ bad) c.loop-index.invariant.rest

pub loop-index-preserved : goal.loop-index-preserved
loop-index-preserved g c =
    let size = g.E.Entry.SIZE in
    let read = g.E.Entry.reading in
    let name = g.E.Named.text_of in
    let P = g.R.Rules.passing c.args.rules.now in
    let passes = λ (earlier : _) (e : _). P e && not (is_named name earlier (name e)) in
    let area = c.args.entries.bytes.now in
    let i = c.loop-index.index in
    let earlier = c.loop-index.all.items in
    let entry = c.in_ok-entry.entry in
    let len : length earlier ≡ i = c.loop-index.invariant.count in
    let piece =
    piece_is area i (length earlier) c.SIZE.result c.SIZE-in-loop-index.result size
    c.SIZE.ensures c.SIZE-in-loop-index.ensures (sym len) in
    let next =
    next_is c.args.kind size read passes area earlier _ (passes earlier) _ (sym len) refl piece
    in
    let known =
    knows_name name c.loop-index.names.keys earlier c.name.result.now
    c.loop-index.invariant.names c.in_ok-add_name.ensures.name in
    let new = c.in_ok-add_name.ensures.added
    ∙ ap not (known ∙ ap (is_named name earlier) c.name.ensures) in
    let good =
    narrower_ok (faults.BadEntry c.args.kind i) P (λ e. not (is_named name earlier (name e))) _
    entry c.in_ok-entry.ensures (sym new ∙ c.if-not-branch.false) in
    let items = c.in_ok-push.ensures.items in
    record {
      count = rw items (omega (arith, len, length_push earlier entry));
      rest = rw items
          (steps c.args.kind size read passes area c.args.entries.count i earlier entry _
          c.loop-index-test.true (sym next ∙ good) c.loop-index.invariant.rest);
      names =
          knows_more name c.loop-index.names.keys c.add_name.new.names.keys earlier
          c.push.new.self.items entry
          c.loop-index.invariant.names (subst IsName c.name.ensures c.in_ok-add_name.ensures.name)
          (λ field. c.in_ok-add_name.ensures.names field
          ∙ ap (λ (n : List ℕ). list_any (λ k. bytes_eq field k) c.loop-index.names.keys
          || bytes_eq field (name_field n)) c.name.ensures)
          items;
    }

pub returns : goal.returns
returns g c =
    let name = g.E.Named.text_of in
    let P = g.R.Rules.passing c.args.rules.now in
    let passes = λ (earlier : _) (e : _). P e && not (is_named name earlier (name e)) in
    is_done c.args.kind g.E.Entry.SIZE g.E.Entry.reading passes c.args.entries.bytes.now
    c.args.entries.count c.loop-index.index c.loop-index.all.items _ (omega arith)
    c.loop-index.invariant.rest
