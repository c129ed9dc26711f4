use Rattle.std.proofs.Common.{List, Some, ap, sym, ◌∙◌, subst}
use Rattle.std.proofs.lemmas.List.{get_or_read}
use Rattle.vab_exceptions.specs.declared.area.Exception.{Exception}
use Rattle.vab_store.specs.declared.index.Place.{Place}
use Rattle.vab_store.specs.View.{no_exception, view_of}
use Rattle.vab_store.specs.Index.{HasPlace, LacksKey}
use Rattle.vab_store.proofs.IndexLaws.{indexed_lacks, indexed_at, indexed_has}
use Rattle.vab_store.proofs.view.StoreView.find.Goals as goal

pub returns-in-Some-clause-found : goal.returns-in-Some-clause-found
returns-in-Some-clause-found g c =
    let es : List Exception = c.self.inside.items.items in
    let ps : List Place = c.self.inside.index.items in
    let has : HasPlace ps c.args.old c.in-Some.at =
    subst (λ (l : List Place). HasPlace l c.args.old c.in-Some.at) c.deref.ensures.value
    c.in-Some.ensures.found in
    let there = indexed_at es ps c.args.old c.in-Some.at c.self.invariant has in
    let here = get_or_read es c.in-Some.at c.index.result.now there.0 c.index.ensures
    no_exception in
    ap (λ (e : Exception). Some e.new_chunk) here
    ∙ sym (indexed_has es ps c.args.old c.in-Some.at c.self.invariant has)
    ∙ ap (λ (l : List Exception). view_of l c.args.old) c.self.view_is

pub returns-in-None-clause-found : goal.returns-in-None-clause-found
returns-in-None-clause-found g c =
    let es : List Exception = c.self.inside.items.items in
    let ps : List Place = c.self.inside.index.items in
    let lacks : LacksKey ps c.args.old =
    subst (λ (l : List Place). LacksKey l c.args.old) c.deref.ensures.value
    c.in-None.ensures.found in
    sym (indexed_lacks es ps c.args.old c.self.invariant lacks)
    ∙ ap (λ (l : List Exception). view_of l c.args.old) c.self.view_is
