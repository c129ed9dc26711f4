use Rattle.std.proofs.Common.{List, length, ap, sym, ◌∙◌, subst}
use Rattle.std.specs.Prelude.{Ok}
use Rattle.vab_exceptions.specs.declared.area.Exception.{Exception}
use Rattle.vab_store.specs.declared.index.Key.TheVariants.{Old, New}
use Rattle.vab_store.specs.declared.index.Place.{Place}
use Rattle.vab_store.specs.Index.{TellsTie, TellsRepeat, IsSortedBy}
use Rattle.vab_store.specs.Scan.{unless_repeated}
use Rattle.vab_store.proofs.SortLaws.{repeat_told, indexed_told}
use Rattle.vab_store.proofs.view.StoreView.indexed.Goals as goal

pub invariant_of-result : goal.invariant_of-result
invariant_of-result c =
    let es : List Exception = c.args.items.items in
    let ps : List Place = c.in-Ok-sorted_by.places.items in
    let sorted : IsSortedBy Old es ps =
    subst (λ (l : List Exception). IsSortedBy Old l ps) c.deref-2.ensures.value
    c.in-Ok-sorted_by.ensures in
    let ties : TellsTie ps (length ps) c.first_tie.result =
    subst (λ (l : List Place). TellsTie l (length l) c.first_tie.result) c.deref-3.ensures.value
    c.first_tie.ensures in
    indexed_told es ps c.first_tie.result c.in-Ok.repeat sorted ties c.in-None.ensures

pub returns-in-Some-clause-answers : goal.returns-in-Some-clause-answers
returns-in-Some-clause-answers c =
    let es : List Exception = c.args.items.items in
    let ps : List Place = c.in-Ok-sorted_by.places.items in
    let sorted : IsSortedBy Old es ps =
    subst (λ (l : List Exception). IsSortedBy Old l ps) c.deref-2.ensures.value
    c.in-Ok-sorted_by.ensures in
    let ties : TellsTie ps (length ps) c.first_tie.result =
    subst (λ (l : List Place). TellsTie l (length l) c.first_tie.result) c.deref-3.ensures.value
    c.first_tie.ensures in
    let new : TellsRepeat New es c.in-Ok.repeat =
    subst (λ (l : List Exception). TellsRepeat New l c.in-Ok.repeat) c.deref.ensures.value
    c.in-Ok.ensures in
    ap (λ r. unless_repeated r (Ok es))
    (repeat_told es ps c.first_tie.result c.in-Ok.repeat sorted ties new ∙ sym c.in-Some.ensures)

pub returns-in-None-clause-answers : goal.returns-in-None-clause-answers
returns-in-None-clause-answers c =
    let es : List Exception = c.args.items.items in
    let ps : List Place = c.in-Ok-sorted_by.places.items in
    let sorted : IsSortedBy Old es ps =
    subst (λ (l : List Exception). IsSortedBy Old l ps) c.deref-2.ensures.value
    c.in-Ok-sorted_by.ensures in
    let ties : TellsTie ps (length ps) c.first_tie.result =
    subst (λ (l : List Place). TellsTie l (length l) c.first_tie.result) c.deref-3.ensures.value
    c.first_tie.ensures in
    let new : TellsRepeat New es c.in-Ok.repeat =
    subst (λ (l : List Exception). TellsRepeat New l c.in-Ok.repeat) c.deref.ensures.value
    c.in-Ok.ensures in
    ap (λ r. unless_repeated r (Ok es))
    (repeat_told es ps c.first_tie.result c.in-Ok.repeat sorted ties new ∙ sym c.in-None.ensures)
