use Rattle.std.proofs.Common.{◌≡◌, ◌<◌, ◌≤◌, ℕ, List, ◌++◌, ◌∷◌, [], length, set, ap, sym, ◌∙◌}
use Rattle.std.proofs.Common.{subst, arith}
use Rattle.std.specs.List.{insert}
use Rattle.vab_exceptions.specs.declared.area.Exception.{Exception}
use Rattle.vab_store.specs.declared.index.Key.TheVariants.{Old}
use Rattle.vab_store.specs.declared.index.Place.{Place}
use Rattle.vab_store.specs.Index.{IsRank, IsIndexed}
use Rattle.vab_store.specs.Setting.{entry_place}
use Rattle.vab_store.proofs.SettingLaws.{LacksOld, exception_of, place_held, place_lacks}
use Rattle.vab_store.proofs.SettingLaws.{place_most}
use Rattle.vab_store.proofs.SettingLaws.{set_in_place, set_behind, indexed_set, indexed_more}
use Rattle.vab_store.proofs.view.StoreView.with_chunk.Goals as goal

pub invariant_of-result : goal.invariant_of-result
invariant_of-result c =
    let es : List Exception = c.args.self.now in
    let ps : List Place = c.self.inside.index.items in
    let at : ℕ = c.place_of-at.result in
    let at_is : at ≡ entry_place es c.args.old = c.place_of-at.ensures in
    let items : c.in_ok-items.items.items ≡ es =
    c.in_ok-items.ensures.items ∙ c.deref.ensures.value ∙ c.self.view_is in
    let index : c.in_ok-index.index.items ≡ ps =
    c.in_ok-index.ensures.items ∙ c.deref-2.ensures.value in
    let is : IsIndexed Old es ps =
    subst (λ (l : List Exception). IsIndexed Old l ps) c.self.view_is c.self.invariant in
    let below : entry_place es c.args.old < length es =
    omega (arith, c.if-at-len.true, c.len.ensures, at_is, ap length items) in
    let now : IsIndexed Old
    (set es (entry_place es c.args.old) (exception_of c.args.old c.args.new)) ps =
    indexed_set es ps (entry_place es c.args.old) c.args.old c.args.new is below
    (place_held es c.args.old below) in
    subst (IsIndexed Old
    (set c.in_ok-items.items.items at (exception_of c.args.old c.args.new))) (sym index)
    (subst (λ (l : List Exception). IsIndexed Old
    (set l at (exception_of c.args.old c.args.new)) ps) (sym items)
    (subst (λ (k : ℕ). IsIndexed Old (set es k (exception_of c.args.old c.args.new)) ps)
    (sym at_is) now))

pub returns-then-at-len : goal.returns-then-at-len
returns-then-at-len c =
    let es : List Exception = c.args.self.now in
    let at : ℕ = c.place_of-at.result in
    let at_is : at ≡ entry_place es c.args.old = c.place_of-at.ensures in
    let items : c.in_ok-items.items.items ≡ es =
    c.in_ok-items.ensures.items ∙ c.deref.ensures.value ∙ c.self.view_is in
    let below : entry_place es c.args.old < length es =
    omega (arith, c.if-at-len.true, c.len.ensures, at_is, ap length items) in
    ap (λ (l : List Exception). set l at (exception_of c.args.old c.args.new)) items
    ∙ ap (λ (k : ℕ). set es k (exception_of c.args.old c.args.new)) at_is
    ∙ sym (set_in_place es c.args.old c.args.new below)

pub invariant_of-result-2 : goal.invariant_of-result-2
invariant_of-result-2 c =
    let es : List Exception = c.args.self.now in
    let ps : List Place = c.self.inside.index.items in
    let at : ℕ = c.place_of-at.result in
    let rank : ℕ = c.rank_of.result in
    let old : ℕ = c.args.old in
    let here : ℕ → Place = λ k. record { key = old; at = k } in
    let at_is : at ≡ entry_place es old = c.place_of-at.ensures in
    let items : c.in_ok-items.items.items ≡ es =
    c.in_ok-items.ensures.items ∙ c.deref.ensures.value ∙ c.self.view_is in
    let index : c.in_ok-index.index.items ≡ ps =
    c.in_ok-index.ensures.items ∙ c.deref-2.ensures.value in
    let is : IsIndexed Old es ps =
    subst (λ (l : List Exception). IsIndexed Old l ps) c.self.view_is c.self.invariant in
    let behind : length es ≤ at =
    omega (arith, c.if-at-len.false, c.len.ensures, ap length items) in
    let lacks : LacksOld es old = place_lacks es old (omega (arith, behind, at_is)) in
    let last : length es ≡ at = omega (arith, behind, at_is, place_most es old) in
    let ranked : IsRank ps old rank =
    subst (λ (l : List Place). IsRank l old rank) c.deref-3.ensures.value c.rank_of.ensures in
    let now : IsIndexed Old (es ++ exception_of old c.args.new ∷ [])
    (insert ps rank (here (length es))) =
    indexed_more es ps rank old c.args.new is ranked lacks in
    let pushed : c.push.new.self.items ≡ es ++ exception_of old c.args.new ∷ [] =
    c.in_ok-push.ensures.items
    ∙ ap (λ (l : List Exception). l ++ exception_of old c.args.new ∷ []) items in
    let inserted : c.insert.new.self.items ≡ insert ps rank (here at) =
    c.in_ok-insert.ensures.items ∙ ap (λ (l : List Place). insert l rank (here at)) index in
    subst (λ (l : List Exception). IsIndexed Old l c.insert.new.self.items) (sym pushed)
    (subst (IsIndexed Old (es ++ exception_of old c.args.new ∷ []))
    (ap (λ (k : ℕ). insert ps rank (here k)) last ∙ sym inserted) now)

pub returns : goal.returns
returns c =
    let es : List Exception = c.args.self.now in
    let old : ℕ = c.args.old in
    let at_is : c.place_of-at.result ≡ entry_place es old = c.place_of-at.ensures in
    let items : c.in_ok-items.items.items ≡ es =
    c.in_ok-items.ensures.items ∙ c.deref.ensures.value ∙ c.self.view_is in
    let lacks : LacksOld es old =
    place_lacks es old
    (omega (arith, c.if-at-len.false, c.len.ensures, at_is, ap length items)) in
    c.in_ok-push.ensures.items
    ∙ ap (λ (l : List Exception). l ++ exception_of old c.args.new ∷ []) items
    ∙ sym (set_behind es old c.args.new lacks)
