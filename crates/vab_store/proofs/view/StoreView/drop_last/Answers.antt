use Rattle.std.proofs.Common.{◌≡◌, ◌<◌, ◌-◌, ℕ, List, length, take, ap, sym, ◌∙◌, subst, arith}
use Rattle.std.specs.List.{remove}
use Rattle.vab_exceptions.specs.declared.area.Exception.{Exception}
use Rattle.vab_store.specs.declared.index.Place.{Place}
use Rattle.vab_store.specs.declared.index.Key.TheVariants.{Old}
use Rattle.vab_store.specs.Index.{place_at, IsIndexed}
use Rattle.vab_store.proofs.IndexLaws.{indexed_front}
use Rattle.vab_store.proofs.view.StoreView.drop_last.Goals as goal

pub invariant_of-self : goal.invariant_of-self
invariant_of-self c =
    let es : List Exception = c.self.inside.items.items in
    let ps : List Place = c.self.inside.index.items in
    let n : ℕ = c.len-last.result - 1 in
    let r : ℕ = c.index_of-i.result in
    let some : 0 < length es =
    subst (λ (l : List Exception). 0 < length l) (sym c.self.view_is) c.requires in
    let within : r < length ps = omega
    (arith, c.index_of-i.ensures.within, ap length c.deref.ensures.value) in
    let here : (place_at ps r).at ≡ n =
    ap (λ (l : List Place). (place_at l r).at) (sym c.deref.ensures.value)
    ∙ c.index_of-i.ensures.here in
    let front : IsIndexed Old (take n es) (remove ps r) =
    indexed_front es ps r n c.self.invariant within here
    (omega (arith, some, c.len-last.ensures)) in
    subst (λ (l : List Exception). IsIndexed Old l c.remove.new.self.items)
    (sym c.truncate.ensures.items)
    (subst (IsIndexed Old (take n es)) (sym c.remove.ensures.items) front)
