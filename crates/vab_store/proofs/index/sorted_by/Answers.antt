use Rattle.std.proofs.Common.{◌≡◌, ◌∷◌, ◌++◌, [], ap, sym, ◌∙◌, arith}
use Rattle.vab_store.specs.declared.index.Place.{Place}
use Rattle.vab_exceptions.specs.Entries.{firsts}
use Rattle.vab_exceptions.proofs.EntryLaws.{firsts-more}
use Rattle.vab_store.proofs.SortLaws.{place_by, sorted_is}
use Rattle.vab_store.proofs.index.sorted_by.Goals as goal

pub loop-i-init : goal.loop-i-init
unfolding firsts
loop-i-init c = c.in_ok-places.ensures.items

pub loop-i-preserved : goal.loop-i-preserved
loop-i-preserved c =
    let f = place_by c.args.key c.args.items.now in
    let i = c.loop-i.i in
    let here : Place = record { key = c.key_of.result; at = i } in
    let is : here ≡ f i = (λ j. record { key = c.key_of.ensures j; at = i }) in
    c.in_ok-push.ensures.items
    ∙ ap (λ l. l ++ here ∷ []) c.loop-i.invariant
    ∙ ap (λ p. firsts f i ++ p ∷ []) is
    ∙ sym (firsts-more f i)

pub returns : goal.returns
returns c =
    sorted_is c.args.key c.args.items.now c.loop-i.places.items c.sort_unstable.new.self.items
    c.loop-i.i (omega (arith, c.loop-i-test.false, c.loop-i.auto.i-end))
    c.loop-i.invariant c.sort_unstable.ensures.permutation
    (λ k below. c.sort_unstable.ensures.sorted k (record { key = 0; at = 0 }) (omega arith) below)
