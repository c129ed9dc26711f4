use Rattle.std.proofs.Common.{◌∷◌, ◌++◌, [], ap, sym, ◌∙◌, arith}
use Rattle.vab_exceptions.specs.Entries.{firsts}
use Rattle.vab_exceptions.proofs.EntryLaws.{firsts-more}
use Rattle.vab_store.specs.Writing.{planned_at}
use Rattle.vab_store.proofs.IndexLaws.{place_for, planned_indexed}
use Rattle.vab_store.proofs.view.StoreView.planned.Goals as goal

pub loop-j-init : goal.loop-j-init
unfolding firsts
loop-j-init c = record {
  items = c.in_ok-items.ensures.items;
  index = c.in_ok-index.ensures.items;
}

pub loop-j-preserved : goal.loop-j-preserved
loop-j-preserved c =
    let olds = c.args.olds.now in
    let k = c.args.chunk in
    let j = c.loop-j.j in
    record {
      items =
          c.in_ok-push.ensures.items
          ∙ ap (λ l. l ++ c.planned.result ∷ []) c.loop-j.invariant.items
          ∙ ap (λ e. firsts (planned_at k olds) j ++ e ∷ []) c.planned.ensures
          ∙ sym (firsts-more (planned_at k olds) j);
      index =
          c.in_ok-push-2.ensures.items
          ∙ ap (λ l. l ++ place_for olds j ∷ []) c.loop-j.invariant.index
          ∙ sym (firsts-more (place_for olds) j);
    }

pub invariant_of-result : goal.invariant_of-result
invariant_of-result c =
    planned_indexed c.args.chunk c.args.olds.now c.loop-j.items.items c.loop-j.index.items
    c.loop-j.j
    c.requires (omega (arith, c.loop-j-test.false, c.loop-j.auto.j-end))
    c.loop-j.invariant.items c.loop-j.invariant.index
