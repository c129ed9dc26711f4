use Rattle.std.proofs.Common.{◌≡◌}
use Rattle.vab_exceptions.specs.Entries.{firsts}
use Rattle.vab_store.specs.Writing.{planned_at}
use Rattle.vab_store.proofs.IndexLaws.{place_for}
use Rattle.vab_store.proofs.view.StoreView.planned.Given as goal

abbrev pub invariant-loop-j : goal.invariant-loop-j
invariant-loop-j l = record {
  items : l.items.items ≡ firsts (planned_at l.chunk l.olds) l.j;
  index : l.index.items ≡ firsts (place_for l.olds) l.j;
}
