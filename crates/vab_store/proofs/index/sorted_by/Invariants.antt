use Rattle.std.proofs.Common.{◌≡◌}
use Rattle.vab_exceptions.specs.Entries.{firsts}
use Rattle.vab_store.proofs.SortLaws.{place_by}
use Rattle.vab_store.proofs.index.sorted_by.Given as goal

abbrev pub invariant-loop-i : goal.invariant-loop-i
invariant-loop-i l = l.places.items ≡ firsts (place_by l.key l.items) l.i
