use Rattle.std.proofs.Common.{◌≡◌, ◌-◌, ◌++◌}
use Rattle.vab_sparse.specs.Reading.{words_of}
use Rattle.vab_sparse.proofs.content.put_words.Given as goal

abbrev pub invariant-loop : goal.invariant-loop
invariant-loop l = l.image.items ++ words_of (l.count - l.counter) l.word ≡ l.fn.image.items
    ++ words_of l.count l.word
