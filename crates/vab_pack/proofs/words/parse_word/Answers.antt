use Rattle.std.proofs.Common.{◌≡◌, List, ℕ, Option, Some, None, option_map, IfSome, sym, ◌∙◌}
use Rattle.vab_pack.specs.Asked.{Parts, HasParts}
use Rattle.vab_pack.proofs.WordLaws.{parts_have, have_parts}
use Rattle.vab_pack.specs.Words.{parts_of}
use Rattle.vab_pack.proofs.words.parse_word.Goals as goal

found : {V : Type 0} (view : V → Parts) (word : List ℕ) (o : Option V)
    → option_map view o ≡ parts_of word → IfSome o (λ x. HasParts word (view x))
found view word None h = tt
found view word (Some x) h = parts_have word (view x) (sym h)

pub returns-clause-found : goal.returns-clause-found
returns-clause-found c = found (λ x. record { front = x.0.now; path = x.1.now }) c.args.word.now
    c.split_word.result c.split_word.ensures

pub returns-clause-only : goal.returns-clause-only
returns-clause-only c = λ a is. c.split_word.ensures ∙ have_parts c.args.word.now a is
