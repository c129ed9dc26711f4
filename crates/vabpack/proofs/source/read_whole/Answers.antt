use Rattle.std.proofs.Common.{◌≡◌, List, ℕ, [], ◌++◌, Option, Some, None, take, option_map, IfSome}
use Rattle.std.proofs.Common.{ap, ◌∙◌}
use Rattle.vabpack.proofs.source.read_whole.Goals as goal

taken : (limit : ℕ) (left : Option (List ℕ)) (old new : List ℕ)
    → old ≡ []
    → IfSome (option_map (take limit) left) (λ xs. new ≡ old ++ xs)
    → IfSome left (λ rest. new ≡ take limit rest)
taken limit None old new none h = tt
taken limit (Some rest) old new none h = h ∙ ap (λ (l : List ℕ). l ++ take limit rest) none

pub returns : goal.returns
returns g c =
    let read = rw (c.take.ensures.limit, c.take.ensures.inner) at
    c.in_ok-read_to_end.ensures.bytes in
    taken 4294967297 (g.F.Read.remaining c.args.file) c.new-bytes.result.items
    c.read_to_end.new.buf.items c.new-bytes.ensures.items read
