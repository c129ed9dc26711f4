use Rattle.std.proofs.Common.{◌≡◌, ℕ, List, ◌++◌, length, drop, sym, ◌∙◌, ap, rules}
use Rattle.std.proofs.lemmas.List.{drop_at}
use Rattle.vab_fbtcp.specs.Unread.{unread_of}
use Rattle.vab_fbtcp.proofs.framer.Framer.next_length.Goals as goal

-- what is held was the front of what had come
pub returns-clause-unread : goal.returns-clause-unread
returns-clause-unread c =
    let rest = drop c.gather.new.at c.args.self.now.piece.items in
    let full : length c.gather.new.held.items ≡ 8 = search rules in
    let same : c.gather.new.held.items ++ rest ≡ unread_of c.args.self.now = search rules in
    ap (λ (l : List ℕ). l ++ rest) c.clear.ensures
    ∙ sym (drop_at c.gather.new.held.items rest 8 full) ∙ ap (λ (l : List ℕ). drop 8 l) same
