use Rattle.std.proofs.Common.{◌∙◌, sym, List, map, string_bytes}
use Rattle.std.proofs.lemmas.Result.{err_from_is_err_and}
use Rattle.clap.specs.Words.{Text}
use Rattle.vab_words.proofs.Asked.{answered, refused, untaken}
use Rattle.vab_words.proofs.verb.parse_words.Goals as goal

pub returns-in_err-matches-clause-usage : goal.returns-in_err-matches-clause-usage
returns-in_err-matches-clause-usage c =
    let words : List Text = map string_bytes c.args.words.now in
    let p = err_from_is_err_and c.from_residual.result c.from_residual.ensures.1 in
    rw p.1 (λ usage. untaken words (c.in_err-matches.ensures.usage (sym p.2 ∙ usage)))

pub returns-clause-verb : goal.returns-clause-verb
returns-clause-verb c =
    let words : List Text = map string_bytes c.args.words.now in
    rw c.ok_or.ensures.value (answered words c.found_verb.result _ c.in_ok-matches.ensures.taken
    c.in_ok-matches.ensures.found c.found_verb.ensures.value)

pub returns-clause-usage : goal.returns-clause-usage
returns-clause-usage c =
    let words : List Text = map string_bytes c.args.words.now in
    rw c.ok_or.ensures.value (refused words c.found_verb.result _ c.in_ok-matches.ensures.taken
    c.in_ok-matches.ensures.found c.found_verb.ensures.value)
