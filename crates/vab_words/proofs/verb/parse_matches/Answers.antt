use Rattle.std.proofs.Common.{◌≡◌, ◌∙◌, ap, sym, List, map, string_bytes}
use Rattle.std.proofs.lemmas.Result.{err_from_is_err_and}
use Rattle.clap.specs.Words.{App, Text, fault_of, is_simple, is_simple_and_free, kind_of}
use Rattle.clap.specs.Words.{subcommand_of, takes}
use Rattle.clap.specs.declared.error.kind.ErrorKind.TheVariants.{OutOfMemory}
use Rattle.vab_words.specs.Command.{found_in, is_taken, vab_app}
use Rattle.vab_words.specs.Verbs as verbs
use Rattle.vab_words.specs.declared.verb.WordsFault.TheVariants.{NoMemory, Usage}
use Rattle.vab_words.proofs.Taken.{all_known, not_true, simple, taken}
use Rattle.vab_words.proofs.verb.parse_matches.Goals as goal

pub returns-clause-taken : goal.returns-clause-taken
returns-clause-taken c =
    let words : List Text = map string_bytes c.args.words.now in
    let same = c.in_ok-vab.ensures in
    taken words (ap (λ (a : App). fault_of a words) (sym same)
    ∙ c.in_ok-matches.ensures.kinds (ap is_simple_and_free same ∙ all_known))

pub returns-clause-found : goal.returns-clause-found
unfolding found_in
returns-clause-found c =
    let words : List Text = map string_bytes c.args.words.now in
    let same = c.in_ok-vab.ensures in
    (c.in_ok-matches.ensures.matches (ap is_simple same ∙ simple)).1
    ∙ ap (λ (a : App). subcommand_of a words) same

pub returns-in_err-matches-clause-usage : goal.returns-in_err-matches-clause-usage
unfolding is_taken
returns-in_err-matches-clause-usage c =
    let words : List Text = map string_bytes c.args.words.now in
    let same = c.in_ok-vab.ensures in
    let p = err_from_is_err_and c.from_residual-in_err-matches.result
    c.from_residual-in_err-matches.ensures.1 in
    rw p.1 (λ usage. not_true (takes vab_app words) (λ yes.
    let memory : kind_of c.in_err-matches.field-0.0 ≡ OutOfMemory =
    c.in_err-matches.ensures.passes (ap (λ (a : App). takes a words) same ∙ yes) in
    let bad : Usage ≡ NoMemory = sym usage ∙ (p.2 ∙ ap verbs.fault_of memory) in
    cc))
