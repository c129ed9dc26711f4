use Rattle.std.proofs.Common.{◌≡◌, Ok, string_bytes, sym, subst, ◌∙◌}
use Rattle.std.proofs.lemmas.Result.{err_from_is_err_and}
use Rattle.vab_pack.specs.declared.fault.WordFault.{WordFault}
use Rattle.vab_pack.specs.Words.{Fails, asked_by}
use Rattle.vab_pack.proofs.Loop.{goes_on, ends, is_done, few}
use Rattle.vab_pack.proofs.words.parse_all.Goals as goal

pub returns-in_err-entry : goal.returns-in_err-entry
returns-in_err-entry c =
    let p = err_from_is_err_and c.from_residual.result c.from_residual.ensures.1 in
    let fault : WordFault = c.in_err-entry.field-0.0 in
    let failed : Fails fault (asked_by c.loop-word.entries.items
    (string_bytes c.word-item.result)) = rw (← c.deref.ensures.value, ← c.as_str.ensures.value)
    c.in_err-entry.ensures in
    let whole = ends string_bytes c.args.words.now c.loop-word.word-index _ fault
    c.loop-word.entries.items c.word-item.result c.loop-word-test.true c.word-item.is failed
    c.loop-word.invariant in
    rw (p.1, p.2) (subst (Fails fault) (sym
    (few string_bytes c.args.words.now c.if-words-gt-MAX_WORDS.false)) whole)

pub loop-word-preserved : goal.loop-word-preserved
loop-word-preserved c =
    let is : asked_by c.loop-word.entries.items (string_bytes c.word-item.result)
    ≡ Ok c.in_ok-entry.entry = rw (← c.deref.ensures.value, ← c.as_str.ensures.value)
    c.in_ok-entry.ensures in
    rw c.in_ok-push.ensures.items (goes_on string_bytes c.args.words.now c.loop-word.word-index _
    c.loop-word.entries.items c.word-item.result c.in_ok-entry.entry c.loop-word-test.true
    c.word-item.is is c.loop-word.invariant)

pub returns : goal.returns
returns c = few string_bytes c.args.words.now c.if-words-gt-MAX_WORDS.false
    ∙ is_done string_bytes c.args.words.now c.loop-word.word-index _ c.loop-word.entries.items
    c.loop-word-test.false c.loop-word.invariant
