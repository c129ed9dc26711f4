use Rattle.std.proofs.Common.{sym, ◌∙◌, subst, ⊎_elim}
use Rattle.std.specs.Prelude.{option_map}
use Rattle.std.proofs.lemmas.Result.{err_from_is_err_and}
use Rattle.vab_wipe.specs.Prepared.{Refuses}
use Rattle.vab_wipe.proofs.JudgedLaws.{no_memory, image_refused, image_full, minor_of_wiped}
use Rattle.vab_wipe.proofs.JudgedLaws.{none_refused, where_refused}
use Rattle.vab_wipe.proofs.prepared.prepare.Goals as goal

pub returns-in-Some-clause-refused : goal.returns-in-Some-clause-refused
returns-in-Some-clause-refused c =
    image_refused c.args.device.now c.requires.kept.0 (option_map (λ s. s.now) c.args.staged)
    c.in_ok-bytes.bytes.now c.requires.kept.1 c.in_ok-bytes.ensures.taken c.in_ok-image.image
    c.in_ok-image.ensures.exact c.in-Some.refusal (sym c.judge.ensures ∙ c.in-Some.is)

pub returns-in_err-table-clause-refused : goal.returns-in_err-table-clause-refused
returns-in_err-table-clause-refused c =
    let p = err_from_is_err_and c.from_residual-in_err-table.result
    c.from_residual-in_err-table.ensures.1 in
    let d = c.args.device.now in
    let staged = option_map (λ s. s.now) c.args.staged in
    let r = c.in_err-table.field-0.0 in
    rw (p.1, p.2)
    (⊎_elim
    (λ is.
    subst (Refuses d staged) (sym is)
    (no_memory d c.requires.kept.0 staged c.in_ok-bytes.bytes.now c.requires.kept.1
    c.in_ok-bytes.ensures.taken))
    (λ not.
    image_full d c.requires.kept.0 staged c.in_ok-bytes.bytes.now c.requires.kept.1
    c.in_ok-bytes.ensures.taken c.in_ok-image.image c.in_ok-image.ensures.exact r
    (sym c.judge.ensures ∙ none_refused c.judge.result c.in_default.not-Some) not)
    c.in_err-table.ensures.refused)

pub spelled-requires-clause-minor : goal.spelled-requires-clause-minor
spelled-requires-clause-minor c =
    minor_of_wiped c.in_ok-image.image.table c.in_ok-table.table c.in_ok-table.ensures.is.is

pub returns-clause-refused : goal.returns-clause-refused
returns-clause-refused c =
    let d = c.args.device.now in
    let staged = option_map (λ s. s.now) c.args.staged in
    where_refused c.spelled.result (Refuses d staged)
    (no_memory d c.requires.kept.0 staged c.in_ok-bytes.bytes.now c.requires.kept.1
    c.in_ok-bytes.ensures.taken)
    c.spelled.ensures.refused
