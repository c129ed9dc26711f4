use Rattle.std.proofs.Common.{◌∙◌, sym}
use Rattle.std.proofs.lemmas.Bool.{false_from_ne_true}
use Rattle.vab_names.specs.Names.{is_full}
use Rattle.vab_names.proofs.NameCases.{full_named}
use Rattle.vab_overlaying.proofs.JudgedLaws.{free_bare, free_idle, no_name, refuses_busy}
use Rattle.vab_overlaying.proofs.JudgedLaws.{refuses_name, refuses_size}
use Rattle.vab_overlaying.proofs.prepared.asked.Goals as goal

pub returns-then-not-is_free-clause-refused : goal.returns-then-not-is_free-clause-refused
returns-then-not-is_free-clause-refused c =
    refuses_busy c.args.device.now c.args.name.now c.args.size
    (sym c.is_free.ensures ∙ c.if-not-is_free.true)

pub returns-in-Err-clause-refused : goal.returns-in-Err-clause-refused
returns-in-Err-clause-refused c =
    let d = c.args.device.now in
    let free = sym c.is_free.ensures ∙ c.if-not-is_free.false in
    refuses_name d c.args.name.now c.args.size (free_idle d.mark free) (free_bare d.mark free)
    (false_from_ne_true (is_full d.mark.slot c.args.name.now)
    (λ full. no_name c.in-Err.ensures.exact.1 (full_named d.mark.slot c.args.name.now full)))

pub returns-then-not-is_full-clause-refused : goal.returns-then-not-is_full-clause-refused
returns-then-not-is_full-clause-refused c =
    let d = c.args.device.now in
    let free = sym c.is_free.ensures ∙ c.if-not-is_free.false in
    refuses_name d c.args.name.now c.args.size (free_idle d.mark free) (free_bare d.mark free)
    (sym c.is_full.ensures ∙ c.if-not-is_full.true)

pub returns-then-not-is_store_size-clause-refused :
    goal.returns-then-not-is_store_size-clause-refused
returns-then-not-is_store_size-clause-refused c =
    let d = c.args.device.now in
    let free = sym c.is_free.ensures ∙ c.if-not-is_free.false in
    refuses_size d c.args.name.now c.args.size (free_idle d.mark free) (free_bare d.mark free)
    (sym c.is_full.ensures ∙ c.if-not-is_full.false)
    (sym c.is_store_size.ensures ∙ c.if-not-is_store_size.true)
