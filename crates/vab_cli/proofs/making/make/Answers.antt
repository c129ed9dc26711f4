use Rattle.std.proofs.Common.{◌≡◌, ◌∙◌, ℕ, List, Err, Some, None, sym, ap, subst}
use Rattle.vab_set.specs.declared.set.SetImage.{SetImage}
use Rattle.vab_disk.specs.Disk.{Hearing}
use Rattle.vab_disk.specs.Calls.{Changes, InSectors}
use Rattle.vab_input.specs.HearsToEnd.{HearsToEnd, HearsWithin}
use Rattle.vab_disk.proofs.CallLaws.{changes_hearing, changes_then}
use Rattle.vab_make.specs.Made.{refusal_of}
use Rattle.vab_make.specs.Touched.{IsOfMaking}
use Rattle.vab_cli.specs.Codes.{make_status}
use Rattle.vab_cli.specs.Verbs.{make_line, done_making}
use Rattle.vab_cli.specs.Runs.{RunsRefused, RunsMaking}
use Rattle.vab_cli.proofs.InputFaults.{heard_whole, same_set, unheard_whole}
use Rattle.vab_cli.proofs.Makings.{refused_after, making_after}
use Rattle.std.proofs.Common.{⊎_elim, Ok, refl, arith}
use Rattle.vab_set.specs.Reading.{set_of}
use Rattle.vab_cli.specs.Causes.{too_long, malformed}
use Rattle.vab_cli.proofs.Causing.{input_long, input_opened, input_unrefused, set_opened}
use Rattle.vab_cli.proofs.Causing.{set_read, set_unrefused, unmade_after}
use Rattle.vab_cli.proofs.making.make.Goals as goal

pub returns-clause-made : goal.returns-clause-made
returns-clause-made g c = λ t set fits is none.
    let old = c.args.port.now in
    let mid = c.hear_all.new.p in
    let new = c.make_of.new.port in
    let size = g.P.Disk.size old in
    let limit = c.args.limit in
    let max = c.args.max in
    let found : c.in-Ok-read_set.set ≡ set = same_set _ _ set c.in-Ok-read_set.set
    (c.deref.ensures.value ∙ c.in-Ok.ensures.bytes t) c.in-Ok-read_set.ensures.exact is in
    making_after g.P.Disk g.met.P.Disk.only_now size set limit max (done_making set size)
    old mid new c.make_of.result
    (c.hear_all.ensures.told t) (c.hear_all.ensures.seen t) (c.hear_all.ensures.crash t)
    (c.hear_all.ensures.time t) c.make_of.ensures.memory
    (subst
    (λ (n : ℕ).
    refusal_of set limit max n ≡ None
    → RunsMaking g.P.Disk n set limit max (done_making set n) mid new c.make_of.result)
    c.hear_all.ensures.size
    (subst
    (λ (x : List SetImage).
    refusal_of x limit max (g.P.Disk.size mid) ≡ None
    → RunsMaking g.P.Disk (g.P.Disk.size mid) x limit max (done_making x (g.P.Disk.size mid))
    mid new c.make_of.result)
    found (c.make_of.ensures.made t)) none)

pub returns-clause-refused : goal.returns-clause-refused
returns-clause-refused g c = λ t set fits is fault refused.
    let old = c.args.port.now in
    let mid = c.hear_all.new.p in
    let new = c.make_of.new.port in
    let size = g.P.Disk.size old in
    let limit = c.args.limit in
    let max = c.args.max in
    let found : c.in-Ok-read_set.set ≡ set = same_set _ _ set c.in-Ok-read_set.set
    (c.deref.ensures.value ∙ c.in-Ok.ensures.bytes t) c.in-Ok-read_set.ensures.exact is in
    refused_after g.P.Disk g.met.P.Disk.only_now size (make_line fault) (make_status fault)
    old mid new c.make_of.result
    (c.hear_all.ensures.told t) (c.hear_all.ensures.seen t) (c.hear_all.ensures.crash t)
    (c.hear_all.ensures.time t)
    (subst
    (λ (n : ℕ).
    refusal_of set limit max n ≡ Some fault
    → RunsRefused g.P.Disk n (make_line fault) (make_status fault) mid new c.make_of.result)
    c.hear_all.ensures.size
    (subst
    (λ (x : List SetImage).
    refusal_of x limit max (g.P.Disk.size mid) ≡ Some fault
    → RunsRefused g.P.Disk (g.P.Disk.size mid) (make_line fault) (make_status fault) mid new
    c.make_of.result)
    found (c.make_of.ensures.refused t fault)) refused)

pub returns-clause-changes : goal.returns-clause-changes
returns-clause-changes g c = λ t set is.
    let old = c.args.port.now in
    let mid = c.hear_all.new.p in
    let new = c.make_of.new.port in
    let W = InSectors (IsOfMaking set c.args.max) in
    let found : c.in-Ok-read_set.set ≡ set = same_set _ _ set c.in-Ok-read_set.set
    (c.deref.ensures.value ∙ c.in-Ok.ensures.bytes t) c.in-Ok-read_set.ensures.exact is in
    changes_then g.P.Disk W old mid new
    (changes_hearing g.P.Disk W old mid c.hear_all.ensures.size c.hear_all.ensures.seen
    c.hear_all.ensures.crash c.hear_all.ensures.time)
    (subst (λ (x : List SetImage). Changes g.P.Disk (InSectors (IsOfMaking x c.args.max)) mid new)
    found (c.make_of.ensures.changes t))

pub returns-in-Err-clause-heard : goal.returns-in-Err-clause-heard
returns-in-Err-clause-heard g c = λ t.
    unheard_whole c.in-Err.fault (g.P.Disk.input_left c.args.port.now)
    (g.P.Disk.heard c.args.port.now) (g.P.Disk.heard c.hear_all.new.p) c.from.result c.from.ensures
    (λ long. c.in-Err.ensures.long t (ap Err long))
    (λ long. c.in-Err.ensures.over t (ap Err long))

pub returns-in-Err-read_set-clause-heard : goal.returns-in-Err-read_set-clause-heard
returns-in-Err-read_set-clause-heard g c = λ t port memory.
    heard_whole (g.P.Disk.input_left c.args.port.now) _ (g.P.Disk.heard c.args.port.now)
    (g.P.Disk.heard c.hear_all.new.p) (c.in-Ok.ensures.bytes t) c.in-Ok.ensures.fits
    (c.in-Ok.ensures.heard t)

pub returns-clause-heard : goal.returns-clause-heard
returns-clause-heard g c = λ t port memory.
    heard_whole (g.P.Disk.input_left c.args.port.now) _ (g.P.Disk.heard c.args.port.now)
    (g.P.Disk.heard c.make_of.new.port) (c.in-Ok.ensures.bytes t) c.in-Ok.ensures.fits
    (subst (λ (l : List Hearing). HearsToEnd (g.P.Disk.heard c.args.port.now) l)
    (sym (c.make_of.ensures.heard t)) (c.in-Ok.ensures.heard t))

pub returns-clause-within : goal.returns-clause-within
returns-clause-within g c = λ t.
    subst (λ (l : List Hearing). HearsWithin (g.P.Disk.heard c.args.port.now) l)
    (sym (c.make_of.ensures.heard t)) (c.hear_all.ensures.within t)

pub returns-in-Err-clause-unmade : goal.returns-in-Err-clause-unmade
returns-in-Err-clause-unmade g c = λ t none.
    ⊎_elim
    (λ none. input_opened c.in-Err.fault (sym c.from.ensures ∙ none))
    (λ refused. input_unrefused c.in-Err.fault (sym c.from.ensures ∙ refused))
    none

pub returns-in-Err-clause-no_set : goal.returns-in-Err-clause-no_set
returns-in-Err-clause-no_set g c = λ t bad.
    too_long refl
    (c.in-Err.ensures.long t (ap Err (input_long c.in-Err.fault (sym c.from.ensures ∙ bad))))

pub returns-in-Err-read_set-clause-unmade : goal.returns-in-Err-read_set-clause-unmade
returns-in-Err-read_set-clause-unmade g c = λ t none.
    ⊎_elim
    (λ none. set_opened c.in-Err-read_set.fault (sym c.from-in-Err-read_set.ensures ∙ none))
    (λ refused.
    set_unrefused c.in-Err-read_set.fault (sym c.from-in-Err-read_set.ensures ∙ refused))
    none

pub returns-in-Err-read_set-clause-no_set : goal.returns-in-Err-read_set-clause-no_set
returns-in-Err-read_set-clause-no_set g c = λ t bad.
    malformed c.in-Err-read_set.fault refl
    (set_read c.in-Err-read_set.fault _ _ (c.deref.ensures.value ∙ c.in-Ok.ensures.bytes t)
    c.in-Err-read_set.ensures.exact (sym c.from-in-Err-read_set.ensures ∙ bad))

pub returns-clause-unmade : goal.returns-clause-unmade
returns-clause-unmade g c = λ t none. (
  c.in-Ok-read_set.set,
  subst (λ (l : List ℕ). set_of l ≡ Ok c.in-Ok-read_set.set)
      (c.deref.ensures.value ∙ c.in-Ok.ensures.bytes t) c.in-Ok-read_set.ensures.exact,
  unmade_after g.P.Disk c.args.port.now c.hear_all.new.p c.in-Ok-read_set.set c.args.limit
      c.args.max c.make_of.new.cause c.hear_all.ensures.size (c.make_of.ensures.unmade none),
)

pub returns-in-Err-clause-small : goal.returns-in-Err-clause-small
returns-in-Err-clause-small g c = λ none. input_opened c.in-Err.fault (sym c.from.ensures ∙ none)

pub returns-in-Err-read_set-clause-small : goal.returns-in-Err-read_set-clause-small
returns-in-Err-read_set-clause-small g c = λ none.
    set_opened c.in-Err-read_set.fault (sym c.from-in-Err-read_set.ensures ∙ none)

pub returns-clause-small : goal.returns-clause-small
returns-clause-small g c = λ none.
    omega (arith, c.make_of.ensures.small none, c.hear_all.ensures.size)
