use Rattle.std.proofs.Common.{◌≡◌, List, Result, Ok, ap, subst, sym, ◌∙◌, arith}
use Rattle.std.proofs.lemmas.Result.{err_from_is_err_and}
use Rattle.vab_set.specs.declared.set.SetImage.{SetImage}
use Rattle.vab_set.specs.declared.fault.SetFault.{SetFault}
use Rattle.vab_set.specs.Spelling.{IsSet, set_text}
use Rattle.vab_set.proofs.SetLaws.{set_found, set_again}
use Rattle.vab_set.specs.Reading.{Fails, set_of}
use Rattle.vab_set.proofs.reading.read_set.Goals as goal

pub returns-in_err-read_all-clause-only : goal.returns-in_err-read_all-clause-only
returns-in_err-read_all-clause-only c = λ s is e.
    let p = err_from_is_err_and c.from_residual.result c.from_residual.ensures.1 in
    let fault : SetFault = c.in_err-read_all.field-0.0 in
    let failed : Fails fault (set_of c.args.bytes.now) = c.in_err-read_all.ensures in
    rw (p.1, p.2) (subst (λ (x : Result (List SetImage) SetFault). Fails fault x)
    (ap set_of e ∙ set_again s is) failed)

pub returns-clause-found : goal.returns-clause-found
returns-clause-found c = let q = c.in_ok-read_all.ensures in let w = c.from_vec.ensures in
    subst (λ (s : List SetImage). IsSet s × (c.args.bytes.now ≡ set_text s)) (sym w)
    (set_found c.args.bytes.now _ (λ i. omega (arith, c.type_inv.bytes i)) q)

pub returns-clause-only : goal.returns-clause-only
returns-clause-only c = λ s is e. let q = c.in_ok-read_all.ensures in sym (set_again s is)
    ∙ ap set_of (sym e) ∙ q ∙ ap (λ (v : List SetImage). Ok v) (sym c.from_vec.ensures)
