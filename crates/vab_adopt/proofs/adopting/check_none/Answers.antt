use Rattle.std.proofs.Common.{sym, subst}
use Rattle.std.proofs.lemmas.Result.{on_ok_weaker, IfErr-weaker}
use Rattle.vab_adopt.specs.declared.fault.AdoptFault.{AdoptFault}
use Rattle.vab_adopt.specs.Adopted.{adopt_refusal}
use Rattle.vab_adopt.specs.Adopting.{IsOfDisk, Says}
use Rattle.vab_adopt.proofs.RefusalLaws.{already_refused, not_disk}
use Rattle.vab_adopt.proofs.adopting.check_none.Goals as goal

pub returns-in-Ok-clause-exact : goal.returns-in-Ok-clause-exact
returns-in-Ok-clause-exact g c = λ t slot.
    already_refused (g.D.Disk.size c.args.d.now) slot (g.D.Disk.seen c.args.d.now) _
    (c.in-Ok.ensures.device t)

pub returns-in-Err-clause-none : goal.returns-in-Err-clause-none
returns-in-Err-clause-none g c = λ t.
    on_ok_weaker c.none_of.result (λ kind. (c.in-Err.fault, c.in-Err.ensures.fault t kind))
    c.none_of.ensures.contents

pub returns-in-Err-clause-exact : goal.returns-in-Err-clause-exact
returns-in-Err-clause-exact g c = λ t slot.
    let said = adopt_refusal (g.D.Disk.size c.args.d.now) slot (g.D.Disk.seen c.args.d.now) in
    IfErr-weaker c.none_of.result _ _
    (λ f is.
    subst (λ (x : AdoptFault). Says x said) (sym is.0) (λ kind. absurd (is.1 kind)))
    c.none_of.ensures.others

pub returns-in-Err-clause-counts : goal.returns-in-Err-clause-counts
returns-in-Err-clause-counts g c = record {
  steady =
      on_ok_weaker c.none_of.result
      (λ kind. c.in-Err.ensures.counts.others (not_disk c.in-Err.fault kind))
      c.none_of.ensures.contents;
  others =
      IfErr-weaker c.none_of.result _ _
      (λ f is no.
      c.in-Err.ensures.counts.others (λ disk. no (subst IsOfDisk (sym is.0) disk)))
      c.none_of.ensures.others;
  cause =
      IfErr-weaker c.none_of.result _ _
      (λ f is disk. c.in-Err.ensures.counts.cause (subst IsOfDisk is.0 disk))
      c.none_of.ensures.others;
}
