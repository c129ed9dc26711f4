use Rattle.std.proofs.Common.{◌-◌, ◌∙◌, ap, sym, subst, List, Option, None, Ok, arith}
use Rattle.std.proofs.Common.{length, replicate, length-append}
use Rattle.std.proofs.lemmas.List.{length-replicate}
use Rattle.vab_disk.specs.Disk.{Image}
use Rattle.vab_marks.specs.declared.status.PartStatus.{PartStatus}
use Rattle.vab_statuses.specs.Statuses.{AreFitting, NamesDiffer, statuses_of}
use Rattle.vab_statuses.specs.Answers.{TellsBad}
use Rattle.vab_statuses.proofs.StatusesLaws.{names_differ}
use Rattle.vab_statuses.proofs.UnderLaws.{under_ok, under_bad, differ_filled, fits_filled}
use Rattle.vab_statuses.proofs.reading.read_statuses.Goals as goal

pub returns-in-Ok-clause-ok : goal.returns-in-Ok-clause-ok
returns-in-Ok-clause-ok g c = λ t.
    let image : Image = g.D.Disk.seen c.args.d.now in
    let l : List (Option PartStatus) = c.in-Ok.statuses.items in
    under_ok c.args.version image l
    (ap (λ n. statuses_of n image) (sym c.partitions.ensures.is) ∙ c.in-Ok.ensures.ok t)
    (c.in-Ok.ensures.all ∙ c.partitions.ensures.is)
    ∙ ap (λ (k : List (Option PartStatus)). Ok k) (sym c.fill.ensures)

pub returns-in-Ok-clause-all : goal.returns-in-Ok-clause-all
returns-in-Ok-clause-all g c =
    let l : List (Option PartStatus) = c.in-Ok.statuses.items in
    ap length c.fill.ensures
    ∙ length-append l (replicate (64 - length l) None)
    ∙ omega (
      arith,
      c.in-Ok.ensures.all,
      c.partitions.ensures.most,
      length-replicate {A = Option PartStatus} (64 - length l) None,
    )

pub returns-in-Ok-clause-fits : goal.returns-in-Ok-clause-fits
returns-in-Ok-clause-fits g c =
    subst AreFitting (sym c.fill.ensures)
    (fits_filled _ c.in-Ok.statuses.items c.in-Ok.ensures.fits)

pub returns-in-Ok-clause-differ : goal.returns-in-Ok-clause-differ
returns-in-Ok-clause-differ g c =
    subst NamesDiffer (sym c.fill.ensures)
    (differ_filled _ c.in-Ok.statuses.items c.in-Ok.ensures.differ)

pub returns-in-Ok-clause-names : goal.returns-in-Ok-clause-names
returns-in-Ok-clause-names g c =
    names_differ c.fill.new.statuses.items
    (subst NamesDiffer (sym c.fill.ensures)
    (differ_filled _ c.in-Ok.statuses.items c.in-Ok.ensures.differ))

pub returns-in-Err-clause-bad : goal.returns-in-Err-clause-bad
returns-in-Err-clause-bad g c = λ t.
    let image : Image = g.D.Disk.seen c.args.d.now in
    under_bad c.args.version image c.in-Err.fault
    (subst (λ n. TellsBad (statuses_of n image) c.in-Err.fault) c.partitions.ensures.is
    (c.in-Err.ensures.bad t))
