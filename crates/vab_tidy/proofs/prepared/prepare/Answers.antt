use Rattle.std.proofs.Common.{◌≡◌, ◌∙◌, true, false, sym, ap}
use Rattle.vab_marks.specs.declared.mark.UpdateMark.{UpdateMark}
use Rattle.vab_marks.specs.Mark.{mark_of}
use Rattle.vab_marks.specs.Mark.{is_idle}
use Rattle.vab_tidy.specs.Tidied.{says_completed}
use Rattle.vab_tidy.proofs.MarkLaws.{completed_is, says_of}
use Rattle.vab_tidy.proofs.prepared.prepare.Goals as goal

pub returns-then-not-is_idle-clause-due : goal.returns-then-not-is_idle-clause-due
returns-then-not-is_idle-clause-due g c = λ t k is.
    let same = completed_is k c.args.mark.now (g.D.Disk.seen c.args.d.now) (c.requires.mark t)
    is in
    let idle : true ≡ is_idle c.args.mark.now.phase =
    sym (ap (λ (m : UpdateMark). is_idle m.phase) same) in
    let none : true ≡ false =
    idle ∙ sym c.is_idle.ensures ∙ c.if-not-is_idle.true in
    cc

pub returns-then-mark-clause-due : goal.returns-then-mark-clause-due
returns-then-mark-clause-due g c = λ t k is.
    let same = completed_is k c.args.mark.now (g.D.Disk.seen c.args.d.now) (c.requires.mark t)
    is in
    let none : true ≡ false =
    sym c.if-mark.true ∙ ap (λ (m : UpdateMark). m.overlaid) same in
    cc

pub returns-in-Ok-clause-due : goal.returns-in-Ok-clause-due
returns-in-Ok-clause-due g c = λ t.
    let said : says_completed (mark_of (g.D.Disk.seen c.args.d.now 2048)) ≡ true =
    sym (c.in-Ok-true.ensures.is t) ∙ c.in-Ok-true.field-0-test in
    says_of c.args.mark.now (g.D.Disk.seen c.args.d.now) (c.requires.mark t) said
