use Rattle.std.proofs.Common.{◌≡◌, ◌∙◌, inl, inr, Ok, refl, sym, ap, subst}
use Rattle.std.specs.Prelude.{IfSome, OnOk}
use Rattle.vab_disk.proofs.Moments.{adds_wider}
use Rattle.vab_disk.proofs.CallLaws.{touches_wider}
use Rattle.vab_marks.specs.declared.mark.MarkPhase.TheVariants as marks
use Rattle.vab_marks.specs.Mark.{mark_of, rephased}
use Rattle.vab_device.specs.declared.device.Device.{Device}
use Rattle.vab_tidy.specs.Kept.{device_after}
use Rattle.vab_tidy.specs.Stays.{Stays}
use Rattle.vab_tidy.specs.Writes.{IsOfTidyings}
use Rattle.vab_tidy.proofs.StaysLaws.{stays_then, touches_if}
use Rattle.vab_recover.specs.Opened.{with_tables}
use Rattle.vab_recover.specs.Opening.{IsOfMending, IsOfOpening, IsTidied}
use Rattle.vab_disk.specs.Calls.{OnlyReads}
use Rattle.vab_recover.proofs.MendLaws.{of_tidyings}
use Rattle.vab_recover.proofs.MendLaws.{tidied_of, none_due}
use Rattle.vab_recover.proofs.OpenLaws.{on_ok}
use Rattle.vab_recover.proofs.repairs.mend.Goals as goal

pub returns-in-Err-clause-stays : goal.returns-in-Err-clause-stays
returns-in-Err-clause-stays g c = record {
  is = tt;
  kept = tt;
  represents = λ t. tt;
  same = λ t. tt;
  settled = λ t rest. tt;
  quiet = c.mend_copies.ensures.quiet;
  touches =
      touches_if g.D.Disk
      (IsOfOpening (g.D.Disk.size c.args.d.now) (g.D.Disk.seen c.args.d.now))
      c.args.d.now c.mend_copies.new.d c.mend_copies.ensures.quiet
      (λ t.
      touches_wider g.D.Disk _ _ _ _ (c.mend_copies.ensures.touches t) (λ s b w. inl w));
  time = c.mend_copies.ensures.time;
  order = λ t rest has.
      adds_wider g.D.Disk.moment g.D.Disk.outcomes c.args.d.now c.mend_copies.new.d _ _
      (c.mend_copies.ensures.order t rest)
      (λ o e. inl (e ∙ has));
  faults = record { steady = tt; cause = c.in-Err.ensures.faults.cause };
}

pub returns-in-Err-clause-healthy : goal.returns-in-Err-clause-healthy
returns-in-Err-clause-healthy g c = λ t hold version none.
    c.mend_copies.ensures.healthy t hold version

pub returns-in-Ok-clause-stays : goal.returns-in-Ok-clause-stays
returns-in-Ok-clause-stays g c =
    let size = g.D.Disk.size c.args.d.now in
    let seen = g.D.Disk.seen c.args.d.now in
    let kept = c.args.kept in
    let x = c.args.tidying in
    let dev = with_tables c.args.tables kept in
    let old = c.args.d.now in
    let mid = c.mend_copies.new.d in
    let new = c.tidy_if_due.new.d in
    let all = c.mend_copies.ensures in
    let is = c.in-Ok.ensures in
    let first : Stays g.D.Disk (IsOfMending size seen) dev old mid (Ok dev) = record {
      is = refl;
      kept = c.requires.is;
      represents = is.represents;
      same = is.same;
      settled = is.settled;
      quiet = all.quiet;
      touches = touches_if g.D.Disk (IsOfMending size seen) old mid all.quiet all.touches;
      time = all.time;
      order = λ t rest has.
          adds_wider g.D.Disk.moment g.D.Disk.outcomes old mid _ _
          (all.order t rest)
          (λ o e. inl (e ∙ has));
      faults = record { steady = is.faults.steady; cause = tt };
    } in
    let later : Stays g.D.Disk (IsOfTidyings dev x) (device_after x dev) mid new
    c.tidy_if_due.result =
    subst
    (λ (k : Device).
    Stays g.D.Disk (IsOfTidyings k x) (device_after x k) mid new c.tidy_if_due.result)
    c.with_tables.ensures c.tidy_if_due.ensures.stays in
    stays_then g.D.Disk (IsOfMending size seen) (IsOfTidyings dev x) (IsOfOpening size seen) dev dev
    (device_after x dev) old mid new c.tidy_if_due.result first later
    (λ t s b w. inl w)
    (λ t s b w.
    inr (of_tidyings kept c.args.tables size seen c.requires.is.slot (c.requires.read t) x
    (c.requires.due t) c.requires.tidying s b w))
    (λ t has. is.mark t ∙ has)
    (λ t rest has.
    adds_wider g.D.Disk.moment g.D.Disk.outcomes old mid _ _
    (all.order t rest)
    (λ o e. inl (e ∙ has)))

pub returns-in-Ok-clause-tidied : goal.returns-in-Ok-clause-tidied
returns-in-Ok-clause-tidied g c = λ t.
    let size = g.D.Disk.size c.args.d.now in
    let seen = g.D.Disk.seen c.args.d.now in
    let kept = c.args.kept in
    let x = c.args.tidying in
    let mid = g.D.Disk.seen c.mend_copies.new.d in
    let new = g.D.Disk.seen c.tidy_if_due.new.d in
    let r = c.tidy_if_due.result in
    on_ok (IfSome x (λ k. mark_of (new 2048) ≡ Ok (rephased marks.Idle kept.mark)))
    (IsTidied (device_after x (with_tables c.args.tables kept)) seen new) r
    (λ mark.
    tidied_of kept c.args.tables size seen c.requires.is.slot (c.requires.read t) x mid new
    (c.requires.due t) c.requires.tidying
    (c.in-Ok.ensures.mark t)
    mark
    (λ none. ap g.D.Disk.seen (c.tidy_if_due.ensures.still none)))
    (subst
    (λ (k : Device).
    OnOk r (IfSome x (λ y. mark_of (new 2048) ≡ Ok (rephased marks.Idle k.mark))))
    c.with_tables.ensures (c.tidy_if_due.ensures.mark t))

pub returns-in-Ok-clause-healthy : goal.returns-in-Ok-clause-healthy
returns-in-Ok-clause-healthy g c = λ t hold version none.
    subst (λ x. OnlyReads g.D.Disk c.args.d.now x)
    (sym (c.tidy_if_due.ensures.still
    (none_due c.args.kept.mark c.args.tidying (g.D.Disk.seen c.args.d.now) (c.requires.due t)
    none)))
    (c.in-Ok.ensures.healthy t hold version)
