use Rattle.std.proofs.Common.{◌≡◌, ◌∙◌, ℕ, List, Ok, refl, sym, subst, true}
use Rattle.vab_disk.specs.Disk.{Adds, LeavesEither, IsAt, set_sector}
use Rattle.vab_disk.specs.Calls.{InSectors, Touches}
use Rattle.vab_disk.proofs.CallLaws.{failed_then}
use Rattle.vab_marks.specs.declared.mark.UpdateMark.{UpdateMark}
use Rattle.vab_marks.specs.Mark.{mark_of, mark_spelling, overlaid_by}
use Rattle.vab_store.specs.Layout.{InFirst}
use Rattle.vab_model.specs.declared.command.Reply.TheVariants as replies
use Rattle.vab_model.specs.Commands.{Overlay}
use Rattle.vab_device.specs.declared.device.Device.{Device}
use Rattle.vab_device.specs.Does.{Does}
use Rattle.vab_device.proofs.DoesLaws.{fails_dead, fails_gate, does_gate, step_follows}
use Rattle.vab_overlaying.specs.Begun.{over_device, IsOfHead}
use Rattle.vab_overlaying.proofs.KeptLaws.{over_kept}
use Rattle.vab_overlaying.proofs.OverLaws.{over_long, over_on_disk, over_apart, in_head, over_dead}
use Rattle.vab_overlaying.proofs.StepLaws.{over_step}
use Rattle.vab_overlaying.proofs.beginning.begin_over.Goals as goal

pub put_head-requires-clause-two : goal.put_head-requires-clause-two
put_head-requires-clause-two g c =
    over_long c.args.device (g.D.Disk.size c.args.d.now) c.args.part c.args.store c.requires.kept
    c.requires.over

pub put_head-requires-clause-on_disk : goal.put_head-requires-clause-on_disk
put_head-requires-clause-on_disk g c =
    over_on_disk c.args.device (g.D.Disk.size c.args.d.now) c.args.part c.args.store
    c.requires.kept c.requires.over

pub put_head-requires-clause-apart : goal.put_head-requires-clause-apart
put_head-requires-clause-apart g c = λ t.
    over_apart c.args.device (g.D.Disk.size c.args.d.now) c.args.part c.args.store
    c.requires.kept c.requires.over

pub returns-in-Err-clause-does : goal.returns-in-Err-clause-does
returns-in-Err-clause-does g c = λ staged name size begins.
    let d = c.args.device in
    let old = c.args.d.now in
    let mid = c.put_head.new.d in
    let long = g.D.Disk.size old in
    let store = c.args.store in
    let V : ℕ → List ℕ → Type 0 = InSectors (InFirst store 2) in
    fails_dead g.D.Disk d staged (Overlay name size) (IsOfHead d store) old mid V
    (λ t image but.
    over_dead d long c.args.part store c.requires.kept c.requires.over (g.D.Disk.seen old)
    image (c.requires.represents t) but)
    c.put_head.ensures.touches
    (λ t. in_head d long c.args.part store c.requires.kept c.requires.over)
    _ (λ t. step_follows (begins t)) c.in-Err.ensures.faults.cause

pub returns-in-Err-put_mark-clause-does : goal.returns-in-Err-put_mark-clause-does
returns-in-Err-put_mark-clause-does g c = λ staged name size begins.
    let d = c.args.device in
    let old = c.args.d.now in
    let mid = c.put_head.new.d in
    let new = c.put_mark.new.d in
    let long = g.D.Disk.size old in
    let store = c.args.store in
    let V : ℕ → List ℕ → Type 0 = InSectors (InFirst store 2) in
    let mark = mark_spelling (overlaid_by true d.mark) in
    let step = λ (t : g.D.Disk.is_modelled).
    over_step d long (g.D.Disk.seen old) (g.D.Disk.seen mid) c.args.part store staged
    (Overlay name size) c.requires.kept (c.requires.represents t) c.requires.over
    (c.put_head.ensures.touches.seen t) (c.in-Ok.ensures.scanned t) (c.in-Ok.ensures.clean t)
    (subst (λ (m : UpdateMark). mark_of (mark_spelling m) ≡ Ok m) c.with_overlay-mark.ensures
    c.put_mark.ensures.read)
    (begins t) in
    fails_gate g.D.Disk d staged (Overlay name size) (IsOfHead d store) old mid V
    (λ t image but.
    over_dead d long c.args.part store c.requires.kept c.requires.over (g.D.Disk.seen old)
    image (c.requires.represents t) but)
    c.put_head.ensures.touches
    (λ t. in_head d long c.args.part store c.requires.kept c.requires.over)
    new (over_device d c.args.part store) replies.Done 2048 mark
    (λ t. (step t).effect) (λ t. (step t).represents)
    (λ t rest.
    subst
    (λ (m : UpdateMark).
    Adds g.D.Disk.moment g.D.Disk.outcomes mid new
    (LeavesEither (g.D.Disk.told mid) (g.D.Disk.seen mid)
    (set_sector (g.D.Disk.seen mid) 2048 (mark_spelling m))))
    c.with_overlay-mark.ensures (c.put_mark.ensures.gate t (c.in-Ok.ensures.settled t)))
    (subst (λ (m : UpdateMark). Touches g.D.Disk (IsAt 2048 (mark_spelling m)) mid new)
    c.with_overlay-mark.ensures c.put_mark.ensures.touches)
    (λ s b at. IsOfHead.of_mark at)
    _
    (failed_then _ _ _ c.in-Ok.ensures.faults.steady c.in-Err-put_mark.ensures.faults.cause)

pub returns-in-Ok-put_mark-clause-does : goal.returns-in-Ok-put_mark-clause-does
returns-in-Ok-put_mark-clause-does g c = λ staged name size begins.
    let d = c.args.device in
    let old = c.args.d.now in
    let mid = c.put_head.new.d in
    let new = c.put_mark.new.d in
    let long = g.D.Disk.size old in
    let store = c.args.store in
    let V : ℕ → List ℕ → Type 0 = InSectors (InFirst store 2) in
    let mark = mark_spelling (overlaid_by true d.mark) in
    let step = λ (t : g.D.Disk.is_modelled).
    over_step d long (g.D.Disk.seen old) (g.D.Disk.seen mid) c.args.part store staged
    (Overlay name size) c.requires.kept (c.requires.represents t) c.requires.over
    (c.put_head.ensures.touches.seen t) (c.in-Ok.ensures.scanned t) (c.in-Ok.ensures.clean t)
    (subst (λ (m : UpdateMark). mark_of (mark_spelling m) ≡ Ok m) c.with_overlay-mark.ensures
    c.put_mark.ensures.read)
    (begins t) in
    subst
    (λ (k : Device).
    Does g.D.Disk d staged (Overlay name size) (IsOfHead d store) old new
    (Ok (k, replies.Done)))
    (sym c.overlaid.ensures)
    (does_gate g.D.Disk d staged (Overlay name size) (IsOfHead d store) old mid V
    (λ t image but.
    over_dead d long c.args.part store c.requires.kept c.requires.over (g.D.Disk.seen old)
    image (c.requires.represents t) but)
    c.put_head.ensures.touches
    (λ t. in_head d long c.args.part store c.requires.kept c.requires.over)
    new (over_device d c.args.part store) replies.Done 2048 mark
    (λ t. (step t).effect) (λ t. (step t).represents)
    (λ t rest.
    subst
    (λ (m : UpdateMark).
    Adds g.D.Disk.moment g.D.Disk.outcomes mid new
    (LeavesEither (g.D.Disk.told mid) (g.D.Disk.seen mid)
    (set_sector (g.D.Disk.seen mid) 2048 (mark_spelling m))))
    c.with_overlay-mark.ensures (c.put_mark.ensures.gate t (c.in-Ok.ensures.settled t)))
    (subst (λ (m : UpdateMark). Touches g.D.Disk (IsAt 2048 (mark_spelling m)) mid new)
    c.with_overlay-mark.ensures c.put_mark.ensures.touches)
    (λ s b at. IsOfHead.of_mark at)
    (over_kept d long c.args.part store c.requires.kept c.requires.over)
    (record { geometry = refl; slot = refl; parts = refl })
    (subst
    (λ (m : UpdateMark).
    g.D.Disk.is_modelled
    → g.D.Disk.seen new ≡ set_sector (g.D.Disk.seen mid) 2048 (mark_spelling m))
    c.with_overlay-mark.ensures c.in-Ok-put_mark.ensures.written)
    c.in-Ok-put_mark.ensures.settled
    (c.in-Ok-put_mark.ensures.faults.steady ∙ c.in-Ok.ensures.faults.steady))
