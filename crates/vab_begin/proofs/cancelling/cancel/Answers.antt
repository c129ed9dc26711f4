use Rattle.std.proofs.Common.{◌≡◌, ◌∙◌, inl, inr, ℕ, refl, sym, false}
use Rattle.std.specs.Prelude.{◌==◌}
use Rattle.std.proofs.lemmas.Bool.{cases_Bool, eqb-true}
use Rattle.vab_disk.proofs.CallLaws.{reads_none}
use Rattle.vab_marks.specs.declared.mark.MarkPhase.TheVariants as marks
use Rattle.vab_model.specs.declared.command.Reply.TheVariants as replies
use Rattle.vab_model.specs.declared.command.Refusal.TheVariants as refusals
use Rattle.vab_model.specs.Commands.{Cancel}
use Rattle.vab_begin.specs.Writes.{IsOfCancelled}
use Rattle.vab_device.proofs.DoesLaws.{does_nothing}
use Rattle.vab_device.proofs.PhaseCases.{idle_of, staged_of, merging_of, unplanned_of}
use Rattle.vab_begin.proofs.CancelLaws.{cancel_refused, cancel_running, cancel_merging}
use Rattle.vab_begin.proofs.cancelling.cancel.Goals as goal

pub returns-in-Idle : goal.returns-in-Idle
returns-in-Idle g c = λ staged.
    let d = c.args.device in
    let old = c.args.d.now in
    let size = g.D.Disk.size old in
    let phase = idle_of d size c.requires.kept c.in-Idle.ensures in
    does_nothing g.D.Disk d staged Cancel (IsOfCancelled d) false
    (replies.Refused refusals.NothingToCancel) old old c.requires.kept c.requires.represents
    (λ t. cancel_refused d (g.D.Disk.seen old) staged
    (unplanned_of d size marks.Idle c.requires.kept refl phase) phase)
    (reads_none g.D.Disk old) refl

-- another slot is no slot of the mark
other_current : (current source n slot : ℕ)
    → n ≡ current
    → source ≡ slot
    → (n ≡ source → ⊥)
    → (current == slot) ≡ false
other_current current source n slot at of not = elim (cases_Bool (current == slot)) [
  | inl same ↦ absurd (not (at ∙ eqb-true current slot same ∙ sym of))
  | inr other ↦ other
]

pub returns-else-current-source : goal.returns-else-current-source
returns-else-current-source g c = λ staged.
    let d = c.args.device in
    let old = c.args.d.now in
    let size = g.D.Disk.size old in
    let phase = staged_of d c.in-Staged.source c.in-Staged.ensures in
    does_nothing g.D.Disk d staged Cancel (IsOfCancelled d) false
    (replies.Refused refusals.RunningTarget) old old c.requires.kept c.requires.represents
    (λ t. cancel_running d (g.D.Disk.seen old) staged
    (unplanned_of d size marks.Staged c.requires.kept refl phase.0) phase.0
    (other_current d.control.current c.in-Staged.source c.current.result d.mark.slot
    c.current.ensures phase.1 c.if-current-source.false))
    (reads_none g.D.Disk old) refl

pub returns-in-Merging : goal.returns-in-Merging
returns-in-Merging g c = λ staged.
    let d = c.args.device in
    let old = c.args.d.now in
    let size = g.D.Disk.size old in
    let phase = merging_of d c.in-Merging.field-0 c.in-Merging.ensures in
    does_nothing g.D.Disk d staged Cancel (IsOfCancelled d) false
    (replies.Refused refusals.Merging) old old c.requires.kept c.requires.represents
    (λ t. cancel_merging d (g.D.Disk.seen old) staged
    (unplanned_of d size marks.Merging c.requires.kept refl phase) phase)
    (reads_none g.D.Disk old) refl
