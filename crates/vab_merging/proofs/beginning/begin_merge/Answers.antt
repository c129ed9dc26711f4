use Rattle.std.proofs.Common.{◌≡◌, ◌∙◌, inl, inr, ℕ, refl, sym, ap, false, eq-eqb}
use Rattle.std.specs.Prelude.{◌==◌}
use Rattle.std.proofs.lemmas.Bool.{cases_Bool, eqb-true}
use Rattle.vab_disk.proofs.CallLaws.{reads_none}
use Rattle.vab_bootctl.specs.Boot.{info_at}
use Rattle.vab_marks.specs.declared.mark.MarkPhase.TheVariants as marks
use Rattle.vab_model.specs.declared.command.Reply.TheVariants as replies
use Rattle.vab_model.specs.declared.command.Refusal.TheVariants as refusals
use Rattle.vab_model.specs.Commands.{BeginMerge}
use Rattle.vab_layout.specs.Slots.{other_slot}
use Rattle.vab_device.specs.Kept.{has_both}
use Rattle.vab_device.proofs.DoesLaws.{does_nothing}
use Rattle.vab_merging.specs.GateWrites.{IsOfMergeBegun}
use Rattle.vab_device.proofs.PhaseCases.{idle_of, installing_of, staged_of, merging_of}
use Rattle.vab_merging.proofs.SlotLaws.{both_of}
use Rattle.vab_device.proofs.PhaseCases.{planned_of, unplanned_of}
use Rattle.vab_merging.proofs.GateSteps.{refused_idle, refused_installing, refused_merging}
use Rattle.vab_merging.proofs.GateSteps.{refused_running, refused_successful}
use Rattle.vab_merging.proofs.beginning.begin_merge.Goals as goal

pub returns-in-Idle : goal.returns-in-Idle
returns-in-Idle g c = λ staged.
    let d = c.args.device in
    let old = c.args.d.now in
    let size = g.D.Disk.size old in
    let phase = idle_of d size c.requires.kept c.in-Idle.ensures in
    does_nothing g.D.Disk d staged BeginMerge (IsOfMergeBegun d) false
    (replies.Refused refusals.NotStaged) old old c.requires.kept c.requires.represents
    (λ t. refused_idle d (g.D.Disk.seen old) staged
    (unplanned_of d size marks.Idle c.requires.kept refl phase) phase)
    (reads_none g.D.Disk old) refl

pub returns-in-Installing : goal.returns-in-Installing
returns-in-Installing g c = λ staged.
    let d = c.args.device in
    let old = c.args.d.now in
    let size = g.D.Disk.size old in
    let phase = installing_of d c.in-Installing.field-0 c.in-Installing.ensures in
    let plan = planned_of d size c.requires.kept phase in
    does_nothing g.D.Disk d staged BeginMerge (IsOfMergeBegun d) false
    (replies.Refused refusals.NotStaged) old old c.requires.kept c.requires.represents
    (λ t. refused_installing d (g.D.Disk.seen old) staged plan.0 plan.1)
    (reads_none g.D.Disk old) refl

pub returns-in-Merging : goal.returns-in-Merging
returns-in-Merging g c = λ staged.
    let d = c.args.device in
    let old = c.args.d.now in
    let size = g.D.Disk.size old in
    let phase = merging_of d c.in-Merging.field-0 c.in-Merging.ensures in
    does_nothing g.D.Disk d staged BeginMerge (IsOfMergeBegun d) false
    (replies.Refused refusals.NotStaged) old old c.requires.kept c.requires.represents
    (λ t. refused_merging d (g.D.Disk.seen old) staged
    (unplanned_of d size marks.Merging c.requires.kept refl phase) phase)
    (reads_none g.D.Disk old) refl

pub returns-then-current-source : goal.returns-then-current-source
returns-then-current-source g c = λ staged.
    let d = c.args.device in
    let old = c.args.d.now in
    let size = g.D.Disk.size old in
    let phase = staged_of d c.in-Staged.source c.in-Staged.ensures in
    does_nothing g.D.Disk d staged BeginMerge (IsOfMergeBegun d) false
    (replies.Refused refusals.NotRunningTarget) old old c.requires.kept c.requires.represents
    (λ t. refused_running d (g.D.Disk.seen old) staged
    (unplanned_of d size marks.Staged c.requires.kept refl phase.0) phase.0
    (eq-eqb d.control.current d.mark.slot
    (sym c.current.ensures ∙ c.if-current-source.true ∙ phase.1)))
    (reads_none g.D.Disk old) refl

-- another slot is no slot of the mark
other_current : (current source n slot : ℕ)
    → n ≡ current
    → source ≡ slot
    → (n ≡ source → ⊥)
    → (current == slot) ≡ false
other_current current source n slot at of not = elim (cases_Bool (current == slot)) [
  | inl same ↦ absurd (not (at ∙ eqb-true current slot same ∙ sym of))
  | inr other ↦ other
]

pub returns-else-is_successful : goal.returns-else-is_successful
returns-else-is_successful g c = λ staged.
    let d = c.args.device in
    let old = c.args.d.now in
    let size = g.D.Disk.size old in
    let phase = staged_of d c.in-Staged.source c.in-Staged.ensures in
    let both = both_of d size c.requires.kept (ap has_both phase.0) in
    let not_yet : (info_at d.control (other_slot d.mark.slot)).successful ≡ false =
    ap (λ (n : ℕ). (info_at d.control (other_slot n)).successful) (sym phase.1)
    ∙ sym c.is_successful.ensures ∙ c.if-is_successful.false in
    does_nothing g.D.Disk d staged BeginMerge (IsOfMergeBegun d) false
    (replies.Refused refusals.NotSuccessful) old old c.requires.kept c.requires.represents
    (λ t. refused_successful d (g.D.Disk.seen old) staged both.0 both.1
    (unplanned_of d size marks.Staged c.requires.kept refl phase.0) phase.0 both.2 both.3
    (other_current d.control.current c.in-Staged.source c.current.result d.mark.slot
    c.current.ensures phase.1 c.if-current-source.false) not_yet)
    (reads_none g.D.Disk old) refl
