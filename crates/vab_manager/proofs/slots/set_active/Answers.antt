use Rattle.std.proofs.Common.{◌≡◌, ◌∙◌, ℕ, true, false, refl, sym, ap, subst}
use Rattle.std.specs.Prelude.{◌==◌, if◌then◌else◌, is_some}
use Rattle.vab_disk.proofs.CallLaws.{reads_none}
use Rattle.vab_bootctl.specs.declared.slots.Control.{Control}
use Rattle.vab_model.specs.declared.command.Reply.TheVariants as replies
use Rattle.vab_model.specs.declared.command.Refusal.TheVariants.{NoImages}
use Rattle.vab_model.specs.Commands.{SetActive}
use Rattle.vab_device.specs.Kept.{has_slot}
use Rattle.vab_device.specs.Phases.{may_run}
use Rattle.vab_manager.specs.Controls.{IsOfCommand, GivesControl, WritesControl}
use Rattle.vab_manager.proofs.BootLaws.{activated_runs}
use Rattle.vab_bootctl.proofs.BootLaws.{activated_current}
use Rattle.vab_device.proofs.DoesLaws.{does_nothing}
use Rattle.vab_manager.proofs.CommandLaws.{runs_own}
use Rattle.vab_manager.proofs.EffectLaws.{activated_effect, refused_effect, is_some_at}
use Rattle.vab_manager.proofs.slots.set_active.Goals as goal

pub returns-then-not-has_images : goal.returns-then-not-has_images
returns-then-not-has_images g c = λ staged.
    let d = c.args.device in
    does_nothing g.D.Disk d staged (SetActive c.args.slot)
    (IsOfCommand d (g.D.Disk.seen c.args.d.now 4) (SetActive c.args.slot)) false
    (replies.Refused NoImages) c.args.d.now c.args.d.now c.requires.kept c.requires.represents
    (λ t. refused_effect d (g.D.Disk.seen c.args.d.now) staged c.args.slot
    (sym c.has_images.ensures ∙ c.if-not-has_images.true))
    (reads_none g.D.Disk c.args.d.now) refl

pub change-requires-clause-current : goal.change-requires-clause-current
change-requires-clause-current g c =
    let d = c.args.device in
    ap (λ (n : ℕ). has_slot d.mark.phase d.mark.slot n)
    (ap (λ (k : Control). k.current) c.activated_at-control.ensures.value
    ∙ activated_current d.control c.args.slot)
    ∙ c.requires.kept.current

pub change-requires-clause-runs : goal.change-requires-clause-runs
change-requires-clause-runs g c = λ t.
    let d = c.args.device in
    ap (λ (k : Control). may_run d.mark.slot k) c.activated_at-control.ensures.value
    ∙ activated_runs d.control c.args.slot d.mark.slot
    (runs_own d _ _ (c.requires.represents t) c.requires.kept.slot)

pub returns : goal.returns
returns g c = λ staged.
    let d = c.args.device in
    let seen = g.D.Disk.seen c.args.d.now in
    let has : is_some (if c.args.slot == 0 then d.a else d.b) ≡ true =
    sym c.has_images.ensures ∙ c.if-not-has_images.false in
    let is = sym c.activated_at-control.ensures.value in
    c.change.ensures staged (SetActive c.args.slot)
    (λ t.
    subst (λ (k : Control). GivesControl d seen staged (SetActive c.args.slot) replies.Done k) is
    (activated_effect d seen staged c.args.slot has))
    (subst (λ (k : Control). WritesControl d (seen 4) (SetActive c.args.slot) k) is
    (λ s b w. (sym (is_some_at d.a d.b c.args.slot) ∙ has, w)))
